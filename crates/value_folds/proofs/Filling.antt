-- Filling a list of entries of any type, place by place. Assumes nothing.
use mathlib.Core.Path.{◌≡◌, ◌∙◌}
use mathlib.Core.List.{List}
use Prim.Native.Nat.{ℕ, ◌+◌, ◌≤◌, ◌<◌}
use native.Mathlib.Omega.{arith}
use lib.ListN.{length, get_or, set, replicate, length-set, length-replicate}
use Rattle.base.proofs.List.{each_next}

-- There are n entries, and those below place i are what f says.
pub record Filling {X : Type 0} (d : X) (n i : ℕ) (f : ℕ → X) (out : List X) : Type 0 where
  pub within : i ≤ n
  pub long : length out ≡ n
  pub done : (j : ℕ) → j < i → get_or out j d ≡ f j

-- None is filled at the start.
pub fill_none : {X : Type 0} (d : X) (n : ℕ) (f : ℕ → X) → Filling d n 0 f (replicate n d)
fill_none d n f = record { within = omega arith; long = length-replicate n d; done = λ j l. absurd (omega arith) }

module _ {X : Type 0} (d : X) (n i : ℕ) (f : ℕ → X) (out : List X) (h : Filling d n i f out) where
  -- One more is stored.
  pub fill_one : (v : X) → i < n → v ≡ f i → Filling d n (i + 1) f (set out i v)
  fill_one v l e =
      record {
        within = omega arith;
        long = length-set out i v ∙ h.long;
        done = each_next (λ j x. x ≡ f j) out i d v (omega arith) h.done e;
      }

  -- At the end all are filled.
  pub fill-all : n ≤ i → (j : ℕ) → j < n → get_or out j d ≡ f j
  fill-all l j k = h.done j (omega arith)
