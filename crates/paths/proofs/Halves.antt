-- Filling two halves of four places side by side. Assumes nothing.
use mathlib.Core.Path.{◌≡◌, refl, sym, ap, ◌∙◌}
use mathlib.Core.Bool.{Bool, true, false}
use mathlib.Core.List.{List}
use Prim.Native.Nat.{ℕ, ◌+◌, ◌*◌, ◌≤◌, ◌<◌}
use native.Mathlib.Nat.{zero-add}
use native.Mathlib.Decide.{dec_lt}
use native.Mathlib.Omega.{arith}
use lib.ListN.{length, get_or, set, replicate, length-set}
use lib.Seq.{get_or-set_same, get_or-set_other}
use Rattle.base.specs.Bit.{digit}
use Rattle.base.proofs.List.{each_next}

-- There are eight entries, and those below place i of each half are what g says.
pub record Halves {X : Type 0} (o : X) (i : ℕ) (g : Bool → ℕ → X) (out : List X) : Type 0 where
  pub within : i ≤ 4
  pub long : length out ≡ 8
  pub done : (b : Bool) (j : ℕ) → j < i → get_or out (4 * digit b + j) o ≡ g b j

-- None is filled at the start.
pub halves-none : {X : Type 0} (o : X) (g : Bool → ℕ → X) → Halves o 0 g (replicate 8 o)
halves-none o g = record { within = omega arith; long = refl; done = λ b j l. absurd (omega arith) }

-- A store in each half fills the next place.
pub halves-next : {X : Type 0} (o : X) (i : ℕ) (g : Bool → ℕ → X) (out : List X) → Halves o i g out → (v w : X) → i < 4
    → v ≡ g false i → w ≡ g true i → Halves o (i + 1) g (set (set out i v) (4 + i) w)
halves-next {X = X} o i g out h v w l p q =
    record {
      within = omega arith;
      long = length-set mid (4 + i) w ∙ length-set out i v ∙ h.long;
      done = done;
    }
  where
    mid : List X
    mid = set out i v

    -- Each half by itself: the first store leaves the second half, and the second the first.
    low : (j : ℕ) → j < i + 1 → get_or (set mid (4 + i) w) j o ≡ g false j
    low j k =
        get_or-set_other mid (4 + i) j w o (λ e. omega arith)
        ∙ each_next (λ j x. x ≡ g false j) out i o v (omega arith) (λ j m. ap (λ n. get_or out n o) (sym (zero-add j)) ∙ h.done false j m) p j k

    high : (j : ℕ) → Dec (j < i) → j < i + 1 → get_or (set mid (4 + i) w) (4 + j) o ≡ g true j
    high j (yes m) k =
        get_or-set_other mid (4 + i) (4 + j) w o (λ e. omega arith)
        ∙ get_or-set_other out i (4 + j) v o (λ e. omega arith)
        ∙ h.done true j m
    high j (no m) k =
        let e : j ≡ i = omega arith in
        rw e (get_or-set_same mid (4 + i) w o (omega (arith, length-set out i v)) ∙ q)

    done : (b : Bool) (j : ℕ) → j < i + 1 → get_or (set mid (4 + i) w) (4 * digit b + j) o ≡ g b j
    done false j k = ap (λ n. get_or (set mid (4 + i) w) n o) (zero-add j) ∙ low j k
    done true j k = high j (dec_lt j i) k
