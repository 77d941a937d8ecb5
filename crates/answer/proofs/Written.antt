-- What an accepted job's buffer holds, entry by entry. Assumes nothing.
use mathlib.Core.Path.{◌≡◌, sym, ap, ◌∙◌}
use mathlib.Core.List.{List, ◌++◌}
use Prim.Native.Nat.{ℕ, ◌≤◌, ◌<◌}
use native.Mathlib.Omega.{arith}
use lib.ListN.{length, get_or, drop, length-append, get_or-append}
use lib.Seq.{drop-append_seam}
use Rattle.answer.specs.Verdict.{Verdict, done, after}

module _ {X : Type 0} (v : Verdict) (old new : List X) (n : ℕ) (e : length new ≡ n) (a : v ≡ done) where
  -- The new part stands at the front,
  pub after_front : after v old new ≡ new ++ drop n old
  after_front = ap (λ (v : Verdict). after v old new) a ∙ ap (λ k. new ++ drop k old) e

  -- entry by entry,
  pub after-at : (i : ℕ) (d : X) → i < n → get_or (after v old new) i d ≡ get_or new i d
  after-at i d l = ap (λ (s : List X). get_or s i d) after_front ∙ get_or-append new (drop n old) d i (omega arith)

  -- which the buffer has room for,
  pub after-room : n ≤ length (after v old new)
  after-room = omega (arith, ap length after_front, length-append new (drop n old))

  -- and what lies past it stays.
  pub after-rest : drop n (after v old new) ≡ drop n old
  after-rest = ap (drop n) after_front ∙ ap (λ k. drop k (new ++ drop n old)) (sym e) ∙ drop-append_seam new (drop n old)
