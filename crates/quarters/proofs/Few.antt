-- Facts about lists of a few bits, by how many there are. Assumes nothing.
use mathlib.Core.Bool.{Bool}
use mathlib.Core.List.{List, [], ◌∷◌}
use Prim.Native.Nat.{◌<◌}
use native.Mathlib.Omega.{arith}
use lib.ListN.{length}

-- Fewer than three bits,
pub few-3 : (P : List Bool → Type 0) → P [] → ((a : Bool) → P (a ∷ [])) → ((a b : Bool) → P (a ∷ b ∷ [])) → (p : List Bool) → length p < 3 → P p
few-3 P e one two [] l = e
few-3 P e one two (a ∷ []) l = one a
few-3 P e one two (a ∷ b ∷ []) l = two a b
few-3 P e one two (a ∷ b ∷ c ∷ p) l = absurd (omega arith)

-- and fewer than four.
pub few-4 : (P : List Bool → Type 0) → P [] → ((a : Bool) → P (a ∷ [])) → ((a b : Bool) → P (a ∷ b ∷ [])) → ((a b c : Bool) → P (a ∷ b ∷ c ∷ [])) → (p : List Bool) → length p < 4 → P p
few-4 P e one two three [] l = e
few-4 P e one two three (a ∷ p) l = few-3 (λ p. P (a ∷ p)) (one a) (two a) (three a) p (omega arith)
