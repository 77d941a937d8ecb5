-- Channel values (log-likelihood ratios): their two folds, and what a value adds to a best score. Assumes nothing.
use Rattle.std.specs.Prelude.{Bool, true, false, cond, List, [], ◌∷◌, ℕ, zero, suc, ◌≤◌, ◌<◌, ℤ, pos, neg_ℤ, nat_abs, ◌+ℤ◌, ◌-ℤ◌, get_or}
use Rattle.std.specs.Int.Signed.{lt_z}
use Rattle.polar.specs.Code.{pay}

-- The greater of two integers.
abbrev pub greater : ℤ → ℤ → ℤ
greater x y = cond (lt_z x y) y x

-- A value under a bit: turned round where the bit is 1.
abbrev pub turned : Bool → ℤ → ℤ
turned false x = x
turned true x = neg_ℤ x

-- The free fold of two values: the sign of their product and the lesser size.
abbrev pub free_value : ℤ → ℤ → ℤ
free_value p q = greater (p +ℤ q) (pos 0) -ℤ greater p q

-- The known fold: the second value and the first, turned where the known bit is 1.
abbrev pub known_value : Bool → ℤ → ℤ → ℤ
known_value x p q = q +ℤ turned x p

-- What a value adds to a best score for a bit: minus what it pays.
abbrev pub gain : ℤ → Bool → ℤ
gain s b = neg_ℤ (pos (pay s b))

-- Proof side: the first k of some values are at most n in size.
abbrev pub Small : ℕ → ℕ → List ℤ → Type 0
Small n k xs = (i : ℕ) → i < k → nat_abs (get_or xs i (pos 0)) ≤ n

-- The greatest value of f over all lists of n bits.
unfoldable pub best_of : ℕ → (List Bool → ℤ) → ℤ
best_of zero f = f []
best_of (suc n) f = greater (best_of n (λ t. f (false ∷ t))) (best_of n (λ t. f (true ∷ t)))
