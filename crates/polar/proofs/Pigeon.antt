-- A map of lists of bits that is one to one does not make them shorter. Assumes nothing.
use mathlib.Core.Path.{◌≡◌, refl, sym, ap, ◌∙◌}
use mathlib.Core.Bool.{Bool, true, false}
use mathlib.Core.List.{List, [], ◌∷◌}
use Prim.Native.Nat.{ℕ, zero, suc, ◌+◌, ◌^◌, ◌≤◌, ◌<◌}
use native.Mathlib.Nat.{le_refl, suc_inj, two-pow-succ}
use native.Mathlib.Decide.{dec_le}
use native.Mathlib.Omega.{arith}
use lib.ListN.{length}
use lib.Pow.{pow-lt}
use Rattle.base.specs.Bit.{same, find}
use Rattle.base.proofs.List.{same-eq, same_self, length-find, find-only}

-- A test that holds counts 1.
abbrev one-if : Bool → ℕ
one-if false = 0
one-if true = 1

-- The sum of g over all lists of k bits.
unfoldable tally : ℕ → (List Bool → ℕ) → ℕ
tally zero g = g []
tally (suc k) g = tally k (λ t. g (false ∷ t)) + tally k (λ t. g (true ∷ t))

tally-le : (k : ℕ) {f g : List Bool → ℕ} → ((t : List Bool) → length t ≡ k → f t ≤ g t) → tally k f ≤ tally k g
unfolding tally
tally-le zero h = h [] refl
tally-le (suc k) h = omega (arith, tally-le k (λ t e. h (false ∷ t) (ap suc e)), tally-le k (λ t e. h (true ∷ t) (ap suc e)))

tally-add : (k : ℕ) (f g : List Bool → ℕ) → tally k (λ t. f t + g t) ≡ tally k f + tally k g
unfolding tally
tally-add zero f g = refl
tally-add (suc k) f g = omega (arith, tally-add k (λ t. f (false ∷ t)) (λ t. g (false ∷ t)), tally-add k (λ t. f (true ∷ t)) (λ t. g (true ∷ t)))

tally-swap : (h n : ℕ) (f : List Bool → List Bool → ℕ) → tally h (λ v. tally n (λ u. f v u)) ≡ tally n (λ u. tally h (λ v. f v u))
unfolding tally
tally-swap zero n f = refl
tally-swap (suc h) n f =
    omega (
      arith,
      tally-swap h n (λ v. f (false ∷ v)),
      tally-swap h n (λ v. f (true ∷ v)),
      tally-add n (λ u. tally h (λ v. f (false ∷ v) u)) (λ u. tally h (λ v. f (true ∷ v) u)),
    )

tally-zero : (k : ℕ) → tally k (λ t. 0) ≡ 0
unfolding tally
tally-zero zero = refl
tally-zero (suc k) = omega (arith, tally-zero k)

-- There are 2 ^ k lists of k bits.
tally-one : (k : ℕ) → tally k (λ t. 1) ≡ 2 ^ k
unfolding tally
tally-one zero = refl
tally-one (suc k) = omega (arith, tally-one k, two-pow-succ k)

-- One list agrees with a given one of that length.
tally-agree : (k : ℕ) (t : List Bool) → length t ≡ k → tally k (λ u. one-if (same t u)) ≡ 1
unfolding tally same
tally-agree zero [] e = refl
tally-agree zero (b ∷ t) e = absurd (omega arith)
tally-agree (suc k) [] e = absurd (omega arith)
tally-agree (suc k) (false ∷ t) e = omega (arith, tally-agree k t (suc_inj e), tally-zero k)
tally-agree (suc k) (true ∷ t) e = omega (arith, tally-agree k t (suc_inj e), tally-zero k)

module _ (h n : ℕ) (f : List Bool → List Bool) (long : (v : List Bool) → length v ≡ h → length (f v) ≡ n)
    (one : (v w : List Bool) → length v ≡ h → length w ≡ h → f v ≡ f w → v ≡ w) where
  -- The list that f takes to u.
  back : List Bool → List Bool
  back u = find h (λ v. same (f v) u)

  back-agree : (u v : List Bool) → length v ≡ h → one-if (same (f v) u) ≤ one-if (same (back u) v)
  unfolding back
  back-agree u v e = go (same (f v) u) refl
    where
      go : (c : Bool) → same (f v) u ≡ c → one-if c ≤ one-if (same (find h (λ v. same (f v) u)) v)
      go false p = omega arith
      go true p =
          let b = find-only h (λ v. same (f v) u) v e p (λ w ew t. one w v ew e (same-eq (f w) u t ∙ sym (same-eq (f v) u p))) in
          rw (b, same_self v) (le_refl 1)

  -- Of the 2 ^ h × 2 ^ n pairs those of a list and what f takes it to are at least 2 ^ h and at most 2 ^ n.
  pairs-le : 2 ^ h ≤ 2 ^ n
  unfolding back
  pairs-le =
      let taken : List Bool → List Bool → ℕ = λ v u. one-if (same (f v) u) in
      let low : tally h (λ v. 1) ≤ tally h (λ v. tally n (taken v)) = tally-le h (λ v e. omega (arith, tally-agree n (f v) (long v e))) in
      let high : tally n (λ u. tally h (λ v. taken v u)) ≤ tally n (λ u. 1) =
      tally-le n (λ u e. omega (arith, tally-le h (back-agree u), tally-agree h (back u) (length-find h _))) in
      omega (arith, tally-one h, tally-one n, tally-swap h n taken)

  -- A map of lists of h bits to lists of n bits that is one to one needs h ≤ n.
  pub pigeon : h ≤ n
  pigeon = go (dec_le h n)
    where
      go : Dec (h ≤ n) → h ≤ n
      go (yes l) = l
      go (no l) = let p : n < h = omega arith in absurd (omega (arith, pow-lt p, pairs-le))
