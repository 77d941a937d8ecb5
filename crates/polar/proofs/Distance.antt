-- Laws of partial distances: the words they count, and what following gives where all values are 1 or all are 0. Assumes nothing.
use mathlib.Core.Path.{◌≡◌, refl, sym, ap, ap₂, ◌∙◌}
use mathlib.Core.Bool.{Bool, true, false, ◌&&◌}
use mathlib.Core.List.{List, [], ◌∷◌, ◌++◌}
use Prim.Native.Nat.{ℕ, zero, suc, ◌+◌, ◌-◌, ◌<◌, ◌≤◌}
use native.Mathlib.Nat.{sub-zero}
use native.Mathlib.Omega.{arith}
use borrow.Author.Tests.{le-ltb}
use lib.ListN.{length, take, replicate, length-append, length-replicate, get_or-replicate, replicate-append-replicate, get_or-append}
use lib.Seq.{get_or-append-add}
use lib.IntN.{ℤ, pos, sub_ℕ}
use Rattle.base.specs.Bit.{◌⊕◌, bit, digit, parity, tabulate}
use Rattle.base.proofs.Bool.{parity-cong, parity-append, parity-false}
use Rattle.base.proofs.List.{tabulate-cong}
use Rattle.polar.specs.Code.{Code, pay, channel, total, least, score}
use Rattle.polar.specs.Follow.{scores}
use Rattle.polar.specs.Kernel.{matrix}
use Rattle.polar.specs.Distance.{weight, partial_distance, Zero}
use Rattle.polar.proofs.Minima.{sum-cong, sum-zero}
use Rattle.polar.proofs.Least.{least-le, least-cong, least-bound, score-least}

-- ---- the words that are counted

zeros-at : (n i : ℕ) → bit (replicate n false) i ≡ false
zeros-at zero i = refl
zeros-at (suc n) zero = refl
zeros-at (suc n) (suc i) = zeros-at n i

-- The word of s zeros, a one and the symbols t is row s plus the sum of the later rows that t chooses.
pub later_rows : (n w : ℕ) (M : ℕ → ℕ → Bool) (s : ℕ) (t : List Bool) → length (replicate s false ++ (true ∷ t)) ≡ n
    → (j : ℕ) → (matrix n w M).word (replicate s false ++ (true ∷ t)) j ≡ M s j ⊕ parity (length t) (λ i. bit t i && M (s + suc i) j)
unfolding parity
later_rows n w M s t e j =
    let z = replicate s false in
    let u = z ++ (true ∷ t) in
    let ls : length z ≡ s = length-replicate s false in
    let en : n ≡ s + suc (length t) = sym e ∙ length-append z (true ∷ t) ∙ ap (λ k. k + suc (length t)) ls in
    let at : (i : ℕ) → bit u (s + i) ≡ bit (true ∷ t) i = λ i. ap (λ k. bit u (k + i)) (sym ls) ∙ get_or-append-add z (true ∷ t) i false in
    ap (λ k. parity k (λ i. bit u i && M i j)) en
    ∙ parity-append s (suc (length t)) (λ i. bit u i && M i j)
    ∙ ap₂ ◌⊕◌
    (parity-cong s (λ i li. ap (λ b. b && M i j) (get_or-append z (true ∷ t) false i (omega arith) ∙ zeros-at s i)) ∙ parity-false s)
    (ap₂ ◌⊕◌ (ap₂ (λ b k. b && M k j) (at 0) (omega arith)) (parity-cong (length t) (λ i _. ap (λ b. b && M (s + suc i) j) (at (suc i)))))

-- The sum of no rows is 0.
pub matrix-zero : (n w : ℕ) (M : ℕ → ℕ → Bool) → Zero (matrix n w M)
matrix-zero n w M j l = parity-cong n (λ s _. ap (λ b. b && M s j) (zeros-at n s)) ∙ parity-false n

-- ---- all values 1

-- Values 1 pay the count of ones.
ones-pay : (n i : ℕ) → i < n → (b : Bool) → channel (replicate n (pos 1)) i b ≡ weight i b
ones-pay n i l false = ap (λ y. pay y false) (get_or-replicate n i (pos 1) (pos 0) l)
ones-pay n i l true = ap (λ y. pay y true) (get_or-replicate n i (pos 1) (pos 0) l)

-- After zeros nothing need be paid.
least-zeros : (C : Code) → Zero C → (i : ℕ) → i ≤ C.size → least C weight (replicate i false) ≡ 0
unfolding total
least-zeros C z i l =
    let t = replicate (C.size - i) false in
    let all : i + (C.size - i) ≡ C.size = omega arith in
    let e : replicate i false ++ t ≡ replicate C.size false = replicate-append-replicate i (C.size - i) false ∙ ap (λ k. replicate k false) all in
    let h : least C weight (replicate i false) ≤ total C weight (replicate i false ++ t) =
    least-le C weight (replicate i false) t (ap length e ∙ length-replicate C.size false) in
    let none : total C weight (replicate i false ++ t) ≡ 0 = ap (total C weight) e ∙ sum-cong C.places (λ j lj. ap digit (z j lj)) ∙ sum-zero C.places in
    omega arith

sub-none : (a : ℕ) → sub_ℕ a 0 ≡ pos a
sub-none a = rw (le-ltb a 0 (omega arith), sub-zero)

-- Following with all values 1 and all symbols 0: the score at phase i is the partial distance of row i.
pub score-distance : (C : Code) → Zero C → (i : ℕ) → i < C.size → score C (channel (replicate C.places (pos 1))) (replicate i false) ≡ pos (partial_distance C i)
unfolding partial_distance
score-distance C z i l =
    let m = channel (replicate C.places (pos 1)) in
    let p = replicate i false in
    let next : p ++ (false ∷ []) ≡ replicate (i + 1) false = replicate-append-replicate i 1 false in
    let pays : (q : List Bool) → least C m q ≡ least C weight q = least-cong C (ones-pay C.places) in
    score-least C m p
    ∙ ap₂ sub_ℕ (pays (p ++ (true ∷ []))) (pays (p ++ (false ∷ [])) ∙ ap (least C weight) next ∙ least-zeros C z (i + 1) (omega arith))
    ∙ sub-none (least C weight (p ++ (true ∷ [])))

take-zeros : (i n : ℕ) → i ≤ n → take i (replicate n false) ≡ replicate i false
take-zeros zero n l = refl
take-zeros (suc i) zero l = absurd (omega arith)
take-zeros (suc i) (suc n) l = ap (λ (t : List Bool). false ∷ t) (take-zeros i n (omega arith))

-- So the scores of all phases are the partial distances.
pub scores-distance : (C : Code) → Zero C
    → scores C (channel (replicate C.places (pos 1))) (replicate C.size false) ≡ tabulate C.size (λ i. pos (partial_distance C i))
unfolding scores
scores-distance C z =
    let m = channel (replicate C.places (pos 1)) in
    ap (λ n. tabulate n (λ i. score C m (take i (replicate C.size false)))) (length-replicate C.size false)
    ∙ tabulate-cong C.size (λ i l. ap (score C m) (take-zeros i C.size (omega arith)) ∙ score-distance C z i l)

-- ---- all values 0

nothing-pays : (n i : ℕ) (b : Bool) → channel (replicate n (pos 0)) i b ≤ 0
nothing-pays zero i false = omega arith
nothing-pays zero i true = omega arith
nothing-pays (suc n) zero false = omega arith
nothing-pays (suc n) zero true = omega arith
nothing-pays (suc n) (suc i) b = nothing-pays n i b

tabulate-const : (n : ℕ) (x : ℤ) → tabulate n (λ i. x) ≡ replicate n x
unfolding tabulate
tabulate-const zero x = refl
tabulate-const (suc n) x = ap (λ (t : List ℤ). x ∷ t) (tabulate-const n x)

-- Where all values are 0, all scores are 0, for any code and any symbols.
pub scores-zero : (C : Code) (n : ℕ) (u : List Bool) → scores C (channel (replicate n (pos 0))) u ≡ replicate (length u) (pos 0)
unfolding scores
scores-zero C n u =
    let m = channel (replicate n (pos 0)) in
    let none : (p : List Bool) → least C m p ≡ 0 = λ p. omega (arith, least-bound C m 0 (nothing-pays n) p) in
    tabulate-cong (length u) (λ i _. score-least C m (take i u) ∙ ap₂ sub_ℕ (none (take i u ++ (true ∷ []))) (none (take i u ++ (false ∷ []))))
    ∙ tabulate-const (length u) (pos 0)
