-- Every starred case holds: one computed test over the table, and what it shows of each case. Assumes nothing.
use mathlib.Core.Path.{◌≡◌, refl, sym, ap, ap₂, ◌∙◌}
use mathlib.Core.Bool.{Bool, true, false, ◌&&◌, and-eq-true_iff, false≢true}
use mathlib.Core.List.{List, [], ◌∷◌, ◌++◌, append-nil}
use Prim.Native.Nat.{ℕ}
use native.Mathlib.Omega.{arith}
use borrow.Author.Tests.{eqb-true}
use lib.Dec.{eqb}
use lib.Ieee.{binary32, mul, round, fits}
use lib.IntN.{ℤ, pos, negsuc}
use lib.ListN.{length, get_or, set, replicate}
use Rattle.base.specs.Bit.{tabulate, parity, every}
use Rattle.bits.specs.Packed.{bits, number, unpack, pack}
use Rattle.bits.proofs.Packed.{length-bits, unpack-pack}
use Rattle.answer.specs.Verdict.{Verdict, word, penalty, done, refused, is_accepted, settle, after}
use Rattle.polar.specs.Code.{channel}
use Rattle.polar.specs.Follow.{scores}
use Rattle.polar.specs.Kernel.{arikan}
use Rattle.answer.proofs.Settle.{none_of, settle-none}
use Rattle.polar.specs.Relation.{unit, sum_of, symbols}
use Rattle.polar.specs.Fold.{folded, blocks}
use Rattle.folds.specs.Range.{value_limit, first_outside}
use Rattle.folds.specs.Rows.{least_to}
use Rattle.kernel.specs.Kernels.{kernel_code}
use Rattle.kernel.specs.Rows.{chosen_sum, row_sum, table}
use Rattle.kernel.specs.Jobs.{is_kernel, encoded_word}
use Rattle.kernel.proofs.Table.{encoded-rows}
use Rattle.kernel.proofs.Checks.{kernel-lt, kernel-passed}
use Rattle.order.specs.Order.{order, among, information_bits, marked_phases}
use Rattle.order.specs.Jobs.{information_checks, information_mask}
use Rattle.order.proofs.Accepted
use Rattle.windows.specs.Windows.{windows, solutions}
use Rattle.follow.specs.Jobs.{kernel_follow_checks, kernel_follow}
use Rattle.quantiser.specs.Marks.{value_at, not_finite, first_not_finite, lowest}
use Rattle.quantiser.specs.Jobs.{marks_checks}
use Rattle.quantiser.proofs.Accepted as Quantised
use Rattle.rounding.specs.Rounding.{rounded, nearest_limited}
use Rattle.follow.proofs.Accepted.{accepted, accepted-job}
use Rattle.cases.proofs.Computed.{path_by, least_by_paths, scores_by, scores-by}
use Rattle.cases.specs.Cases.{Case, encoding, following, following_last, value_refused, masking, size_refused, quantising, Holds, starred, AllHold}

-- Whether two scores are the same.
unfoldable same_score : ℤ → ℤ → Bool
same_score (pos a) (pos b) = eqb a b
same_score (pos a) (negsuc b) = false
same_score (negsuc a) (pos b) = false
same_score (negsuc a) (negsuc b) = eqb a b

score-eq : (x y : ℤ) → same_score x y ≡ true → x ≡ y
unfolding same_score
score-eq (pos a) (pos b) e = ap pos (eqb-true a b e)
score-eq (pos a) (negsuc b) e = absurd (false≢true e)
score-eq (negsuc a) (pos b) e = absurd (false≢true e)
score-eq (negsuc a) (negsuc b) e = ap negsuc (eqb-true a b e)

-- Whether two lists are the same, by a test of their elements.
unfoldable same_list : {X : Type 0} → (X → X → Bool) → List X → List X → Bool
same_list f [] [] = true
same_list f [] (y ∷ t) = false
same_list f (x ∷ s) [] = false
same_list f (x ∷ s) (y ∷ t) = f x y && same_list f s t

list-eq : {X : Type 0} (f : X → X → Bool) → ((x y : X) → f x y ≡ true → x ≡ y) → (s t : List X) → same_list f s t ≡ true → s ≡ t
unfolding same_list
list-eq f q [] [] e = refl
list-eq f q [] (y ∷ t) e = absurd (false≢true e)
list-eq f q (x ∷ s) [] e = absurd (false≢true e)
list-eq f q (x ∷ s) (y ∷ t) e =
    let h = (and-eq-true_iff (f x y) (same_list f s t)).0 e in
    ap₂ ◌∷◌ (q x y h.0) (list-eq f q s t h.1)

-- Whether a verdict is the refusal of a condition at a place.
unfoldable is_refusal : ℕ → ℕ → Verdict → Bool
is_refusal n i done = false
is_refusal n i (word w) = false
is_refusal n i (penalty p) = false
is_refusal n i (refused n' i') = eqb n' n && eqb i' i

refusal-eq : (n i : ℕ) (v : Verdict) → is_refusal n i v ≡ true → v ≡ refused n i
unfolding is_refusal
refusal-eq n i done t = absurd (false≢true t)
refusal-eq n i (word w) t = absurd (false≢true t)
refusal-eq n i (penalty p) t = absurd (false≢true t)
refusal-eq n i (refused n' i') t =
    let h = (and-eq-true_iff (eqb n' n) (eqb i' i)).0 t in
    ap₂ refused (eqb-true n' n h.0) (eqb-true i' i h.1)

-- What is computed of a case.
unfoldable test : Case → Bool
test (encoding k s w) = is_kernel k && eqb (row_sum (get_or table k []) (number (unit 16 s))) w
test (following k value scores) =
    is_accepted (settle (kernel_follow_checks k (replicate 16 value) 16) done) && same_list same_score (scores_by k (channel (replicate 16 value)) (bits 16 0)) scores
test (following_last k value score) =
    is_accepted (settle (kernel_follow_checks k (replicate 16 value) 16) done) && same_score (get_or (scores_by k (channel (replicate 16 value)) (bits 16 0)) 15 (pos 0)) score
test (value_refused k i value n) = is_refusal n i (settle (kernel_follow_checks k (set (replicate 16 (pos 0)) i value) 16) done)
test (masking p phases) = is_accepted (settle (information_checks p 32) done) && same_list eqb (marked_phases (information_bits p)) phases
test (size_refused p n) = is_refusal n 0 (settle (information_checks p 32) done)
test (quantising scale x value) =
    let xs = replicate 256 x in
    fits binary32 scale
    && fits binary32 x
    && is_accepted (settle (marks_checks scale xs (replicate 16 0) 256) done)
    && same_list same_score (tabulate 256 (value_at scale xs (replicate 16 0))) (replicate 256 value)

-- Where kernel follow accepts sixteen equal values, it leaves the scores as computed.
followed : (k : ℕ) (value : ℤ) → is_accepted (settle (kernel_follow_checks k (replicate 16 value) 16) done) ≡ true
    → kernel_follow k (replicate 16 value) 0 (replicate 16 (pos 0)) ≡ (done, scores_by k (channel (replicate 16 value)) (bits 16 0))
followed k value a =
    let values = replicate 16 value in
    let found = scores_by k (channel values) (bits 16 0) in
    let by = scores-by k (accepted k values 16 a).known (channel values) (bits 16 0) (omega (arith, length-bits 16 0)) in
    accepted-job k values 0 (replicate 16 (pos 0)) a (channel values) (λ j b l. refl) found found (sym by) (sym (append-nil found))

-- A refused job answers its refusal and leaves its buffer.
value-refused : (k i : ℕ) (value : ℤ) (n : ℕ) → is_refusal n i (settle (kernel_follow_checks k (set (replicate 16 (pos 0)) i value) 16) done) ≡ true
    → (out : List ℤ) → length out ≡ 16 → kernel_follow k (set (replicate 16 (pos 0)) i value) 0 out ≡ (refused n i, out)
unfolding kernel_follow
value-refused k i value n t out e =
    let values = set (replicate 16 (pos 0)) i value in
    ap (λ (v : Verdict). (v, after v out (scores (kernel_code k) (channel values) (bits 16 0))))
    (ap (λ m. settle (kernel_follow_checks k values m) done) e ∙ refusal-eq n i _ t)

size-refused : (p n : ℕ) → is_refusal n 0 (settle (information_checks p 32) done) ≡ true
    → (out : List ℕ) → length out ≡ 32 → information_mask p out ≡ (refused n 0, out)
unfolding information_mask
size-refused p n t out e =
    ap (λ (v : Verdict). (v, after v out (pack 32 (information_bits p))))
    (ap (λ m. settle (information_checks p m) done) e ∙ refusal-eq n 0 _ t)

shown : (c : Case) → test c ≡ true → Holds c
unfolding test
shown (encoding k s w) t =
    let h = (and-eq-true_iff (is_kernel k) _).0 t in
    let u : ℕ = number (unit 16 s) in
    sym (kernel-passed k (word (encoded_word k u)) h.0)
    ∙ ap word (sym (encoded-rows k u (kernel-lt k h.0)) ∙ eqb-true (row_sum (get_or table k []) u) w h.1)
shown (following k value scores) t =
    let h = (and-eq-true_iff (is_accepted (settle (kernel_follow_checks k (replicate 16 value) 16) done)) _).0 t in
    followed k value h.0 ∙ ap (λ (l : List ℤ). (done, l)) (list-eq same_score score-eq _ scores h.1)
shown (following_last k value score) t =
    let h = (and-eq-true_iff (is_accepted (settle (kernel_follow_checks k (replicate 16 value) 16) done)) _).0 t in
    let job = followed k value h.0 in
    (ap (λ r. r.0) job, ap (λ r. get_or r.1 15 (pos 0)) job ∙ score-eq _ score h.1)
shown (value_refused k i value n) t = λ out e. value-refused k i value n t out e
shown (masking p phases) t =
    let h = (and-eq-true_iff (is_accepted (settle (information_checks p 32) done)) _).0 t in
    let job = Accepted.accepted-job p (replicate 32 0) h.0 in
    let back : unpack (pack 32 (information_bits p) ++ []) ≡ information_bits p =
    ap unpack (append-nil (pack 32 (information_bits p))) ∙ unpack-pack 32 (information_bits p) (Accepted.length-information p) in
    (ap (λ r. r.0) job, ap (λ r. marked_phases (unpack r.1)) job ∙ ap marked_phases back ∙ list-eq eqb eqb-true _ phases h.1)
shown (size_refused p n) t = λ out e. size-refused p n t out e
shown (quantising scale x value) t =
    let xs = replicate 256 x in
    let f = fits binary32 scale && fits binary32 x in
    let h = (and-eq-true_iff (f && is_accepted (settle (marks_checks scale xs (replicate 16 0) 256) done)) _).0 t in
    let g = (and-eq-true_iff f _).0 h.0 in
    let both = (and-eq-true_iff (fits binary32 scale) _).0 g.0 in
    let cs = marks_checks scale xs (replicate 16 0) 256 in
    let job = Quantised.accepted-job scale xs (replicate 16 0) (replicate 256 (pos 0)) (sym (settle-none cs done (none_of cs done g.1))) in
    (both.0, both.1, job ∙ ap (λ (l : List ℤ). (done, l)) (append-nil (tabulate 256 (value_at scale xs (replicate 16 0))) ∙ list-eq same_score score-eq _ (replicate 256 value) h.1))

unfoldable tests : List Case → Bool
tests [] = true
tests (c ∷ cs) = test c && tests cs

all_shown : (cs : List Case) → tests cs ≡ true → AllHold cs
unfolding tests
all_shown [] t = tt
all_shown (c ∷ cs) t =
    let h = (and-eq-true_iff (test c) (tests cs)).0 t in
    (shown c h.0, all_shown cs h.1)

pub starred-hold : AllHold starred
unfolding tests test is_refusal is_kernel chosen_sum bits number tabulate parity same_score same_list kernel_follow_checks value_limit first_outside scores_by least_by_paths path_by least_to windows solutions symbols sum_of folded blocks arikan every information_checks information_bits marked_phases among order unpack marks_checks first_not_finite not_finite lowest value_at nearest_limited mul round rounded fits
starred-hold = all_shown starred refl
