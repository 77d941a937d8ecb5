-- Runs of one layer, two and three as runs of the layers' code. Assumes nothing.
use mathlib.Core.Path.{◌≡◌, refl, sym, ap, ap₂, ◌∙◌, fun_ext, subst, subst⁻¹}
use mathlib.Core.Bool.{Bool}
use mathlib.Core.List.{List, ◌++◌, map}
use Prim.Native.Nat.{ℕ, ◌+◌, ◌-◌, ◌*◌, ◌/◌, ◌%◌, ◌^◌, ◌<◌}
use native.Mathlib.Nat.{zero-add, div-lt_iff_lt-mul}
use native.Mathlib.Omega.{arith}
use lib.IntN.{ℤ, pos}
use lib.ListN.{length, get_or, take, drop}
use lib.Seq.{paste, take_all, length-take-le}
use Rattle.base.specs.Bit.{bit}
use Rattle.base.proofs.List.{same_bits, tabulate-cong}
use Rattle.bits.specs.Packed.{bits}
use Rattle.polar.specs.Code.{Code, Costs, pay, channel, score}
use Rattle.polar.specs.Follow.{scores}
use Rattle.polar.specs.Kernel.{code}
use Rattle.polar.specs.Stages.{rows, staged}
use Rattle.polar.specs.Frame.{layers}
use Rattle.polar.proofs.Layer.{pos-right}
use Rattle.polar.proofs.Follow.{length-scores}
use Rattle.polar.proofs.Alike.{Alike, alike-score}
use Rattle.polar.proofs.Layers.{layers-one, frame-layers, layers-next}
use Rattle.kernel.specs.Kernels.{kernel, kernel_code}
use Rattle.kernel.proofs.Solved.{invertible}
use Rattle.plan.specs.Pairs.{frame_code}
use Rattle.grid.specs.Grid.{rows_bits}
use Rattle.grid.proofs.Grid.{rows-bits-at, length-rows-bits}
use Rattle.run.specs.Run.{symbol_by, SymbolsBy, KernelRun}
use Rattle.run.proofs.Phases.{score-cong}
use Rattle.lane.specs.Lanes.{lane_costs}
use Rattle.pair_run.specs.Run.{front, held_costs, PairRun}
use Rattle.pair_run.proofs.Prefixes.{length_front, front_at}
use Rattle.pair_run.proofs.Layered.{code-score}
use Rattle.triple_run.specs.Run.{triple_code, TripleRun}
use Rattle.triple_run.proofs.Fronts.{front-cong}
use Rattle.frame_run.specs.Run.{Scored}

-- Rows of symbols, either way.
pub front-rows : (n : ℕ) (rows : List ℕ) → front n rows ≡ rows_bits n rows
front-rows n rows = same_bits (16 * n) (front n rows) (rows_bits n rows) (length_front n rows ∙ (let e : n * 16 ≡ 16 * n = omega arith in e)) (length-rows-bits n rows) (λ i l.
    let e : i ≡ 16 * (i / 16) + i % 16 = omega arith in
    let h : i / 16 < n = omega arith in
    ap (bit (front n rows)) e ∙ front_at n rows (i / 16) (i % 16) h (omega arith)
    ∙ sym (rows-bits-at n rows (i / 16) (i % 16) h (omega arith)) ∙ ap (bit (rows_bits n rows)) (sym e))

-- An inner code may be replaced by one that is alike.
pub alike-staged : (A A' B : Code) → Alike A A' → Alike (staged A B) (staged A' B)
alike-staged A A' B h = record {
  sizes = ap (λ n. B.size * n) h.sizes;
  as_many = ap (λ n. n * B.places) h.as_many;
  words = λ u p l.
      let w : 0 < B.places = pos-right p A'.places B.places l in
      let lj : p / B.places < A'.places = (div-lt_iff_lt-mul w).1 l in
      ap (λ n. B.word (map (λ v. A.word v (p / B.places)) (rows n B.size u)) (p % B.places)) h.sizes
      ∙ ap (λ (f : List Bool → Bool). B.word (map f (rows A'.size B.size u)) (p % B.places)) (fun_ext (λ v. h.words v (p / B.places) lj));
}

-- Three layers: one more around a frame of two.
pub layers-three : (ks : List ℕ) → Alike (layers (λ i. kernel (get_or ks i 0)) 3) (triple_code ks)
layers-three ks =
    subst (λ C. Alike C (triple_code ks)) (sym (layers-next (λ i. kernel (get_or ks i 0)) (λ i. invertible (get_or ks i 0)) 2))
    (alike-staged (layers (λ i. kernel (get_or ks i 0)) 2) (frame_code (get_or ks 0 0) (get_or ks 1 0)) (code (kernel (get_or ks 2 0))) (frame-layers (λ i. kernel (get_or ks i 0))))

-- A run over a code whose scores are those of the layers' code.
module _ (ks : List ℕ) (m : ℕ) (values : List ℤ) (D : Code) (d : Costs)
    (same : (p : List Bool) → length p < 16 * 16 ^ (m - 1) → score D d p ≡ score (layers (λ i. kernel (get_or ks i 0)) m) (channel values) p)
    (free given symbols : List ℕ) (new old : List ℤ) where
  abbrev n : ℕ
  n = 16 ^ (m - 1)

  abbrev C : Code
  C = layers (λ i. kernel (get_or ks i 0)) m

  pub scored-by : 16 * n ≡ 16 ^ m → SymbolsBy D d (bit (front n free)) (bit (front n given)) (front n symbols) → new ≡ paste old 0 (scores D d (front n symbols)) (16 * n)
      → Scored ks m values free given symbols new old
  unfolding scores
  scored-by many by are =
      let u = front n symbols in
      let lu : length u ≡ 16 * n = length_front n symbols ∙ (let e : n * 16 ≡ 16 * n = omega arith in e) in
      let at : (i : ℕ) → i < length u → score D d (take i u) ≡ score C (channel values) (take i u) = λ i l. same (take i u) (omega (arith, lu, length-take-le i u (omega arith))) in
      let by' : SymbolsBy C (channel values) (bit (front n free)) (bit (front n given)) u = λ i l. by i l ∙ ap (symbol_by (bit (front n free) i) (bit (front n given) i)) (at i l) in
      let are' : scores D d u ≡ scores C (channel values) u = tabulate-cong (length u) at in
      record {
        symbols-by =
            subst (λ w. SymbolsBy C (channel values) (bit (rows_bits n free)) (bit (rows_bits n given)) w) (front-rows n symbols)
            (subst (λ w. SymbolsBy C (channel values) (bit (rows_bits n free)) (bit w) u) (front-rows n given)
            (subst (λ w. SymbolsBy C (channel values) (bit w) (bit (front n given)) u) (front-rows n free) by'));
        scores-are =
            are ∙ ap (λ k. take (16 * n) (scores D d u) ++ drop k old) (zero-add (16 * n)) ∙ ap₂ (λ (l : List ℤ) k. l ++ drop k old) (take_all (16 * n) (scores D d u) (omega (arith, lu, length-scores D d u)) ∙ are' ∙ ap (scores C (channel values)) (front-rows n symbols)) many;
      }

-- The values of a kernel may be any that agree at its places.
pub values-cong : (C : Code) (ys zs : List ℤ) → ((i : ℕ) → i < C.places → get_or ys i (pos 0) ≡ get_or zs i (pos 0)) → (p : List Bool) → score C (channel ys) p ≡ score C (channel zs) p
values-cong C ys zs h p = score-cong C (λ i l b. ap (λ y. pay y b) (h i l)) p

-- ---- one layer

front-one : (rows : List ℕ) → front 1 rows ≡ bits 16 (get_or rows 0 0)
unfolding front
front-one rows = refl

pub single-scored : (ks : List ℕ) (values wide : List ℤ) → ((i : ℕ) → i < 16 → get_or wide i (pos 0) ≡ get_or values i (pos 0))
    → (free given symbols : List ℕ) (new old sc : List ℤ) → KernelRun (get_or ks 0 0) wide (get_or free 0 0) (get_or given 0 0) (get_or symbols 0 0) sc → new ≡ paste old 0 sc 16
    → Scored ks 1 values free given symbols new old
single-scored ks values wide h free given symbols new old sc row are =
    let k : ℕ = get_or ks 0 0 in
    scored-by ks 1 values (kernel_code k) (channel wide)
    (λ p l. values-cong (kernel_code k) wide values h p ∙ sym (code-score k (channel values) p l) ∙ sym (alike-score (layers (λ i. kernel (get_or ks i 0)) 1) (code (kernel k)) (layers-one (λ i. kernel (get_or ks i 0))) (channel values) p))
    free given symbols new old refl
    (subst (λ w. SymbolsBy (kernel_code k) (channel wide) (bit (front 1 free)) (bit (front 1 given)) w) (sym (front-one symbols))
    (subst (λ w. SymbolsBy (kernel_code k) (channel wide) (bit (front 1 free)) (bit w) (bits 16 (get_or symbols 0 0))) (sym (front-one given))
    (subst (λ w. SymbolsBy (kernel_code k) (channel wide) (bit w) (bit (bits 16 (get_or given 0 0))) (bits 16 (get_or symbols 0 0))) (sym (front-one free)) row.symbols-by)))
    (are ∙ ap (λ (l : List ℤ). paste old 0 l 16) (row.scores-are ∙ ap (scores (kernel_code k) (channel wide)) (sym (front-one symbols))))

-- ---- two

pub double-scored : (ks : List ℕ) (values : List ℤ) (costs : List (List (List ℕ)))
    → ((j t : ℕ) (c : Bool) → j < 16 → t < 16 → lane_costs costs j t c ≡ channel values (256 * 0 + (16 * j + t)) c)
    → (free given free16 given16 x planes symbols : List ℕ) (new old : List ℤ)
    → ((i : ℕ) → i < 16 → get_or free16 i 0 ≡ get_or free (16 * 0 + i) 0) → ((i : ℕ) → i < 16 → get_or given16 i 0 ≡ get_or given (16 * 0 + i) 0) → ((i : ℕ) → i < 16 → get_or symbols i 0 ≡ get_or x i 0)
    → PairRun (get_or ks 0 0) (get_or ks 1 0) costs free16 given16 x planes 0 new old → Scored ks 2 values free given symbols new old
double-scored ks values costs agree free given free16 given16 x planes symbols new old free-is given_is symbols-are row =
    let C = frame_code (get_or ks 0 0) (get_or ks 1 0) in
    let d = held_costs costs in
    let ff : front 16 free16 ≡ front 16 free = front-cong 16 free16 free (λ i l. free-is i l ∙ ap (λ n. get_or free n 0) (zero-add i)) in
    let fg : front 16 given16 ≡ front 16 given = front-cong 16 given16 given (λ i l. given_is i l ∙ ap (λ n. get_or given n 0) (zero-add i)) in
    let fs : front 16 x ≡ front 16 symbols = front-cong 16 x symbols (λ i l. sym (symbols-are i l)) in
    scored-by ks 2 values C d
    (λ p l.
    score-cong C (λ i li b. agree (i / 16) (i % 16) b (omega arith) (omega arith) ∙ ap (λ n. channel values n b) (let e : 256 * 0 + (16 * (i / 16) + i % 16) ≡ i = omega arith in e)) p
    ∙ sym (alike-score (layers (λ i. kernel (get_or ks i 0)) 2) C (frame-layers (λ i. kernel (get_or ks i 0))) (channel values) p))
    free given symbols new old refl
    (subst (λ w. SymbolsBy C d (bit (front 16 free)) (bit (front 16 given)) w) fs
    (subst (λ w. SymbolsBy C d (bit (front 16 free)) (bit w) (front 16 x)) fg
    (subst (λ w. SymbolsBy C d (bit w) (bit (front 16 given16)) (front 16 x)) ff row.symbols-by)))
    (row.scores-are ∙ ap (λ w. paste old 0 (scores C d w) 256) fs)

-- ---- three

pub triple-scored : (ks : List ℕ) (values : List ℤ) (free given symbols : List ℕ) (new old : List ℤ) → TripleRun ks values free given symbols new old → Scored ks 3 values free given symbols new old
triple-scored ks values free given symbols new old row =
    scored-by ks 3 values (triple_code ks) (channel values) (λ p l. sym (alike-score (layers (λ i. kernel (get_or ks i 0)) 3) (triple_code ks) (layers-three ks) (channel values) p))
    free given symbols new old refl row.symbols-by row.scores-are

-- The number of layers, by another name.
pub of-layers : {ks : List ℕ} {values : List ℤ} {free given symbols : List ℕ} {new old : List ℤ} (m k : ℕ) → m ≡ k
    → Scored ks k values free given symbols new old → Scored ks m values free given symbols new old
of-layers {ks} {values} {free} {given} {symbols} {new} {old} m k e h = subst⁻¹ (λ n. Scored ks n values free given symbols new old) e h
