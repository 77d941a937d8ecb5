-- The stages of m layers make the frame's word, and the stages of the inverse kernels in the other order undo it. Assumes nothing.
use mathlib.Core.Path.{◌≡◌, refl, sym, ap, ap₂, ◌∙◌}
use mathlib.Core.Bool.{Bool, true, false, ◌&&◌, and_assoc}
use mathlib.Core.List.{List}
use Prim.Native.Nat.{ℕ, zero, suc, ◌+◌, ◌*◌, ◌/◌, ◌%◌, ◌≤◌, ◌<◌}
use native.Mathlib.Nat.{mul_comm, mul_assoc, mul-one, one-mul, mul-add, add_assoc, mod-lt, mod-one, div-one, mod-eq_of_lt, div-eq_of_lt, div-div-eq-div-mul, div-lt_iff_lt-mul, mul-add-div, add-mul-div_left, add-mul-mod_self_left, mul-add-mod_self_left, mul-zero, mul-pos}
use lib.Arith.{mod-mul}
use native.Mathlib.Omega.{arith}
use lib.ListN.{length}
use Rattle.base.specs.Bit.{◌⊕◌, bit, parity, tabulate}
use Rattle.base.proofs.Bool.{parity-cong, parity-and, parity-blocks}
use Rattle.base.proofs.List.{tabulate-cong}
use Rattle.polar.specs.Code.{Code, UndoneBy}
use Rattle.polar.specs.Kernel.{Kernel, matrix, code, Invertible, inverted}
use Rattle.polar.specs.Stages.{staged}
use Rattle.polar.proofs.Minima.{quot, rest}
use Rattle.polar.proofs.Frame.{stages-matrix}
use Rattle.polar.proofs.Undo.{staged-undo}
use Rattle.polar.proofs.Matrix.{coder}
use Rattle.polar.proofs.Layers.{unit-invertible, layers-next, layers-undo, layers-redo}
use Rattle.polar.specs.Frame.{extent, factor, layers}
use Rattle.polar.specs.Encoding.{stage, stages, backward}

alone : (b : Bool) → b ≡ (b && true) ⊕ false
alone true = refl
alone false = refl

and-true : (b : Bool) → b ≡ b && true
and-true true = refl
and-true false = refl

module _ (K : ℕ → Kernel) (pos : (i : ℕ) → 0 < (K i).dim) where
  pub extent-pos : (m : ℕ) → 0 < extent K m
  extent-pos zero = omega arith
  extent-pos (suc m) = mul-pos (pos m) (extent-pos m)

  -- In each block the stages make the word of the block.
  pub stages-at : (m : ℕ) (x : ℕ → Bool) (b p : ℕ) → p < extent K m
      → stages K m x (extent K m * b + p) ≡ parity (extent K m) (λ i. x (extent K m * b + i) && factor K m i p)
  unfolding stages parity
  stages-at zero x b p l = let e : 1 * b + p ≡ 1 * b + 0 = omega arith in ap x e ∙ alone (x (1 * b + 0))
  stages-at (suc m) x b p l =
      let n : ℕ = extent K m in
      let w : ℕ = (K m).dim in
      let B = (K m).entry in
      let y = stages K m x in
      let j : ℕ = p / w in
      let lj : j < n = (div-lt_iff_lt-mul (pos m)).1 (rw (mul_comm n w) l) in
      let whole : w * n * b + p ≡ w * (n * b) + p = ap (λ z. z + p) (mul_assoc w n b) in
      let e₁ : (w * n * b + p) / (w * n) ≡ b = quot (w * n) b p l in
      let e₂ : (w * n * b + p) / w % n ≡ j = ap (λ z. z / w % n) whole ∙ ap (λ z. z % n) (mul-add-div (pos m) (n * b) p) ∙ rest n b j lj in
      let e₃ : (w * n * b + p) % w ≡ p % w = ap (λ z. z % w) whole ∙ mul-add-mod_self_left w (n * b) p in
      let at : (r s : ℕ) → w * n * b + (n * r + s) ≡ n * (w * b + r) + s = λ r s.
      ap (λ z. z + (n * r + s)) (ap (λ z. z * b) (mul_comm w n) ∙ mul_assoc n w b) ∙ sym (add_assoc (n * (w * b)) (n * r) s) ∙ ap (λ z. z + s) (sym (mul-add n (w * b) r)) in
      parity-cong w (λ r lr.
      ap₂ (λ i c. y i && c)
      (ap₂ (λ q d. w * n * q + (n * r + d)) e₁ e₂ ∙ at r j)
      (ap (B r) e₃)
      ∙ ap (λ c. c && B r (p % w)) (stages-at m x (w * b + r) j lj)
      ∙ parity-and n (λ s. x (n * (w * b + r) + s) && factor K m s j) (B r (p % w))
      ∙ parity-cong n (λ s ls.
      and_assoc (x (n * (w * b + r) + s)) (factor K m s j) (B r (p % w))
      ∙ ap₂ (λ i c. x i && c) (sym (at r s)) (ap₂ (λ d q. factor K m d j && B q (p % w)) (sym (rest n r s ls)) (sym (quot n r s ls)))))
      ∙ sym (parity-blocks w n (λ i. x (w * n * b + i) && (factor K m (i % n) j && B (i / n) (p % w))))

  -- So the stages make the frame's word.
  pub stages-word : (m : ℕ) (u : List Bool) (p : ℕ) → p < extent K m → stages K m (bit u) p ≡ (layers K m).word u p
  stages-word m u p l =
      let e : (i : ℕ) → extent K m * 0 + i ≡ i = λ i. omega (arith, mul-zero (extent K m)) in
      ap (stages K m (bit u)) (sym (e p)) ∙ stages-at m (bit u) 0 p l ∙ parity-cong (extent K m) (λ i _. ap (λ z. bit u z && factor K m i p) (e i))

-- ---- the other end: the innermost layer apart

-- A number in digits.
module _ (i N n : ℕ) (N-pos : 0 < N) (n_pos : 0 < n) where
  low : i % (N * n) % n ≡ i % n
  low = ap (λ z. z % n) (mod-mul i N-pos n_pos ∙ ap (λ z. z + i % n) (mul_comm (i / n % N) n)) ∙ rest n (i / n % N) (i % n) (mod-lt i n_pos)

  high : i % (N * n) / n ≡ i / n % N
  high = ap (λ z. z / n) (mod-mul i N-pos n_pos ∙ ap (λ z. z + i % n) (mul_comm (i / n % N) n)) ∙ quot n (i / n % N) (i % n) (mod-lt i n_pos)

abbrev pub next : (ℕ → Kernel) → ℕ → Kernel
next L i = L (suc i)

module _ (L : ℕ → Kernel) (pos : (i : ℕ) → 0 < (L i).dim) where
  pub extent-peel : (m : ℕ) → extent L (suc m) ≡ extent (next L) m * (L 0).dim
  extent-peel zero = mul_comm (L 0).dim 1
  extent-peel (suc m) = ap (λ z. (L (suc m)).dim * z) (extent-peel m) ∙ sym (mul_assoc (L (suc m)).dim (extent (next L) m) (L 0).dim)

  pub factor-peel : (m i p : ℕ) → i < extent L (suc m) → p < extent L (suc m)
      → factor L (suc m) i p ≡ (L 0).entry (i % (L 0).dim) (p / extent (next L) m) && factor (next L) m (i / (L 0).dim) (p % extent (next L) m)
  factor-peel zero i p li lp =
      let n : ℕ = (L 0).dim in
      let li' : i < n = rw (← (mul-one n)) li in
      let lp' : p < n = rw (← (mul-one n)) lp in
      ap₂ (λ a b. (L 0).entry a b) (div-one i ∙ sym (mod-eq_of_lt li')) (mod-eq_of_lt lp' ∙ sym (div-one p)) ∙ and-true ((L 0).entry (i % n) (p / 1))
  factor-peel (suc m) i p li lp =
      let n : ℕ = (L 0).dim in
      let N : ℕ = extent (next L) m in
      let d : ℕ = (L (suc m)).dim in
      let E : ℕ = extent L (suc m) in
      let e : E ≡ N * n = extent-peel m in
      let E_pos : 0 < E = extent-pos L pos (suc m) in
      let N-pos : 0 < N = extent-pos (next L) (λ i. pos (suc i)) m in
      let lq : p / d < E = (div-lt_iff_lt-mul (pos (suc m))).1 (rw (mul_comm E d) lp) in
      ap (λ c. c && (L (suc m)).entry (i / E) (p % d)) (factor-peel m (i % E) (p / d) (mod-lt i E_pos) lq)
      ∙ ap₂ (λ a b. a && factor (next L) m (i % E / n) (p / d % N) && b)
      (ap₂ (λ a b. (L 0).entry a b) (ap (λ z. i % z % n) e ∙ low i N n N-pos (pos 0)) (div-div-eq-div-mul p d N))
      (ap₂ (λ a b. (L (suc m)).entry a b) (ap (λ z. i / z) (e ∙ mul_comm N n) ∙ sym (div-div-eq-div-mul i n N)) (sym (ap (λ z. p % z % d) (mul_comm d N) ∙ low p N d N-pos (pos (suc m)))))
      ∙ ap₂ (λ a b. (L 0).entry (i % n) (p / (d * N)) && factor (next L) m a b && (L (suc m)).entry (i / n / N) (p % (d * N) % d))
      (ap (λ z. i % z / n) e ∙ high i N n N-pos (pos 0))
      (sym (ap (λ z. p % z / d) (mul_comm d N) ∙ high p N d N-pos (pos (suc m))))
      ∙ and_assoc ((L 0).entry (i % n) (p / (d * N))) (factor (next L) m (i / n % N) (p % (d * N) / d)) ((L (suc m)).entry (i / n / N) (p % (d * N) % d))

  -- The frame with its innermost kernel apart.
  pub layers-peel : (m : ℕ) (u : List Bool) (p : ℕ) → p < extent L (suc m)
      → (layers L (suc m)).word u p ≡ (staged (code (L 0)) (layers (next L) m)).word u p
  layers-peel m u p l =
      let n : ℕ = (L 0).dim in
      let N : ℕ = extent (next L) m in
      parity-cong (extent L (suc m)) (λ i li. ap (λ c. bit u i && c) (factor-peel m i p li l))
      ∙ ap (λ z. parity z (λ i. bit u i && ((L 0).entry (i % n) (p / N) && factor (next L) m (i / n) (p % N)))) (extent-peel m)
      ∙ sym (stages-matrix n n N N (L 0).entry (factor (next L) m) u p)

-- ---- undoing by the same stages

-- What undoes C may be replaced by a code of the same words.
pub undone-same : (C D E : Code) → UndoneBy C D → E.size ≡ D.size → E.places ≡ D.places
    → ((u : List Bool) (p : ℕ) → p < D.places → E.word u p ≡ D.word u p) → UndoneBy C E
undone-same C D E h es ep w = record {
  back = es ∙ h.back;
  there = ep ∙ h.there;
  undo = λ u e i l. w (tabulate C.places (C.word u)) i (rw h.there l) ∙ h.undo u e i l;
}

pub same-undone : (C D E : Code) → UndoneBy D C → E.size ≡ D.size → E.places ≡ D.places
    → ((u : List Bool) (p : ℕ) → p < D.places → E.word u p ≡ D.word u p) → UndoneBy E C
same-undone C D E h es ep w = record {
  back = h.back ∙ sym ep;
  there = h.there ∙ sym es;
  undo = λ u e i l.
      ap (λ v. C.word v i) (ap (λ n. tabulate n (E.word u)) ep ∙ tabulate-cong D.places (λ p lp. w u p lp))
      ∙ h.undo u (e ∙ es) i (rw (← es) l);
}

module _ (K : ℕ → Kernel) (v : (i : ℕ) → Invertible (K i)) (pos : (i : ℕ) → 0 < (K i).dim) where
  back-pos : (m i : ℕ) → 0 < (backward K v m i).dim
  back-pos zero i = pos i
  back-pos (suc m) zero = pos m
  back-pos (suc m) (suc i) = back-pos m i

  abbrev pub undoing : ℕ → Code
  undoing m = layers (backward K v m) m

  back-extent : (m : ℕ) → extent (backward K v m) m ≡ extent K m
  back-extent zero = refl
  back-extent (suc m) = extent-peel (backward K v (suc m)) (back-pos (suc m)) m ∙ mul_comm (extent (backward K v m) m) (K m).dim ∙ ap (λ z. (K m).dim * z) (back-extent m)

  peeled : (m : ℕ) → extent (backward K v (suc m)) (suc m) ≡ (K m).dim * extent (backward K v m) m
  peeled m = extent-peel (backward K v (suc m)) (back-pos (suc m)) m ∙ mul_comm (extent (backward K v m) m) (K m).dim

  peeled-word : (m : ℕ) (u : List Bool) (p : ℕ) → p < (K m).dim * extent (backward K v m) m
      → (undoing (suc m)).word u p ≡ (staged (code (inverted (K m) (v m))) (undoing m)).word u p
  peeled-word m u p l = layers-peel (backward K v (suc m)) (back-pos (suc m)) m u p (rw (peeled m) l)

  -- The inverse kernels in the other order undo a frame,
  pub layers-undone : (m : ℕ) → UndoneBy (layers K m) (undoing m)
  unfolding unit-invertible
  layers-undone zero = layers-undo K v 0
  layers-undone (suc m) =
      undone-same (layers K (suc m)) (staged (code (inverted (K m) (v m))) (undoing m)) (undoing (suc m))
      (rw (layers-next K v m) (staged-undo (layers K m) (code (K m)) (undoing m) (code (inverted (K m) (v m))) (layers-undone m) (coder (K m) (v m)).undo))
      (extent-peel (backward K v (suc m)) (back-pos (suc m)) m) (peeled m) (peeled-word m)

  -- and are undone by it.
  pub layers-redone : (m : ℕ) → UndoneBy (undoing m) (layers K m)
  unfolding unit-invertible
  layers-redone zero = layers-redo K v 0
  layers-redone (suc m) =
      same-undone (layers K (suc m)) (staged (code (inverted (K m) (v m))) (undoing m)) (undoing (suc m))
      (rw (layers-next K v m) (staged-undo (code (inverted (K m) (v m))) (undoing m) (code (K m)) (layers K m) (coder (K m) (v m)).redo (layers-redone m)))
      (extent-peel (backward K v (suc m)) (back-pos (suc m)) m) (peeled m) (peeled-word m)
