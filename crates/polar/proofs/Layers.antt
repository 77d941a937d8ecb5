-- Frames of any number of layers: one layer theorem, one undoing and one sum for all of them. Assumes nothing.
use mathlib.Core.Path.{◌≡◌, refl, sym, ap, ap₂, ◌∙◌, fun_ext, subst⁻¹}
use mathlib.Core.Bool.{Bool, true, ◌&&◌}
use mathlib.Core.List.{List, [], ◌∷◌, ◌++◌, map}
use Prim.Native.Nat.{ℕ, zero, suc, ◌+◌, ◌*◌, ◌/◌, ◌%◌, ◌^◌, ◌<◌}
use native.Mathlib.Nat.{mul_comm, mul-suc, mul-le-mul_left, mul-one, div-one, mod-eq_of_lt, div-lt_iff_lt-mul, pow-zero, pow-succ'}
use native.Mathlib.Omega.{arith}
use lib.Dec.{eqb}
use lib.ListN.{length, drop}
use lib.IntN.{ℤ}
use Rattle.base.specs.Bit.{bit, parity}
use Rattle.base.proofs.Bool.{parity-cong}
use Rattle.polar.specs.Code.{Costs, least, score, Onto, UndoneBy}
use Rattle.polar.specs.Kernel.{Kernel, code, Invertible}
use Rattle.polar.specs.Frame.{frame, extent, factor, layers}
use Rattle.polar.specs.Stages.{rows, staged, pairs, soft}
use Rattle.polar.proofs.Layer.{parted, layer-next, pos-right}
use Rattle.polar.proofs.Values.{layer-scores-next}
use Rattle.polar.proofs.Undo.{Coder, coder-onto, layered}
use Rattle.polar.proofs.Matrix.{coder}
use Rattle.polar.proofs.Frame.{same_code, stages-matrix, frame-staged, formula}
use Rattle.polar.proofs.Alike.{Alike}

-- The kernel of one symbol, which is its word.
abbrev pub unit : Kernel
unit = record { dim = 1; entry = λ _ _. true }

pub zero-only : (s : ℕ) → s < 1 → s ≡ 0
zero-only s l = omega arith

unfoldable pub unit-invertible : Invertible unit
unfolding parity
unit-invertible = record {
  inverse = λ _ _. true;
  right = λ s j ls lj. ap₂ (λ x y. eqb x y) (sym (zero-only s ls)) (sym (zero-only j lj));
  left = λ s j ls lj. ap₂ (λ x y. eqb x y) (sym (zero-only s ls)) (sym (zero-only j lj));
}

-- Coders in layers: coder 0 innermost, each further one around those before it.
abbrev pub tower : (ℕ → Coder) → ℕ → Coder
tower K zero = coder unit unit-invertible
tower K (suc m) = layered (tower K m) (K m)

-- The least after the symbols q and b: each outer layer turns the costs of its places into costs of the places of the frame inside it.
unfoldable pub least_by_paths : (ℕ → Coder) → ℕ → Costs → List Bool → Bool → ℕ
least_by_paths K zero c q b = least (code unit) c (q ++ (b ∷ []))
least_by_paths K (suc m) c q b =
    let A = (tower K m).enc in
    let r : ℕ = length q / A.size in
    least_by_paths K m (pairs A (K m).enc c (rows A.size r q)) (drop (r * A.size) q) b

-- The layer theorem in least totals, for any number of layers.
pub tower-least : (K : ℕ → Coder) (m : ℕ) (c : Costs) (q : List Bool) (b : Bool) → length q < (tower K m).enc.size
    → least (tower K m).enc c (q ++ (b ∷ [])) ≡ least_by_paths K m c q b
unfolding least_by_paths
tower-least K zero c q b l = refl
tower-least K (suc m) c q b l =
    let A = (tower K m).enc in
    let B = (K m).enc in
    let r : ℕ = length q / A.size in
    layer-next A B (coder-onto (tower K m)) c q b l
    ∙ tower-least K m (pairs A B c (rows A.size r q)) (drop (r * A.size) q) b (parted A.size B.size q l).in_row

-- The same in scores: each outer layer turns the values of its places into values of the places of the frame inside it.
unfoldable pub score_by : (ℕ → Coder) → ℕ → Costs → List Bool → ℤ
score_by K zero c q = score (code unit) c q
score_by K (suc m) c q =
    let A = (tower K m).enc in
    let r : ℕ = length q / A.size in
    score_by K m (soft A (K m).enc c (rows A.size r q)) (drop (r * A.size) q)

pub tower-scores : (K : ℕ → Coder) (m : ℕ) (c : Costs) (q : List Bool) → length q < (tower K m).enc.size
    → score (tower K m).enc c q ≡ score_by K m c q
unfolding score_by
tower-scores K zero c q l = refl
tower-scores K (suc m) c q l =
    let A = (tower K m).enc in
    let B = (K m).enc in
    let r : ℕ = length q / A.size in
    layer-scores-next A B (coder-onto (tower K m)) c q l
    ∙ tower-scores K m (soft A B c (rows A.size r q)) (drop (r * A.size) q) (parted A.size B.size q l).in_row

-- ---- layers of kernels

abbrev pub coders : (K : ℕ → Kernel) → ((i : ℕ) → Invertible (K i)) → ℕ → Coder
coders K v i = coder (K i) (v i)

-- Size and places of such a frame,
pub tower-size : (K : ℕ → Kernel) (v : (i : ℕ) → Invertible (K i)) (m : ℕ) → (tower (coders K v) m).enc.size ≡ extent K m
tower-size K v zero = refl
tower-size K v (suc m) = ap (λ n. (K m).dim * n) (tower-size K v m)

pub tower-places : (K : ℕ → Kernel) (v : (i : ℕ) → Invertible (K i)) (m : ℕ) → (tower (coders K v) m).enc.places ≡ extent K m
tower-places K v zero = refl
tower-places K v (suc m) = ap (λ n. n * (K m).dim) (tower-places K v m) ∙ mul_comm (extent K m) (K m).dim

-- and its word by one sum over all symbols.
pub tower-word : (K : ℕ → Kernel) (v : (i : ℕ) → Invertible (K i)) (m : ℕ) (u : List Bool) (p : ℕ)
    → (tower (coders K v) m).enc.word u p ≡ parity (extent K m) (λ i. bit u i && factor K m i p)
tower-word K v zero u p = refl
tower-word K v (suc m) u p =
    let n : ℕ = extent K m in
    let w : ℕ = (K m).dim in
    ap (λ n. (code (K m)).word (map (λ x. (tower (coders K v) m).enc.word x (p / w)) (rows n w u)) (p % w)) (tower-size K v m)
    ∙ ap (λ (f : List Bool → Bool). (code (K m)).word (map f (rows n w u)) (p % w)) (fun_ext (λ x. tower-word K v m x (p / w)))
    ∙ stages-matrix n n w w (factor K m) (K m).entry u p

-- So the frame by the sum is the one in stages.
pub layers-tower : (K : ℕ → Kernel) (v : (i : ℕ) → Invertible (K i)) (m : ℕ) → layers K m ≡ (tower (coders K v) m).enc
layers-tower K v m =
    same_code (layers K m) (tower (coders K v) m).enc (sym (tower-size K v m)) (sym (tower-places K v m)) (λ u p. sym (tower-word K v m u p))

-- The layer theorem of a frame of any number of layers, in least totals,
pub layers-least : (K : ℕ → Kernel) (v : (i : ℕ) → Invertible (K i)) (m : ℕ) (c : Costs) (q : List Bool) (b : Bool) → length q < extent K m
    → least (layers K m) c (q ++ (b ∷ [])) ≡ least_by_paths (coders K v) m c q b
layers-least K v m c q b l =
    ap (λ C. least C c (q ++ (b ∷ []))) (layers-tower K v m) ∙ tower-least (coders K v) m c q b (rw (tower-size K v m) l)

-- and in scores.
pub layers-scores : (K : ℕ → Kernel) (v : (i : ℕ) → Invertible (K i)) (m : ℕ) (c : Costs) (q : List Bool) → length q < extent K m
    → score (layers K m) c q ≡ score_by (coders K v) m c q
layers-scores K v m c q l = ap (λ C. score C c q) (layers-tower K v m) ∙ tower-scores (coders K v) m c q (rw (tower-size K v m) l)

-- A frame of any number of layers is undone by the inverse kernels in stages, nested the other way,
pub layers-undo : (K : ℕ → Kernel) (v : (i : ℕ) → Invertible (K i)) (m : ℕ) → UndoneBy (layers K m) (tower (coders K v) m).dec
layers-undo K v m = rw (layers-tower K v m) (tower (coders K v) m).undo

-- and undoes them.
pub layers-redo : (K : ℕ → Kernel) (v : (i : ℕ) → Invertible (K i)) (m : ℕ) → UndoneBy (tower (coders K v) m).dec (layers K m)
layers-redo K v m = rw (layers-tower K v m) (tower (coders K v) m).redo

-- Every word of such a frame's size is one of its words.
pub layers-onto : (K : ℕ → Kernel) (v : (i : ℕ) → Invertible (K i)) (m : ℕ) → Onto (layers K m)
layers-onto K v m = subst⁻¹ Onto (layers-tower K v m) (coder-onto (tower (coders K v) m))

-- A further layer around m of them: their frame in two stages.
pub layers-next : (K : ℕ → Kernel) (v : (i : ℕ) → Invertible (K i)) (m : ℕ) → layers K (suc m) ≡ staged (layers K m) (code (K m))
layers-next K v m = layers-tower K v (suc m) ∙ ap (λ C. staged C (code (K m))) (sym (layers-tower K v m))

-- Kernels of n symbols in m layers make frames of n to the power m.
pub extent-power : (n : ℕ) (K : ℕ → Kernel) → ((i : ℕ) → (K i).dim ≡ n) → (m : ℕ) → extent K m ≡ n ^ m
extent-power n K h zero = rw pow-zero
extent-power n K h (suc m) = rw pow-succ' (ap₂ ◌*◌ (h m) (extent-power n K h m))

-- ---- one layer and two

module _ (K : ℕ → Kernel) where
  -- A frame of one layer is its kernel,
  pub layers-one : Alike (layers K 1) (code (K 0))
  layers-one = record {
    sizes = mul-one (K 0).dim;
    as_many = mul-one (K 0).dim;
    words = λ u p l.
        ap (λ n. parity n (λ i. bit u i && (K 0).entry (i / 1) (p % (K 0).dim))) (mul-one (K 0).dim)
        ∙ parity-cong (K 0).dim (λ i _. ap₂ (λ a b. bit u i && (K 0).entry a b) (div-one i) (mod-eq_of_lt l));
  }

  -- and one of two layers the paper's frame of inner kernel K 0 and outer kernel K 1.
  pub frame-layers : Alike (layers K 2) (frame (K 0) (K 1))
  frame-layers =
      let A = K 0 in
      let B = K 1 in
      let n : ℕ = A.dim in
      let w : ℕ = B.dim in
      record {
        sizes = ap (λ z. w * z) (mul-one n);
        as_many = ap (λ z. w * z) (mul-one n) ∙ mul_comm w n;
        words = λ u p l.
            let pos : 0 < w = pos-right p n w l in
            let lj : p / w < n = (div-lt_iff_lt-mul pos).1 l in
            ap (λ z. parity (w * z) (λ i. bit u i && (A.entry (i % z / 1) (p / w % n) && B.entry (i / z) (p % w)))) (mul-one n)
            ∙ parity-cong (w * n) (λ i _. ap₂ (λ a b. bit u i && (A.entry a b && B.entry (i / n) (p % w))) (div-one (i % n)) (mod-eq_of_lt lj))
            ∙ sym (stages-matrix n n w w A.entry B.entry u p)
            ∙ ap (λ C. C.word u p) (sym (frame-staged A B));
      }

  -- So its word is the paper's sum: c[wj+t] is the sum over r, s of u[nr+s] × A[s][j] × B[r][t].
  pub layers-formula : (u : List Bool) (j t : ℕ) → j < (K 0).dim → t < (K 1).dim
      → (layers K 2).word u ((K 1).dim * j + t)
      ≡ parity (K 1).dim (λ r. parity (K 0).dim (λ s. bit u ((K 0).dim * r + s) && (K 0).entry s j && (K 1).entry r t))
  layers-formula u j t lj lt =
      let n : ℕ = (K 0).dim in
      let w : ℕ = (K 1).dim in
      frame-layers.words u (w * j + t) (in_frame w n j t lj lt) ∙ formula (K 0) (K 1) u j t lt
    where
      in_frame : (w n j t : ℕ) → j < n → t < w → w * j + t < n * w
      in_frame w n j t lj lt = omega (arith, mul-le-mul_left w lj, mul-suc w j, mul_comm w n)
