-- Frames of kernels: their words by the paper's sum are those of two stages, so the layer theorem and the undoing hold of them. Assumes nothing.
use mathlib.Core.Path.{◌≡◌, refl, sym, ap, ap₂, ◌∙◌, fun_ext}
use mathlib.Core.Bool.{Bool, false, ◌&&◌, and_assoc}
use mathlib.Core.List.{List, ◌++◌}
use Prim.Native.Nat.{ℕ, ◌+◌, ◌*◌, ◌/◌, ◌%◌, ◌≤◌, ◌<◌}
use native.Mathlib.Nat.{mod-lt, div-lt_iff_lt-mul}
use lib.ListN.{length, take, drop}
use lib.Seq.{get_or-take, get_or-drop}
use Rattle.base.specs.Bit.{bit, parity}
use Rattle.base.proofs.Bool.{parity-cong, parity-and, parity-blocks}
use Rattle.polar.specs.Code.{Code, Costs, least, score, Onto, UndoneBy}
use Rattle.polar.specs.Kernel.{matrix, Kernel, code, Invertible, inverted}
use Rattle.polar.specs.Frame.{frame}
use Rattle.polar.specs.Stages.{rows, staged, pairs, soft}
use Rattle.polar.proofs.Minima.{quot, rest}
use Rattle.polar.proofs.Layer.{layer, pos-right}
use Rattle.polar.proofs.Values.{layer-scores}
use Rattle.polar.proofs.Undo.{column-at, staged-undo, undo-onto}
use Rattle.polar.proofs.Matrix.{inverted-too, coder, kernel-onto}

-- Codes of one size that have the same bits are the same.
pub same_code : (C D : Code) → C.size ≡ D.size → C.places ≡ D.places → ((u : List Bool) (p : ℕ) → C.word u p ≡ D.word u p) → C ≡ D
same_code C D e f g =
    ap (λ n. make n C.places C.word) e ∙ ap (λ n. make D.size n C.word) f
    ∙ ap (make D.size D.places) (fun_ext (λ u. fun_ext (λ p. g u p)))
  where
    make : ℕ → ℕ → (List Bool → ℕ → Bool) → Code
    make a b w = record { size = a; places = b; word = w }

module _ (n w N W : ℕ) (A B : ℕ → ℕ → Bool) where
  -- The two stages, rows by A and columns by B, make one sum,
  pub stages : (u : List Bool) (p : ℕ)
      → (staged (matrix n w A) (matrix N W B)).word u p ≡ parity N (λ r. parity n (λ s. bit u (n * r + s) && A s (p / W) && B r (p % W)))
  stages u p = parity-cong N (λ r l.
      ap (λ b. b && B r (p % W)) (column-at (matrix n w A) n N u (p / W) r l)
      ∙ parity-and n (λ s. bit (take n (drop (n * r) u)) s && A s (p / W)) (B r (p % W))
      ∙ parity-cong n (λ s h. ap (λ b. b && A s (p / W) && B r (p % W)) (get_or-take n (drop (n * r) u) s false h ∙ get_or-drop (n * r) u s false)))

  -- and one matrix over phases and places.
  pub stages-matrix : (u : List Bool) (p : ℕ)
      → (staged (matrix n w A) (matrix N W B)).word u p ≡ parity (N * n) (λ i. bit u i && (A (i % n) (p / W) && B (i / n) (p % W)))
  stages-matrix u p =
      stages u p
      ∙ parity-cong N (λ r _. parity-cong n (λ s l. and_assoc (bit u (n * r + s)) (A s (p / W)) (B r (p % W))
      ∙ ap₂ (λ q d. bit u (n * r + s) && (A d (p / W) && B q (p % W))) (sym (quot n r s l)) (sym (rest n r s l))))
      ∙ sym (parity-blocks N n (λ i. bit u i && (A (i % n) (p / W) && B (i / n) (p % W))))

-- A frame is its two stages.
pub frame-staged : (A B : Kernel) → frame A B ≡ staged (code A) (code B)
frame-staged A B =
    same_code (frame A B) (staged (code A) (code B)) refl refl
    (λ u p. sym (stages A.dim A.dim B.dim B.dim A.entry B.entry u p))

-- The paper's formula: c[wj+t] is the sum over r, s of u[nr+s] × A[s][j] × B[r][t].
pub formula : (A B : Kernel) (u : List Bool) (j t : ℕ) → t < B.dim
    → (frame A B).word u (B.dim * j + t) ≡ parity B.dim (λ r. parity A.dim (λ s. bit u (A.dim * r + s) && A.entry s j && B.entry r t))
formula A B u j t l =
    ap₂ (λ q d. parity B.dim (λ r. parity A.dim (λ s. bit u (A.dim * r + s) && A.entry s q && B.entry r d)))
    (quot B.dim j t l) (rest B.dim j t l)

-- The frame of the inverses with the layers exchanged undoes a frame.
pub frame-undo : (A B : Kernel) (a : Invertible A) (b : Invertible B) → UndoneBy (frame A B) (frame (inverted B b) (inverted A a))
frame-undo A B a b =
    rw (frame-staged A B, frame-staged (inverted B b) (inverted A a))
    (staged-undo (code A) (code B) (code (inverted A a)) (code (inverted B b)) (coder A a).undo (coder B b).undo)

-- It is undone by that frame too.
pub frame-redo : (A B : Kernel) (a : Invertible A) (b : Invertible B) → UndoneBy (frame (inverted B b) (inverted A a)) (frame A B)
frame-redo A B a b = frame-undo (inverted B b) (inverted A a) (inverted-too B b) (inverted-too A a)

-- Kernels with the same entries make the same words.
pub frame-cong : (n w : ℕ) (A A' B B' : ℕ → ℕ → Bool)
    → ((s j : ℕ) → s < n → j < n → A s j ≡ A' s j) → ((r t : ℕ) → r < w → t < w → B r t ≡ B' r t) → (u : List Bool) (p : ℕ) → p < n * w
    → (frame (record { dim = n; entry = A }) (record { dim = w; entry = B })).word u p
    ≡ (frame (record { dim = n; entry = A' }) (record { dim = w; entry = B' })).word u p
frame-cong n w A A' B B' f g u p l =
    let pos : 0 < w = pos-right p n w l in
    parity-cong w (λ r lr. parity-cong n (λ s ls.
    ap₂ (λ a b. bit u (n * r + s) && a && b) (f s (p / w) ls ((div-lt_iff_lt-mul pos).1 l)) (g r (p % w) lr (mod-lt p pos))))

-- Every word of a frame's size is one of its words.
pub frame-onto : (A B : Kernel) → Invertible A → Invertible B → Onto (frame A B)
frame-onto A B a b =
    undo-onto (frame A B) (frame (inverted B b) (inverted A a)) (frame-redo A B a b)

module _ (A B : Kernel) (a : Invertible A) (m : Costs) (r : ℕ) (u p : List Bool) (e : length u ≡ r * A.dim) (lr : r < B.dim) where
  -- The layer theorem of a frame, in least totals,
  pub frame-least : length p ≤ A.dim → least (frame A B) m (u ++ p) ≡ least (code A) (pairs (code A) (code B) m (rows A.dim r u)) p
  frame-least lp = rw (frame-staged A B) (layer (code A) (kernel-onto A a) (code B) m r u p e lr lp)

  -- and in scores: the inner kernel runs over the outer scores as its channel values.
  pub frame-scores : length p < A.dim → score (frame A B) m (u ++ p) ≡ score (code A) (soft (code A) (code B) m (rows A.dim r u)) p
  frame-scores lp = rw (frame-staged A B) (layer-scores (code A) (code B) (kernel-onto A a) m r u p e lr lp)
