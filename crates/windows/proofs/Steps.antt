-- One phase after another: the rows hold the best scores of the paths, and their difference is the score. Assumes nothing.
use mathlib.Core.Path.{◌≡◌, refl, sym, ap, ap₂, ◌∙◌, subst, subst⁻¹}
use mathlib.Core.Bool.{Bool, true, false}
use mathlib.Core.List.{List, [], ◌∷◌, ◌++◌}
use Prim.Native.Nat.{ℕ, zero, suc, ◌+◌, ◌-◌, ◌*◌, ◌^◌, ◌≤◌, ◌<◌}
use native.Mathlib.Numerals.{add-one}
use native.Mathlib.Omega.{arith}
use lib.IntN.{ℤ, pos, neg_ℤ, nat_abs, ◌-ℤ◌}
use lib.ListN.{length, take, get_or, replicate, length-append, length-replicate}
use lib.Seq.{take_all}
use Rattle.base.specs.Bit.{◌⊕◌, bit, digit}
use Rattle.bits.specs.Packed.{bits, number}
use Rattle.bits.proofs.Packed.{length-bits, bits-number}
use Rattle.polar.specs.Code.{Code, Costs, least, best_score, score}
use Rattle.polar.specs.Kernel.{arikan, matrix}
use Rattle.polar.specs.Window.{height, path_of}
use Rattle.polar.specs.Fold.{folded}
use Rattle.polar.proofs.Least.{least-bound}
use Rattle.polar.proofs.Window.{window-least}
use Rattle.folds.specs.Rows.{cell, IsGreatest, least_to}
use Rattle.folds.proofs.Rows.{greatest-least, lowest-index}
use Rattle.kernel.specs.Kernels.{relations, kernel_code}
use Rattle.kernel.specs.Rows.{row_sum}
use Rattle.kernel.proofs.Solved as kernels
use Rattle.kernel.proofs.Undoing.{word-of-v, some-v}
use Rattle.windows.specs.Windows.{window, solution}
use Rattle.windows.specs.Tables.{shape_at, path_rows}
use Rattle.windows.specs.Paths.{Kept, Held, Choice, choice_number, IsDifference}
use Rattle.windows.proofs.Windows.{windowed}
use Rattle.windows.proofs.Tables.{height_at, shaped, fresh, again}
use Rattle.windows.proofs.Paths.{fresh-least, old-number, again-path}

-- Words by v alone.
abbrev v_code : Code
v_code = matrix 16 16 (arikan 4)

-- The number chosen has the bits that were chosen.
pub chosen-bits : (us : List Bool) (b : Bool) (ws : List Bool) → length us + (1 + length ws) ≤ 16 → Choice us b ws (choice_number us b ws)
chosen-bits us b ws l =
    let v = us ++ (b ∷ ws) ++ replicate (16 - (length us + (1 + length ws))) false in
    let e : length v ≡ 16 =
    length-append (us ++ (b ∷ ws)) _ ∙ omega (arith, length-append us (b ∷ ws), length-replicate (16 - (length us + (1 + length ws))) false) in
    ap (λ n. bits n (number v)) (sym e) ∙ bits-number v

next-length : (us : List Bool) (b : Bool) → suc (length us) ≡ length (us ++ (b ∷ []))
next-length us b = sym (length-append us (b ∷ []) ∙ add-one (length us))

module _ (k s : ℕ) (lk : k < 3) (ls : s < 16) (m : Costs) (us : List Bool) (lu : length us ≡ s) where
  -- Rows that hold the least totals of the paths hold their best scores.
  held : (rows : List (List ℤ))
      → ((w : ℕ) (b : Bool) → w < 2 ^ (shape_at k s 0 - s)
      → cell (pos 0) rows w b ≡ neg_ℤ (pos (least v_code m (path_of (solution k (suc s)) (us ++ (b ∷ [])) (bits (shape_at k s 0 - s) w)))))
      → Held k m us rows
  held rows h b = go (length (us ++ (b ∷ []))) (ap suc (sym lu) ∙ next-length us b)
    where
      go : (i : ℕ) → suc s ≡ i → (w : ℕ) → w < 2 ^ length (window k i)
          → get_or (get_or rows (digit b) []) w (pos 0) ≡ best_score v_code m (path_of (solution k i) (us ++ (b ∷ [])) (bits (length (window k i)) w))
      go i e w l =
          let d : shape_at k s 0 - s ≡ length (window k i) = sym (shaped k s lk ls).wide ∙ ap (λ i. length (window k i)) e in
          h w b (rw d l) ∙ ap₂ (λ i d. best_score v_code m (path_of (solution k i) (us ++ (b ∷ [])) (bits d w))) e d

  choice-of : (b : Bool) (w : ℕ) → Choice us b (bits (shape_at k s 0 - s) w) (choice_number us b (bits (shape_at k s 0 - s) w))
  choice-of b w =
      let ws = bits (shape_at k s 0 - s) w in
      chosen-bits us b ws (omega (arith, length-bits (shape_at k s 0 - s) w, (shaped k s lk ls).low, (shaped k s lk ls).reached))

  -- A phase whose relations reach further: the rows that the folds make.
  pub fresh-held : shape_at k s 1 ≡ 0 → (rows : List (List ℤ))
      → ((w : ℕ) (b : Bool) → w < 2 ^ (shape_at k s 0 - s)
      → cell (pos 0) rows w b
      ≡ (let x = row_sum (path_rows k s) (choice_number us false (bits (shape_at k s 0 - s) w)) in
      neg_ℤ (pos (folded 4 (shape_at k s 0) (bit (bits 16 x)) m 0 (bit (bits 16 x) (shape_at k s 0) ⊕ b)))))
      → Held k m us rows
  fresh-held f rows h =
      let t = shaped k s lk ls in
      held rows (λ w b l.
      let ws = bits (shape_at k s 0 - s) w in
      h w b l
      ∙ ap (λ x. neg_ℤ (pos x)) (sym (fresh-least k s (shape_at k s 0) us ws lu (length-bits (shape_at k s 0 - s) w) (omega (arith, t.low)) t.reached t.high t.wide ls
      (fresh k s lk ls f) m (choice_number us false ws) (choice-of false w) b)))

  -- Any other phase: the number of a path before it is small,
  pub again-small : (shape_at k s 1 ≡ 0 → ⊥) → (w : ℕ) (b : Bool) → row_sum (path_rows k s) (choice_number us b (bits (shape_at k s 0 - s) w)) < 2 ^ length (window k s)
  again-small f w b =
      let t = shaped k s lk ls in
      old-number k s (shape_at k s 0) us (bits (shape_at k s 0 - s) w) lu (length-bits (shape_at k s 0 - s) w) (omega (arith, t.low)) t.reached t.high t.wide ls
      (again k s lk ls f) b (choice_number us b (bits (shape_at k s 0 - s) w)) (choice-of b w)

  -- and the rows are read from that of the chosen symbol.
  pub again-held : (shape_at k s 1 ≡ 0 → ⊥) → (kept : List ℤ) → Kept k m us kept → (rows : List (List ℤ))
      → ((w : ℕ) (b : Bool) → w < 2 ^ (shape_at k s 0 - s)
      → cell (pos 0) rows w b ≡ get_or kept (row_sum (path_rows k s) (choice_number us b (bits (shape_at k s 0 - s) w))) (pos 0))
      → Held k m us rows
  again-held f kept h rows e =
      let t = shaped k s lk ls in
      held rows (λ w b l.
      let ws = bits (shape_at k s 0 - s) w in
      e w b l
      ∙ h (row_sum (path_rows k s) (choice_number us b ws)) (subst⁻¹ (λ i. row_sum (path_rows k s) (choice_number us b ws) < 2 ^ length (window k i)) lu (again-small f w b))
      ∙ ap (λ i. best_score v_code m (path_of (solution k i) us (bits (length (window k i)) (row_sum (path_rows k s) (choice_number us b ws))))) lu
      ∙ ap (best_score v_code m) (again-path k s (shape_at k s 0) us ws lu (length-bits (shape_at k s 0 - s) w) (omega (arith, t.low)) t.reached t.high t.wide ls
      (again k s lk ls f) b (choice_number us b ws) (choice-of b w)))

  -- The least total of the kernel's words that begin with us and b, by the paths of the window.
  pub by-paths : (b : Bool) → least (kernel_code k) m (us ++ (b ∷ []))
      ≡ least_to (λ w. least v_code m (path_of (solution k (suc s)) (us ++ (b ∷ [])) (bits (length (window k (suc s))) w))) (2 ^ length (window k (suc s)) - 1)
  by-paths b =
      let rs = relations k in
      let count : length rs ≡ 16 = (kernels.solution k).solves.count in
      let last = shaped k 15 lk (omega arith) in
      let all : take 16 rs ≡ rs = take_all 16 rs (omega arith) in
      let most : height_at k 16 ≤ 16 = omega (arith, last.high, last.low) in
      let fits : height rs ≤ 16 = rw all at most in
      window-least (kernel_code k) v_code 16 rs refl refl refl count (λ v e j _. word-of-v k v e j) (some-v k) fits m (suc s) (omega arith)
      (window k (suc s)) (solution k (suc s)) (windowed k (suc s) (omega arith)) (us ++ (b ∷ [])) (sym (next-length us b) ∙ ap suc lu)
      ∙ lowest-index (length (window k (suc s))) (λ x. least v_code m (path_of (solution k (suc s)) (us ++ (b ∷ [])) x))

  -- The greatest of a row is the best score of those words.
  best-row : (rows : List (List ℤ)) → Held k m us rows → (b : Bool) (r : ℤ) → IsGreatest (get_or rows (digit b) []) (2 ^ (shape_at k s 0 - s)) r
      → r ≡ best_score (kernel_code k) m (us ++ (b ∷ []))
  best-row rows h b r g =
      let d : shape_at k s 0 - s ≡ length (window k (suc s)) = sym (shaped k s lk ls).wide in
      let e : length (us ++ (b ∷ [])) ≡ suc s = sym (next-length us b) ∙ ap suc lu in
      let f : ℕ → ℕ = λ w. least v_code m (path_of (solution k (suc s)) (us ++ (b ∷ [])) (bits (length (window k (suc s))) w)) in
      greatest-least (get_or rows (digit b) []) (2 ^ length (window k (suc s))) r f (rw d at g) (subst (λ i. Row i) e (h b))
      ∙ ap (λ x. neg_ℤ (pos x)) (sym (by-paths b))
    where
      Row : ℕ → Type 0
      Row i = (w : ℕ) → w < 2 ^ length (window k i)
          → get_or (get_or rows (digit b) []) w (pos 0) ≡ best_score v_code m (path_of (solution k i) (us ++ (b ∷ [])) (bits (length (window k i)) w))

  -- So the difference of the two rows' greatest is the score.
  pub held-score : (rows : List (List ℤ)) → Held k m us rows → (r : ℤ) → IsDifference rows (2 ^ (shape_at k s 0 - s)) r → r ≡ score (kernel_code k) m us
  unfolding score
  held-score rows h r l = l.less ∙ ap₂ ◌-ℤ◌ (best-row rows h false l.zero l.zero-greatest) (best-row rows h true l.one l.one-greatest)

  -- No entry is larger in size than sixteen times the largest cost.
  pub held-bound : (rows : List (List ℤ)) → Held k m us rows → (c : ℕ) → ((j : ℕ) (b : Bool) → m j b ≤ c)
      → (w : ℕ) (b : Bool) → w < 2 ^ (shape_at k s 0 - s) → nat_abs (cell (pos 0) rows w b) ≤ 16 * c
  held-bound rows h c most w b l =
      let e : length (us ++ (b ∷ [])) ≡ suc s = sym (next-length us b) ∙ ap suc lu in
      let d : shape_at k s 0 - s ≡ length (window k (length (us ++ (b ∷ [])))) = sym (shaped k s lk ls).wide ∙ ap (λ i. length (window k i)) (sym e) in
      rw (h b w (rw (← d) l)) (rw size (least-bound v_code m c most _))
    where
      size : (x : ℕ) → nat_abs (neg_ℤ (pos x)) ≡ x
      size zero = refl
      size (suc x) = refl
