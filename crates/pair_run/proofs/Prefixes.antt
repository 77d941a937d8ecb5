-- The rows of a frame so far: their symbols, and the columns that they make. Plane r has the word of row r. Assumes nothing.
use mathlib.Core.Path.{◌≡◌, refl, sym, ap, ap₂, ◌∙◌}
use mathlib.Core.Bool.{Bool, false}
use mathlib.Core.List.{List, [], ◌∷◌, ◌++◌, map}
use Prim.Native.Nat.{ℕ, zero, suc, ◌+◌, ◌*◌, ◌≤◌, ◌<◌}
use native.Mathlib.Nat.{suc-mul, zero-mul}
use native.Mathlib.Numerals.{add-one}
use native.Mathlib.Decide.{dec_lt}
use native.Mathlib.Omega.{arith}
use lib.ListN.{length, get_or, set, drop, length-append, length-drop, get_or-append}
use lib.Seq.{take_all, take-append-le, drop-append-le, get_or-append-add, get_or-set_same, get_or-set_other}
use Rattle.base.specs.Bit.{bit}
use Rattle.base.proofs.List.{tabulate-next}
use Rattle.bits.specs.Packed.{bits}
use Rattle.bits.proofs.Packed.{length-bits}
use Rattle.polar.specs.Code.{Code}
use Rattle.polar.specs.Stages.{rows, column}
use Rattle.kernel.specs.Rows.{row_bit}
use Rattle.lane.specs.Lanes.{lane_bit}
use Rattle.lane_phases.specs.Rows.{column as lane_column}
use Rattle.pair_run.specs.Run.{front}

pub length_front : (n : ℕ) (rows : List ℕ) → length (front n rows) ≡ n * 16
unfolding front
length_front zero rows = sym (zero-mul 16)
length_front (suc n) rows = length-append (front n rows) _ ∙ rw (length-bits, suc-mul) (omega (arith, length_front n rows))

-- A later row does not matter.
pub front-set : (n : ℕ) (rows : List ℕ) (i x : ℕ) → n ≤ i → front n (set rows i x) ≡ front n rows
unfolding front
front-set zero rows i x l = refl
front-set (suc n) rows i x l = ap₂ (λ u y. u ++ bits 16 y) (front-set n rows i x (omega arith)) (get_or-set_other rows i n x 0 (λ e. omega arith))

-- One row more.
pub front-next : (n : ℕ) (rows : List ℕ) (x : ℕ) → n < length rows → front (suc n) (set rows n x) ≡ front n rows ++ bits 16 x
unfolding front
front-next n rows x l = ap₂ (λ u y. u ++ bits 16 y) (front-set n rows n x (omega arith)) (get_or-set_same rows n x 0 l)

-- Bit s of row r.
pub front_at : (n : ℕ) (rows : List ℕ) (r s : ℕ) → r < n → s < 16 → bit (front n rows) (16 * r + s) ≡ row_bit rows r s
unfolding front
front_at zero rows r s l ls = absurd (omega arith)
front_at (suc n) rows r s l ls = go (dec_lt r n) (λ h. front_at n rows r s h ls)
  where
    go : Dec (r < n) → (r < n → bit (front n rows) (16 * r + s) ≡ row_bit rows r s) → bit (front n rows ++ bits 16 (get_or rows n 0)) (16 * r + s) ≡ row_bit rows r s
    go (yes h) ih = get_or-append (front n rows) (bits 16 (get_or rows n 0)) false (16 * r + s) (omega (arith, length_front n rows)) ∙ ih h
    go (no h) ih =
        let e : r ≡ n = omega arith in
        let i : 16 * r + s ≡ length (front n rows) + s = omega (arith, length_front n rows) in
        ap (bit (front n rows ++ bits 16 (get_or rows n 0))) i ∙ get_or-append-add (front n rows) (bits 16 (get_or rows n 0)) s false ∙ ap (λ k. row_bit rows k s) (sym e)

-- Rows of a list with one row more.
rows_next : (n r : ℕ) (u p : List Bool) → length u ≡ r * n → length p ≡ n → rows n (suc r) (u ++ p) ≡ rows n r u ++ (p ∷ [])
unfolding rows
rows_next n zero [] p lu lp = ap (λ q. q ∷ []) (take_all n p (omega arith))
rows_next n zero (x ∷ u) p lu lp = absurd (omega (arith, zero-mul n))
rows_next n (suc r) u p lu lp =
    let l : n ≤ length u = omega (arith, suc-mul r n) in
    let d : length (drop n u) ≡ r * n = length-drop n u ∙ omega (arith, suc-mul r n) in
    ap₂ (λ q (U : List (List Bool)). q ∷ U)
    (take-append-le n u p l)
    (ap (rows n (suc r)) (drop-append-le n u p l) ∙ rows_next n r (drop n u) p d lp)

map_next : (f : List Bool → Bool) (U : List (List Bool)) (p : List Bool) → map f (U ++ (p ∷ [])) ≡ map f U ++ (f p ∷ [])
map_next f [] p = refl
map_next f (q ∷ U) p = ap (λ l. f q ∷ l) (map_next f U p)

-- Each column has one bit more.
pub column-next : (A : Code) (r : ℕ) (u p : List Bool) (j : ℕ) → length u ≡ r * 16 → length p ≡ 16
    → column A (rows 16 (suc r) (u ++ p)) j ≡ column A (rows 16 r u) j ++ (A.word p j ∷ [])
column-next A r u p j lu lp = ap (map (λ v. A.word v j)) (rows_next 16 r u p lu lp) ∙ map_next (λ v. A.word v j) (rows 16 r u) p

-- The same with one plane more.
pub planes-next : (planes : List ℕ) (r w j : ℕ) → r < length planes → lane_column (set planes r w) (r + 1) j ≡ lane_column planes r j ++ (lane_bit w j ∷ [])
planes-next planes r w j l =
    ap (λ n. lane_column (set planes r w) n j) (add-one r)
    ∙ tabulate-next r _ (λ s. lane_bit (get_or planes s 0) j) (λ s ls. ap (λ x. lane_bit x j) (get_or-set_other planes r s w 0 (λ e. omega arith)))
    ∙ ap (λ x. lane_column planes r j ++ (lane_bit x j ∷ [])) (get_or-set_same planes r w 0 l)
