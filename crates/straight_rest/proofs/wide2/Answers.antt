-- `straight_rest::wide2` meets its contract. Assumes nothing.
use mathlib.Core.Path.{◌≡◌, sym, ◌∙◌}
use mathlib.Core.Bool.{Bool, true, false}
use mathlib.Core.List.{List, [], ◌∷◌}
use native.Mathlib.Omega.{arith}
use lib.IntN.{ℤ}
use lib.ListN.{get_or}
use mir.Val.{bool_byte}
use Rattle.base.specs.Bit.{◌⊕◌, bit, tabulate}
use Rattle.polar.specs.Code.{channel, score}
use Rattle.kernel.specs.Kernels.{kernel_code}
use Rattle.folds.specs.Rows.{row_of}
use Rattle.windows.proofs.Following.{byte-digit, byte_small}
use Rattle.values.specs.Value.{Small}
use Rattle.values.specs.Arikan.{arikan_word, best_v}
use Rattle.values.specs.Path.{RowOf}
use Rattle.value_folds.proofs.Carried.{read}
use Rattle.value_folds.proofs.Read.{read_is}
use Rattle.phase_scores.proofs.Kernel2.{score2-5, score2-6, score2-7}
use Rattle.phase_scores.proofs.Rows2.{row-eight, row-nine, row-ten}
use Rattle.quarters.proofs.Index.{below-3}
use Rattle.quarters.proofs.Bounds.{wider}
use Rattle.quarters.proofs.Rows.{row_small, places-small}
use Rattle.straight_rest.proofs.wide2.Goals as goal
use Rattle.straight_rest.proofs.wide2.Goals.{After-lead-first, After-lead-second, After-lead-third, After-step10-last, After-step8-rows, After-step9-next, After-symbol-t, After-symbol-u, After-symbol-v8, Start}

-- The five v that are known, and what follows them.
abbrev known : Start → List Bool → List Bool
known s p = bit s.args.v.now 0 ∷ bit s.args.v.now 1 ∷ bit s.args.v.now 2 ∷ bit s.args.v.now 3 ∷ s.args.v4 ∷ p

-- A row of best scores of paths, each by its v5, v6, v7 and the v after them.
abbrev Row : Start → (Bool → Bool → List Bool) → List ℤ → Type 0
Row s after row = RowOf false (λ x y z. best_v s.args.values.now (known s (x ∷ y ∷ z ∷ after x y))) row

-- After phase 5 that is v8, then v9 too, and then v10.
abbrev after8 : Bool → Bool → Bool → List Bool
after8 v8 x y = v8 ∷ []

abbrev after9 : Bool → Bool → Bool → Bool → List Bool
after9 v8 u x y = v8 ∷ (u ⊕ y) ∷ []

abbrev after10 : Bool → Bool → Bool → Bool → Bool → List Bool
after10 v8 u t x y = v8 ∷ (u ⊕ y) ∷ (t ⊕ (x ⊕ y)) ∷ []

-- Of two rows the one that a bit picks.
chosen-row : (s : Start) (after : Bool → Bool → List Bool) (rows : List (List ℤ)) (b : Bool) → Row s after (row_of rows b) → Row s after (get_or rows (bool_byte b) [])
chosen-row s after rows b h = rw (byte-digit b) h

-- A row and the places fit.
row_fits : (s : Start) (after : Bool → Bool → List Bool) (row : List ℤ) → Row s after row → Small 16777216 8 row
row_fits s after row h = row_small s.args.values.now s.requires.values_len.0 s.requires.values_len.1 false (λ x y z. known s (x ∷ y ∷ z ∷ after x y)) row h

places-are : (s : Start) → Small 2097152 8 s.args.places.now
places-are s = places-small s.args.values.now s.requires.values_len.0 s.requires.values_len.1 (arikan_word 3 (known s (false ∷ false ∷ false ∷ []))) false s.args.places.now s.requires.b_value

pub step8-rows-requires : goal.step8-rows-requires
step8-rows-requires c = (row_fits (goal.at.step8-rows-requires c).Start (λ x y. []) c.args.row.now c.requires.row_of, wider 2097152 8388608 8 c.args.places.now (omega arith) (places-are (goal.at.step8-rows-requires c).Start))

-- The rows of v8, and the score of phase 5.
eight : (c : After-step8-rows) (b : Bool) → Row (goal.at.After-step8-rows c).Start (after8 b) (row_of c.step8-rows.result b)
eight c b =
    let s = c in
    let v = s.args.v.now in
    row-eight s.args.values.now (bit v 0) (bit v 1) (bit v 2) (bit v 3) s.args.v4 s.args.places.now s.requires.b_value s.args.row.now c.step8-rows.result b s.requires.row_of c.step8-rows.ensures

first-is : (c : After-lead-first) → read c.lead-first.result ≡ score (kernel_code 2) (channel c.args.values.now) (known (goal.at.After-lead-first c).Start [])
first-is c =
    let s = c in
    let v = s.args.v.now in
    read_is c.lead-first.result c.lead-first.type_inv ∙ c.lead-first.ensures
    ∙ sym (score2-5 s.args.values.now (bit v 0) (bit v 1) (bit v 2) (bit v 3) s.args.v4 (row_of c.step8-rows.result false) (row_of c.step8-rows.result true) (eight (goal.at.After-lead-first c).After-step8-rows false) (eight (goal.at.After-lead-first c).After-step8-rows true))

pub lead-first-requires : goal.lead-first-requires
lead-first-requires c = (
  row_fits (goal.at.lead-first-requires c).Start (after8 false) (row_of c.step8-rows.result false) (eight (goal.at.lead-first-requires c).After-step8-rows false),
  row_fits (goal.at.lead-first-requires c).Start (after8 true) (row_of c.step8-rows.result true) (eight (goal.at.lead-first-requires c).After-step8-rows true),
)

pub offset_bounds-rows-v8 : goal.offset_bounds-rows-v8
offset_bounds-rows-v8 c = omega (arith, byte_small c.symbol-v8.result)

-- The row that v8 picks.
eight-chosen : (c : After-symbol-v8) → Row (goal.at.After-symbol-v8 c).Start (after8 c.symbol-v8.result) (get_or c.step8-rows.result (bool_byte c.symbol-v8.result) [])
eight-chosen c = chosen-row (goal.at.After-symbol-v8 c).Start (after8 c.symbol-v8.result) c.step8-rows.result c.symbol-v8.result (eight (goal.at.After-symbol-v8 c).After-step8-rows c.symbol-v8.result)

pub step9-next-requires : goal.step9-next-requires
step9-next-requires c = (
  row_fits (goal.at.step9-next-requires c).Start (after8 c.symbol-v8.result) (get_or c.step8-rows.result (bool_byte c.symbol-v8.result) []) (eight-chosen (goal.at.step9-next-requires c).After-symbol-v8),
  wider 2097152 4194304 8 c.args.places.now (omega arith) (places-are (goal.at.step9-next-requires c).Start),
)

-- The rows of v6 + v9, and the score of phase 6.
nine : (c : After-step9-next) (b : Bool) → Row (goal.at.After-step9-next c).Start (after9 c.symbol-v8.result b) (row_of c.step9-next.result b)
nine c b =
    let s = c in
    let v = s.args.v.now in
    row-nine s.args.values.now (bit v 0) (bit v 1) (bit v 2) (bit v 3) s.args.v4 s.args.places.now s.requires.b_value c.symbol-v8.result (get_or c.step8-rows.result (bool_byte c.symbol-v8.result) []) c.step9-next.result b (eight-chosen (goal.at.After-step9-next c).After-symbol-v8) c.step9-next.ensures

second_is : (c : After-lead-second) → read c.lead-second.result ≡ score (kernel_code 2) (channel c.args.values.now) (known (goal.at.After-lead-second c).Start (c.symbol-v8.result ∷ []))
second_is c =
    let s = c in
    let v = s.args.v.now in
    read_is c.lead-second.result c.lead-second.type_inv ∙ c.lead-second.ensures
    ∙ sym (score2-6 s.args.values.now (bit v 0) (bit v 1) (bit v 2) (bit v 3) s.args.v4 c.symbol-v8.result (row_of c.step9-next.result false) (row_of c.step9-next.result true) (nine (goal.at.After-lead-second c).After-step9-next false) (nine (goal.at.After-lead-second c).After-step9-next true))

pub lead-second-requires : goal.lead-second-requires
lead-second-requires c = (
  row_fits (goal.at.lead-second-requires c).Start (after9 c.symbol-v8.result false) (row_of c.step9-next.result false) (nine (goal.at.lead-second-requires c).After-step9-next false),
  row_fits (goal.at.lead-second-requires c).Start (after9 c.symbol-v8.result true) (row_of c.step9-next.result true) (nine (goal.at.lead-second-requires c).After-step9-next true),
)

pub offset_bounds-next-u : goal.offset_bounds-next-u
offset_bounds-next-u c = omega (arith, byte_small c.symbol-u.result)

-- The row that v6 + v9 picks.
nine-chosen : (c : After-symbol-u) → Row (goal.at.After-symbol-u c).Start (after9 c.symbol-v8.result c.symbol-u.result) (get_or c.step9-next.result (bool_byte c.symbol-u.result) [])
nine-chosen c = chosen-row (goal.at.After-symbol-u c).Start (after9 c.symbol-v8.result c.symbol-u.result) c.step9-next.result c.symbol-u.result (nine (goal.at.After-symbol-u c).After-step9-next c.symbol-u.result)

pub step10-last-requires : goal.step10-last-requires
step10-last-requires c = (
  row_fits (goal.at.step10-last-requires c).Start (after9 c.symbol-v8.result c.symbol-u.result) (get_or c.step9-next.result (bool_byte c.symbol-u.result) []) (nine-chosen (goal.at.step10-last-requires c).After-symbol-u),
  wider 2097152 4194304 8 c.args.places.now (omega arith) (places-are (goal.at.step10-last-requires c).Start),
)

-- The rows of v5 + v6 + v10, and the score of phase 7.
ten : (c : After-step10-last) (b : Bool) → Row (goal.at.After-step10-last c).Start (after10 c.symbol-v8.result c.symbol-u.result b) (row_of c.step10-last.result b)
ten c b =
    let s = c in
    let v = s.args.v.now in
    row-ten s.args.values.now (bit v 0) (bit v 1) (bit v 2) (bit v 3) s.args.v4 s.args.places.now s.requires.b_value c.symbol-v8.result c.symbol-u.result (get_or c.step9-next.result (bool_byte c.symbol-u.result) []) c.step10-last.result b (nine-chosen (goal.at.After-step10-last c).After-symbol-u) c.step10-last.ensures

third-is : (c : After-lead-third) → read c.lead-third.result ≡ score (kernel_code 2) (channel c.args.values.now) (known (goal.at.After-lead-third c).Start (c.symbol-v8.result ∷ c.symbol-u.result ∷ []))
third-is c =
    let s = c in
    let v = s.args.v.now in
    read_is c.lead-third.result c.lead-third.type_inv ∙ c.lead-third.ensures
    ∙ sym (score2-7 s.args.values.now (bit v 0) (bit v 1) (bit v 2) (bit v 3) s.args.v4 c.symbol-v8.result c.symbol-u.result (row_of c.step10-last.result false) (row_of c.step10-last.result true) (ten (goal.at.After-lead-third c).After-step10-last false) (ten (goal.at.After-lead-third c).After-step10-last true))

pub lead-third-requires : goal.lead-third-requires
lead-third-requires c = (
  row_fits (goal.at.lead-third-requires c).Start (after10 c.symbol-v8.result c.symbol-u.result false) (row_of c.step10-last.result false) (ten (goal.at.lead-third-requires c).After-step10-last false),
  row_fits (goal.at.lead-third-requires c).Start (after10 c.symbol-v8.result c.symbol-u.result true) (row_of c.step10-last.result true) (ten (goal.at.lead-third-requires c).After-step10-last true),
)

pub offset_bounds-last-t : goal.offset_bounds-last-t
offset_bounds-last-t c = omega (arith, byte_small c.symbol-t.result)

pub bounds-last-t : goal.bounds-last-t
bounds-last-t c = byte_small c.symbol-t.result

-- The row that is kept.
ten-chosen : (c : After-symbol-t) → Row (goal.at.After-symbol-t c).Start (after10 c.symbol-v8.result c.symbol-u.result c.symbol-t.result) (get_or c.step10-last.result (bool_byte c.symbol-t.result) [])
ten-chosen c = chosen-row (goal.at.After-symbol-t c).Start (after10 c.symbol-v8.result c.symbol-u.result c.symbol-t.result) c.step10-last.result c.symbol-t.result (ten (goal.at.After-symbol-t c).After-step10-last c.symbol-t.result)

pub returns : goal.returns
unfolding tabulate
returns c =
    record {
      follows = record {
        score-at = below-3 _ (first-is (goal.at.returns c).After-lead-first) (second_is (goal.at.returns c).After-lead-second) (third-is (goal.at.returns c).After-lead-third);
        symbol-at = below-3 _ c.symbol-v8.ensures c.symbol-u.ensures c.symbol-t.ensures;
      };
      kept = ten-chosen (goal.at.returns c).After-symbol-t;
    }
