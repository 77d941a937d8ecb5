-- `straight_one::blocks1` meets its contract: the rows of both blocks phase by phase, and the scores by the greatest of both. Assumes nothing.
use mathlib.Core.Path.{sym, ◌∙◌}
use mathlib.Core.Bool.{Bool, true, false}
use mathlib.Core.List.{List, []}
use Prim.Native.Nat.{ℕ, ◌≤◌}
use native.Mathlib.Omega.{arith}
use lib.IntN.{ℤ}
use lib.ListN.{get_or}
use mir.Val.{bool_byte}
use Rattle.base.specs.Bit.{bit, tabulate}
use Rattle.folds.specs.Rows.{row_of}
use Rattle.windows.proofs.Following.{byte_small}
use Rattle.values.specs.Value.{Small}
use Rattle.values.specs.Arikan.{best_v}
use Rattle.values.specs.Path.{value8, value9, value10, RowOf}
use Rattle.value_folds.proofs.Read.{read_is}
use Rattle.phase_scores.specs.Quarter.{PlacesOf}
use Rattle.phase_scores.proofs.Kernel1.{score1-4, score1-5, score1-6}
use Rattle.phase_scores.proofs.Window.{Added}
use Rattle.quarters.proofs.Bounds.{wider}
use Rattle.quarters.proofs.Index.{below-3}
use Rattle.quarters.proofs.Rows.{row_small, places-small}
use Rattle.straight_one.proofs.Window1.{Rows, known1, upto7, upto8, upto9, upto10, kept, kept_small, eight, nine, ten}
use Rattle.straight_one.proofs.blocks1.Goals as goal
use Rattle.straight_one.proofs.blocks1.Goals.{After-step10-last_one, After-step10-last_zero, After-step8-one, After-step8-zero, After-step9-next_one, After-step9-next_zero, Start}

-- The values, the v that are known (v0, v1, v2 and v4), and what either block begins with.
abbrev ys : Start → List ℤ
ys s = s.args.values.now

abbrev v : Start → ℕ → Bool
v s i = bit s.args.v.now i

abbrev first : Start → Bool → List ℤ
first s o = row_of s.args.first.now o

abbrev places : Start → Bool → List ℤ
places s o = row_of s.args.places.now o

first-at : (s : Start) (o : Bool) → RowOf o (λ x y z. best_v (ys s) (upto7 (v s 0) (v s 1) (v s 2) (v s 3) o x y z)) (first s o)
first-at s false = s.requires.row_of.0
first-at s true = s.requires.row_of.1

places-at : (s : Start) (o : Bool) → PlacesOf (ys s) (known1 (v s 0) (v s 1) (v s 2) (v s 3)) o (places s o)
places-at s false = s.requires.b_value.0
places-at s true = s.requires.b_value.1

-- They have room.
first-room : (s : Start) (o : Bool) → Small 16777216 8 (first s o)
first-room s o = row_small (ys s) s.requires.values_len.0 s.requires.values_len.1 o (upto7 (v s 0) (v s 1) (v s 2) (v s 3) o) (first s o) (first-at s o)

places-room : (s : Start) (o : Bool) (n : ℕ) → 2097152 ≤ n → Small n 8 (places s o)
places-room s o n l = wider 2097152 n 8 (places s o) l (places-small (ys s) s.requires.values_len.0 s.requires.values_len.1 (known1 (v s 0) (v s 1) (v s 2) (v s 3)) o (places s o) (places-at s o))

-- The rows of either block after v8, u and t.
abbrev Eight : Start → Bool → List (List ℤ) → Type 0
Eight s o rows = Rows (ys s) o (upto8 (v s 0) (v s 1) (v s 2) (v s 3) o) rows

abbrev Nine : Start → Bool → Bool → List (List ℤ) → Type 0
Nine s v8 o rows = Rows (ys s) o (upto9 (v s 0) (v s 1) (v s 2) (v s 3) o v8) rows

abbrev Ten : Start → Bool → Bool → Bool → List (List ℤ) → Type 0
Ten s v8 u o rows = Rows (ys s) o (upto10 (v s 0) (v s 1) (v s 2) (v s 3) o v8 u) rows

eight-at : (s : Start) (o : Bool) (rows : List (List ℤ)) → Added (value8 (places s o)) (first s o) rows → Eight s o rows
eight-at s o rows = eight (ys s) s.requires.values_len.0 s.requires.values_len.1 (v s 0) (v s 1) (v s 2) (v s 3) o (places s o) (places-at s o) (first s o) rows (first-at s o)

nine-at : (s : Start) (o v8 : Bool) (before rows : List (List ℤ)) → Eight s o before → Added (value9 (places s o) v8) (get_or before (bool_byte v8) []) rows → Nine s v8 o rows
nine-at s o = nine (ys s) s.requires.values_len.0 s.requires.values_len.1 (v s 0) (v s 1) (v s 2) (v s 3) o (places s o) (places-at s o)

ten-at : (s : Start) (o v8 u : Bool) (before rows : List (List ℤ)) → Nine s v8 o before → Added (value10 (places s o) v8 u) (get_or before (bool_byte u) []) rows → Ten s v8 u o rows
ten-at s o = ten (ys s) s.requires.values_len.0 s.requires.values_len.1 (v s 0) (v s 1) (v s 2) (v s 3) o (places s o) (places-at s o)

pub step8-zero-requires : goal.step8-zero-requires
step8-zero-requires c = (first-room (goal.at.step8-zero-requires c).Start false, places-room (goal.at.step8-zero-requires c).Start false 8388608 (omega arith))

zero8 : (c : After-step8-zero) → Eight (goal.at.After-step8-zero c).Start false c.step8-zero.result
zero8 c = eight-at (goal.at.After-step8-zero c).Start false c.step8-zero.result c.step8-zero.ensures

pub step8-one-requires : goal.step8-one-requires
step8-one-requires c = (first-room (goal.at.step8-one-requires c).Start true, places-room (goal.at.step8-one-requires c).Start true 8388608 (omega arith))

one8 : (c : After-step8-one) → Eight (goal.at.After-step8-one c).Start true c.step8-one.result
one8 c = eight-at (goal.at.After-step8-one c).Start true c.step8-one.result c.step8-one.ensures

pub lead_of_two-score-requires : goal.lead_of_two-score-requires
lead_of_two-score-requires c =
    let z = zero8 (goal.at.lead_of_two-score-requires c).After-step8-zero in
    let o = one8 (goal.at.lead_of_two-score-requires c).After-step8-one in
    (z.small false, z.small true, o.small false, o.small true)

pub offset_bounds-zero-v8 : goal.offset_bounds-zero-v8
offset_bounds-zero-v8 c = omega (arith, byte_small c.symbol-v8.result)

pub step9-next_zero-requires : goal.step9-next_zero-requires
step9-next_zero-requires c = (kept_small (zero8 (goal.at.step9-next_zero-requires c).After-step8-zero) c.symbol-v8.result, places-room (goal.at.step9-next_zero-requires c).Start false 4194304 (omega arith))

zero9 : (c : After-step9-next_zero) → Nine (goal.at.After-step9-next_zero c).Start c.symbol-v8.result false c.step9-next_zero.result
zero9 c = nine-at (goal.at.After-step9-next_zero c).Start false c.symbol-v8.result c.step8-zero.result c.step9-next_zero.result (zero8 (goal.at.After-step9-next_zero c).After-step8-zero) c.step9-next_zero.ensures

pub offset_bounds-one-v8 : goal.offset_bounds-one-v8
offset_bounds-one-v8 c = omega (arith, byte_small c.symbol-v8.result)

pub step9-next_one-requires : goal.step9-next_one-requires
step9-next_one-requires c = (kept_small (one8 (goal.at.step9-next_one-requires c).After-step8-one) c.symbol-v8.result, places-room (goal.at.step9-next_one-requires c).Start true 4194304 (omega arith))

one9 : (c : After-step9-next_one) → Nine (goal.at.After-step9-next_one c).Start c.symbol-v8.result true c.step9-next_one.result
one9 c = nine-at (goal.at.After-step9-next_one c).Start true c.symbol-v8.result c.step8-one.result c.step9-next_one.result (one8 (goal.at.After-step9-next_one c).After-step8-one) c.step9-next_one.ensures

pub lead_of_two-second-requires : goal.lead_of_two-second-requires
lead_of_two-second-requires c =
    let z = zero9 (goal.at.lead_of_two-second-requires c).After-step9-next_zero in
    let o = one9 (goal.at.lead_of_two-second-requires c).After-step9-next_one in
    (z.small false, z.small true, o.small false, o.small true)

pub offset_bounds-next_zero-u : goal.offset_bounds-next_zero-u
offset_bounds-next_zero-u c = omega (arith, byte_small c.symbol-u.result)

pub step10-last_zero-requires : goal.step10-last_zero-requires
step10-last_zero-requires c = (kept_small (zero9 (goal.at.step10-last_zero-requires c).After-step9-next_zero) c.symbol-u.result, places-room (goal.at.step10-last_zero-requires c).Start false 4194304 (omega arith))

zero10 : (c : After-step10-last_zero) → Ten (goal.at.After-step10-last_zero c).Start c.symbol-v8.result c.symbol-u.result false c.step10-last_zero.result
zero10 c = ten-at (goal.at.After-step10-last_zero c).Start false c.symbol-v8.result c.symbol-u.result c.step9-next_zero.result c.step10-last_zero.result (zero9 (goal.at.After-step10-last_zero c).After-step9-next_zero) c.step10-last_zero.ensures

pub offset_bounds-next_one-u : goal.offset_bounds-next_one-u
offset_bounds-next_one-u c = omega (arith, byte_small c.symbol-u.result)

pub step10-last_one-requires : goal.step10-last_one-requires
step10-last_one-requires c = (kept_small (one9 (goal.at.step10-last_one-requires c).After-step9-next_one) c.symbol-u.result, places-room (goal.at.step10-last_one-requires c).Start true 4194304 (omega arith))

one10 : (c : After-step10-last_one) → Ten (goal.at.After-step10-last_one c).Start c.symbol-v8.result c.symbol-u.result true c.step10-last_one.result
one10 c = ten-at (goal.at.After-step10-last_one c).Start true c.symbol-v8.result c.symbol-u.result c.step9-next_one.result c.step10-last_one.result (one9 (goal.at.After-step10-last_one c).After-step9-next_one) c.step10-last_one.ensures

pub lead_of_two-third-requires : goal.lead_of_two-third-requires
lead_of_two-third-requires c =
    let z = zero10 (goal.at.lead_of_two-third-requires c).After-step10-last_zero in
    let o = one10 (goal.at.lead_of_two-third-requires c).After-step10-last_one in
    (z.small false, z.small true, o.small false, o.small true)

pub offset_bounds-last_zero-t : goal.offset_bounds-last_zero-t
offset_bounds-last_zero-t c = omega (arith, byte_small c.symbol-t.result)

pub bounds-last_zero-t : goal.bounds-last_zero-t
bounds-last_zero-t c = byte_small c.symbol-t.result

pub offset_bounds-last_one-t : goal.offset_bounds-last_one-t
offset_bounds-last_one-t c = omega (arith, byte_small c.symbol-t.result)

pub bounds-last_one-t : goal.bounds-last_one-t
bounds-last_one-t c = byte_small c.symbol-t.result

pub returns : goal.returns
unfolding tabulate
returns c =
    let s = (goal.at.returns c).Start in
    let z8 = zero8 (goal.at.returns c).After-step8-zero in
    let o8 = one8 (goal.at.returns c).After-step8-one in
    let z9 = zero9 (goal.at.returns c).After-step9-next_zero in
    let o9 = one9 (goal.at.returns c).After-step9-next_one in
    let z10 = zero10 (goal.at.returns c).After-step10-last_zero in
    let o10 = one10 (goal.at.returns c).After-step10-last_one in
    let r8 = c.step8-zero.result in
    let q8 = c.step8-one.result in
    let r9 = c.step9-next_zero.result in
    let q9 = c.step9-next_one.result in
    let r10 = c.step10-last_zero.result in
    let q10 = c.step10-last_one.result in
    let l8 = c.lead_of_two-score in
    let l9 = c.lead_of_two-second in
    let l10 = c.lead_of_two-third in
    let b8 = c.symbol-v8 in
    let b9 = c.symbol-u in
    let b10 = c.symbol-t in record {
      follows = record {
        score-at =
            below-3 _
            (read_is l8.result l8.type_inv ∙ l8.ensures
            ∙ sym (score1-4 (ys s) (v s 0) (v s 1) (v s 2) (v s 3) (row_of r8 false) (row_of r8 true) (row_of q8 false) (row_of q8 true) (z8.holds false) (z8.holds true) (o8.holds false) (o8.holds true)))
            (read_is l9.result l9.type_inv ∙ l9.ensures
            ∙ sym (score1-5 (ys s) (v s 0) (v s 1) (v s 2) (v s 3) b8.result (row_of r9 false) (row_of r9 true) (row_of q9 false) (row_of q9 true) (z9.holds false) (z9.holds true) (o9.holds false) (o9.holds true)))
            (read_is l10.result l10.type_inv ∙ l10.ensures
            ∙ sym (score1-6 (ys s) (v s 0) (v s 1) (v s 2) (v s 3) b8.result b9.result (row_of r10 false) (row_of r10 true) (row_of q10 false) (row_of q10 true) (z10.holds false) (z10.holds true) (o10.holds false) (o10.holds true)));
        symbol-at = below-3 _ b8.ensures b9.ensures b10.ensures;
      };
      kept = (kept z10 b10.result, kept o10 b10.result);
    }
