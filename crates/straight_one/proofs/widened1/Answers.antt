-- `straight_one::widened1` meets its contract: the rows of both v11, and the score by the greatest of both. Assumes nothing.
use mathlib.Core.Path.{sym, ◌∙◌}
use mathlib.Core.Bool.{Bool, true, false}
use mathlib.Core.List.{List, [], ◌∷◌}
use Prim.Native.Nat.{ℕ}
use native.Mathlib.Omega.{arith}
use lib.IntN.{ℤ}
use lib.ListN.{get_or}
use Rattle.base.specs.Bit.{◌⊕◌, bit, digit}
use Rattle.folds.specs.Rows.{row_of}
use Rattle.windows.proofs.Following.{byte_small}
use Rattle.value_folds.proofs.Read.{read_is}
use Rattle.phase_scores.proofs.Block.{AfterOf}
use Rattle.quarters.proofs.Bounds.{wider}
use Rattle.quarters.proofs.Rows.{row_small, places-small}
use Rattle.straight_one.proofs.After1.{after-room}
use Rattle.straight_one.proofs.Both.{score-twelve}
use Rattle.straight_one.proofs.Window1.{Rows, known1, upto10, upto11, upto12, kept, eleven, twelve}
use Rattle.straight_one.proofs.widened1.Goals as goal
use Rattle.straight_one.proofs.widened1.Goals.{After-opened_places-after, After-step11-both, After-step12-one, After-step12-zero, Start}

-- The values, the v that are known (v0, v1, v2 and v4), and v8, u and t.
abbrev ys : Start → List ℤ
ys s = s.args.values.now

abbrev v : Start → ℕ → Bool
v s i = bit s.args.v.now i

abbrev opened : Start → ℕ → Bool
opened s i = bit s.args.opened.now i

abbrev word : Start → ℕ → Bool
word s = known1 (v s 0) (v s 1) (v s 2) (v s 3)

-- The word of v8 to v11, but for the path's bits and v11.
abbrev next : Start → ℕ → Bool
next s = bit (((opened s 0 ⊕ opened s 1) ⊕ opened s 2) ∷ opened s 1 ∷ opened s 2 ∷ false ∷ [])

-- The row that is kept for v3, and its places.
abbrev kept_at : Start → List ℤ
kept_at s = get_or s.args.rows.now (digit s.args.v3) []

abbrev places-at : Start → List ℤ
places-at s = get_or s.args.places.now (digit s.args.v3) []

pub offset_bounds-rows-v3 : goal.offset_bounds-rows-v3
offset_bounds-rows-v3 c = omega (arith, byte_small c.args.v3)

pub offset_bounds-places-v3 : goal.offset_bounds-places-v3
offset_bounds-places-v3 c = omega (arith, byte_small c.args.v3)

pub step11-both-requires : goal.step11-both-requires
step11-both-requires c =
    let s = (goal.at.step11-both-requires c).Start in (
      row_small (ys s) s.requires.values_len.0 s.requires.values_len.1 s.args.v3 (upto10 (v s 0) (v s 1) (v s 2) (v s 3) s.args.v3 (opened s 0) (opened s 1) (opened s 2)) (kept_at s) s.requires.row_of,
      wider 2097152 4194304 8 (places-at s) (omega arith) (places-small (ys s) s.requires.values_len.0 s.requires.values_len.1 (word s) s.args.v3 (places-at s) s.requires.b_value),
    )

-- The rows of both v11,
rows11 : (c : After-step11-both) → (let s = (goal.at.After-step11-both c).Start in Rows (ys s) s.args.v3 (upto11 (v s 0) (v s 1) (v s 2) (v s 3) s.args.v3 (opened s 0) (opened s 1) (opened s 2)) c.step11-both.result)
rows11 c =
    let s = (goal.at.After-step11-both c).Start in
    eleven (ys s) s.requires.values_len.0 s.requires.values_len.1 (v s 0) (v s 1) (v s 2) (v s 3) s.args.v3 (places-at s) s.requires.b_value (opened s 0) (opened s 1) (opened s 2) (kept_at s) c.step11-both.result s.requires.row_of c.step11-both.ensures

pub opened_places-after-requires : goal.opened_places-after-requires
opened_places-after-requires c = (c.requires.values_len.0, c.requires.values_len.1)

-- the places of the paths for either,
after : (c : After-opened_places-after) (q : Bool) → (let s = (goal.at.After-opened_places-after c).Start in AfterOf (ys s) (word s) s.args.v3 (next s) q (row_of c.opened_places-after.result q))
after c q = c.opened_places-after.ensures q

pub step12-zero-requires : goal.step12-zero-requires
step12-zero-requires c =
    let s = (goal.at.step12-zero-requires c).Start in
    let p = (goal.at.step12-zero-requires c).After-opened_places-after in
    ((rows11 (goal.at.step12-zero-requires c).After-step11-both).small false, after-room (ys s) (word s) s.args.v3 s.requires.values_len.0 s.requires.values_len.1 (next s) false (row_of p.opened_places-after.result false) (after p false))

-- the rows of v12 with v11 = 0,
zero : (c : After-step12-zero) → (let s = (goal.at.After-step12-zero c).Start in Rows (ys s) s.args.v3 (upto12 (v s 0) (v s 1) (v s 2) (v s 3) s.args.v3 (opened s 0) (opened s 1) (opened s 2) false) c.step12-zero.result)
zero c =
    let s = (goal.at.After-step12-zero c).Start in
    let p = (goal.at.After-step12-zero c).After-opened_places-after in
    twelve (ys s) s.requires.values_len.0 s.requires.values_len.1 (v s 0) (v s 1) (v s 2) (v s 3) s.args.v3 (opened s 0) (opened s 1) (opened s 2) false (row_of p.opened_places-after.result false) (after p false)
    c.step11-both.result c.step12-zero.result (rows11 (goal.at.After-step12-zero c).After-step11-both) c.step12-zero.ensures

pub step12-one-requires : goal.step12-one-requires
step12-one-requires c =
    let s = (goal.at.step12-one-requires c).Start in
    let p = (goal.at.step12-one-requires c).After-opened_places-after in
    ((rows11 (goal.at.step12-one-requires c).After-step11-both).small true, after-room (ys s) (word s) s.args.v3 s.requires.values_len.0 s.requires.values_len.1 (next s) true (row_of p.opened_places-after.result true) (after p true))

-- and with v11 = 1.
one : (c : After-step12-one) → (let s = (goal.at.After-step12-one c).Start in Rows (ys s) s.args.v3 (upto12 (v s 0) (v s 1) (v s 2) (v s 3) s.args.v3 (opened s 0) (opened s 1) (opened s 2) true) c.step12-one.result)
one c =
    let s = (goal.at.After-step12-one c).Start in
    let p = (goal.at.After-step12-one c).After-opened_places-after in
    twelve (ys s) s.requires.values_len.0 s.requires.values_len.1 (v s 0) (v s 1) (v s 2) (v s 3) s.args.v3 (opened s 0) (opened s 1) (opened s 2) true (row_of p.opened_places-after.result true) (after p true)
    c.step11-both.result c.step12-one.result (rows11 (goal.at.After-step12-one c).After-step11-both) c.step12-one.ensures

pub lead_of_two-score-requires : goal.lead_of_two-score-requires
lead_of_two-score-requires c =
    let z = zero (goal.at.lead_of_two-score-requires c).After-step12-zero in
    let o = one (goal.at.lead_of_two-score-requires c).After-step12-one in
    (z.small false, z.small true, o.small false, o.small true)

pub offset_bounds-zero-symbol : goal.offset_bounds-zero-symbol
offset_bounds-zero-symbol c = omega (arith, byte_small c.symbol-symbol.result)

pub bounds-zero-symbol : goal.bounds-zero-symbol
bounds-zero-symbol c = byte_small c.symbol-symbol.result

pub offset_bounds-one-symbol : goal.offset_bounds-one-symbol
offset_bounds-one-symbol c = omega (arith, byte_small c.symbol-symbol.result)

pub bounds-one-symbol : goal.bounds-one-symbol
bounds-one-symbol c = byte_small c.symbol-symbol.result

pub returns : goal.returns
returns c =
    let s = (goal.at.returns c).Start in
    let z = zero (goal.at.returns c).After-step12-zero in
    let o = one (goal.at.returns c).After-step12-one in
    let p = c.step12-zero.result in
    let q = c.step12-one.result in
    let l = c.lead_of_two-score in
    let b = c.symbol-symbol in record {
      score = (
        read_is l.result l.type_inv ∙ l.ensures
            ∙ sym (score-twelve (ys s) (v s 0) (v s 1) (v s 2) (v s 3) (opened s 0) (opened s 1) (opened s 2) s.args.v3 (row_of p false) (row_of p true) (row_of q false) (row_of q true) (z.holds false) (z.holds true) (o.holds false) (o.holds true)),
        b.ensures,
      );
      kept = (kept z b.result, kept o b.result);
    }
