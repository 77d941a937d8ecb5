-- `straight_rest::fifth2` meets its contract. Assumes nothing.
use mathlib.Core.Path.{◌≡◌, refl, sym, ap₂, ◌∙◌}
use mathlib.Core.Bool.{Bool, false}
use mathlib.Core.List.{List, [], ◌∷◌}
use Prim.Native.Nat.{◌+◌}
use native.Mathlib.Omega.{arith}
use lib.IntN.{pos}
use lib.ListN.{get_or}
use mir.Facts.{to_z-of_z}
use Rattle.base.specs.Bit.{◌⊕◌, bit}
use Rattle.folds.specs.Range.{value_limit}
use Rattle.folds.proofs.Limit.{limit-room}
use Rattle.values.specs.Value.{free_value, known_value, Small}
use Rattle.values.specs.Arikan.{best_v}
use Rattle.value_folds.proofs.Carried.{read}
use Rattle.value_folds.proofs.Read.{read_is}
use Rattle.phase_scores.proofs.First.{first-row2}
use Rattle.phase_scores.proofs.Kernel2.{score2-4}
use Rattle.phase_scores.proofs.Quarters.{second-quarter}
use Rattle.quarters.proofs.Bounds.{wider, limit-small, free-half-small, known-quarter-small}
use Rattle.quarters.proofs.Rows.{best-small}
use borrow.Author.Rules.{rules}
use Rattle.straight_rest.proofs.fifth2.Goals as goal
use Rattle.straight_rest.proofs.fifth2.Goals.{After-known_half-quarter, Start}
use mir.Syntax.{w32}

-- The eight values are small,
eighths-small : (c : Start) → Small value_limit 8 c.args.eighths.now
eighths-small c = free-half-small value_limit c.args.values.now c.args.eighths.now (limit-small c.args.values.now c.requires.values_len.0.0 c.requires.values_len.0.1) c.requires.values_len.1

-- and the four that are left.
quarter-small : (c : After-known_half-quarter) → Small (value_limit + value_limit) 4 c.known_half-quarter.result
quarter-small c = known-quarter-small value_limit c.args.eighths.now c.known_half-quarter.result (eighths-small (goal.at.After-known_half-quarter c).Start) (bit c.word_of_four-first.result) c.known_half-quarter.ensures

-- The four v that are known,
abbrev known-four : Start → List Bool
known-four c = bit c.args.v.now 0 ∷ bit c.args.v.now 1 ∷ bit c.args.v.now 2 ∷ bit c.args.v.now 3 ∷ []

-- and their best score.
base-is : (c : Start) → read c.args.base ≡ best_v c.args.values.now (known-four c)
base-is c = to_z-of_z {w = w32} c.ranges.base ∙ c.requires.base_value

pub known_half-quarter-requires : goal.known_half-quarter-requires
known_half-quarter-requires c = (search rules, (search rules, (search rules, wider value_limit 16777216 8 c.args.eighths.now (omega (arith, limit-room)) (eighths-small (goal.at.known_half-quarter-requires c).Start))))

pub four_free-score-requires : goal.four_free-score-requires
four_free-score-requires c = wider (value_limit + value_limit) 16777216 4 c.known_half-quarter.result (omega (arith, limit-room)) (quarter-small (goal.at.four_free-score-requires c).After-known_half-quarter)

pub first_row-row-requires : goal.first_row-row-requires
first_row-row-requires c =
    let s = (goal.at.first_row-row-requires c).Start in (
      wider (value_limit + value_limit) 4194304 4 c.known_half-quarter.result (omega (arith, limit-room)) (quarter-small (goal.at.first_row-row-requires c).After-known_half-quarter),
      rw (base-is s) (omega (arith, limit-room, best-small s.args.values.now s.requires.values_len.0.0 s.requires.values_len.0.1 (known-four s))),
    )

pub places-both-requires : goal.places-both-requires
places-both-requires c =
    let s = c in
    (s.requires.values_len.0.0, wider value_limit 4194304 16 s.args.values.now (omega (arith, limit-room)) (limit-small s.args.values.now s.requires.values_len.0.0 s.requires.values_len.0.1))

pub returns : goal.returns
returns c =
    let s = (goal.at.returns c).Start in
    let ys = s.args.values.now in
    let e = s.args.eighths.now in
    let v = s.args.v.now in
    let w = c.word_of_four-first in
    let q = c.known_half-quarter in
    let n = c.four_free-score in
    let b = c.symbol-symbol.result in
    let k = c.word_of_eight.ensures (bit v 0) (bit v 1) (bit v 2) (bit v 3) b false false false w.ensures c.word_of_four-second.ensures in record {
      score = (
        read_is n.result n.type_inv ∙ n.ensures
            ∙ sym (score2-4 ys (bit v 0) (bit v 1) (bit v 2) (bit v 3) ∙ second-quarter ys e q.result s.requires.values_len.1 (known-four s) refl (bit w.result) w.ensures q.ensures [] (omega arith)),
        c.symbol-symbol.ensures,
      );
      row = first-row2 ys (bit v 0) (bit v 1) (bit v 2) (bit v 3) b e q.result s.requires.values_len.1 (bit w.result) w.ensures q.ensures (read s.args.base) (base-is s) c.first_row-row.result c.first_row-row.ensures;
      places = λ o i l. c.places-both.ensures false o i l
          ∙ ap₂ (λ x y. free_value (known_value (x ⊕ o) (get_or ys i (pos 0)) (get_or ys (8 + i) (pos 0))) (known_value (y ⊕ (o ⊕ false)) (get_or ys (4 + i) (pos 0)) (get_or ys (12 + i) (pos 0))))
          (k i (omega arith)) (k (4 + i) (omega arith));
    }
