-- `quarters::four_free` meets its contract. Assumes nothing.
use native.Mathlib.Omega.{arith}
use lib.IntN.{pos}
use lib.ListN.{get_or}
use Rattle.values.specs.Value.{free_value}
use Rattle.values.specs.Arikan.{arikan_score}
use Rattle.value_folds.proofs.Carried.{Carried, carried-entry, carried-free, read_small}
use Rattle.quarters.proofs.four_free.Goals as goal
use Rattle.quarters.proofs.four_free.Goals.{After-free-even, After-free-odd}

pub free-even-requires : goal.free-even-requires
free-even-requires c =
    let s = c in
    let at = carried-entry 16777216 4 s.args.values.now s.requires (omega arith) in
    (read_small _ _ _ (at 0 (omega arith)), read_small _ _ _ (at 2 (omega arith)))

-- Places 0 and 2,
even : (c : After-free-even) → (let xs = c.args.values.now in Carried c.free-even.result (free_value (get_or xs 0 (pos 0)) (get_or xs 2 (pos 0))) 16777216)
even c =
    let s = c in
    let at = carried-entry 16777216 4 s.args.values.now s.requires (omega arith) in
    carried-free _ _ _ _ _ 16777216 c.free-even.type_inv c.free-even.ensures (at 0 (omega arith)) (at 2 (omega arith))

pub free-odd-requires : goal.free-odd-requires
free-odd-requires c =
    let s = c in
    let at = carried-entry 16777216 4 s.args.values.now s.requires (omega arith) in
    (read_small _ _ _ (at 1 (omega arith)), read_small _ _ _ (at 3 (omega arith)))

-- and places 1 and 3.
odd : (c : After-free-odd) → (let xs = c.args.values.now in Carried c.free-odd.result (free_value (get_or xs 1 (pos 0)) (get_or xs 3 (pos 0))) 16777216)
odd c =
    let s = c in
    let at = carried-entry 16777216 4 s.args.values.now s.requires (omega arith) in
    carried-free _ _ _ _ _ 16777216 c.free-odd.type_inv c.free-odd.ensures (at 1 (omega arith)) (at 3 (omega arith))

pub free-requires : goal.free-requires
free-requires c = (read_small _ _ _ (even (goal.at.free-requires c).After-free-even), read_small _ _ _ (odd (goal.at.free-requires c).After-free-odd))

pub returns : goal.returns
unfolding arikan_score
returns c = (carried-free _ _ _ _ _ 16777216 c.free.type_inv c.free.ensures (even (goal.at.returns c).After-free-even) (odd (goal.at.returns c).After-free-odd)).is
