-- `quarters::gained` meets its contract. Assumes nothing.
use mathlib.Core.Bool.{false}
use Prim.Native.Nat.{ℕ, ◌≤◌}
use native.Mathlib.Omega.{arith}
use lib.IntN.{pos}
use lib.ListN.{get_or}
use Rattle.values.specs.Value.{gain}
use Rattle.value_folds.proofs.Carried.{Carried, carried-entry, carried-add, add-fits, read_small}
use Rattle.quarters.proofs.Best.{carried-gain}
use Rattle.quarters.proofs.gained.Goals as goal
use Rattle.quarters.proofs.gained.Goals.{After-below-a, After-below-b, After-below-c, After-below-d}

-- A score is small enough to be turned.
wide : {n : ℕ} → n ≤ 4194304 → n ≤ 33554432
wide l = omega arith

pub turned-requires : goal.turned-requires
turned-requires c =
    let s = c in
    wide (read_small _ _ _ (carried-entry 4194304 4 s.args.scores.now s.requires (omega arith) 0 (omega arith)))

-- What the first score adds,
adds-0 : (c : After-below-a) → (let s = c.args in Carried c.below-a.result (gain (get_or s.scores.now 0 (pos 0)) (get_or s.symbols.now 0 false)) 4194304)
adds-0 c =
    let s = c in
    carried-gain _ _ (get_or s.args.symbols.now 0 false) _ _ 4194304 c.turned.type_inv c.turned.ensures c.below-a.type_inv c.below-a.ensures
    (carried-entry 4194304 4 s.args.scores.now s.requires (omega arith) 0 (omega arith))

pub turned-requires-2 : goal.turned-requires-2
turned-requires-2 c =
    let s = c in
    wide (read_small _ _ _ (carried-entry 4194304 4 s.args.scores.now s.requires (omega arith) 1 (omega arith)))

-- the second,
adds-1 : (c : After-below-b) → (let s = c.args in Carried c.below-b.result (gain (get_or s.scores.now 1 (pos 0)) (get_or s.symbols.now 1 false)) 4194304)
adds-1 c =
    let s = c in
    carried-gain _ _ (get_or s.args.symbols.now 1 false) _ _ 4194304 c.turned-2.type_inv c.turned-2.ensures c.below-b.type_inv c.below-b.ensures
    (carried-entry 4194304 4 s.args.scores.now s.requires (omega arith) 1 (omega arith))

pub turned-requires-3 : goal.turned-requires-3
turned-requires-3 c =
    let s = c in
    wide (read_small _ _ _ (carried-entry 4194304 4 s.args.scores.now s.requires (omega arith) 2 (omega arith)))

-- the third,
adds-2 : (c : After-below-c) → (let s = c.args in Carried c.below-c.result (gain (get_or s.scores.now 2 (pos 0)) (get_or s.symbols.now 2 false)) 4194304)
adds-2 c =
    let s = c in
    carried-gain _ _ (get_or s.args.symbols.now 2 false) _ _ 4194304 c.turned-3.type_inv c.turned-3.ensures c.below-c.type_inv c.below-c.ensures
    (carried-entry 4194304 4 s.args.scores.now s.requires (omega arith) 2 (omega arith))

pub turned-requires-4 : goal.turned-requires-4
turned-requires-4 c =
    let s = c in
    wide (read_small _ _ _ (carried-entry 4194304 4 s.args.scores.now s.requires (omega arith) 3 (omega arith)))

-- and the fourth.
adds-3 : (c : After-below-d) → (let s = c.args in Carried c.below-d.result (gain (get_or s.scores.now 3 (pos 0)) (get_or s.symbols.now 3 false)) 4194304)
adds-3 c =
    let s = c in
    carried-gain _ _ (get_or s.args.symbols.now 3 false) _ _ 4194304 c.turned-4.type_inv c.turned-4.ensures c.below-d.type_inv c.below-d.ensures
    (carried-entry 4194304 4 s.args.scores.now s.requires (omega arith) 3 (omega arith))

pub overflow_add-result : goal.overflow_add-result
overflow_add-result c = add-fits _ _ _ _ _ _ (adds-0 (goal.at.overflow_add-result c).After-below-a) (adds-1 (goal.at.overflow_add-result c).After-below-b) (omega arith)

pub overflow_add-result-2 : goal.overflow_add-result-2
overflow_add-result-2 c =
    let two = carried-add _ _ _ _ _ _ (adds-0 (goal.at.overflow_add-result-2 c).After-below-a) (adds-1 (goal.at.overflow_add-result-2 c).After-below-b) (omega arith) in
    add-fits _ _ _ _ _ _ two (adds-2 (goal.at.overflow_add-result-2 c).After-below-c) (omega arith)

pub overflow_add-result-3 : goal.overflow_add-result-3
overflow_add-result-3 c =
    let two = carried-add _ _ _ _ _ _ (adds-0 (goal.at.overflow_add-result-3 c).After-below-a) (adds-1 (goal.at.overflow_add-result-3 c).After-below-b) (omega arith) in
    let three = carried-add _ _ _ _ _ _ two (adds-2 (goal.at.overflow_add-result-3 c).After-below-c) (omega arith) in
    add-fits _ _ _ _ _ _ three (adds-3 (goal.at.overflow_add-result-3 c).After-below-d) (omega arith)

pub returns : goal.returns
returns c =
    let two = carried-add _ _ _ _ _ _ (adds-0 (goal.at.returns c).After-below-a) (adds-1 (goal.at.returns c).After-below-b) (omega arith) in
    let three = carried-add _ _ _ _ _ _ two (adds-2 (goal.at.returns c).After-below-c) (omega arith) in
    (carried-add _ _ _ _ _ _ three (adds-3 (goal.at.returns c).After-below-d) (omega arith)).is
