-- `quarters::fourth_of` meets its contract. Assumes nothing.
use mathlib.Core.Path.{ap}
use mathlib.Core.Bool.{not, beq}
use Prim.Native.Nat.{ℕ, ◌+◌, ◌≤◌}
use native.Mathlib.Omega.{arith}
use lib.IntN.{pos}
use lib.ListN.{get_or}
use Rattle.base.specs.Bit.{◌⊕◌}
use Rattle.values.specs.Value.{known_value}
use Rattle.values.specs.Arikan.{arikan_word, arikan_score}
use Rattle.value_folds.proofs.Carried.{Carried, carried-entry, carried-as, carried-known, read_small}
use Rattle.quarters.proofs.Index.{differ}
use Rattle.quarters.proofs.fourth_of.Goals as goal
use Rattle.quarters.proofs.fourth_of.Goals.{After-known-even, After-known-odd}

-- What is at most a quarter, or a half, of the room fits it.
wide : {n : ℕ} → n ≤ 4194304 → n ≤ 16777216
wide l = omega arith

half : {n : ℕ} → n ≤ 4194304 + 4194304 → n ≤ 16777216
half l = omega arith

pub known-even-requires : goal.known-even-requires
known-even-requires c =
    let at = carried-entry 4194304 4 c.args.values.now c.requires (omega arith) in
    (wide (read_small _ _ _ (at 0 (omega arith))), wide (read_small _ _ _ (at 2 (omega arith))))

pub known-odd-requires : goal.known-odd-requires
known-odd-requires c =
    let at = carried-entry 4194304 4 c.args.values.now c.requires (omega arith) in
    (wide (read_small _ _ _ (at 1 (omega arith))), wide (read_small _ _ _ (at 3 (omega arith))))

-- Both folds.
even_is : (c : After-known-even) → Carried c.known-even.result (known_value (c.args.a ⊕ c.args.b) (get_or c.args.values.now 0 (pos 0)) (get_or c.args.values.now 2 (pos 0))) (4194304 + 4194304)
even_is c =
    let at = carried-entry 4194304 4 c.args.values.now c.requires (omega arith) in
    let s = c.args in
    carried-as _ _ _ _
    (carried-known _ (not (beq s.a s.b)) _ _ _ _ 4194304 4194304 c.known-even.type_inv c.known-even.ensures (at 0 (omega arith)) (at 2 (omega arith)))
    (ap (λ b. known_value b (get_or c.args.values.now 0 (pos 0)) (get_or c.args.values.now 2 (pos 0))) (differ s.a s.b))

odd_is : (c : After-known-odd) → Carried c.known-odd.result (known_value c.args.b (get_or c.args.values.now 1 (pos 0)) (get_or c.args.values.now 3 (pos 0))) (4194304 + 4194304)
odd_is c =
    let at = carried-entry 4194304 4 c.args.values.now c.requires (omega arith) in
    carried-known _ c.args.b _ _ _ _ 4194304 4194304 c.known-odd.type_inv c.known-odd.ensures (at 1 (omega arith)) (at 3 (omega arith))

pub known-requires : goal.known-requires
known-requires c = (half (read_small _ _ _ (even_is (goal.at.known-requires c).After-known-even)), half (read_small _ _ _ (odd_is (goal.at.known-requires c).After-known-odd)))

pub returns : goal.returns
unfolding arikan_score arikan_word
returns c = (carried-known _ c.args.c _ _ _ _ (4194304 + 4194304) (4194304 + 4194304) c.known.type_inv c.known.ensures (even_is (goal.at.returns c).After-known-even) (odd_is (goal.at.returns c).After-known-odd)).is
