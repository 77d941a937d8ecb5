-- `quarters::after_first` meets its contract. Assumes nothing.
use mathlib.Core.Path.{sym, ap, ◌∙◌}
use mathlib.Core.Bool.{not, beq}
use Prim.Native.Nat.{ℕ, ◌+◌, ◌≤◌}
use native.Mathlib.Nat.{add-zero}
use native.Mathlib.Omega.{arith}
use lib.IntN.{pos}
use lib.ListN.{get_or}
use Rattle.base.specs.Bit.{◌⊕◌, bit, tabulate}
use Rattle.bits.specs.Packed.{bits}
use Rattle.run.specs.Run.{symbol_by}
use Rattle.values.specs.Value.{free_value, known_value}
use Rattle.values.specs.Arikan.{arikan_word, arikan_score}
use Rattle.value_folds.proofs.Carried.{Carried, carried-entry, carried-as, carried-free, carried-known, read, read_small}
use Rattle.quarters.proofs.Index.{below-3, differ}
use Rattle.quarters.proofs.after_first.Goals as goal
use Rattle.quarters.proofs.after_first.Goals.{After-free-p, After-free-q, After-free-third, After-known-even, After-known-fourth, After-known-odd, After-known-second}

-- What is at most a quarter of the room fits it.
wide : {n : ℕ} → n ≤ 4194304 → n ≤ 16777216
wide l = omega arith

half : {n : ℕ} → n ≤ 4194304 + 4194304 → n ≤ 16777216
half l = omega arith

pub free-p-requires : goal.free-p-requires
free-p-requires c =
    let at = carried-entry 4194304 4 c.args.values.now c.requires.0 (omega arith) in
    (wide (read_small _ _ _ (at 0 (omega arith))), wide (read_small _ _ _ (at 2 (omega arith))))

-- The first fold of places 0 and 2,
p-is : (c : After-free-p) → Carried c.free-p.result (free_value (get_or c.args.values.now 0 (pos 0)) (get_or c.args.values.now 2 (pos 0))) 4194304
p-is c =
    let at = carried-entry 4194304 4 c.args.values.now c.requires.0 (omega arith) in
    carried-free _ _ _ _ _ 4194304 c.free-p.type_inv c.free-p.ensures (at 0 (omega arith)) (at 2 (omega arith))

pub free-q-requires : goal.free-q-requires
free-q-requires c =
    let at = carried-entry 4194304 4 c.args.values.now c.requires.0 (omega arith) in
    (wide (read_small _ _ _ (at 1 (omega arith))), wide (read_small _ _ _ (at 3 (omega arith))))

-- of places 1 and 3,
q-is : (c : After-free-q) → Carried c.free-q.result (free_value (get_or c.args.values.now 1 (pos 0)) (get_or c.args.values.now 3 (pos 0))) 4194304
q-is c =
    let at = carried-entry 4194304 4 c.args.values.now c.requires.0 (omega arith) in
    carried-free _ _ _ _ _ 4194304 c.free-q.type_inv c.free-q.ensures (at 1 (omega arith)) (at 3 (omega arith))

pub known-second-requires : goal.known-second-requires
known-second-requires c = (wide (read_small _ _ _ (p-is (goal.at.known-second-requires c).After-free-p)), wide (read_small _ _ _ (q-is (goal.at.known-second-requires c).After-free-q)))

-- and the second score.
second_is : (c : After-known-second) → Carried c.known-second.result (known_value c.args.first (free_value (get_or c.args.values.now 0 (pos 0)) (get_or c.args.values.now 2 (pos 0))) (free_value (get_or c.args.values.now 1 (pos 0)) (get_or c.args.values.now 3 (pos 0)))) (4194304 + 4194304)
second_is c = carried-known _ c.args.first _ _ _ _ 4194304 4194304 c.known-second.type_inv c.known-second.ensures (p-is (goal.at.After-known-second c).After-free-p) (q-is (goal.at.After-known-second c).After-free-q)

pub known-even-requires : goal.known-even-requires
known-even-requires c =
    let at = carried-entry 4194304 4 c.args.values.now c.requires.0 (omega arith) in
    (wide (read_small _ _ _ (at 0 (omega arith))), wide (read_small _ _ _ (at 2 (omega arith))))

-- The second fold with both symbols known,
even_is : (c : After-known-even) → Carried c.known-even.result (known_value (c.args.first ⊕ c.symbol-b.result) (get_or c.args.values.now 0 (pos 0)) (get_or c.args.values.now 2 (pos 0))) (4194304 + 4194304)
even_is c =
    let at = carried-entry 4194304 4 c.args.values.now c.requires.0 (omega arith) in
    carried-as _ _ _ _
    (carried-known _ (not (beq c.args.first c.symbol-b.result)) _ _ _ _ 4194304 4194304 c.known-even.type_inv c.known-even.ensures (at 0 (omega arith)) (at 2 (omega arith)))
    (ap (λ b. known_value b (get_or c.args.values.now 0 (pos 0)) (get_or c.args.values.now 2 (pos 0))) (differ c.args.first c.symbol-b.result))

pub known-odd-requires : goal.known-odd-requires
known-odd-requires c =
    let at = carried-entry 4194304 4 c.args.values.now c.requires.0 (omega arith) in
    (wide (read_small _ _ _ (at 1 (omega arith))), wide (read_small _ _ _ (at 3 (omega arith))))

odd_is : (c : After-known-odd) → Carried c.known-odd.result (known_value c.symbol-b.result (get_or c.args.values.now 1 (pos 0)) (get_or c.args.values.now 3 (pos 0))) (4194304 + 4194304)
odd_is c =
    let at = carried-entry 4194304 4 c.args.values.now c.requires.0 (omega arith) in
    carried-known _ c.symbol-b.result _ _ _ _ 4194304 4194304 c.known-odd.type_inv c.known-odd.ensures (at 1 (omega arith)) (at 3 (omega arith))

pub free-third-requires : goal.free-third-requires
free-third-requires c = (half (read_small _ _ _ (even_is (goal.at.free-third-requires c).After-known-even)), half (read_small _ _ _ (odd_is (goal.at.free-third-requires c).After-known-odd)))

-- and the last two scores.
third-is : (c : After-free-third) → Carried c.free-third.result (free_value (known_value (c.args.first ⊕ c.symbol-b.result) (get_or c.args.values.now 0 (pos 0)) (get_or c.args.values.now 2 (pos 0))) (known_value c.symbol-b.result (get_or c.args.values.now 1 (pos 0)) (get_or c.args.values.now 3 (pos 0)))) (4194304 + 4194304)
third-is c = carried-free _ _ _ _ _ (4194304 + 4194304) c.free-third.type_inv c.free-third.ensures (even_is (goal.at.After-free-third c).After-known-even) (odd_is (goal.at.After-free-third c).After-known-odd)

pub known-fourth-requires : goal.known-fourth-requires
known-fourth-requires c = (half (read_small _ _ _ (even_is (goal.at.known-fourth-requires c).After-known-even)), half (read_small _ _ _ (odd_is (goal.at.known-fourth-requires c).After-known-odd)))

fourth-is : (c : After-known-fourth) → Carried c.known-fourth.result (known_value c.symbol-c.result (known_value (c.args.first ⊕ c.symbol-b.result) (get_or c.args.values.now 0 (pos 0)) (get_or c.args.values.now 2 (pos 0))) (known_value c.symbol-b.result (get_or c.args.values.now 1 (pos 0)) (get_or c.args.values.now 3 (pos 0)))) (4194304 + 4194304 + (4194304 + 4194304))
fourth-is c =
    carried-known _ c.symbol-c.result _ _ _ _ (4194304 + 4194304) (4194304 + 4194304) c.known-fourth.type_inv c.known-fourth.ensures
    (even_is (goal.at.After-known-fourth c).After-known-even) (odd_is (goal.at.After-known-fourth c).After-known-odd)

pub returns : goal.returns
unfolding arikan_score arikan_word tabulate
returns c =
    let a = c.args in
    record {
      score-at = below-3 _ (second_is (goal.at.returns c).After-known-second).is (third-is (goal.at.returns c).After-free-third).is (fourth-is (goal.at.returns c).After-known-fourth).is;
      symbol-at =
          below-3 _
          (c.symbol-b.ensures ∙ ap (λ i. symbol_by (bit (bits 16 a.sources.free) i) (bit (bits 16 a.sources.given) i) (read c.known-second.result)) (sym (add-zero a.from)))
          c.symbol-c.ensures
          c.symbol-d.ensures;
    }
