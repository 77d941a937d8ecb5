-- `lane_step::again` meets its contract: the first w paths have the entries of the paths before. Assumes nothing.
use mathlib.Core.Path.{◌≡◌, ◌∙◌}
use mathlib.Core.Bool.{Bool, true, false}
use mathlib.Core.List.{List, []}
use Prim.Native.Nat.{ℕ, ◌-◌, ◌*◌, ◌%◌, ◌^◌, ◌≤◌, ◌<◌}
use native.Mathlib.Omega.{arith}
use lib.Bits.{bit_xor}
use lib.ListN.{get_or, length-set}
use lib.Pow.{pow_mono}
use Rattle.base.proofs.List.{each_next}
use Rattle.bits.specs.Packed.{bits}
use Rattle.folds.specs.Rows.{cell}
use Rattle.lane.specs.Lanes.{lane_bit, lane_costs}
use Rattle.lane_words.specs.Words.{window_bit}
use Rattle.lane_step.specs.Step.{number_before}
use Rattle.lane_step.proofs.Before.{entry-is, pair_is}
use Rattle.lane_step.proofs.again.Goals as goal

-- The paths are few.
few : (d : ℕ) → d ≤ 3 → 2 ^ d ≤ 8
few d l = pow_mono l

pub kept_rows-kept-requires : goal.kept_rows-kept-requires
kept_rows-kept-requires c = (c.requires.flags_value.0, omega (arith, few (c.args.phase.now.high - c.args.phase.now.number) c.requires.flags_value.2))

pub loop-w-preserved : goal.loop-w-preserved
loop-w-preserved c =
    let k = c.loop-w in
    let a = c.args in
    let p = a.phase.now in
    let most = few (p.high - p.number) c.requires.flags_value.2 in
    let lw : k.w < 2 ^ (p.high - p.number) = omega arith in
    let entry : (l : ℕ) → l < 16 → (b : Bool) (x : ℕ)
    → ((j : ℕ) → j < 16 → lane_bit x j ≡ window_bit p.table.now p.number b (bits (p.high - p.number) k.w) j)
    → get_or (get_or c.kept_rows-kept.result (bit_xor (get_or c.numbers_of-numbers.result l 0) x % 16) []) l 0
    ≡ lane_costs a.rows.now l (number_before p.table.now p.number p.high a.planes.now k.w l b) (lane_bit (get_or a.planes.now (p.number - 1) 0) l) =
    λ l ll b x adds.
    entry-is p.table.now a.planes.now a.words p.number p.high p.within.0 p.within.1 c.requires.words_made k.w l b x adds
    (get_or c.numbers_of-numbers.result l 0) c.kept_rows-kept.result a.rows.now (2 * 2 ^ (p.high - p.number)) (lane_bit (get_or a.planes.now (p.number - 1) 0) l)
    (c.numbers_of-numbers.ensures l ll).1 (omega arith) (c.requires.by_index k.w l b lw) (λ w lw. c.kept_rows-kept.ensures w l (omega arith) ll) in
    record {
      room = length-set k.rows k.w _ ∙ k.invariant.room;
      done = each_next (λ i (x : List (List ℕ)). (l : ℕ) (b : Bool) → l < 16
          → cell 0 x l b ≡ lane_costs a.rows.now l (number_before p.table.now p.number p.high a.planes.now i l b) (lane_bit (get_or a.planes.now (p.number - 1) 0) l))
          k.rows k.w [] _ (omega arith) k.invariant.done
          (λ l b ll. pair_is c.gathered-zero.result c.gathered-one.result l (λ b. lane_costs a.rows.now l (number_before p.table.now p.number p.high a.planes.now k.w l b) (lane_bit (get_or a.planes.now (p.number - 1) 0) l))
          (c.gathered-zero.ensures l ll ∙ entry l ll false c.word-first.result c.word-first.ensures)
          (c.gathered-one.ensures l ll ∙ entry l ll true c.word-second.result c.word-second.ensures) b);
    }
