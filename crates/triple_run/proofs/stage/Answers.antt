-- `triple_run::stage` meets its contract: the groups below g are stepped. Assumes nothing.
use mathlib.Core.Path.{◌≡◌, sym, subst⁻¹}
use mathlib.Core.List.{List, []}
use Prim.Native.Nat.{ℕ, ◌*◌}
use native.Mathlib.Omega.{arith}
use lib.ListN.{length, get_or}
use Rattle.lane_phases.specs.Rows.{KeptLanes}
use Rattle.pair_run.proofs.Premises.{lanes-wider}
use Rattle.triple_run.proofs.Stepping.{stepped-next}
use Rattle.std.proofs.lemmas.Slice.{put_mid-paste}
use borrow.Author.Rules.{rules}
use Rattle.triple_run.proofs.stage.Goals as goal

pub step-found-requires-clause-lanes_within : goal.step-found-requires-clause-lanes_within
step-found-requires-clause-lanes_within c =
    let z = c in
    let k = c.loop-g in
    let g = z.requires.groups.0 k.g c.loop-g-test.true in
    (lanes-wider 127 2047 (get_or z.args.costs.now k.g []) (omega arith) g.0, g.1, g.2)

pub step-found-requires-clause-kept : goal.step-found-requires-clause-kept
step-found-requires-clause-kept c =
    let z = c in
    let k = c.loop-g in
    let lg = c.loop-g-test.true in
    λ late _. subst⁻¹ (λ (h : List (List (List ℕ))). KeptLanes z.args.outer (get_or z.args.costs.now k.g []) (get_or z.args.planes.now k.g []) z.args.r h) (k.invariant.later k.g (omega arith)) (z.requires.groups.2 late k.g lg)

pub loop-g-preserved : goal.loop-g-preserved
loop-g-preserved c =
    let z = c in
    let k = c.loop-g in
    let lg = c.loop-g-test.true in
    let s = c.step-found in
    let lf : length s.result ≡ 16 = search rules in
    stepped-next z.args.outer z.args.costs.now z.args.planes.now z.args.r z.args.rows.now k.g lg k.rows k.out k.invariant
    s.new.rows s.result s.ensures.room s.ensures.held lf s.ensures.scores
    _ (put_mid-paste (16 * k.g) _ k.out _ s.result 16 c.copy_from_slice.ensures.after (omega arith) (sym lf))
