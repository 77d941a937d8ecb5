-- `follow::kernel_follow` meets its contract: it writes the scores of a run with nothing free. Assumes nothing.
use mathlib.Core.Path.{◌≡◌, ap, sym}
use mathlib.Core.Bool.{true}
use lib.ListN.{length}
use Rattle.answer.specs.Verdict.{is_accepted, settle, done}
use Rattle.follow.specs.Jobs.{kernel_follow_checks}
use Rattle.follow.proofs.Accepted.{Accepted, accepted, run-job}
use Rattle.follow.proofs.kernel_follow.Goals as goal
use Rattle.follow.proofs.kernel_follow.Goals.{In_ok-follow_check}

-- The checks accept,
pass : (c : In_ok-follow_check) → (let a = c.args in is_accepted (settle (kernel_follow_checks a.kernel a.values.now (length a.scores.now)) done) ≡ true)
pass c = ap is_accepted (sym c.in_ok-follow_check.ensures)

-- and the inputs pass them.
passed : (c : In_ok-follow_check) → (let a = c.args in Accepted a.kernel a.values.now (length a.scores.now))
passed c = let a = c.args in accepted a.kernel a.values.now (length a.scores.now) (pass c)

pub shapes_of-shapes-requires : goal.shapes_of-shapes-requires
shapes_of-shapes-requires c = (passed (goal.at.shapes_of-shapes-requires c).In_ok-follow_check).known

pub kernel_run-found-requires-clause-values_len : goal.kernel_run-found-requires-clause-values_len
kernel_run-found-requires-clause-values_len c = let k = passed (goal.at.kernel_run-found-requires-clause-values_len c).In_ok-follow_check in (k.count, k.inside)

pub returns : goal.returns
returns c =
    let a = c.args in
    run-job a.kernel a.values.now a.symbols a.scores.now (pass (goal.at.returns c).In_ok-follow_check) _ _ c.kernel_run-found.ensures _ c.store_scores.ensures
