-- `follow::kernel_follow_hadamard` meets its contract: it writes the scores of a run with nothing free. Assumes nothing.
use mathlib.Core.Path.{◌≡◌, ap, sym}
use mathlib.Core.Bool.{true}
use borrow.Author.Rules.{rules}
use lib.ListN.{length}
use Rattle.answer.specs.Verdict.{is_accepted, settle, done}
use Rattle.hadamard_run.proofs.Whole.{given-run}
use Rattle.follow.specs.Jobs.{kernel_follow_checks}
use Rattle.follow.proofs.Accepted.{Accepted, accepted, run-job}
use Rattle.follow.proofs.kernel_follow_hadamard.Goals as goal
use Rattle.follow.proofs.kernel_follow_hadamard.Goals.{In_ok-follow_check}

-- The checks accept,
pass : (c : In_ok-follow_check) → (let a = c.args in is_accepted (settle (kernel_follow_checks a.kernel a.values.now (length a.scores.now)) done) ≡ true)
pass c = ap is_accepted (sym c.in_ok-follow_check.ensures)

-- and the inputs pass them.
passed : (c : In_ok-follow_check) → (let a = c.args in Accepted a.kernel a.values.now (length a.scores.now))
passed c = let a = c.args in accepted a.kernel a.values.now (length a.scores.now) (pass c)

pub straight-found-requires : goal.straight-found-requires
straight-found-requires c = let k = passed (goal.at.straight-found-requires c).In_ok-follow_check in (k.known, k.count, k.inside)

pub returns : goal.returns
returns c =
    let a = c.args in
    let h = c.straight-found in
    let long : length h.result.scores ≡ 16 = search rules in
    run-job a.kernel a.values.now a.symbols a.scores.now (pass (goal.at.returns c).In_ok-follow_check) _ _
    (given-run a.kernel a.values.now a.symbols h.result.scores h.result.symbols h.ensures long) _ c.store_scores.ensures
