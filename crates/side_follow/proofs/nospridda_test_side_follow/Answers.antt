-- `side_follow::nospridda_test_side_follow` meets its contract: refused it leaves the buffer, accepted it writes the scores of a run. Assumes nothing.
use mathlib.Core.Path.{◌≡◌, sym, ◌∙◌}
use mathlib.Core.Bool.{true}
use lib.ListN.{length}
use Rattle.side_follow.specs.Follow.{side_accepted}
use Rattle.side_follow.proofs.Values.{lanes-within}
use Rattle.side_follow.proofs.Requests.{Fitting, fitting, refused, followed}
use Rattle.side_follow.proofs.nospridda_test_side_follow.Goals as goal
use Rattle.side_follow.proofs.nospridda_test_side_follow.Goals.{Else-not-accepted}

-- Past the check the request is accepted,
pass : (c : Else-not-accepted) → (let a = c.args in side_accepted a.kernel a.values.now (length a.planes.now) (length a.scores.now) ≡ true)
pass c =
    sym c.accepted.ensures ∙ c.if-not-accepted.false

-- and has what is asked for.
fits : (c : Else-not-accepted) → (let a = c.args in Fitting a.kernel a.values.now (length a.planes.now) (length a.scores.now))
fits c =
    let a = c.args in fitting a.kernel a.values.now (length a.planes.now) (length a.scores.now) (pass c)

pub returns-then-not-accepted : goal.returns-then-not-accepted
returns-then-not-accepted c =
    let a = c.args in
    refused a.kernel a.values.now a.planes.now a.scores.now (sym c.accepted.ensures ∙ c.if-not-accepted.true)

pub lane_costs-costs-requires : goal.lane_costs-costs-requires
lane_costs-costs-requires c = (fits (goal.at.lane_costs-costs-requires c).Else-not-accepted).count

pub planes_of-given-requires : goal.planes_of-given-requires
planes_of-given-requires c = (fits (goal.at.planes_of-given-requires c).Else-not-accepted).plane-count

pub run-found-requires : goal.run-found-requires
run-found-requires c =
    let e = c in
    let a = e.args in
    let k = fits (goal.at.run-found-requires c).Else-not-accepted in
    let m = c.lane_costs-costs in
    (k.known, lanes-within 2047 a.values.now m.result (k.inside ∙ sym k.count) m.ensures)

pub store-requires : goal.store-requires
store-requires c = (fits (goal.at.store-requires c).Else-not-accepted).room-enough

pub returns : goal.returns
returns c =
    let e = c in
    let a = e.args in
    let m = c.lane_costs-costs in
    let p = c.planes_of-given in
    let r = c.run-found in
    followed a.kernel a.values.now a.planes.now a.scores.now (pass (goal.at.returns c).Else-not-accepted) m.result m.ensures p.result p.ensures r.result r.ensures _ c.store.ensures
