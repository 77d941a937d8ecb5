-- `frame_run::frame_run` meets its contract. Assumes nothing.
use mathlib.Core.Path.{◌≡◌, sym, ap, ◌∙◌, subst⁻¹}
use mathlib.Core.List.{◌++◌}
use Prim.Native.Nat.{suc, ◌*◌, ◌/◌, ◌<◌}
use native.Mathlib.Omega.{arith}
use lib.ListN.{drop}
use Rattle.base.specs.Bit.{tabulate}
use Rattle.polar.specs.Code.{sum}
use Rattle.penalty_sums.specs.Paid.{paid_at}
use Rattle.plan.proofs.Layered.{layers-some, layers-few, kernels-known, rows_few}
use Rattle.frame_run.specs.Run.{row_count}
use Rattle.frame_run.proofs.Penalties.{rows_all, sums-small, run_is}
use Rattle.frame_run.proofs.frame_run.Goals as goal
use Rattle.frame_run.proofs.frame_run.Goals.{After-symbols-n}

-- How many rows there are.
rows_of : (c : After-symbols-n) → c.symbols-n.result / 16 ≡ row_count c.args.plan
rows_of c =
    let z = c in omega (arith, c.symbols-n.ensures, rows_all z.args.plan z.requires.layered)

pub layers_run-symbols-requires : goal.layers_run-symbols-requires
layers_run-symbols-requires c =
    let z = c in record {
      le_m = (layers-some _ z.requires.layered, layers-few _ z.requires.layered, kernels-known _ z.requires.known);
      values_len = (z.requires.count, z.requires.inside, z.requires.score-room);
    }

pub add_up-requires : goal.add_up-requires
add_up-requires c =
    let z = c in
    let p = z.args.plan in
    let run = c.layers_run-symbols in
    let n = rows_of (goal.at.add_up-requires c).After-symbols-n in
    let all = rows_all p z.requires.layered in (
      omega (arith, n, rows_few p z.requires.layered),
      omega (arith, n, all, z.requires.score-room, run.auto.scores),
      omega (arith, n, all, z.requires.penalty-room),
      subst⁻¹ (λ k. sum (k * 16) (paid_at run.new.scores run.result) < 4294967296) n
          (sums-small p z.requires.layered z.args.values.now (z.requires.inside ∙ sym z.requires.count) z.args.free.now z.args.given.now run.result run.new.scores z.args.scores.now run.ensures),
    )

pub returns : goal.returns
returns c =
    let z = c in
    let p = z.args.plan in
    let run = c.layers_run-symbols in
    let a = c.add_up in
    run_is p z.requires.layered z.args.values.now (z.requires.inside ∙ sym z.requires.count) z.args.free.now z.args.given.now run.result run.new.scores z.args.scores.now run.ensures
    _ z.args.penalties.now (a.ensures ∙ ap (λ k. tabulate (k * 16) (λ i. sum (suc i) (paid_at run.new.scores run.result)) ++ drop (k * 16) z.args.penalties.now) (rows_of (goal.at.returns c).After-symbols-n))
