-- `grid::stage_rows` meets its contract: the rows of the first g groups are made. Assumes nothing.
use mathlib.Core.Path.{◌≡◌, refl, ap, ◌∙◌}
use Prim.Native.Nat.{ℕ, ◌+◌, ◌*◌}
use native.Mathlib.Omega.{arith}
use lib.ListN.{length, get_or}
use lib.Seq.{paste}
use Rattle.std.proofs.lemmas.Slice.{put_mid-paste}
use Rattle.base.specs.Bit.{tabulate}
use Rattle.base.proofs.List.{filled}
use Rattle.grid.proofs.Grid.{turned, staged-rows, columns-turned}
use Rattle.grid.proofs.Stages.{fill-at, fill-sixteen}
use borrow.Author.Rules.{rules}
use Rattle.grid.proofs.stage_rows.Goals as goal
use Rattle.grid.proofs.stage_rows.Goals.{In-loop-g}

pub loop-g-init : goal.loop-g-init
unfolding tabulate
loop-g-init c = refl

pub loop-g-preserved : goal.loop-g-preserved
loop-g-preserved c =
    let a = c.args in
    let l = c.loop-g in
    let k : ℕ = 16 * l.g in
    let sums = c.column_sums-sums.result in
    let pasted : _ ≡ paste l.out k sums 16 =
    put_mid-paste k _ l.out _ sums 16 c.copy_from_slice.ensures.after (omega arith) (search rules) in
    let made : _ ≡ filled (turned a.table (16 * a.s) a.from.now) (16 * (l.g + 1)) a.out.now =
    pasted ∙ fill-sixteen (turned a.table (16 * a.s) a.from.now) l.g a.out.now l.out _ l.invariant
    (c.column_sums-sums.ensures
    ∙ columns-turned a.table a.from.now _ a.s l.g c.requires.s_nonzero.0 c.spaced_rows-choosing.ensures) in
    made

pub returns : goal.returns
returns c =
    let a = c.args in
    let l = c.loop-g in
    let n : ℕ = length a.from.now in
    let f = turned a.table (16 * a.s) a.from.now in
    let e : 16 * l.g ≡ n = search rules in
    staged-rows a.table (16 * a.s) a.from.now l.out (λ q lq.
    ap (λ o. get_or o q 0) l.invariant ∙ fill-at f (16 * l.g) a.out.now q (rw e lq))
