-- `lane_rows::less` meets its contract. Assumes nothing.
use Rattle.lane_rows.proofs.Rows.{less-fits, less-is}
use Rattle.lane_rows.proofs.less.Goals as goal

pub overflow_sub-result : goal.overflow_sub-result
overflow_sub-result c = rw (c.from.ensures, c.from-2.ensures) (less-fits c.args.a c.args.b c.ranges.a.fits c.ranges.b.fits)

pub returns : goal.returns
returns c = rw (c.from.ensures, c.from-2.ensures) (less-is c.args.a c.args.b c.ranges.a.fits c.ranges.b.fits)
