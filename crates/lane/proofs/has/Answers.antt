-- `lane::has` meets its contract. Assumes nothing.
use mathlib.Core.Path.{ap, ◌∙◌}
use mathlib.Core.Bool.{not}
use lib.Dec.{eqb}
use lib.Bits.{bit_and}
use Rattle.lane.proofs.Planes.{found}
use Rattle.lane.proofs.has.Goals as goal

pub returns : goal.returns
returns c = λ l ll e. ap (λ x. not (eqb (bit_and c.args.plane x) 0)) e ∙ found c.args.plane l c.ranges.plane.fits ll
