-- `paths::place0` meets its contract: each of the eight paths has its entry. Assumes nothing.
use mathlib.Core.Bool.{true, false}
use Rattle.value_folds.proofs.Read.{read_is}
use Rattle.paths.proofs.place0.Goals as goal

pub returns : goal.returns
returns c false false false = read_is _ c.result-1.given
returns c false false true = read_is _ c.result-2-1.given
returns c false true false = read_is _ c.result-3-1.given
returns c false true true = read_is _ c.result-4-1.given
returns c true false false = read_is _ c.result-5-1.given
returns c true false true = read_is _ c.result-6-1.given
returns c true true false = read_is _ c.result-7-1.given
returns c true true true = read_is _ c.result-8-1.given
