-- `path::Path::freeze` meets its contract. Assumes nothing.
use Rattle.path.proofs.Growing.{leave-zeros}
use Rattle.path.proofs.Path.freeze.Goals as goal

pub returns : goal.returns
returns c = ((λ p n l h. leave-zeros p n c.args.self.symbols c.penalty.result.symbols c.penalty.ensures.0 l h), c.penalty.ensures.1)
