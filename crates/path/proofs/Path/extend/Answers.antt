-- `path::Path::extend` meets its contract. Assumes nothing.
use mathlib.Core.Path.{refl}
use Rattle.path.proofs.Growing.{set-one, leave-zero}
use Rattle.path.proofs.Path.extend.Goals as goal

pub returns-then-b : goal.returns-then-b
returns-then-b c =
    let a = c.args in
    ((λ p l h. set-one p a.at a.b a.self.symbols _ c.requires c.if-b.true c.set_bit.ensures l h), refl)

pub returns-else-b : goal.returns-else-b
returns-else-b c =
    let a = c.args in
    ((λ p l h. leave-zero p a.at a.b a.self.symbols c.requires c.if-b.false l h), refl)
