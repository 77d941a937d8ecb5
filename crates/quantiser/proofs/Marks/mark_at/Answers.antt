-- `quantiser::Marks::mark_at` meets its contract. Assumes nothing.
use mathlib.Core.Path.{sym, ◌∙◌}
use Rattle.quantiser.proofs.Request.{blanked-mark, heard-mark}
use Rattle.quantiser.proofs.Marks.mark_at.Goals as goal

pub returns-then-bit : goal.returns-then-bit
returns-then-bit c = let a = c.args in blanked-mark a.self.now.amplitudes.now a.self.now.blanked.now a.n (sym c.bit.ensures ∙ c.if-bit.true)

pub returns : goal.returns
returns c = let a = c.args in heard-mark a.self.now.amplitudes.now a.self.now.blanked.now a.n (sym c.bit.ensures ∙ c.if-bit.false)
