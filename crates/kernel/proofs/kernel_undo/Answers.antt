-- `kernel::kernel_undo` meets its contract: the sum of the inverse's rows is the symbols. Assumes nothing.
use mathlib.Core.Path.{ap, sym, ◌∙◌}
use Rattle.answer.specs.Verdict.{word}
use Rattle.kernel.specs.Rows.{row_sum}
use Rattle.kernel.specs.Jobs.{undone_symbols}
use Rattle.kernel.proofs.Table.{undone-rows}
use Rattle.kernel.proofs.Checks.{kernel-lt, kernel-passed}
use Rattle.kernel.proofs.kernel_undo.Goals as goal

pub returns : goal.returns
returns c =
    let a = c.args in
    let e = sym c.is_kernel.ensures ∙ c.if-not-is_kernel.false in
    ap word (c.row_sum.ensures ∙ ap (λ t. row_sum t a.word) c.inverse_rows.ensures ∙ undone-rows a.kernel a.word (kernel-lt a.kernel e))
    ∙ kernel-passed a.kernel (word (undone_symbols a.kernel a.word)) e
