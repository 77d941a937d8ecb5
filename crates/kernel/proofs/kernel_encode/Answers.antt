-- `kernel::kernel_encode` meets its contract: the sum of the table's rows is the word. Assumes nothing.
use mathlib.Core.Path.{ap, sym, ◌∙◌}
use Rattle.answer.specs.Verdict.{word}
use Rattle.kernel.specs.Rows.{row_sum}
use Rattle.kernel.specs.Jobs.{encoded_word}
use Rattle.kernel.proofs.Table.{encoded-rows}
use Rattle.kernel.proofs.Checks.{kernel-lt, kernel-passed}
use Rattle.kernel.proofs.kernel_encode.Goals as goal

pub returns : goal.returns
returns c =
    let a = c.args in
    let e = sym c.is_kernel.ensures ∙ c.if-not-is_kernel.false in
    ap word (c.row_sum.ensures ∙ ap (λ t. row_sum t a.symbols) c.kernel_rows.ensures ∙ encoded-rows a.kernel a.symbols (kernel-lt a.kernel e))
    ∙ kernel-passed a.kernel (word (encoded_word a.kernel a.symbols)) e
