-- Both engines of kernel follow, on every request. Assumes nothing.
use mathlib.Core.Path.{◌≡◌, sym, ◌∙◌}
use mathlib.Core.List.{List}
use Prim.Native.Nat.{ℕ}
use lib.IntN.{ℤ}
use Rattle.answer.specs.Verdict.{Verdict}
use Rattle.follow.specs.Jobs.{kernel_follow}

-- For every kernel, values, symbols and buffer: what `kernel_follow` answers and leaves (the first) is what `kernel_follow_hadamard`
-- answers and leaves (the second). The premises are the two contracts.
pub engines-agree : (k : ℕ) (values : List ℤ) (symbols : ℕ) (out : List ℤ) (first second : Verdict × List ℤ)
    → kernel_follow k values symbols out ≡ first → kernel_follow k values symbols out ≡ second → first ≡ second
engines-agree k values symbols out first second windows hadamard = sym windows ∙ hadamard
