-- The plan of a frame, and its code. Assumes nothing.
use Rattle.std.specs.Prelude.{Bool, not, ◌||◌, List, [], ◌∷◌, ℕ, ◌/◌, ◌^◌, ltb, get_or}
use Rattle.base.specs.Bit.{every}
use Rattle.answer.specs.Verdict.{Check, condition}
use Rattle.polar.specs.Code.{Code}
use Rattle.polar.specs.Kernel.{Kernel}
use Rattle.polar.specs.Frame.{layers}
use Rattle.kernel.specs.Kernels.{kernel}
use Rattle.kernel.specs.Jobs.{is_kernel}
use Rattle.plan.specs.declared.Plan.{Plan}

-- Condition 14: the number of layers, the paper's m, is not 1, 2 or 3.
unfoldable pub bad_layers : Plan → Bool
bad_layers p = ltb p.layers 1 || ltb 3 p.layers

-- Condition 1: the kernel number of one of the m layers is not 0, 1 or 2. Those of unused layers are ignored.
unfoldable pub bad_kernels : Plan → Bool
bad_kernels p = not (every p.layers (λ i. is_kernel (get_or p.kernels i 0)))

-- The checks of a plan, in checking order.
abbrev pub plan_checks : Plan → List Check
plan_checks p = condition 14 (bad_layers p) ∷ condition 1 (bad_kernels p) ∷ []

-- The kernel of layer i; layer 0 is the innermost.
abbrev pub plan_kernel : Plan → ℕ → Kernel
plan_kernel p i = kernel (get_or p.kernels i 0)

-- The frame's code: the word is the sum over the symbols, each with the product of a kernel's entry for each layer. The most
-- significant digit of the phase belongs to the outermost layer; digits of the place run the other way.
abbrev pub plan_code : Plan → Code
plan_code p = layers (plan_kernel p) p.layers

-- How many symbols, values and places a frame has,
abbrev pub symbol_count : Plan → ℕ
symbol_count p = 16 ^ p.layers

-- and how many bytes hold a bit for each: masks, words, symbols, and the bytes lent to the payload part.
abbrev pub byte_count : Plan → ℕ
byte_count p = 16 ^ p.layers / 8
