-- `quarters::entry_of` meets its contract. Assumes nothing.
use mathlib.Core.Path.{ap₂, ◌∙◌}
use Prim.Native.Nat.{◌+◌, ◌*◌}
use native.Mathlib.Omega.{arith}
use lib.IntN.{pos}
use lib.ListN.{get_or}
use Rattle.windows.proofs.Following.{byte-digit, byte_small}
use Rattle.value_folds.proofs.Read.{read_is}
use Rattle.quarters.proofs.entry_of.Goals as goal

pub overflow_mul-n : goal.overflow_mul-n
overflow_mul-n c = omega (arith, byte_small c.args.v6)

pub overflow_mul-n-2 : goal.overflow_mul-n-2
overflow_mul-n-2 c = omega (arith, byte_small c.args.v5)

pub overflow_add-n : goal.overflow_add-n
overflow_add-n c = omega (arith, byte_small c.args.v6, byte_small c.args.v5)

pub overflow_add-n-2 : goal.overflow_add-n-2
overflow_add-n-2 c = omega (arith, byte_small c.args.v6, byte_small c.args.v5, byte_small c.args.a)

pub offset_bounds-row-n : goal.offset_bounds-row-n
offset_bounds-row-n c = omega (arith, byte_small c.args.v6, byte_small c.args.v5, byte_small c.args.a)

pub bounds-row-n : goal.bounds-row-n
bounds-row-n c = omega (arith, byte_small c.args.v6, byte_small c.args.v5, byte_small c.args.a)

pub returns : goal.returns
returns c =
    let s = c.args in
    read_is _ c.result-1.given
    ∙ ap₂ (λ i k. get_or s.row.now (i + k) (pos 0)) (ap₂ (λ i k. 4 * i + 2 * k) (byte-digit s.v6) (byte-digit s.v5)) (byte-digit s.a)
