-- `checksum::agrees` meets its contract. Assumes nothing.
use mathlib.Core.Path.{◌≡◌, ◌∙◌, ap}
use Prim.Native.Nat.{ℕ, ◌+◌, ◌-◌, ◌*◌}
use lib.ListN.{length, get_or}
use Rattle.bits.specs.Packed.{bits}
use Rattle.checksum.proofs.Stored.{two_bytes, agreed}
use borrow.Author.Rules.{rules}
use Rattle.checksum.proofs.agrees.Goals as goal

pub returns : goal.returns
returns c =
    let s = c.args.payload.now in
    let n : ℕ = length s - 2 in
    let e : c.from_be_bytes.result ≡ 256 * get_or s n 0 + get_or s (n + 1) 0 = search rules in
    agreed s _ _ (search rules) (search rules) (search rules) c.checksum-sum.ensures (ap (bits 16) e ∙ two_bytes _ _ (search rules))
