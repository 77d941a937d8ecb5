-- What information mask leaves where its checks accept. Assumes nothing.
use mathlib.Core.Path.{◌≡◌, ap, ◌∙◌}
use mathlib.Core.Bool.{true}
use mathlib.Core.List.{List, ◌++◌}
use Prim.Native.Nat.{ℕ}
use lib.ListN.{length, drop}
use Rattle.base.proofs.List.{length-tabulate}
use Rattle.bits.specs.Packed.{pack}
use Rattle.bits.proofs.Packed.{length-pack}
use Rattle.answer.specs.Verdict.{Verdict, done, is_accepted, settle, after}
use Rattle.answer.proofs.Settle.{none_of, settle-none}
use Rattle.order.specs.Order.{information_bits}
use Rattle.order.specs.Jobs.{information_checks, information_mask}

-- There is a bit for each phase.
pub length-information : (p : ℕ) → length (information_bits p) ≡ 256
unfolding information_bits
length-information p = length-tabulate 256 _

-- The mask, packed, and what lies past it.
pub accepted-job : (p : ℕ) (out : List ℕ) → is_accepted (settle (information_checks p (length out)) done) ≡ true
    → information_mask p out ≡ (done, pack 32 (information_bits p) ++ drop 32 out)
unfolding information_mask
accepted-job p out a =
    let cs = information_checks p (length out) in
    let new = pack 32 (information_bits p) in
    ap (λ (v : Verdict). (v, after v out new)) (settle-none cs done (none_of cs done a))
    ∙ ap (λ n. (done, new ++ drop n out)) (length-pack 32 (information_bits p))
