-- `order::information_mask` meets its contract: the mask is copied. Assumes nothing.
use mathlib.Core.Path.{◌≡◌, sym, ◌∙◌, ap}
use mathlib.Core.List.{List, ◌++◌}
use Prim.Native.Nat.{ℕ, ◌<◌}
use borrow.Author.Rules.{rules}
use borrow.Author.Tests.{le-ltb}
use lib.ListN.{length, get_or, drop}
use lib.Seq.{length-take-le}
use mir.Syntax.{w8}
use mir.Val.{Fits}
use Rattle.bits.specs.Packed.{pack}
use Rattle.bits.proofs.Packed.{packed}
use Rattle.answer.specs.Verdict.{done}
use Rattle.order.specs.Order.{information_bits}
use Rattle.order.specs.Jobs.{information_checks}
use Rattle.order.proofs.Accepted.{accepted-job}
use Rattle.order.proofs.information_mask.Goals as goal

pub copy_from_slice-requires : goal.copy_from_slice-requires
copy_from_slice-requires c =
    let n : length c.information_bits.result ≡ 32 = search rules in
    length-take-le 32 c.args.out.now c.if-out-lt32.false ∙ sym n

pub returns : goal.returns
unfolding information_checks
returns c =
    let a = c.args in
    let m = c.information_bits.result in
    let n : length m ≡ 32 = search rules in
    let b : (i : ℕ) → i < length m → get_or m i 0 < 256 = λ i h. (let f : Fits w8 (get_or m i 0) = search rules in f.fits) in
    let e : pack 32 (information_bits a.p) ≡ m = packed m 32 (information_bits a.p) n b c.information_bits.ensures in
    accepted-job a.p a.out.now (simp (le-ltb _ _ c.if-out-lt32.false, le-ltb _ _ c.if-p-lt1.false, le-ltb _ _ c.if-p-gt32.false))
    ∙ ap (λ (l : List ℕ). (done, l ++ drop 32 a.out.now)) (e ∙ sym c.copy_from_slice.ensures.after)
