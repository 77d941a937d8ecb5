-- `spread::mark_counts` meets its contract: the first i counts are stored. Assumes nothing.
use Rattle.std.proofs.Common.{◌≡◌, ℕ, length, get_or, set, refl, ap, ◌∙◌, rules}
use lib.Count
use Rattle.base.specs.Bit.{tabulate}
use Rattle.base.proofs.List.{filled, fill-next, fill-all}
use Rattle.bits.specs.Packed.{bits}
use Rattle.payload.specs.Payload.{ones}
use Rattle.spread.specs.Spreading.{mark_counts}
use Rattle.payload.proofs.Payload.{count_bits}
use Rattle.spread.proofs.mark_counts.Goals as goal

pub loop-i-init : goal.loop-i-init
unfolding tabulate
loop-i-init c = refl

pub loop-i-preserved : goal.loop-i-preserved
loop-i-preserved c =
    let a = c.args in
    let l = c.loop-i in
    let m = get_or a.mask.now l.i 0 in
    ap (λ o. set o l.i (lib.Count.ones m)) l.invariant
    ∙ fill-next (λ k. ones (bits 8 (get_or a.mask.now k 0))) l.i a.counts.now (lib.Count.ones m) (search rules) (count_bits 8 m (c.type_inv.mask l.i).fits)

pub returns : goal.returns
unfolding mark_counts
returns c =
    let a = c.args in
    let l = c.loop-i in
    let f : ℕ → ℕ = λ k. ones (bits 8 (get_or a.mask.now k 0)) in
    let e : l.i ≡ length a.mask.now = search rules in
    l.invariant ∙ ap (λ n. filled f n a.counts.now) e ∙ fill-all f (length a.mask.now) a.counts.now c.requires
