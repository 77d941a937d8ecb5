-- `Work::undo` meets its contract: a symbol 1 at an unmarked phase is refused, and any other word gives its payload. Assumes nothing.
use mathlib.Core.Path.{◌≡◌, ap, sym, ◌∙◌}
use Prim.Native.Nat.{◌*◌, ◌<◌}
use native.Mathlib.Omega.{arith}
use borrow.Author.Rules.{rules}
use lib.ListN.{length}
use Rattle.answer.specs.Verdict.{is_accepted}
use Rattle.bits.specs.Packed.{unpack}
use Rattle.payload.specs.Payload.{frozen_one}
use Rattle.mask.proofs.Mask.{bytes-marked}
use Rattle.plan.specs.Plan.{byte_count}
use Rattle.plan.proofs.Layered.{bytes_bits, bytes-few}
use Rattle.frame.proofs.Accepted.{RequestAccepted, request-accepted, undo-frozen, undo-done}
use Rattle.frame.proofs.Work.undo.Goals as goal
use Rattle.frame.proofs.Work.undo.Goals.{Start}

-- The inputs pass the checks before.
passed : (c : Start) → (let a = c.args in RequestAccepted a.self.now.plan a.mask.now (length a.word.now) (length a.payload.now))
passed c = request-accepted _ _ _ _ (ap is_accepted (sym c.requires))

pub read-requires : goal.read-requires
read-requires c = (passed (goal.at.read-requires c).Start).long

pub frozen_one-requires : goal.frozen_one-requires
frozen_one-requires c =
    let q = passed (goal.at.frozen_one-requires c).Start in
    (omega (arith, bytes-few _ q.layered, q.count), c.read.new.self.symbols_len ∙ ap byte_count c.read.ensures.0 ∙ sym q.count)

pub returns-in-Some : goal.returns-in-Some
returns-in-Some c =
    let a = c.args in
    let q = passed (goal.at.returns-in-Some c).Start in
    let i = c.in-Some.phase in
    let e : frozen_one (unpack a.mask.now) (unpack c.read.new.self.symbols.now) ≡ i = search rules in
    let l : i < 8 * length a.mask.now = search rules in
    undo-frozen a.self.now.plan a.mask.now a.word.now a.payload.now (ap is_accepted (sym c.requires))
    _ c.read.ensures.1 i (sym e) (omega (arith, l, q.count, bytes_bits _ q.layered))

pub gather-requires-clause-mask_len_bound : goal.gather-requires-clause-mask_len_bound
gather-requires-clause-mask_len_bound c =
    let q = passed (goal.at.gather-requires-clause-mask_len_bound c).Start in
    (omega (arith, bytes-few _ q.layered, q.count), c.read.new.self.symbols_len ∙ ap byte_count c.read.ensures.0 ∙ sym q.count)

pub gather-requires-clause-mask_bound : goal.gather-requires-clause-mask_bound
gather-requires-clause-mask_bound c =
    let q = passed (goal.at.gather-requires-clause-mask_bound c).Start in
    omega (arith, q.room-enough, bytes-marked _ _ q.count q.good)

pub returns : goal.returns
returns c =
    let a = c.args in
    let q = passed (goal.at.returns c).Start in
    undo-done a.self.now.plan a.mask.now a.word.now a.payload.now (ap is_accepted (sym c.requires))
    _ c.read.ensures.1 _ (sym c.in_default.ensures) (omega (arith, q.count, bytes_bits _ q.layered)) _ c.gather.ensures
