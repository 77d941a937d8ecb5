-- `text::put_hexadecimal` meets its contract: the first bytes are put. Assumes nothing.
use mathlib.Core.Path.{◌≡◌, ap, ap₂, ◌∙◌}
use mathlib.Core.List.{List}
use Prim.Native.Nat.{ℕ, ◌+◌}
use native.Mathlib.Omega.{arith}
use lib.ListN.{length, take, set}
use lib.Seq.{lt-length-set, take-length}
use Rattle.text.specs.Text.{hexadecimal}
use Rattle.text.specs.Put.{stored}
use Rattle.text.proofs.Stored.{stored-none}
use Rattle.text.proofs.Text.{length-hexadecimal, hexadecimal-put}
use borrow.Author.Rules.{rules}
use Rattle.text.proofs.put_hexadecimal.Goals as goal

pub loop-b-init : goal.loop-b-init
unfolding hexadecimal
loop-b-init c = (omega arith, stored-none c.args.at c.args.out.now)

pub bounds-out-end : goal.bounds-out-end
bounds-out-end c = let h = length-hexadecimal c.args.bytes.now in search rules

pub overflow_add-out : goal.overflow_add-out
overflow_add-out c = let h = length-hexadecimal c.args.bytes.now in search rules

pub bounds-out-end-in-loop-b : goal.bounds-out-end-in-loop-b
bounds-out-end-in-loop-b c =
    let l = c.loop-b in
    lt-length-set l.out l.end c.digit.result (omega (arith, length-hexadecimal c.args.bytes.now))

pub overflow_add-end : goal.overflow_add-end
overflow_add-end c = let h = length-hexadecimal c.args.bytes.now in search rules

pub loop-b-preserved : goal.loop-b-preserved
loop-b-preserved c =
    let a = c.args in
    let l = c.loop-b in (
      omega arith,
      ap₂ (λ x y. set (set l.out l.end x) (l.end + 1) y) c.digit.ensures c.digit-in-loop-b.ensures
          ∙ hexadecimal-put a.bytes.now a.at l.end l.b-index a.out.now l.out (search rules) c.requires l.invariant.0 l.invariant.1,
    )

pub returns : goal.returns
returns c =
    let a = c.args in
    let l = c.loop-b in
    let i : l.b-index ≡ length a.bytes.now = search rules in
    (omega (arith, length-hexadecimal a.bytes.now), l.invariant.1 ∙ ap (λ (t : List ℕ). stored (hexadecimal t) a.at a.out.now) (ap (λ n. take n a.bytes.now) i ∙ take-length a.bytes.now))
