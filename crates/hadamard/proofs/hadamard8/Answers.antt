-- `hadamard::hadamard8` meets its contract: the first round of the butterfly, and four values twice. Assumes nothing.
use mathlib.Core.Path.{◌≡◌, sym, ◌∙◌}
use mathlib.Core.List.{List}
use Prim.Native.Nat.{ℕ, ◌+◌, ◌<◌}
use native.Mathlib.Omega.{arith}
use borrow.Author.Rules.{rules}
use lib.Dec.{lit<}
use lib.IntN.{ℤ, pos, ◌+ℤ◌, ◌-ℤ◌}
use lib.ListN.{set, length-set}
use mir.Syntax.{w32}
use mir.Val.{to_z}
use Rattle.base.proofs.List.{each_next}
use Rattle.values.specs.Value.{Small}
use Rattle.hadamard.specs.Transform.{transform}
use Rattle.hadamard.proofs.Butterfly.{transform-cong, transform-first, transform-second}
use Rattle.hadamard.proofs.Holding.{Holds, at, held, plus, minus, holds_read, add-fits, sub-fits, add_holds, sub_holds}
use Rattle.hadamard.proofs.hadamard8.Invariants.{Round}
use Rattle.hadamard.proofs.hadamard8.Goals as goal

module _ (z : List ℤ) (h : Small 8388608 8 z) where
  -- What is read, a sum and a difference.
  read : (i : ℕ) → i < 8 → Holds 8388608 (held z i) (at z i)
  read i l = holds_read 8388608 8 z h (lit< tt) i l

  sum : (i : ℕ) → i < 4 → Holds 16777216 (plus (held z i) (held z (4 + i))) (at z i +ℤ at z (4 + i))
  sum i l = add_holds (read i (omega arith)) (read (4 + i) (omega arith)) (lit< tt)

  difference : (i : ℕ) → i < 4 → Holds 16777216 (minus (held z i) (held z (4 + i))) (at z i -ℤ at z (4 + i))
  difference i l = sub_holds (read i (omega arith)) (read (4 + i) (omega arith)) (lit< tt)

  -- One more of either is stored.
  round-next : (i : ℕ) (s d : List ℤ) → Round z i s d → i < 4
      → Round z (i + 1) (set s i (to_z w32 (plus (held z i) (held z (4 + i))))) (set d i (to_z w32 (minus (held z i) (held z (4 + i)))))
  round-next i s d k l =
      record {
        in-half = omega arith;
        as_many = length-set s i _ ∙ k.as_many;
        as-many-too = length-set d i _ ∙ k.as-many-too;
        sum-at = each_next (λ j x. x ≡ at z j +ℤ at z (4 + j)) s i (pos 0) _ (omega arith) k.sum-at (sum i l).is;
        difference-at = each_next (λ j x. x ≡ at z j -ℤ at z (4 + j)) d i (pos 0) _ (omega arith) k.difference-at (difference i l).is;
      }

  module _ (s d : List ℤ) (k : Round z 4 s d) where
    -- They are small enough for four values,
    sums-small : Small 16777216 4 s
    sums-small i l = rw (k.sum-at i l) (sum i l).small

    differences-small : Small 16777216 4 d
    differences-small i l = rw (k.difference-at i l) (difference i l).small

    -- whose transforms are the two rows.
    rows : (p q : List ℤ) → ((w : ℕ) → w < 4 → at p w ≡ transform 2 (at s) w) → ((w : ℕ) → w < 4 → at q w ≡ transform 2 (at d) w)
        → (w : ℕ) → w < 4 → (at p w ≡ transform 3 (at z) w) × (at q w ≡ transform 3 (at z) (4 + w))
    rows p q ep eq w l = (
      ep w l ∙ transform-cong 2 w k.sum-at ∙ sym (transform-first 2 (at z) w l),
      eq w l ∙ transform-cong 2 w k.difference-at ∙ sym (transform-second 2 (at z) w l),
    )

pub loop-i-init : goal.loop-i-init
loop-i-init c =
    record {
      in-half = search rules;
      as_many = search rules;
      as-many-too = search rules;
      sum-at = λ j l. absurd (omega arith);
      difference-at = λ j l. absurd (omega arith);
    }

pub overflow_add-sums-in-loop-i : goal.overflow_add-sums-in-loop-i
overflow_add-sums-in-loop-i c =
    let d = c in
    let z = d.args.values.now in
    add-fits (read z d.requires _ (search rules)) (read z d.requires _ (search rules)) (lit< tt)

pub overflow_sub-differences : goal.overflow_sub-differences
overflow_sub-differences c =
    let d = c in
    let z = d.args.values.now in
    sub-fits (read z d.requires _ (search rules)) (read z d.requires _ (search rules)) (lit< tt)

pub loop-i-preserved : goal.loop-i-preserved
loop-i-preserved c =
    let d = c in
    let k = d.loop-i in
    round-next d.args.values.now d.requires k.i k.sums k.differences k.invariant (search rules)

pub hadamard4-first-requires : goal.hadamard4-first-requires
hadamard4-first-requires c =
    let d = c in
    let e : d.loop-i.i ≡ 4 = search rules in
    sums-small d.args.values.now d.requires d.loop-i.sums d.loop-i.differences (rw e at d.loop-i.invariant)

pub hadamard4-second-requires : goal.hadamard4-second-requires
hadamard4-second-requires c =
    let d = c in
    let e : d.loop-i.i ≡ 4 = search rules in
    differences-small d.args.values.now d.requires d.loop-i.sums d.loop-i.differences (rw e at d.loop-i.invariant)

pub returns : goal.returns
returns c =
    let d = c in
    let e : d.loop-i.i ≡ 4 = search rules in
    let p = c.hadamard4-first in
    rows d.args.values.now d.requires d.loop-i.sums d.loop-i.differences (rw e at d.loop-i.invariant)
    p.result c.hadamard4-second.result p.ensures c.hadamard4-second.ensures
