-- `paths::both_known` meets its contract. The two halves are filled below place i. Assumes nothing.
use mathlib.Core.Path.{◌≡◌, sym, ap, ap₂, ◌∙◌}
use mathlib.Core.Bool.{Bool, true, false}
use Prim.Native.Nat.{◌+◌, ◌≤◌}
use native.Mathlib.Omega.{arith}
use borrow.Author.Rules.{rules}
use lib.IntN.{ℤ, pos, nat_abs, ◌+ℤ◌, ◌-ℤ◌}
use lib.ListN.{get_or}
use mir.Facts.{to_z-of_z}
use mir.Syntax.{w32}
use mir.Val.{SFits, to_z, of_z}
use Rattle.base.specs.Bit.{◌⊕◌}
use Rattle.values.specs.Value.{turned, known_value}
use Rattle.value_folds.proofs.Read.{read_is, read_small}
use Rattle.value_folds.proofs.Sizes.{turned-small, add_small, sub_small, fits-small}
use Rattle.paths.proofs.Halves.{halves-none, halves-next}
use Rattle.paths.proofs.Signs.{turned-sum}
use Rattle.paths.proofs.both_known.Goals as goal
use Rattle.paths.proofs.both_known.Goals.{After-turned-n, In-loop-i}

module _ (b : Bool) (p q : ℤ) (hp : nat_abs p ≤ 16777216) (hq : nat_abs q ≤ 16777216) where
  -- The sum of one value and the other, turned, fits thirty-two bits, as does their difference.
  sum_fits : SFits w32 (q +ℤ turned b p)
  sum_fits = fits-small (q +ℤ turned b p) 33554432 (omega (arith, add_small q (turned b p), turned-small b p)) (omega arith)

  gap-fits : SFits w32 (q -ℤ turned b p)
  gap-fits = fits-small (q -ℤ turned b p) 33554432 (omega (arith, sub_small q (turned b p), turned-small b p)) (omega arith)

pub loop-i-init : goal.loop-i-init
loop-i-init c = halves-none (pos 0) _

-- The two values at place i,
abbrev first : In-loop-i → ℤ
first c = get_or c.args.p.now c.loop-i.i (pos 0)

abbrev second : In-loop-i → ℤ
second c = get_or c.args.p.now (4 + c.loop-i.i) (pos 0)

-- which are small,
first_small : (c : In-loop-i) → nat_abs (first c) ≤ 16777216
first_small c = c.requires _ (search rules)

second-small : (c : In-loop-i) → nat_abs (second c) ≤ 16777216
second-small c = c.requires _ (search rules)

-- and the first one turned.
turn : (c : After-turned-n) → to_z w32 (of_z w32 c.turned-n.result) ≡ turned c.args.bit (first (goal.at.After-turned-n c).In-loop-i)
turn c =
    let d = c in
    read_is c.turned-n.result c.turned-n.type_inv
    ∙ c.turned-n.ensures
    ∙ ap (turned d.args.bit) (read_is (first (goal.at.After-turned-n c).In-loop-i) d.turned-arg-1.given)

pub turned-n-requires : goal.turned-n-requires
turned-n-requires c =
    let l = first_small (goal.at.turned-n-requires c).In-loop-i in
    read_small (first (goal.at.turned-n-requires c).In-loop-i) c.turned-arg-1.given _ (omega arith)

pub overflow_add-out-in-loop-i : goal.overflow_add-out-in-loop-i
overflow_add-out-in-loop-i c =
    let k = (goal.at.overflow_add-out-in-loop-i c).In-loop-i in
    rw (read_is (second k) c.out-1.given, turn (goal.at.overflow_add-out-in-loop-i c).After-turned-n) (sum_fits k.args.bit (first k) (second k) (first_small k) (second-small k))

pub overflow_sub-out : goal.overflow_sub-out
overflow_sub-out c =
    let d = (goal.at.overflow_sub-out c).After-turned-n in
    let k = (goal.at.overflow_sub-out c).In-loop-i in
    rw (read_is (second k) c.out-in-loop-i-1.given, turn d) (gap-fits k.args.bit (first k) (second k) (first_small k) (second-small k))

pub loop-i-preserved : goal.loop-i-preserved
loop-i-preserved c =
    let o = c in
    let k = (goal.at.loop-i-preserved c).In-loop-i in
    let m = k.loop-i in
    let b = k.args.bit in
    let e : (d : Bool) → second k +ℤ turned d (turned b (first k)) ≡ known_value (b ⊕ d) (first k) (second k) = λ d. ap (λ x. second k +ℤ x) (sym (turned-sum b d (first k))) in
    halves-next (pos 0) m.i _ m.out m.invariant _ _ (search rules)
    (to_z-of_z {w = w32} (overflow_add-out-in-loop-i c.before) ∙ ap₂ ◌+ℤ◌ (read_is (second k) o.out-1.given) (turn (goal.at.loop-i-preserved c).After-turned-n) ∙ e false)
    (to_z-of_z {w = w32} (overflow_sub-out c) ∙ ap₂ ◌-ℤ◌ (read_is (second k) c.out-in-loop-i-1.given) (turn (goal.at.loop-i-preserved c).After-turned-n) ∙ e true)

pub returns : goal.returns
returns c d i l = c.loop-i.invariant.done d i (search rules)
