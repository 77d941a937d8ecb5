-- `paths::added` meets its contract. The rows are filled below place i. Assumes nothing.
use mathlib.Core.Path.{◌≡◌, sym, ap, ap₂, ◌∙◌}
use mathlib.Core.Bool.{true, false}
use Prim.Native.Nat.{◌≤◌}
use native.Mathlib.Omega.{arith}
use borrow.Author.Rules.{rules}
use lib.IntN.{ℤ, pos, neg_ℤ, nat_abs, ◌+ℤ◌, ◌-ℤ◌, +ℤ_assoc}
use lib.ListN.{get_or}
use mir.Facts.{to_z-of_z}
use mir.Syntax.{w32}
use mir.Val.{SFits, to_z, of_z}
use Rattle.values.specs.Value.{gain}
use Rattle.folds.proofs.Fill.{filled_none, fill-both}
use Rattle.value_folds.proofs.Read.{read_is}
use Rattle.value_folds.proofs.Sizes.{fits-small, add_small, gain-small, gain-one}
use Rattle.paths.proofs.added.Goals as goal
use Rattle.paths.proofs.added.Goals.{After-below, After-s-1, After-zero-1, In-loop-i}

-- A score and what a value adds for bit 0, less the value, is the score and what the value adds for bit 1.
rest-is : (k s : ℤ) → k +ℤ gain s false -ℤ s ≡ k +ℤ gain s true
rest-is k s = +ℤ_assoc k (gain s false) (neg_ℤ s) ∙ ap (λ x. k +ℤ x) (sym (gain-one s))

-- Both fit thirty-two bits.
module _ (k s : ℤ) (hk : nat_abs k ≤ 16777216) (hs : nat_abs s ≤ 16777216) where
  sum_fits : SFits w32 (k +ℤ gain s false)
  sum_fits = fits-small (k +ℤ gain s false) 33554432 (omega (arith, add_small k (gain s false), gain-small s false)) (omega arith)

  rest-fits : SFits w32 (k +ℤ gain s false -ℤ s)
  rest-fits = rw (rest-is k s) (fits-small (k +ℤ gain s true) 33554432 (omega (arith, add_small k (gain s true), gain-small s true)) (omega arith))

pub loop-i-init : goal.loop-i-init
loop-i-init c = (search rules, filled_none (pos 0) 8 _)

-- The kept score and the value at place i,
abbrev score : In-loop-i → ℤ
score c = get_or c.args.kept.now c.loop-i.i (pos 0)

abbrev value : In-loop-i → ℤ
value c = get_or c.args.values.now c.loop-i.i (pos 0)

-- which are small,
score-small : (c : In-loop-i) → nat_abs (score c) ≤ 16777216
score-small c = c.requires.0 _ (search rules)

value-small : (c : In-loop-i) → nat_abs (value c) ≤ 16777216
value-small c = c.requires.1 _ (search rules)

-- as the code reads them, and what the value adds for bit 0.
score-is : (c : After-zero-1) → to_z w32 (of_z w32 (score (goal.at.After-zero-1 c).In-loop-i)) ≡ score (goal.at.After-zero-1 c).In-loop-i
score-is c = read_is (score (goal.at.After-zero-1 c).In-loop-i) c.zero-1.given

value-is : (c : After-s-1) → to_z w32 (of_z w32 (value (goal.at.After-s-1 c).In-loop-i)) ≡ value (goal.at.After-s-1 c).In-loop-i
value-is c = read_is (value (goal.at.After-s-1 c).In-loop-i) c.s-1.given

below-is : (c : After-below) → to_z w32 (of_z w32 c.below.result) ≡ gain (value (goal.at.After-below c).In-loop-i) false
below-is c = read_is c.below.result c.below.type_inv ∙ c.below.ensures ∙ ap (λ x. gain x false) (value-is (goal.at.After-below c).After-s-1)

pub overflow_add-zero : goal.overflow_add-zero
overflow_add-zero c =
    let k = (goal.at.overflow_add-zero c).In-loop-i in
    rw (score-is (goal.at.overflow_add-zero c).After-zero-1, below-is (goal.at.overflow_add-zero c).After-below) (sum_fits (score k) (value k) (score-small k) (value-small k))

-- What the code stores in row 0.
zero_is : (c : After-below)
    → to_z w32 (of_z w32 (to_z w32 (of_z w32 (score (goal.at.After-below c).In-loop-i)) +ℤ to_z w32 (of_z w32 c.below.result)))
    ≡ score (goal.at.After-below c).In-loop-i +ℤ gain (value (goal.at.After-below c).In-loop-i) false
zero_is c = to_z-of_z {w = w32} (overflow_add-zero c) ∙ ap₂ ◌+ℤ◌ (score-is (goal.at.After-below c).After-zero-1) (below-is c)

pub overflow_sub-rows : goal.overflow_sub-rows
overflow_sub-rows c =
    let k = (goal.at.overflow_sub-rows c).In-loop-i in
    rw (zero_is (goal.at.overflow_sub-rows c).After-below, value-is (goal.at.overflow_sub-rows c).After-s-1) (rest-fits (score k) (value k) (score-small k) (value-small k))

pub loop-i-preserved : goal.loop-i-preserved
loop-i-preserved c =
    let k = (goal.at.loop-i-preserved c).In-loop-i in
    let m = k.loop-i in (
      search rules,
      fill-both (pos 0) 8 m.i _ m.rows m.invariant.1 _ _ (search rules) (zero_is (goal.at.loop-i-preserved c).After-below)
          (to_z-of_z {w = w32} (overflow_sub-rows (goal.at.loop-i-preserved c).After-below) ∙ ap₂ ◌-ℤ◌ (zero_is (goal.at.loop-i-preserved c).After-below) (value-is (goal.at.loop-i-preserved c).After-s-1) ∙ rest-is (score k) (value k)),
    )

pub returns : goal.returns
returns c =
    let e : c.loop-i.i ≡ 8 = search rules in
    (rw e at c.loop-i.invariant.1).done
