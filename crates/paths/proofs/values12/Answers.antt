-- `paths::values12` meets its contract. The list is filled with the values of v12 below place i. Assumes nothing.
use mathlib.Core.Path.{◌≡◌, ap₂, ◌∙◌}
use Prim.Native.Nat.{ℕ, ◌≤◌}
use borrow.Author.Rules.{rules}
use lib.IntN.{ℤ, pos, nat_abs}
use Rattle.values.specs.Value.{free_value}
use Rattle.value_folds.proofs.Filling.{fill_none, fill_one, fill-all}
use Rattle.value_folds.proofs.Read.{read_is, read_small}
use Rattle.value_folds.proofs.Sizes.{free-small}
use Rattle.paths.proofs.values12.Invariants.{at}
use Rattle.paths.proofs.values12.Goals as goal
use Rattle.paths.proofs.values12.Goals.{After-free, After-free-in-loop-i, In-loop-i}

pub loop-i-init : goal.loop-i-init
loop-i-init c = fill_none (pos 0) 8 _

-- What the rows have at place i,
abbrev here : In-loop-i → ℕ → ℤ
here c r = at c.args.x.now r c.loop-i.i

-- which is small,
small : (c : In-loop-i) → (nat_abs (here c 0) ≤ 16777216) × (nat_abs (here c 1) ≤ 16777216) × (nat_abs (here c 2) ≤ 16777216) × (nat_abs (here c 3) ≤ 16777216)
small c =
    let h = c.requires in
    (h.0 _ (search rules), h.1 _ (search rules), h.2 _ (search rules), h.3 _ (search rules))

-- and the folds of two rows.
even : (c : After-free) → c.free.result ≡ free_value (here (goal.at.After-free c).In-loop-i 0) (here (goal.at.After-free c).In-loop-i 2)
even c =
    let d = c in
    let k = (goal.at.After-free c).In-loop-i in
    c.free.ensures ∙ ap₂ free_value (read_is (here k 0) d.free-arg-1.given) (read_is (here k 2) d.free-arg-in-loop-i-1.given)

odd : (c : After-free-in-loop-i)
    → c.free-in-loop-i.result ≡ free_value (here (goal.at.After-free-in-loop-i c).In-loop-i 1) (here (goal.at.After-free-in-loop-i c).In-loop-i 3)
odd c =
    let d = c in
    let k = (goal.at.After-free-in-loop-i c).In-loop-i in
    c.free-in-loop-i.ensures ∙ ap₂ free_value (read_is (here k 1) d.free-arg-in-loop-i-2-1.given) (read_is (here k 3) d.free-arg-in-loop-i-3-1.given)

pub free-requires : goal.free-requires
free-requires c =
    let k = (goal.at.free-requires c).In-loop-i in
    (read_small (here k 0) c.free-arg-1.given _ (small k).0, read_small (here k 2) c.free-arg-in-loop-i-1.given _ (small k).2)

pub free-requires-in-loop-i : goal.free-requires-in-loop-i
free-requires-in-loop-i c =
    let k = (goal.at.free-requires-in-loop-i c).In-loop-i in
    (read_small (here k 1) c.free-arg-in-loop-i-2-1.given _ (small k).1, read_small (here k 3) c.free-arg-in-loop-i-3-1.given _ (small k).3)

pub free-requires-in-loop-i-2 : goal.free-requires-in-loop-i-2
free-requires-in-loop-i-2 c =
    let d = (goal.at.free-requires-in-loop-i-2 c).After-free in
    let k = (goal.at.free-requires-in-loop-i-2 c).In-loop-i in
    let s = small k in (
      read_small d.free.result d.free.type_inv _ (rw (even d) (free-small (here k 0) (here k 2) _ s.0 s.2)),
      read_small c.free-in-loop-i.result c.free-in-loop-i.type_inv _ (rw (odd (goal.at.free-requires-in-loop-i-2 c).After-free-in-loop-i) (free-small (here k 1) (here k 3) _ s.1 s.3)),
    )

pub loop-i-preserved : goal.loop-i-preserved
loop-i-preserved c =
    let o = (goal.at.loop-i-preserved c).After-free-in-loop-i in
    let d = (goal.at.loop-i-preserved c).After-free in
    let k = d.loop-i in
    let e = ap₂ free_value (read_is d.free.result d.free.type_inv ∙ even d) (read_is o.free-in-loop-i.result o.free-in-loop-i.type_inv ∙ odd o) in
    fill_one (pos 0) 8 k.i _ k.s k.invariant _ (search rules) (read_is c.free-in-loop-i-2.result c.free-in-loop-i-2.type_inv ∙ c.free-in-loop-i-2.ensures ∙ e)

pub returns : goal.returns
returns c = fill-all (pos 0) 8 _ _ _ c.loop-i.invariant (search rules)
