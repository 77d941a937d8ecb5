-- `straight_one::lead1` meets its contract. Assumes nothing.
use mathlib.Core.Path.{◌≡◌, ap₂, ◌∙◌}
use Prim.Native.Nat.{ℕ, ◌^◌, ◌<◌}
use native.Mathlib.Omega.{arith}
use lib.IntN.{ℤ, pos}
use lib.ListN.{get_or}
use lib.Signed.{mag}
use Rattle.values.specs.Value.{greater}
use Rattle.values.proofs.Greater.{greater-comm, greater-small}
use Rattle.value_folds.proofs.Carried.{Carried, carried, carried-sub, sub-fits, carried-entry, read}
use Rattle.straight_one.proofs.lead1.Goals as goal
use Rattle.straight_one.proofs.lead1.Goals.{After-max, After-max-2}

-- The greater of two numbers.
held-greater : (r x y a b : ℤ) (n : ℕ) → mag r < 2 ^ 31 → r ≡ greater (read x) (read y) → Carried x a n → Carried y b n → Carried r (greater a b) n
held-greater r x y a b n f e hx hy = carried r (greater a b) n f (e ∙ ap₂ greater hx.is hy.is) (greater-small a b n hx.small hy.small)

-- The greater one with v4 = 0,
zero_held : (c : After-max) → (let s = c.args in Carried c.max.result (greater (get_or s.zero 0 (pos 0)) (get_or s.one 0 (pos 0))) 16777216)
zero_held c =
    let s = c in
    held-greater _ _ _ _ _ 16777216 c.max.type_inv (c.max.ensures.value ∙ greater-comm (read (get_or s.args.one 0 (pos 0))) (read (get_or s.args.zero 0 (pos 0)))) (carried-entry 16777216 2 s.args.zero s.requires.0 (omega arith) 0 (omega arith)) (carried-entry 16777216 2 s.args.one s.requires.1 (omega arith) 0 (omega arith))

-- and with v4 = 1.
one-held : (c : After-max-2) → (let s = c.args in Carried c.max-2.result (greater (get_or s.zero 1 (pos 0)) (get_or s.one 1 (pos 0))) 16777216)
one-held c =
    let s = c in
    held-greater _ _ _ _ _ 16777216 c.max-2.type_inv (c.max-2.ensures.value ∙ greater-comm (read (get_or s.args.one 1 (pos 0))) (read (get_or s.args.zero 1 (pos 0)))) (carried-entry 16777216 2 s.args.zero s.requires.0 (omega arith) 1 (omega arith)) (carried-entry 16777216 2 s.args.one s.requires.1 (omega arith) 1 (omega arith))

pub overflow_sub-result : goal.overflow_sub-result
overflow_sub-result c = sub-fits _ _ _ _ _ _ (zero_held (goal.at.overflow_sub-result c).After-max) (one-held (goal.at.overflow_sub-result c).After-max-2) (omega arith)

pub returns : goal.returns
returns c = (carried-sub _ _ _ _ _ _ (zero_held (goal.at.returns c).After-max) (one-held (goal.at.returns c).After-max-2) (omega arith)).is
