-- `paths::step12` meets its contract: what v12 adds to the kept scores. Assumes nothing.
use mathlib.Core.Path.{◌≡◌, ap, ap₂, ◌∙◌}
use mathlib.Core.Bool.{Bool, false}
use mathlib.Core.List.{List, []}
use Prim.Native.Nat.{◌≤◌}
use native.Mathlib.Omega.{arith}
use lib.IntN.{ℤ, pos, nat_abs, ◌+ℤ◌}
use lib.ListN.{get_or}
use Rattle.base.specs.Bit.{◌⊕◌}
use Rattle.values.specs.Value.{free_value, gain, Small}
use Rattle.values.specs.Path.{path_number, value12}
use Rattle.values.proofs.Numbers.{all-paths, path-below}
use Rattle.paths.proofs.Steps.{wider, after_small, value12-small}
use Rattle.paths.proofs.step12.Goals as goal
use Rattle.paths.proofs.step12.Goals.{After-values12, Start}

-- The places, which are small.
abbrev ts : Start → List ℤ
ts s = s.args.t.now

small : (s : Start) → Small 16777216 16 (ts s)
small s = wider 4194304 16777216 16 (ts s) (omega arith) s.requires.1

pub values12-requires : goal.values12-requires
values12-requires c =
    let f = c in
    let x = f.fours.result in
    let e = f.fours.ensures in
    let h = after_small 16777216 (ts (goal.at.values12-requires c).Start) (small (goal.at.values12-requires c).Start) in (
      all-paths (λ i. nat_abs (get_or (get_or x 0 []) i (pos 0)) ≤ 16777216) (λ d g a. rw (e d g a).0 (h 0 (omega arith) g a)),
      all-paths (λ i. nat_abs (get_or (get_or x 1 []) i (pos 0)) ≤ 16777216) (λ d g a. rw (e d g a).1 (h 1 (omega arith) d (a ⊕ d))),
      all-paths (λ i. nat_abs (get_or (get_or x 2 []) i (pos 0)) ≤ 16777216) (λ d g a. rw (e d g a).2 (h 2 (omega arith) (g ⊕ d) (a ⊕ g))),
      all-paths (λ i. nat_abs (get_or (get_or x 3 []) i (pos 0)) ≤ 16777216) (λ d g a. rw (e d g a).3 (h 3 (omega arith) false (a ⊕ d ⊕ g))),
    )

-- The value of v12 for a path.
value : (c : After-values12) (d g a : Bool) → get_or c.values12.result (path_number d g a) (pos 0) ≡ value12 (ts (goal.at.After-values12 c).Start) d g a
value c d g a =
    let e = c.fours.ensures d g a in
    c.values12.ensures (path_number d g a) (path-below d g a) ∙ ap₂ free_value (ap₂ free_value e.0 e.2) (ap₂ free_value e.1 e.3)

pub added-requires : goal.added-requires
added-requires c =
    let v = (goal.at.added-requires c).After-values12 in
    let s = (goal.at.added-requires c).Start in (
      s.requires.0,
      all-paths (λ i. nat_abs (get_or v.values12.result i (pos 0)) ≤ 16777216)
          (λ d g a. rw (value v d g a) (value12-small 16777216 (ts s) (small s) d g a)),
    )

pub returns : goal.returns
returns c b d g a =
    c.added.ensures (path_number d g a) b (path-below d g a)
    ∙ ap (λ z. get_or c.args.kept.now (path_number d g a) (pos 0) +ℤ gain z b) (value (goal.at.returns c).After-values12 d g a)
