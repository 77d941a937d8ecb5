-- `paths::step9` meets its contract: what v6 + v9 adds to the kept scores. Assumes nothing.
use mathlib.Core.Path.{◌≡◌, ap, ap₂, ◌∙◌}
use mathlib.Core.Bool.{Bool}
use mathlib.Core.List.{List}
use Prim.Native.Nat.{ℕ, ◌+◌, ◌*◌, ◌≤◌}
use native.Mathlib.Omega.{arith}
use lib.IntN.{ℤ, pos, nat_abs, ◌+ℤ◌}
use lib.ListN.{get_or}
use Rattle.base.specs.Bit.{◌⊕◌, digit}
use Rattle.values.specs.Value.{turned, known_value, gain, Small}
use Rattle.values.specs.Path.{path_number, even_free, odd_free, value9}
use Rattle.values.proofs.Numbers.{all-paths, all-pairs, path-below, path-pair, path-half}
use Rattle.paths.proofs.Steps.{wider, free-at, seen-small, even-free-small, odd-free-small, value9-small}
use borrow.Author.Rules.{rules}
use Rattle.paths.proofs.step9.Goals as goal
use Rattle.paths.proofs.step9.Goals.{After-by_path, After-free_half-even, After-values9, Start}

-- The places, which are small.
abbrev xs : Start → List ℤ
xs s = s.args.x.now

small : (s : Start) (m : ℕ) → 4194304 ≤ m → Small m 8 (xs s)
small s m l = wider 4194304 m 8 (xs s) l s.requires.1

pub free_half-even-requires : goal.free_half-even-requires
free_half-even-requires c =
    let d = c in
    (search rules, (search rules, seen-small 16777216 (xs (goal.at.free_half-even-requires c).Start) (small (goal.at.free_half-even-requires c).Start 16777216 (omega arith)) 0 (omega arith) d.seen.result d.seen.ensures))

pub free_half-odd-requires : goal.free_half-odd-requires
free_half-odd-requires c =
    let d = c in
    let s = (goal.at.free_half-odd-requires c).Start in
    (search rules, (search rules, seen-small 16777216 (xs s) (small s 16777216 (omega arith)) 1 (omega arith) d.seen-2.result d.seen-2.ensures))

-- What stood at the start, and after the fold of the even places.
abbrev begun : After-free_half-even → Start
begun c = (goal.at.After-free_half-even c).Start

abbrev folded : After-by_path → After-free_half-even
folded c = (goal.at.After-by_path c).After-free_half-even

-- What the paths have of the even places, of the odd ones,
even : (c : After-free_half-even) (g a : Bool) → get_or c.free_half-even.result (2 * digit g + digit a) (pos 0) ≡ even_free (xs (begun c)) g a
even c =
    let d = c in
    free-at (xs (goal.at.After-free_half-even c).Start) d.seen.result c.free_half-even.result 0 d.seen.ensures c.free_half-even.ensures

odd : (c : After-by_path) (d g a : Bool) → get_or c.by_path.result (path_number d g a) (pos 0) ≡ odd_free (xs (begun (folded c))) g (a ⊕ d)
odd c d g a =
    let o = c in
    let e = c in
    c.by_path.ensures d g a
    ∙ free-at (xs (begun (folded c))) e.seen-2.result o.free_half-odd.result 1 e.seen-2.ensures o.free_half-odd.ensures g (a ⊕ d)

-- and the value of v6 + v9.
value : (c : After-values9) (d g a : Bool)
    → get_or c.values9.result (path_number d g a) (pos 0) ≡ value9 (xs (begun (folded (goal.at.After-values9 c).After-by_path))) (begun (folded (goal.at.After-values9 c).After-by_path)).args.v8 d g a
value c d g a =
    let p = (goal.at.After-values9 c).After-by_path in
    let e = folded p in
    let q = ap (λ i. get_or e.free_half-even.result i (pos 0)) (path-pair d g a) ∙ even e g a in
    c.values9.ensures (path_number d g a) (path-below d g a)
    ∙ ap₂ turned (path-half d g a) (ap₂ (known_value (begun e).args.v8) q (odd p d g a))

pub values9-requires : goal.values9-requires
values9-requires c =
    let p = (goal.at.values9-requires c).After-by_path in
    let e = folded p in
    let s = begun e in
    let h = small s 16777216 (omega arith) in (
      all-pairs (λ i. nat_abs (get_or e.free_half-even.result i (pos 0)) ≤ 16777216) (λ g a. rw (even e g a) (even-free-small 16777216 (xs s) h g a)),
      all-paths (λ i. nat_abs (get_or p.by_path.result i (pos 0)) ≤ 16777216) (λ d g a. rw (odd p d g a) (odd-free-small 16777216 (xs s) h g (a ⊕ d))),
    )

pub added-requires : goal.added-requires
added-requires c =
    let v = c in
    let s = begun (folded (goal.at.added-requires c).After-by_path) in (
      s.requires.0,
      all-paths (λ i. nat_abs (get_or v.values9.result i (pos 0)) ≤ 16777216)
          (λ d g a. rw (value (goal.at.added-requires c).After-values9 d g a) (value9-small 8388608 (xs s) (small s 8388608 (omega arith)) s.args.v8 d g a)),
    )

pub returns : goal.returns
returns c b d g a =
    let v = c in
    let kept = (begun (folded (goal.at.returns c).After-by_path)).args.kept.now in
    c.added.ensures (path_number d g a) b (path-below d g a) ∙ ap (λ z. get_or kept (path_number d g a) (pos 0) +ℤ gain z b) (value (goal.at.returns c).After-values9 d g a)
