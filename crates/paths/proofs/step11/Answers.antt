-- `paths::step11` meets its contract: what v11 adds to the kept scores. Assumes nothing.
use mathlib.Core.Path.{◌≡◌, ap, ap₂, ◌∙◌}
use mathlib.Core.Bool.{Bool, not, beq}
use mathlib.Core.List.{List}
use Prim.Native.Nat.{ℕ, ◌≤◌}
use native.Mathlib.Omega.{arith}
use lib.IntN.{ℤ, pos, nat_abs, ◌+ℤ◌}
use lib.ListN.{get_or}
use Rattle.base.specs.Bit.{◌⊕◌}
use Rattle.values.specs.Value.{known_value, gain, Small}
use Rattle.values.specs.Path.{path_number, even_known, odd_known, value11}
use Rattle.values.proofs.Numbers.{all-paths, path-below}
use Rattle.paths.proofs.Signs.{differ}
use Rattle.paths.proofs.Steps.{wider, known_at, seen-small, even-known-small, odd-known-small, value11-small}
use Rattle.paths.proofs.step11.Goals as goal
use Rattle.paths.proofs.step11.Goals.{After-both_known-even, After-crossed-odd, After-values11, Start}

-- The places, which are small.
abbrev xs : Start → List ℤ
xs s = s.args.x.now

small : (s : Start) (m : ℕ) → 4194304 ≤ m → Small m 8 (xs s)
small s m l = wider 4194304 m 8 (xs s) l s.requires.1

pub both_known-even-requires : goal.both_known-even-requires
both_known-even-requires c =
    let d = c in
    seen-small 16777216 (xs (goal.at.both_known-even-requires c).Start) (small (goal.at.both_known-even-requires c).Start 16777216 (omega arith)) 0 (omega arith) d.seen.result d.seen.ensures

pub both_known-requires : goal.both_known-requires
both_known-requires c =
    let d = c in
    let s = (goal.at.both_known-requires c).Start in
    seen-small 16777216 (xs s) (small s 16777216 (omega arith)) 1 (omega arith) d.seen-2.result d.seen-2.ensures

-- What stood at the start, and after the fold of the even places.
abbrev begun : After-both_known-even → Start
begun c = (goal.at.After-both_known-even c).Start

abbrev folded : After-crossed-odd → After-both_known-even
folded c = (goal.at.After-crossed-odd c).After-both_known-even

-- What the paths have of the even places, of the odd ones,
even : (c : After-both_known-even) (d g a : Bool)
    → get_or c.both_known-even.result (path_number d g a) (pos 0) ≡ even_known (xs (begun c)) ((begun c).args.v8 ⊕ (begun c).args.u ⊕ d) g a
even c d g a =
    let p = c in
    let s = (goal.at.After-both_known-even c).Start in
    known_at (xs s) p.seen.result c.both_known-even.result 0 p.seen.ensures (not (beq s.args.v8 s.args.u)) c.both_known-even.ensures d g a
    ∙ ap (λ b. even_known (xs s) (b ⊕ d) g a) (differ s.args.v8 s.args.u)

odd : (c : After-crossed-odd) (d g a : Bool)
    → get_or c.crossed-odd.result (path_number d g a) (pos 0) ≡ odd_known (xs (begun (folded c))) ((begun (folded c)).args.u ⊕ d) g (a ⊕ d)
odd c d g a =
    let o = c in
    let e = c in
    let s = begun (folded c) in
    c.crossed-odd.ensures d g a
    ∙ known_at (xs s) e.seen-2.result o.both_known.result 1 e.seen-2.ensures s.args.u o.both_known.ensures d g (a ⊕ d)

-- and the value of v11.
value : (c : After-values11) (d g a : Bool)
    → get_or c.values11.result (path_number d g a) (pos 0) ≡ (let s = begun (folded (goal.at.After-values11 c).After-crossed-odd) in value11 (xs s) s.args.v8 s.args.u s.args.t d g a)
value c d g a =
    let o = (goal.at.After-values11 c).After-crossed-odd in
    let e = folded o in
    c.values11.ensures d g a ∙ ap₂ (known_value ((begun e).args.t ⊕ (g ⊕ d))) (even e d g a) (odd o d g a)

pub values11-requires : goal.values11-requires
values11-requires c =
    let o = (goal.at.values11-requires c).After-crossed-odd in
    let e = folded o in
    let s = begun e in
    let h = small s 8388608 (omega arith) in (
      all-paths (λ i. nat_abs (get_or e.both_known-even.result i (pos 0)) ≤ 16777216)
          (λ d g a. rw (even e d g a) (even-known-small 8388608 (xs s) h (s.args.v8 ⊕ s.args.u ⊕ d) g a)),
      all-paths (λ i. nat_abs (get_or o.crossed-odd.result i (pos 0)) ≤ 16777216)
          (λ d g a. rw (odd o d g a) (odd-known-small 8388608 (xs s) h (s.args.u ⊕ d) g (a ⊕ d))),
    )

pub added-requires : goal.added-requires
added-requires c =
    let v = c in
    let s = begun (folded (goal.at.added-requires c).After-crossed-odd) in (
      s.requires.0,
      all-paths (λ i. nat_abs (get_or v.values11.result i (pos 0)) ≤ 16777216)
          (λ d g a. rw (value (goal.at.added-requires c).After-values11 d g a) (value11-small 4194304 (xs s) (small s 4194304 (omega arith)) s.args.v8 s.args.u s.args.t d g a)),
    )

pub returns : goal.returns
returns c b d g a =
    let v = c in
    let kept = (begun (folded (goal.at.returns c).After-crossed-odd)).args.kept.now in
    c.added.ensures (path_number d g a) b (path-below d g a) ∙ ap (λ z. get_or kept (path_number d g a) (pos 0) +ℤ gain z b) (value (goal.at.returns c).After-values11 d g a)
