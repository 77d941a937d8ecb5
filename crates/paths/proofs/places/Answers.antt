-- `paths::places` meets its contract. Both rows are filled with the values of the places below i. Assumes nothing.
use mathlib.Core.Path.{◌≡◌, refl, ap, ◌∙◌}
use mathlib.Core.Bool.{Bool, true, false}
use Prim.Native.Nat.{ℕ, ◌+◌, ◌^◌, ◌<◌}
use native.Mathlib.Omega.{arith}
use lib.IntN.{ℤ, pos, ◌+ℤ◌, ◌-ℤ◌}
use lib.ListN.{get_or}
use lib.Signed.{mag}
use Rattle.base.specs.Bit.{◌⊕◌, digit}
use Rattle.values.specs.Value.{turned, known_value}
use Rattle.value_folds.proofs.Carried.{Carried, read, carried, carried-as, read_small, carried-turned, carried-free, add-fits, carried-add, sub-fits, carried-sub}
use Rattle.paths.proofs.Known.{known_same, known-other}
use Rattle.paths.proofs.Digits.{one_below, bit-of-digit}
use Rattle.paths.proofs.Slots.{rows_none, turn-of-two}
use borrow.Author.Rules.{rules}
use Rattle.paths.proofs.places.Invariants.{place_value}
use Rattle.paths.proofs.places.Goals as goal
use Rattle.paths.proofs.places.Goals.{After-a-1, After-c-1, After-d-1, After-turned-arg-in-loop-i-1, After-turned-p, After-turned-q}

-- The place of a turn, the values, and the bits of the word.
abbrev place : After-turned-arg-in-loop-i-1 → ℕ
place t = t.loop-i.i

abbrev value : After-turned-arg-in-loop-i-1 → ℕ → ℤ
value t n = get_or t.args.values.now n (pos 0)

abbrev bit : After-turned-arg-in-loop-i-1 → ℕ → Bool
bit t n = get_or t.args.word.now n false

place-below : (t : After-turned-arg-in-loop-i-1) → place t < 4
place-below t = search rules

value-held : (t : After-turned-arg-in-loop-i-1) (n : ℕ) → n < 16 → mag (value t n) < 2 ^ 31 → Carried (value t n) (value t n) 4194304
value-held t n l f = carried (value t n) (value t n) 4194304 f refl (t.requires.1 n l)

-- What a turn holds: the first two values turned,
first : (c : After-turned-p) → (let t = (goal.at.After-turned-p c).After-turned-arg-in-loop-i-1 in Carried c.turned-p.result (turned (bit t (place t)) (value t (place t))) 4194304)
first c =
    let t = (goal.at.After-turned-p c).After-turned-arg-in-loop-i-1 in
    carried-turned c.turned-p.result (bit t (place t)) (value t (place t)) (value t (place t)) 4194304 c.turned-p.type_inv c.turned-p.ensures
    (value-held t (place t) (search rules) t.turned-arg-in-loop-i-1.given)

second : (c : After-turned-q)
    → (let t = (goal.at.After-turned-q c).After-turned-arg-in-loop-i-1 in Carried c.turned-q.result (turned (bit t (4 + place t)) (value t (4 + place t))) 4194304)
second c =
    let t = (goal.at.After-turned-q c).After-turned-arg-in-loop-i-1 in
    carried-turned c.turned-q.result (bit t (4 + place t)) (value t (4 + place t)) (value t (4 + place t)) 4194304 c.turned-q.type_inv c.turned-q.ensures
    (value-held t (4 + place t) (search rules) c.turned-arg-in-loop-i-3-1.given)

-- the other two,
third : (c : After-a-1) → (let t = (goal.at.After-a-1 c).After-turned-arg-in-loop-i-1 in Carried (value t (8 + place t)) (value t (8 + place t)) 4194304)
third c = let t = (goal.at.After-a-1 c).After-turned-arg-in-loop-i-1 in value-held t (8 + place t) (search rules) c.a-1.given

fourth : (c : After-c-1) → (let t = (goal.at.After-c-1 c).After-turned-arg-in-loop-i-1 in Carried (value t (12 + place t)) (value t (12 + place t)) 4194304)
fourth c = let t = (goal.at.After-c-1 c).After-turned-arg-in-loop-i-1 in value-held t (12 + place t) (search rules) c.c-1.given

-- and their folds under bit 0 and under bit 1.
module _ (s : After-d-1) where
  abbrev ta : After-a-1
  ta = (goal.at.After-d-1 s).After-a-1

  abbrev tp : After-turned-p
  tp = (goal.at.After-a-1 ta).After-turned-p

  abbrev at : After-turned-arg-in-loop-i-1
  at = (goal.at.After-turned-p tp).After-turned-arg-in-loop-i-1

  abbrev here : ℕ
  here = place at

  abbrev upper : Bool → ℤ
  upper b = known_value (bit at here ⊕ b) (value at here) (value at (8 + here))

  abbrev lower : Bool → ℤ
  lower b = known_value (bit at (4 + here) ⊕ b) (value at (4 + here)) (value at (12 + here))

  a-held : Carried (read (value at (8 + here)) +ℤ read tp.turned-p.result) (upper false) 8388608
  a-held = carried-as _ _ _ _ (carried-add _ _ _ _ 4194304 4194304 (third ta) (first tp) (omega arith)) (known_same (bit at here) (value at here) (value at (8 + here)))

  b-held : Carried (read (value at (8 + here)) -ℤ read tp.turned-p.result) (upper true) 8388608
  b-held = carried-as _ _ _ _ (carried-sub _ _ _ _ 4194304 4194304 (third ta) (first tp) (omega arith)) (known-other (bit at here) (value at here) (value at (8 + here)))

  c-held : Carried (read (value at (12 + here)) +ℤ read ta.turned-q.result) (lower false) 8388608
  c-held = carried-as _ _ _ _ (carried-add _ _ _ _ 4194304 4194304 (fourth (goal.at.After-d-1 s).After-c-1) (second (goal.at.After-a-1 ta).After-turned-q) (omega arith)) (known_same (bit at (4 + here)) (value at (4 + here)) (value at (12 + here)))

  d-held : Carried (read (value at (12 + here)) -ℤ read ta.turned-q.result) (lower true) 8388608
  d-held = carried-as _ _ _ _ (carried-sub _ _ _ _ 4194304 4194304 (fourth (goal.at.After-d-1 s).After-c-1) (second (goal.at.After-a-1 ta).After-turned-q) (omega arith)) (known-other (bit at (4 + here)) (value at (4 + here)) (value at (12 + here)))

pub loop-i-init : goal.loop-i-init
loop-i-init c = (search rules, rows_none 2 _)

pub turned-p-requires : goal.turned-p-requires
turned-p-requires c = omega (arith, read_small _ _ _ (value-held (goal.at.turned-p-requires c).After-turned-arg-in-loop-i-1 (place (goal.at.turned-p-requires c).After-turned-arg-in-loop-i-1) (search rules) c.turned-arg-in-loop-i-1.given))

pub turned-q-requires : goal.turned-q-requires
turned-q-requires c = let t = (goal.at.turned-q-requires c).After-turned-arg-in-loop-i-1 in omega (arith, read_small _ _ _ (value-held t (4 + place t) (search rules) c.turned-arg-in-loop-i-3-1.given))

pub overflow_add-a-in-loop-i : goal.overflow_add-a-in-loop-i
overflow_add-a-in-loop-i c = add-fits _ _ _ _ 4194304 4194304 (third (goal.at.overflow_add-a-in-loop-i c).After-a-1) (first (goal.at.overflow_add-a-in-loop-i c).After-turned-p) (omega arith)

pub overflow_sub-b : goal.overflow_sub-b
overflow_sub-b c = let d = c in sub-fits _ _ _ _ 4194304 4194304 (third (goal.at.overflow_sub-b c).After-a-1) (first (goal.at.overflow_sub-b c).After-turned-p) (omega arith)

pub overflow_add-c-in-loop-i : goal.overflow_add-c-in-loop-i
overflow_add-c-in-loop-i c = add-fits _ _ _ _ 4194304 4194304 (fourth (goal.at.overflow_add-c-in-loop-i c).After-c-1) (second (goal.at.overflow_add-c-in-loop-i c).After-turned-q) (omega arith)

pub overflow_sub-d : goal.overflow_sub-d
overflow_sub-d c = let d = c in sub-fits _ _ _ _ 4194304 4194304 (fourth (goal.at.overflow_sub-d c).After-c-1) (second (goal.at.overflow_sub-d c).After-turned-q) (omega arith)

pub free-requires : goal.free-requires
free-requires c = omega (arith, read_small _ _ _ (a-held (goal.at.free-requires c).After-d-1), read_small _ _ _ (c-held (goal.at.free-requires c).After-d-1))

pub free-requires-in-loop-i : goal.free-requires-in-loop-i
free-requires-in-loop-i c = let s = (goal.at.free-requires-in-loop-i c).After-d-1 in omega (arith, read_small _ _ _ (b-held s), read_small _ _ _ (d-held s))

pub free-requires-in-loop-i-2 : goal.free-requires-in-loop-i-2
free-requires-in-loop-i-2 c = let s = (goal.at.free-requires-in-loop-i-2 c).After-d-1 in omega (arith, read_small _ _ _ (a-held s), read_small _ _ _ (d-held s))

pub free-requires-in-loop-i-3 : goal.free-requires-in-loop-i-3
free-requires-in-loop-i-3 c = let s = (goal.at.free-requires-in-loop-i-3 c).After-d-1 in omega (arith, read_small _ _ _ (b-held s), read_small _ _ _ (c-held s))

pub loop-i-preserved : goal.loop-i-preserved
loop-i-preserved c =
    let f = c in
    let e = c in
    let d = c in
    let s = (goal.at.loop-i-preserved c).After-d-1 in
    let k = (at s).loop-i in (
      omega (arith, place-below (at s)),
      turn-of-two k.i _ k.x _ _ _ _ (place-below (at s)) k.invariant.1
          (carried-free d.free.result _ _ _ _ _ d.free.type_inv d.free.ensures (a-held s) (c-held s)).is
          (carried-free e.free-in-loop-i.result _ _ _ _ _ e.free-in-loop-i.type_inv e.free-in-loop-i.ensures (b-held s) (d-held s)).is
          (carried-free f.free-in-loop-i-2.result _ _ _ _ _ f.free-in-loop-i-2.type_inv f.free-in-loop-i-2.ensures (a-held s) (d-held s)).is
          (carried-free c.free-in-loop-i-3.result _ _ _ _ _ c.free-in-loop-i-3.type_inv c.free-in-loop-i-3.ensures (b-held s) (c-held s)).is,
    )

pub returns : goal.returns
returns c o b i l =
    let k = c.loop-i in
    let e : k.i ≡ 4 = search rules in
    ((rw e at k.invariant.1).row o).done (digit b) i (one_below b) l
    ∙ ap (λ q. place_value c.args.values.now c.args.word.now o q i) (bit-of-digit b)
