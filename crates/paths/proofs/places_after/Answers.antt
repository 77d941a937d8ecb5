-- `paths::places_after` meets its contract. Both rows are filled with the values of the places below i. Assumes nothing.
use mathlib.Core.Path.{◌≡◌, refl, ap, ap₂, ◌∙◌}
use mathlib.Core.Bool.{Bool, true, false}
use Prim.Native.Nat.{ℕ, ◌+◌, ◌*◌, ◌^◌, ◌<◌}
use native.Mathlib.Omega.{arith}
use lib.IntN.{ℤ, pos, ◌+ℤ◌, ◌-ℤ◌}
use lib.ListN.{get_or}
use lib.Signed.{mag}
use mir.Syntax.{w32}
use mir.Val.{SFits}
use Rattle.base.specs.Bit.{◌⊕◌, digit}
use Rattle.folds.specs.Rows.{row_of}
use Rattle.values.specs.Value.{turned, known_value}
use Rattle.value_folds.proofs.Carried.{Carried, read, carried, carried-as, read_small, carried-turned, add-fits, carried-add, sub-fits, carried-sub}
use Rattle.paths.proofs.Known.{known_same, known-other, known_both}
use Rattle.values.proofs.Numbers.{pair-below}
use Rattle.paths.proofs.Digits.{bit-of-half, bit-of-rest}
use Rattle.paths.proofs.Signs.{differ}
use Rattle.paths.proofs.Slots.{rows_none, turn-of-four}
use borrow.Author.Rules.{rules}
use Rattle.paths.proofs.places_after.Invariants.{after_value}
use Rattle.paths.proofs.places_after.Goals as goal
use Rattle.paths.proofs.places_after.Goals.{After-a-1, After-turned-arg-in-loop-i-1, After-turned-arg-in-loop-i-5-1, After-turned-one, After-turned-p, After-turned-q, After-turned-zero}

-- The place of a turn, the values, and the bits of the words.
abbrev place : After-turned-arg-in-loop-i-1 → ℕ
place t = t.loop-i.i

abbrev value : After-turned-arg-in-loop-i-1 → ℕ → ℤ
value t n = get_or t.args.values.now n (pos 0)

abbrev bit : After-turned-arg-in-loop-i-1 → ℕ → Bool
bit t n = get_or t.args.word.now n false

abbrev v3 : After-turned-arg-in-loop-i-1 → Bool
v3 t = t.args.v3

abbrev next : After-turned-arg-in-loop-i-1 → Bool
next t = get_or t.args.next.now (place t) false

place-below : (t : After-turned-arg-in-loop-i-1) → place t < 4
place-below t = search rules

value-held : (t : After-turned-arg-in-loop-i-1) (n : ℕ) → n < 16 → mag (value t n) < 2 ^ 31 → Carried (value t n) (value t n) 4194304
value-held t n l f = carried (value t n) (value t n) 4194304 f refl (t.requires.1 n l)

-- The known folds of the upper two values and of the lower two, under bit b.
abbrev upper : After-turned-arg-in-loop-i-1 → Bool → ℤ
upper t b = known_value (bit t (place t) ⊕ b) (value t (place t)) (value t (8 + place t))

abbrev lower : After-turned-arg-in-loop-i-1 → Bool → ℤ
lower t b = known_value (bit t (4 + place t) ⊕ (b ⊕ v3 t)) (value t (4 + place t)) (value t (12 + place t))

-- What a turn holds: the first two values turned,
first : (c : After-turned-p) → (let t = (goal.at.After-turned-p c).After-turned-arg-in-loop-i-1 in Carried c.turned-p.result (turned (bit t (place t)) (value t (place t))) 4194304)
first c =
    let t = (goal.at.After-turned-p c).After-turned-arg-in-loop-i-1 in
    carried-turned c.turned-p.result (bit t (place t)) (value t (place t)) (value t (place t)) 4194304 c.turned-p.type_inv c.turned-p.ensures
    (value-held t (place t) (search rules) t.turned-arg-in-loop-i-1.given)

second : (c : After-turned-q)
    → (let t = (goal.at.After-turned-q c).After-turned-arg-in-loop-i-1 in Carried c.turned-q.result (turned (bit t (4 + place t) ⊕ v3 t) (value t (4 + place t))) 4194304)
second c =
    let t = (goal.at.After-turned-q c).After-turned-arg-in-loop-i-1 in
    carried-turned c.turned-q.result (bit t (4 + place t) ⊕ v3 t) (value t (4 + place t)) (value t (4 + place t)) 4194304 c.turned-q.type_inv
    (c.turned-q.ensures ∙ ap (λ b. turned b (read (value t (4 + place t)))) (differ (bit t (4 + place t)) (v3 t)))
    (value-held t (4 + place t) (search rules) c.turned-arg-in-loop-i-3-1.given)

-- the upper two folded,
third : (c : After-turned-arg-in-loop-i-5-1) → (let t = (goal.at.After-turned-arg-in-loop-i-5-1 c).After-turned-arg-in-loop-i-1 in Carried (value t (8 + place t)) (value t (8 + place t)) 4194304)
third c = let t = (goal.at.After-turned-arg-in-loop-i-5-1 c).After-turned-arg-in-loop-i-1 in value-held t (8 + place t) (omega (arith, place-below t)) c.turned-arg-in-loop-i-5-1.given

module _ (c : After-turned-arg-in-loop-i-5-1) where
  abbrev tp : After-turned-p
  tp = (goal.at.After-turned-arg-in-loop-i-5-1 c).After-turned-p

  abbrev at6 : After-turned-arg-in-loop-i-1
  at6 = (goal.at.After-turned-p tp).After-turned-arg-in-loop-i-1

  plus : Carried (read (value at6 (8 + place at6)) +ℤ read tp.turned-p.result) (upper at6 false) 8388608
  plus =
      carried-as _ _ _ _ (carried-add _ _ _ _ 4194304 4194304 (third c) (first tp) (omega arith))
      (known_same (bit at6 (place at6)) (value at6 (place at6)) (value at6 (8 + place at6)))

  minus : Carried (read (value at6 (8 + place at6)) -ℤ read tp.turned-p.result) (upper at6 true) 8388608
  minus =
      carried-as _ _ _ _ (carried-sub _ _ _ _ 4194304 4194304 (third c) (first tp) (omega arith))
      (known-other (bit at6 (place at6)) (value at6 (place at6)) (value at6 (8 + place at6)))

-- these turned by the next word,
zero : (c : After-turned-zero) → (let t = at6 (goal.at.After-turned-zero c).After-turned-arg-in-loop-i-5-1 in Carried c.turned-zero.result (turned (next t) (upper t false)) 8388608)
zero c = carried-turned c.turned-zero.result (next (at6 (goal.at.After-turned-zero c).After-turned-arg-in-loop-i-5-1)) _ (upper (at6 (goal.at.After-turned-zero c).After-turned-arg-in-loop-i-5-1) false) 8388608 c.turned-zero.type_inv c.turned-zero.ensures (plus (goal.at.After-turned-zero c).After-turned-arg-in-loop-i-5-1)

one : (c : After-turned-one) → (let t = at6 (goal.at.After-turned-one c).After-turned-arg-in-loop-i-5-1 in Carried c.turned-one.result (turned (next t) (upper t true)) 8388608)
one c =
    let d = (goal.at.After-turned-one c).After-turned-arg-in-loop-i-5-1 in
    carried-turned c.turned-one.result (next (at6 d)) _ (upper (at6 d) true) 8388608 c.turned-one.type_inv c.turned-one.ensures (minus d)

-- the lower two folded, and all four.
module _ (c : After-a-1) where
  abbrev t4 : After-turned-one
  t4 = (goal.at.After-a-1 c).After-turned-one

  abbrev t3 : After-turned-zero
  t3 = (goal.at.After-turned-one t4).After-turned-zero

  abbrev t2 : After-turned-q
  t2 = (goal.at.After-turned-zero t3).After-turned-q

  abbrev at : After-turned-arg-in-loop-i-1
  at = (goal.at.After-turned-q t2).After-turned-arg-in-loop-i-1

  fourth : Carried (value at (12 + place at)) (value at (12 + place at)) 4194304
  fourth = value-held at (12 + place at) (omega (arith, place-below at)) c.a-1.given

  sum_fits : SFits w32 (read (value at (12 + place at)) +ℤ read t2.turned-q.result)
  sum_fits = add-fits _ _ _ _ 4194304 4194304 fourth (second t2) (omega arith)

  sum : Carried (read (value at (12 + place at)) +ℤ read t2.turned-q.result) (lower at false) 8388608
  sum = carried-add _ _ _ _ 4194304 4194304 fourth (second t2) (omega arith)

  less-fits : SFits w32 (read (value at (12 + place at)) -ℤ read t2.turned-q.result)
  less-fits = sub-fits _ _ _ _ 4194304 4194304 fourth (second t2) (omega arith)

  less : Carried (read (value at (12 + place at)) -ℤ read t2.turned-q.result) (lower at true) 8388608
  less =
      carried-as _ _ _ _ (carried-sub _ _ _ _ 4194304 4194304 fourth (second t2) (omega arith))
      (known_both (bit at (4 + place at)) (v3 at) (value at (4 + place at)) (value at (12 + place at)))

  -- where c is bit 0 and where it is bit 1,
  abbrev after : Bool → Bool → ℤ
  after c b = known_value (next at ⊕ c) (upper at b) (lower at b)

  a-held : Carried (read (read (value at (12 + place at)) +ℤ read t2.turned-q.result) +ℤ read t3.turned-zero.result) (after false false) 16777216
  a-held = carried-as _ _ _ _ (carried-add _ _ _ _ 8388608 8388608 sum (zero t3) (omega arith)) (known_same (next at) (upper at false) (lower at false))

  b-held : Carried (read (read (value at (12 + place at)) -ℤ read t2.turned-q.result) +ℤ read t4.turned-one.result) (after false true) 16777216
  b-held = carried-as _ _ _ _ (carried-add _ _ _ _ 8388608 8388608 less (one t4) (omega arith)) (known_same (next at) (upper at true) (lower at true))

  c-held : Carried (read (read (value at (12 + place at)) +ℤ read t2.turned-q.result) -ℤ read t3.turned-zero.result) (after true false) 16777216
  c-held = carried-as _ _ _ _ (carried-sub _ _ _ _ 8388608 8388608 sum (zero t3) (omega arith)) (known-other (next at) (upper at false) (lower at false))

  d-held : Carried (read (read (value at (12 + place at)) -ℤ read t2.turned-q.result) -ℤ read t4.turned-one.result) (after true true) 16777216
  d-held = carried-as _ _ _ _ (carried-sub _ _ _ _ 8388608 8388608 less (one t4) (omega arith)) (known-other (next at) (upper at true) (lower at true))

pub loop-i-init : goal.loop-i-init
loop-i-init c = (search rules, rows_none 4 _)

pub turned-p-requires : goal.turned-p-requires
turned-p-requires c = omega (arith, read_small _ _ _ (value-held (goal.at.turned-p-requires c).After-turned-arg-in-loop-i-1 (place (goal.at.turned-p-requires c).After-turned-arg-in-loop-i-1) (search rules) c.turned-arg-in-loop-i-1.given))

pub turned-q-requires : goal.turned-q-requires
turned-q-requires c = let t = (goal.at.turned-q-requires c).After-turned-arg-in-loop-i-1 in omega (arith, read_small _ _ _ (value-held t (4 + place t) (search rules) c.turned-arg-in-loop-i-3-1.given))

pub overflow_add-values : goal.overflow_add-values
overflow_add-values c = add-fits _ _ _ _ 4194304 4194304 (third (goal.at.overflow_add-values c).After-turned-arg-in-loop-i-5-1) (first (tp (goal.at.overflow_add-values c).After-turned-arg-in-loop-i-5-1)) (omega arith)

pub turned-zero-requires : goal.turned-zero-requires
turned-zero-requires c = omega (arith, read_small _ _ _ (plus (goal.at.turned-zero-requires c).After-turned-arg-in-loop-i-5-1))

pub overflow_sub-values : goal.overflow_sub-values
overflow_sub-values c = let d = (goal.at.overflow_sub-values c).After-turned-arg-in-loop-i-5-1 in sub-fits _ _ _ _ 4194304 4194304 (third d) (first (tp d)) (omega arith)

pub turned-one-requires : goal.turned-one-requires
turned-one-requires c = omega (arith, read_small _ _ _ (minus (goal.at.turned-one-requires c).After-turned-arg-in-loop-i-5-1))

pub overflow_add-a-in-loop-i : goal.overflow_add-a-in-loop-i
overflow_add-a-in-loop-i c = sum_fits (goal.at.overflow_add-a-in-loop-i c).After-a-1

pub overflow_add-a-in-loop-i-2 : goal.overflow_add-a-in-loop-i-2
overflow_add-a-in-loop-i-2 c = add-fits _ _ _ _ 8388608 8388608 (sum (goal.at.overflow_add-a-in-loop-i-2 c).After-a-1) (zero (t3 (goal.at.overflow_add-a-in-loop-i-2 c).After-a-1)) (omega arith)

pub overflow_sub-b : goal.overflow_sub-b
overflow_sub-b c = less-fits (goal.at.overflow_sub-b c).After-a-1

pub overflow_add-b-in-loop-i : goal.overflow_add-b-in-loop-i
overflow_add-b-in-loop-i c = let d = (goal.at.overflow_add-b-in-loop-i c).After-a-1 in add-fits _ _ _ _ 8388608 8388608 (less d) (one (t4 d)) (omega arith)

pub overflow_add-c-in-loop-i : goal.overflow_add-c-in-loop-i
overflow_add-c-in-loop-i c = sum_fits (goal.at.overflow_add-c-in-loop-i c).After-a-1

pub overflow_sub-c : goal.overflow_sub-c
overflow_sub-c c = let d = (goal.at.overflow_sub-c c).After-a-1 in sub-fits _ _ _ _ 8388608 8388608 (sum d) (zero (t3 d)) (omega arith)

pub overflow_sub-d : goal.overflow_sub-d
overflow_sub-d c = less-fits (goal.at.overflow_sub-d c).After-a-1

pub overflow_sub-d-in-loop-i : goal.overflow_sub-d-in-loop-i
overflow_sub-d-in-loop-i c = let d = (goal.at.overflow_sub-d-in-loop-i c).After-a-1 in sub-fits _ _ _ _ 8388608 8388608 (less d) (one (t4 d)) (omega arith)

pub loop-i-preserved : goal.loop-i-preserved
loop-i-preserved c =
    let s = (goal.at.loop-i-preserved c).After-a-1 in
    let k = (at s).loop-i in
    let h = c.put_fours-filled.ensures in (
      omega (arith, place-below (at s)),
      turn-of-four k.i _ k.t _ _ _ _ _ _ _ _ _ (place-below (at s)) k.invariant.1 h.two h.first h.second
          ((a-held s).is, (b-held s).is, (c-held s).is, (d-held s).is)
          ((c-held s).is, (d-held s).is, (a-held s).is, (b-held s).is),
    )

pub returns : goal.returns
returns c q d b i l =
    let k = c.loop-i in
    let s = c.args in
    let e : k.i ≡ 4 = search rules in
    let n : 8 * digit d + (4 * digit b + i) ≡ 4 * (2 * digit d + digit b) + i = omega arith in
    ap (λ m. get_or (row_of k.t q) m (pos 0)) n
    ∙ ((rw e at k.invariant.1).row q).done (2 * digit d + digit b) i (pair-below d b) l
    ∙ ap₂ (λ x y. after_value s.values.now s.word.now s.v3 s.next.now q x y i) (bit-of-half d b) (bit-of-rest d b)
