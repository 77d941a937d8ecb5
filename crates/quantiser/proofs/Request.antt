-- The marks of a request: where an amplitude and a value stand, the search for one that is not finite, and what is written.
-- Assumes nothing.
use mathlib.Core.Path.{◌≡◌, refl, sym, ap, ap₂, ◌∙◌}
use mathlib.Core.Bool.{Bool, true, false, not, false≢true}
use mathlib.Core.List.{List}
use Prim.Native.Nat.{ℕ, zero, suc, ◌+◌, ◌*◌, ◌/◌, ◌%◌, ◌≤◌, ◌<◌}
use native.Mathlib.Omega.{arith}
use lib.Dec.{T}
use lib.Ieee.{Float, nan}
use lib.Ieee.Scale.{finite}
use lib.IntN.{ℤ}
use lib.ListN.{length, get_or, set, drop, length-append, length-drop}
use denote.Enum.Declared.{tag_of}
use mir.Syntax.{w8}
use mir.Val.{SFits}
use Rattle.base.specs.Bit.{bit, tabulate}
use Rattle.bits.specs.Packed.{unpack}
use Rattle.base.proofs.List.{length-tabulate, filled, fill-next}
use Rattle.rounding.specs.Rounding.{limited, is_negative, signed, nearest_limited}
use Rattle.rounding.proofs.Rounded.{limited-le}
use Rattle.quantiser.specs.Marks.{mark_at, offends, value_of, lowest, not_finite, first_not_finite, value_at, Sound, place_in_mark}
use Rattle.quantiser.specs.declared.Symbol.{Symbol}
use Rattle.quantiser.specs.contracts.Side.{the_type}
use Rattle.quantiser.specs.declared.Side.{Side}
use Rattle.quantiser.specs.declared.Side.TheVariants.{I, Q}
use Rattle.quantiser.specs.declared.Mark.{Mark}
use Rattle.quantiser.specs.declared.Mark.TheVariants.{Heard, Blanked}
use Rattle.quantiser.proofs.Lowest.{lowest-before, lowest-is, lowest-none, lowest-cong}

-- ---- one mark

-- An amplitude that does not offend is finite.
pub sound-finite : (x : Float) → not (finite x) ≡ false → T (finite x)
sound-finite x e = go (finite x) e
  where
    go : (b : Bool) → not b ≡ false → T b
    go true e = tt
    go false e = absurd (false≢true (sym e))

-- The lowest amplitude of a mark that offends.
module _ (m : Mark) (s : Symbol) (is : m ≡ Heard s) where
  pub i-offends : finite s.i ≡ false → lowest 2 (offends m) ≡ 0
  i-offends e = rw is (lowest-is 2 (offends (Heard s)) 0 (omega arith) (λ j l. absurd (omega arith)) (ap not e))

  pub q-offends : finite s.i ≡ true → finite s.q ≡ false → lowest 2 (offends m) ≡ 1
  q-offends e f = rw is (lowest-is 2 (offends (Heard s)) 1 (omega arith) before (ap not f))
    where
      before : (j : ℕ) → j < 1 → offends (Heard s) j ≡ false
      before zero l = ap not e
      before (suc j) l = absurd (omega arith)

  pub none-offends : finite s.i ≡ true → finite s.q ≡ true → lowest 2 (offends m) ≡ 2
  none-offends e f = rw is (lowest-none 2 (offends (Heard s)) none)
    where
      none : (j : ℕ) → j < 2 → offends (Heard s) j ≡ false
      none zero l = ap not e
      none (suc j) l = ap not f

pub blanked-passes : (m : Mark) → m ≡ Blanked → lowest 2 (offends m) ≡ 2
blanked-passes m is = rw is (lowest-none 2 (offends Blanked) (λ j l. refl))

-- An amplitude's place in its mark, as the code has it.
pub tag-of : (s : Side) → tag_of the_type s ≡ place_in_mark s
tag-of I = refl
tag-of Q = refl

pub place-below : (s : Side) → place_in_mark s < 2
place-below I = omega arith
place-below Q = omega arith

-- A mark by its bit of the mask.
abbrev pub mark_by : Bool → Float → Float → Mark
mark_by b x y = elim b [ true ↦ Blanked | false ↦ Heard (record { i = x; q = y }) ]

-- ---- place 2n + j is side j of mark n

half : (n j : ℕ) → j < 2 → (2 * n + j) / 2 ≡ n
half n j l = omega arith

rest : (n j : ℕ) → j < 2 → (2 * n + j) % 2 ≡ j
rest n j l = omega arith

module _ (amplitudes : List Float) (blanked : List ℕ) where
  -- What a mark is, by its bit.
  pub blanked-mark : (n : ℕ) → bit (unpack blanked) n ≡ true → Blanked ≡ mark_at amplitudes blanked n
  blanked-mark n e = sym (ap (λ b. mark_by b (get_or amplitudes (2 * n) nan) (get_or amplitudes (2 * n + 1) nan)) e)

  pub heard-mark : (n : ℕ) → bit (unpack blanked) n ≡ false → Heard (record { i = get_or amplitudes (2 * n) nan; q = get_or amplitudes (2 * n + 1) nan }) ≡ mark_at amplitudes blanked n
  heard-mark n e = sym (ap (λ b. mark_by b (get_or amplitudes (2 * n) nan) (get_or amplitudes (2 * n + 1) nan)) e)

  offence-at : (n j : ℕ) → j < 2 → not_finite amplitudes blanked (2 * n + j) ≡ offends (mark_at amplitudes blanked n) j
  unfolding not_finite
  offence-at n j l = ap₂ (λ m i. offends (mark_at amplitudes blanked m) i) (half n j l) (rest n j l)

  pub value-at : (scale : Float) (n j : ℕ) → j < 2 → value_at scale amplitudes blanked (2 * n + j) ≡ value_of scale (mark_at amplitudes blanked n) j
  unfolding value_at
  value-at scale n j l = ap₂ (λ m i. value_of scale (mark_at amplitudes blanked m) i) (half n j l) (rest n j l)

  -- ---- the search

  -- What is asked of one mark, as amplitudes of its byte.
  pub mark-in-byte : (m j : ℕ) (k : Mark) → k ≡ mark_at amplitudes blanked (8 * m + j)
      → lowest 2 (λ i. not_finite amplitudes blanked (16 * m + (2 * j + i))) ≡ lowest 2 (offends k)
  mark-in-byte m j k e = rw e (lowest-cong 2 _ _ (λ i l. ap (not_finite amplitudes blanked) (place i) ∙ offence-at (8 * m + j) i l))
    where
      place : (i : ℕ) → 16 * m + (2 * j + i) ≡ 2 * (8 * m + j) + i
      place i = omega arith

  -- Where none is found, every mark is sound.
  pub all_sound : first_not_finite amplitudes blanked ≡ 256 → (n : ℕ) → n < 128 → Sound (mark_at amplitudes blanked n)
  unfolding first_not_finite
  all_sound e n l = (
    sym (offence-at n 0 (omega arith)) ∙ lowest-before 256 (not_finite amplitudes blanked) (2 * n + 0) (omega arith),
    sym (offence-at n 1 (omega arith)) ∙ lowest-before 256 (not_finite amplitudes blanked) (2 * n + 1) (omega arith),
  )

-- ---- what is written

-- Every value is a signed byte.
signed-fits : (s : Bool) (n : ℕ) → n ≤ 127 → SFits w8 (signed s n)
signed-fits false n h = record { sfits = omega arith }
signed-fits true zero h = record { sfits = omega arith }
signed-fits true (suc n) h = record { sfits = omega arith }

nearest-fits : (x : Float) → SFits w8 (nearest_limited x)
unfolding nearest_limited
nearest-fits x = signed-fits (is_negative x) (limited x) (limited-le x)

pub value-fits : (scale : Float) (m : Mark) (j : ℕ) → SFits w8 (value_of scale m j)
value-fits scale (Heard s) j = nearest-fits _
value-fits scale Blanked j = record { sfits = omega arith }

-- The buffer keeps its length.
pub length-filled : (f : ℕ → ℤ) (n : ℕ) (old : List ℤ) → n ≤ length old → length (filled f n old) ≡ length old
length-filled f n old l =
    length-append (tabulate n f) (drop n old) ∙ ap₂ (λ a b. a + b) (length-tabulate n f) (length-drop n old) ∙ omega arith

-- The two values of a mark more.
pub two-more : (f : ℕ → ℤ) (n : ℕ) (old now : List ℤ) (a b : ℤ) → 2 * n + 1 < length old → now ≡ filled f (2 * n) old → a ≡ f (2 * n + 0) → b ≡ f (2 * n + 1)
    → set (set now (2 * n) a) (2 * n + 1) b ≡ filled f (2 * (n + 1)) old
two-more f n old now a b l e p q =
    let i : 2 * n < length old = omega arith in
    let z : 2 * n + 0 ≡ 2 * n = omega arith in
    let s : 2 * n + 1 + 1 ≡ 2 * (n + 1) = omega arith in
    ap (λ (x : List ℤ). set (set x (2 * n) a) (2 * n + 1) b) e
    ∙ ap (λ (x : List ℤ). set x (2 * n + 1) b) (fill-next f (2 * n) old a i (p ∙ ap f z))
    ∙ fill-next f (2 * n + 1) old b l q
    ∙ ap (λ k. filled f k old) s
