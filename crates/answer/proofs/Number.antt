-- A job is accepted exactly where its number is 0: no refusal has that number. Assumes nothing.
use mathlib.Core.Path.{◌≡◌, refl}
use lib.Dec.{eqb}
use Prim.Native.Nat.{ℕ}
use Rattle.std.specs.Prelude.{Result, Ok, Err}
use Rattle.answer.specs.Verdict.{refusal, verdict, word_verdict, penalty_verdict, number_of, is_accepted}
use Rattle.answer.specs.declared.Refusal.{Refusal}
use Rattle.answer.specs.declared.Refusal.TheVariants.{NoKernel, WrongLength, BadMask, WrongPayload, ShortOutput, ValueOutOfRange, NotFinite, WrongSize, FrozenOne, BadScale, WrongListSize, FewMarks, NoAgreeingPath, BadLayers}

pub refusal_by_number : (e : Refusal) → eqb (number_of (refusal e)) 0 ≡ is_accepted (refusal e)
refusal_by_number NoKernel = refl
refusal_by_number WrongLength = refl
refusal_by_number BadMask = refl
refusal_by_number WrongPayload = refl
refusal_by_number ShortOutput = refl
refusal_by_number (ValueOutOfRange i) = refl
refusal_by_number (NotFinite i) = refl
refusal_by_number WrongSize = refl
refusal_by_number (FrozenOne i) = refl
refusal_by_number BadScale = refl
refusal_by_number WrongListSize = refl
refusal_by_number FewMarks = refl
refusal_by_number NoAgreeingPath = refl
refusal_by_number BadLayers = refl

-- Of a result that holds nothing more,
pub by_number : {X : Type 0} → (a : Result X Refusal) → eqb (number_of (verdict a)) 0 ≡ is_accepted (verdict a)
by_number (Ok x) = refl
by_number (Err e) = refusal_by_number e

-- a word,
pub by_number-word : (a : Result ℕ Refusal) → eqb (number_of (word_verdict a)) 0 ≡ is_accepted (word_verdict a)
by_number-word (Ok w) = refl
by_number-word (Err e) = refusal_by_number e

-- or a penalty.
pub by_number-penalty : (a : Result ℕ Refusal) → eqb (number_of (penalty_verdict a)) 0 ≡ is_accepted (penalty_verdict a)
by_number-penalty (Ok p) = refl
by_number-penalty (Err e) = refusal_by_number e
