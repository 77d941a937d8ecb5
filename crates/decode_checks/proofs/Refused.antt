-- A refusal is no acceptance. Assumes nothing.
use mathlib.Core.Path.{◌≡◌, refl}
use mathlib.Core.Bool.{false}
use Rattle.answer.specs.Verdict.{refusal, is_accepted}
use Rattle.answer.specs.declared.Refusal.{Refusal}
use Rattle.answer.specs.declared.Refusal.TheVariants.{NoKernel, WrongLength, BadMask, WrongPayload, ShortOutput, ValueOutOfRange, NotFinite, WrongSize, FrozenOne, BadScale, WrongListSize, FewMarks, NoAgreeingPath, BadLayers}

pub refusal-refused : (e : Refusal) → is_accepted (refusal e) ≡ false
refusal-refused NoKernel = refl
refusal-refused WrongLength = refl
refusal-refused BadMask = refl
refusal-refused WrongPayload = refl
refusal-refused ShortOutput = refl
refusal-refused (ValueOutOfRange i) = refl
refusal-refused (NotFinite i) = refl
refusal-refused WrongSize = refl
refusal-refused (FrozenOne i) = refl
refusal-refused BadScale = refl
refusal-refused WrongListSize = refl
refusal-refused FewMarks = refl
refusal-refused NoAgreeingPath = refl
refusal-refused BadLayers = refl
