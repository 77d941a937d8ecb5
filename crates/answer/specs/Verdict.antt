-- What a job answers, by the paper's numbers, and what a buffer holds after it. Assumes nothing.
use Rattle.std.specs.Prelude.{Bool, true, false, List, [], ◌∷◌, ◌++◌, ℕ, length, drop}
use Rattle.std.specs.Prelude.{Result, Ok, Err}
use Rattle.answer.specs.declared.Refusal.{Refusal}
use Rattle.answer.specs.declared.Refusal.TheVariants.{NoKernel, WrongLength, BadMask, WrongPayload, ShortOutput, ValueOutOfRange, NotFinite, WrongSize, FrozenOne, BadScale, WrongListSize, FewMarks, NoAgreeingPath, BadLayers}

-- Accepted and done, accepted with a word or a penalty, or refused with the number and the place of a condition.
pub data Verdict : Type 0 where
  done : Verdict
  word : ℕ → Verdict
  penalty : ℕ → Verdict
  refused : ℕ → ℕ → Verdict

-- The verdict of each refusal. The numbers are those of the paper's turn-backs, its conditions for a refusal, and of the requests.
abbrev pub refusal : Refusal → Verdict
refusal NoKernel = refused 1 0
refusal WrongLength = refused 2 0
refusal BadMask = refused 3 0
refusal WrongPayload = refused 4 0
refusal ShortOutput = refused 5 0
refusal (ValueOutOfRange i) = refused 6 i
refusal (NotFinite i) = refused 7 i
refusal WrongSize = refused 8 0
refusal (FrozenOne i) = refused 9 i
refusal BadScale = refused 10 0
refusal WrongListSize = refused 11 0
refusal FewMarks = refused 12 0
refusal NoAgreeingPath = refused 13 0
refusal BadLayers = refused 14 0

-- The verdict of a result: done,
abbrev pub verdict : {X : Type 0} → Result X Refusal → Verdict
verdict (Ok x) = done
verdict (Err e) = refusal e

-- or accepted with a word,
abbrev pub word_verdict : Result ℕ Refusal → Verdict
word_verdict (Ok w) = word w
word_verdict (Err e) = refusal e

-- or with a penalty.
abbrev pub penalty_verdict : Result ℕ Refusal → Verdict
penalty_verdict (Ok p) = penalty p
penalty_verdict (Err e) = refusal e

-- Its number, 0 if accepted.
abbrev pub number_of : Verdict → ℕ
number_of done = 0
number_of (word w) = 0
number_of (penalty p) = 0
number_of (refused n i) = n

-- Its place, 0 where none is named.
abbrev pub place_of : Verdict → ℕ
place_of done = 0
place_of (word w) = 0
place_of (penalty p) = 0
place_of (refused n i) = i

-- Its word, 0 where there is none.
abbrev pub word_of : Verdict → ℕ
word_of done = 0
word_of (word w) = w
word_of (penalty p) = 0
word_of (refused n i) = 0

-- Its penalty, 0 where there is none.
abbrev pub penalty_of : Verdict → ℕ
penalty_of done = 0
penalty_of (word w) = 0
penalty_of (penalty p) = p
penalty_of (refused n i) = 0

abbrev pub is_accepted : Verdict → Bool
is_accepted done = true
is_accepted (word w) = true
is_accepted (penalty p) = true
is_accepted (refused n i) = false

-- A check of a job: whether its condition holds, the condition's number, and the place that a refusal names.
pub record Check : Type 0 where
  pub holds : Bool
  pub number : ℕ
  pub place : ℕ

-- Condition n, which names no place.
abbrev pub condition : ℕ → Bool → Check
condition n b = record { holds = b; number = n; place = 0 }

-- Condition n at place i.
abbrev pub condition_at : ℕ → ℕ → Bool → Check
condition_at n i b = record { holds = b; number = n; place = i }

-- The refusal of a check that holds; where it does not hold, v.
abbrev pub unless : Check → Verdict → Verdict
unless c v = elim c.holds [ true ↦ refused c.number c.place | false ↦ v ]

-- The verdict of a job: the refusal of the first check that holds, in checking order; where none holds, v.
abbrev pub settle : List Check → Verdict → Verdict
settle [] v = v
settle (c ∷ cs) v = unless c (settle cs v)

-- What a buffer holds after a verdict. Accepted: the new part, and what lies past it as before. Refused: all as before.
abbrev pub after {ℓ} : {X : Type ℓ} → Verdict → List X → List X → List X
after done old new = new ++ drop (length new) old
after (word w) old new = new ++ drop (length new) old
after (penalty p) old new = new ++ drop (length new) old
after (refused n i) old new = old
