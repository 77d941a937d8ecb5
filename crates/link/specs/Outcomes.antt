-- What the C interface hands out for a verdict. Assumes nothing.
use Rattle.answer.specs.Verdict.{Verdict, number_of, place_of, word_of, penalty_of}
use Rattle.link.specs.declared.Outcome.{Outcome}
use Rattle.link.specs.declared.WordOutcome.{WordOutcome}
use Rattle.link.specs.declared.PenaltyOutcome.{PenaltyOutcome}

-- The number and the place of a verdict.
abbrev pub outcome_of : Verdict → Outcome
outcome_of v = record { number = number_of v; place = place_of v }

-- The same beside what a buffer holds afterwards.
abbrev pub outcome_with : {X : Type 0} → Verdict × X → Outcome × X
outcome_with (v, x) = (outcome_of v, x)

-- The same beside two buffers,
abbrev pub outcome_with_two : {X Y : Type 0} → Verdict × X × Y → Outcome × X × Y
outcome_with_two (v, x, y) = (outcome_of v, x, y)

-- and beside three.
abbrev pub outcome_with_three : {X Y Z : Type 0} → Verdict × X × Y × Z → Outcome × X × Y × Z
outcome_with_three (v, x, y, z) = (outcome_of v, x, y, z)

-- The number, the place and the word of a verdict.
abbrev pub word_outcome_of : Verdict → WordOutcome
word_outcome_of v = record { number = number_of v; place = place_of v; word = word_of v }

-- The number, the place and the penalty of a verdict,
abbrev pub penalty_outcome_of : Verdict → PenaltyOutcome
penalty_outcome_of v = record { number = number_of v; place = place_of v; penalty = penalty_of v }

-- and the same beside two buffers.
abbrev pub penalty_outcome_with_two : {X Y : Type 0} → Verdict × X × Y → PenaltyOutcome × X × Y
penalty_outcome_with_two (v, x, y) = (penalty_outcome_of v, x, y)
