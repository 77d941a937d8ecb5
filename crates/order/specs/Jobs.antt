-- What the job information mask answers and writes, from its inputs alone. Assumes nothing.
use Rattle.std.specs.Prelude.{◌||◌, List, [], ◌∷◌, ℕ, ltb, length}
use Rattle.bits.specs.Packed.{pack}
use Rattle.answer.specs.Verdict.{Verdict, done, Check, condition, settle, after}
use Rattle.order.specs.Order.{information_bits}

-- The checks of information mask, in checking order: the room for the mask, and a payload size outside 1 to 32.
unfoldable pub information_checks : ℕ → ℕ → List Check
information_checks p room = condition 5 (ltb room 32) ∷ condition 8 (ltb p 1 || ltb 32 p) ∷ []

-- Information mask (the paper's house mask): p bytes of payload to the mask of the first 8p phases of the information order, packed.
unfoldable pub information_mask : ℕ → List ℕ → Verdict × List ℕ
information_mask p out =
    let v = settle (information_checks p (length out)) done in
    (v, after v out (pack 32 (information_bits p)))
