-- Demand 3 for frame follow and frame decode: what is true of what they leave. Assumes nothing.
use Rattle.std.specs.Prelude.{◌≡◌, Bool, true, false, List, ℕ, ◌*◌, ◌/◌, ◌≤◌, ◌<◌, ℤ, pos, nat_abs, length, get_or, take, drop}
use Rattle.base.specs.Bit.{bit}
use Rattle.bits.specs.Packed.{unpack}
use Rattle.payload.specs.Payload.{ones}
use Rattle.mask.specs.Mask.{marked}
use Rattle.polar.specs.Code.{channel}
use Rattle.polar.specs.Exact.{ExactScore, ExactPenalty, IsSign}
use Rattle.plan.specs.declared.Plan.{Plan}
use Rattle.plan.specs.Plan.{plan_code, symbol_count}

-- At every phase of the symbols u, of which there are as many as the plan says, the score and the penalty written there are exact,
-- over all words of the frame. There is room for as many of each, and what lies past them stays: the buffers held scores₀ and
-- penalties₀ before.
pub record FrameExact (p : Plan) (values : List ℤ) (u : List Bool) (scores₀ scores : List ℤ) (penalties₀ penalties : List ℕ) : Type 0 where
  pub score-exact : (i : ℕ) → i < symbol_count p → ExactScore (plan_code p) (channel values) u i (get_or scores i (pos 0))
  pub penalty-exact : (i : ℕ) → i < symbol_count p → ExactPenalty (plan_code p) (channel values) u i (get_or penalties i 0)
  pub count : length u ≡ symbol_count p
  pub score-room : symbol_count p ≤ length scores
  pub score-rest : drop (symbol_count p) scores ≡ drop (symbol_count p) scores₀
  pub penalty-room : symbol_count p ≤ length penalties
  pub penalty-rest : drop (symbol_count p) penalties ≡ drop (symbol_count p) penalties₀

-- The decoder's symbols u and the payload go by the signs of the scores written. At a marked phase i the symbol is the sign of
-- score i, and the payload has it as its bit number j, where j marked phases lie before i; at any other phase the symbol is 0.
-- For a mask of k phases the payload has room for k bits, each of them is that of a marked phase, and what lies past its k/8 bytes
-- stays: the buffer held payload₀ before.
pub record BySigns (p : Plan) (mask : List ℕ) (u : List Bool) (scores : List ℤ) (payload₀ payload : List ℕ) : Type 0 where
  pub sign : (i : ℕ) → i < symbol_count p → bit (unpack mask) i ≡ true → IsSign (get_or scores i (pos 0)) (bit u i)
  pub payload-bit : (i : ℕ) → i < symbol_count p → bit (unpack mask) i ≡ true → bit (unpack payload) (ones (take i (unpack mask))) ≡ bit u i
  pub frozen : (i : ℕ) → i < symbol_count p → bit (unpack mask) i ≡ false → bit u i ≡ false
  pub phase : (j : ℕ) → j < marked mask → (i : ℕ) × (i < symbol_count p) × (bit (unpack mask) i ≡ true) × (ones (take i (unpack mask)) ≡ j)
  pub payload-room : marked mask ≤ 8 * length payload
  pub payload-rest : drop (marked mask / 8) payload ≡ drop (marked mask / 8) payload₀

-- No score of the frame is in size above 127 × 16^m, and no penalty is.
abbrev pub FrameWithin : Plan → List ℤ → List ℕ → Type 0
FrameWithin p scores penalties = (i : ℕ) → i < symbol_count p → (nat_abs (get_or scores i (pos 0)) ≤ symbol_count p * 127) × (get_or penalties i 0 ≤ symbol_count p * 127)
