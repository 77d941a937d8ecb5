-- Masks: which are refused, and how many bytes of payload the others take. Assumes nothing.
use Rattle.std.specs.Prelude.{Bool, true, false, not, ◌||◌, List, ℕ, ◌/◌, ◌%◌, eqb, length}
use Rattle.bits.specs.Packed.{unpack}
use Rattle.payload.specs.Payload.{ones}

-- How many phases a mask marks. The paper's k.
unfoldable pub marked : List ℕ → ℕ
marked mask = ones (unpack mask)

-- Condition 3: a mask marks no phase, or a count that is not a multiple of 8.
unfoldable pub bad_mask : List ℕ → Bool
bad_mask mask = eqb (marked mask) 0 || not (eqb (marked mask % 8) 0)

-- How many bytes of payload a mask of n bytes takes: k/8, or none with another length or a refused mask.
unfoldable pub payload_bytes : ℕ → List ℕ → ℕ
payload_bytes n mask = elim (not (eqb (length mask) n) || bad_mask mask) [ true ↦ 0 | false ↦ marked mask / 8 ]
