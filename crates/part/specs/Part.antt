-- The payload part of a caller's bytes. Assumes nothing.
use Rattle.std.specs.Prelude.{true, false, not, ◌||◌, List, ℕ, eqb, length, take}
use Rattle.plan.specs.declared.Plan.{Plan}
use Rattle.plan.specs.Plan.{bad_layers, bad_kernels, byte_count}
use Rattle.mask.specs.Mask.{payload_bytes}

-- How many of a caller's n bytes the payload part has: k/8, or none where the plan or the mask is refused or a length is wrong.
unfoldable pub part_length : Plan → List ℕ → ℕ → ℕ
part_length p mask n = elim (bad_layers p || bad_kernels p || not (eqb n (byte_count p))) [ true ↦ 0 | false ↦ payload_bytes n mask ]

-- The payload part: the first k/8 of the caller's bytes, of which there are as many as the plan says, or none of them.
unfoldable pub payload_part : Plan → List ℕ → List ℕ → List ℕ
payload_part p mask bytes = take (part_length p mask (length bytes)) bytes
