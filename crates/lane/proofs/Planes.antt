-- The bit of a lane, as the code tests it. Assumes nothing.
use mathlib.Core.Path.{◌≡◌, refl, sym, ap, ap₂, ◌∙◌}
use mathlib.Core.Bool.{Bool, true, false, not, ◌&&◌, and-false, true≢false}
use Prim.Native.Nat.{ℕ, ◌^◌, ◌<◌}
use native.Mathlib.Nat.{lt_of_le_of_lt}
use native.Mathlib.Omega.{arith}
use borrow.Author.Tests.{eqb-true, eq-eqb, ne_eqb}
use lib.Dec.{eqb}
use lib.Bits.{bit_and, and_le_l}
use lib.ListN.{get_or}
use Rattle.base.specs.Bit.{every}
use Rattle.base.proofs.Bool.{every-at, same_table, same-table}
use Rattle.base.proofs.List.{same_bits}
use Rattle.bits.specs.Packed.{bits, number}
use Rattle.bits.proofs.Packed.{length-bits, and_at, zero-at, number-bits-fit}
use Rattle.lane.specs.Lanes.{lane_bits, lane_bit}

-- Each lane has one bit, by a computed test.
tested : same_table 16 16 (λ l. lane_bit (get_or lane_bits l 0)) (λ l j. eqb j l) ≡ true
unfolding same_table every bits
tested = refl

pub one_bit : (l j : ℕ) → l < 16 → j < 16 → lane_bit (get_or lane_bits l 0) j ≡ eqb j l
one_bit = same-table 16 16 _ _ tested

-- Every lane of 65535 has its bit, by another.
ones : every 16 (lane_bit 65535) ≡ true
unfolding every bits
ones = refl

pub all_lanes : (l : ℕ) → l < 16 → lane_bit 65535 l ≡ true
all_lanes l ll = every-at 16 (lane_bit 65535) ones l ll

module _ (plane l : ℕ) (lp : plane < 2 ^ 16) (ll : l < 16) where
  at : (j : ℕ) → j < 16 → lane_bit (bit_and plane (get_or lane_bits l 0)) j ≡ lane_bit plane j && eqb j l
  at j lj = and_at 16 plane (get_or lane_bits l 0) j ∙ ap (λ b. lane_bit plane j && b) (one_bit l j ll lj)

  -- A lane's bit alone is 0 where the plane has none there,
  none : lane_bit plane l ≡ false → bit_and plane (get_or lane_bits l 0) ≡ 0
  none e =
      let small : bit_and plane (get_or lane_bits l 0) < 2 ^ 16 = lt_of_le_of_lt (and_le_l plane (get_or lane_bits l 0)) lp in
      sym (number-bits-fit 16 (bit_and plane (get_or lane_bits l 0)) small)
      ∙ ap number (same_bits 16 (bits 16 (bit_and plane (get_or lane_bits l 0))) (bits 16 0) (length-bits 16 _) (length-bits 16 0) (λ j lj. at j lj ∙ go j (eqb j l) refl ∙ sym (zero-at 16 j)))
      ∙ number-bits-fit 16 0 (omega arith)
    where
      go : (j : ℕ) (c : Bool) → eqb j l ≡ c → lane_bit plane j && eqb j l ≡ false
      go j true f = ap (λ i. lane_bit plane i && eqb i l) (eqb_same j f) ∙ ap (λ b. b && eqb l l) e
        where
          eqb_same : (j : ℕ) → eqb j l ≡ true → j ≡ l
          eqb_same j f = eqb-true j l f
      go j false f = ap (λ b. lane_bit plane j && b) f ∙ and-false (lane_bit plane j)

  -- and not 0 where it has.
  some : lane_bit plane l ≡ true → bit_and plane (get_or lane_bits l 0) ≡ 0 → ⊥
  some e z =
      true≢false
      (sym (at l ll ∙ ap₂ ◌&&◌ e (eq-eqb l l refl)) ∙ ap (λ y. lane_bit y l) z ∙ zero-at 16 l)

  -- So the test finds the bit.
  pub found : not (eqb (bit_and plane (get_or lane_bits l 0)) 0) ≡ lane_bit plane l
  found = go (lane_bit plane l) refl
    where
      go : (b : Bool) → lane_bit plane l ≡ b → not (eqb (bit_and plane (get_or lane_bits l 0)) 0) ≡ lane_bit plane l
      go true e = ap not (ne_eqb _ 0 (some e)) ∙ sym e
      go false e = ap not (eq-eqb _ 0 (none e)) ∙ sym e
