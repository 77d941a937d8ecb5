-- Symbols packed one by one. Assumes nothing.
use mathlib.Core.Path.{◌≡◌, sym, ap, ◌∙◌}
use mathlib.Core.Bool.{Bool, false}
use mathlib.Core.List.{List}
use Prim.Native.Nat.{ℕ, ◌+◌, ◌≤◌, ◌<◌}
use native.Mathlib.Decide.{dec_lt}
use native.Mathlib.Omega.{arith}
use lib.ListN.{length}
use Rattle.base.specs.Bit.{bit, tabulate}
use Rattle.base.proofs.List.{length-tabulate, tabulate-at, same_bits}
use Rattle.bits.specs.Packed.{bits}
use Rattle.bits.proofs.Packed.{length-bits, zero-at}
use Rattle.run.specs.Run.{with_bit}
use Rattle.run.proofs.Phases.{with-length, with-other, with-same}

-- The first s bits of out are those of symbols, and the others are 0.
pub record Packing (symbols out : List Bool) (s : ℕ) : Type 0 where
  pub within : s ≤ 16
  pub wide : length out ≡ 16
  pub low : (i : ℕ) → i < s → bit out i ≡ bit symbols i
  pub high : (i : ℕ) → s ≤ i → bit out i ≡ false

pub packing-none : (symbols : List Bool) → Packing symbols (bits 16 0) 0
packing-none symbols = record { within = omega arith; wide = length-bits 16 0; low = λ i l. absurd (omega arith); high = λ i l. zero-at 16 i }

pub packing-next : (symbols out next : List Bool) (s : ℕ) → s < 16 → Packing symbols out s → next ≡ with_bit out s (bit symbols s) → Packing symbols next (s + 1)
packing-next symbols out next s l h e =
    record {
      within = omega arith;
      wide = ap length e ∙ with-length out s (bit symbols s) ∙ h.wide;
      low = λ i li. ap (λ u. bit u i) e ∙ below i li (dec_lt i s);
      high = λ i li. ap (λ u. bit u i) e ∙ with-other out s i (bit symbols s) (λ f. omega arith) ∙ h.high i (omega arith);
    }
  where
    below : (i : ℕ) → i < s + 1 → Dec (i < s) → bit (with_bit out s (bit symbols s)) i ≡ bit symbols i
    below i li (yes k) = with-other out s i (bit symbols s) (λ f. omega arith) ∙ h.low i k
    below i li (no k) =
        let f : i ≡ s = omega arith in
        ap (bit (with_bit out s (bit symbols s))) f ∙ with-same out s (bit symbols s) (omega (arith, h.wide)) (h.high s (omega arith)) ∙ ap (bit symbols) (sym f)

pub packing-all : (symbols out : List Bool) (s : ℕ) → 16 ≤ s → Packing symbols out s → out ≡ tabulate 16 (bit symbols)
packing-all symbols out s l h =
    same_bits 16 out (tabulate 16 (bit symbols)) h.wide (length-tabulate 16 (bit symbols))
    (λ i li. h.low i (omega arith) ∙ sym (tabulate-at 16 (bit symbols) i false li))
