-- Scores and symbols that follow one another are a run of the kernel. Assumes nothing.
use mathlib.Core.Path.{◌≡◌, sym, ap, ◌∙◌}
use mathlib.Core.Bool.{Bool, false}
use mathlib.Core.List.{List}
use Prim.Native.Nat.{ℕ, ◌+◌, ◌-◌, ◌≤◌, ◌<◌}
use native.Mathlib.Omega.{arith}
use lib.IntN.{ℤ, pos}
use lib.ListN.{length, get_or, take}
use lib.Seq.{take_at, ext_get_or}
use Rattle.base.specs.Bit.{bit, tabulate}
use Rattle.base.proofs.List.{length-tabulate, tabulate-at, tabulate-append, same_bits}
use Rattle.bits.specs.Packed.{bits}
use Rattle.bits.proofs.Packed.{length-bits, zero-at}
use Rattle.polar.specs.Code.{channel, score}
use Rattle.polar.specs.Follow.{scores}
use Rattle.polar.proofs.Follow.{scores-at, length-scores}
use Rattle.kernel.specs.Kernels.{kernel_code}
use Rattle.run.specs.Run.{symbol_by, KernelRun}
use Rattle.quarters.specs.Part.{Follows}

-- What a run without free symbols has: the given ones.
pub given-packed : (k : ℕ) (ys : List ℤ) (given : ℕ) (found : List ℤ) (symbols : List Bool)
    → Follows (score (kernel_code k) (channel ys)) (bit (bits 16 0)) (bit (bits 16 given)) 16 found symbols → bits 16 given ≡ tabulate 16 (bit symbols)
given-packed k ys given found symbols h =
    same_bits 16 (bits 16 given) (tabulate 16 (bit symbols)) (length-bits 16 given) (length-tabulate 16 (bit symbols))
    (λ i l. sym (tabulate-at 16 (bit symbols) i false l ∙ h.symbol-at i l ∙ ap (λ b. symbol_by b (bit (bits 16 given) i) (get_or found i (pos 0))) (zero-at 16 i)))

module _ (k : ℕ) (ys : List ℤ) (free given : ℕ) (found : List ℤ) (symbols : List Bool)
    (h : Follows (score (kernel_code k) (channel ys)) (bit (bits 16 free)) (bit (bits 16 given)) 16 found symbols)
    (packed : ℕ) (is-packed : bits 16 packed ≡ tabulate 16 (bit symbols)) where
  -- The first i symbols, either way,
  first : (i : ℕ) → i ≤ 16 → take i (bits 16 packed) ≡ tabulate i (bit symbols)
  first i l =
      let e : 16 ≡ i + (16 - i) = omega arith in
      ap (take i) (is-packed ∙ ap (λ n. tabulate n (bit symbols)) e ∙ tabulate-append i (16 - i) (bit symbols))
      ∙ take_at (tabulate i (bit symbols)) _ i (length-tabulate i (bit symbols))

  -- and the next one.
  here : (i : ℕ) → i < 16 → bit (bits 16 packed) i ≡ bit symbols i
  here i l = ap (λ u. bit u i) is-packed ∙ tabulate-at 16 (bit symbols) i false l

  scored : (i : ℕ) → i < 16 → get_or found i (pos 0) ≡ score (kernel_code k) (channel ys) (take i (bits 16 packed))
  scored i l = h.score-at i l ∙ ap (score (kernel_code k) (channel ys)) (sym (first i (omega arith)))

  pub run_is : length found ≡ 16 → KernelRun k ys free given packed found
  run_is e =
      record {
        symbols-by = λ i l.
            let li : i < 16 = omega (arith, length-bits 16 packed) in
            here i li ∙ h.symbol-at i li ∙ ap (symbol_by (bit (bits 16 free) i) (bit (bits 16 given) i)) (scored i li);
        scores-are =
            ext_get_or (pos 0) found (scores (kernel_code k) (channel ys) (bits 16 packed)) (e ∙ sym (length-scores (kernel_code k) (channel ys) (bits 16 packed) ∙ length-bits 16 packed))
            (λ i l. scored i (omega arith) ∙ sym (scores-at (kernel_code k) (channel ys) (bits 16 packed) i (pos 0) (omega (arith, length-bits 16 packed))));
      }

-- So a run without free symbols is one of the given symbols.
pub given-run : (k : ℕ) (ys : List ℤ) (given : ℕ) (found : List ℤ) (symbols : List Bool) → Follows (score (kernel_code k) (channel ys)) (bit (bits 16 0)) (bit (bits 16 given)) 16 found symbols
    → length found ≡ 16 → KernelRun k ys 0 given given found
given-run k ys given found symbols h = run_is k ys 0 given found symbols h given (given-packed k ys given found symbols h)
