-- Symbols by their sources: the test of a score's sign, and those where nothing is free. Assumes nothing.
use mathlib.Core.Path.{◌≡◌, refl, ap, ◌∙◌}
use mathlib.Core.Bool.{Bool, false, not}
use mathlib.Core.List.{List}
use Prim.Native.Nat.{ℕ, zero, suc, ◌<◌}
use native.Mathlib.Omega.{arith}
use borrow.Author.Tests.{le-ltb}
use lib.IntN.{ℤ, pos, negsuc}
use lib.ListN.{length, take}
use lib.Signed.{lt_z, non_neg}
use Rattle.base.specs.Bit.{bit}
use Rattle.base.proofs.List.{same_bits}
use Rattle.polar.specs.Code.{Code, Costs, score}
use Rattle.run.specs.Run.{symbol_by, SymbolsBy}

-- The test of the sign.
pub sign-is : (y : ℤ) → lt_z y (pos 0) ≡ not (non_neg y)
sign-is (pos zero) = refl
sign-is (pos (suc n)) = le-ltb (suc n) 0 (omega arith)
sign-is (negsuc n) = refl

-- Where nothing is free they are the given ones.
pub given-only : (C : Code) (m : Costs) (free : ℕ → Bool) (u given : List Bool) (n : ℕ) → length u ≡ n → length given ≡ n → ((i : ℕ) → i < n → free i ≡ false)
    → SymbolsBy C m free (bit given) u → u ≡ given
given-only C m free u given n lu lg none by = same_bits n u given lu lg (λ i l. by i (omega arith) ∙ ap (λ f. symbol_by f (bit given i) (score C m (take i u))) (none i l))
