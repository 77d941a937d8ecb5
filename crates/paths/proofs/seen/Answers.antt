-- `paths::seen` meets its contract: each pair of bits has its two places. Assumes nothing.
use mathlib.Core.Path.{◌≡◌, ap, ◌∙◌}
use mathlib.Core.Bool.{true, false}
use mathlib.Core.List.{List}
use Prim.Native.Nat.{ℕ, ◌+◌, ◌^◌, ◌<◌}
use native.Mathlib.Omega.{arith}
use lib.IntN.{ℤ, pos}
use lib.ListN.{get_or}
use lib.Signed.{mag}
use mir.Syntax.{w32}
use mir.Val.{to_z, of_z}
use Rattle.value_folds.proofs.Read.{read_is}
use Rattle.paths.proofs.seen.Goals as goal
use Rattle.paths.proofs.seen.Goals.{After-result-4-1, After-result-8-1}

-- An entry that was read, at the place that the contract names.
entry : (x : List ℤ) (i j : ℕ) → i ≡ j → mag (get_or x i (pos 0)) < 2 ^ 31 → to_z w32 (of_z w32 (get_or x i (pos 0))) ≡ get_or x j (pos 0)
entry x i j e h = read_is (get_or x i (pos 0)) h ∙ ap (λ k. get_or x k (pos 0)) e

abbrev half : After-result-8-1 → After-result-4-1
half c = (goal.at.After-result-8-1 c).After-result-4-1

abbrev xs : After-result-8-1 → List ℤ
xs c = (half c).args.x.now

abbrev n : After-result-8-1 → ℕ
n c = (half c).args.odd

pub returns : goal.returns
returns c false false = (
  entry (xs (goal.at.returns c).After-result-8-1) (n (goal.at.returns c).After-result-8-1) (0 + n (goal.at.returns c).After-result-8-1) (omega arith) (half (goal.at.returns c).After-result-8-1).result-1.given,
  entry (xs (goal.at.returns c).After-result-8-1) (2 + n (goal.at.returns c).After-result-8-1) (0 + (2 + n (goal.at.returns c).After-result-8-1)) (omega arith) c.result-5-1.given,
)
returns c false true = (
  entry (xs (goal.at.returns c).After-result-8-1) (4 + n (goal.at.returns c).After-result-8-1) (4 + n (goal.at.returns c).After-result-8-1) (omega arith) (half (goal.at.returns c).After-result-8-1).result-2-1.given,
  entry (xs (goal.at.returns c).After-result-8-1) (6 + n (goal.at.returns c).After-result-8-1) (4 + (2 + n (goal.at.returns c).After-result-8-1)) (omega arith) c.result-6-1.given,
)
returns c true false = (
  entry (xs (goal.at.returns c).After-result-8-1) (n (goal.at.returns c).After-result-8-1) (0 + n (goal.at.returns c).After-result-8-1) (omega arith) (half (goal.at.returns c).After-result-8-1).result-3-1.given,
  entry (xs (goal.at.returns c).After-result-8-1) (6 + n (goal.at.returns c).After-result-8-1) (4 + (2 + n (goal.at.returns c).After-result-8-1)) (omega arith) c.result-7-1.given,
)
returns c true true = (
  entry (xs (goal.at.returns c).After-result-8-1) (4 + n (goal.at.returns c).After-result-8-1) (4 + n (goal.at.returns c).After-result-8-1) (omega arith) (half (goal.at.returns c).After-result-8-1).result-4-1.given,
  entry (xs (goal.at.returns c).After-result-8-1) (2 + n (goal.at.returns c).After-result-8-1) (0 + (2 + n (goal.at.returns c).After-result-8-1)) (omega arith) c.result-8-1.given,
)
