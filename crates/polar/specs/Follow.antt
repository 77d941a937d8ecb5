-- Scores and penalties of a whole list of symbols, and the symbols that the decoder chooses. Assumes nothing.
use Rattle.std.specs.Prelude.{Bool, ◌&&◌, not, List, [], ◌∷◌, ◌++◌, ℕ, zero, suc, length, take, ℤ}
use Rattle.std.specs.Int.Signed.{non_neg}
use Rattle.base.specs.Bit.{tabulate}
use Rattle.polar.specs.Code.{Code, Costs, least, score}

-- The score of each phase of the symbols u: at phase i that after the first i symbols.
unfoldable pub scores : Code → Costs → List Bool → List ℤ
scores C m u = tabulate (length u) (λ i. score C m (take i u))

-- The penalty of each phase, which counts that phase.
unfoldable pub penalties : Code → Costs → List Bool → List ℕ
penalties C m u = tabulate (length u) (λ i. least C m (take (suc i) u))

-- The decoder's symbol: 1 at a marked phase whose score is below 0, else 0.
abbrev pub choose : Bool → ℤ → Bool
choose marked s = marked && not (non_neg s)

-- The symbols q, and the next n that the decoder chooses after them.
unfoldable pub decode_from : Code → Costs → (ℕ → Bool) → ℕ → List Bool → List Bool
decode_from C m mask zero q = q
decode_from C m mask (suc n) q = decode_from C m mask n (q ++ (choose (mask (length q)) (score C m q) ∷ []))

-- The decoder's symbols, phase after phase.
unfoldable pub decode : Code → Costs → (ℕ → Bool) → List Bool
decode C m mask = decode_from C m mask C.size []
