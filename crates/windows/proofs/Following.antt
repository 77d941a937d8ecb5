-- What the phases of a run ask for and leave: numbers in range, and scores. Assumes nothing.
use mathlib.Core.Path.{◌≡◌, refl, ap}
use mathlib.Core.Bool.{Bool, true, false}
use mathlib.Core.List.{List, []}
use Prim.Native.Nat.{ℕ, zero, suc, ◌-◌, ◌^◌, ◌≤◌, ◌<◌}
use native.Mathlib.Nat.{le_trans, pow-succ'}
use native.Mathlib.Omega.{arith}
use lib.IntN.{ℤ, pos, nat_abs}
use lib.ListN.{length, take, get_or}
use lib.Seq.{length-take-le}
use mir.Val.{bool_byte}
use Rattle.base.specs.Bit.{digit}
use Rattle.bits.specs.Packed.{bits}
use Rattle.bits.proofs.Packed.{length-bits}
use Rattle.polar.specs.Code.{score}
use Rattle.folds.specs.Range.{value_limit}
use Rattle.folds.specs.Rows.{cell, costs_of, Within}
use Rattle.folds.proofs.Limit.{limit-room}
use Rattle.kernel.specs.Kernels.{kernel_code}
use Rattle.windows.specs.Tables.{shape_table, shape_at}
use Rattle.windows.specs.Paths.{Held, IsDifference}
use Rattle.windows.proofs.Words.{pow-le}
use Rattle.windows.proofs.Steps.{held-score, held-bound}
use Rattle.windows.proofs.Stepping.{in-range}

one-le : (d : ℕ) → 0 < 2 ^ d
one-le zero = omega arith
one-le (suc d) = omega (arith, one-le d, pow-succ' 2 d)

-- A bit as the code counts it.
pub byte-digit : (b : Bool) → bool_byte b ≡ digit b
byte-digit false = refl
byte-digit true = refl

pub byte_small : (b : Bool) → bool_byte b < 2
byte_small false = omega arith
byte_small true = omega arith

module _ (k : ℕ) (lk : k < 3) (costs : List (List ℕ)) (most : Within value_limit costs) (symbols : ℕ) (shapes : List (List ℕ)) (es : shapes ≡ get_or shape_table k []) (s : ℕ) (ls : s < 16) where
  pub shape_is : get_or shapes s [] ≡ get_or (get_or shape_table k []) s []
  shape_is = ap (λ l. get_or l s []) es

  pub range : (s ≤ get_or (get_or shapes s []) 0 0) × (get_or (get_or shapes s []) 0 0 < 16) × (get_or (get_or shapes s []) 0 0 - s ≤ 4)
  range = in-range k s lk ls symbols (get_or shapes s []) shape_is

  -- The number of paths.
  abbrev pub paths : ℕ
  paths = 2 ^ (get_or (get_or shapes s []) 0 0 - s)

  paths-is : paths ≡ 2 ^ (shape_at k s 0 - s)
  paths-is = ap (λ l. 2 ^ (get_or l 0 0 - s)) shape_is

  sized : length (take s (bits 16 symbols)) ≡ s
  sized = length-take-le s (bits 16 symbols) (omega (arith, length-bits 16 symbols))

  module _ (rows : List (List ℤ)) (h : Held k (costs_of costs) (take s (bits 16 symbols)) rows) (n : ℕ) (en : n ≡ 2 ^ (get_or (get_or shapes s []) 0 0 - s)) where
    pub difference-asks : ((0 < n) × (n ≤ 16)) × ((w : ℕ) (b : Bool) → w < n → nat_abs (cell (pos 0) rows w b) ≤ 16777216)
    difference-asks = (
      (rw en (one-le (get_or (get_or shapes s []) 0 0 - s)), rw en (pow-le (get_or (get_or shapes s []) 0 0 - s) range.2)),
      λ w b l. le_trans (held-bound k s lk ls (costs_of costs) (take s (bits 16 symbols)) sized rows h value_limit most w b (rw (← paths-is, ← en) l)) limit-room,
    )

    pub difference-is : (r : ℤ) → IsDifference rows n r → r ≡ score (kernel_code k) (costs_of costs) (take s (bits 16 symbols))
    difference-is r l = held-score k s lk ls (costs_of costs) (take s (bits 16 symbols)) sized rows h r (rw (en, paths-is) at l)
