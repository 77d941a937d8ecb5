-- Values of sixteen bits: their sizes, and what they pay in each lane. Assumes nothing.
use mathlib.Core.Path.{◌≡◌, sym, ap, ◌∙◌}
use mathlib.Core.Bool.{Bool}
use mathlib.Core.List.{List}
use Prim.Native.Nat.{ℕ, ◌+◌, ◌*◌, ◌^◌, ◌<◌}
use native.Mathlib.Nat.{le_trans}
use native.Mathlib.Omega.{arith}
use lib.IntN.{ℤ, pos, negsuc, nat_abs}
use lib.ListN.{length, get_or}
use lib.Signed.{mag}
use mir.Facts.{to_z-of_z, sfits_widen}
use mir.Syntax.{w16, w32}
use mir.Val.{Fits, SFits, to_z, of_z}
use Rattle.base.proofs.List.{tabulate-at}
use Rattle.polar.specs.Code.{pay, channel}
use Rattle.polar.proofs.Values.{pay-size}
use Rattle.folds.specs.Range.{first_outside}
use Rattle.folds.proofs.Range.{outside-none}
use Rattle.lane.specs.Lanes.{lane_costs, LanesWithin}
use Rattle.side_follow.specs.Follow.{lane_values}

size_fits : (y : ℤ) → mag y < 2 ^ 15 → nat_abs y < 2 ^ 16
size_fits (pos n) h = omega arith
size_fits (negsuc n) h = omega arith

module _ (y : ℤ) (f : SFits w16 y) where
  -- A value read at sixteen bits is the value,
  pub read_is : to_z w16 (of_z w16 y) ≡ y
  read_is = to_z-of_z f

  -- widened it fits,
  pub wide_fits : SFits w32 (to_z w16 (of_z w16 y))
  wide_fits = rw read_is (sfits_widen tt f)

  -- is the value still,
  pub wide_is : to_z w32 (of_z w32 (to_z w16 (of_z w16 y))) ≡ y
  wide_is = to_z-of_z wide_fits ∙ read_is

  -- and its size fits sixteen bits again.
  pub narrow : (n : ℕ) → n ≡ nat_abs (to_z w32 (of_z w32 (to_z w16 (of_z w16 y)))) → Fits w16 n
  narrow n e = record { fits = rw (e, wide_is) (size_fits y f.sfits) }

-- What each place pays, in each lane.
abbrev pub PaysLanes : List ℤ → List (List (List ℕ)) → Type 0
PaysLanes values costs = (t : ℕ) → t < 16 → (l : ℕ) (b : Bool) → l < 16 → lane_costs costs l t b ≡ pay (get_or values (16 * t + l) (pos 0)) b

-- It is what the lane's own values pay,
pub lane-pays : (values : List ℤ) (costs : List (List (List ℕ))) → PaysLanes values costs
    → (l : ℕ) → l < 16 → (t : ℕ) → t < 16 → (b : Bool) → lane_costs costs l t b ≡ channel (lane_values values l) t b
lane-pays values costs h l ll t lt b = h t lt l b ll ∙ ap (λ y. pay y b) (sym (tabulate-at 16 (λ t. get_or values (16 * t + l) (pos 0)) t (pos 0) lt))

-- and no more than the limit of the values.
pub lanes-within : (n : ℕ) (values : List ℤ) (costs : List (List (List ℕ))) → first_outside n values ≡ length values → PaysLanes values costs → LanesWithin n costs
lanes-within n values costs e h t lt l b ll =
    rw (h t lt l b ll) (le_trans (pay-size (get_or values (16 * t + l) (pos 0)) b) (outside-none n values e (16 * t + l)))
