-- What the bytes that a mask takes say of its checks. Assumes nothing.
use mathlib.Core.Path.{◌≡◌, sym, ap, ◌∙◌}
use mathlib.Core.Bool.{true, false}
use mathlib.Core.List.{List}
use Prim.Native.Nat.{ℕ, ◌/◌}
use borrow.Author.Tests.{eq-eqb, ne_eqb}
use lib.Dec.{eqb}
use lib.ListN.{length}
use Rattle.mask.specs.Mask.{marked, bad_mask, payload_bytes}
use Rattle.mask.proofs.Mask.{bad-mask, bytes-eighth}

module _ (n : ℕ) (mask : List ℕ) (bytes : ℕ) (long : length mask ≡ n) (e : bytes ≡ payload_bytes n mask) where
  -- A mask of n bytes that takes no payload is refused,
  pub mask-refused : bytes ≡ 0 → bad_mask mask ≡ true
  mask-refused z = bad-mask n mask long ∙ eq-eqb _ _ (sym e ∙ z)

  -- and any other is not, and takes an eighth of what it marks.
  pub mask-passed : (bytes ≡ 0 → ⊥) → (bad_mask mask ≡ false) × (bytes ≡ marked mask / 8)
  mask-passed z =
      let good = bad-mask n mask long ∙ ap (λ x. eqb x 0) (sym e) ∙ ne_eqb _ _ z in
      (good, e ∙ bytes-eighth n mask long good)
