-- What the number of bytes that a mask takes says of it. Assumes nothing.
use mathlib.Core.Path.{◌≡◌, sym, ap, ◌∙◌}
use mathlib.Core.Bool.{true, false}
use mathlib.Core.List.{List}
use Prim.Native.Nat.{ℕ, ◌*◌, ◌/◌}
use lib.Dec.{eqb}
use lib.ListN.{length}
use borrow.Author.Tests.{eq-eqb, ne_eqb}
use Rattle.mask.specs.Mask.{marked, bad_mask, payload_bytes}
use Rattle.mask.proofs.Mask.{bad-mask, bytes-eighth, bytes-marked}

module _ (n bytes : ℕ) (mask : List ℕ) (count : length mask ≡ n) (taken : bytes ≡ payload_bytes n mask) where
  -- A mask that takes no byte is refused,
  pub refused : bytes ≡ 0 → bad_mask mask ≡ true
  refused z = bad-mask n mask count ∙ eq-eqb _ _ (sym taken ∙ z)

  -- and one that takes bytes is not.
  pub good : (bytes ≡ 0 → ⊥) → bad_mask mask ≡ false
  good z = bad-mask n mask count ∙ ap (λ x. eqb x 0) (sym taken) ∙ ne_eqb _ _ z

  -- They are an eighth of its marks.
  pub eighth : (bytes ≡ 0 → ⊥) → marked mask / 8 ≡ bytes
  eighth z = sym (taken ∙ bytes-eighth n mask count (good z))

  pub marks : (bytes ≡ 0 → ⊥) → 8 * bytes ≡ marked mask
  unfolding marked
  marks z = ap (λ k. 8 * k) taken ∙ bytes-marked n mask count (good z)
