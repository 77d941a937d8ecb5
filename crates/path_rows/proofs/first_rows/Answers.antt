-- `path_rows::first_rows` meets its contract. Assumes nothing.
use mathlib.Core.Path.{◌≡◌, refl, sym, ap, ◌∙◌}
use mathlib.Core.Bool.{Bool, true, false}
use mathlib.Core.List.{[]}
use Prim.Native.Nat.{ℕ, ◌+◌, ◌*◌, ◌<◌}
use native.Mathlib.Nat.{zero-add}
use lib.Dec.{lit≤}
use lib.IntN.{pos, +ℤ_idl}
use lib.ListN.{get_or}
use mir.Facts.{to_z-of_z}
use mir.Syntax.{w32}
use mir.Val.{to_z, of_z}
use Rattle.base.specs.Bit.{digit}
use Rattle.hadamard.specs.Transform.{transform}
use Rattle.values.specs.Path.{path_bits}
use Rattle.path_rows.proofs.Paid.{path-bits}
use Rattle.path_rows.proofs.Transformed.{Row, row_of}
use Rattle.path_rows.proofs.first_rows.Goals as goal
use Rattle.path_rows.proofs.first_rows.Goals.{After-sizes-sizes}

-- The row for v3 = o, once the sizes are known.
row : (c : After-sizes-sizes) (o : Bool) → let a = c.args in
    Row 8 a.values.now a.word.now (path_bits o) (pos 0) (get_or c.hadamard8-h.result (digit o) []) (to_z w32 (of_z w32 c.sizes-sizes.result)) (pos 0)
row c o =
    row_of 3 2097152 c.args.values.now c.args.word.now c.turned.result (lit≤ tt) c.requires c.turned.ensures
    (get_or c.hadamard8-h.result (digit o) []) (λ j. 4 * digit o + j) (path_bits o) (half o) (path-bits o)
    _ (pos 0) (pos 0) (to_z-of_z {w = w32} (record { sfits = c.sizes-sizes.type_inv }) ∙ c.sizes-sizes.ensures) refl (lit≤ tt)
  where
    half : (o : Bool) (j : ℕ) → j < 4 → get_or (get_or c.hadamard8-h.result (digit o) []) j (pos 0)
        ≡ transform 3 (λ x. get_or c.turned.result x (pos 0)) (4 * digit o + j)
    half false j l = (c.hadamard8-h.ensures j l).0 ∙ ap (transform 3 (λ x. get_or c.turned.result x (pos 0))) (sym (zero-add j))
    half true j l = (c.hadamard8-h.ensures j l).1

pub path_row-zero-requires : goal.path_row-zero-requires
path_row-zero-requires c =
    record {
      small = (row (goal.at.path_row-zero-requires c).After-sizes-sizes false).asked.0;
      t = (row (goal.at.path_row-zero-requires c).After-sizes-sizes false).asked.1;
    }

pub path_row-one-requires : goal.path_row-one-requires
path_row-one-requires c =
    record {
      small = (row (goal.at.path_row-one-requires c).After-sizes-sizes true).asked.0;
      t = (row (goal.at.path_row-one-requires c).After-sizes-sizes true).asked.1;
    }

pub returns : goal.returns
returns c false d g a = c.path_row-zero.ensures d g a ∙ (row (goal.at.returns c).After-sizes-sizes false).given d g a ∙ +ℤ_idl _
returns c true d g a = c.path_row-one.ensures d g a ∙ (row (goal.at.returns c).After-sizes-sizes true).given d g a ∙ +ℤ_idl _
