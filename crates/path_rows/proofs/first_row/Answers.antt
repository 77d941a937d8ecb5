-- `path_rows::first_row` meets its contract. Assumes nothing.
use mathlib.Core.Path.{◌∙◌}
use lib.Dec.{lit≤}
use mir.Facts.{to_z-of_z}
use mir.Syntax.{w32}
use mir.Val.{to_z, of_z}
use Rattle.values.specs.Path.{path_bit}
use Rattle.path_rows.proofs.Paid.{path-bit}
use Rattle.path_rows.proofs.Transformed.{Row, row_of}
use Rattle.path_rows.proofs.first_row.Goals as goal
use Rattle.path_rows.proofs.first_row.Goals.{After-sizes}

-- The row, once the sizes are known.
row : (c : After-sizes) → let a = c.args in
    Row 4 a.values.now a.word.now path_bit a.base c.hadamard4-h.result (to_z w32 (of_z w32 c.sizes.result)) (to_z w32 (of_z w32 a.base))
row c =
    row_of 2 4194304 c.args.values.now c.args.word.now c.turned.result (lit≤ tt) c.requires.0 c.turned.ensures
    c.hadamard4-h.result (λ j. j) path_bit c.hadamard4-h.ensures path-bit
    _ _ c.args.base (to_z-of_z {w = w32} (record { sfits = c.sizes.type_inv }) ∙ c.sizes.ensures) (to_z-of_z {w = w32} c.ranges.base) c.requires.1

pub path_row-requires : goal.path_row-requires
path_row-requires c =
    record {
      small = (row (goal.at.path_row-requires c).After-sizes).asked.0;
      t = (row (goal.at.path_row-requires c).After-sizes).asked.1;
    }

pub returns : goal.returns
returns c d g a = c.path_row.ensures d g a ∙ (row (goal.at.returns c).After-sizes).given d g a
