-- `soft_value::quantise` meets its contract: the language rounds a product once. Assumes nothing.
use mathlib.Core.Path.{◌∙◌}
use lib.Ieee.{of_bits}
use lib.Ieee.Positive.{positive-finite}
use mir.Syntax.{w8}
use mir.Facts.{to_z-of_z}
use Rattle.rounding.proofs.Products.{product-real}
use Rattle.soft_value.proofs.quantise.Goals as goal

-- The product is a number, whatever finite factor the code takes.
pub nearest_limited-requires : goal.nearest_limited-requires
unfolding of_bits
nearest_limited-requires c = product-real c.args.x _ c.requires.1 (search (positive-finite, c.requires.0))

pub returns : goal.returns
returns c = to_z-of_z {w = w8} {z = c.nearest_limited.result} (record { sfits = c.nearest_limited.type_inv }) ∙ c.nearest_limited.ensures
