-- `soft_value::magnitude` meets its contract, by the exponent field of the limited pattern. Assumes nothing.
use mathlib.Core.Path.{sym, ap, ◌∙◌}
use Rattle.rounding.specs.Rounding.{rounded, limited}
use Rattle.rounding.proofs.Patterns.{limited-mid, limited-within, shifted, shifted-le}
use native.Mathlib.Omega.{arith}
use lib.Ieee.{binary32, of_bits}
use Rattle.soft_value.proofs.magnitude.Goals as goal

pub nearest-requires : goal.nearest-requires
nearest-requires c =
    let e = c.limited_pattern-within.ensures in
    shifted-le c.limited_pattern-within.result (omega arith) (omega arith)

pub returns : goal.returns
returns c =
    let n = c.limited_pattern-within.result in
    let e = c.limited_pattern-within.ensures in
    c.nearest.ensures
    ∙ ap (λ w. rounded w 33554432) (shifted n (omega arith) (omega arith))
    ∙ sym (limited-mid n (omega arith) (omega arith))
    ∙ ap (λ x. limited (of_bits binary32 x)) e
    ∙ limited-within _ c.requires
