-- `line::values` meets its contract: the first i values are taken. Assumes nothing.
use mathlib.Core.Path.{◌≡◌, refl, ◌∙◌}
use native.Mathlib.Omega.{arith}
use lib.IntN.{pos}
use lib.ListN.{get_or}
use mir.Facts.{to_z-of_z}
use Rattle.base.proofs.List.{each_next}
use Rattle.line.specs.Line.{signed_byte}
use Rattle.line.proofs.Complement.{values-are}
use borrow.Author.Rules.{rules}
use Rattle.line.proofs.values.Goals as goal
use mir.Syntax.{w8}

pub loop-i-init : goal.loop-i-init
loop-i-init c = (refl, λ j l. absurd (omega arith))

pub loop-i-preserved : goal.loop-i-preserved
loop-i-preserved c =
    let bytes = c.args.bytes.now in
    let l = c.loop-i in (
      search rules,
      each_next (λ j x. x ≡ signed_byte (get_or bytes j 0)) l.out l.i (pos 0) _ (search rules) l.invariant.1 (to_z-of_z {w = w8} (record { sfits = c.value.type_inv }) ∙ c.value.ensures),
    )

pub returns : goal.returns
returns c =
    let l = c.loop-i in
    values-are c.args.bytes.now l.out c.requires l.invariant.0 (λ j h. l.invariant.1 j (omega arith))
