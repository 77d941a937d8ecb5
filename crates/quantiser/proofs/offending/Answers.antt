-- `quantiser::offending` meets its contract, mark by mark. Assumes nothing.
use mathlib.Core.Path.{sym, ◌∙◌}
use Rattle.quantiser.proofs.Request.{i-offends, q-offends, none-offends, blanked-passes}
use Rattle.quantiser.proofs.offending.Goals as goal

pub returns-then-not-is_finite : goal.returns-then-not-is_finite
returns-then-not-is_finite c = i-offends _ _ c.in-Heard.is (sym c.is_finite.ensures ∙ c.if-not-is_finite.true)

pub returns-then-is_finite : goal.returns-then-is_finite
returns-then-is_finite c =
    none-offends _ _ c.in-Heard.is (sym c.is_finite.ensures ∙ c.if-not-is_finite.false) (sym c.is_finite-in-Heard.ensures ∙ c.if-is_finite.true)

pub returns-else-is_finite : goal.returns-else-is_finite
returns-else-is_finite c =
    q-offends _ _ c.in-Heard.is (sym c.is_finite.ensures ∙ c.if-not-is_finite.false) (sym c.is_finite-in-Heard.ensures ∙ c.if-is_finite.false)

pub returns-in-Blanked : goal.returns-in-Blanked
returns-in-Blanked c = blanked-passes _ c.in-Blanked.is
