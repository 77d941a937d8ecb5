-- `quarters::run_four` meets its contract. Assumes nothing.
use mathlib.Core.Path.{refl, sym, ap, ◌∙◌}
use Prim.Native.Nat.{◌+◌}
use native.Mathlib.Nat.{add-zero}
use native.Mathlib.Omega.{arith}
use lib.IntN.{pos}
use lib.ListN.{get_or}
use Rattle.base.specs.Bit.{bit}
use Rattle.bits.specs.Packed.{bits}
use Rattle.run.specs.Run.{symbol_by}
use Rattle.values.specs.Arikan.{arikan_score}
use Rattle.value_folds.proofs.Carried.{read}
use Rattle.value_folds.proofs.Read.{read_is}
use Rattle.quarters.proofs.Following.{follows-as}
use Rattle.quarters.proofs.run_four.Goals as goal

pub four_free-score-requires : goal.four_free-score-requires
four_free-score-requires c = λ i l. omega (arith, c.requires.0 i l)

pub returns : goal.returns
returns c =
    let a = c.args in
    let f = bit (bits 16 a.sources.free) in
    let g = bit (bits 16 a.sources.given) in
    let x = c.four_free-score in
    c.one_and_three.ensures.0 (arikan_score 2 (λ i. get_or a.values.now i (pos 0))) (λ i. f (a.from + i)) (λ i. g (a.from + i))
    (read_is x.result x.type_inv ∙ x.ensures)
    (c.symbol-first.ensures ∙ ap (λ i. symbol_by (f i) (g i) (read x.result)) (sym (add-zero a.from)))
    (follows-as _ _ _ _ _ _ 3 _ _ (λ p l. refl) (λ i. ap f (omega arith)) (λ i. ap g (omega arith)) c.after_first-rest.ensures)
