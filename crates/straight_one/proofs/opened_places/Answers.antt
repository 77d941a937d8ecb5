-- `straight_one::opened_places` meets its contract. Assumes nothing.
use mathlib.Core.Path.{refl}
use mathlib.Core.Bool.{false, not, beq}
use mathlib.Core.List.{[], ◌∷◌}
use native.Mathlib.Omega.{arith}
use Rattle.base.specs.Bit.{◌⊕◌, bit}
use Rattle.folds.specs.Range.{value_limit}
use Rattle.folds.specs.Rows.{row_of}
use Rattle.folds.proofs.Limit.{limit-room}
use Rattle.quarters.proofs.Bounds.{wider, limit-small}
use Rattle.quarters.proofs.Index.{below-4, differ-twice}
use Rattle.straight_one.proofs.After1.{after-as}
use Rattle.straight_one.proofs.Window1.{known1}
use Rattle.straight_one.proofs.opened_places.Goals as goal

pub places_after-requires : goal.places_after-requires
places_after-requires c =
    let s = c in
    (s.requires.0, wider value_limit 4194304 16 s.args.values.now (omega (arith, limit-room)) (limit-small s.args.values.now s.requires.0 s.requires.1))

pub returns : goal.returns
returns c q =
    let s = c.args in
    let v = s.v.now in
    let o = s.opened.now in
    after-as s.values.now (known1 (bit v 0) (bit v 1) (bit v 2) (bit v 3)) s.v3 (bit c.word1.result)
    c.word1.ensures
    (bit (not (beq (not (beq (bit o 0) (bit o 1))) (bit o 2)) ∷ bit o 1 ∷ bit o 2 ∷ false ∷ []))
    (bit (((bit o 0 ⊕ bit o 1) ⊕ bit o 2) ∷ bit o 1 ∷ bit o 2 ∷ false ∷ []))
    (below-4 _ (differ-twice (bit o 0) (bit o 1) (bit o 2)) refl refl refl)
    q (row_of c.places_after.result q) (c.places_after.ensures q)
