-- `path_rows::by_sign` meets its contract. Assumes nothing.
use mathlib.Core.Path.{◌≡◌}
use mathlib.Core.Bool.{Bool, true, false}
use mathlib.Core.List.{List, [], ◌∷◌}
use Prim.Native.Nat.{ℕ, ◌+◌, ◌*◌, ◌<◌}
use native.Mathlib.Omega.{arith}
use lib.IntN.{ℤ, pos, ◌-ℤ◌}
use lib.ListN.{get_or}
use Rattle.base.specs.Bit.{digit}
use Rattle.values.specs.Value.{turned, Small}
use Rattle.values.specs.Path.{path_number}
use Rattle.value_folds.proofs.Carried.{Carried, read, carried-entry, carried-minus}
use Rattle.path_rows.proofs.by_sign.Goals as goal

-- An entry of the transform.
entry : (h : List ℤ) → Small 16777216 4 h → (i : ℕ) → i < 4 → Carried (get_or h i (pos 0)) (get_or h i (pos 0)) 16777216
entry h s = carried-entry 16777216 4 h s (omega arith)

-- The list that the code makes, path by path.
signed : (h : List ℤ) → Carried (get_or h 0 (pos 0)) (get_or h 0 (pos 0)) 16777216 → Carried (get_or h 1 (pos 0)) (get_or h 1 (pos 0)) 16777216
    → Carried (get_or h 2 (pos 0)) (get_or h 2 (pos 0)) 16777216 → Carried (get_or h 3 (pos 0)) (get_or h 3 (pos 0)) 16777216
    → (let x = get_or h 0 (pos 0) in let y = get_or h 2 (pos 0) in let z = get_or h 1 (pos 0) in let w = get_or h 3 (pos 0) in
    (d g a : Bool) → get_or (read x ∷ read (pos 0 -ℤ read x) ∷ read y ∷ read (pos 0 -ℤ read y) ∷ read z ∷ read (pos 0 -ℤ read z) ∷ read w ∷ read (pos 0 -ℤ read w) ∷ []) (path_number d g a) (pos 0)
    ≡ turned a (get_or h (2 * digit g + digit d) (pos 0)))
signed h e0 e1 e2 e3 false false false = e0.is
signed h e0 e1 e2 e3 false false true = (carried-minus _ _ _ e0 (omega arith)).is
signed h e0 e1 e2 e3 false true false = e2.is
signed h e0 e1 e2 e3 false true true = (carried-minus _ _ _ e2 (omega arith)).is
signed h e0 e1 e2 e3 true false false = e1.is
signed h e0 e1 e2 e3 true false true = (carried-minus _ _ _ e1 (omega arith)).is
signed h e0 e1 e2 e3 true true false = e3.is
signed h e0 e1 e2 e3 true true true = (carried-minus _ _ _ e3 (omega arith)).is

pub returns : goal.returns
returns c =
    let h = c.args.h.now in
    let e = entry h c.requires in
    signed h (e 0 (omega arith)) (e 1 (omega arith)) (e 2 (omega arith)) (e 3 (omega arith))
