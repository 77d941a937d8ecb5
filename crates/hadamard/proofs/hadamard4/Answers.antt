-- `hadamard::hadamard4` meets its contract: its code is the butterfly of four values. Assumes nothing.
use mathlib.Core.Path.{◌≡◌, ◌∙◌}
use mathlib.Core.List.{List, [], ◌∷◌}
use Prim.Native.Nat.{ℕ, zero, suc, ◌<◌}
use native.Mathlib.Omega.{arith}
use lib.Dec.{lit<}
use lib.IntN.{ℤ, pos, ◌+ℤ◌, ◌-ℤ◌}
use lib.ListN.{get_or}
use mir.Syntax.{w32}
use mir.Val.{to_z}
use Rattle.values.specs.Value.{Small}
use Rattle.hadamard.specs.Transform.{transform}
use Rattle.hadamard.proofs.Butterfly.{butterfly, butterfly-is}
use Rattle.hadamard.proofs.Holding.{Holds, at, held, plus, minus, holds_read, add-fits, sub-fits, add_holds, sub_holds}
use Rattle.hadamard.proofs.hadamard4.Goals as goal

module _ (z : List ℤ) (h : Small 16777216 4 z) where
  -- What is read, a sum and a difference,
  read : (i : ℕ) → i < 4 → Holds 16777216 (held z i) (at z i)
  read i l = holds_read 16777216 4 z h (lit< tt) i l

  sum : (i j : ℕ) → i < 4 → j < 4 → Holds 33554432 (plus (held z i) (held z j)) (at z i +ℤ at z j)
  sum i j li lj = add_holds (read i li) (read j lj) (lit< tt)

  difference : (i j : ℕ) → i < 4 → j < 4 → Holds 33554432 (minus (held z i) (held z j)) (at z i -ℤ at z j)
  difference i j li lj = sub_holds (read i li) (read j lj) (lit< tt)

  abbrev s : ℕ
  s = plus (held z 0) (held z 2)

  abbrev t : ℕ
  t = plus (held z 1) (held z 3)

  abbrev u : ℕ
  u = minus (held z 0) (held z 2)

  abbrev v : ℕ
  v = minus (held z 1) (held z 3)

  -- and what the code gives.
  gives : (w : ℕ) → w < 4 → get_or (to_z w32 (plus s t) ∷ to_z w32 (minus s t) ∷ to_z w32 (plus u v) ∷ to_z w32 (minus u v) ∷ []) w (pos 0) ≡ transform 2 (at z) w
  unfolding butterfly
  gives zero l = (add_holds (sum 0 2 (lit< tt) (lit< tt)) (sum 1 3 (lit< tt) (lit< tt)) (lit< tt)).is ∙ butterfly-is 2 (at z) 0
  gives (suc zero) l = (sub_holds (sum 0 2 (lit< tt) (lit< tt)) (sum 1 3 (lit< tt) (lit< tt)) (lit< tt)).is ∙ butterfly-is 2 (at z) 1
  gives (suc (suc zero)) l = (add_holds (difference 0 2 (lit< tt) (lit< tt)) (difference 1 3 (lit< tt) (lit< tt)) (lit< tt)).is ∙ butterfly-is 2 (at z) 2
  gives (suc (suc (suc zero))) l = (sub_holds (difference 0 2 (lit< tt) (lit< tt)) (difference 1 3 (lit< tt) (lit< tt)) (lit< tt)).is ∙ butterfly-is 2 (at z) 3
  gives (suc (suc (suc (suc w)))) l = absurd (omega arith)

pub overflow_add-s : goal.overflow_add-s
overflow_add-s c =
    let d = c in
    let z = d.args.values.now in
    add-fits (read z d.requires _ (lit< tt)) (read z d.requires _ (lit< tt)) (lit< tt)

pub overflow_add-t : goal.overflow_add-t
overflow_add-t c =
    let d = c in
    let z = d.args.values.now in
    add-fits (read z d.requires _ (lit< tt)) (read z d.requires _ (lit< tt)) (lit< tt)

pub overflow_sub-u : goal.overflow_sub-u
overflow_sub-u c =
    let d = c in
    let z = d.args.values.now in
    sub-fits (read z d.requires _ (lit< tt)) (read z d.requires _ (lit< tt)) (lit< tt)

pub overflow_sub-v : goal.overflow_sub-v
overflow_sub-v c =
    let d = c in
    let z = d.args.values.now in
    sub-fits (read z d.requires _ (lit< tt)) (read z d.requires _ (lit< tt)) (lit< tt)

pub overflow_add-result : goal.overflow_add-result
overflow_add-result c =
    let d = c in
    let z = d.args.values.now in
    add-fits (sum z d.requires _ _ (lit< tt) (lit< tt)) (sum z d.requires _ _ (lit< tt) (lit< tt)) (lit< tt)

pub overflow_sub-result : goal.overflow_sub-result
overflow_sub-result c =
    let d = c in
    let z = d.args.values.now in
    sub-fits (sum z d.requires _ _ (lit< tt) (lit< tt)) (sum z d.requires _ _ (lit< tt) (lit< tt)) (lit< tt)

pub overflow_add-result-2 : goal.overflow_add-result-2
overflow_add-result-2 c =
    let d = c in
    let z = d.args.values.now in
    add-fits (difference z d.requires _ _ (lit< tt) (lit< tt)) (difference z d.requires _ _ (lit< tt) (lit< tt)) (lit< tt)

pub overflow_sub-result-2 : goal.overflow_sub-result-2
overflow_sub-result-2 c =
    let d = c in
    let z = d.args.values.now in
    sub-fits (difference z d.requires _ _ (lit< tt) (lit< tt)) (difference z d.requires _ _ (lit< tt) (lit< tt)) (lit< tt)

pub returns : goal.returns
returns c =
    let d = c in
    gives d.args.values.now d.requires
