use Prim.Native.Nat.{◌/◌}
use lib.IntN.{pos, nat_abs, ◌-ℤ◌}
use lib.ListN.{get_or}
use Rattle.value_folds.proofs.Filling.{Filling}
use Rattle.path_rows.proofs.path_row.Given as goal

abbrev pub invariant-loop-n : goal.invariant-loop-n
invariant-loop-n l = Filling (pos 0) 8 l.n (λ j. l.base -ℤ pos (nat_abs (l.sizes -ℤ get_or l.signed j (pos 0)) / 2)) l.out
