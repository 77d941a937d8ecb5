use mathlib.Core.Path.{◌≡◌}
use Prim.Native.Nat.{◌≤◌}
use lib.ListN.{length}
use Rattle.plan_tables.specs.Tables.{layer_table, Tables}
use Rattle.plan_tables.proofs.layer_tables.Given as goal

abbrev pub invariant-loop-i : goal.invariant-loop-i
invariant-loop-i l = (l.m ≡ l.plan.layers) × (l.m ≤ 3) × (length l.tables ≡ 3) × Tables l.i (layer_table l.plan) l.tables
