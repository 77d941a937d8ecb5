-- `penalty_sums::add_rows` meets its contract: the sums of the first i rows are written. Assumes nothing.
use mathlib.Core.Path.{◌≡◌, ap, ◌∙◌}
use mathlib.Core.List.{List, []}
use Prim.Native.Nat.{ℕ, ◌+◌, ◌*◌, ◌<◌}
use native.Mathlib.Omega.{arith}
use lib.ListN.{get_or, replicate}
use lib.Seq.{length-take-le}
use Rattle.polar.specs.Code.{sum}
use Rattle.penalty_sums.specs.Paid.{paid_at, summed}
use Rattle.penalty_sums.proofs.Sums.{row_small, last_sum, sums_next}
use Rattle.penalty_sums.proofs.add_rows.Goals as goal

pub add_row-penalty-requires : goal.add_row-penalty-requires
add_row-penalty-requires c =
    let p = c in
    let z = p in
    let k = c.loop-i in
    let a = z.args in
    let long = length-take-le c.args.n (replicate {A = List ℕ} 16 (replicate {A = ℕ} 16 0)) c.requires.0 in
    let lt : c.loop-i.i < c.args.n = omega (arith, c.loop-i-test.true, c.rows_paid.auto.out, long) in (
      omega (arith, z.requires.1.2, lt),
      omega (arith, row_small (paid_at a.scores.now a.symbols.now) (a.first + k.i) (get_or c.rows_paid.new.out k.i []) (p.rows_paid.ensures k.i (omega (arith, lt, long))) k.penalty (a.first + a.n) 4294967296 (omega arith) (omega (arith, k.invariant.0)) z.requires.1.4),
    )

pub loop-i-preserved : goal.loop-i-preserved
loop-i-preserved c =
    let k = c.loop-i in
    let p = c in
    let a = p.args in
    let h = c.add_row-penalty in
    let long = length-take-le c.args.n (replicate {A = List ℕ} 16 (replicate {A = ℕ} 16 0)) c.requires.0 in
    let lt : k.i < a.n = omega (arith, c.loop-i-test.true, c.rows_paid.auto.out, long) in
    let f = paid_at a.scores.now a.symbols.now in
    let more : a.first + k.i + 1 ≡ a.first + (k.i + 1) = omega arith in
    let row = p.rows_paid.ensures k.i (omega (arith, lt, long)) in (
      last_sum f (a.first + k.i) (get_or c.rows_paid.new.out k.i []) row k.penalty k.invariant.0 h.result h.ensures.last ∙ ap (λ n. sum (n * 16) f) more,
      λ old e. sums_next f (a.first + k.i) (get_or c.rows_paid.new.out k.i []) row k.penalty k.invariant.0 old k.out _ (k.invariant.1 old e) h.ensures.sums ∙ ap (λ n. summed f n old) more,
    )
