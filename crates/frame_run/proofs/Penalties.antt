-- The sums of what the phases of a frame pay are its penalties. Assumes nothing.
use mathlib.Core.Path.{◌≡◌, sym, ap, ap₂, ◌∙◌}
use mathlib.Core.Bool.{Bool, false}
use mathlib.Core.List.{List, [], ◌++◌}
use Prim.Native.Nat.{ℕ, suc, ◌+◌, ◌-◌, ◌*◌, ◌/◌, ◌%◌, ◌^◌, ◌≤◌, ◌<◌}
use native.Mathlib.Omega.{arith}
use lib.IntN.{ℤ, pos}
use lib.ListN.{length, get_or, take, drop, get_or-append}
use Rattle.base.specs.Bit.{bit, tabulate}
use Rattle.base.proofs.List.{tabulate-cong}
use Rattle.polar.specs.Code.{Code, pay, channel, sum, least, score}
use Rattle.polar.specs.Follow.{scores, penalties}
use Rattle.polar.proofs.Minima.{sum-cong}
use Rattle.polar.proofs.Least.{channel-nil, least-bound}
use Rattle.polar.proofs.Follow.{penalty-sum, scores-at, length-scores}
use Rattle.polar.proofs.Layers.{layers-onto}
use Rattle.folds.specs.Range.{first_outside}
use Rattle.folds.proofs.Signs.{channel-most}
use Rattle.kernel.proofs.Solved.{invertible}
use Rattle.plan.specs.declared.Plan.{Plan}
use Rattle.plan.specs.Plan.{bad_layers, plan_kernel, plan_code, symbol_count}
use Rattle.plan.proofs.Layered.{layers-some, layers-few, power-next, power-few, plan-size}
use Rattle.grid.specs.Grid.{rows_bits}
use Rattle.grid.proofs.Grid.{rows-bits-at, length-rows-bits}
use Rattle.penalty_sums.specs.Paid.{paid_at}
use Rattle.frame_run.specs.Run.{row_count, Scored, FrameRun}

-- As many symbols as sixteen in each row.
pub rows_all : (p : Plan) → bad_layers p ≡ false → row_count p * 16 ≡ symbol_count p
rows_all p h =
    let e : p.layers ≡ suc (p.layers - 1) = omega (arith, layers-some p h) in
    omega (arith, ap (λ m. 16 ^ m) e, power-next (p.layers - 1))

module _ (p : Plan) (ok : bad_layers p ≡ false) (values : List ℤ) (inside : first_outside 127 values ≡ length values)
    (free given symbols : List ℕ) (new old : List ℤ) (run : Scored p.kernels p.layers values free given symbols new old) where
  abbrev C : Code
  C = plan_code p

  abbrev u : List Bool
  u = rows_bits (row_count p) symbols

  abbrev f : ℕ → ℕ
  f = paid_at new symbols

  long : length u ≡ row_count p * 16
  long = length-rows-bits (row_count p) symbols ∙ (let e : 16 * row_count p ≡ row_count p * 16 = omega arith in e)

  fits : length u ≤ C.size
  fits = omega (arith, long, rows_all p ok, plan-size p)

  -- Each phase pays what its score does.
  pays : (i : ℕ) → i < length u → f i ≡ pay (score C (channel values) (take i u)) (bit u i)
  pays i l =
      let li : i < row_count p * 16 = omega (arith, long) in
      let q : i / 16 < row_count p = omega arith in
      let e : 16 * (i / 16) + i % 16 ≡ i = omega arith in
      ap₂ pay
      (ap (λ (t : List ℤ). get_or t i (pos 0)) run.scores-are
      ∙ get_or-append (scores C (channel values) u) (drop (symbol_count p) old) (pos 0) i (omega (arith, length-scores C (channel values) u))
      ∙ scores-at C (channel values) u i (pos 0) l)
      (sym (rows-bits-at (row_count p) symbols (i / 16) (i % 16) q (omega arith)) ∙ ap (bit u) e)

  none : least C (channel values) [] ≡ 0
  none = channel-nil C (layers-onto (plan_kernel p) (λ i. invertible (get_or p.kernels i 0)) p.layers) values

  sum_is : (n : ℕ) → n ≤ length u → sum n f ≡ least C (channel values) (take n u)
  sum_is n l = sum-cong n (λ i li. pays i (omega arith)) ∙ sym (penalty-sum C (channel values) none u fits n l)

  -- The whole sum fits,
  pub sums-small : sum (row_count p * 16) f < 4294967296
  sums-small =
      let e = least-bound C (channel values) 127 (channel-most 127 values inside) (take (row_count p * 16) u) in
      omega (arith, sum_is (row_count p * 16) (omega (arith, long)), e, plan-size p, power-few p.layers (layers-few p ok))

  -- and the sums are the penalties.
  pub run_is : (new_penalties old_penalties : List ℕ) → new_penalties ≡ tabulate (row_count p * 16) (λ i. sum (suc i) f) ++ drop (row_count p * 16) old_penalties
      → FrameRun p values free given symbols new old new_penalties old_penalties
  unfolding penalties
  run_is new_penalties old_penalties e = record {
    symbols-by = run.symbols-by;
    scores-are = run.scores-are;
    penalties-are =
        e ∙ ap₂ (λ (l : List ℕ) k. l ++ drop k old_penalties)
        (ap (λ k. tabulate k (λ i. sum (suc i) f)) (sym long) ∙ tabulate-cong (length u) (λ i l. sum_is (suc i) l)) (rows_all p ok);
  }
