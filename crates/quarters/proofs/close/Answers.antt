-- `quarters::close` meets its contract. Assumes nothing.
use mathlib.Core.Path.{◌≡◌, sym, ap, ◌∙◌}
use mathlib.Core.Bool.{Bool, true, false, not, beq}
use Prim.Native.Nat.{ℕ, ◌+◌}
use native.Mathlib.Nat.{add-zero}
use native.Mathlib.Omega.{arith}
use lib.IntN.{ℤ, ◌-ℤ◌}
use Rattle.base.specs.Bit.{◌⊕◌, bit, tabulate}
use Rattle.bits.specs.Packed.{bits}
use Rattle.run.specs.Run.{symbol_by}
use Rattle.values.specs.Value.{turned}
use Rattle.values.specs.Path.{entry, pair_best, four_best}
use Rattle.value_folds.proofs.Carried.{Carried, carried, carried-as, carried-sub, carried-turned, sub-fits, read, read_small}
use Rattle.quarters.proofs.Index.{below-3, differ-twice, fifth, fifth-zero, fifth-one}
use Rattle.quarters.proofs.Best.{entry-small, pair_small, four-small}
use Rattle.quarters.proofs.close.Goals as goal
use Rattle.quarters.proofs.close.Goals.{After-entry_of, After-entry_of-2, After-four_best, After-four_best-2, After-pair_best, After-pair_best-2, After-turned-third}

-- A symbol of the first phase, its place as the contract has it.
first-phase : (fre giv : ℕ → Bool) (from : ℕ) (b : Bool) (s : ℤ) → b ≡ symbol_by (fre from) (giv from) s → b ≡ symbol_by (fre (from + 0)) (giv (from + 0)) s
first-phase fre giv from b s h = h ∙ ap (λ i. symbol_by (fre i) (giv i) s) (sym (add-zero from))

-- The greatest scores with v6 = 0 and with v6 = 1,
four-zero : (c : After-four_best) → Carried c.four_best.result (four_best c.args.kept.now false) 16777216
four-zero c = carried _ _ _ c.four_best.type_inv c.four_best.ensures (four-small 16777216 c.args.kept.now c.requires.0 false)

four-one : (c : After-four_best-2) → Carried c.four_best-2.result (four_best c.args.kept.now true) 16777216
four-one c = carried _ _ _ c.four_best-2.type_inv c.four_best-2.ensures (four-small 16777216 c.args.kept.now c.requires.0 true)

pub overflow_sub-first : goal.overflow_sub-first
overflow_sub-first c = sub-fits _ _ _ _ _ _ (four-zero (goal.at.overflow_sub-first c).After-four_best) (four-one (goal.at.overflow_sub-first c).After-four_best-2) (omega arith)

-- with v10 = 0 and v10 = 1 after v6,
pair-zero : (c : After-pair_best) → (let s = c.args in let v6 = c.symbol-v6.result in Carried c.pair_best.result (pair_best s.kept.now v6 (s.t ⊕ (v6 ⊕ false))) 16777216)
pair-zero c =
    let s = c in
    let v6 = c.symbol-v6.result in
    carried _ _ _ c.pair_best.type_inv (c.pair_best.ensures ∙ ap (pair_best s.args.kept.now v6) (fifth-zero s.args.t v6))
    (pair_small 16777216 s.args.kept.now s.requires.0 v6 (s.args.t ⊕ (v6 ⊕ false)))

pair_one : (c : After-pair_best-2) → (let s = c.args in let v6 = c.symbol-v6.result in Carried c.pair_best-2.result (pair_best s.kept.now v6 (s.t ⊕ (v6 ⊕ true))) 16777216)
pair_one c =
    let s = c in
    let v6 = c.symbol-v6.result in
    carried _ _ _ c.pair_best-2.type_inv (c.pair_best-2.ensures ∙ ap (pair_best s.args.kept.now v6) (fifth-one s.args.t v6))
    (pair_small 16777216 s.args.kept.now s.requires.0 v6 (s.args.t ⊕ (v6 ⊕ true)))

pub overflow_sub-second : goal.overflow_sub-second
overflow_sub-second c = sub-fits _ _ _ _ _ _ (pair-zero (goal.at.overflow_sub-second c).After-pair_best) (pair_one (goal.at.overflow_sub-second c).After-pair_best-2) (omega arith)

-- and the scores of the two paths that are left after v10.
entry_zero : (c : After-entry_of) → (let s = c.args in let v6 = c.symbol-v6.result in Carried c.entry_of.result (entry s.kept.now v6 (s.t ⊕ (v6 ⊕ c.symbol-v10.result)) false) 16777216)
entry_zero c =
    let s = c in
    let v6 = c.symbol-v6.result in
    let v10 = c.symbol-v10.result in
    carried _ _ _ c.entry_of.type_inv (c.entry_of.ensures ∙ ap (λ g. entry s.args.kept.now v6 g false) (fifth s.args.t v6 v10))
    (entry-small 16777216 s.args.kept.now s.requires.0 v6 (s.args.t ⊕ (v6 ⊕ v10)) false)

entry-one : (c : After-entry_of-2) → (let s = c.args in let v6 = c.symbol-v6.result in Carried c.entry_of-2.result (entry s.kept.now v6 (s.t ⊕ (v6 ⊕ c.symbol-v10.result)) true) 16777216)
entry-one c =
    let s = c in
    let v6 = c.symbol-v6.result in
    let v10 = c.symbol-v10.result in
    carried _ _ _ c.entry_of-2.type_inv (c.entry_of-2.ensures ∙ ap (λ g. entry s.args.kept.now v6 g true) (fifth s.args.t v6 v10))
    (entry-small 16777216 s.args.kept.now s.requires.0 v6 (s.args.t ⊕ (v6 ⊕ v10)) true)

pub overflow_sub-less : goal.overflow_sub-less
overflow_sub-less c = sub-fits _ _ _ _ _ _ (entry_zero (goal.at.overflow_sub-less c).After-entry_of) (entry-one (goal.at.overflow_sub-less c).After-entry_of-2) (omega arith)

pub turned-third-requires : goal.turned-third-requires
turned-third-requires c =
    let l = read_small _ _ _ (carried-sub _ _ _ _ _ _ (entry_zero (goal.at.turned-third-requires c).After-entry_of) (entry-one (goal.at.turned-third-requires c).After-entry_of-2) (omega arith)) in
    omega (arith, l)

-- The third score.
third-is : (c : After-turned-third) → (
    let s = c.args in
    let v6 = c.symbol-v6.result in
    let v5 = s.t ⊕ (v6 ⊕ c.symbol-v10.result) in
    Carried c.turned-third.result (turned ((v5 ⊕ v6) ⊕ s.v3) (entry s.kept.now v6 v5 false -ℤ entry s.kept.now v6 v5 true)) (16777216 + 16777216))
third-is c =
    let s = c.args in
    let v6 = c.symbol-v6.result in
    let v10 = c.symbol-v10.result in
    let v5 = s.t ⊕ (v6 ⊕ v10) in
    let coded = not (beq (not (beq s.t v6)) v10) in
    carried-as _ _ _ _
    (carried-turned _ (not (beq (not (beq coded v6)) s.v3)) _ _ _ c.turned-third.type_inv c.turned-third.ensures (carried-sub _ _ _ _ _ _ (entry_zero (goal.at.After-turned-third c).After-entry_of) (entry-one (goal.at.After-turned-third c).After-entry_of-2) (omega arith)))
    (ap (λ b. turned b (entry s.kept.now v6 v5 false -ℤ entry s.kept.now v6 v5 true)) (differ-twice coded v6 s.v3 ∙ ap (λ g. (g ⊕ v6) ⊕ s.v3) (fifth s.t v6 v10)))

pub returns : goal.returns
unfolding tabulate
returns c =
    let a = c.args in
    record {
      score-at =
          below-3 _
          (carried-sub _ _ _ _ _ _ (four-zero (goal.at.returns c).After-four_best) (four-one (goal.at.returns c).After-four_best-2) (omega arith)).is
          (carried-sub _ _ _ _ _ _ (pair-zero (goal.at.returns c).After-pair_best) (pair_one (goal.at.returns c).After-pair_best-2) (omega arith)).is
          (third-is (goal.at.returns c).After-turned-third).is;
      symbol-at =
          below-3 _
          (first-phase (bit (bits 16 a.sources.free)) (bit (bits 16 a.sources.given)) a.from _ (read (read c.four_best.result -ℤ read c.four_best-2.result)) c.symbol-v6.ensures)
          c.symbol-v10.ensures
          c.symbol-v7.ensures;
    }
