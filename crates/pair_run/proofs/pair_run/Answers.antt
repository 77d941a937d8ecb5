-- `pair_run::pair_run` meets its contract: after r rows their symbols are those by their sources, and their scores are written. Assumes nothing.
use mathlib.Core.Path.{◌≡◌, refl, sym, ap, ◌∙◌}
use mathlib.Core.List.{List}
use Prim.Native.Nat.{ℕ, ◌+◌, ◌*◌, ◌<◌}
use native.Mathlib.Omega.{arith}
use lib.ListN.{length, get_or}
use Rattle.base.specs.Bit.{bit}
use Rattle.bits.specs.Packed.{bits}
use Rattle.folds.specs.Range.{value_limit}
use Rattle.folds.proofs.Range.{outside_wider}
use Rattle.kernel.specs.Rows.{row_sum}
use Rattle.pair_run.specs.Run.{front}
use Rattle.pair_run.proofs.Prefixes.{front_at}
use Rattle.pair_run.proofs.Rows.{no_row, row_next, all-rows}
use Rattle.pair_run.proofs.Premises.{word_of, lanes-wider, outer-inside, lanes-inside}
use Rattle.std.proofs.lemmas.Slice.{put_mid-paste}
use borrow.Author.Rules.{rules}
use Rattle.pair_run.proofs.pair_run.Goals as goal

pub loop-r-init : goal.loop-r-init
loop-r-init c =
    let a = c.args in
    no_row a.inner a.outer a.costs.now _ _ a.at a.scores.now _ _ _ refl refl refl

pub step-found-requires-clause-lanes_within : goal.step-found-requires-clause-lanes_within
step-found-requires-clause-lanes_within c =
    let z = c in
    let h = c.free_eight-halves in
    (lanes-wider 2032 _ z.args.costs.now (omega arith) z.requires.2, lanes-wider 4064 _ h.result (omega arith) (h.ensures.within 2032 z.requires.2), h.ensures.nodes)

pub hadamard_run-row-requires : goal.hadamard_run-row-requires
hadamard_run-row-requires c =
    let q = c in
    let z = q in
    let f = c.step-found in
    let long : length f.result ≡ 16 = search rules in
    (z.requires.0, long, outside_wider (16 * 2032) value_limit lanes-inside f.result (outer-inside z.args.outer 2032 z.args.costs.now z.requires.2 q.loop-r.planes q.loop-r.r f.result f.ensures.scores long) ∙ long)

pub loop-r-preserved : goal.loop-r-preserved
loop-r-preserved c =
    let q = c in
    let z = q in
    let a = z.args in
    let l = q.loop-r in
    let lr : l.r < 16 = c.loop-r-test.true in
    let h = c.step-found in
    let row = c.hadamard_run-row in
    let at : (t : List ℕ) (s : ℕ) → s < 16 → bit (bits 16 (get_or t l.r 0)) s ≡ bit (front 16 t) (l.r * 16 + s) = λ t s ls.
    sym (ap (bit (front 16 t)) (let e : l.r * 16 + s ≡ 16 * l.r + s = omega arith in e) ∙ front_at 16 t l.r s lr ls) in
    row_next a.inner a.outer a.costs.now _ _ a.at a.scores.now z.requires.3
    l.r l.symbols l.planes l.rows l.scores l.invariant lr
    h.result h.ensures.scores
    (get_or a.free l.r 0) (get_or a.given l.r 0) row.result.symbols row.result.scores (at a.free) (at a.given) row.ensures
    c.row_sum.result
    (λ j lj. ap (λ v. bit (bits 16 v) j) (c.row_sum.ensures ∙ ap (λ t. row_sum t row.result.symbols) q.kernel_rows-matrix.ensures) ∙ word_of a.inner row.result.symbols j z.requires.0 lj)
    h.new.rows h.ensures.room h.ensures.held
    _ c.store_scores.ensures

pub returns : goal.returns
returns c =
    let q = c in
    let a = q.args in
    let l = q.loop-r in
    all-rows a.inner a.outer a.costs.now a.free a.given a.at a.scores.now l.r l.symbols l.planes l.rows _ (search rules) l.invariant
