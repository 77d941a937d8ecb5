-- `triple_run::triple_run` meets its contract: after r rows their symbols are those by their sources, and their scores are written. Assumes nothing.
use mathlib.Core.Path.{◌≡◌, refl, sym, ap, ◌∙◌}
use mathlib.Core.List.{List, [], ◌∷◌}
use Prim.Native.Nat.{ℕ, ◌*◌, ◌<◌}
use native.Mathlib.Omega.{arith}
use lib.ListN.{length, get_or, set, replicate, get_or-replicate}
use Rattle.grid.specs.Grid.{column_sums}
use Rattle.triple_run.proofs.Rows.{no_row, row_next, all-rows, found-small}
use Rattle.std.proofs.lemmas.Slice.{put_mid-paste}
use borrow.Author.Rules.{rules}
use Rattle.triple_run.proofs.triple_run.Goals as goal
use Rattle.triple_run.proofs.triple_run.Goals.{After-inside-row}

-- Sixteen copies of a list of sixteen.
copies : {X : Type 0} (x : List X) → length x ≡ 16 → (g : ℕ) → g < 16 → length (get_or (replicate 16 x) g []) ≡ 16
copies x e g l = ap length (get_or-replicate 16 g x [] l) ∙ e

row-long : (c : After-inside-row) → length c.inside-row.result.symbols ≡ 16
row-long c =
    let h = c.inside-row.type_inv in search (rules, h)

pub loop-r-init : goal.loop-r-init
loop-r-init c =
    let a = c.args in
    let m = c.load_groups in (
      m.ensures,
      no_row (get_or a.kernels 0 0 ∷ get_or a.kernels 1 0 ∷ get_or a.kernels 2 0 ∷ []) a.values.now m.new.costs a.free.now a.given.now a.scores.now _ _ _ refl refl (copies (replicate 16 0) refl) (refl, copies (replicate 16 (replicate 2 (replicate 16 0))) refl),
    )

-- The scores of the outer kernels are small.
pub inside-row-requires-clause-by_index : goal.inside-row-requires-clause-by_index
inside-row-requires-clause-by_index c =
    found-small (get_or c.args.kernels 2 0) c.load_groups.new.costs c.load_groups.new.halves c.loop-r.invariant.0.1 c.loop-r.planes c.loop-r.r c.stage-found.result c.stage-found.ensures.scores

pub loop-r-preserved : goal.loop-r-preserved
loop-r-preserved c =
    let q = c in
    let z = q in
    let a = z.args in
    let l = q.loop-r in
    let m = q.load_groups in
    let lr : l.r < 16 = c.loop-r-test.true in
    let s = c.stage-found in
    let row = c.inside-row in
    let lx : length row.result.symbols ≡ 16 = row-long (goal.at.loop-r-preserved c).After-inside-row in
    let word = c.column_sums-word in (
      l.invariant.0,
      row_next (get_or a.kernels 0 0 ∷ get_or a.kernels 1 0 ∷ get_or a.kernels 2 0 ∷ []) a.values.now m.new.costs a.free.now a.given.now a.scores.now
          m.new.halves l.invariant.0 (z.requires.by_index 1 (omega arith)) z.requires.values_len.2
          l.r l.symbols l.planes l.rows l.scores l.invariant.1 lr
          s.result s.ensures.scores row.ensures.costs row.ensures.costs-are
          row.ensures.row_free row.ensures.row_given row.ensures.free-are row.ensures.given-are
          row.result.symbols row.result.planes lx _ row.ensures.ran
          _ (search rules) (λ i li. c.feed.ensures i li ∙ ap (λ (t : List ℕ). set (get_or l.planes i []) l.r (get_or t i 0)) (word.ensures ∙ ap (λ t. column_sums t row.result.planes) q.kernel_rows-matrix.ensures))
          s.new.rows s.ensures.room s.ensures.held
          _ (put_mid-paste (16 * l.r) _ l.symbols _ row.result.symbols 16 c.copy_from_slice.ensures.after (omega arith) (sym lx)),
    )

pub returns : goal.returns
returns c =
    let q = c in
    let a = q.args in
    let l = q.loop-r in
    let h = all-rows (get_or a.kernels 0 0 ∷ get_or a.kernels 1 0 ∷ get_or a.kernels 2 0 ∷ []) a.values.now q.load_groups.new.costs a.free.now a.given.now a.scores.now l.r l.symbols l.planes l.rows _ (search rules) l.invariant.1 in
    record { symbols-by = h.symbols-by; scores-are = h.scores-are }
