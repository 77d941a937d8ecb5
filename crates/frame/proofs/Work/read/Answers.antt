-- `Work::read` meets its contract. Assumes nothing.
use mathlib.Core.Path.{refl, ◌∙◌}
use native.Mathlib.Omega.{arith}
use Rattle.plan.proofs.Layered.{layers-some, layers-few, bytes-rows, rows_few}
use Rattle.frame.proofs.Words.{symbols-made}
use Rattle.frame.proofs.Work.read.Goals as goal

pub rows_of-requires : goal.rows_of-requires
rows_of-requires c =
    let w = c.args.self.now in
    (omega (arith, bytes-rows _ w.layered, c.requires, w.rows_len), omega (arith, rows_few _ w.layered, w.rows_len))

pub frame_rows-requires : goal.frame_rows-requires
frame_rows-requires c =
    let w = c.args.self.now in
    (layers-some _ w.layered, layers-few _ w.layered, c.rows_of.ensures.0 ∙ w.rows_len)

pub store_rows-requires : goal.store_rows-requires
store_rows-requires c =
    let w = c.args.self.now in
    let n = c.frame_rows.ensures.0 ∙ c.rows_of.ensures.0 ∙ w.rows_len in
    (omega (arith, n, bytes-rows _ w.layered, w.symbols_len), omega (arith, n, rows_few _ w.layered))

pub returns : goal.returns
returns c =
    let a = c.args in
    let w = a.self.now in
    let r = c.rows_of.ensures in
    let f = c.frame_rows.ensures in (
      refl,
      symbols-made w.plan w.layered w.known c.undoing_tables.result _ _ _ _ (f.0 ∙ r.0 ∙ w.rows_len) w.rows_len r.1 f.1
          c.undoing_tables.ensures a.word.now w.symbols.now _ refl c.requires w.symbols_len c.store_rows.ensures,
    )
