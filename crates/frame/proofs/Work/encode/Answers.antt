-- `Work::encode` meets its contract. Assumes nothing.
use mathlib.Core.Path.{◌∙◌}
use native.Mathlib.Omega.{arith}
use Rattle.plan.proofs.Layered.{layers-some, layers-few, bytes-rows, bytes-few, rows_few}
use Rattle.frame.proofs.Words.{word_made}
use Rattle.frame.proofs.Work.encode.Goals as goal

pub spread-requires-clause-mask_len_bound : goal.spread-requires-clause-mask_len_bound
spread-requires-clause-mask_len_bound c = omega (arith, bytes-few _ c.args.self.now.layered, c.requires.mask_len)

pub rows_of-requires : goal.rows_of-requires
rows_of-requires c =
    let w = c.args.self.now in
    (omega (arith, bytes-rows _ w.layered, w.symbols_len, w.rows_len), omega (arith, rows_few _ w.layered, w.rows_len))

pub frame_rows-requires : goal.frame_rows-requires
frame_rows-requires c =
    let w = c.args.self.now in
    (layers-some _ w.layered, layers-few _ w.layered, c.rows_of.ensures.0 ∙ w.rows_len)

pub store_rows-requires : goal.store_rows-requires
store_rows-requires c =
    let w = c.args.self.now in
    let n = c.frame_rows.ensures.0 ∙ c.rows_of.ensures.0 ∙ w.rows_len in
    (omega (arith, n, bytes-rows _ w.layered, c.requires.word_len), omega (arith, n, rows_few _ w.layered))

pub returns : goal.returns
returns c =
    let a = c.args in
    let w = a.self.now in
    let r = c.rows_of.ensures in
    let f = c.frame_rows.ensures in
    word_made w.plan w.layered w.known c.layer_tables.result _ _ _ _ (f.0 ∙ r.0 ∙ w.rows_len) w.rows_len r.1 f.1
    c.layer_tables.ensures a.mask.now a.payload.now a.word.now _ c.spread.ensures c.store_rows.ensures
