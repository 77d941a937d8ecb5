-- `step::step` meets its contract. Assumes nothing.
use Rattle.folds.specs.Rows.{row_of}
use Rattle.windows.proofs.Stepping.{in-range, fresh_step, small-step, again-step}
use Rattle.step.proofs.step.Goals as goal

pub again_rows-requires : goal.again_rows-requires
again_rows-requires c =
    let a = c.args in
    let p = c.requires in record {
      phase_le_high = in-range a.kernel a.phase p.kernel_bound.0 p.kernel_bound.1 a.symbols a.shape p.shape_value.0;
      by_index = small-step a.kernel a.phase p.kernel_bound.0 p.kernel_bound.1 a.symbols a.shape a.table.now p.shape_value.0 p.shape_value.1 c.if-shape-ne0.true;
    }

pub returns-then-shape-ne0 : goal.returns-then-shape-ne0
returns-then-shape-ne0 c =
    let a = c.args in
    let p = c.requires in
    again-step a.kernel a.phase p.kernel_bound.0 p.kernel_bound.1 a.symbols a.shape a.table.now p.shape_value.0 p.shape_value.1 a.costs.now (row_of a.rows a.chosen) c.again_rows.result
    c.if-shape-ne0.true p.kept c.again_rows.ensures

pub returns-then-high-phase : goal.returns-then-high-phase
returns-then-high-phase c =
    let a = c.args in
    let p = c.requires in
    fresh_step a.kernel a.phase p.kernel_bound.0 p.kernel_bound.1 a.symbols a.shape a.table.now p.shape_value.0 p.shape_value.1 a.costs.now c.one_path.result
    c.if-shape-ne0.false c.one_path.ensures

pub returns : goal.returns
returns c =
    let a = c.args in
    let p = c.requires in
    fresh_step a.kernel a.phase p.kernel_bound.0 p.kernel_bound.1 a.symbols a.shape a.table.now p.shape_value.0 p.shape_value.1 a.costs.now c.fresh_rows.result
    c.if-shape-ne0.false c.fresh_rows.ensures
