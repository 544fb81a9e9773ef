use Rattle.std.proofs.Common.{arith, rules}
use Rattle.rtk_message.specs.Steps.FieldSteps.{PutsAll}
use Rattle.rtk_message.specs.FieldColumns.{numbers}
use Rattle.rtk_message.specs.Msm1074.{signal_count}
use Rattle.rtk_message.specs.MsmForm.{form_of, cell_table}
use Rattle.rtk_message.proofs.FieldLemmas.{put_both}
use Rattle.rtk_message.proofs.MsmLemmas.{satellites_fit, cells_fit}
use Rattle.rtk_message.proofs.msm.Msm.write.Goals as goal

-- each column fits, and so do its width and the size of its type
pub put_column-requires : goal.put_column-requires
put_column-requires c = (search rules, (omega arith, (omega arith, (satellites_fit c.args.self.now c.requires.fields_fit).rough_ms)))

pub put_column-requires-2 : goal.put_column-requires-2
put_column-requires-2 c = (search rules, (omega arith, (omega arith, (satellites_fit c.args.self.now c.requires.fields_fit).extended)))

pub put_column-requires-3 : goal.put_column-requires-3
put_column-requires-3 c = (search rules, (omega arith, (omega arith, (satellites_fit c.args.self.now c.requires.fields_fit).rough_fraction)))

pub put_column-requires-4 : goal.put_column-requires-4
put_column-requires-4 c = (search rules, ((omega arith, omega arith), (omega arith, (satellites_fit c.args.self.now c.requires.fields_fit).rough_rate)))

pub write_cells-requires-clause-fit : goal.write_cells-requires-clause-fit
write_cells-requires-clause-fit c = rw c.form.ensures (cells_fit c.args.self.now c.requires.fields_fit)

pub returns : goal.returns
returns c =
    let m = c.args.self.now in
    let mask : PutsAll (numbers (signal_count m.header) m.cell_mask) c.put.new.writer c.put_mask.new.writer = rw (← c.signal_count.ensures.value) c.in_ok-put_mask.ensures in
    let cells : PutsAll (cell_table (form_of m.kind) m) c.put_column-4.new.writer c.write_cells.new.writer = rw (← c.form.ensures) c.in_ok-write_cells.ensures in
    (put_both c.in_ok-put.ensures (put_both mask (put_both
    (put_both c.in_ok-put_column.ensures (put_both c.in_ok-put_column-2.ensures (put_both c.in_ok-put_column-3.ensures c.in_ok-put_column-4.ensures))) cells))).is
