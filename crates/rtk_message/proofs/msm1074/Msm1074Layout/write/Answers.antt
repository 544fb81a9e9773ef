use Rattle.std.proofs.Common.{arith, rules, refl}
use Rattle.rtk_message.specs.Steps.FieldSteps.{PutsAll}
use Rattle.rtk_message.specs.FieldColumns.{numbers}
use Rattle.rtk_message.proofs.FieldLemmas.{put_both}
use Rattle.rtk_message.proofs.ColumnLemmas.{flags-fit}
use Rattle.rtk_message.proofs.Msm1074Lemmas.{each_fits}
use Rattle.rtk_message.specs.Msm1074.{signal_count}
use Rattle.rtk_message.proofs.msm1074.Msm1074Layout.write.Goals as goal

-- each column fits, and so do its width and the size of its type
pub put_column-requires : goal.put_column-requires
put_column-requires c = (search rules, (omega arith, (omega arith, (each_fits c.args.self.now c.requires.fields_fit).rough_ms)))

pub put_column-requires-2 : goal.put_column-requires-2
put_column-requires-2 c = (search rules, (omega arith, (omega arith, (each_fits c.args.self.now c.requires.fields_fit).rough_fraction)))

pub put_column-requires-3 : goal.put_column-requires-3
put_column-requires-3 c = (search rules, ((omega arith, omega arith), (omega arith, (each_fits c.args.self.now c.requires.fields_fit).fine_range)))

pub put_column-requires-4 : goal.put_column-requires-4
put_column-requires-4 c = (search rules, ((omega arith, omega arith), (omega arith, (each_fits c.args.self.now c.requires.fields_fit).fine_phase)))

pub put_column-requires-5 : goal.put_column-requires-5
put_column-requires-5 c = (search rules, (omega arith, (omega arith, (each_fits c.args.self.now c.requires.fields_fit).lock_indicator)))

pub put_column-requires-6 : goal.put_column-requires-6
put_column-requires-6 c = (search rules, (refl, (omega arith, flags-fit c.args.self.now.half_cycle)))

pub put_column-requires-7 : goal.put_column-requires-7
put_column-requires-7 c = (search rules, (omega arith, (omega arith, (each_fits c.args.self.now c.requires.fields_fit).cnr)))

pub returns : goal.returns
returns c =
    let h = c.args.self.now.header in
    let mask : PutsAll (numbers (signal_count h) c.args.self.now.cell_mask) c.put.new.writer c.put_mask.new.writer = rw (← c.signal_count.ensures.value) c.in_ok-put_mask.ensures in
    (put_both c.in_ok-put.ensures (put_both mask (put_both c.in_ok-put_column.ensures (put_both c.in_ok-put_column-2.ensures (put_both c.in_ok-put_column-3.ensures
    (put_both c.in_ok-put_column-4.ensures (put_both c.in_ok-put_column-5.ensures (put_both c.in_ok-put_column-6.ensures c.in_ok-put_column-7.ensures)))))))).is
