use Rattle.std.proofs.Common.{arith, rules, refl}
use Rattle.rtk_message.proofs.FieldLemmas.{put_both}
use Rattle.rtk_message.proofs.ColumnLemmas.{flags-fit}
use Rattle.rtk_message.proofs.msm.Msm.write_cells.Goals as goal

pub put_column-requires-4 : goal.put_column-requires-4
put_column-requires-4 c = (search rules, (refl, (omega arith, flags-fit c.args.self.now.half_cycle)))

pub returns : goal.returns
returns c =
    put_both c.in_ok-put_column.ensures (put_both c.in_ok-put_column-2.ensures (put_both c.in_ok-put_column-3.ensures
    (put_both c.in_ok-put_column-4.ensures (put_both c.in_ok-put_column-5.ensures c.in_ok-put_column-6.ensures))))
