use Rattle.std.proofs.Common.{sym}
use Rattle.rtk_rinex.proofs.ColumnsLemmas.{right-short}
use Rattle.rtk_rinex.proofs.columns.put_short_14_3.Goals as goal

pub returns : goal.returns
returns c = rw (c.put_three_of_four.ensures, c.put_point_and_three.ensures, c.requires.blank) (sym (right-short c.args.magnitude c.requires.short))
