use Rattle.std.proofs.Common.{arith}
use Rattle.rtk_rinex.proofs.NamesLemmas.{name_at}
use Rattle.rtk_rinex.proofs.mixed_record_lines.name_of.Goals as goal

pub returns : goal.returns
returns c = rw (c.from-entry.ensures, c.index.ensures.value) (name_at c.args.satellite (omega (arith, c.index.ensures.value, c.index.ensures.bound.1)))
