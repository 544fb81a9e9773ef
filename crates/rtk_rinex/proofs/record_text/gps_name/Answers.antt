use Rattle.rtk_rinex.proofs.WrittenLemmas.{gps-named}
use Rattle.rtk_rinex.proofs.record_text.gps_name.Goals as goal

pub returns : goal.returns
returns c = gps-named c.put_pair.new.field c.args.satellite (rw c.from.ensures at c.put_pair.ensures)
