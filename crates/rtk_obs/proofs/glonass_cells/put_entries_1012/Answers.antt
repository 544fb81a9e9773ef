use Rattle.rtk_obs.proofs.GlonassLemmas.{widths_of_1012}
use Rattle.rtk_obs.proofs.glonass_cells.put_entries_1012.Goals as goal

pub put_satellites-requires-clause-fields : goal.put_satellites-requires-clause-fields
put_satellites-requires-clause-fields c = rw c.as_slice.ensures.value (widths_of_1012 c.args.message.now c.requires)
