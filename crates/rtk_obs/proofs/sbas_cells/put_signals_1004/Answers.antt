use Rattle.rtk_obs.proofs.LegacyLemmas.{fields_of_valid}
use Rattle.rtk_obs.proofs.SbasLemmas.{numbers_of_valid}
use Rattle.rtk_obs.proofs.sbas_cells.put_signals_1004.Goals as goal

pub put_all-requires-clause-fields : goal.put_all-requires-clause-fields
put_all-requires-clause-fields c = rw c.as_slice.ensures.value (fields_of_valid c.args.message.now c.requires)

pub put_all-requires-clause-numbers : goal.put_all-requires-clause-numbers
put_all-requires-clause-numbers c = rw c.as_slice.ensures.value (numbers_of_valid c.args.message.now c.requires)
