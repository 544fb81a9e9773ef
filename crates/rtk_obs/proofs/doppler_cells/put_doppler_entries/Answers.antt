use Rattle.rtk_obs.proofs.MsmFieldLemmas.{is_cell_mask-msm}
use Rattle.rtk_obs.proofs.doppler_cells.put_doppler_entries.Goals as goal

pub put_entries-requires-clause-mask : goal.put_entries-requires-clause-mask
put_entries-requires-clause-mask c = is_cell_mask-msm c.args.message.now c.requires
