use Rattle.std.proofs.Common.{ap, sym, ◌∙◌}
use Rattle.rtk_obs.specs.SatelliteIndex.{index_in}
use Rattle.rtk_obs.specs.SignalCells.{bit_of_row, channel_in}
use Rattle.rtk_obs.proofs.DopplerLemmas.{doppler-no-satellite}
use Rattle.rtk_obs.proofs.doppler_cells.WithDopplerSignalsOfMsm.row.Goals as goal

pub returns-in_default-clause-none : goal.returns-in_default-clause-none
returns-in_default-clause-none c = λ cell signal.
    let m = c.args.self.now.message.now in
    doppler-no-satellite c.args.self.now.channels.now m cell c.args.place signal (ap (index_in m.system) (sym c.requires.bit) ∙ sym c.satellite_in.ensures ∙ c.in_default.is)
