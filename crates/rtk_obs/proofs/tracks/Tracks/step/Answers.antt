use Rattle.rtk_obs.specs.Slip.{epoch_cell}
use Rattle.rtk_obs.proofs.TracksLemmas.{represents_more}
use Rattle.rtk_obs.proofs.tracks.Tracks.step.Goals as goal

pub returns-clause-after : goal.returns-clause-after
returns-clause-after c = λ steps r.
    represents_more c.args.self.now c.step_with.new.self steps c.args.satellite c.args.code (epoch_cell c.args.epoch c.args.cell.now) c.requires.satellite c.requires.later
    c.step_with.ensures.same c.step_with.ensures.others r
