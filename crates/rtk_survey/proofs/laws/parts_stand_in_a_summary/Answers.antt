use Rattle.rtk_survey.proofs.CountingLemmas.{parts-stand, stations-stand, proposals-stand, untaken-stand}
use Rattle.rtk_survey.proofs.laws.parts_stand_in_a_summary.Goals as goal

pub returns-clause-parts : goal.returns-clause-parts
returns-clause-parts c = parts-stand

pub returns-clause-stations : goal.returns-clause-stations
returns-clause-stations c = stations-stand

pub returns-clause-proposals : goal.returns-clause-proposals
returns-clause-proposals c = proposals-stand

pub returns-clause-untaken : goal.returns-clause-untaken
returns-clause-untaken c = untaken-stand
