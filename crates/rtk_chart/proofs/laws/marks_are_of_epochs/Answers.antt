use Rattle.rtk_chart.proofs.MarkLemmas.{codes-show, satellites-show, gaps-missing, outages-shown}
use Rattle.rtk_chart.proofs.SeenLemmas.{codes-are}
use Rattle.rtk_chart.proofs.laws.marks_are_of_epochs.Goals as goal

pub returns-clause-marks : goal.returns-clause-marks
returns-clause-marks c = codes-show

pub returns-clause-satellites : goal.returns-clause-satellites
returns-clause-satellites c = satellites-show

pub returns-clause-codes : goal.returns-clause-codes
returns-clause-codes c = codes-are

pub returns-clause-gaps : goal.returns-clause-gaps
returns-clause-gaps c = gaps-missing

pub returns-clause-outages : goal.returns-clause-outages
returns-clause-outages c = outages-shown
