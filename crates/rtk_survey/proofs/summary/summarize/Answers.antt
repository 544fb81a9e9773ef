use Rattle.std.proofs.Common.{rules}
use Rattle.rtk_survey.proofs.summary.summarize.Goals as goal

pub returns-then-is_err-clause-read_failed : goal.returns-then-is_err-clause-read_failed
returns-then-is_err-clause-read_failed g c = search rules depth 5 fits 300

pub returns-then-is_err-clause-no_failed_write : goal.returns-then-is_err-clause-no_failed_write
returns-then-is_err-clause-no_failed_write g c = search rules depth 5 fits 300

pub returns-then-is_err-clause-nothing : goal.returns-then-is_err-clause-nothing
returns-then-is_err-clause-nothing g c = search rules depth 5 fits 300
