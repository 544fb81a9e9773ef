use Rattle.rtk_quality.proofs.RunLawLemmas.{hours-have-all, largest-bursts-first, runs-have-all, longest-runs-first, longest-missing-first}
use Rattle.rtk_quality.proofs.laws.satellites_hide_nothing.Goals as goal

pub returns-clause-hours : goal.returns-clause-hours
returns-clause-hours c = hours-have-all

pub returns-clause-bursts : goal.returns-clause-bursts
returns-clause-bursts c = largest-bursts-first

pub returns-clause-epochs : goal.returns-clause-epochs
returns-clause-epochs c = runs-have-all

pub returns-clause-runs : goal.returns-clause-runs
returns-clause-runs c = longest-runs-first

pub returns-clause-missing : goal.returns-clause-missing
returns-clause-missing c = longest-missing-first
