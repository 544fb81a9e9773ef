use Rattle.rtk_plan.proofs.OnePlanLemmas.{one-plan, near-whole}
use Rattle.rtk_plan.proofs.laws.surveys_decide_plan.Goals as goal

pub returns-clause-one : goal.returns-clause-one
returns-clause-one c = one-plan

pub returns-clause-whole : goal.returns-clause-whole
returns-clause-whole c = near-whole
