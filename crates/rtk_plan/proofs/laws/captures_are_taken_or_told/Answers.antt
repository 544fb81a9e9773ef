use Rattle.rtk_plan.proofs.TakenLemmas.{each-taken-once, each-left-out-once, left-out-told}
use Rattle.rtk_plan.proofs.laws.captures_are_taken_or_told.Goals as goal

pub returns-clause-taken : goal.returns-clause-taken
returns-clause-taken c = each-taken-once

pub returns-clause-left_out : goal.returns-clause-left_out
returns-clause-left_out c = each-left-out-once

pub returns-clause-told : goal.returns-clause-told
returns-clause-told c = left-out-told
