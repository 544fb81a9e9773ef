use Rattle.std.proofs.Common.{◌++◌, List, ℕ}
use Rattle.rtk_survey.specs.Summary.{weeks_text_of}
use Rattle.rtk_survey.proofs.ListLemmas.{and-then}
use Rattle.rtk_survey.proofs.ResultLemmas.{on-ok}
use Rattle.rtk_survey.proofs.date_lines.put_system_weeks.Goals as goal

pub returns : goal.returns
returns c = λ ts has.
    let l0 : List ℕ = c.args.lines.now.items in
    let l1 : List ℕ = c.put_weeks_of.new.lines.items in
    let l2 : List ℕ = c.put_weeks_of-2.new.lines.items in
    on-ok c.put_weeks_of-3.result
    (λ put. and-then l0 l2 c.put_weeks_of-3.new.lines.items (weeks_text_of 1042 8192 ts ++ weeks_text_of 1045 4096 ts) (weeks_text_of 1046 4096 ts)
    (and-then l0 l1 l2 (weeks_text_of 1042 8192 ts) (weeks_text_of 1045 4096 ts) (c.in_ok-put_weeks_of.ensures ts has.of_1042) (c.in_ok-put_weeks_of-2.ensures ts has.of_1045)) put)
    (c.put_weeks_of-3.ensures ts has.of_1046)
