use Rattle.std.proofs.Common.{arith}
use Rattle.rtk_survey.proofs.SystemPhaseLemmas.{there, table-made}
use Rattle.rtk_survey.proofs.system_phases.make_table.Goals as goal

pub returns-in_ok-table : goal.returns-in_ok-table
returns-in_ok-table c = λ es counts.
    let known = c.args.table.now.ok.0 in
    table-made c.args.table.now.items c.in_ok-table.field-0.items es c.nothing.result (omega (arith, known, c.if-len-eq0.true))
    (c.in_ok-table.ensures.items_if_clones_equal (λ y same. same)) c.nothing.ensures.counts counts

pub returns-else-len-eq0 : goal.returns-else-len-eq0
returns-else-len-eq0 c = λ es counts.
    let known = c.args.table.now.ok.0 in
    there c.args.table.now.items es (λ none. omega (arith, known, none, c.if-len-eq0.false)) counts
