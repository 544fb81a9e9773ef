use Rattle.rtk_systems.specs.Values.{is_found}
use Rattle.rtk_plan.proofs.CodeLemmas.{mixed-found}
use Rattle.rtk_plan.proofs.station_setup.codes_of_systems.Goals as goal

-- the codes that are found are some of all
pub returns-clause-good : goal.returns-clause-good
returns-clause-good c =
    mixed-found (is_found c.args.surveys.now c.args.station c.args.systems c.args.taken)
    c.in_ok-codes.codes.items _ c.is_empty.result c.in_ok-codes.ensures
    c.in_ok-codes.codes.ok.0 c.is_empty.ensures c.if-is_empty.false
