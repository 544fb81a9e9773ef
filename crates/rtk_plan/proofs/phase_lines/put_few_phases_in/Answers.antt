use Rattle.std.proofs.Common.{◌++◌, ℕ, List, ap, ◌∙◌}
use Rattle.rtk_obs.specs.declared.any_code.AnyCode.{AnyCode}
use Rattle.rtk_rinex.specs.MixedHead.{MixedHeadView}
use Rattle.rtk_systems.specs.declared.values.TakenMessages.{TakenMessages}
use Rattle.rtk_plan.specs.KnownLines.{few_phases_lines}
use Rattle.rtk_plan.specs.Plan.{taken_messages}
use Rattle.rtk_plan.proofs.phase_lines.put_few_phases_in.Goals as goal

pub returns : goal.returns
returns c =
    let old : List ℕ = c.args.lines.now.items in
    let ss = c.args.surveys.now in
    let setup = c.args.setup.now in
    c.in_ok-put_few_phases.ensures
    ∙ ap (λ (n : ℕ). old ++ few_phases_lines ss n c.taken_by_setup-taken.result c.codes.result.now) c.station.ensures.value
    ∙ ap (λ (taken : TakenMessages). old ++ few_phases_lines ss setup.station taken c.codes.result.now) c.taken_by_setup-taken.ensures
    ∙ ap (λ (cs : List AnyCode). old ++ few_phases_lines ss setup.station (taken_messages setup) cs) (c.codes.ensures.value ∙ ap (λ (h : MixedHeadView). h.listed) c.head.ensures.value)
