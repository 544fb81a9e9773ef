use Rattle.std.proofs.Common.{◌++◌, ℕ, List, ap, ◌∙◌}
use Rattle.rtk_systems.specs.NamelessLines.{nameless_lines}
use Rattle.rtk_systems.specs.declared.values.TakenMessages.{TakenMessages}
use Rattle.rtk_plan.proofs.left_out.put_nameless_in.Goals as goal

pub returns : goal.returns
returns c =
    let old : List ℕ = c.args.lines.now.items in
    let ss = c.args.surveys.now in
    let setup = c.args.setup.now in
    c.in_ok-put_nameless.ensures
    ∙ ap (λ (n : ℕ). old ++ nameless_lines setup.head.listed ss n c.taken_by_setup-taken.result) c.station.ensures.value
    ∙ ap (λ (m : TakenMessages). old ++ nameless_lines setup.head.listed ss setup.station m) c.taken_by_setup-taken.ensures
