use Rattle.std.proofs.Common.{ℕ, List}
use Rattle.rtk_message.specs.declared.msm_kind.MsmKind.{MsmKind}
use Rattle.rtk_message.specs.declared.msm_kind.MsmKind.TheVariants.{Msm5, Msm7}
use Rattle.rtk_survey.proofs.PublicLaws.{then-put}
use Rattle.rtk_systems.specs.DopplerLines.{doppler_of_kind}
use Rattle.rtk_systems.proofs.doppler_lines.put_doppler_of_system.Goals as goal

pub returns : goal.returns
returns c =
    let line : MsmKind → List ℕ = λ kind. doppler_of_kind c.args.taken c.args.surveys.now c.args.station c.args.system kind in
    then-put c.args.lines.now.items c.put_doppler_of_kind.new.lines.items c.put_doppler_of_kind-2.new.lines.items (line Msm5) (line Msm7)
    c.in_ok-put_doppler_of_kind.ensures c.in_ok-put_doppler_of_kind-2.ensures
