use Rattle.std.proofs.Common.{ℕ, ◌++◌, Option, sym, ap, ◌∙◌}
use Rattle.rtk_obs.specs.CivilText.{civil_text}
use Rattle.rtk_obs.specs.declared.time.Civil.{Civil}
use Rattle.rtk_obs.proofs.PublicLaws.{reading_is}
use Rattle.rtk_convert.specs.ReportText.{epoch_text}
use Rattle.rtk_convert.proofs.report.put_epoch.Goals as goal

pub returns-in_ok-put_civil-in-Some : goal.returns-in_ok-put_civil-in-Some
returns-in_ok-put_civil-in-Some c =
    c.in_ok-put_civil-in-Some.ensures
    ∙ ap (λ (t : Civil). c.args.line.now.items ++ civil_text t) (reading_is c.in-Some.epoch c.civil.result c.civil.ensures.reading)
    ∙ ap (λ (o : Option ℕ). c.args.line.now.items ++ epoch_text o) (sym c.in-Some.is)
