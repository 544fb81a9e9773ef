use Rattle.std.proofs.Common.{refl}
use Rattle.rtk_cli.proofs.LabelPassingLemmas.{awaits-lines, awaits-none}
use Rattle.rtk_cli.proofs.auto_labelling.Labelled.new.Goals as goal

pub returns-in-Some-clause-awaits : goal.returns-in-Some-clause-awaits
returns-in-Some-clause-awaits g c = awaits-lines _ c.new.result c.args.label c.in-Some.label c.in-Some.is refl c.new.ensures.label c.new.ensures.front

pub returns-in-None-clause-awaits : goal.returns-in-None-clause-awaits
returns-in-None-clause-awaits g c = awaits-none _ c.args.label c.in-None.is refl
