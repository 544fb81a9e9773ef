use Rattle.std.proofs.Common.{ℕ, Option, sym, ap, ◌∙◌}
use Rattle.rtk_setup.specs.Setup.{SetupView}
use Rattle.rtk_cli.specs.Steps.ConvertWords.{with_given}
use Rattle.rtk_cli.proofs.convert_words.with_leap_seconds.Goals as goal

pub returns-in-Some-clause-given : goal.returns-in-Some-clause-given
returns-in-Some-clause-given c = c.with_leap_seconds.ensures ∙ ap (λ (o : Option ℕ). with_given c.args.setup o) (sym c.in-Some.is)

pub returns-in-Some-clause-station : goal.returns-in-Some-clause-station
returns-in-Some-clause-station c = ap (λ (s : SetupView). s.station) c.with_leap_seconds.ensures

pub returns-in-Some-clause-window : goal.returns-in-Some-clause-window
returns-in-Some-clause-window c = ap (λ (s : SetupView). s.window) c.with_leap_seconds.ensures

pub returns-in-None-clause-given : goal.returns-in-None-clause-given
returns-in-None-clause-given c = ap (λ (o : Option ℕ). with_given c.args.setup o) (sym c.in-None.is)
