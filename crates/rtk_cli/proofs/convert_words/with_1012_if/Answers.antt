use Rattle.std.proofs.Common.{Bool, sym, ap, ◌∙◌}
use Rattle.rtk_setup.specs.Setup.{SetupView}
use Rattle.rtk_cli.specs.Steps.ConvertWords.{with_1012_if}
use Rattle.rtk_cli.proofs.convert_words.with_1012_if.Goals as goal

pub returns-then-is_asked-clause-given : goal.returns-then-is_asked-clause-given
returns-then-is_asked-clause-given c = c.with_1012.ensures ∙ ap (λ (b : Bool). with_1012_if c.args.setup b) (sym c.if-is_asked.true)

pub returns-then-is_asked-clause-station : goal.returns-then-is_asked-clause-station
returns-then-is_asked-clause-station c = ap (λ (s : SetupView). s.station) c.with_1012.ensures

pub returns-then-is_asked-clause-window : goal.returns-then-is_asked-clause-window
returns-then-is_asked-clause-window c = ap (λ (s : SetupView). s.window) c.with_1012.ensures

pub returns-else-is_asked-clause-given : goal.returns-else-is_asked-clause-given
returns-else-is_asked-clause-given c = ap (λ (b : Bool). with_1012_if c.args.setup b) (sym c.if-is_asked.false)
