use Rattle.std.proofs.Common.{◌≡◌, ℕ, List, None, Some, refl, sym, ap, ◌∙◌}
use Rattle.rtk_message.specs.declared.system.System.{System}
use Rattle.rtk_obs.specs.declared.code.Code.{Code}
use Rattle.rtk_cli.specs.declared.words.BadWords.{BadWords}
use Rattle.rtk_cli.specs.declared.words.BadWords.TheVariants.{NearOfAuto, MadeOfAuto, CodeOfSystem, CodeOfGps}
use Rattle.rtk_cli.specs.FaultLines.{second_line}
use Rattle.rtk_cli.proofs.words.BadWords.second_line.Goals as goal

-- no line follows that of any other cause
none-follows : (cause : BadWords) → (cause ≡ NearOfAuto → ⊥) → (cause ≡ MadeOfAuto → ⊥) → ((s : System) → cause ≡ CodeOfSystem s → ⊥) → ((code : Code) → cause ≡ CodeOfGps code → ⊥) → None ≡ second_line cause
none-follows NearOfAuto near made system gps = absurd (near refl)
none-follows MadeOfAuto near made system gps = absurd (made refl)
none-follows (CodeOfSystem s) near made system gps = absurd (system s refl)
none-follows (CodeOfGps code) near made system gps = absurd (gps code refl)
none-follows _ near made system gps = refl

pub returns-in-CodeOfSystem : goal.returns-in-CodeOfSystem
returns-in-CodeOfSystem c = ap (λ (t : List ℕ). Some t) c.codes_line.ensures ∙ ap second_line (sym c.in-CodeOfSystem.is)

pub returns-in-CodeOfGps : goal.returns-in-CodeOfGps
returns-in-CodeOfGps c = ap (λ (t : List ℕ). Some t) c.short_code_line.ensures ∙ ap second_line (sym c.in-CodeOfGps.is)

pub returns-in_default : goal.returns-in_default
returns-in_default c = none-follows c.args.self c.in_default.not-NearOfAuto c.in_default.not-MadeOfAuto c.in_default.not-CodeOfSystem c.in_default.not-CodeOfGps
