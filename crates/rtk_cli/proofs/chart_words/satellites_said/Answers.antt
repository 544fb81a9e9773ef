use Rattle.std.proofs.Common.{◌≡◌, Option, refl, sym, subst, List, ℕ}
use Rattle.std.specs.Borrow.{Bor}
use Rattle.rtk_cli.specs.declared.words.BadWords.{BadWords}
use Rattle.rtk_cli.specs.declared.words.BadWords.TheVariants.{Satellites}
use Rattle.rtk_cli.specs.Steps.ChartWords.{ListsSatellites, HasNoSatellites}
use Rattle.rtk_cli.proofs.RefusedLemmas.{refused-by}
use Rattle.rtk_cli.proofs.NameListLemmas.{none-listed}
use Rattle.rtk_cli.proofs.chart_words.satellites_said.Goals as goal

pub returns-in-None-clause-refused : goal.returns-in-None-clause-refused
returns-in-None-clause-refused c =
    let none : (listed : List ℕ) → ¬ (ListsSatellites c.as_bytes.result.now listed) = rw c.in-None.is at c.in_ok-satellites.ensures in
    refused-by (λ (cause : BadWords). (cause ≡ Satellites) × HasNoSatellites c.args.text) Satellites c.into.result c.into.ensures (
      refl,
      subst (λ (said : Option (Bor (List ℕ))). HasNoSatellites said) (sym c.in-Some.is) (none-listed ListsSatellites c.in-Some.text.now c.as_bytes.result.now c.as_bytes.ensures.value none),
    )
