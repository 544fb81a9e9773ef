use Rattle.std.proofs.Common.{◌≡◌, ap, ◌∙◌, arith, refl}
use Rattle.jiff_core.specs.Calendar.{days_from_civil, day_count, days_of_years, days_of_months}
use Rattle.rtk_obs.specs.Calendar.{ReadsAs}
use Rattle.rtk_obs.specs.declared.time.Civil.{Civil}
use Rattle.rtk_obs.specs.Reading.{reading_of}
use Rattle.rtk_obs.proofs.PublicLaws.{reading_is}
use Rattle.rtk_quality.specs.Hours.{start_of}
use Rattle.rtk_quality.proofs.hours.start_of.Goals as goal

-- the first moment of 2101
abbrev first : Civil
first = record { year = 2101; month = 1; day = 1; hour = 0; minute = 0; second = 0; millisecond = 0 }

reads : ReadsAs 3_818_016_000_000 first
unfolding days_from_civil day_count days_of_years days_of_months
reads = ((((omega arith, omega arith), (omega arith, omega arith), (omega arith, omega arith)), refl), (omega arith, omega arith, omega arith, omega arith), refl)

pub returns-in-Some : goal.returns-in-Some
returns-in-Some c = reading_is _ _ c.civil.ensures.reading ∙ ap reading_of (omega (arith, c.in-Some.ensures, c.saturating_mul.ensures))

pub returns-in-None : goal.returns-in-None
returns-in-None c =
    let end : 3_818_016_000_000 ≡ start_of c.args.hour = omega (arith, c.in-None.ensures, c.saturating_mul.ensures) in
    reading_is 3_818_016_000_000 first reads ∙ ap reading_of end
