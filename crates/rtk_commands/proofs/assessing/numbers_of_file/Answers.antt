use Rattle.std.proofs.Common.{List, ℕ, refl, subst}
use Rattle.rtk_quality.specs.MixedQuality.{TellsMixedQuality}
use Rattle.rtk_quality.specs.QualityText.{TellsQuality}
use Rattle.rtk_commands.specs.QualityInput.{TellsTable}
use Rattle.rtk_commands.proofs.FileTableLemmas.{of-gps, of-mixed}
use Rattle.rtk_commands.proofs.assessing.numbers_of_file.Goals as goal

pub returns-in_ok-quality-in-Gps : goal.returns-in_ok-quality-in-Gps
returns-in_ok-quality-in-Gps c f w l =
    of-gps (λ f. TellsTable c.args.form f w l _ c.in_ok-quality-in-Gps.field-0.items) c.args.table.now c.in-Gps.table c.in-Gps.is c.requires
    (λ t good e. (refl, subst (λ (x : List ℕ). TellsQuality c.args.form x c.in_ok-quality-in-Gps.field-0.items) e c.in_ok-quality-in-Gps.ensures)) f

pub returns-in_ok-mixed_quality-in-Mixed : goal.returns-in_ok-mixed_quality-in-Mixed
returns-in_ok-mixed_quality-in-Mixed c f w l =
    of-mixed (λ f. TellsTable c.args.form f w l _ c.in_ok-mixed_quality-in-Mixed.field-0.items) c.args.table.now c.in-Mixed.table c.in-Mixed.is c.requires
    (λ t good e. (refl, subst (λ (x : List ℕ). TellsMixedQuality c.args.form x c.in_ok-mixed_quality-in-Mixed.field-0.items) e c.in_ok-mixed_quality-in-Mixed.ensures)) f
