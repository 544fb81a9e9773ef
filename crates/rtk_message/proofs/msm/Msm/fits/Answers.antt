use Rattle.std.proofs.Common.{◌≤◌, ◌*◌, ◌∙◌, ap, sym, rules}
use Rattle.rtk_message.specs.Msm1074.{satellite_count, signal_count}
use Rattle.rtk_message.proofs.Msm1074Lemmas.{few_of}
use Rattle.rtk_message.proofs.MsmLemmas.{has_lengths, has_form, satellites_fit, cells_fit}
use Rattle.rtk_message.proofs.SystemsLemmas.{is_wide}
use Rattle.rtk_message.specs.MsmForm.{type_of}
use Rattle.rtk_message.specs.Systems.{number_of_type}
use Rattle.rtk_message.proofs.msm.Msm.fits.Goals as goal

pub returns-then-satellites_fit : goal.returns-then-satellites_fit
returns-then-satellites_fit c =
    let m = c.args.self.now in
    let header = c.fits.ensures.0 (search rules) in
    let some : c.satellite_count.result * c.signal_count.result ≤ 64 = few_of c.has_too_many_cells.ensures c.if-has_too_many_cells.false in
    let few : satellite_count m.header * signal_count m.header ≤ 64 = rw (← c.satellite_count.ensures.value, ← c.signal_count.ensures.value) some in
    let satellites = c.satellites_have_lengths.ensures.0 (search rules) in
    let cells = c.cells_have_lengths.ensures.0 (search rules) in (
      λ h. record {
        wide = is_wide (type_of m) (λ e. c.if-number-eq1074.false (c.number.ensures ∙ ap number_of_type c.msm_type.ensures ∙ e));
        form = has_form m header (sym c.tells_time.ensures ∙ c.if-not-tells_time.false) few (has_lengths m satellites.0 satellites.1 cells) (c.satellites_fit.ensures.0 (search rules)) (rw c.form.ensures at (c.cells_fit.ensures.0 h));
      },
      λ v. c.cells_fit.ensures.1 (rw c.form.ensures (cells_fit m v.form.fields_fit)),
    )

pub returns-else-satellites_fit : goal.returns-else-satellites_fit
returns-else-satellites_fit c = (λ h. absurd (search rules), λ v. c.satellites_fit.ensures.1 (satellites_fit c.args.self.now v.form.fields_fit))
