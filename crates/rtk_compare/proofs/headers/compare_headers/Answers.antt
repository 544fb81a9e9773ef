use Rattle.std.proofs.Common.{ℕ, Bool, List, Option, ap, ◌∙◌}
use Rattle.rtk_obs.specs.declared.any_code.AnyCode.{AnyCode}
use Rattle.rtk_rinex.specs.MixedHead.{GlonassView}
use Rattle.rtk_compare.specs.Headers.{marker_lines, code_lines, glonass_differences, shifts_line}
use Rattle.rtk_compare.proofs.FindingLemmas.{adds-as, adds-more}
use Rattle.rtk_compare.proofs.headers.compare_headers.Goals as goal

pub returns : goal.returns
returns c =
    let old = c.args.old.now.head in
    let markers = adds-as (ap (λ (m : List ℕ). marker_lines m c.marker-2.result.now) c.marker.ensures.value ∙ ap (λ (m : List ℕ). marker_lines old.marker m) c.marker-2.ensures.value) c.compare_markers.ensures in
    let listed = adds-as (ap (λ (cs : List AnyCode). code_lines cs c.codes-2.result.now) c.codes.ensures.value ∙ ap (λ (cs : List AnyCode). code_lines old.listed cs) c.codes-2.ensures.value) c.compare_codes.ensures in
    let glonass =
    adds-as (ap (λ (g : Option GlonassView). glonass_differences g c.glonass-2.result) c.glonass.ensures.value ∙ ap (λ (g : Option GlonassView). glonass_differences old.glonass g) c.glonass-2.ensures.value) c.compare_glonass.ensures in
    let shifts =
    adds-as (ap (λ (b : Bool). shifts_line b c.has_doppler-2.result) c.has_doppler.ensures ∙ ap (λ (b : Bool). shifts_line old.doppler b) c.has_doppler-2.ensures) c.compare_shifts.ensures in
    adds-more (adds-more (adds-more (adds-more markers c.compare_positions.ensures) listed) glonass) shifts
