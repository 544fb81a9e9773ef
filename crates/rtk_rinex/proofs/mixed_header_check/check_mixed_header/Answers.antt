use Rattle.std.proofs.Common.{◌≡◌, ◌∙◌, ◌++◌, List, ℕ, drop, length, ap, sym, subst}
use Rattle.std.proofs.lemmas.Result.{err_from_is_err_and}
use Rattle.rtk_rinex.specs.Header.{IsPositionView, position_view}
use Rattle.rtk_rinex.specs.HeaderFault.{AreLines}
use Rattle.rtk_rinex.specs.MixedHead.{IsMixedHead}
use Rattle.rtk_obs.specs.Reading.{IsMoment}
use Rattle.rtk_rinex.specs.MixedHeaderFault.{IsOnlyMixedHeader}
use Rattle.rtk_rinex.specs.Steps.MixedHeaderRead.{ShowsMixedHeader}
use Rattle.rtk_rinex.specs.declared.mixed_header_check.MixedHeaderParts.{MixedHeaderParts}
use Rattle.rtk_rinex.proofs.HeaderVerdictLemmas.{HasAll}
use Rattle.rtk_rinex.proofs.MixedPartsLemmas.{MixedValues, mixed_values, mixed_text, whole_mixed}
use Rattle.rtk_rinex.proofs.MixedVerdictLemmas.{has_all_mixed, IsRead, mixed_fault, no_mixed}
use Rattle.rtk_rinex.proofs.TextLemmas.{on_err}
use Rattle.rtk_rinex.proofs.TextPartLemmas.{AreWhole}
use Rattle.rtk_rinex.proofs.mixed_header_check.check_mixed_header.Goals as goal

-- the values that were read
abbrev values : MixedHeaderParts → MixedValues
values p = mixed_values p.head (position_view p.position) p.first

-- ---- the text has all lines

is : (c : goal.After-after) → c.as_slice.result.now ≡ mixed_text (values c.read_mixed_header-parts.result)
is c = c.as_slice.ensures.value ∙ c.read_mixed_header-parts.ensures.written

all : (c : goal.After-after) → HasAll c.in_ok-lines.lines c.args.text.now c.as_slice.result.now
all c =
    let g = c.read_mixed_header-parts.ensures.good in
    let a = c.in_ok-lines.ensures.alike in
    has_all_mixed c.in_ok-lines.lines c.args.text.now c.as_slice.result.now a.0 a.1
    (subst AreWhole (sym (is c)) (whole_mixed (values c.read_mixed_header-parts.result) c.any_code_laws.ensures.places (record { heading = g.0; site = g.1; first = g.2 }))) a.2 a.3

pub returns-clause-text : goal.returns-clause-text
returns-clause-text c =
    let p = c.read_mixed_header-parts.result in
    (all c).begins ∙ ap (λ (w : List ℕ). w ++ drop (length c.as_slice.result.now) c.args.text.now) (is c)
    ∙ ap (λ (r : List ℕ). mixed_text (values p) ++ r)
    (ap (λ (n : ℕ). drop n c.args.text.now) (ap length c.as_slice.ensures.value ∙ sym c.len.ensures.value) ∙ sym c.after.ensures)

pub returns-clause-lines : goal.returns-clause-lines
returns-clause-lines c = subst (λ (t : List ℕ). AreLines c.in_ok-lines.lines t) (is c) (all c).lines

-- ---- a line of the text is another one

read : (p : MixedHeaderParts) (text out written : List ℕ) → IsMixedHead p.head × IsPositionView (position_view p.position) × IsMoment p.first → written ≡ out → out ≡ mixed_text (values p)
    → ShowsMixedHeader text out → IsOnlyMixedHeader text p.head (position_view p.position) p.first → IsRead text written (values p)
read p text out written g same is shows only =
    record {
      good = record { heading = g.0; site = g.1; first = g.2 };
      is = same ∙ is;
      shows = subst (λ (w : List ℕ). ShowsMixedHeader text w) (sym same) shows;
      only = only;
    }

pub returns-in_err-lines-clause-fault : goal.returns-in_err-lines-clause-fault
returns-in_err-lines-clause-fault c =
    let p = err_from_is_err_and c.from_residual.result c.from_residual.ensures.1 in
    let e = c.read_mixed_header-parts.ensures in
    let v = values c.read_mixed_header-parts.result in
    let f = c.in_err-lines.field-0.0 in
    rw p.1 (rw p.2 (mixed_fault c.args.text.now c.as_slice.result.now v f
    (read c.read_mixed_header-parts.result c.args.text.now c.read_mixed_header-parts.new.out.items c.as_slice.result.now e.good c.as_slice.ensures.value e.written e.shown e.only) c.in_err-lines.ensures.unlike))

pub returns-in_err-lines-clause-none : goal.returns-in_err-lines-clause-none
returns-in_err-lines-clause-none c =
    let e = c.read_mixed_header-parts.ensures in
    let v = values c.read_mixed_header-parts.result in
    let f = c.in_err-lines.field-0.0 in
    on_err c.from_residual.result (no_mixed c.args.text.now c.as_slice.result.now v f
    (read c.read_mixed_header-parts.result c.args.text.now c.read_mixed_header-parts.new.out.items c.as_slice.result.now e.good c.as_slice.ensures.value e.written e.shown e.only) c.in_err-lines.ensures.unlike)

pub returns-clause-only : goal.returns-clause-only
returns-clause-only c = c.read_mixed_header-parts.ensures.only
