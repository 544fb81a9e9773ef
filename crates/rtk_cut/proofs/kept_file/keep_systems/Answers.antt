use Rattle.std.proofs.Common.{◌≡◌, ◌++◌, ◌∙◌, ℕ, List, None, sym, ap}
use Rattle.std.specs.Prelude.{flat_map}
use Rattle.rtk_rinex.specs.Header.{PositionView, position_view}
use Rattle.rtk_rinex.specs.MixedForm.{FormView}
use Rattle.rtk_rinex.specs.MixedHead.{MixedHeadView}
use Rattle.rtk_rinex.specs.MixedHeader.{mixed_header_text}
use Rattle.rtk_rinex.specs.MixedRecord.{mixed_record_text}
use Rattle.rtk_cut.specs.Cut.{first_of_part}
use Rattle.rtk_cut.specs.KeptSystems.{kept_codes, kept_head, kept_epochs}
use Rattle.rtk_cut.proofs.kept_file.keep_systems.Goals as goal

-- no code is kept
pub returns-in_default-clause-text : goal.returns-in_default-clause-text
returns-in_default-clause-text c = λ t good text.
    ap (λ (h : MixedHeadView). kept_codes c.args.kept h.listed) (sym (c.heading-heading.ensures.parts t good text).0) ∙ c.in_default.ensures.head

-- the header and the records
pub returns-clause-text : goal.returns-clause-text
returns-clause-text c = λ t good text.
    let ks = c.args.kept in
    let parts = c.heading-heading.ensures.parts t good text in
    let site : PositionView = position_view c.heading-heading.result.position in
    let head = c.in-Some.ensures.head ∙ ap (kept_head ks) parts.0 in
    let first : c.first_kept-first.result ≡ first_of_part None t.first (kept_epochs ks t.epochs) =
    c.first_kept-first.ensures t.epochs (c.records.ensures.records t good text).1 ∙ ap (λ (n : ℕ). first_of_part None n (kept_epochs ks t.epochs)) parts.2 in
    let read = c.records-2.ensures.records t good text in
    c.in_ok-put_kept_records.ensures t.epochs read.1
    ∙ ap (λ (f : FormView). c.extend_from_slice.new.self.items ++ flat_map (mixed_record_text f.doppler) (kept_epochs ks t.epochs)) read.0
    ∙ ap (λ (top : List ℕ). top ++ flat_map (mixed_record_text t.head.doppler) (kept_epochs ks t.epochs))
    (c.in_ok-extend_from_slice.ensures.items
    ∙ ap (λ (xs : List ℕ). xs ++ c.as_slice.result.now) c.in_ok-text.ensures.items
    ∙ c.as_slice.ensures.value ∙ c.in_ok-top.ensures.value
    ∙ ap (λ (h : MixedHeadView). mixed_header_text h site c.first_kept-first.result) head
    ∙ ap (λ (p : PositionView). mixed_header_text (kept_head ks t.head) p c.first_kept-first.result) parts.1
    ∙ ap (λ (n : ℕ). mixed_header_text (kept_head ks t.head) t.site n) first)

pub returns-clause-some : goal.returns-clause-some
returns-clause-some c = λ t good text none.
    c.in-Some.ensures.some (ap (λ (h : MixedHeadView). kept_codes c.args.kept h.listed) (c.heading-heading.ensures.parts t good text).0 ∙ none)
