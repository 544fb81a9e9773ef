use Rattle.std.proofs.Common.{ℕ, ◌&&◌, List, ap, subst, ◌∙◌}
use Rattle.rtk_rinex.specs.Header.{PositionView, position_view}
use Rattle.rtk_rinex.specs.MixedHead.{MixedHeadView}
use Rattle.rtk_compare.specs.declared.shared_codes.SharedCode.{SharedCode}
use Rattle.rtk_compare.specs.Codes.{shared_codes}
use Rattle.rtk_compare.specs.Headers.{header_lines}
use Rattle.rtk_compare.specs.Steps.SharedCodes.{HasShared}
use Rattle.rtk_compare.proofs.FindingLemmas.{adds-as, adds-more}
use Rattle.rtk_compare.proofs.RowLemmas.{fresh-tracks}
use Rattle.rtk_compare.proofs.comparing.compare.Goals as goal

pub returns-clause-added : goal.returns-clause-added
returns-clause-added c = λ t u is_t old is_u new.
    let o = c.heading-old_heading.result in
    let n = c.heading-new_heading.result in
    let old_parts = c.heading-old_heading.ensures.parts t is_t old in
    let new_parts = c.heading-new_heading.ensures.parts u is_u new in
    let codes : ℕ → List SharedCode = shared_codes (t.head.doppler && u.head.doppler) t.head.listed u.head.listed in
    let shared : HasShared c.of-shared.result codes =
    subst (λ (h : MixedHeadView). HasShared c.of-shared.result (shared_codes (t.head.doppler && h.doppler) t.head.listed h.listed)) new_parts.0
    (subst (λ (h : MixedHeadView). HasShared c.of-shared.result (shared_codes (h.doppler && n.head.doppler) h.listed n.head.listed)) old_parts.0 c.of-shared.ensures) in
    let headers = ap (λ (h : MixedHeadView). header_lines h (position_view o.position) n.head (position_view n.position)) old_parts.0 ∙ ap (λ (s : PositionView). header_lines t.head s n.head (position_view n.position)) old_parts.1
    ∙ ap (λ (h : MixedHeadView). header_lines t.head t.site h (position_view n.position)) new_parts.0 ∙ ap (λ (s : PositionView). header_lines t.head t.site u.head s) new_parts.1 in
    adds-more (adds-as headers c.compare_headers.ensures)
    (c.compare_records.ensures codes t.epochs u.epochs shared
    (fresh-tracks c.as_mut_slice.result.now c.none.result codes shared.few (c.as_mut_slice.ensures.value ∙ c.in_ok-tracks.ensures.items_if_clones_equal (λ y same. same)) c.none.ensures)
    (c.records.ensures.records t is_t old).1 (c.records-2.ensures.records u is_u new).1)
