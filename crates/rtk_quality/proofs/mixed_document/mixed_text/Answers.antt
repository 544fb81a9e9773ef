use Rattle.std.proofs.Common.{◌++◌, ℕ, List, ap, ◌∙◌}
use Rattle.rtk_obs.proofs.PublicLaws.{reading_is}
use Rattle.rtk_rinex.specs.MixedHead.{MixedHeadView}
use Rattle.rtk_quality.specs.MixedQuality.{mixed_heading_text}
use Rattle.rtk_quality.proofs.MixedTextLemmas.{mixed-text-is}
use Rattle.rtk_quality.proofs.mixed_document.mixed_text.Goals as goal

pub returns : goal.returns
returns c = λ t is text times.
    let parts = c.heading-heading.ensures.parts t is text in
    let head = c.heading-heading.result.head in
    mixed-text-is t.head.doppler head.doppler c.args.form t.head.marker c.marker-marker.result.now t.head.listed head.listed t.first c.heading-heading.result.first c.args.last c.args.interval t.epochs
    c.civil-from.result c.civil-until.result c.args.times.now _ _ _ _ (ap (λ (h : MixedHeadView). h.doppler) parts.0) (reading_is _ _ c.civil-from.ensures.reading) (reading_is _ _ c.civil-until.ensures.reading) parts.2
    (c.marker-marker.ensures.value ∙ ap (λ (h : MixedHeadView). h.marker) parts.0) (ap (λ (h : MixedHeadView). h.listed) parts.0) times
    (c.in_ok-put_mixed_heading.ensures
    ∙ ap (λ (t : List ℕ). t ++ mixed_heading_text c.args.form c.marker-marker.result.now c.civil-from.result c.civil-until.result c.args.interval c.args.times.now.records c.args.times.now.gaps.count) c.new-text.ensures.items)
    c.in_ok-put_gaps.ensures (c.in_ok-put_systems.ensures t is text) c.in_ok-put_close.ensures
