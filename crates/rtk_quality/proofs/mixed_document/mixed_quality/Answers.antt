use Rattle.std.proofs.Common.{◌≡◌, ℕ, Option, Some, None, sym, ap, subst, ◌∙◌}
use Rattle.rtk_rinex.specs.MixedHead.{MixedHeadView}
use Rattle.rtk_tracking.specs.Epochs.{newest_first, newest_moment}
use Rattle.rtk_quality.specs.MixedQuality.{mixed_text_until, mixed_quality_text, mixed_text_of_none}
use Rattle.rtk_quality.specs.Records.{unit_of}
use Rattle.rtk_quality.specs.Standing.{IsTimesOf}
use Rattle.rtk_quality.specs.declared.record_counts.RecordCounts.{RecordCounts}
use Rattle.rtk_quality.proofs.mixed_document.mixed_quality.Goals as goal

pub returns-in-Some : goal.returns-in-Some
returns-in-Some c = λ t is text.
    let times : IsTimesOf c.in_ok-times.times (unit_of c.in_ok-interval.interval) (newest_first t.epochs) =
    subst (λ (n : ℕ). IsTimesOf c.in_ok-times.times n (newest_first t.epochs)) c.unit_ms.ensures.value (c.in_ok-times.ensures t is text) in
    let last : newest_moment (newest_first t.epochs) ≡ Some c.in-Some.last = sym (ap (λ (r : RecordCounts). r.last) times.records) ∙ c.in-Some.is in
    c.in_ok-text-in-Some.ensures t is text times
    ∙ ap (λ (i : Option ℕ). mixed_quality_text t.head.doppler c.args.form t.head.marker t.head.listed t.first c.in-Some.last i t.epochs) (c.in_ok-interval.ensures t is text)
    ∙ ap (λ (o : Option ℕ). mixed_text_until c.args.form t o) (sym last)

pub returns : goal.returns
returns c = λ t is text.
    let times = c.in_ok-times.ensures t is text in
    let last : newest_moment (newest_first t.epochs) ≡ None = sym (ap (λ (r : RecordCounts). r.last) times.records) ∙ c.in-None.is in
    c.in_ok-text-in-None.ensures
    ∙ ap (λ (m : _). mixed_text_of_none c.args.form m) (c.marker.ensures.value ∙ ap (λ (h : MixedHeadView). h.marker) (c.heading-heading.ensures.parts t is text).0)
    ∙ ap (λ (o : Option ℕ). mixed_text_until c.args.form t o) (sym last)
