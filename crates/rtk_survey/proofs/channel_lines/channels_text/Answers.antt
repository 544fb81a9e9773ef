use Rattle.std.proofs.Common.{◌≡◌, ◌-◌, ◌++◌, ◌∙◌, ℕ, Bool, List, sym, ap, arith}
use Rattle.std.proofs.lemmas.List.{append-nil}
use Rattle.std.specs.Prelude.{filter}
use Rattle.std.specs.List.{range_with_len}
use Rattle.rtk_survey.specs.Steps.Tables.{place_is_counted}
use Rattle.rtk_survey.specs.SummaryText.{joined_channels, told_channels_text}
use Rattle.rtk_survey.proofs.ChannelLineLemmas.{channel-named, channel-passed}
use Rattle.rtk_survey.proofs.channel_lines.channels_text.Goals.{then-is_counted+in_ok-push+in_ok-put_told_channel, else-is_counted}
use Rattle.rtk_survey.proofs.channel_lines.channels_text.Goals as goal

pub loop-place-init : goal.loop-place-init
loop-place-init c = ap (λ (t : List ℕ). t ++ joined_channels 32 (filter (place_is_counted c.args.counts.now) (range_with_len 21 567))) c.new-text.ensures.items

pub loop-place-preserved : goal.loop-place-preserved
loop-place-preserved c =
    let told : ℕ → Bool = place_is_counted c.args.counts.now in
    let whole : List ℕ = joined_channels 32 (filter told (range_with_len 21 567)) in
    elim c.if-is_counted.branch [
      | then-is_counted+in_ok-push+in_ok-put_told_channel w ↦
          rw (w.text-is, w.separator-is, w.in_ok-put_told_channel.ensures, w.in_ok-push.ensures.items)
          (channel-named told c.loop-place.text.items c.loop-place.separator c.loop-place.place whole c.loop-place-test.true
          (sym c.is_counted.ensures ∙ w.if-is_counted.true) c.loop-place.invariant)
      | else-is_counted w ↦
          rw (w.text-is, w.separator-is)
          (channel-passed told c.loop-place.text.items c.loop-place.separator c.loop-place.place whole c.loop-place-test.true
          (sym c.is_counted.ensures ∙ w.if-is_counted.false) c.loop-place.invariant)
    ]

pub returns : goal.returns
unfolding told_channels_text
returns c =
    let told : ℕ → Bool = place_is_counted c.args.counts.now in
    let text : List ℕ = c.loop-place.text.items in
    let end : 0 ≡ 588 - c.loop-place.place = omega (arith, c.loop-place-test.false) in
    sym (append-nil text) ∙ ap (λ (k : ℕ). text ++ joined_channels c.loop-place.separator (filter told (range_with_len c.loop-place.place k))) end ∙ c.loop-place.invariant
