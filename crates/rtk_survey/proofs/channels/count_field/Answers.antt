use Rattle.std.proofs.Common.{◌≡◌, ◌+◌, ◌∙◌, ℕ, subst, arith}
use Rattle.rtk_survey.specs.Channels.{place_of_field}
use Rattle.rtk_survey.specs.Contents.{count_at}
use Rattle.rtk_survey.specs.Counting.{shown_count}
use Rattle.rtk_survey.proofs.ChannelLemmas.{other-place}
use Rattle.rtk_survey.proofs.ResultLemmas.{on-ok}
use Rattle.rtk_survey.proofs.channels.count_field.Goals as goal

pub returns-then-is_channel_field-clause-own : goal.returns-then-is_channel_field-clause-own
returns-then-is_channel_field-clause-own c = on-ok c.count_number.result
    (λ own few. subst (λ (k : ℕ). count_at c.count_number.new.counts k ≡ shown_count (count_at c.args.counts.now k + 1)) c.place_of_field.ensures own)
    c.count_number.ensures.own

pub returns-then-is_channel_field-clause-others : goal.returns-then-is_channel_field-clause-others
returns-then-is_channel_field-clause-others c = on-ok c.count_number.result
    (λ others s f few other. others (place_of_field s f) (λ same.
    other-place s f c.args.slot c.args.field few (c.is_channel_field.ensures.yes c.if-is_channel_field.true) other (same ∙ c.place_of_field.ensures)))
    c.count_number.ensures.others

pub returns-else-is_channel_field-clause-own : goal.returns-else-is_channel_field-clause-own
returns-else-is_channel_field-clause-own c = λ few.
    let many = c.is_channel_field.ensures.no c.if-is_channel_field.false in
    absurd (omega (arith, few, many))
