use Rattle.std.proofs.Common.{◌++◌, List, ℕ, ap, ◌∙◌, codes}
use Rattle.rtk_survey.specs.Telling.{moment_of}
use Rattle.rtk_survey.specs.declared.date_message.DateMessage.TheVariants.{Utc}
use Rattle.rtk_survey.proofs.PublicLaws.{four-parts}
use Rattle.rtk_captures.specs.FarDateLines.{far_head}
use Rattle.rtk_captures.specs.Lists.{words_and_name}
use Rattle.rtk_captures.specs.SpanLine.{date_message_text}
use Rattle.rtk_captures.specs.TimeText.{time_text}
use Rattle.rtk_captures.proofs.far_dates.put_far_head.Goals as goal

pub returns : goal.returns
unfolding far_head
returns c =
    let time : List ℕ = time_text (moment_of c.args.date) in
    let message : List ℕ = date_message_text (Utc c.args.date) in
    let named : List ℕ = words_and_name (codes " in ") c.args.name.now in
    c.in_ok-put_words_and_name.ensures
    ∙ ap (λ (l : List ℕ). l ++ named) (c.in_ok-put_message.ensures
    ∙ ap (λ (l : List ℕ). l ++ message) (c.in_ok-put_time.ensures
    ∙ ap (λ (m : ℕ). c.extend_from_slice.new.self.items ++ time_text m) c.moment_of.ensures
    ∙ ap (λ (l : List ℕ). l ++ time) c.in_ok-extend_from_slice.ensures.items))
    ∙ four-parts c.args.lines.now.items (codes " other-date ") time message named
