use Rattle.std.proofs.Common.{◌+◌, ◌==◌, ◌∙◌, ℕ, ap}
use Rattle.rtk_message.specs.AnyDecoded.{number_of}
use Rattle.rtk_message.specs.Systems.{number_of_kind}
use Rattle.rtk_survey.specs.Counting.{shown_count}
use Rattle.rtk_survey.specs.Contents.{one_if}
use Rattle.rtk_survey.specs.Tracing.{is_numbered}
use Rattle.rtk_survey.proofs.MsmLemmas.{counted}
use Rattle.rtk_survey.proofs.msm_parts.MsmPart.add_message.Goals as goal

pub returns : goal.returns
returns c = λ ms stands.
    let kind = c.args.kind in
    let m = c.args.message.now in
    let was : ℕ = c.args.self.now.messages in
    record {
      messages = counted (is_numbered (number_of_kind kind)) m ms was c.count_if-self.result stands.messages
          (c.count_if-self.ensures
          ∙ ap (λ (n : ℕ). shown_count (was + one_if (n == c.number-2.result))) c.number.ensures
          ∙ ap (λ (n : ℕ). shown_count (was + one_if (number_of m == n))) c.number-2.ensures);
      epochs = c.note_epoch.ensures ms stands.epochs;
      codes = c.join_codes.ensures ms stands.codes;
    }
