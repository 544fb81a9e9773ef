use Rattle.std.proofs.Common.{append_assoc}
use Rattle.rtk_plan.specs.LabelCommand.{label_words}
use Rattle.rtk_plan.proofs.label_command.label_words.Goals as goal

pub returns : goal.returns
unfolding label_words
returns c =
    rw (
      ← c.parts.view_is,
      c.in_ok-put_option-5.ensures,
      c.in_ok-put_option-4.ensures,
      c.in_ok-put_option-3.ensures,
      c.in_ok-put_option-2.ensures,
      c.in_ok-put_option.ensures,
      c.new-words.ensures.items,
    ) (simp append_assoc)
