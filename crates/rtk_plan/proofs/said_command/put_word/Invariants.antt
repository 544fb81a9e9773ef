use Rattle.std.proofs.Common.{◌≡◌, ◌-◌, ◌≤◌, ◌++◌, drop, length}
use Rattle.rtk_plan.specs.SaidCommand.{word_text}
use Rattle.rtk_plan.proofs.said_command.put_word.Given as goal

-- the hyphens so far and the rest of the word are the word
abbrev pub invariant-loop-at : goal.invariant-loop-at
invariant-loop-at l = record {
  within : l.at ≤ length l.word;
  text : l.line.items ++ word_text (drop l.at l.word) ≡ l.fn.line.items ++ word_text l.word;
}

abbrev pub decreases-loop-at : goal.decreases-loop-at
decreases-loop-at l = length l.word - l.at
