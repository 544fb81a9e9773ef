use Rattle.std.proofs.Common.{◌≡◌, ◌<◌, ◌++◌, ℕ, List, [], ◌∷◌, length, Option, refl, append_assoc, arith}
use Rattle.std.specs.Borrow.{Bor}
use Rattle.std.specs.Prelude.{codes}
use Rattle.rtk_plan.specs.LabelCommand.{file_word, command_with}
use Rattle.rtk_plan.proofs.label_command.put_command.Goals as goal

-- the command with some options
command-is : (words : List ℕ) (file : Option (Bor (List ℕ))) → 0 < length words
    → command_with words file ≡ codes "rtcm2rinex label" ++ words ++ codes " " ++ file_word file ++ 10 ∷ []
command-is [] file some = absurd (omega (arith, some))
command-is (x ∷ xs) file some = refl

pub returns : goal.returns
returns c =
    rw (
      c.in_ok-push-2.ensures.items,
      c.in_ok-put_file.ensures,
      c.in_ok-push.ensures.items,
      c.in_ok-extend_from_slice-2.ensures.items,
      c.in_ok-extend_from_slice.ensures.items,
      command-is c.args.words.now c.args.file (omega (arith, c.if-words-eq0.false)),
    ) (simp append_assoc)
