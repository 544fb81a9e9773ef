-- The exit status of a command of a file, by its answer.
use Rattle.std.specs.Prelude.{ℕ}
use Rattle.rtk_commands.specs.declared.file_answer.FileAnswer.{FileAnswer}
use Rattle.rtk_commands.specs.declared.file_answer.FileAnswer.TheVariants.{Written, Cut, NotValid, Refused, Height, NoneChosen, Absent}

-- table
-- 0 if the work is done, 2 if the words are refused, and 3 if `check` says no, the file has nothing of what is
-- chosen, or lacks some of it (this project's rule)
abbrev pub answer_status : FileAnswer → ℕ
answer_status Written = 0
answer_status (Cut counts) = 0
answer_status NotValid = 3
answer_status (Refused fault) = 3
answer_status Height = 2
answer_status NoneChosen = 3
answer_status (Absent system) = 3
