use Rattle.std.proofs.Common.{refl}
use Rattle.rtk_cli.proofs.compare_words.compared_files.Goals as goal

pub returns-then-are_both_stdin-clause-refused : goal.returns-then-are_both_stdin-clause-refused
returns-then-are_both_stdin-clause-refused c =
    (refl, λ are. let is = c.are_both_stdin.ensures in let both = c.if-are_both_stdin.true in cc)
