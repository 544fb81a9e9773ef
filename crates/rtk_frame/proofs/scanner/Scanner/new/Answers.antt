use Rattle.std.proofs.Common.{rules}
use Rattle.rtk_frame.proofs.scanner.Scanner.new.Goals as goal

pub returns-clause-start : goal.returns-clause-start
returns-clause-start c = search rules depth 5 fits 300
