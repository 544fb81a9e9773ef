use Rattle.std.proofs.Common.{rules}
use Rattle.rtk_rinex.proofs.record_text.digit_of_lock.Goals as goal

pub returns-then-half : goal.returns-then-half
returns-then-half c = search rules depth 5 fits 300
