use Rattle.std.proofs.Common.{arith, sym, ◌∙◌}
use Rattle.rtk_frame.proofs.frame.front_of.Goals as goal

pub returns-then-has_checksum : goal.returns-then-has_checksum
returns-then-has_checksum c = let s = c.in-Candidate.ensures in (s.3 ∙ sym c.has_checksum.ensures ∙ c.if-has_checksum.true, s.0, s.1)

pub returns-else-has_checksum : goal.returns-else-has_checksum
returns-else-has_checksum c = let s = c.in-Candidate.ensures in (omega (arith, s.2), s.3 ∙ sym c.has_checksum.ensures ∙ c.if-has_checksum.false, s.4)
