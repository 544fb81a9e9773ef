use Rattle.std.proofs.Common.{rules}
use Rattle.rtk_bits.proofs.reader.BitReader.take_u.Goals as goal

pub returns-then-remaining-width-clause-enough : goal.returns-then-remaining-width-clause-enough
returns-then-remaining-width-clause-enough c = search rules depth 5 fits 300

pub returns-then-remaining-width-clause-short : goal.returns-then-remaining-width-clause-short
returns-then-remaining-width-clause-short c = search rules depth 5 fits 300
