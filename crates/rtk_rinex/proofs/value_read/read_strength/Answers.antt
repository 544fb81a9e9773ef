use Rattle.rtk_rinex.proofs.KnownLemmas.{no-strength, some-strength}
use Rattle.rtk_rinex.proofs.value_read.read_strength.Goals as goal

pub returns-then-columns-eq32 : goal.returns-then-columns-eq32
returns-then-columns-eq32 c = λ s h e. no-strength c.args.columns.now s h e c.if-columns-eq32.true

pub returns : goal.returns
returns c = λ s h e.
    rw (c.from.ensures, c.from-2.ensures, c.from-3.ensures, c.from-4.ensures, c.from-5.ensures) (some-strength c.args.columns.now s h e c.if-columns-eq32.false)
