use Rattle.std.proofs.Common.{refl}
use Rattle.rtk_rinex.proofs.PairsLemmas.{pair_at}
use Rattle.rtk_rinex.proofs.columns.put_pair.Goals as goal

pub returns : goal.returns
returns c = let p = pair_at c.args.two c.requires.two in rw (p.0, p.1) refl
