use Rattle.rtk_quality.proofs.GapLemmas.{gaps-have-all, longest-first}
use Rattle.rtk_quality.proofs.laws.gaps_hide_nothing.Goals as goal

pub returns : goal.returns
returns c = record { missing = gaps-have-all; order = longest-first }
