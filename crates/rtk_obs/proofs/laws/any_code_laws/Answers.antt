use Rattle.rtk_obs.proofs.AnyCodeLemmas.{place_below, same_number, same_place, same_text, reads_back}
use Rattle.rtk_obs.proofs.EqualityLemmas.{any_code_same}
use Rattle.rtk_obs.proofs.laws.any_code_laws.Goals as goal

pub returns : goal.returns
returns c = record { texts = same_text; reads_back = reads_back; bound = place_below; places = same_place; numbers = same_number; equality = any_code_same }
