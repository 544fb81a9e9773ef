use Rattle.rtk_convert.proofs.CountLemmas.{each-in-one}
use Rattle.rtk_convert.proofs.laws.each_frame_in_one_class.Goals as goal

pub returns : goal.returns
returns c = each-in-one
