use Rattle.rtk_frame.proofs.FoundPlace.{found_in_piece, found_of_rest}
use Rattle.rtk_frame.proofs.laws.places_after_found.Goals as goal

pub returns : goal.returns
returns c = record { piece = found_in_piece; rest = found_of_rest }
