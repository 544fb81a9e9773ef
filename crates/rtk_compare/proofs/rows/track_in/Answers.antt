use Rattle.std.proofs.lemmas.List.{get_or_default}
use Rattle.rtk_compare.proofs.rows.track_in.Goals as goal

pub returns : goal.returns
returns c = λ d. get_or_default c.args.tracks.now c.args.place _ d c.requires
