use Rattle.std.proofs.lemmas.List.{get_or_default}
use Rattle.rtk_compare.proofs.shared_codes.code_at.Goals as goal

pub returns : goal.returns
returns c = λ d. get_or_default c.args.listed.now c.args.place _ d c.requires
