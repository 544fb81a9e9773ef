use Rattle.rtk_message.specs.FieldLaws.{fit-parts}
use Rattle.rtk_message.proofs.laws.parts_of_fields_fit.Goals as goal

pub returns : goal.returns
returns c = fit-parts
