use Rattle.std.proofs.Common.{ap, ◌∙◌, sym}
use Rattle.rtk_obs.specs.Carriers.{channel_at}
use Rattle.rtk_setup.specs.Setup.{channels_of}
use Rattle.rtk_setup.proofs.setup.channels_of.Goals as goal

pub returns-in-None : goal.returns-in-None
returns-in-None c = λ slot. c.new.ensures slot ∙ ap (λ g. channel_at (channels_of g) slot) (sym c.in-None.is ∙ c.glonass.ensures.value)
