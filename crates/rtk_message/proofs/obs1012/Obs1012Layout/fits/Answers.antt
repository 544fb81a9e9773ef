use Rattle.std.proofs.Common.{rules}
use Rattle.rtk_message.proofs.obs1012.Obs1012Layout.fits.Goals as goal

pub returns : goal.returns
returns c = search rules depth 5 fits 300
