use Rattle.std.proofs.Common.{refl}
use Rattle.rtk_compare.specs.declared.difference.Class.TheVariants.{Lost}
use Rattle.rtk_compare.specs.declared.difference.What.TheVariants.{Doppler}
use Rattle.rtk_compare.proofs.FindingLemmas.{told, told-at}
use Rattle.rtk_compare.proofs.headers.compare_shifts.Goals as goal

pub returns : goal.returns
returns c = told-at Lost Doppler _ c.header-place.ensures (told Lost Doppler c.header-place.result refl c.push_if.ensures)
