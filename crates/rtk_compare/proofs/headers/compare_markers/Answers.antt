use Rattle.std.proofs.Common.{Bool, not, ap}
use Rattle.rtk_compare.specs.declared.difference.Class.TheVariants.{Changed}
use Rattle.rtk_compare.specs.declared.difference.What.TheVariants.{Marker}
use Rattle.rtk_compare.proofs.FindingLemmas.{told, told-at}
use Rattle.rtk_compare.proofs.headers.compare_markers.Goals as goal

pub returns : goal.returns
returns c = told-at Changed Marker _ c.header-place.ensures (told Changed Marker c.header-place.result (ap (λ (b : Bool). not b) c.is_same_text-is_same.ensures) c.push_if.ensures)
