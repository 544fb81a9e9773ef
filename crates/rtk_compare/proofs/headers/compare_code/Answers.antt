use Rattle.std.proofs.Common.{Bool, not, ap}
use Rattle.rtk_compare.specs.declared.difference.Class.TheVariants.{Lost}
use Rattle.rtk_compare.specs.declared.difference.What.TheVariants.{Code}
use Rattle.rtk_compare.proofs.FindingLemmas.{told, told-at}
use Rattle.rtk_compare.proofs.headers.compare_code.Goals as goal

pub returns : goal.returns
returns c = told-at Lost Code _ c.of_code-place.ensures (told Lost Code c.of_code-place.result (ap (λ (b : Bool). not b) c.is_listed-is_listed.ensures) c.push_if.ensures)
