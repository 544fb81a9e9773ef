use Rattle.std.proofs.Common.{◌≡◌, length, sym, subst, ◌∙◌, arith}
use Rattle.std.proofs.lemmas.Grind.{common_steps}
use Rattle.rtk_convert.specs.Converter.{ConverterView, RepresentsHistory}
use Rattle.rtk_convert.proofs.ConverterLemmas.{are-many}
use Rattle.rtk_convert.proofs.converter.Converter.links.Goals as goal

pub returns-clause-of_history : goal.returns-clause-of_history
returns-clause-of_history c =
    let as_many : c.len.result ≡ length c.self.inside.links.items = grind (arith, common_steps, c.len.ensures) in
    λ h r. as_many ∙ are-many c.self.inside.links.items h.links 0 h.found (subst (λ (s : ConverterView). RepresentsHistory s h) (sym c.self.view_is) r).links
