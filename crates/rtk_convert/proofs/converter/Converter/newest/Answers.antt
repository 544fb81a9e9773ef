use Rattle.std.proofs.Common.{◌≡◌, ◌<◌, length, Some, refl, sym, subst, arith}
use Rattle.std.specs.Prelude.{slice_get}
use Rattle.std.proofs.lemmas.Option.{slice_get_read}
use Rattle.rtk_convert.specs.Converter.{ConverterView, RepresentsHistory}
use Rattle.rtk_convert.proofs.ConverterLemmas.{link-at}
use Rattle.rtk_convert.proofs.converter.Converter.newest.Goals as goal

pub returns : goal.returns
returns c = λ h r.
    let here = subst (λ (s : ConverterView). RepresentsHistory s h) (sym c.self.view_is) r in
    let within : c.args.link < length c.self.inside.links.items = subst (λ (s : ConverterView). c.args.link < length s.links) (sym c.self.view_is) c.requires in
    let there : slice_get c.self.inside.links.items c.args.link ≡ Some c.index.result.now = slice_get_read c.self.inside.links.items _ c.args.link c.index.result.now refl within c.index.ensures in
    (link-at c.args.link c.args.link 0 c.index.result.now c.self.inside.links.items h.links h.found here.links there (omega arith)).is.newest
