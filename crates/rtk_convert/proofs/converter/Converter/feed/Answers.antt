use Rattle.std.proofs.Common.{◌≡◌, None, Some, refl, sym, subst}
use Rattle.std.specs.Prelude.{slice_get}
use Rattle.std.proofs.lemmas.Option.{slice_get_read}
use Rattle.rtk_convert.specs.Converter.{ConverterView, IsConverterView, refusal}
use Rattle.rtk_convert.proofs.BoundsLemmas.{bounded-before, refused-feeds, refused-leaves, feeds-link, leaves-link, takes-as}
use Rattle.rtk_convert.proofs.ConverterLemmas.{converter, accepted, accepted-within}
use Rattle.rtk_convert.proofs.converter.Converter.feed.Goals as goal

pub returns-in-Some-clause-feeds : goal.returns-in-Some-clause-feeds
returns-in-Some-clause-feeds g c = refused-feeds (sym c.in-Some.ensures)

pub returns-in-Some-clause-leaves : goal.returns-in-Some-clause-leaves
returns-in-Some-clause-leaves g c =
    refused-leaves (sym c.in-Some.ensures)
    (bounded-before c.args.self.now (subst IsConverterView c.self.view_is (record { few = c.self.invariant.1.few; short = c.self.invariant.1.short; epochs = c.self.invariant.1.epochs; held = c.self.invariant.1.held })))

pub returns-clause-feeds : goal.returns-clause-feeds
returns-clause-feeds g c =
    let none : refusal (converter c.self.inside.conversion c.self.inside.links.items) c.args.link ≡ None =
    subst (λ (s : ConverterView). refusal s c.args.link ≡ None) (sym c.self.view_is) (sym c.in_default.ensures) in
    let there : slice_get c.self.inside.links.items c.args.link ≡ Some c.index_mut.result.now =
    slice_get_read c.self.inside.links.items _ c.args.link c.index_mut.result.now refl (accepted-within (converter c.self.inside.conversion c.self.inside.links.items) c.args.link none) c.index_mut.ensures.value in
    let unended = (accepted (converter c.self.inside.conversion c.self.inside.links.items) c.args.link none).is_open c.index_mut.result.now there in
    feeds-link c.feed.new.self c.feed.result c.self.view_is there unended c.feed.ensures.is_open c.feed.ensures.pending (takes-as c.new.ensures c.feed.ensures.takes)

pub returns-clause-leaves : goal.returns-clause-leaves
returns-clause-leaves g c = leaves-link c.feed.new.self c.feed.result c.self.view_is c.self.invariant.1.short c.self.invariant.1.held c.feed.ensures.short (takes-as c.new.ensures c.feed.ensures.takes)
