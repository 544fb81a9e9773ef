use Rattle.std.proofs.Common.{◌≡◌, ◌≤◌, Bool, List, false, not, length, None, Some, refl, sym, subst}
use Rattle.std.specs.Prelude.{slice_get, Decides}
use Rattle.std.proofs.lemmas.Option.{slice_get_read}
use Rattle.rtk_convert.specs.Converter.{ConverterView, RepresentsHistory, link_refusal}
use Rattle.rtk_convert.specs.History.{IsOpen}
use Rattle.rtk_convert.specs.declared.link_state.LinkState.{LinkState}
use Rattle.rtk_convert.proofs.ConverterLemmas.{decides-open, decides-none, unrefused-some, unrefused-none}
use Rattle.rtk_convert.proofs.converter.Converter.is_open.Goals as goal

pub returns-in-Some-clause-of_history : goal.returns-in-Some-clause-of_history
returns-in-Some-clause-of_history c = λ h r.
    let here = subst (λ (s : ConverterView). RepresentsHistory s h) (sym c.self.view_is) r in
    let there : slice_get c.deref.result.now c.args.link ≡ Some c.in-Some.open.now =
    slice_get_read c.deref.result.now _ c.args.link c.in-Some.open.now refl c.in-Some.ensures.lookup.3.0 c.in-Some.ensures.lookup.1 in
    subst (λ (b : Bool). Decides (not b) (IsOpen h c.args.link)) (sym c.ended.ensures)
    (decides-open c.args.link c.in-Some.open.now c.self.inside.links.items h here.links (subst (λ (ls : List LinkState). slice_get ls c.args.link ≡ Some c.in-Some.open.now) c.deref.ensures.value there))

pub returns-in-None-clause-of_history : goal.returns-in-None-clause-of_history
returns-in-None-clause-of_history c = λ h r.
    let here = subst (λ (s : ConverterView). RepresentsHistory s h) (sym c.self.view_is) r in
    decides-none c.args.link c.self.inside.links.items h here.links (subst (λ (ls : List LinkState). length ls ≤ c.args.link) c.deref.ensures.value c.in-None.ensures.lookup.3)

pub returns-in-Some-clause-unrefused : goal.returns-in-Some-clause-unrefused
returns-in-Some-clause-unrefused c =
    let there : slice_get c.deref.result.now c.args.link ≡ Some c.in-Some.open.now =
    slice_get_read c.deref.result.now _ c.args.link c.in-Some.open.now refl c.in-Some.ensures.lookup.3.0 c.in-Some.ensures.lookup.1 in
    let inside = subst (λ (ls : List LinkState). slice_get ls c.args.link ≡ Some c.in-Some.open.now) c.deref.ensures.value there in
    subst (λ (b : Bool). Decides (not b) (link_refusal (slice_get c.args.self.now.links c.args.link) ≡ None)) (sym c.ended.ensures)
    (subst (λ (s : ConverterView). Decides (not c.in-Some.open.now.scanner.ended) (link_refusal (slice_get s.links c.args.link) ≡ None)) c.self.view_is
    (unrefused-some c.self.inside.links.items c.args.link c.in-Some.open.now inside))

pub returns-in-None-clause-unrefused : goal.returns-in-None-clause-unrefused
returns-in-None-clause-unrefused c =
    subst (λ (s : ConverterView). Decides false (link_refusal (slice_get s.links c.args.link) ≡ None)) c.self.view_is
    (unrefused-none c.self.inside.links.items c.args.link (subst (λ (ls : List LinkState). length ls ≤ c.args.link) c.deref.ensures.value c.in-None.ensures.lookup.3))
