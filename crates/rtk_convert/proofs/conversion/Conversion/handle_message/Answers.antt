use Rattle.std.proofs.Common.{◌∙◌, ℕ, Bool, Option, refl, sym, ap, subst, arith}
use Rattle.std.specs.Prelude.{is_some, ◌||◌}
use Rattle.std.proofs.lemmas.Result.{err_from_is_err_and}
use Rattle.rtk_message.specs.AnyDecoded.{number_of}
use Rattle.rtk_message.specs.declared.system.System.{System}
use Rattle.rtk_collect.specs.Arrival.{message_of}
use Rattle.rtk_convert.specs.Conversion.{ConversionView}
use Rattle.rtk_convert.specs.Report.{brings_sbas}
use Rattle.rtk_convert.specs.Systems.{has_system}
use Rattle.rtk_convert.specs.Steps.AddedMessage.{IsTakenBy}
use Rattle.rtk_convert.specs.Steps.OfferLines.{class_named}
use Rattle.rtk_convert.specs.Steps.ReadMessage.{brings_by, sbas_by}
use Rattle.rtk_convert.proofs.BringsLemmas.{message-adds}
use Rattle.rtk_convert.proofs.OutcomeLemmas.{stays-seen, ahead-seen, failed-err, message-ok, message-err}
use Rattle.rtk_convert.proofs.conversion.Conversion.handle_message.Goals as goal

pub add-requires : goal.add-requires
add-requires g c = record {
  taken = subst (λ (x : ConversionView). IsTakenBy x.setup (message_of c.args.dated)) (sym c.self.view_is) c.requires.taken;
  form = c.self.invariant.1;
  places = c.self.invariant.2.places;
  ahead = ahead-seen c.self.view_is c.requires.under_way;
}

pub returns-clause-handles : goal.returns-clause-handles
returns-clause-handles g c =
    let a = c.args.dated in
    let class = class_named c.in_ok-class.class in
    let setup = c.self.inside.setup in
    let old = c.self.inside.remarks.systems in
    let systems = λ (system : System). c.put_sbas.ensures system
    ∙ ap (λ (b : Bool). sbas_by b class system || has_system c.put_system.new.systems system) c.brings_sbas-sbas.ensures
    ∙ ap (λ (b : Bool). sbas_by (brings_sbas setup (message_of a)) class system || b) (
    c.put_system.ensures system
    ∙ ap (λ (n : ℕ). brings_by n c.epoch-epoch.result class system || has_system old system) c.number-number.ensures
    ∙ ap (λ (e : Option ℕ). brings_by (number_of (message_of a)) e class system || has_system old system) c.epoch-epoch.ensures.value) in
    message-ok c.self.view_is (message-adds c.in_ok-class.class (sym (ap is_some c.epoch-epoch.ensures.value) ∙ c.epoch-epoch.ensures.has_epoch) c.in_ok-class.ensures.adds.ok c.count_message.ensures systems refl refl)

pub returns-in_err-class-clause-handles : goal.returns-in_err-class-clause-handles
returns-in_err-class-clause-handles g c =
    let p = err_from_is_err_and c.from_residual.result c.from_residual.ensures.1 in
    rw (p.1, p.2) (message-err _ c.self.view_is c.in_err-class.ensures.adds.fault c.in_err-class.ensures.adds.err)

pub returns-clause-stays : goal.returns-clause-stays
returns-clause-stays g c =
    let s = c.in_ok-class.ensures.stays in
    stays-seen c.self.view_is c.requires.under_way (record { same_setup = refl; few = omega (arith, s.few, s.places, c.self.invariant.2.places); held = s.held }) refl s.ahead

pub returns-in_err-class-clause-stays : goal.returns-in_err-class-clause-stays
returns-in_err-class-clause-stays g c =
    let p = err_from_is_err_and c.from_residual.result c.from_residual.ensures.1 in
    let s = c.in_err-class.ensures.stays in
    rw (p.1, p.2) (stays-seen c.self.view_is c.requires.under_way (record { same_setup = refl; few = omega (arith, s.few, s.places, c.self.invariant.2.places); held = s.held }) refl tt)

pub returns-in_err-class-clause-failed : goal.returns-in_err-class-clause-failed
returns-in_err-class-clause-failed g c =
    let p = err_from_is_err_and c.from_residual.result c.from_residual.ensures.1 in
    rw (p.1, p.2) (failed-err c.in_err-class.ensures.failed)
