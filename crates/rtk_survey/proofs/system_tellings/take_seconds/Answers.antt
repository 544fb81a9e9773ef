use Rattle.std.proofs.Common.{rules, ◌≡◌, ℕ, Option, Some, refl, sym, subst, ap, ◌∙◌}
use Rattle.std.specs.BTreeMap.{BTreeMap, get}
use Rattle.std.specs.BTreeMap.Entry.{map_with_value}
use Rattle.std.specs.Option.{unwrap_or}
use Rattle.std.specs.Ordering.{nat_cmp}
use Rattle.rtk_survey.specs.SystemTellings.{widened, leap_with}
use Rattle.rtk_survey.specs.declared.system_tellings.LeapRange.{LeapRange}
use Rattle.rtk_survey.proofs.SystemTellingLemmas.{first-range, put-range, other-ranges}
use Rattle.rtk_survey.proofs.system_tellings.take_seconds.Goals as goal

pub returns-clause-own : goal.returns-clause-own
returns-clause-own c =
    let after = c.widened.result in
    let m = map_with_value c.in_ok-ranges.field-0 after in
    let station = c.args.leap.station in
    let seconds = c.args.leap.seconds in
    let told : LeapRange = record { least = seconds; greatest = seconds } in
    let was = c.or_insert-range.ensures.value ∙ ap (λ (o : Option LeapRange). unwrap_or o told) c.in_ok-ranges.ensures.value in
    let e : c.ranges-3-1.given.0 ≡ m = search rules in
    subst (λ (x : BTreeMap ℕ LeapRange). get nat_cmp x station ≡ Some (leap_with (get nat_cmp c.args.ranges.now station) seconds)) (sym e)
    (put-range c.args.ranges.now m station after (c.in_ok-ranges.ensures.update.0 after)
    ∙ ap Some (c.widened.ensures ∙ ap (λ (r : LeapRange). widened r seconds) was ∙ first-range (get nat_cmp c.args.ranges.now station) seconds told refl))

pub returns-clause-others : goal.returns-clause-others
returns-clause-others c = λ n other.
    let after = c.widened.result in
    let m = map_with_value c.in_ok-ranges.field-0 after in
    let e : c.ranges-3-1.given.0 ≡ m = search rules in
    subst (λ (x : BTreeMap ℕ LeapRange). get nat_cmp x n ≡ get nat_cmp c.args.ranges.now n) (sym e)
    (other-ranges c.args.ranges.now m c.args.leap.station after (c.in_ok-ranges.ensures.update.0 after) n other)
