use Rattle.std.proofs.Common.{rules, ◌≡◌, ℕ, Option, sym, subst, ap, ◌∙◌}
use Rattle.std.specs.BTreeMap.{BTreeMap, get}
use Rattle.std.specs.BTreeMap.Entry.{map_with_value}
use Rattle.std.specs.Option.{unwrap_or}
use Rattle.std.specs.Ordering.{nat_cmp}
use Rattle.rtk_survey.specs.StationClocks.{with_followed_time, clocks_by_station}
use Rattle.rtk_survey.specs.declared.station_clocks.StationClocks.{StationClocks}
use Rattle.rtk_survey.proofs.StationClockLemmas.{put-clocks, other-clocks}
use Rattle.rtk_survey.proofs.station_clocks.take_followed_time.Goals as goal

pub returns-clause-own : goal.returns-clause-own
returns-clause-own c =
    let after = c.take.new.self in
    let m = map_with_value c.in_ok-clocks.field-0 after in
    let station = c.args.station in
    let was = c.or_insert-own.ensures.value ∙ ap (λ (o : Option StationClocks). unwrap_or o c.new.result) c.in_ok-clocks.ensures.value
    ∙ ap (λ (s : StationClocks). unwrap_or (get nat_cmp c.args.clocks.now station) s) c.new.ensures in
    let e : c.clocks-3-1.given.0 ≡ m = search rules in
    subst (λ (x : BTreeMap ℕ StationClocks). clocks_by_station x station ≡ with_followed_time c.args.marks.now c.args.told (clocks_by_station c.args.clocks.now station)) (sym e)
    (put-clocks c.args.clocks.now m station after (c.in_ok-clocks.ensures.update.0 after)
    ∙ c.take.ensures ∙ ap (λ (s : StationClocks). with_followed_time c.args.marks.now c.args.told s) was)

pub returns-clause-others : goal.returns-clause-others
returns-clause-others c = λ n other.
    let after = c.take.new.self in
    let m = map_with_value c.in_ok-clocks.field-0 after in
    let e : c.clocks-3-1.given.0 ≡ m = search rules in
    subst (λ (x : BTreeMap ℕ StationClocks). clocks_by_station x n ≡ clocks_by_station c.args.clocks.now n) (sym e)
    (other-clocks c.args.clocks.now m c.args.station after (c.in_ok-clocks.ensures.update.0 after) n other)
