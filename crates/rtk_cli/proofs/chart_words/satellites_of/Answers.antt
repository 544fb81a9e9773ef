use Rattle.rtk_obs.specs.SatelliteIndex.{IsSatelliteIndex}
use Rattle.rtk_cli.proofs.NameListLemmas.{no-short, no-stranger, no-other}
use Rattle.rtk_cli.proofs.SatelliteListLemmas.{satellites-naming, next-satellite}
use Rattle.rtk_cli.proofs.chart_words.satellites_of.Goals as goal

pub returns-in_default : goal.returns-in_default
returns-in_default c = λ listed lists.
    no-short IsSatelliteIndex satellites-naming c.loop-name.rest.now c.in_default.ensures.cases
    (next-satellite c.args.text.now c.loop-name.satellites.items listed c.loop-name.rest.now c.loop-name.invariant.so_far lists)

pub returns-in_default-satellite_named : goal.returns-in_default-satellite_named
returns-in_default-satellite_named c = λ listed lists.
    no-stranger IsSatelliteIndex satellites-naming c.loop-name.rest.now c.in-Some.name.now c.in-Some.ensures.cases.0 c.in_default-satellite_named.ensures
    (next-satellite c.args.text.now c.loop-name.satellites.items listed c.loop-name.rest.now c.loop-name.invariant.so_far lists)

pub returns-then-comma-ne44 : goal.returns-then-comma-ne44
returns-then-comma-ne44 c = λ listed lists.
    no-other IsSatelliteIndex satellites-naming c.loop-name.rest.now c.in-Some.tail.now c.in-Some-split_first.next.now c.in-Some-split_first.comma.now
    c.in-Some.ensures.cases.1 c.in-Some-split_first.ensures.cases.0 c.if-comma-ne44.true
    (next-satellite c.args.text.now c.loop-name.satellites.items listed c.loop-name.rest.now c.loop-name.invariant.so_far lists)
