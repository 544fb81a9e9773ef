use Rattle.std.proofs.Common.{◌∙◌, ◌<◌, length, arith}
use Rattle.rtk_survey.proofs.SystemPhaseLemmas.{count-own, table-more, table-passed}
use Rattle.rtk_survey.proofs.system_phases.take_entry.Goals as goal

pub returns-then-place-len : goal.returns-then-place-len
returns-then-place-len c = λ es stands.
    let place = c.place_of_phase-place.ensures in
    let known = c.args.table.now.ok.0 in
    let within : c.place_of_phase-place.result < length c.args.table.now.items = omega (arith, known, c.if-place-len.true) in
    table-more c.args.table.now.items c.args.entry.now es c.place_of_phase-place.result c.take.new.self place within stands
    (count-own c.place_of_phase-place.result c.args.entry.now es c.index_mut.result.now c.take.new.self.has_value c.take.new.self.phases place
    (c.index_mut.ensures.value ∙ stands.counts c.place_of_phase-place.result c.index_mut.result.now within) c.take.ensures.has_value c.take.ensures.phases)

pub returns-else-place-len : goal.returns-else-place-len
returns-else-place-len c = λ es stands.
    let known = c.args.table.now.ok.0 in
    table-passed c.args.table.now.items c.args.entry.now es c.place_of_phase-place.result c.place_of_phase-place.ensures
    (λ lt. omega (arith, lt, known, c.if-place-len.false)) stands
