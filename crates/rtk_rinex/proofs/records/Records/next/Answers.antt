use Rattle.std.proofs.Common.{◌∙◌, ◌<◌, length, ap}
use mathlib.Core.Logic.{∥∥₁_map}
use Rattle.rtk_rinex.specs.Record.{record_text}
use Rattle.rtk_rinex.specs.Records.{RecordsView}
use Rattle.rtk_rinex.proofs.RecordsLemmas.{record-due, next-read, others-left, none-left, front-is, record-some}
use Rattle.rtk_rinex.proofs.records.Records.next.Goals as goal

pub read_record-rest-requires-clause-record : goal.read_record-rest-requires-clause-record
read_record-rest-requires-clause-record c =
    ∥∥₁_map c.self.invariant.1 (λ left. record-due c.self.inside.code_count c.self.inside.rest.now left.0 left.1 c.if-self-eq0.false)

pub returns-then-self-eq0-clause-next : goal.returns-then-self-eq0-clause-next
returns-then-self-eq0-clause-next c = λ epochs left. none-left c.self.inside.code_count c.self.inside.rest.now epochs (rw (← c.self.view_is) at left) c.if-self-eq0.true

pub invariant_of-self : goal.invariant_of-self
invariant_of-self c =
    let read = c.read_record-rest in
    let n = c.self.inside.code_count in
    (c.self.invariant.0, ∥∥₁_map c.self.invariant.1 (others-left n c.self.inside.rest.now read.result.now read.new.epoch c.self.invariant.0 read.ensures.epoch read.ensures.text))

pub returns-clause-next : goal.returns-clause-next
returns-clause-next c =
    let read = c.read_record-rest in
    let text = c.split_at.ensures.front ∙ front-is c.self.inside.rest.now (record_text read.new.epoch) read.result.now read.ensures.text in
    λ epochs left.
    next-read c.self.inside.code_count c.self.inside.rest.now read.result.now c.split_at.result.0.now read.new.epoch epochs c.self.invariant.0 read.ensures.epoch read.ensures.text text
    (rw (← c.self.view_is) at left)

pub returns-clause-less : goal.returns-clause-less
returns-clause-less c =
    let read = c.read_record-rest in
    let less : length read.result.now < length c.self.inside.rest.now =
    record-some c.self.inside.code_count read.new.epoch c.self.inside.rest.now read.result.now read.ensures.epoch read.ensures.text in
    rw (← ap (λ (v : RecordsView). v.text) c.self.view_is) less
