use Rattle.std.proofs.Common.{◌<◌, length, ap}
use mathlib.Core.Logic.{∥∥₁_map}
use Rattle.rtk_rinex.specs.MixedRecords.{MixedRecordsView}
use Rattle.rtk_rinex.proofs.RecordsLemmas.{below}
use Rattle.rtk_rinex.proofs.MixedRecordsLemmas.{record-due, none-left, next-read, others-left, less-left}
use Rattle.rtk_rinex.proofs.mixed_records.MixedRecords.next.Goals as goal

pub first_record-rows-requires : goal.first_record-rows-requires
first_record-rows-requires c = ∥∥₁_map c.self.invariant (record-due c.self.inside.form c.self.inside.rest.now c.if-self-eq0.false)

pub returns-then-self-eq0-clause-next : goal.returns-then-self-eq0-clause-next
returns-then-self-eq0-clause-next c = λ epochs left. none-left c.self.inside.form c.self.inside.rest.now epochs (rw (← c.self.view_is) at left) c.if-self-eq0.true

pub invariant_of-self : goal.invariant_of-self
invariant_of-self c =
    let read = c.first_record-rows in
    ∥∥₁_map c.self.invariant (others-left c.self.inside.form c.self.inside.rest.now read.result.1.now read.result.0 read.ensures.parts c.if-self-eq0.false)

pub returns-clause-next : goal.returns-clause-next
returns-clause-next c =
    let read = c.first_record-rows in
    λ epochs left.
    next-read c.self.inside.form c.self.inside.rest.now read.result.1.now read.result.0 epochs read.ensures.parts c.if-self-eq0.false (rw (← c.self.view_is) at left)

pub returns-clause-less : goal.returns-clause-less
returns-clause-less c =
    let read = c.first_record-rows in
    let less : length read.result.1.now < length c.self.inside.rest.now =
    below (length read.result.1.now) (length c.self.inside.rest.now) c.self.invariant
    (less-left c.self.inside.form c.self.inside.rest.now read.result.1.now read.result.0 read.ensures.parts c.if-self-eq0.false) in
    rw (← ap (λ (v : MixedRecordsView). v.text) c.self.view_is) less
