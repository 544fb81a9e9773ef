use Rattle.std.proofs.Common.{◌<◌, length, ap}
use mathlib.Core.Logic.{∥∥₁_map}
use Rattle.rtk_rinex.specs.Records.{RecordsView}
use Rattle.rtk_rinex.proofs.RecordsLemmas.{record-due, none-left, below, time-read, others-skipped, less-left}
use Rattle.rtk_rinex.proofs.records.Records.next_time.Goals as goal

pub skip_record-time-requires : goal.skip_record-time-requires
skip_record-time-requires c =
    ∥∥₁_map c.self.invariant.1 (λ left. (c.self.inside.code_count, record-due c.self.inside.code_count c.self.inside.rest.now left.0 left.1 c.if-self-eq0.false))

pub returns-then-self-eq0-clause-next : goal.returns-then-self-eq0-clause-next
returns-then-self-eq0-clause-next c = λ epochs left. none-left c.self.inside.code_count c.self.inside.rest.now epochs (rw (← c.self.view_is) at left) c.if-self-eq0.true

pub invariant_of-self : goal.invariant_of-self
invariant_of-self c =
    let skipped = c.skip_record-time in
    (c.self.invariant.0, ∥∥₁_map c.self.invariant.1 (others-skipped c.self.inside.code_count skipped.result.0 c.self.inside.rest.now skipped.result.1.now skipped.ensures c.if-self-eq0.false))

pub returns-clause-next : goal.returns-clause-next
returns-clause-next c =
    let skipped = c.skip_record-time in
    λ epochs left.
    time-read c.self.inside.code_count skipped.result.0 c.self.inside.rest.now skipped.result.1.now epochs skipped.ensures c.if-self-eq0.false (rw (← c.self.view_is) at left)

pub returns-clause-less : goal.returns-clause-less
returns-clause-less c =
    let skipped = c.skip_record-time in
    let less : length skipped.result.1.now < length c.self.inside.rest.now =
    below (length skipped.result.1.now) (length c.self.inside.rest.now) c.self.invariant.1
    (less-left c.self.inside.code_count skipped.result.0 c.self.inside.rest.now skipped.result.1.now skipped.ensures c.if-self-eq0.false) in
    rw (← ap (λ (v : RecordsView). v.text) c.self.view_is) less
