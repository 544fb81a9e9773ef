use Rattle.std.proofs.Common.{[], List, sym}
use Rattle.rtk_rinex.specs.Record.{EpochTableView}
use Rattle.rtk_tracking.specs.Epochs.{newest_first}
use Rattle.rtk_tracking.specs.Standing.{StandsForStepsBetween}
use Rattle.rtk_cut.specs.Cut.{kept_after}
use Rattle.rtk_cut.proofs.ExtentLemmas.{noted-none, noted-more, noted-all, extent-is}
use Rattle.rtk_cut.proofs.extent.extent_of_file.Goals as goal

pub loop-read-init : goal.loop-read-init
loop-read-init g c = λ epochs left. noted-none (g.F.EpochFile.AreLeft c.args.file) c.new-steps.result c.args.choice epochs left c.new-steps.ensures

pub loop-read-preserved : goal.loop-read-preserved
loop-read-preserved g c = λ epochs left.
    let all = kept_after c.args.choice [] epochs in
    noted-more (g.F.EpochFile.AreLeft c.loop-read.source) (g.F.EpochFile.AreLeft c.next.new.self) (g.F.EpochFile.IsRecordOf c.next.new.self c.in-Some.read)
    c.loop-read.steps c.note_if_chosen.new.steps c.args.choice all (c.loop-read.invariant epochs left) c.in-Some.ensures.next
    (λ earlier rest e is noted. c.in_ok-note_if_chosen.ensures earlier rest all e (sym (c.time-time.ensures e is)) noted)

pub returns : goal.returns
returns g c = λ epochs left.
    let all = kept_after c.args.choice [] epochs in
    let stands : StandsForStepsBetween c.loop-read.steps (newest_first all) =
    noted-all (g.F.EpochFile.AreLeft c.loop-read.source) c.loop-read.steps c.args.choice all (c.loop-read.invariant epochs left) c.in_default.ensures.next in
    extent-is c.interval-interval_ms.result c.last-last.result all (c.interval-interval_ms.ensures (newest_first all) stands) (c.last-last.ensures (newest_first all) stands)
