use Rattle.std.proofs.Common.{◌≤◌, refl, sym, ap, subst, ◌∙◌}
use Rattle.rtk_cut.specs.declared.part.Choice.{Choice}
use Rattle.rtk_cut.specs.Cut.{IsStepOrNone}
use Rattle.rtk_cut.specs.Steps.PartFile.{writing}
use Rattle.rtk_cut.specs.Steps.Pending.{StandsForNone}
use Rattle.rtk_cut.proofs.PartFileLemmas.{writing-same}
use Rattle.rtk_cut.proofs.WholeLemmas.{cut-none, cut-more, cut-broken, cut-all, cut-broken_end, counts-all, on_err-from}
use Rattle.rtk_cut.proofs.part_file.cut_file.Goals as goal

pub loop-read-init : goal.loop-read-init
loop-read-init g c =
    let w = c.new-writer.result in
    let fresh = c.new-writer.ensures in
    record {
      step = subst (λ (p : Choice). IsStepOrNone p.every) (sym fresh.of_choice) c.requires.step;
      near = subst (λ (p : Choice). p.near_ms ≤ 25) (sym fresh.of_choice) c.requires.near;
      so_far = λ epochs left.
          cut-none (g.F.EpochFile.AreLeft w.file) c.args.choice (g.F.EpochFile.texts c.args.file) epochs (writing g.F.EpochFile.texts g.F.EpochFile.marks w) w.counts (g.W.Sink.taken c.args.out.now)
          fresh.of_choice (ap g.F.EpochFile.texts fresh.of_file) (subst (λ x. StandsForNone (g.F.EpochFile.marks x)) (sym fresh.of_file) c.requires.marks) fresh.is_header_out fresh.records fresh.written
          (subst (λ x. g.F.EpochFile.AreLeft x epochs) (sym fresh.of_file) left);
      failures = refl;
    }

pub loop-read-preserved : goal.loop-read-preserved
loop-read-preserved g c =
    let i = c.loop-read.invariant in
    let w = c.loop-read.writer in
    let w_1 = record w { file = c.next.new.self } in
    let w_2 = c.write_next.new.self in
    let view = writing g.F.EpochFile.texts g.F.EpochFile.marks in
    record {
      step = subst (λ (p : Choice). IsStepOrNone p.every) (sym c.in_ok-write_next.ensures.same_choice) i.step;
      near = subst (λ (p : Choice). p.near_ms ≤ 25) (sym c.in_ok-write_next.ensures.same_choice) i.near;
      so_far = λ epochs left.
          cut-more (g.F.EpochFile.AreLeft w.file) (g.F.EpochFile.AreLeft c.next.new.self) (g.F.EpochFile.AreLeft w_2.file) (g.F.EpochFile.IsRecordOf c.next.new.self c.in-Some.read)
          c.args.choice (g.F.EpochFile.texts c.args.file) epochs (view w) (view w_1) (view w_2) w.counts w_2.counts (g.W.Sink.taken c.args.out.now) (g.W.Sink.taken c.loop-read.out) (g.W.Sink.taken c.write_next.new.out)
          (i.so_far epochs left) c.in-Some.ensures.next c.in_ok-write_next.ensures.left
          (writing-same g.F.EpochFile.texts g.F.EpochFile.marks w c.next.new.self c.in-Some.ensures.texts c.in-Some.ensures.marks)
          c.in_ok-write_next.ensures.same_choice c.in_ok-write_next.ensures.texts c.in_ok-write_next.ensures.records c.in_ok-write_next.ensures.written c.in_ok-write_next.ensures.all;
      failures = c.in_ok-write_next.ensures.no_failed_write (λ is. cc) ∙ i.failures;
    }

pub returns-in_err-write_next-clause-part : goal.returns-in_err-write_next-clause-part
returns-in_err-write_next-clause-part g c =
    let i = c.loop-read.invariant in
    let w = c.loop-read.writer in
    let w_1 = record w { file = c.next.new.self } in
    let view = writing g.F.EpochFile.texts g.F.EpochFile.marks in
    on_err-from c.from_residual.result (λ epochs left.
    cut-broken (g.F.EpochFile.AreLeft w.file) (g.F.EpochFile.AreLeft c.next.new.self) (g.F.EpochFile.IsRecordOf c.next.new.self c.in-Some.read)
    c.args.choice (g.F.EpochFile.texts c.args.file) epochs (view w) (view w_1) w.counts (g.W.Sink.taken c.args.out.now) (g.W.Sink.taken c.loop-read.out) (g.W.Sink.taken c.write_next.new.out)
    (i.so_far epochs left) c.in-Some.ensures.next
    (writing-same g.F.EpochFile.texts g.F.EpochFile.marks w c.next.new.self c.in-Some.ensures.texts c.in-Some.ensures.marks)
    c.write_next.ensures.part)

pub returns-clause-all : goal.returns-clause-all
returns-clause-all g c = λ epochs left.
    let w = c.loop-read.writer in
    let w_1 = record w { file = c.next.new.self } in
    let view = writing g.F.EpochFile.texts g.F.EpochFile.marks in
    cut-all (g.F.EpochFile.AreLeft w.file) c.args.choice (g.F.EpochFile.texts c.args.file) epochs (view w) (view w_1) w.counts (g.W.Sink.taken c.args.out.now) (g.W.Sink.taken c.loop-read.out) (g.W.Sink.taken c.write_end.new.out)
    (c.loop-read.invariant.so_far epochs left) c.in_default.ensures.next
    (writing-same g.F.EpochFile.texts g.F.EpochFile.marks w c.next.new.self c.in_default.ensures.texts c.in_default.ensures.marks) c.in_ok-write_end.ensures.all

pub returns-clause-counts : goal.returns-clause-counts
returns-clause-counts g c = λ epochs left.
    let w = c.loop-read.writer in
    counts-all (g.F.EpochFile.AreLeft w.file) c.args.choice (g.F.EpochFile.texts c.args.file) epochs (writing g.F.EpochFile.texts g.F.EpochFile.marks w) w.counts (g.W.Sink.taken c.args.out.now) (g.W.Sink.taken c.loop-read.out)
    (c.loop-read.invariant.so_far epochs left) c.in_default.ensures.next

pub returns-in_err-write_end-clause-part : goal.returns-in_err-write_end-clause-part
returns-in_err-write_end-clause-part g c =
    let w = c.loop-read.writer in
    let w_1 = record w { file = c.next.new.self } in
    let view = writing g.F.EpochFile.texts g.F.EpochFile.marks in
    on_err-from c.from_residual-in_err-write_end.result (λ epochs left.
    cut-broken_end (g.F.EpochFile.AreLeft w.file) c.args.choice (g.F.EpochFile.texts c.args.file) epochs (view w) (view w_1) w.counts (g.W.Sink.taken c.args.out.now) (g.W.Sink.taken c.loop-read.out) (g.W.Sink.taken c.write_end.new.out)
    (c.loop-read.invariant.so_far epochs left) c.in_default.ensures.next
    (writing-same g.F.EpochFile.texts g.F.EpochFile.marks w c.next.new.self c.in_default.ensures.texts c.in_default.ensures.marks) c.write_end.ensures.part)
