use Rattle.std.proofs.Common.{◌≡◌, ℕ, inl, inr, ◌⊎◌, length, Err, ap, subst, ◌∙◌}
use Rattle.std.proofs.lemmas.Result.{IfErr-weaker, IfOk-weaker, IfErr-at_err}
use Rattle.rtk_convert.specs.Converter.{FinishesConverterAs, BreaksOffClosing, BreaksOffFinishing}
use Rattle.rtk_convert.specs.declared.fault.ConvertFault.TheVariants.{Read as ReadFault, Endless}
use Rattle.rtk_convert.specs.Failure.{IsReadingFault}
use Rattle.rtk_convert.specs.Steps.ReadLink.{HasReadAll}
use Rattle.rtk_convert.specs.Run.{FailsReading, StaysOpen, BreaksOffReading}
use Rattle.rtk_setup.specs.Setup.{SetupView}
use Rattle.rtk_convert.specs.Writing.{written}
use Rattle.rtk_convert.proofs.HeadlineLemmas.{run-keeps}
use Rattle.rtk_convert.proofs.OutcomeLemmas.{failed-err}
use Rattle.rtk_convert.proofs.RunLemmas.{runs-as, breaks-ending, links-few, reading-run, frame-run}
use Rattle.rtk_convert.proofs.runs.run.Goals as goal

pub read_all-requires-clause-links : goal.read_all-requires-clause-links
read_all-requires-clause-links g c = (links-few (length c.args.sources.now) _ (λ e. cc) c.in_ok-converter.ensures.link_count.1).1

pub returns-in-Err-clause-link_count : goal.returns-in-Err-clause-link_count
returns-in-Err-clause-link_count g c = (
  λ is_setup few. IfErr-at_err IsReadingFault is_setup c.in-Err.ensures.fault,
  λ many. absurd (many (links-few (length c.args.sources.now) _ (λ e. cc) c.in_ok-converter.ensures.link_count.1)),
)

pub returns-in-Err-clause-fault : goal.returns-in-Err-clause-fault
returns-in-Err-clause-fault g c = reading-run c.in-Err.fault c.in-Err.ensures.fault

pub returns-in-Err-clause-breaks_off : goal.returns-in-Err-clause-breaks_off
returns-in-Err-clause-breaks_off g c = λ frame. inr (inl (
    subst (λ (s : SetupView). BreaksOffReading g.R.Source.given g.R.Source.calls s c.args.sources.now c.read_all.new.sources (written (g.O.Sink.taken c.args.out.now) (g.L.Sink.taken c.args.log.now)) (written (g.O.Sink.taken c.read_all.new.out) (g.L.Sink.taken c.read_all.new.log)))
    c.in_ok-converter.ensures.ok.same_setup (c.in-Err.ensures.ends.err frame)))

pub returns-in-Err-clause-read_failed : goal.returns-in-Err-clause-read_failed
returns-in-Err-clause-read_failed g c = λ link is_read.
    subst (λ (s : SetupView). FailsReading g.R.Source.given g.R.Source.failures g.R.Source.calls s link c.args.sources.now c.read_all.new.sources (written (g.O.Sink.taken c.args.out.now) (g.L.Sink.taken c.args.log.now)) (written (g.O.Sink.taken c.read_all.new.out) (g.L.Sink.taken c.read_all.new.log)))
    c.in_ok-converter.ensures.ok.same_setup (c.in-Err.ensures.read_failed link (let same : c.in-Err.fault ≡ ReadFault link = cc in ap Err same))

pub returns-in-Err-clause-endless : goal.returns-in-Err-clause-endless
returns-in-Err-clause-endless g c = λ is_endless.
    let both = c.in-Err.ensures.ends.endless (let same : c.in-Err.fault ≡ Endless = cc in ap Err same) in (
      subst (λ (s : SetupView). StaysOpen g.R.Source.given g.R.Source.is_at_end s c.args.max_reads c.args.sources.now c.read_all.new.sources (written (g.O.Sink.taken c.args.out.now) (g.L.Sink.taken c.args.log.now)) (written (g.O.Sink.taken c.read_all.new.out) (g.L.Sink.taken c.read_all.new.log)))
          c.in_ok-converter.ensures.ok.same_setup both.0,
      both.1,
    )

pub returns-clause-link_count : goal.returns-clause-link_count
returns-clause-link_count g c = (
  λ is_setup few. IfErr-at_err _ is_setup (c.finish.ensures.ends.fault c.in_default.ensures.ends.ok.represents.going),
  λ many. absurd (many (links-few (length c.args.sources.now) _ (λ e. cc) c.in_ok-converter.ensures.link_count.1)),
)

pub returns-clause-fault : goal.returns-clause-fault
returns-clause-fault g c = IfErr-weaker c.finish.result _ _ frame-run (c.finish.ensures.ends.fault c.in_default.ensures.ends.ok.represents.going)

pub returns-clause-kept : goal.returns-clause-kept
returns-clause-kept g c =
    let before = written (g.O.Sink.taken c.args.out.now) (g.L.Sink.taken c.args.log.now) in
    let mid = written (g.O.Sink.taken c.read_all.new.out) (g.L.Sink.taken c.read_all.new.log) in
    let after = written (g.O.Sink.taken c.finish.new.out) (g.L.Sink.taken c.finish.new.log) in
    let all : HasReadAll g.R.Source.given g.R.Source.calls g.R.Source.is_at_end c.args.setup c.args.sources.now c.read_all.new.sources c.read_all.new.converter before mid =
    subst (λ (s : SetupView). HasReadAll g.R.Source.given g.R.Source.calls g.R.Source.is_at_end s c.args.sources.now c.read_all.new.sources c.read_all.new.converter before mid)
    c.in_ok-converter.ensures.ok.same_setup c.in_default.ensures.ends.ok in
    IfOk-weaker c.finish.result _ _ (λ counts ends.
    let e = ends all.history all.represents in
    run-keeps g.R.Source.given g.R.Source.calls g.R.Source.is_at_end c.args.setup c.args.sources.now c.read_all.new.sources counts before after
    (runs-as g.R.Source.given g.R.Source.calls g.R.Source.is_at_end c.args.setup c.args.sources.now c.read_all.new.sources c.read_all.new.converter counts
    before mid after
    all e.0 (subst (λ (s : SetupView). FinishesConverterAs s all.history e.0 counts mid after) (c.read_all.ensures.same_setup ∙ c.in_ok-converter.ensures.ok.same_setup) e.1))) c.finish.ensures.ends.ok

pub returns-clause-headline : goal.returns-clause-headline
returns-clause-headline g c = IfOk-weaker c.finish.result _ _ (λ counts keeps. keeps.promise) (returns-clause-kept g c)

pub returns-clause-breaks_off : goal.returns-clause-breaks_off
returns-clause-breaks_off g c =
    let before = written (g.O.Sink.taken c.args.out.now) (g.L.Sink.taken c.args.log.now) in
    let mid = written (g.O.Sink.taken c.read_all.new.out) (g.L.Sink.taken c.read_all.new.log) in
    let after = written (g.O.Sink.taken c.finish.new.out) (g.L.Sink.taken c.finish.new.log) in
    let all : HasReadAll g.R.Source.given g.R.Source.calls g.R.Source.is_at_end c.args.setup c.args.sources.now c.read_all.new.sources c.read_all.new.converter before mid =
    subst (λ (s : SetupView). HasReadAll g.R.Source.given g.R.Source.calls g.R.Source.is_at_end s c.args.sources.now c.read_all.new.sources c.read_all.new.converter before mid)
    c.in_ok-converter.ensures.ok.same_setup c.in_default.ensures.ends.ok in
    IfErr-weaker c.finish.result _ _ (λ fault breaks frame.
    inr (inr (breaks-ending g.R.Source.given g.R.Source.calls g.R.Source.is_at_end c.args.setup c.args.sources.now c.read_all.new.sources c.read_all.new.converter
    before mid after
    all (subst (λ (s : SetupView). ((link : ℕ) × BreaksOffClosing s all.history link mid after) ⊎ BreaksOffFinishing s all.history mid after)
    (c.read_all.ensures.same_setup ∙ c.in_ok-converter.ensures.ok.same_setup) (breaks frame all.history all.represents))))) c.finish.ensures.ends.err

pub returns-clause-read_failed : goal.returns-clause-read_failed
returns-clause-read_failed g c = λ link is_read. absurd (IfErr-at_err _ is_read (c.finish.ensures.ends.fault c.in_default.ensures.ends.ok.represents.going))

pub returns-clause-endless : goal.returns-clause-endless
returns-clause-endless g c = λ is_endless. absurd (IfErr-at_err _ is_endless (c.finish.ensures.ends.fault c.in_default.ensures.ends.ok.represents.going))

pub returns-in-Err-clause-untouched : goal.returns-in-Err-clause-untouched
returns-in-Err-clause-untouched g c = λ is_setup. absurd (IfErr-at_err IsReadingFault is_setup c.in-Err.ensures.fault)

pub returns-clause-untouched : goal.returns-clause-untouched
returns-clause-untouched g c = λ is_setup. absurd (IfErr-at_err _ is_setup (c.finish.ensures.ends.fault c.in_default.ensures.ends.ok.represents.going))

pub returns-in-Err-clause-no_failed_read : goal.returns-in-Err-clause-no_failed_read
returns-in-Err-clause-no_failed_read g c = λ all. c.in-Err.ensures.no_failed_read (λ link is_read. all link (let same : c.in-Err.fault ≡ ReadFault link = cc in ap Err same))

pub returns-clause-no_failed_read : goal.returns-clause-no_failed_read
returns-clause-no_failed_read g c = λ all. c.in_default.ensures.no_failed_read (λ link e. cc)

pub returns-clause-failed : goal.returns-clause-failed
returns-clause-failed g c = rw (← c.in_default.ensures.failed.file_failed, ← c.in_default.ensures.failed.report_failed) c.finish.ensures.failed

pub returns-in-Err-clause-failed : goal.returns-in-Err-clause-failed
returns-in-Err-clause-failed g c = failed-err c.in-Err.ensures.failed
