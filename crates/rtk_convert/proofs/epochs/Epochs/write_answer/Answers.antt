use Rattle.std.proofs.Common.{rules, ◌≡◌, ◌∙◌, Option, None, Some, refl, sym, ap, subst}
use Rattle.std.specs.Prelude.{option_map}
use Rattle.std.proofs.lemmas.Result.{err_from_is_err_and}
use Rattle.rtk_obs.specs.declared.signal_cells.SignalEntry.{SignalEntry}
use Rattle.rtk_collect.specs.EpochSet.{EpochSetView}
use Rattle.rtk_convert.specs.Epochs.{outcome_of, set_of}
use Rattle.rtk_convert.specs.Steps.AddedMessage.{closed_by}
use Rattle.rtk_convert.specs.Steps.WrittenAnswer.{ClosesAbove}
use Rattle.rtk_convert.proofs.AddLemmas.{site-position}
use Rattle.rtk_convert.proofs.EpochsLemmas.{writes-lines, writes-record, writes-part}
use Rattle.rtk_convert.proofs.HandedLemmas.{out-frame, out-leaves-report, log-leaves-file}
use Rattle.rtk_convert.proofs.epochs.Epochs.write_answer.Goals as goal

pub returns-in_default-clause-writes : goal.returns-in_default-clause-writes
returns-in_default-clause-writes g c =
    let f = set_of g.E.FileEntry.signal_of in
    let none : closed_by (outcome_of g.E.FileEntry.signal_of c.args.offer) ≡ None = sym c.closed_by.ensures ∙ ap (option_map f) c.in_default.is in
    writes-lines c.write_lines.result refl none refl c.write_lines.ensures.puts c.write_lines.ensures.fault

pub returns-in_default-clause-failed : goal.returns-in_default-clause-failed
returns-in_default-clause-failed g c = record {
  file_failed = log-leaves-file c.write_lines.result refl c.write_lines.ensures.fault;
  report_failed = c.write_lines.ensures.report_failed;
}

pub close-requires : goal.close-requires
close-requires g c =
    let f = set_of g.E.FileEntry.signal_of in
    let some : closed_by (outcome_of g.E.FileEntry.signal_of c.args.offer) ≡ Some (f c.in-Some.set) = sym c.closed_by.ensures ∙ ap (option_map f) c.in-Some.is in
    (search rules, (c.requires.shows, subst (λ (x : Option (EpochSetView SignalEntry)). ClosesAbove c.self.inside.closed x) some (subst (λ (x : _). ClosesAbove x.closed (closed_by (outcome_of g.E.FileEntry.signal_of c.args.offer))) (sym c.self.view_is) c.requires.above)))

pub returns-in_err-close-clause-writes : goal.returns-in_err-close-clause-writes
returns-in_err-close-clause-writes g c =
    let f = set_of g.E.FileEntry.signal_of in
    let p = err_from_is_err_and c.from_residual.result c.from_residual.ensures.1 in
    let some : closed_by (outcome_of g.E.FileEntry.signal_of c.args.offer) ≡ Some (f c.in-Some.set) = sym c.closed_by.ensures ∙ ap (option_map f) c.in-Some.is in
    rw (p.1, p.2) (writes-part _ c.self.view_is some (site-position _ _ c.station-position.result c.station-position.ensures.position)
    (λ below h. (c.close.ensures.closes.puts below h).part) refl (out-frame _ c.in_err-close.ensures.failed.fault))

pub returns-in_err-close-clause-failed : goal.returns-in_err-close-clause-failed
returns-in_err-close-clause-failed g c =
    let p = err_from_is_err_and c.from_residual.result c.from_residual.ensures.1 in
    rw (p.1, p.2) (record { file_failed = c.in_err-close.ensures.failed.file_failed; report_failed = out-leaves-report _ _ c.in_err-close.ensures.failed.fault })

pub returns-clause-writes : goal.returns-clause-writes
returns-clause-writes g c =
    let f = set_of g.E.FileEntry.signal_of in
    let some : closed_by (outcome_of g.E.FileEntry.signal_of c.args.offer) ≡ Some (f c.in-Some.set) = sym c.closed_by.ensures ∙ ap (option_map f) c.in-Some.is in
    rw c.hand_back.ensures (writes-record c.write_lines-2.result c.self.view_is some (site-position _ _ c.station-position.result c.station-position.ensures.position)
    c.in_ok-close.ensures.closes.follows (λ below h. (c.in_ok-close.ensures.closes.puts below h).all) (λ below h. (c.in_ok-close.ensures.closes.puts below h).part) c.in_ok-close.ensures.closes.later
    c.write_lines-2.ensures.puts c.write_lines-2.ensures.fault)

pub returns-clause-failed : goal.returns-clause-failed
returns-clause-failed g c = record {
  file_failed = log-leaves-file c.write_lines-2.result c.in_ok-close.ensures.failed.file_failed c.write_lines-2.ensures.fault;
  report_failed = c.write_lines-2.ensures.report_failed;
}
