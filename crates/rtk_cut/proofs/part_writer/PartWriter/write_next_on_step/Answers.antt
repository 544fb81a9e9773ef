use Rattle.std.proofs.Common.{◌≡◌, ◌+◌, ◌&&◌, ℕ, true, false, ◌∷◌, sym, ap, ◌∙◌, arith}
use Rattle.rtk_frame.specs.Stream.{with_more}
use Rattle.rtk_rinex.specs.Record.{EpochTableView}
use Rattle.rtk_tracking.specs.Epochs.{capped}
use Rattle.rtk_cut.specs.Cut.{step_of, is_at_or_after, is_earlier_than, is_chosen, cut_epoch}
use Rattle.rtk_cut.specs.Steps.FileTexts.{FileTexts}
use Rattle.rtk_cut.specs.Steps.PartFile.{still_to_write}
use Rattle.rtk_cut.specs.Steps.PartRecords.{after_header}
use Rattle.rtk_cut.proofs.PartFileLemmas.{count-outside, count-in, writes-nothing, part-longer, left-outside, left-in}
use Rattle.rtk_cut.proofs.part_writer.PartWriter.write_next_on_step.Goals as goal

pub returns-then-not-spans-clause-all : goal.returns-then-not-spans-clause-all
returns-then-not-spans-clause-all g c = λ e is earlier left stands.
    let s = c.args.self.now in
    let f = g.F.EpochFile.texts s.file in
    let on = c.requires.on e is in
    let outside : is_chosen s.choice e ≡ false =
    sym (c.spans.ensures ∙ ap (λ (n : ℕ). is_at_or_after s.choice.from (n + s.choice.near_ms) && is_earlier_than s.choice.until (n + s.choice.near_ms)) (c.time.ensures e (c.show-is_changed.ensures.own e is))) ∙ c.if-not-spans.true in (
      c.show-is_changed.ensures.slips e is (step_of s.choice) earlier on stands,
      writes-nothing (g.W.Sink.taken c.args.out.now) (still_to_write s.choice f s.is_header_out earlier (e ∷ left)) (still_to_write s.choice f s.is_header_out (e ∷ earlier) left)
          (left-outside s.choice f s.is_header_out earlier e left on outside),
    )

pub returns-in_err-put_record-clause-part : goal.returns-in_err-put_record-clause-part
returns-in_err-put_record-clause-part g c = λ e is earlier left stands.
    let s = c.args.self.now in
    let f : FileTexts = g.F.EpochFile.texts s.file in
    let on = c.requires.on e is in
    let own = c.show-is_changed.ensures.own e is in
    let spans : is_chosen s.choice e ≡ true =
    sym (c.spans.ensures ∙ ap (λ (n : ℕ). is_at_or_after s.choice.from (n + s.choice.near_ms) && is_earlier_than s.choice.until (n + s.choice.near_ms)) (c.time.ensures e own)) ∙ c.if-not-spans.false in
    let step = step_of s.choice in
    let shown : EpochTableView = cut_epoch step earlier e in
    part-longer (g.W.Sink.taken c.args.out.now) (g.W.Sink.taken c.put_record.new.out) (after_header s.is_header_out f e.time (f.record_of shown)) (still_to_write s.choice f true (e ∷ earlier) left)
    (still_to_write s.choice f s.is_header_out earlier (e ∷ left)) (left-in s.choice f s.is_header_out earlier e left on spans)
    (rw c.show-is_changed.ensures.texts at (c.put_record.ensures.part e shown own (c.show-is_changed.ensures.shown e is step earlier stands) (λ unchanged. sym (c.show-is_changed.ensures.same unchanged e is step earlier stands))))

pub returns-clause-all : goal.returns-clause-all
returns-clause-all g c = λ e is earlier left stands.
    let s = c.args.self.now in
    let f : FileTexts = g.F.EpochFile.texts s.file in
    let on = c.requires.on e is in
    let own = c.show-is_changed.ensures.own e is in
    let spans : is_chosen s.choice e ≡ true =
    sym (c.spans.ensures ∙ ap (λ (n : ℕ). is_at_or_after s.choice.from (n + s.choice.near_ms) && is_earlier_than s.choice.until (n + s.choice.near_ms)) (c.time.ensures e own)) ∙ c.if-not-spans.false in
    let step = step_of s.choice in
    let shown : EpochTableView = cut_epoch step earlier e in (
      c.show-is_changed.ensures.slips e is step earlier on stands,
      (
        after_header s.is_header_out f e.time (f.record_of shown),
        left-in s.choice f s.is_header_out earlier e left on spans,
        c.in_ok-put_record.ensures.all e shown own (c.show-is_changed.ensures.shown e is step earlier stands) (λ unchanged. sym (c.show-is_changed.ensures.same unchanged e is step earlier stands))
            ∙ ap (λ (t : FileTexts). with_more (g.W.Sink.taken c.args.out.now) (after_header s.is_header_out t e.time (t.record_of shown))) c.show-is_changed.ensures.texts,
      ),
    )

pub returns-clause-part : goal.returns-clause-part
returns-clause-part g c = λ e is earlier left stands.
    let s = c.args.self.now in
    let f : FileTexts = g.F.EpochFile.texts s.file in
    let on = c.requires.on e is in
    let own = c.show-is_changed.ensures.own e is in
    let spans : is_chosen s.choice e ≡ true =
    sym (c.spans.ensures ∙ ap (λ (n : ℕ). is_at_or_after s.choice.from (n + s.choice.near_ms) && is_earlier_than s.choice.until (n + s.choice.near_ms)) (c.time.ensures e own)) ∙ c.if-not-spans.false in
    let step = step_of s.choice in
    let shown : EpochTableView = cut_epoch step earlier e in
    part-longer (g.W.Sink.taken c.args.out.now) (g.W.Sink.taken c.put_record.new.out) (after_header s.is_header_out f e.time (f.record_of shown)) (still_to_write s.choice f true (e ∷ earlier) left)
    (still_to_write s.choice f s.is_header_out earlier (e ∷ left)) (left-in s.choice f s.is_header_out earlier e left on spans)
    (rw c.show-is_changed.ensures.texts at (c.put_record.ensures.part e shown own (c.show-is_changed.ensures.shown e is step earlier stands) (λ unchanged. sym (c.show-is_changed.ensures.same unchanged e is step earlier stands))))

pub returns-then-not-spans-clause-written : goal.returns-then-not-spans-clause-written
returns-then-not-spans-clause-written g c = λ e is earlier left n was.
    let s = c.args.self.now in
    let outside : is_chosen s.choice e ≡ false =
    sym (c.spans.ensures ∙ ap (λ (n : ℕ). is_at_or_after s.choice.from (n + s.choice.near_ms) && is_earlier_than s.choice.until (n + s.choice.near_ms)) (c.time.ensures e (c.show-is_changed.ensures.own e is))) ∙ c.if-not-spans.true in
    (0, was ∙ ap capped (omega arith), count-outside s.choice earlier e left (c.requires.on e is) outside)

pub returns-clause-written : goal.returns-clause-written
returns-clause-written g c = λ e is earlier left n was.
    let s = c.args.self.now in
    let inside : is_chosen s.choice e ≡ true =
    sym (c.spans.ensures ∙ ap (λ (n : ℕ). is_at_or_after s.choice.from (n + s.choice.near_ms) && is_earlier_than s.choice.until (n + s.choice.near_ms)) (c.time.ensures e (c.show-is_changed.ensures.own e is))) ∙ c.if-not-spans.false in
    (1, c.one_more-self.ensures n was, count-in s.choice earlier e left (c.requires.on e is) inside)
