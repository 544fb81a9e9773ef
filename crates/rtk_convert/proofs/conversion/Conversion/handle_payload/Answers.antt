use Rattle.std.proofs.Common.{ℕ, List, refl, ap, subst, ◌∙◌, arith}
use Rattle.std.proofs.lemmas.Result.{err_from_is_err_and}
use Rattle.rtk_frame.specs.Stream.{with_more, TakesPart}
use Rattle.rtk_convert.specs.declared.fault.ConvertFault.TheVariants.{OutOfMemory}
use Rattle.rtk_convert.specs.declared.frame_class.FrameClass.{FrameClass}
use Rattle.rtk_convert.specs.declared.frame_class.FrameClass.TheVariants.{OtherMessage, Refused, Foreign, Dated}
use Rattle.rtk_convert.specs.Conversion.{ConversionView}
use Rattle.rtk_convert.specs.FrameClass.{IsClassOfPayload, IsClassOfReading}
use Rattle.rtk_convert.specs.Report.{refused_line, one_frame_more}
use Rattle.rtk_convert.proofs.ArriveLemmas.{arrives-arrived, breaks-arrived, arrives-other, arrives-foreign, arrives-refused, breaks-refused}
use Rattle.rtk_convert.proofs.ClassLemmas.{dated-taken}
use Rattle.rtk_convert.proofs.SlotsLemmas.{slots-put}
use Rattle.rtk_convert.proofs.WritingLemmas.{takes-none}
use Rattle.rtk_convert.proofs.CameLemmas.{read-by}
use Rattle.rtk_convert.proofs.OutcomeLemmas.{keeps-seen, stays-seen, ahead-seen, failed-err, payload-ok, payload-err}
use Rattle.rtk_convert.proofs.conversion.Conversion.handle_payload.Goals as goal

pub classify-requires : goal.classify-requires
classify-requires g c = read-by c.self.inside.setup c.args.payload.now c.read_message-reading.result.now c.read_message-reading.ensures

pub handle_message-requires-clause-under_way : goal.handle_message-requires-clause-under_way
handle_message-requires-clause-under_way g c = record {
  stopped = ap (λ (x : ConversionView). x.stopped) c.self.view_is ∙ c.requires.under_way.stopped;
  ahead = ahead-seen c.self.view_is c.requires.under_way;
}

pub handle_message-requires-clause-taken : goal.handle_message-requires-clause-taken
handle_message-requires-clause-taken g c =
    let comes = subst (λ (f : FrameClass). IsClassOfPayload c.self.inside.setup c.args.payload.now f) c.in-Dated.is (c.read_message-reading.result.now, c.read_message-reading.ensures, c.classify.ensures) in
    dated-taken c.self.inside.setup comes.0 c.in-Dated.dated comes.2

pub returns-in-OtherMessage-clause-handles : goal.returns-in-OtherMessage-clause-handles
returns-in-OtherMessage-clause-handles g c =
    let comes = subst (λ (f : FrameClass). IsClassOfPayload c.self.inside.setup c.args.payload.now f) c.in-OtherMessage.is (c.read_message-reading.result.now, c.read_message-reading.ensures, c.classify.ensures) in
    let counts = ap (λ (n : ℕ). record (record c.self.inside.counts { frames = n }) { other = c.saturating_add-self-inside-in-OtherMessage.result }) c.saturating_add-self-inside.ensures
    ∙ ap (λ (n : ℕ). record (one_frame_more c.self.inside.counts) { other = n }) c.saturating_add-self-inside-in-OtherMessage.ensures in
    payload-ok OtherMessage c.self.view_is comes refl (arrives-other c.args.payload.now comes counts)

pub returns-in-Foreign-clause-handles : goal.returns-in-Foreign-clause-handles
returns-in-Foreign-clause-handles g c =
    let comes = subst (λ (f : FrameClass). IsClassOfPayload c.self.inside.setup c.args.payload.now f) c.in-Foreign.is (c.read_message-reading.result.now, c.read_message-reading.ensures, c.classify.ensures) in
    let counts = ap (λ (n : ℕ). record (record c.self.inside.counts { frames = n }) { foreign = c.saturating_add-self-inside-in-Foreign.result }) c.saturating_add-self-inside.ensures
    ∙ ap (λ (n : ℕ). record (one_frame_more c.self.inside.counts) { foreign = n }) c.saturating_add-self-inside-in-Foreign.ensures in
    payload-ok Foreign c.self.view_is comes refl (arrives-foreign c.args.payload.now comes counts)

pub returns-in_err-line-in-Refused-clause-handles : goal.returns-in_err-line-in-Refused-clause-handles
returns-in_err-line-in-Refused-clause-handles g c =
    let comes = subst (λ (f : FrameClass). IsClassOfPayload c.self.inside.setup c.args.payload.now f) c.in-Refused.is (c.read_message-reading.result.now, c.read_message-reading.ensures, c.classify.ensures) in
    let p = err_from_is_err_and c.from_residual.result c.from_residual.ensures.1 in
    rw (p.1, p.2) (payload-err OutOfMemory (Refused c.in-Refused.fault) c.self.view_is comes tt tt (breaks-refused c.args.payload.now comes (takes-none (g.L.Sink.taken c.args.log.now) (refused_line c.args.link c.in-Refused.fault))))

pub returns-in_ok-write_lines-in-Refused-clause-handles : goal.returns-in_ok-write_lines-in-Refused-clause-handles
returns-in_ok-write_lines-in-Refused-clause-handles g c =
    let comes = subst (λ (f : FrameClass). IsClassOfPayload c.self.inside.setup c.args.payload.now f) c.in-Refused.is (c.read_message-reading.result.now, c.read_message-reading.ensures, c.classify.ensures) in
    let counts = ap (λ (n : ℕ). record (record c.self.inside.counts { frames = n }) { refused = c.saturating_add-self-inside-in-Refused.result }) c.saturating_add-self-inside.ensures
    ∙ ap (λ (n : ℕ). record (one_frame_more c.self.inside.counts) { refused = n }) c.saturating_add-self-inside-in-Refused.ensures in
    payload-ok (Refused c.in-Refused.fault) c.self.view_is comes refl
    (arrives-refused c.args.payload.now comes counts (c.in_ok-write_lines-in-Refused.ensures.puts.all ∙ ap (with_more (g.L.Sink.taken c.args.log.now)) (c.deref.ensures.value ∙ c.in_ok-line-in-Refused.ensures)))

pub returns-in_err-write_lines-in-Refused-clause-handles : goal.returns-in_err-write_lines-in-Refused-clause-handles
returns-in_err-write_lines-in-Refused-clause-handles g c =
    let p = err_from_is_err_and c.from_residual-in_err-write_lines-in-Refused.result c.from_residual-in_err-write_lines-in-Refused.ensures.1 in
    let comes = subst (λ (f : FrameClass). IsClassOfPayload c.self.inside.setup c.args.payload.now f) c.in-Refused.is (c.read_message-reading.result.now, c.read_message-reading.ensures, c.classify.ensures) in
    let part = subst (λ (t : List ℕ). TakesPart (g.L.Sink.taken c.args.log.now) (g.L.Sink.taken c.write_lines.new.log) t) (c.deref.ensures.value ∙ c.in_ok-line-in-Refused.ensures) c.write_lines.ensures.puts.part in
    rw (p.1, p.2, c.in_err-write_lines-in-Refused.ensures.fault) (payload-err _ (Refused c.in-Refused.fault) c.self.view_is comes tt tt (breaks-refused c.args.payload.now comes part))

pub returns-in_ok-handle_message-in-Dated-clause-handles : goal.returns-in_ok-handle_message-in-Dated-clause-handles
returns-in_ok-handle_message-in-Dated-clause-handles g c =
    let comes = subst (λ (f : FrameClass). IsClassOfPayload c.self.inside.setup c.args.payload.now f) c.in-Dated.is (c.read_message-reading.result.now, c.read_message-reading.ensures, c.classify.ensures) in
    let read = subst (λ (f : FrameClass). IsClassOfReading c.self.inside.setup c.read_message-reading.result.now f) c.in-Dated.is c.classify.ensures in
    payload-ok (Dated c.in-Dated.dated) c.self.view_is comes c.epoch-epoch.ensures.value
    (arrives-arrived c.args.payload.now comes (ap (λ (n : ℕ). record c.self.inside.counts { frames = n }) c.saturating_add-self-inside.ensures)
    (slots-put c.self.inside.setup c.read_message-reading.result.now c.in-Dated.dated c.channels.result.now read c.channels.ensures.slots c.put_slots.ensures)
    c.handle_message.ensures.stays.keeps.same_setup c.in_ok-handle_message-in-Dated.ensures.handles.ok)

pub returns-in_err-handle_message-in-Dated-clause-handles : goal.returns-in_err-handle_message-in-Dated-clause-handles
returns-in_err-handle_message-in-Dated-clause-handles g c =
    let p = err_from_is_err_and c.from_residual-in_err-handle_message-in-Dated.result c.from_residual-in_err-handle_message-in-Dated.ensures.1 in
    let comes = subst (λ (f : FrameClass). IsClassOfPayload c.self.inside.setup c.args.payload.now f) c.in-Dated.is (c.read_message-reading.result.now, c.read_message-reading.ensures, c.classify.ensures) in
    let breaks = c.in_err-handle_message-in-Dated.ensures.handles in
    rw (p.1, p.2) (payload-err _ (Dated c.in-Dated.dated) c.self.view_is comes tt breaks.fault (breaks-arrived c.args.payload.now comes breaks.err))

pub returns-in_err-write_lines-in-Refused-clause-failed : goal.returns-in_err-write_lines-in-Refused-clause-failed
returns-in_err-write_lines-in-Refused-clause-failed g c =
    let p = err_from_is_err_and c.from_residual-in_err-write_lines-in-Refused.result c.from_residual-in_err-write_lines-in-Refused.ensures.1 in
    rw (p.1, p.2) (record { file_failed = rw c.in_err-write_lines-in-Refused.ensures.fault refl; report_failed = c.in_err-write_lines-in-Refused.ensures.report_failed })

pub returns-in_err-handle_message-in-Dated-clause-failed : goal.returns-in_err-handle_message-in-Dated-clause-failed
returns-in_err-handle_message-in-Dated-clause-failed g c =
    let p = err_from_is_err_and c.from_residual-in_err-handle_message-in-Dated.result c.from_residual-in_err-handle_message-in-Dated.ensures.1 in
    rw (p.1, p.2) (failed-err c.in_err-handle_message-in-Dated.ensures.failed)

pub returns-in-OtherMessage-clause-stays : goal.returns-in-OtherMessage-clause-stays
returns-in-OtherMessage-clause-stays g c = stays-seen c.self.view_is c.requires.under_way (record { same_setup = refl; few = omega (arith, c.self.invariant.2.few, c.self.invariant.2.places); held = λ h. h }) refl (ahead-seen c.self.view_is c.requires.under_way)

pub returns-in-Foreign-clause-stays : goal.returns-in-Foreign-clause-stays
returns-in-Foreign-clause-stays g c = stays-seen c.self.view_is c.requires.under_way (record { same_setup = refl; few = omega (arith, c.self.invariant.2.few, c.self.invariant.2.places); held = λ h. h }) refl (ahead-seen c.self.view_is c.requires.under_way)

pub returns-in_err-line-in-Refused-clause-stays : goal.returns-in_err-line-in-Refused-clause-stays
returns-in_err-line-in-Refused-clause-stays g c =
    let p = err_from_is_err_and c.from_residual.result c.from_residual.ensures.1 in
    rw (p.1, p.2) (stays-seen c.self.view_is c.requires.under_way (record { same_setup = refl; few = omega (arith, c.self.invariant.2.few, c.self.invariant.2.places); held = λ h. h }) refl tt)

pub returns-in_ok-write_lines-in-Refused-clause-stays : goal.returns-in_ok-write_lines-in-Refused-clause-stays
returns-in_ok-write_lines-in-Refused-clause-stays g c = stays-seen c.self.view_is c.requires.under_way (record { same_setup = refl; few = omega (arith, c.self.invariant.2.few, c.self.invariant.2.places); held = λ h. h }) refl (ahead-seen c.self.view_is c.requires.under_way)

pub returns-in_err-write_lines-in-Refused-clause-stays : goal.returns-in_err-write_lines-in-Refused-clause-stays
returns-in_err-write_lines-in-Refused-clause-stays g c =
    let p = err_from_is_err_and c.from_residual-in_err-write_lines-in-Refused.result c.from_residual-in_err-write_lines-in-Refused.ensures.1 in
    rw (p.1, p.2) (stays-seen c.self.view_is c.requires.under_way (record { same_setup = refl; few = omega (arith, c.self.invariant.2.few, c.self.invariant.2.places); held = λ h. h }) refl tt)

pub returns-in_ok-handle_message-in-Dated-clause-stays : goal.returns-in_ok-handle_message-in-Dated-clause-stays
returns-in_ok-handle_message-in-Dated-clause-stays g c =
    let s = c.in_ok-handle_message-in-Dated.ensures.stays in
    record { keeps = keeps-seen c.self.view_is (record { same_setup = s.keeps.same_setup; few = s.keeps.few; held = s.keeps.held }); stopped = s.stopped; ahead = s.ahead }

pub returns-in_err-handle_message-in-Dated-clause-stays : goal.returns-in_err-handle_message-in-Dated-clause-stays
returns-in_err-handle_message-in-Dated-clause-stays g c =
    let p = err_from_is_err_and c.from_residual-in_err-handle_message-in-Dated.result c.from_residual-in_err-handle_message-in-Dated.ensures.1 in
    let s = c.in_err-handle_message-in-Dated.ensures.stays in
    rw (p.1, p.2) (record { keeps = keeps-seen c.self.view_is (record { same_setup = s.keeps.same_setup; few = s.keeps.few; held = s.keeps.held }); stopped = s.stopped; ahead = tt })

pub returns-in_err-line-in-Refused-clause-failed : goal.returns-in_err-line-in-Refused-clause-failed
returns-in_err-line-in-Refused-clause-failed g c =
    let p = err_from_is_err_and c.from_residual.result c.from_residual.ensures.1 in
    rw (p.1, p.2) (record { file_failed = refl; report_failed = refl })
