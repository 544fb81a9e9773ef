use Rattle.std.proofs.Common.{◌≡◌, ℕ, false, ◌∷◌, sym, ap, ◌∙◌, arith}
use Rattle.rtk_tracking.specs.Epochs.{capped}
use Rattle.rtk_cut.specs.Cut.{step_of, is_near_step, is_on_step}
use Rattle.rtk_cut.specs.Steps.PartFile.{still_to_write}
use Rattle.rtk_cut.proofs.PartFileLemmas.{writes-nothing, left-off, count-off}
use Rattle.rtk_cut.proofs.part_writer.PartWriter.write_next.Goals as goal

pub write_next_on_step-requires-clause-on : goal.write_next_on_step-requires-clause-on
write_next_on_step-requires-clause-on g c = λ e is.
    let s = c.args.self.now in
    sym (c.has.ensures ∙ ap (λ (t : ℕ). is_near_step s.choice.near_ms s.choice.every t) (c.time.ensures e is)) ∙ c.if-has.true

pub returns-clause-all : goal.returns-clause-all
returns-clause-all g c = λ e is earlier left stands.
    let s = c.args.self.now in
    let off : is_on_step (step_of s.choice) e ≡ false =
    sym (c.has.ensures ∙ ap (λ (t : ℕ). is_near_step s.choice.near_ms s.choice.every t) (c.time.ensures e is)) ∙ c.if-has.false in
    let f = g.F.EpochFile.texts s.file in (
      c.note.ensures.slips e is (step_of s.choice) earlier off stands,
      writes-nothing (g.W.Sink.taken c.args.out.now) (still_to_write s.choice f s.is_header_out earlier (e ∷ left)) (still_to_write s.choice f s.is_header_out (e ∷ earlier) left)
          (left-off s.choice f s.is_header_out earlier e left off),
    )

pub returns-clause-written : goal.returns-clause-written
returns-clause-written g c = λ e is earlier left n was.
    let s = c.args.self.now in
    let off : is_on_step (step_of s.choice) e ≡ false =
    sym (c.has.ensures ∙ ap (λ (t : ℕ). is_near_step s.choice.near_ms s.choice.every t) (c.time.ensures e is)) ∙ c.if-has.false in
    (0, was ∙ ap capped (omega arith), count-off s.choice earlier e left off)
