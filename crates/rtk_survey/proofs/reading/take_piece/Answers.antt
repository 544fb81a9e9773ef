use Rattle.std.proofs.Common.{List, ℕ, refl, sym, subst, ◌∙◌, arith}
use Rattle.rtk_frame.specs.Frames.{Frame, payloads}
use Rattle.rtk_survey.specs.Surveys.{HoldsMore}
use Rattle.rtk_survey.proofs.FrameLemmas.{holds-none, holds-first, finds-next, finds-no-more}
use Rattle.rtk_survey.proofs.reading.take_piece.Goals as goal

pub frames-init : goal.frames-init
frames-init c = record { within = omega arith; is_open = c.requires; waiting = refl; held = λ end all. all }

pub frames-preserved : goal.frames-preserved
frames-preserved c =
    let i = c.frames.invariant in
    let holds = c.feed-fed.follows.holds-at-none in
    let n = finds-next c.args.piece.now c.frames.scanner.pending c.frames.at c.feed-fed.result.used c.in-Found.payload c.feed-fed.follows.lender-at-none
    i.within c.feed-fed.ensures.used (rw c.in-Found.is at holds.2) in
    record {
      within = n.within;
      is_open = holds.0;
      waiting = i.waiting ∙ n.waiting;
      held = λ end rest. i.held end (subst (λ (ps : List (List ℕ)). HoldsMore ps c.frames.contents end) (sym n.first)
          (holds-first c.frames.contents c.take_frame.new.contents end c.in-Found.payload.now _ c.in_ok-take_frame.ensures rest));
    }

pub returns-in_default-clause-held : goal.returns-in_default-clause-held
returns-in_default-clause-held c =
    let holds = c.feed-fed.follows.holds-at-none in
    let n = finds-no-more c.args.piece.now c.frames.scanner.pending c.frames.at c.feed-fed.result.used c.feed-fed.follows.lender-at-none (rw c.in_default.is at holds.2) in
    c.frames.invariant.held c.frames.contents
    (subst (λ (fs : List Frame). HoldsMore (payloads fs) c.frames.contents c.frames.contents) (sym n.none) (holds-none c.frames.contents))
