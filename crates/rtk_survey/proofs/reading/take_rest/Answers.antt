use Rattle.std.proofs.Common.{List, ℕ, sym, subst}
use Rattle.rtk_frame.specs.Frames.{Frame, payloads}
use Rattle.rtk_survey.specs.Surveys.{HoldsMore}
use Rattle.rtk_survey.proofs.FrameLemmas.{holds-none, holds-first, finds-left}
use Rattle.rtk_survey.proofs.reading.take_rest.Goals as goal

pub frames-init : goal.frames-init
frames-init c = λ end all. all

pub frames-preserved : goal.frames-preserved
frames-preserved c =
    let holds = c.rest.follows.holds-at-none in
    let n = finds-left c.frames.scanner.pending c.in-Some.payload c.rest.follows.lender-at-none (rw c.in-Some.is at holds.2) in
    λ end rest. c.frames.invariant end (subst (λ (ps : List (List ℕ)). HoldsMore ps c.frames.contents end) (sym n.first)
    (holds-first c.frames.contents c.take_frame.new.contents end c.in-Some.payload.now _ c.in_ok-take_frame.ensures rest))

pub returns : goal.returns
returns c =
    let holds = c.rest.follows.holds-at-none in
    let none = (rw c.in_default.is at holds.2).0 in
    c.frames.invariant c.frames.contents (subst (λ (fs : List Frame). HoldsMore (payloads fs) c.frames.contents c.frames.contents) (sym none) (holds-none c.frames.contents))
