use Rattle.std.proofs.Common.{ap, sym, ◌∙◌, arith}
use Rattle.rtk_survey.specs.declared.frame_place.Looking.{Looking}
use Rattle.rtk_survey.proofs.FramePlaceLemmas.{left-frame, place_here, place_later}
use Rattle.rtk_survey.proofs.frame_place.Looking.take_rest.Goals as goal

pub returns-in-Some-take_frame : goal.returns-in-Some-take_frame
returns-in-Some-take_frame c =
    let i = c.frames.invariant in
    let holds = c.rest.follows.holds-at-none in
    let n = left-frame c.frames.scanner.pending c.frames.self.fed c.in-Some.payload c.rest.follows.lender-at-none i.fits (rw c.in-Some.is at holds.2) in
    sym (i.place ∙ place_here _ _ _ _ _ c.frames.self.before c.in-Some-take_frame.place n.0 (sym (rw c.pending_len.ensures at c.in-Some-take_frame.ensures.place)))

pub frames-preserved : goal.frames-preserved
frames-preserved c =
    let i = c.frames.invariant in
    let holds = c.rest.follows.holds-at-none in
    let n = left-frame c.frames.scanner.pending c.frames.self.fed c.in-Some.payload c.rest.follows.lender-at-none i.fits (rw c.in-Some.is at holds.2) in
    let none = sym (rw (c.pending_len.ensures, c.in_default-take_frame.is) at c.take_frame.ensures.place) in
    let before = ap (λ (l : Looking). l.before) c.take_frame.ensures.left in
    let fed = ap (λ (l : Looking). l.fed) c.take_frame.ensures.left in
    let fits = n.1 in
    record {
      fits = omega (arith, fits, fed);
      place = rw (before, fed) (i.place ∙ place_later _ _ _ _ _ c.frames.self.before n.0 none);
    }
