use Rattle.std.proofs.Common.{ap, sym, ◌∙◌, arith}
use Rattle.rtk_survey.specs.declared.frame_place.Looking.{Looking}
use Rattle.rtk_survey.proofs.FrameLemmas.{finds-next}
use Rattle.rtk_survey.proofs.FramePlaceLemmas.{fed-frame, place_here, place_later, not_last}
use Rattle.rtk_survey.proofs.frame_place.Looking.take_piece.Goals as goal

pub returns-in-Some-clause-found : goal.returns-in-Some-clause-found
returns-in-Some-clause-found c =
    let i = c.frames.invariant in
    let holds = c.feed-fed.follows.holds-at-none in
    let n = fed-frame c.args.piece.now c.frames.scanner.pending c.frames.at c.feed-fed.result.used c.frames.self.fed c.in-Found.payload c.feed-fed.follows.lender-at-none
    i.within c.feed-fed.ensures.used i.fits (rw c.in-Found.is at holds.2) in
    i.place ∙ place_here _ _ _ _ _ c.frames.self.before c.in-Some.place n.0 (sym (rw c.pending_len.ensures at c.in-Some.ensures.place))

pub frames-preserved : goal.frames-preserved
frames-preserved c =
    let i = c.frames.invariant in
    let holds = c.feed-fed.follows.holds-at-none in
    let answer = rw c.in-Found.is at holds.2 in
    let next = finds-next c.args.piece.now c.frames.scanner.pending c.frames.at c.feed-fed.result.used c.in-Found.payload c.feed-fed.follows.lender-at-none
    i.within c.feed-fed.ensures.used answer in
    let n = fed-frame c.args.piece.now c.frames.scanner.pending c.frames.at c.feed-fed.result.used c.frames.self.fed c.in-Found.payload c.feed-fed.follows.lender-at-none
    i.within c.feed-fed.ensures.used i.fits answer in
    let none = sym (rw (c.pending_len.ensures, c.in_default-take_frame.is) at c.take_frame.ensures.place) in
    let before = ap (λ (l : Looking). l.before) c.take_frame.ensures.left in
    let fed = ap (λ (l : Looking). l.fed) c.take_frame.ensures.left in
    let more = not_last c.frames.self.before _ none in
    let fits = n.1 in
    let all = i.count in
    let count = n.0.count in
    let had = i.fed in
    record {
      within = next.within;
      is_open = holds.0;
      fits = omega (arith, fits, fed);
      fed = omega (arith, had, fed);
      waiting = i.waiting ∙ next.waiting;
      count = omega (arith, all, count, before, more);
      place = rw (before, fed) (i.place ∙ place_later _ _ _ _ _ c.frames.self.before n.0 none);
    }
