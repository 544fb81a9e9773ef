use Rattle.std.proofs.Common.{◌++◌, ◌∷◌, [], refl, ◌∙◌, arith}
use Rattle.std.proofs.lemmas.Result.{err_from_is_err_and}
use Rattle.rtk_convert.specs.Writing.{written}
use Rattle.rtk_convert.proofs.GatheringLemmas.{gathers-none, gathers-more, breaks-off, finds-next}
use Rattle.rtk_convert.proofs.OutcomeLemmas.{keeps-on, failed-err}
use Rattle.rtk_convert.proofs.link_state.LinkState.feed.Goals as goal

pub frames-init : goal.frames-init
frames-init g c = record {
  within = omega arith;
  is_open = c.requires.is_open;
  going = c.requires.going;
  keeps = record { same_setup = refl; few = c.requires.few; held = λ h. h };
  out_same = refl;
  log_same = refl;
  waiting = refl;
  taken = ([], refl, gathers-none c.args.conversion.now c.args.number c.args.self.now.newest (written (g.O.Sink.taken c.args.out.now) (g.L.Sink.taken c.args.log.now)));
}

pub frames-preserved : goal.frames-preserved
frames-preserved g c =
    let i = c.frames.invariant in
    let holds = c.feed-fed.follows.holds-at-none in
    let s = finds-next c.args.self.now.scanner.pending c.args.piece.now c.frames.self.scanner.pending c.frames.at c.feed-fed.result.used i.taken.0 c.in-Found.payload c.feed-fed.follows.lender-at-none
    i.within c.feed-fed.ensures.used i.taken.1 i.waiting (rw c.in-Found.is at holds.2) in
    let h = c.in_ok-epoch.ensures.handles i.going in
    record {
      within = s.within;
      is_open = holds.0;
      going = c.in_ok-epoch.ensures.halts;
      keeps = keeps-on i.keeps c.accept_frame.ensures.keeps;
      out_same = c.in_ok-epoch.ensures.failed.file_failed ∙ i.out_same;
      log_same = c.in_ok-epoch.ensures.failed.report_failed ∙ i.log_same;
      waiting = s.waiting;
      taken = (
        i.taken.0 ++ c.in-Found.payload.now ∷ [],
        s.taken,
        gathers-more c.clock_laws.ensures.one_moment c.in-Found.payload.now
            i.keeps.same_setup i.taken.2 h.ok h.epoch c.later_of-self.ensures,
      );
    }

pub returns-in_err-epoch-clause-takes : goal.returns-in_err-epoch-clause-takes
returns-in_err-epoch-clause-takes g c =
    let p = err_from_is_err_and c.from_residual.result c.from_residual.ensures.1 in
    let i = c.frames.invariant in
    let holds = c.feed-fed.follows.holds-at-none in
    let s = finds-next c.args.self.now.scanner.pending c.args.piece.now c.frames.self.scanner.pending c.frames.at c.feed-fed.result.used i.taken.0 c.in-Found.payload c.feed-fed.follows.lender-at-none
    i.within c.feed-fed.ensures.used i.taken.1 i.waiting (rw c.in-Found.is at holds.2) in
    let h = c.in_err-epoch.ensures.handles i.going in
    rw (p.1, p.2) (record {
      keeps = keeps-on i.keeps c.accept_frame.ensures.keeps;
      going = tt;
      halts = c.in_err-epoch.ensures.halts;
      ok = tt;
      err = breaks-off _ c.in-Found.payload.now i.keeps.same_setup s.split i.taken.2 h.err;
      fault = h.fault;
    })

pub returns-in_err-epoch-clause-failed : goal.returns-in_err-epoch-clause-failed
returns-in_err-epoch-clause-failed g c =
    let p = err_from_is_err_and c.from_residual.result c.from_residual.ensures.1 in
    rw (p.1, p.2, ← c.frames.invariant.out_same, ← c.frames.invariant.log_same) (failed-err c.in_err-epoch.ensures.failed)
