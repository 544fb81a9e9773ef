use Rattle.std.proofs.Common.{rules, ◌<◌, length, map, get_or, refl, sym, ap, subst, ◌∙◌, arith}
use Rattle.std.proofs.lemmas.List.{get_or-map, length-map, map-append}
use Rattle.std.proofs.lemmas.Result.{err_from_is_err_and}
use Rattle.rtk_obs.specs.declared.signal_cells.SignalEntry.{SignalEntry}
use Rattle.rtk_collect.specs.EpochSet.{EpochSetView}
use Rattle.rtk_convert.specs.Epochs.{set_of}
use Rattle.rtk_convert.specs.Steps.ShownCells.{AllBelow}
use Rattle.rtk_convert.proofs.FinishLemmas.{last-above, some-none, some-more, some-all, some-part}
use Rattle.rtk_convert.proofs.closed_epochs.close_remaining.Goals as goal

pub returns-in_err-close-clause-closes : goal.returns-in_err-close-clause-closes
returns-in_err-close-clause-closes g c =
    let p = err_from_is_err_and c.from_residual.result c.from_residual.ensures.1 in
    let f = set_of g.E.FileEntry.signal_of in
    let next = ap (map f) c.in-Some.ensures.next ∙ map-append f _ _ in
    rw (p.1, p.2) (record { ok = tt; err = some-part (map f c.next_left.new.self.sets) (f c.in-Some.set) c.left.invariant.some next (λ below h. (c.close.ensures.closes.puts below h).part) })

pub returns-clause-closes : goal.returns-clause-closes
returns-clause-closes g c = record {
  ok = some-all _ _ _ _ _ _ _ _ c.left.invariant.some (ap (map (set_of g.E.FileEntry.signal_of)) c.in_default.ensures.none);
  err = tt;
}

pub left-preserved : goal.left-preserved
left-preserved g c =
    let f = set_of g.E.FileEntry.signal_of in
    record {
      some = some-more c.left.invariant.some (ap (map f) c.in-Some.ensures.next ∙ map-append f _ _) c.in_ok-close.ensures.closes.follows (λ below h. (c.in_ok-close.ensures.closes.puts below h).all);
      above = λ k d lt sat code hs.
          let low : k < length c.next_left.new.self.sets = omega (arith, lt, length-map c.next_left.new.self.sets f) in
          let is = get_or-map f c.next_left.new.self.sets k (get_or c.next_left.new.self.sets k c.in-Some.set) d low in
          let below = c.in-Some.ensures.least k (get_or c.next_left.new.self.sets k c.in-Some.set) low in
          subst (λ (e : EpochSetView SignalEntry). AllBelow c.close.new.self.tracks e.epoch) (sym is) (c.in_ok-close.ensures.closes.later _ below) sat code hs;
      failures = c.in_ok-close.ensures.failed.file_failed ∙ c.left.invariant.failures;
    }

pub close-requires : goal.close-requires
close-requires g c =
    let f = set_of g.E.FileEntry.signal_of in
    (search rules, (c.requires.shows, last-above c.left.closed_epochs (map f c.next_left.new.self.sets) (f c.in-Some.set) (map f c.left.left.sets) (ap (map f) c.in-Some.ensures.next ∙ map-append f _ _) c.left.invariant.above))

pub left-init : goal.left-init
left-init g c = record {
  some = some-none _ _ _ _ _;
  above = c.requires.above;
  failures = refl;
}
