use Rattle.std.proofs.Common.{◌≡◌, ◌+◌, ◌<◌, ◌^◌, ◌∙◌, ℕ, List, ap, arith, bit_or, length, map, slice_range, subst, sym}
use Rattle.std.proofs.lemmas.List.{length-map}
use Rattle.rtk_obs.specs.SignalCells.{IsSignalInRange}
use Rattle.rtk_obs.specs.declared.signal_cells.SignalEntry.{SignalEntry}
use Rattle.rtk_convert.specs.Steps.ShownCells.{IsSetOfCodes}
use Rattle.rtk_convert.proofs.EntriesLemmas.{entry-at}
use Rattle.rtk_convert.proofs.SatelliteLemmas.{codes-begin, codes-next}
use Rattle.rtk_convert.proofs.epoch_rows.codes_between.Goals as goal

pub loop-at-init : goal.loop-at-init
loop-at-init g c = record {
  from = omega arith;
  codes = codes-begin (map g.E.FileEntry.signal_of c.args.entries.now) c.args.begin c.args.satellite;
}

pub loop-at-preserved : goal.loop-at-preserved
loop-at-preserved g c =
    let f = g.E.FileEntry.signal_of in
    let xs : List SignalEntry = map f c.args.entries.now in
    let l = c.loop-at in
    let x = c.index-entries-at.result in
    let inside : l.at < length c.args.entries.now = omega (arith, c.loop-at-test.true, c.requires.within) in
    let low : l.at < length xs = omega (arith, inside, length-map c.args.entries.now f) in
    let here = λ (d : SignalEntry). entry-at f c.args.entries.now l.at x d inside c.index-entries-at.is in
    let own : (f x).satellite ≡ c.args.satellite = subst (λ (e : SignalEntry). e.satellite ≡ c.args.satellite) (here (f x)) (c.requires.own l.at (f x) l.invariant.from c.loop-at-test.true) in
    let range : IsSignalInRange (f x) = subst IsSignalInRange (here (f x)) (c.requires.ranges l.at (f x) low) in
    record {
      from = omega (arith, l.invariant.from);
      codes = subst (λ (b : ℕ). IsSetOfCodes (bit_or l.codes b) (slice_range xs c.args.begin (l.at + 1)) c.args.satellite) (sym (c.bit_at-bit.ensures ∙ ap (λ (n : ℕ). 2 ^ n) c.code_place-place.ensures.value))
          (codes-next l.codes xs c.args.begin l.at c.args.satellite (f x) l.invariant.from low here range.signal own l.invariant.codes);
    }
