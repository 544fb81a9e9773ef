use Rattle.std.proofs.Common.{◌∙◌, arith}
use Rattle.rtk_compare.specs.Pairs.{side_by_side, by_satellite}
use Rattle.rtk_compare.proofs.ReaderLemmas.{both-next, rows-good, fewer-rows}
use Rattle.rtk_compare.proofs.RowsLemmas.{compared-begin, compared-more, compared-all, goes-on}
use Rattle.rtk_compare.proofs.rows.compare_same_rows.Goals as goal

pub loop-side-init : goal.loop-side-init
loop-side-init c = record {
  size = c.requires.tracks;
  compared = λ codes earlier olds news shared tracks old new old_rise new_rise.
      compared-begin c.args.time.now codes earlier c.args.findings.now c.args.tracks.now c.of-both.result c.of-both.result olds news (rows-good _ olds old) (rows-good _ news new) old_rise new_rise tracks
      (c.of-both.ensures olds old) (c.of-both.ensures news new);
}

pub loop-side-preserved : goal.loop-side-preserved
loop-side-preserved c =
    let l = c.loop-side in
    let new_is = c.has_old.ensures ∙ both-next _ _ c.in-Some.ensures.side in
    record {
      size = c.compare_next.ensures.size;
      compared = λ codes earlier olds news shared tracks old new old_rise new_rise.
          compared-more c.args.time.now codes earlier (side_by_side by_satellite olds news) c.args.findings.now l.findings c.compare_next.new.findings l.tracks c.compare_next.new.tracks c.in-Some.side l.both l.both
          c.advance_if.new.self c.advance_if.new.self (λ s. shared.few s) (l.invariant.compared codes earlier olds news shared tracks old new old_rise new_rise) c.in-Some.ensures.side
          (c.in-Some.ensures.lines codes earlier shared) (c.in-Some.ensures.tracks codes shared)
          (goes-on l.both c.advance_if.new.self _ _ c.has_old.ensures c.advance_if.ensures.next c.advance_if.ensures.same)
          (goes-on l.both c.advance_if.new.self _ _ new_is c.advance_if.ensures.next c.advance_if.ensures.same);
    }

pub loop-side-smaller : goal.loop-side-smaller
loop-side-smaller c =
    let fewer = fewer-rows c.in-Some.side c.loop-side.both c.loop-side.both c.advance_if.new.self c.advance_if.new.self c.has_old.result c.has_old.result c.in-Some.ensures.side c.has_old.ensures
    (c.has_old.ensures ∙ both-next _ _ c.in-Some.ensures.side) c.advance_if.ensures.less c.advance_if.ensures.less in
    omega (arith, fewer)

pub returns-clause-compared : goal.returns-clause-compared
returns-clause-compared c = λ codes earlier olds news shared tracks old new old_rise new_rise.
    let l = c.loop-side in
    compared-all c.args.time.now codes earlier (side_by_side by_satellite olds news) c.args.findings.now l.findings c.compare_next.new.findings l.tracks c.compare_next.new.tracks l.both l.both
    (l.invariant.compared codes earlier olds news shared tracks old new old_rise new_rise) c.in_default.ensures.side c.in_default.ensures.end.0 c.in_default.ensures.end.1
