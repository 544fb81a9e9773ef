use Rattle.rtk_compare.proofs.ReaderLemmas.{fewer-records}
use Rattle.rtk_compare.proofs.RecordLemmas.{walked-begin, walked-more, walked-all, next-epochs, takes-as}
use Rattle.rtk_compare.proofs.records.compare_records.Goals as goal

pub loop-side-init : goal.loop-side-init
loop-side-init c = record {
  size = c.requires.tracks;
  walked = λ codes olds news shared tracks old new. walked-begin codes olds news c.args.findings.now c.args.tracks.now c.of-olds.result c.of-news.result tracks (c.of-olds.ensures olds old) (c.of-news.ensures news new);
}

pub loop-side-preserved : goal.loop-side-preserved
loop-side-preserved c =
    let l = c.loop-side in
    let old = c.take_if-old_rows.ensures in
    let new = c.take_if-new_rows.ensures in
    record {
      size = c.compare_epoch.ensures.size;
      walked = λ codes olds news shared tracks left_old left_new.
          let h = l.invariant.walked codes olds news shared tracks left_old left_new in
          let n = next-epochs c.in-Some.side l.olds l.news c.take_if-old_rows.new.self c.take_if-new_rows.new.self c.take_if-old_rows.result c.take_if-new_rows.result c.time.result c.time-in-loop-side.result h.olds h.news c.in-Some.ensures
          c.time.ensures c.time-in-loop-side.ensures h.at_old h.at_new
          (takes-as l.olds c.take_if-old_rows.new.self c.take_if-old_rows.result _ _ c.has_old.ensures (record { value = old.value; none = old.none; next = old.next; same = old.same }))
          (takes-as l.news c.take_if-new_rows.new.self c.take_if-new_rows.result _ _ c.has_new.ensures (record { value = new.value; none = new.none; next = new.next; same = new.same })) in
          walked-more codes olds news c.args.findings.now l.findings c.compare_epoch.new.findings l.tracks c.compare_epoch.new.tracks l.olds l.news c.take_if-old_rows.new.self c.take_if-new_rows.new.self
          c.take_if-old_rows.result c.take_if-new_rows.result h n
          (c.compare_epoch.ensures.compared codes h.earlier n.epochs shared h.tracks n.old_side n.new_side);
    }

pub loop-side-smaller : goal.loop-side-smaller
loop-side-smaller c =
    fewer-records c.in-Some.side c.loop-side.olds c.loop-side.news c.take_if-old_rows.new.self c.take_if-new_rows.new.self c.time.result c.time-in-loop-side.result c.has_old.result c.has_new.result c.in-Some.ensures c.time.ensures c.time-in-loop-side.ensures
    c.has_old.ensures c.has_new.ensures c.take_if-old_rows.ensures.less c.take_if-new_rows.ensures.less

pub returns : goal.returns
returns c = λ codes olds news shared tracks left_old left_new.
    let l = c.loop-side in
    walked-all codes olds news c.args.findings.now l.findings l.tracks l.olds l.news c.time.result c.time-in-loop-side.result (l.invariant.walked codes olds news shared tracks left_old left_new) c.in_default.ensures c.time.ensures c.time-in-loop-side.ensures
