use Rattle.std.proofs.Common.{take, drop}
use Rattle.rtk_rinex.specs.Columns.{left}
use Rattle.rtk_label.specs.Fields.{offset_columns}
use Rattle.rtk_label.specs.Steps.Fronts.{filled_height}
use Rattle.rtk_label.proofs.GlueLemmas.{glue-fifteen}
use Rattle.rtk_label.proofs.front.put_middle.Goals as goal

pub returns : goal.returns
returns c =
    let l = c.label.inside in
    let m = c.args.middle.now in record {
      items = rw (c.add-5.ensures.items, c.put_offset-2.ensures.items, c.put_offset.ensures.items, c.put_height.ensures.items, c.add-4.ensures.items, c.put_left-7.ensures.items, c.put_left-6.ensures.items, c.add-3.ensures.items, c.put_left-5.ensures.items, c.put_left-4.ensures.items, c.put_left-3.ensures.items, c.add-2.ensures.items, c.put_left-2.ensures.items, c.put_left.ensures.items, c.add.ensures.items, ← c.label.view_is, c.as_slice.ensures.value, c.as_slice-2.ensures.value, c.as_slice-3.ensures.value, c.as_slice-4.ensures.value, c.as_slice-5.ensures.value, c.as_slice-6.ensures.value, c.as_slice-7.ensures.value, c.as_slice-8.ensures.value, c.as_slice-9.ensures.value, c.as_slice-10.ensures.value, c.columns_at.ensures.value, c.columns_at-2.ensures.value, c.columns_at-3.ensures.value, c.columns_at-4.ensures.value, c.columns_at-5.ensures.value, c.columns_at-6.ensures.value) (glue-fifteen c.args.out.now.items
          (take 81 m) (left 20 l.observer.items) (left 40 l.agency.items) (take 21 (drop 141 m)) (left 20 l.receiver_number.items) (left 20 l.receiver_type.items) (left 20 l.receiver_version.items)
          (take 21 (drop 222 m)) (left 20 l.antenna_number.items) (left 20 l.antenna_type.items) (take 122 (drop 283 m)) (filled_height l.height.items (take 14 (drop 405 m)))
          (offset_columns l.east.items) (offset_columns l.north.items) (take 39 (drop 447 m)));
    }
