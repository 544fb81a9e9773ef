use Rattle.std.proofs.Common.{take, drop}
use Rattle.rtk_label.specs.Steps.Fronts.{plain_columns, plain_offset}
use Rattle.rtk_label.proofs.GlueLemmas.{glue-fifteen}
use Rattle.rtk_label.proofs.front.put_plain_middle.Goals as goal

pub returns : goal.returns
returns c =
    let l = c.label.inside in
    let m = c.args.m.now in record {
      items = rw (c.add-5.ensures.items, c.put_plain_offset-3.ensures.items, c.put_plain_offset-2.ensures.items, c.put_plain_offset.ensures.items, c.add-4.ensures.items, c.put_plain-7.ensures.items, c.put_plain-6.ensures.items, c.add-3.ensures.items, c.put_plain-5.ensures.items, c.put_plain-4.ensures.items, c.put_plain-3.ensures.items, c.add-2.ensures.items, c.put_plain-2.ensures.items, c.put_plain.ensures.items, c.add.ensures.items, ← c.label.view_is, c.as_slice.ensures.value, c.as_slice-2.ensures.value, c.as_slice-3.ensures.value, c.as_slice-4.ensures.value, c.as_slice-5.ensures.value, c.as_slice-6.ensures.value, c.as_slice-7.ensures.value, c.as_slice-8.ensures.value, c.as_slice-9.ensures.value, c.as_slice-10.ensures.value, c.columns_at.ensures.value, c.columns_at-2.ensures.value, c.columns_at-3.ensures.value, c.columns_at-4.ensures.value, c.columns_at-5.ensures.value) (glue-fifteen c.args.out.now.items
          (take 81 m) (plain_columns 20 l.observer.items (take 20 (drop 81 m))) (plain_columns 40 l.agency.items (take 40 (drop 101 m))) (take 21 (drop 141 m))
          (plain_columns 20 l.receiver_number.items (take 20 (drop 162 m))) (plain_columns 20 l.receiver_type.items (take 20 (drop 182 m)))
          (plain_columns 20 l.receiver_version.items (take 20 (drop 202 m))) (take 21 (drop 222 m)) (plain_columns 20 l.antenna_number.items (take 20 (drop 243 m)))
          (plain_columns 20 l.antenna_type.items (take 20 (drop 263 m))) (take 122 (drop 283 m)) (plain_offset l.height.items (take 14 (drop 405 m)))
          (plain_offset l.east.items (take 14 (drop 419 m))) (plain_offset l.north.items (take 14 (drop 433 m))) (take 39 (drop 447 m)));
    }
