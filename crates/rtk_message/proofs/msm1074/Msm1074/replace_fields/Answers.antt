use Rattle.std.proofs.Common.{◌≤◌, ◌*◌, ◌<◌, sum_by, count_ones, ◌∙◌, arith, rules}
use Rattle.rtk_message.specs.Fields.{TakesAll}
use Rattle.rtk_message.specs.FieldColumns.{numbers}
use Rattle.rtk_message.proofs.ColumnLemmas.{ones-few}
use Rattle.rtk_message.proofs.FieldLemmas.{took_both}
use Rattle.rtk_message.proofs.Msm1074Lemmas.{is_out_of_week, is_many, is_cut_mask, is_cut_rest, few_of}
use Rattle.rtk_message.specs.Msm1074.{signal_count}
use Rattle.rtk_message.proofs.msm1074.Msm1074.replace_fields.Goals as goal

pub returns-then-self-ge-WEEK_MS-clause-fault : goal.returns-then-self-ge-WEEK_MS-clause-fault
returns-then-self-ge-WEEK_MS-clause-fault c = is_out_of_week c.next_header-self.ensures.fields (omega (arith, c.if-self-ge-WEEK_MS.true))

pub returns-then-has_too_many_cells-clause-fault : goal.returns-then-has_too_many_cells-clause-fault
returns-then-has_too_many_cells-clause-fault c =
    let many : 64 < c.satellite_count-satellites.result * c.signal_count-signals.result = c.has_too_many_cells.ensures.0 (search rules) in
    is_many c.next_header-self.ensures.fields (omega (arith, c.if-self-ge-WEEK_MS.false)) (rw (← c.satellite_count-satellites.ensures.value, ← c.signal_count-signals.ensures.value) many)

pub returns-then-remaining-satellites-clause-fault : goal.returns-then-remaining-satellites-clause-fault
returns-then-remaining-satellites-clause-fault c =
    let few : c.satellite_count-satellites.result * c.signal_count-signals.result ≤ 64 = few_of c.has_too_many_cells.ensures c.if-has_too_many_cells.false in
    is_cut_mask c.next_header-self.ensures.fields (omega (arith, c.if-self-ge-WEEK_MS.false))
    (rw (← c.satellite_count-satellites.ensures.value, ← c.signal_count-signals.ensures.value) few)
    (rw (← c.satellite_count-satellites.ensures.value, ← c.signal_count-signals.ensures.value, ← c.remaining-2.ensures) c.if-remaining-satellites.true)

pub returns-then-remaining-satellites-2-clause-fault : goal.returns-then-remaining-satellites-2-clause-fault
returns-then-remaining-satellites-2-clause-fault c =
    let h = c.next_header-self.result in
    let ns = c.read_mask-cells.new.mask in
    let few : c.satellite_count-satellites.result * c.signal_count-signals.result ≤ 64 = few_of c.has_too_many_cells.ensures c.if-has_too_many_cells.false in
    let mask : TakesAll (numbers (signal_count h) ns) c.next_header-self.new.reader c.read_mask-cells.new.reader = rw (← c.signal_count-signals.ensures.value) c.read_mask-cells.ensures.fields in
    is_cut_rest ns c.next_header-self.ensures.fields mask (c.read_mask-cells.ensures.count ∙ c.satellite_count-satellites.ensures.value) (omega (arith, c.if-self-ge-WEEK_MS.false))
    (rw (← c.satellite_count-satellites.ensures.value, ← c.signal_count-signals.ensures.value) few)
    (rw (← c.satellite_count-satellites.ensures.value, ← c.signal_count-signals.ensures.value) c.read_mask-cells.ensures.left)
    (omega (arith, c.if-remaining-satellites-2.true, c.remaining-3.ensures, c.satellite_count-satellites.ensures.value, c.read_mask-cells.ensures.cells))

-- a cell mask of at most 64 bits has at most 64 cells
pub prove-unreachable-requires : goal.prove-unreachable-requires
prove-unreachable-requires c =
    let ns = c.read_mask-cells.new.mask in
    let few : c.satellite_count-satellites.result * c.signal_count-signals.result ≤ 64 = few_of c.has_too_many_cells.ensures c.if-has_too_many_cells.false in
    let cells : sum_by count_ones ns ≤ c.signal_count-signals.result * c.satellite_count-satellites.result =
    rw (← c.read_mask-cells.ensures.count) (ones-few c.signal_count-signals.result ns c.read_mask-cells.ensures.fields.fit) in
    absurd (omega (arith, few, cells, c.read_mask-cells.ensures.cells, c.if-prove.true))

pub returns-clause-fields : goal.returns-clause-fields
returns-clause-fields c =
    let h = c.next_header-self.result in
    let ns = c.read_mask-cells.new.mask in
    let few : c.satellite_count-satellites.result * c.signal_count-signals.result ≤ 64 = few_of c.has_too_many_cells.ensures c.if-has_too_many_cells.false in
    let mask : TakesAll (numbers (signal_count h) ns) c.next_header-self.new.reader c.read_mask-cells.new.reader = rw (← c.signal_count-signals.ensures.value) c.read_mask-cells.ensures.fields in
    let t = took_both c.next_header-self.ensures.fields (took_both mask (took_both c.read_column.ensures.fields (took_both c.read_column-2.ensures.fields (took_both c.read_column-3.ensures.fields
    (took_both c.read_column-4.ensures.fields (took_both c.read_column-5.ensures.fields (took_both c.read_column-6.ensures.fields c.read_column-7.ensures.fields))))))) in
    let sats = c.satellite_count-satellites.ensures.value in
    let cells = c.read_mask-cells.ensures.cells in (
      record {
        fields_fit = t.fit;
        time_in_week = c.if-self-ge-WEEK_MS.false;
        mask_bits = rw (← c.satellite_count-satellites.ensures.value, ← c.signal_count-signals.ensures.value) few;
        lengths = record {
          cell_mask = c.read_mask-cells.ensures.count ∙ sats;
          rough_ms = c.read_column.ensures.count ∙ sats;
          rough_fraction = c.read_column-2.ensures.count ∙ sats;
          fine_range = c.read_column-3.ensures.count ∙ cells;
          fine_phase = c.read_column-4.ensures.count ∙ cells;
          lock_indicator = c.read_column-5.ensures.count ∙ cells;
          half_cycle = c.read_column-6.ensures.count ∙ cells;
          cnr = c.read_column-7.ensures.count ∙ cells;
        };
      },
      t,
    )
