use Rattle.std.proofs.Common.{◌≤◌, ◌*◌, ◌<◌, sum_by, count_ones, ◌∙◌, ap, subst, sym, arith, rules}
use Rattle.rtk_message.specs.Fields.{TakesAll}
use Rattle.rtk_message.specs.FieldColumns.{numbers}
use Rattle.rtk_message.specs.MsmForm.{IsWide}
use Rattle.rtk_message.specs.declared.msm.Msm.{Msm}
use Rattle.rtk_message.proofs.ColumnLemmas.{ones-few}
use Rattle.rtk_message.proofs.Msm1074Lemmas.{few_of}
use Rattle.rtk_message.proofs.MsmLemmas.{is_out_of_week, is_many, is_cut_mask, is_cut_rest, all_read}
use Rattle.rtk_message.specs.Msm1074.{signal_count}
use Rattle.rtk_message.proofs.msm.Msm.replace_fields.Goals as goal

pub returns-then-not-tells_time-clause-fault : goal.returns-then-not-tells_time-clause-fault
returns-then-not-tells_time-clause-fault c = rw c.number-number.ensures (is_out_of_week c.args.any_day c.args.msm_type c.next_header-self.ensures.fields (sym c.tells_time.ensures ∙ c.if-not-tells_time.true))

pub returns-then-has_too_many_cells-clause-fault : goal.returns-then-has_too_many_cells-clause-fault
returns-then-has_too_many_cells-clause-fault c =
    let many : 64 < c.satellite_count-satellites.result * c.signal_count-signals.result = c.has_too_many_cells.ensures.0 (search rules) in
    rw c.number-number.ensures
    (is_many c.args.any_day c.args.msm_type c.next_header-self.ensures.fields (sym c.tells_time.ensures ∙ c.if-not-tells_time.false) (rw (← c.satellite_count-satellites.ensures.value, ← c.signal_count-signals.ensures.value) many))

pub returns-then-remaining-satellites-clause-fault : goal.returns-then-remaining-satellites-clause-fault
returns-then-remaining-satellites-clause-fault c =
    let few : c.satellite_count-satellites.result * c.signal_count-signals.result ≤ 64 = few_of c.has_too_many_cells.ensures c.if-has_too_many_cells.false in
    rw c.number-number.ensures
    (is_cut_mask c.args.any_day c.args.msm_type c.next_header-self.ensures.fields (sym c.tells_time.ensures ∙ c.if-not-tells_time.false)
    (rw (← c.satellite_count-satellites.ensures.value, ← c.signal_count-signals.ensures.value) few)
    (rw (← c.satellite_count-satellites.ensures.value, ← c.signal_count-signals.ensures.value, ← c.remaining-2.ensures) c.if-remaining-satellites.true))

pub returns-then-remaining-bits-clause-fault : goal.returns-then-remaining-bits-clause-fault
returns-then-remaining-bits-clause-fault c =
    let h = c.next_header-self.result in
    let ns = c.read_mask-cells.new.mask in
    let few : c.satellite_count-satellites.result * c.signal_count-signals.result ≤ 64 = few_of c.has_too_many_cells.ensures c.if-has_too_many_cells.false in
    let mask : TakesAll (numbers (signal_count h) ns) c.next_header-self.new.reader c.read_mask-cells.new.reader = rw (← c.signal_count-signals.ensures.value) c.read_mask-cells.ensures.fields in
    rw c.number-number.ensures
    (is_cut_rest c.args.any_day c.args.msm_type ns c.next_header-self.ensures.fields mask (c.read_mask-cells.ensures.count ∙ c.satellite_count-satellites.ensures.value) (sym c.tells_time.ensures ∙ c.if-not-tells_time.false)
    (rw (← c.satellite_count-satellites.ensures.value, ← c.signal_count-signals.ensures.value) few)
    (rw (← c.satellite_count-satellites.ensures.value, ← c.signal_count-signals.ensures.value) c.read_mask-cells.ensures.left)
    (rw (← c.satellite_count-satellites.ensures.value, ← c.read_mask-cells.ensures.cells, ← c.satellite_bits.ensures.value, ← c.cell_bits.ensures.value, ← c.remaining-3.ensures) c.if-remaining-bits.true))

-- a cell mask of at most 64 bits has at most 64 cells
pub prove-unreachable-requires : goal.prove-unreachable-requires
prove-unreachable-requires c =
    let ns = c.read_mask-cells.new.mask in
    let few : c.satellite_count-satellites.result * c.signal_count-signals.result ≤ 64 = few_of c.has_too_many_cells.ensures c.if-has_too_many_cells.false in
    let cells : sum_by count_ones ns ≤ c.signal_count-signals.result * c.satellite_count-satellites.result =
    rw (← c.read_mask-cells.ensures.count) (ones-few c.signal_count-signals.result ns c.read_mask-cells.ensures.fields.fit) in
    absurd (omega (arith, few, cells, c.read_mask-cells.ensures.cells, c.if-prove.true))

pub returns-clause-fields : goal.returns-clause-fields
returns-clause-fields c =
    let h = c.next_header-self.result in
    let ns = c.read_mask-cells.new.mask in
    let few : c.satellite_count-satellites.result * c.signal_count-signals.result ≤ 64 = few_of c.has_too_many_cells.ensures c.if-has_too_many_cells.false in
    let mask : TakesAll (numbers (signal_count h) ns) c.next_header-self.new.reader c.read_mask-cells.new.reader = rw (← c.signal_count-signals.ensures.value) c.read_mask-cells.ensures.fields in
    let read = all_read c.args.any_day {t = c.args.msm_type} {h = h} {ns = ns} {mid = c.read_satellites.new.self} {new = c.read_cells.new.self} (ap (λ (m : Msm). m.system) c.read_satellites.ensures.rest) (ap (λ (m : Msm). m.kind) c.read_satellites.ensures.rest) (ap (λ (m : Msm). m.header) c.read_satellites.ensures.rest) (ap (λ (m : Msm). m.cell_mask) c.read_satellites.ensures.rest) c.read_cells.ensures.rest
    c.next_header-self.ensures.fields mask c.read_satellites.ensures.fields c.read_cells.ensures.fields (sym c.tells_time.ensures ∙ c.if-not-tells_time.false)
    (rw (← c.satellite_count-satellites.ensures.value, ← c.signal_count-signals.ensures.value) few) (c.read_mask-cells.ensures.count ∙ c.satellite_count-satellites.ensures.value)
    (rw (← c.satellite_count-satellites.ensures.value) c.read_satellites.ensures.lengths)
    (rw (← c.read_mask-cells.ensures.cells) c.read_cells.ensures.lengths) in
    (record { wide = subst IsWide (sym read.1) c.requires; form = read.0 }, read.1, read.2)

pub returns-clause-clock : goal.returns-clause-clock
returns-clause-clock c =
    let header = ap (λ (m : Msm). m.header) c.read_cells.ensures.rest ∙ ap (λ (m : Msm). m.header) c.read_satellites.ensures.rest in
    let system = ap (λ (m : Msm). m.system) c.read_cells.ensures.rest ∙ ap (λ (m : Msm). m.system) c.read_satellites.ensures.rest in
    rw (system, header) (sym c.tells_time.ensures ∙ c.if-not-tells_time.false)
