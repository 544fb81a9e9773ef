-- Bits begin with at most one message 1074, and have no fault if they begin with one.
use Rattle.std.proofs.Common.{◌≡◌, ℕ, ℤ, Bool, false, List, [], ◌∷◌, ◌++◌, length, take, drop, None, refl, sym, ap, ◌∙◌, ◌+◌, ◌*◌, ◌<◌, ◌≤◌, ltb, leb, arith, append_assoc, length-append, sum_by, count_ones}
use Rattle.std.proofs.lemmas.Bool.{le-ltb, lt-leb}
use Rattle.std.proofs.lemmas.List.{take_at, drop_at}
use Rattle.rtk_bits.specs.Bits.{unsigned}
use Rattle.rtk_message.specs.Fields.{week_ms, tow_in, Field, u, flag, bits_of_fields, FieldsFit, TakesAll}
use Rattle.rtk_message.specs.FieldLaws.{total, length-bits_of_fields, bits_of_fields-append, fit-parts, number_taken}
use Rattle.rtk_message.specs.FieldColumns.{numbers, integers, flags}
use Rattle.rtk_message.specs.ColumnLaws.{total-numbers, total-integers, total-flags, ones-numbers, peel, peel_numbers, peel_integers, peel_flags, last_numbers}
use Rattle.rtk_message.specs.declared.msm1074.MsmHeader.{MsmHeader}
use Rattle.rtk_message.specs.declared.msm1074.Msm1074.{Msm1074}
use Rattle.rtk_message.specs.Msm1074.{header_table, satellite_count, signal_count, mask_table, column_table, table, cell_count, HasLengths, IsValid, first_fault, satellite_count_in, mask_bits_in, cell_count_in}

-- what the header says about the bits
pub record SaysHeader1074 (h : MsmHeader) (bs rest : List Bool) : Type 0 where
  pub tow_is : tow_in bs ≡ h.tow
  pub satellites_is : satellite_count_in bs ≡ satellite_count h
  pub mask_bits_is : mask_bits_in bs ≡ satellite_count h * signal_count h
  pub after : drop 157 bs ≡ rest
  pub len : length bs ≡ 157 + length rest

pub header_says : {h : MsmHeader} {bs rest : List Bool} → TakesAll (header_table h) bs rest → SaysHeader1074 h bs rest
header_says {h = h} {bs = bs} {rest = rest} took =
    let f = took.fit in
    let sat : satellite_count_in bs ≡ satellite_count h =
    ap count_ones (number_taken (u 12 h.station ∷ u 30 h.tow ∷ flag h.multiple_message ∷ u 3 h.issue_of_data_station ∷ u 7 h.reserved ∷ u 2 h.clock_steering ∷ u 2 h.external_clock ∷ flag h.smoothing ∷ u 3 h.smoothing_interval ∷ [])
    64 h.satellite_mask (u 32 h.signal_mask ∷ []) bs rest 61 refl f.1.1.1.1.1.1.1.1.1.0 took.is) in
    let sig : count_ones (unsigned (take 32 (drop 125 bs))) ≡ signal_count h =
    ap count_ones (number_taken (u 12 h.station ∷ u 30 h.tow ∷ flag h.multiple_message ∷ u 3 h.issue_of_data_station ∷ u 7 h.reserved ∷ u 2 h.clock_steering ∷ u 2 h.external_clock ∷ flag h.smoothing ∷ u 3 h.smoothing_interval ∷ u 64 h.satellite_mask ∷ [])
    32 h.signal_mask [] bs rest 125 refl f.1.1.1.1.1.1.1.1.1.1.0 took.is) in
    record {
      tow_is = number_taken (u 12 h.station ∷ []) 30 h.tow (flag h.multiple_message ∷ u 3 h.issue_of_data_station ∷ u 7 h.reserved ∷ u 2 h.clock_steering ∷ u 2 h.external_clock ∷ flag h.smoothing ∷ u 3 h.smoothing_interval ∷ u 64 h.satellite_mask ∷ u 32 h.signal_mask ∷ []) bs rest 12 refl f.1.0 took.is;
      satellites_is = sat;
      mask_bits_is = rw (sat, sig) refl;
      after = rw took.is (drop_at (bits_of_fields (header_table h)) rest 157 (length-bits_of_fields (header_table h)));
      len = ap length took.is ∙ length-append (bits_of_fields (header_table h)) rest ∙ ap (λ (k : ℕ). k + length rest) (length-bits_of_fields (header_table h));
    }

-- how many bits the rest needs
abbrev pub due : List Bool → ℕ
due bs = 157 + mask_bits_in bs + 18 * satellite_count_in bs + 48 * cell_count_in bs

is_whole : {h : MsmHeader} {bs rest : List Bool} → TakesAll (header_table h) bs rest → h.tow < week_ms → satellite_count h * signal_count h ≤ 64 → due bs ≤ length bs → first_fault bs ≡ None
is_whole {h = h} {bs = bs} took time few enough =
    let says = header_says took in
    let long : ltb (length bs) 157 ≡ false = le-ltb (length bs) 157 (omega (arith, says.len)) in
    let when : leb week_ms (tow_in bs) ≡ false = lt-leb week_ms (tow_in bs) (omega (arith, says.tow_is, time)) in
    let big : ltb 64 (mask_bits_in bs) ≡ false = le-ltb 64 (mask_bits_in bs) (omega (arith, says.mask_bits_is, few)) in
    let enough_bits : ltb (length bs) (due bs) ≡ false = le-ltb (length bs) (due bs) enough in
    rw (long, when, big, enough_bits) refl

-- the bits and the table give the same number of cells
pub cells_says : {h : MsmHeader} {bs rest after : List Bool} (ns : List ℕ) → TakesAll (header_table h) bs rest → TakesAll (numbers (signal_count h) ns) rest after → length ns ≡ satellite_count h → cell_count_in bs ≡ sum_by count_ones ns
cells_says {h = h} {bs = bs} {rest = rest} {after = after} ns took mask len =
    let says = header_says took in
    let fs = bits_of_fields (numbers (signal_count h) ns) in
    let size : length fs ≡ satellite_count h * signal_count h = length-bits_of_fields (numbers (signal_count h) ns) ∙ total-numbers (signal_count h) ns ∙ rw len (omega arith) in
    rw (says.mask_bits_is, says.after, mask.is, take_at fs after (satellite_count h * signal_count h) size) (ones-numbers (signal_count h) ns mask.fit)

length-column_table : (m : Msm1074) → HasLengths m → length (bits_of_fields (column_table m)) ≡ 18 * satellite_count m.header + 48 * cell_count m
length-column_table m l =
    let s6 = flags m.half_cycle ++ numbers 6 m.cnr in
    let s5 = numbers 4 m.lock_indicator ++ s6 in
    let s4 = integers 22 m.fine_phase ++ s5 in
    let s3 = integers 15 m.fine_range ++ s4 in
    let s2 = numbers 10 m.rough_fraction ++ s3 in
    let part : (fs gs : List Field) → length (bits_of_fields (fs ++ gs)) ≡ total fs + length (bits_of_fields gs) =
    λ fs gs. ap length (bits_of_fields-append fs gs) ∙ length-append (bits_of_fields fs) (bits_of_fields gs) ∙ ap (λ (k : ℕ). k + length (bits_of_fields gs)) (length-bits_of_fields fs) in
    omega (
      arith,
      part (numbers 8 m.rough_ms) s2,
      part (numbers 10 m.rough_fraction) s3,
      part (integers 15 m.fine_range) s4,
      part (integers 22 m.fine_phase) s5,
      part (numbers 4 m.lock_indicator) s6,
      part (flags m.half_cycle) (numbers 6 m.cnr),
      length-bits_of_fields (numbers 6 m.cnr),
      total-numbers 8 m.rough_ms,
      total-numbers 10 m.rough_fraction,
      total-integers 15 m.fine_range,
      total-integers 22 m.fine_phase,
      total-numbers 4 m.lock_indicator,
      total-flags m.half_cycle,
      total-numbers 6 m.cnr,
      l.rough_ms,
      l.rough_fraction,
      l.fine_range,
      l.fine_phase,
      l.lock_indicator,
      l.half_cycle,
      l.cnr,
    )

-- the parts of a table
pub split : (fs gs : List Field) (bs rest : List Bool) → FieldsFit (fs ++ gs) → bs ≡ bits_of_fields (fs ++ gs) ++ rest → TakesAll fs bs (bits_of_fields gs ++ rest)
split fs gs bs rest fit e = record {
  fit = (fit-parts fs gs fit).0;
  is = e ∙ ap (λ (t : List Bool). t ++ rest) (bits_of_fields-append fs gs) ∙ append_assoc (bits_of_fields fs) (bits_of_fields gs) rest;
}

pub is_accepted : (m : Msm1074) (rest : List Bool) → IsValid m → first_fault (bits_of_fields (table m) ++ rest) ≡ None
is_accepted m rest valid =
    let h = m.header in
    let bs = bits_of_fields (table m) ++ rest in
    let after_header = mask_table m ++ column_table m in
    let head : TakesAll (header_table h) bs (bits_of_fields after_header ++ rest) = split (header_table h) after_header bs rest valid.fields_fit refl in
    let mask : TakesAll (mask_table m) (bits_of_fields after_header ++ rest) (bits_of_fields (column_table m) ++ rest) = split (mask_table m) (column_table m) (bits_of_fields after_header ++ rest) rest (fit-parts (header_table h) after_header valid.fields_fit).1 refl in
    let says = header_says head in
    let time : h.tow < week_ms = valid.time_in_week in
    let count = cells_says m.cell_mask head mask valid.lengths.cell_mask in
    let l1 : length (bits_of_fields after_header ++ rest) ≡ signal_count h * satellite_count h + length (bits_of_fields (column_table m) ++ rest) =
    ap length mask.is ∙ length-append (bits_of_fields (mask_table m)) (bits_of_fields (column_table m) ++ rest) ∙ ap (λ (k : ℕ). k + length (bits_of_fields (column_table m) ++ rest)) (length-bits_of_fields (mask_table m) ∙ total-numbers (signal_count h) m.cell_mask ∙ ap (λ (k : ℕ). signal_count h * k) valid.lengths.cell_mask) in
    is_whole head (omega (arith, time)) valid.mask_bits (omega (arith, says.len, says.mask_bits_is, says.satellites_is, count, l1, length-append (bits_of_fields (column_table m)) rest, length-column_table m valid.lengths))

pub make_header : ℕ → ℕ → Bool → ℕ → ℕ → ℕ → ℕ → Bool → ℕ → ℕ → ℕ → MsmHeader
make_header station tow multiple_message issue_of_data_station reserved clock_steering external_clock smoothing smoothing_interval satellite_mask signal_mask = record { station = station; tow = tow; multiple_message = multiple_message; issue_of_data_station = issue_of_data_station; reserved = reserved; clock_steering = clock_steering; external_clock = external_clock; smoothing = smoothing; smoothing_interval = smoothing_interval; satellite_mask = satellite_mask; signal_mask = signal_mask }

pub made_header : (h : MsmHeader) → make_header h.station h.tow h.multiple_message h.issue_of_data_station h.reserved h.clock_steering h.external_clock h.smoothing h.smoothing_interval h.satellite_mask h.signal_mask ≡ h
unfolding make_header
made_header h = refl

pub same_header : (h k : MsmHeader) → header_table h ≡ header_table k → h ≡ k
same_header h k e =
    let all : make_header h.station h.tow h.multiple_message h.issue_of_data_station h.reserved h.clock_steering h.external_clock h.smoothing h.smoothing_interval h.satellite_mask h.signal_mask ≡ make_header k.station k.tow k.multiple_message k.issue_of_data_station k.reserved k.clock_steering k.external_clock k.smoothing k.smoothing_interval k.satellite_mask k.signal_mask = cc in
    sym (made_header h) ∙ all ∙ made_header k

pub make : MsmHeader → List ℕ → List ℕ → List ℕ → List ℤ → List ℤ → List ℕ → List Bool → List ℕ → Msm1074
make header cell_mask rough_ms rough_fraction fine_range fine_phase lock_indicator half_cycle cnr = record { header = header; cell_mask = cell_mask; rough_ms = rough_ms; rough_fraction = rough_fraction; fine_range = fine_range; fine_phase = fine_phase; lock_indicator = lock_indicator; half_cycle = half_cycle; cnr = cnr }

pub made : (m : Msm1074) → make m.header m.cell_mask m.rough_ms m.rough_fraction m.fine_range m.fine_phase m.lock_indicator m.half_cycle m.cnr ≡ m
unfolding make
made m = refl

pub is_unique : (m n : Msm1074) (a b : List Bool) → IsValid m → IsValid n → bits_of_fields (table m) ++ a ≡ bits_of_fields (table n) ++ b → m ≡ n
is_unique m n a b p q e =
    let l = p.lengths in
    let k = q.lengths in
    let s0 = peel (header_table m.header) (header_table n.header) (mask_table m ++ column_table m) (mask_table n ++ column_table n) a b (refl, (refl, (refl, (refl, (refl, (refl, (refl, (refl, (refl, tt))))))))) p.fields_fit q.fields_fit e in
    let header : m.header ≡ n.header = same_header m.header n.header s0.here in
    let sats : satellite_count m.header ≡ satellite_count n.header = ap satellite_count header in
    let sigs : signal_count m.header ≡ signal_count n.header = ap signal_count header in
    let s1 = peel_numbers (signal_count m.header) (signal_count n.header) m.cell_mask n.cell_mask (column_table m) (column_table n) a b sigs (l.cell_mask ∙ sats ∙ sym k.cell_mask) s0.left s0.right s0.after in
    let count : cell_count m ≡ cell_count n = ap (sum_by count_ones) s1.here in
    let s2 = peel_numbers 8 8 m.rough_ms n.rough_ms _ _ a b refl (l.rough_ms ∙ sats ∙ sym k.rough_ms) s1.left s1.right s1.after in
    let s3 = peel_numbers 10 10 m.rough_fraction n.rough_fraction _ _ a b refl (l.rough_fraction ∙ sats ∙ sym k.rough_fraction) s2.left s2.right s2.after in
    let s4 = peel_integers 15 m.fine_range n.fine_range _ _ a b (omega arith) (l.fine_range ∙ count ∙ sym k.fine_range) s3.left s3.right s3.after in
    let s5 = peel_integers 22 m.fine_phase n.fine_phase _ _ a b (omega arith) (l.fine_phase ∙ count ∙ sym k.fine_phase) s4.left s4.right s4.after in
    let s6 = peel_numbers 4 4 m.lock_indicator n.lock_indicator _ _ a b refl (l.lock_indicator ∙ count ∙ sym k.lock_indicator) s5.left s5.right s5.after in
    let s7 = peel_flags m.half_cycle n.half_cycle _ _ a b (l.half_cycle ∙ count ∙ sym k.half_cycle) s6.left s6.right s6.after in
    let cnr = last_numbers 6 m.cnr n.cnr a b (l.cnr ∙ count ∙ sym k.cnr) s7.left s7.right s7.after in
    let h1 = s1.here in let h2 = s2.here in let h3 = s3.here in let h4 = s4.here in let h5 = s5.here in let h6 = s6.here in let h7 = s7.here in
    let all : make m.header m.cell_mask m.rough_ms m.rough_fraction m.fine_range m.fine_phase m.lock_indicator m.half_cycle m.cnr ≡ make n.header n.cell_mask n.rough_ms n.rough_fraction n.fine_range n.fine_phase n.lock_indicator n.half_cycle n.cnr = cc in
    sym (made m) ∙ all ∙ made n
