-- The counts of a report: their lines tell them, and `epochs` is the number of records.
use Rattle.std.proofs.Common.{◌≡◌, ◌+◌, ◌/◌, ◌%◌, ◌<◌, ◌^◌, ◌==◌, ℕ, zero, suc, Bool, true, false, List, [], ◌∷◌, ◌++◌, length, length-append, codes, decimal, cond, refl, sym, ap, ◌∙◌, append_assoc, arith}
use Rattle.std.specs.Prelude.{flat_map, not, ◌&&◌, if◌then◌else◌}
use Rattle.std.specs.List.{count_by}
use Rattle.std.proofs.lemmas.Bool.{and_parts, and_from, both_ways, not-true, not_from_false, eq-eqb, ne_eqb}
use Rattle.std.proofs.lemmas.List.{append-nil, append_cancel_left}
use Rattle.std.proofs.lemmas.List.Concat.{flat_map-append}
use Rattle.std.proofs.lemmas.List.Sums.{sum_by_push, count_by-le-length}
use Rattle.rtk_message.specs.declared.system.System.{System}
use Rattle.rtk_message.specs.declared.system.System.TheVariants.{Gps, Glonass, Galileo, Beidou, Qzss, Sbas, Navic}
use Rattle.rtk_obs.specs.declared.any_code.AnyCode.{AnyCode}
use Rattle.rtk_obs.specs.SatelliteIndex.{letter_of}
use Rattle.rtk_collect.specs.Signals.{signals}
use Rattle.rtk_setup.specs.Setup.{SetupView, cells_by, is_of_gps, lists_system}
use Rattle.rtk_convert.specs.Slots.{is_without_channel, is_of_other_channel, any_tells}
use Rattle.rtk_obs.specs.declared.signal_cells.SignalEntry.{SignalEntry}
use Rattle.rtk_collect.specs.Accepted.{kept}
use Rattle.rtk_collect.specs.EpochSet.{EpochSetView}
use Rattle.rtk_rinex.specs.MixedTable.{MixedTable}
use Rattle.rtk_setup.specs.declared.counts.Counts.{Counts}
use Rattle.rtk_convert.specs.File.{record_of, records, one_more_if_any, record_count}
use Rattle.rtk_convert.specs.Finish.{all_counts, missing_letter, missing_letters, missing_lines, unphased_lines, remark_lines}
use Rattle.rtk_convert.specs.FrameClass.{Found, arrivals}
use Rattle.rtk_convert.specs.NumberLaws.{CountLinesTellCounts, ReportTellsCounts, record_texts, has_bytes, EpochsAreRecords, EpochsAreOfTable}
use Rattle.rtk_convert.specs.Report.{lines, has_taken}
use Rattle.rtk_convert.specs.ReportText.{channels_text, missing_line, shown_names, slot_name, slot_names, slots_line}
use Rattle.rtk_setup.specs.Counts.{count_line, count_lines}
use Rattle.rtk_convert.proofs.KeptTableLemmas.{kept-file-has_records}
use Rattle.rtk_message.proofs.PublicLaws.{number-then}

-- ---- what the lines tell

opened : (name digits rest : List ℕ) → (name ++ digits ++ 10 ∷ []) ++ rest ≡ name ++ (digits ++ 10 ∷ rest)
opened name digits rest = simp append_assoc

-- a count, and what stands behind its line
line-then : (name : List ℕ) (m n : ℕ) (s t : List ℕ) → m < 2 ^ 64 → n < 2 ^ 64 → count_line name m ++ s ≡ count_line name n ++ t → (m ≡ n) × (s ≡ t)
line-then name m n s t held fits same =
    number-then m n 10 s t held fits (λ digit. omega (arith, digit))
    (append_cancel_left name (decimal m ++ 10 ∷ s) (decimal n ++ 10 ∷ t) (sym (opened name (decimal m) s) ∙ same ∙ opened name (decimal n) t))

nine-regrouped : (a b c d e f g h k : List ℕ) → a ++ b ++ c ++ d ++ e ++ f ++ g ++ h ++ k ≡ a ++ (b ++ (c ++ (d ++ (e ++ (f ++ (g ++ (h ++ (k ++ []))))))))
nine-regrouped a b c d e f g h k = simp (append_assoc, append-nil)

lines-are : (c : Counts) → count_lines c ≡ count_line (codes "frames ") c.frames ++ (count_line (codes "other ") c.other ++ (count_line (codes "refused ") c.refused ++ (count_line (codes "foreign ") c.foreign ++ (count_line (codes "taken ") c.taken ++ (count_line (codes "repeat ") c.repeat ++ (count_line (codes "conflict ") c.conflict ++ (count_line (codes "late ") c.late ++ (count_line (codes "epochs ") c.epochs ++ []))))))))
unfolding count_lines
lines-are c =
    nine-regrouped (count_line (codes "frames ") c.frames) (count_line (codes "other ") c.other) (count_line (codes "refused ") c.refused) (count_line (codes "foreign ") c.foreign) (count_line (codes "taken ") c.taken) (count_line (codes "repeat ") c.repeat) (count_line (codes "conflict ") c.conflict) (count_line (codes "late ") c.late) (count_line (codes "epochs ") c.epochs)

pub lines-tell : CountLinesTellCounts
lines-tell c d held fits same =
    let frames = line-then (codes "frames ") c.frames d.frames _ _ held.frames fits.frames (sym (lines-are c) ∙ same ∙ lines-are d) in
    let other = line-then (codes "other ") c.other d.other _ _ held.other fits.other frames.1 in
    let refused = line-then (codes "refused ") c.refused d.refused _ _ held.refused fits.refused other.1 in
    let foreign = line-then (codes "foreign ") c.foreign d.foreign _ _ held.foreign fits.foreign refused.1 in
    let taken = line-then (codes "taken ") c.taken d.taken _ _ held.taken fits.taken foreign.1 in
    let repeat = line-then (codes "repeat ") c.repeat d.repeat _ _ held.repeat fits.repeat taken.1 in
    let conflict = line-then (codes "conflict ") c.conflict d.conflict _ _ held.conflict fits.conflict repeat.1 in
    let late = line-then (codes "late ") c.late d.late _ _ held.late fits.late conflict.1 in
    let epochs = line-then (codes "epochs ") c.epochs d.epochs _ _ held.epochs fits.epochs late.1 in
    λ i. record {
      frames = frames.0 i;
      other = other.0 i;
      refused = refused.0 i;
      foreign = foreign.0 i;
      taken = taken.0 i;
      repeat = repeat.0 i;
      conflict = conflict.0 i;
      late = late.0 i;
      epochs = epochs.0 i;
    }

-- ---- the lines between those of frames and the counts

-- no end of a line is in a text
abbrev no_end : List ℕ → Bool
no_end [] = true
no_end (b ∷ text) = not (b == 10) && no_end text

joined-no_end : (x y : List ℕ) → no_end x ≡ true → no_end y ≡ true → no_end (x ++ y) ≡ true
joined-no_end [] y h k = k
joined-no_end (b ∷ x) y h k =
    let p = and_parts (not (b == 10)) (no_end x) h in
    and_from (not (b == 10)) (no_end (x ++ y)) p.0 (joined-no_end x y p.1 k)

is-end : (b : ℕ) (text : List ℕ) → no_end (b ∷ text) ≡ true → b ≡ 10 → ⊥
is-end b text h is = both_ways (b == 10) (not-true (b == 10) (and_parts (not (b == 10)) (no_end text) h).0) (eq-eqb b 10 is)

not-end : (b : ℕ) → (b ≡ 10 → ⊥) → not (b == 10) ≡ true
not-end b other = not_from_false (b == 10) (ne_eqb b 10 other)

-- behind lines of equal texts stand equal texts
after-line : (x y s t : List ℕ) → no_end x ≡ true → no_end y ≡ true → x ++ 10 ∷ s ≡ y ++ 10 ∷ t → s ≡ t
after-line [] [] s t h k same = cc
after-line [] (b ∷ y) s t h k same = let is : b ≡ 10 = cc in absurd (is-end b y k is)
after-line (a ∷ x) [] s t h k same = let is : a ≡ 10 = cc in absurd (is-end a x h is)
after-line (a ∷ x) (b ∷ y) s t h k same =
    let rest : x ++ 10 ∷ s ≡ y ++ 10 ∷ t = cc in
    after-line x y s t (and_parts (not (a == 10)) (no_end x) h).1 (and_parts (not (b == 10)) (no_end y) k).1 rest

digit-no_end : (tens ones : ℕ) → no_end (32 ∷ 82 ∷ (48 + tens) ∷ (48 + ones) ∷ []) ≡ true
digit-no_end tens ones =
    and_from (not ((48 + tens) == 10)) (not ((48 + ones) == 10) && true) (not-end (48 + tens) (λ e. omega (arith, e)))
    (and_from (not ((48 + ones) == 10)) true (not-end (48 + ones) (λ e. omega (arith, e))) refl)

name-if : (b : Bool) (slot : ℕ) → no_end (if b then slot_name slot else []) ≡ true
name-if true slot = digit-no_end (slot / 10 % 10) (slot % 10)
name-if false slot = refl

names-no_end : (test : ℕ → Bool) (n : ℕ) → no_end (slot_names test n) ≡ true
names-no_end test zero = refl
names-no_end test (suc n) =
    joined-no_end (slot_names test n) (if test (suc n) then slot_name (suc n) else []) (names-no_end test n) (name-if (test (suc n)) (suc n))

shown-no_end : (names : List ℕ) → no_end names ≡ true → no_end (shown_names names) ≡ true
shown-no_end [] h = refl
shown-no_end (x ∷ names) h = h

-- what stands behind lines of slots
after-slots : (name x y s t : List ℕ) → no_end name ≡ true → no_end x ≡ true → no_end y ≡ true → slots_line name x ++ s ≡ slots_line name y ++ t → s ≡ t
after-slots name x y s t named h k same =
    after-line (name ++ shown_names x) (name ++ shown_names y) s t
    (joined-no_end name (shown_names x) named (shown-no_end x h)) (joined-no_end name (shown_names y) named (shown-no_end y k))
    (sym (append_assoc (name ++ shown_names x) (10 ∷ []) s) ∙ same ∙ append_assoc (name ++ shown_names y) (10 ∷ []) t)

after-unphased : (b : Bool) (p q u v : ℕ → Bool) (s t : List ℕ)
    → (if b then channels_text p q else []) ++ s ≡ (if b then channels_text u v else []) ++ t → s ≡ t
after-unphased false p q u v s t same = same
after-unphased true p q u v s t same =
    let other : List ℕ = codes "other-channel" in
    let none : List ℕ = codes "no-channel" in
    after-slots none (slot_names q 27) (slot_names v 27) s t refl (names-no_end q 27) (names-no_end v 27)
    (after-slots other (slot_names p 27) (slot_names u 27) (slots_line none (slot_names q 27) ++ s) (slots_line none (slot_names v 27) ++ t) refl (names-no_end p 27) (names-no_end u 27)
    (sym (append_assoc (slots_line other (slot_names p 27)) (slots_line none (slot_names q 27)) s) ∙ same
    ∙ append_assoc (slots_line other (slot_names u 27)) (slots_line none (slot_names v 27)) t))

letter-no_end : (system : System) → no_end (32 ∷ letter_of system ∷ []) ≡ true
letter-no_end Gps = refl
letter-no_end Glonass = refl
letter-no_end Galileo = refl
letter-no_end Beidou = refl
letter-no_end Qzss = refl
letter-no_end Sbas = refl
letter-no_end Navic = refl

letter-if : (b : Bool) (system : System) → no_end (if b then 32 ∷ letter_of system ∷ [] else []) ≡ true
letter-if true system = letter-no_end system
letter-if false system = refl

seven-no_end : (a b c d e f g : List ℕ) → no_end a ≡ true → no_end b ≡ true → no_end c ≡ true → no_end d ≡ true → no_end e ≡ true → no_end f ≡ true → no_end g ≡ true
    → no_end (a ++ b ++ c ++ d ++ e ++ f ++ g) ≡ true
seven-no_end a b c d e f g h1 h2 h3 h4 h5 h6 h7 =
    joined-no_end (a ++ b ++ c ++ d ++ e ++ f) g
    (joined-no_end (a ++ b ++ c ++ d ++ e) f (joined-no_end (a ++ b ++ c ++ d) e (joined-no_end (a ++ b ++ c) d (joined-no_end (a ++ b) c (joined-no_end a b h1 h2) h3) h4) h5) h6) h7

letters-no_end : (s : SetupView) (found : List Found) → no_end (missing_letters s found) ≡ true
letters-no_end s found =
    let letter = λ (system : System). letter-if (lists_system s.head.listed system && not (has_taken s system found)) system in
    seven-no_end (missing_letter s found Gps) (missing_letter s found Glonass) (missing_letter s found Galileo) (missing_letter s found Beidou)
    (missing_letter s found Qzss) (missing_letter s found Sbas) (missing_letter s found Navic)
    (letter Gps) (letter Glonass) (letter Galileo) (letter Beidou) (letter Qzss) (letter Sbas) (letter Navic)

-- the first byte of a text
abbrev first_byte : List ℕ → ℕ
first_byte [] = 0
first_byte (b ∷ text) = b

-- behind the line of systems stands what begins with another letter
after-missing-line : (x y s t : List ℕ) → no_end x ≡ true → no_end y ≡ true → first_byte s ≡ 102 → first_byte t ≡ 102 → missing_line x ++ s ≡ missing_line y ++ t → s ≡ t
after-missing-line [] [] s t h k f g same = same
after-missing-line [] (b ∷ y) s t h k f g same = absurd (omega (arith, f, ap first_byte same))
after-missing-line (a ∷ x) [] s t h k f g same = absurd (omega (arith, g, ap first_byte same))
after-missing-line (a ∷ x) (b ∷ y) s t h k f g same =
    let name : List ℕ = codes "no-message" in
    after-line (name ++ a ∷ x) (name ++ b ∷ y) s t (joined-no_end name (a ∷ x) refl h) (joined-no_end name (b ∷ y) refl k)
    (sym (append_assoc (name ++ a ∷ x) (10 ∷ []) s) ∙ same ∙ append_assoc (name ++ b ∷ y) (10 ∷ []) t)

after-missing : (b : Bool) (x y s t : List ℕ) → no_end x ≡ true → no_end y ≡ true → first_byte s ≡ 102 → first_byte t ≡ 102
    → (if b then [] else missing_line x) ++ s ≡ (if b then [] else missing_line y) ++ t → s ≡ t
after-missing true x y s t h k f g same = same
after-missing false x y s t h k f g same = after-missing-line x y s t h k f g same

counts-first : (c : Counts) → first_byte (count_lines c) ≡ 102
counts-first c = ap first_byte (lines-are c)

pub report-tells : ReportTellsCounts
report-tells s found other held fits before same =
    let c = count_lines (all_counts s found) in
    let d = count_lines (all_counts s other) in
    let rest : remark_lines s found ++ c ≡ remark_lines s other ++ d =
    append_cancel_left (lines s found) (remark_lines s found ++ c) (remark_lines s other ++ d) (same ∙ ap (λ (text : List ℕ). text ++ (remark_lines s other ++ d)) (sym before)) in
    let systems : missing_lines s found ++ c ≡ missing_lines s other ++ d =
    after-unphased (lists_system s.head.listed Glonass) (λ slot. any_tells is_of_other_channel s slot found) (λ slot. any_tells is_without_channel s slot found)
    (λ slot. any_tells is_of_other_channel s slot other) (λ slot. any_tells is_without_channel s slot other) (missing_lines s found ++ c) (missing_lines s other ++ d)
    (sym (append_assoc (unphased_lines s found) (missing_lines s found) c) ∙ rest ∙ append_assoc (unphased_lines s other) (missing_lines s other) d) in
    lines-tell (all_counts s found) (all_counts s other) held fits
    (after-missing (is_of_gps s) (missing_letters s found) (missing_letters s other) c d (letters-no_end s found) (letters-no_end s other)
    (counts-first (all_counts s found)) (counts-first (all_counts s other)) systems)

-- ---- the count of records

-- one more text
more-counted : (text : List ℕ) (texts : List (List ℕ)) (count : ℕ) → count ≡ count_by has_bytes texts → suc (length texts) < 2 ^ 64
    → one_more_if_any text count ≡ count_by has_bytes (texts ++ text ∷ [])
more-counted [] texts count is few =
    let one = sum_by_push (λ (text : List ℕ). cond (has_bytes text) 1 0) texts [] in omega (arith, is, one)
more-counted (x ∷ text) texts count is few =
    let one = sum_by_push (λ (text : List ℕ). cond (has_bytes text) 1 0) texts (x ∷ text) in
    let most = count_by-le-length has_bytes texts in
    omega (arith, is, one, most, few)

as-many : (doppler : Bool) (listed : List AnyCode) (epochs : List (EpochSetView SignalEntry)) → length (record_texts doppler listed epochs) ≡ length epochs
as-many doppler listed [] = refl
as-many doppler listed (e ∷ below) =
    let before = as-many doppler listed below in
    let more = length-append (record_texts doppler listed below) (record_of doppler listed e below ∷ []) in
    omega (arith, before, more)

records-counted : (doppler : Bool) (listed : List AnyCode) (epochs : List (EpochSetView SignalEntry)) → length epochs < 2 ^ 64 → record_count doppler listed epochs ≡ count_by has_bytes (record_texts doppler listed epochs)
unfolding record_count
records-counted doppler listed [] few = refl
records-counted doppler listed (e ∷ below) few =
    let size = as-many doppler listed below in
    more-counted (record_of doppler listed e below) (record_texts doppler listed below) (record_count doppler listed below) (records-counted doppler listed below (omega (arith, few))) (omega (arith, few, size))

records-joined : (doppler : Bool) (listed : List AnyCode) (epochs : List (EpochSetView SignalEntry)) → records doppler listed epochs ≡ flat_map (λ text. text) (record_texts doppler listed epochs)
unfolding records
records-joined doppler listed [] = refl
records-joined doppler listed (e ∷ below) =
    let text : List ℕ = record_of doppler listed e below in
    let before : List (List ℕ) = record_texts doppler listed below in
    ap (λ (t : List ℕ). t ++ text) (records-joined doppler listed below)
    ∙ ap (λ (t : List ℕ). flat_map (λ (x : List ℕ). x) before ++ t) (sym (append-nil text))
    ∙ sym (flat_map-append (λ (x : List ℕ). x) before (text ∷ []))

pub epochs-are : EpochsAreRecords
epochs-are s found few =
    record { file = records-joined s.head.doppler s.head.listed (kept signals (cells_by s) s.window (arrivals found)); counted = records-counted s.head.doppler s.head.listed (kept signals (cells_by s) s.window (arrivals found)) few }

pub epochs-of-table : EpochsAreOfTable
epochs-of-table s found epochs satellites good_setup h few holds =
    let file = kept-file-has_records s found good_setup h in
    let one : file.0 ≡ holds.table = holds.only file.0 file.1 file.2 in
    sym (file.3 few) ∙ ap (λ (t : MixedTable). length t.epochs) one ∙ holds.epochs
