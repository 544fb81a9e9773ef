-- The lines of a station, of what is not read, and the whole summary tell their counts.
use Rattle.std.proofs.Common.{◌≡◌, ◌≤◌, ◌<◌, ◌+◌, ◌-◌, ◌^◌, ◌==◌, ℕ, zero, suc, Bool, true, List, [], ◌∷◌, ◌++◌, length, take, codes, Option, None, Some, refl, sym, ◌∙◌, append_assoc, inl, inr, arith}
use Rattle.std.specs.List.{AllByRecursion, count_by, range_with_len, cons_option}
use Rattle.std.proofs.lemmas.Bool.{cases_Bool, eqb-true, eqb-false}
use Rattle.std.proofs.lemmas.List.{append-nil}
use Rattle.std.proofs.lemmas.List.Sums.{count_by-le-length}
use Rattle.rtk_message.specs.declared.any_message.AnyMessage.{AnyMessage}
use Rattle.rtk_message.specs.declared.any_fault.AnyFault.{AnyFault}
use Rattle.rtk_survey.specs.BesideGps.{cells_beside, has_index, has_any_code}
use Rattle.rtk_survey.specs.Chains.{clocks_of}
use Rattle.rtk_survey.specs.Channels.{place_is_told}
use Rattle.rtk_survey.specs.UncheckedClocks.{all_clock_lines}
use Rattle.rtk_survey.specs.Counting.{shown_count, count_of}
use Rattle.rtk_survey.specs.NumberLaws.{SummaryTellsFrames, StationLinesTell, UnreadLinesTell}
use Rattle.rtk_survey.specs.Proposal.{epochs_with_value, entries_with}
use Rattle.rtk_survey.specs.ReadFrames.{ReadFrame, bytes_in, messages_in, faults_in}
use Rattle.rtk_survey.specs.declared.equipment.Equipment.{Equipment}
use Rattle.rtk_survey.specs.FrameDates.{dates_in, proposed_date}
use Rattle.rtk_survey.specs.FrameEquipment.{equipment_among, told_lines}
use Rattle.rtk_survey.specs.NextCommand.{station_proposal}
use Rattle.rtk_survey.specs.Summary.{all_numbers, epochs_beside, taken_beside, glonass_beside, systems_clocked, station_lines, stations_text, weeks_text, system_weeks_text, unread_lines, summary_text}
use Rattle.rtk_survey.specs.SystemTellings.{system_messages_in}
use Rattle.rtk_survey.specs.declared.station_dates.StationDates.{StationDates}
use Rattle.rtk_survey.specs.SummaryText.{number_line, counted_line, message_numbers, message_lines, system_epoch_lines, channel_line, time_lines, look_line, near_text, signal_lines, all_codes_text, nothing_line, untaken_numbers}
use Rattle.rtk_survey.specs.Tracing.{is_numbered, is_other, is_short, is_outside_week, is_no_number, is_too_many_cells, gps_time_of, times_of_week, entries_in, has_satellite, has_code}
use Rattle.rtk_survey.proofs.HeadLemmas.{differ, apart, IsNotHeaded, not-headed-line, not-headed-table, line-then, counted-then, lines_by_number, NumbersRise, FirstIsAbove, table-then}
use Rattle.rtk_survey.proofs.LineTellingLemmas.{times-then, not-headed-times}

-- ---- a count of those that pass a test

count-told : {X : Type 0} (p q : X → Bool) (xs ys : List X) → length xs < 2 ^ 64 → length ys < 2 ^ 64 → count_of p xs ≡ count_of q ys → count_by p xs ≡ count_by q ys
count-told p q xs ys few less same =
    let here = count_by-le-length p xs in
    let there = count_by-le-length q ys in
    omega (arith, same, here, there, few, less)

pub each-weaker : (P Q : ℕ → Type 0) (ns : List ℕ) → ((n : ℕ) → P n → Q n) → AllByRecursion P ns → AllByRecursion Q ns
each-weaker P Q [] step all = tt
each-weaker P Q (n ∷ ns) step all = (step n all.0, each-weaker P Q ns step all.1)

-- ---- a station

one-more : (o : Option ℕ) (ts : List ℕ) → length (cons_option o ts) ≤ suc (length ts)
one-more None ts = omega arith
one-more (Some t) ts = omega arith

times-few : (ms : List AnyMessage) → length (times_of_week ms) ≤ length ms
times-few [] = omega arith
times-few (m ∷ ms) =
    let few = times-few ms in
    let one = one-more (gps_time_of m) (times_of_week ms) in
    omega (arith, few, one)

-- the lines of a station in their groups
grouped : (n m t w s e c k p : List ℕ) → n ++ m ++ t ++ w ++ s ++ e ++ c ++ k ++ p ≡ n ++ (m ++ (t ++ (w ++ s ++ e ++ c ++ k ++ p)))
grouped n m t w s e c k p = simp append_assoc

messages-rise : NumbersRise message_numbers
messages-rise =
    (omega arith, omega arith, (omega arith, omega arith, (omega arith, omega arith, (omega arith, omega arith, (omega arith, omega arith, (omega arith, omega arith, (omega arith, omega arith, (omega arith, omega arith, (omega arith, omega arith, (omega arith, omega arith, (omega arith, omega arith, (omega arith, omega arith, (omega arith, omega arith, (omega arith, omega arith, (omega arith, omega arith, (omega arith, omega arith, (omega arith, omega arith, (omega arith, omega arith, (omega arith, omega arith, (omega arith, omega arith, (omega arith, omega arith, (omega arith, omega arith, (omega arith, omega arith, (omega arith, omega arith, (omega arith, omega arith, (omega arith, omega arith, (omega arith, omega arith, (omega arith, omega arith, (omega arith, omega arith, (omega arith, omega arith, (omega arith, omega arith, (omega arith, tt, tt))))))))))))))))))))))))))))))))

-- what stands behind the times
behind_times : List ℕ → ℕ → List AnyMessage → StationDates → Equipment → List ℕ
behind_times name station ms d e =
    told_lines d e ++ signal_lines (has_satellite (entries_in ms)) (has_code (entries_in ms)) (has_index (cells_beside ms)) (has_any_code (cells_beside ms))
    ++ system_epoch_lines (epochs_beside ms)
    ++ channel_line (place_is_told ms)
    ++ all_clock_lines (proposed_date d) (systems_clocked ms) (clocks_of ms).offsets
    ++ station_proposal name (near_text (proposed_date d)) station (λ kind. epochs_with_value kind ms) (λ kind. has_code (entries_with kind ms)) (epochs_beside ms) (taken_beside (proposed_date d) ms) (glonass_beside (proposed_date d) ms)

station-is : (name : List ℕ) (station : ℕ) (ms : List AnyMessage) (d : StationDates) (e : Equipment) → station_lines name station ms d e
    ≡ number_line (codes "station ") station
    ++ (lines_by_number (codes " message ") (λ n. count_of (is_numbered n) ms) message_numbers
    ++ (time_lines (times_of_week ms) ++ behind_times name station ms d e))
unfolding station_lines message_lines behind_times
station-is name station ms d e =
    grouped (number_line (codes "station ") station) (lines_by_number (codes " message ") (λ n. count_of (is_numbered n) ms) message_numbers)
    (time_lines (times_of_week ms)) (told_lines d e) (signal_lines (has_satellite (entries_in ms)) (has_code (entries_in ms)) (has_index (cells_beside ms)) (has_any_code (cells_beside ms)))
    (system_epoch_lines (epochs_beside ms)) (channel_line (place_is_told ms)) (all_clock_lines (proposed_date d) (systems_clocked ms) (clocks_of ms).offsets)
    (station_proposal name (near_text (proposed_date d)) station (λ kind. epochs_with_value kind ms) (λ kind. has_code (entries_with kind ms)) (epochs_beside ms) (taken_beside (proposed_date d) ms) (glonass_beside (proposed_date d) ms))

pub station-tells : StationLinesTell
station-tells name names station other ms ns d dates e equipment held fits few less times alike same =
    let numbers : List ℕ = message_numbers in
    let f : ℕ → ℕ = λ n. count_of (is_numbered n) ms in
    let g : ℕ → ℕ = λ n. count_of (is_numbered n) ns in
    let left : List ℕ = time_lines (times_of_week ms) ++ behind_times name station ms d e in
    let right : List ℕ = time_lines (times_of_week ns) ++ behind_times names other ns dates equipment in
    let number = line-then (codes "station ") station other (lines_by_number (codes " message ") f numbers ++ left) (lines_by_number (codes " message ") g numbers ++ right) held fits
    (sym (station-is name station ms d e) ∙ same ∙ station-is names other ns dates equipment) in
    let words = apart (codes " message ") (codes " time-of-week ") refl in
    let counts = table-then (codes " message ") f g numbers left right messages-rise (λ n. omega arith) (λ n. omega arith)
    (not-headed-times (codes " message ") (times_of_week ms) (behind_times name station ms d e) words) (not-headed-times (codes " message ") (times_of_week ns) (behind_times names other ns dates equipment) words) number.1 in
    let here = times-few ms in
    let there = times-few ns in
    let shown = times-then (times_of_week ms) (times_of_week ns) (behind_times name station ms d e) (behind_times names other ns dates equipment) times alike (omega (arith, here, few)) (omega (arith, there, less)) counts.1 in
    record {
      number = number.0;
      counts = each-weaker (λ n. f n ≡ g n) (λ n. count_by (is_numbered n) ms ≡ count_by (is_numbered n) ns) numbers
          (λ n told. count-told (is_numbered n) (is_numbered n) ms ns few less told) counts.0;
      times = shown.0;
    }

-- ---- what is not read

next-above : (a k : ℕ) → FirstIsAbove a (range_with_len (a + 1) k)
next-above a zero = tt
next-above a (suc k) = omega arith

range-rises : (a k : ℕ) → a + k < 2 ^ 64 → NumbersRise (range_with_len a k)
range-rises a zero within = tt
range-rises a (suc k) within = (omega (arith, within), next-above a k, range-rises (a + 1) k (omega (arith, within)))

all-rise : NumbersRise all_numbers
unfolding all_numbers
all-rise = range-rises 0 4096 (omega arith)

untaken-rise : NumbersRise untaken_numbers
untaken-rise = (omega arith, omega arith, (omega arith, omega arith, (omega arith, omega arith, (omega arith, omega arith, (omega arith, omega arith, (omega arith, tt, tt))))))

at-number : (P : ℕ → Type 0) (a k n : ℕ) → AllByRecursion P (range_with_len a k) → a ≤ n → n < a + k → P n
at-number P a zero n all low high = absurd (omega (arith, low, high))
at-number P a (suc k) n all low high = elim (cases_Bool (a == n)) [
  | inl is ↦ let here : a ≡ n = eqb-true a n is in rw (← here) all.0
  | inr fails ↦ let other = eqb-false a n fails in at-number P (a + 1) k n all.1 (omega (arith, low, other)) (omega (arith, high))
]

pub of-all : (P : ℕ → Type 0) → AllByRecursion P all_numbers → (n : ℕ) → n < 4096 → P n
unfolding all_numbers
of-all P all n within = at-number P 0 4096 n all (omega arith) (omega (arith, within))

-- the lines of faults, the last first
lines_m5 : List AnyFault → List ℕ
lines_m5 fs = lines_by_number (codes "refused M5 ") (λ n. count_of (is_too_many_cells n) fs) all_numbers ++ []

lines_m4 : List AnyFault → List ℕ
lines_m4 fs = lines_by_number (codes "refused M4 ") (λ n. count_of (is_outside_week n) fs) all_numbers ++ lines_m5 fs

lines_m3 : List AnyFault → List ℕ
lines_m3 fs = lines_by_number (codes "refused M3 ") (λ n. count_of (is_short n) fs) all_numbers ++ lines_m4 fs

lines_m1 : List AnyFault → List ℕ
lines_m1 fs = counted_line (codes "refused M1 - ") (count_of is_no_number fs) ++ lines_m3 fs

lines_untaken : List AnyFault → List ℕ
lines_untaken fs = lines_by_number (codes "untaken GPS ") (λ n. count_of (is_other n) fs) untaken_numbers ++ lines_m1 fs

-- none of them begins with words that differ from theirs
not-m5 : (w : List ℕ) (fs : List AnyFault) → differ w (codes "refused M5 ") ≡ true → IsNotHeaded w [] → IsNotHeaded w (lines_m5 fs)
unfolding lines_m5
not-m5 w fs five end = not-headed-table w (codes "refused M5 ") (λ n. count_of (is_too_many_cells n) fs) all_numbers [] (apart w (codes "refused M5 ") five) end

not-m4 : (w : List ℕ) (fs : List AnyFault) → differ w (codes "refused M4 ") ≡ true → IsNotHeaded w (lines_m5 fs) → IsNotHeaded w (lines_m4 fs)
unfolding lines_m4
not-m4 w fs four behind = not-headed-table w (codes "refused M4 ") (λ n. count_of (is_outside_week n) fs) all_numbers (lines_m5 fs) (apart w (codes "refused M4 ") four) behind

not-m3 : (w : List ℕ) (fs : List AnyFault) → differ w (codes "refused M3 ") ≡ true → IsNotHeaded w (lines_m4 fs) → IsNotHeaded w (lines_m3 fs)
unfolding lines_m3
not-m3 w fs three behind = not-headed-table w (codes "refused M3 ") (λ n. count_of (is_short n) fs) all_numbers (lines_m4 fs) (apart w (codes "refused M3 ") three) behind

not-m1 : (w : List ℕ) (fs : List AnyFault) → differ w (codes "refused M1 - ") ≡ true → IsNotHeaded w (lines_m3 fs) → IsNotHeaded w (lines_m1 fs)
unfolding lines_m1
not-m1 w fs one behind = not-headed-line w (codes "refused M1 - ") (count_of is_no_number fs) (lines_m3 fs) (apart w (codes "refused M1 - ") one) behind

not-untaken : (w : List ℕ) (fs : List AnyFault) → differ w (codes "untaken GPS ") ≡ true → IsNotHeaded w (lines_m1 fs) → IsNotHeaded w (lines_untaken fs)
unfolding lines_untaken
not-untaken w fs other behind = not-headed-table w (codes "untaken GPS ") (λ n. count_of (is_other n) fs) untaken_numbers (lines_m1 fs) (apart w (codes "untaken GPS ") other) behind

behind-m3 : (fs : List AnyFault) → IsNotHeaded (codes "refused M3 ") (lines_m4 fs)
behind-m3 fs = not-m4 (codes "refused M3 ") fs refl (not-m5 (codes "refused M3 ") fs refl (λ rest is. cc))

behind-m1 : (fs : List AnyFault) → IsNotHeaded (codes "refused M1 - ") (lines_m3 fs)
behind-m1 fs = not-m3 (codes "refused M1 - ") fs refl (not-m4 (codes "refused M1 - ") fs refl (not-m5 (codes "refused M1 - ") fs refl (λ rest is. cc)))

behind-untaken : (fs : List AnyFault) → IsNotHeaded (codes "untaken GPS ") (lines_m1 fs)
behind-untaken fs =
    not-m1 (codes "untaken GPS ") fs refl (not-m3 (codes "untaken GPS ") fs refl (not-m4 (codes "untaken GPS ") fs refl (not-m5 (codes "untaken GPS ") fs refl (λ rest is. cc))))

behind-others : (fs : List AnyFault) → IsNotHeaded (codes "other ") (lines_untaken fs)
behind-others fs =
    not-untaken (codes "other ") fs refl (not-m1 (codes "other ") fs refl (not-m3 (codes "other ") fs refl (not-m4 (codes "other ") fs refl (not-m5 (codes "other ") fs refl (λ rest is. cc)))))

unread-grouped : (o u c a b d : List ℕ) → o ++ u ++ c ++ a ++ b ++ d ≡ o ++ (u ++ (c ++ (a ++ (b ++ (d ++ [])))))
unread-grouped o u c a b d = simp (append_assoc, append-nil)

unread-is : (fs : List AnyFault) → unread_lines fs ≡ lines_by_number (codes "other ") (λ n. count_of (is_other n) fs) all_numbers ++ lines_untaken fs
unfolding unread_lines lines_untaken lines_m1 lines_m3 lines_m4 lines_m5
unread-is fs =
    unread-grouped (lines_by_number (codes "other ") (λ n. count_of (is_other n) fs) all_numbers)
    (lines_by_number (codes "untaken GPS ") (λ n. count_of (is_other n) fs) untaken_numbers)
    (counted_line (codes "refused M1 - ") (count_of is_no_number fs))
    (lines_by_number (codes "refused M3 ") (λ n. count_of (is_short n) fs) all_numbers)
    (lines_by_number (codes "refused M4 ") (λ n. count_of (is_outside_week n) fs) all_numbers)
    (lines_by_number (codes "refused M5 ") (λ n. count_of (is_too_many_cells n) fs) all_numbers)

-- the counts by number of those that pass a test
by-number : (words : List ℕ) (test : ℕ → AnyFault → Bool) (fs gs : List AnyFault) (s t : List ℕ) → length fs < 2 ^ 64 → length gs < 2 ^ 64 → IsNotHeaded words s → IsNotHeaded words t
    → lines_by_number words (λ n. count_of (test n) fs) all_numbers ++ s ≡ lines_by_number words (λ n. count_of (test n) gs) all_numbers ++ t
    → ((n : ℕ) → n < 4096 → count_by (test n) fs ≡ count_by (test n) gs) × (s ≡ t)
by-number words test fs gs s t few less here there same =
    let f : ℕ → ℕ = λ n. count_of (test n) fs in
    let g : ℕ → ℕ = λ n. count_of (test n) gs in
    let told = table-then words f g all_numbers s t all-rise (λ n. omega arith) (λ n. omega arith) here there same in
    (λ n within. count-told (test n) (test n) fs gs few less (of-all (λ n. f n ≡ g n) told.0 n within), told.1)

pub unread-tells : UnreadLinesTell
unfolding lines_untaken lines_m1 lines_m3 lines_m4 lines_m5
unread-tells fs gs few less same =
    let others = by-number (codes "other ") is_other fs gs (lines_untaken fs) (lines_untaken gs) few less (behind-others fs) (behind-others gs) (sym (unread-is fs) ∙ same ∙ unread-is gs) in
    let untaken = table-then (codes "untaken GPS ") (λ n. count_of (is_other n) fs) (λ n. count_of (is_other n) gs) untaken_numbers (lines_m1 fs) (lines_m1 gs) untaken-rise
    (λ n. omega arith) (λ n. omega arith) (behind-untaken fs) (behind-untaken gs) others.1 in
    let one = counted-then (codes "refused M1 - ") (count_of is_no_number fs) (count_of is_no_number gs) (lines_m3 fs) (lines_m3 gs) (omega arith) (omega arith) (behind-m1 fs) (behind-m1 gs) untaken.1 in
    let three = by-number (codes "refused M3 ") is_short fs gs (lines_m4 fs) (lines_m4 gs) few less (behind-m3 fs) (behind-m3 gs) one.1 in
    let four = by-number (codes "refused M4 ") is_outside_week fs gs (lines_m5 fs) (lines_m5 gs) few less
    (not-m5 (codes "refused M4 ") fs refl (λ rest is. cc)) (not-m5 (codes "refused M4 ") gs refl (λ rest is. cc)) three.1 in
    let five = by-number (codes "refused M5 ") is_too_many_cells fs gs [] [] few less (λ rest is. cc) (λ rest is. cc) four.1 in
    record {
      others = others.0;
      no_number = count-told is_no_number is_no_number fs gs few less one.0;
      short = three.0;
      outside_week = four.0;
      too_many_cells = five.0;
    }

-- ---- the whole

-- what stands behind the three numbers of the frames
behind_frames : List ℕ → List ℕ → List ReadFrame → List ℕ
behind_frames name bytes fs =
    look_line (length fs) (take 512 bytes)
    ++ stations_text name (messages_in fs) (dates_in fs) (equipment_among fs) ++ weeks_text (dates_in fs) ++ system_weeks_text (system_messages_in fs) ++ unread_lines (faults_in fs) ++ nothing_line (all_codes_text (has_code (entries_in (messages_in fs))) (has_any_code (cells_beside (messages_in fs))))

frames-few : (fs : List ReadFrame) → length fs ≤ bytes_in fs
frames-few [] = omega arith
frames-few (f ∷ before) = let few = frames-few before in omega (arith, few)

whole-grouped : (a b c l s w v u n : List ℕ) → (a ++ b ++ c) ++ l ++ s ++ w ++ v ++ u ++ n ≡ a ++ (b ++ (c ++ (l ++ s ++ w ++ v ++ u ++ n)))
whole-grouped a b c l s w v u n = simp append_assoc

outside : ℕ → List ReadFrame → ℕ
outside size fs = shown_count size - shown_count (bytes_in fs)

whole-is : (name bytes : List ℕ) (fs : List ReadFrame) → summary_text name bytes fs
    ≡ number_line (codes "bytes ") (shown_count (length bytes))
    ++ (number_line (codes "outside-frames ") (outside (length bytes) fs) ++ (number_line (codes "frames ") (shown_count (length fs)) ++ behind_frames name bytes fs))
unfolding summary_text behind_frames outside
whole-is name bytes fs =
    whole-grouped (number_line (codes "bytes ") (shown_count (length bytes))) (number_line (codes "outside-frames ") (outside (length bytes) fs)) (number_line (codes "frames ") (shown_count (length fs)))
    (look_line (length fs) (take 512 bytes)) (stations_text name (messages_in fs) (dates_in fs) (equipment_among fs)) (weeks_text (dates_in fs)) (system_weeks_text (system_messages_in fs)) (unread_lines (faults_in fs)) (nothing_line (all_codes_text (has_code (entries_in (messages_in fs))) (has_any_code (cells_beside (messages_in fs)))))

pub summary-tells : SummaryTellsFrames
unfolding outside
summary-tells name names text other fs gs held fits within inside same =
    let size : ℕ = length text in
    let sizes_there : ℕ = length other in
    let frames : List ℕ → List ℕ → List ReadFrame → List ℕ = λ n b hs. number_line (codes "frames ") (shown_count (length hs)) ++ behind_frames n b hs in
    let bytes = line-then (codes "bytes ") (shown_count size) (shown_count sizes_there)
    (number_line (codes "outside-frames ") (outside size fs) ++ frames name text fs) (number_line (codes "outside-frames ") (outside sizes_there gs) ++ frames names other gs) (omega arith) (omega arith)
    (sym (whole-is name text fs) ∙ same ∙ whole-is names other gs) in
    let rest = line-then (codes "outside-frames ") (outside size fs) (outside sizes_there gs) (frames name text fs) (frames names other gs) (omega arith) (omega arith) bytes.1 in
    let count = line-then (codes "frames ") (shown_count (length fs)) (shown_count (length gs)) (behind_frames name text fs) (behind_frames names other gs) (omega arith) (omega arith) rest.1 in
    let few = frames-few fs in
    let less = frames-few gs in
    let sizes : size ≡ sizes_there = omega (arith, bytes.0, held, fits) in
    let in_frames : bytes_in fs ≡ bytes_in gs = omega (arith, rest.0, held, fits, within, inside, sizes) in
    record { bytes = sizes; framed = in_frames; frames = omega (arith, count.0, few, less, within, inside, held, fits) }
