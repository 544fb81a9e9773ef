-- What a summary counts, and the parts that stand in it.
use Rattle.std.proofs.Common.{◌≡◌, ◌<◌, ◌+◌, ◌==◌, ℕ, suc, Bool, false, ◌&&◌, not, cond, List, [], ◌∷◌, ◌++◌, length, take, codes, refl, sym, ap, subst, ◌∙◌, append_assoc, Result, Ok, Err, ne_eqb, arith}
use Rattle.std.specs.Prelude.{flat_map}
use Rattle.std.specs.List.{AllByRecursion, count_by, sum_by}
use Rattle.std.proofs.Math.Path.{fun_ext}
use Rattle.std.proofs.lemmas.List.{append-nil, length-map}
use Rattle.std.proofs.lemmas.List.Sums.{sum_by-cons, count_by-le-length}
use Rattle.rtk_frame.specs.Frames.{Frame, frames, payloads}
use Rattle.rtk_message.specs.declared.any_message.AnyMessage.{AnyMessage}
use Rattle.rtk_message.specs.declared.any_message.AnyMessage.TheVariants as any
use Rattle.rtk_message.specs.declared.any_fault.AnyFault.{AnyFault}
use Rattle.rtk_message.specs.declared.message.Message.TheVariants.{Obs1004, Arp1005, Arp1006, Msm1074}
use Rattle.rtk_message.specs.declared.msm_kind.MsmKind.{MsmKind}
use Rattle.rtk_message.specs.declared.msm_kind.MsmKind.TheVariants.{Msm4, Msm5, Msm6, Msm7}
use Rattle.rtk_message.specs.declared.system.System.{System}
use Rattle.rtk_message.specs.declared.system.System.TheVariants.{Gps, Glonass, Galileo, Beidou, Qzss, Sbas, Navic}
use Rattle.rtk_bits.specs.Bits.{bits}
use Rattle.rtk_message.specs.AnyDecoded.{DecodesBy, number_of}
use Rattle.rtk_message.specs.Systems.{number_of_type}
use Rattle.rtk_survey.specs.BesideGps.{cells_beside, has_index, has_any_code}
use Rattle.rtk_survey.specs.Chains.{clocks_of}
use Rattle.rtk_survey.specs.Channels.{place_is_told}
use Rattle.rtk_survey.specs.UncheckedClocks.{all_clock_lines}
use Rattle.rtk_survey.specs.Counting.{count_of}
use Rattle.rtk_survey.specs.CountingLaws.{IsReadMessage, EachFrameIsCounted, EachMessageIsCounted, StandsIn, PartsStand, StationsStand, ProposalsStand, UntakenStand}
use Rattle.rtk_survey.specs.EquipmentHistory.{equipment_of}
use Rattle.rtk_survey.specs.declared.equipment.Equipment.{Equipment}
use Rattle.rtk_survey.specs.FrameDates.{dates_in, station_dates, proposed_date}
use Rattle.rtk_survey.specs.FrameEquipment.{equipment_among, is_mentioned, told_lines}
use Rattle.rtk_survey.specs.NumberLaws.{IsHeld}
use Rattle.rtk_survey.specs.Proposal.{epochs_in, times_with_value, epochs_with_value, entries_with}
use Rattle.rtk_survey.specs.ReadFrames.{messages_read, ReadFrame, ReadsFrames, read_frame, with_message, with_fault, bytes_in, messages_in, faults_in, messages_from}
use Rattle.rtk_survey.specs.NextCommand.{station_proposal}
use Rattle.rtk_survey.specs.Summary.{all_numbers, size_lines, epochs_beside, taken_beside, glonass_beside, systems_clocked, station_lines, lines_if_any, stations_text, weeks_text, system_weeks_text, unread_lines, summary_text}
use Rattle.rtk_survey.specs.SummaryText.{number_line, counted_line, numbered_line, message_numbers, message_lines, system_epoch_lines, channel_line, time_lines, look_line, near_text, signal_lines, all_codes_text, nothing_line, untaken_numbers}
use Rattle.rtk_survey.specs.SystemTellings.{system_messages_in}
use Rattle.rtk_survey.specs.declared.station_dates.StationDates.{StationDates}
use Rattle.rtk_survey.specs.Tracing.{is_numbered, is_other, is_short, is_outside_week, is_no_number, is_too_many_cells, times_of_week, entries_in, has_satellite, has_code}
use Rattle.rtk_survey.proofs.SummaryTellingLemmas.{each-weaker, of-all}

-- ---- what is counted

as-many : (ps : List (List ℕ)) (before after : List ReadFrame) → ReadsFrames ps before after → length after ≡ length before + length ps
as-many [] before after reads = let same = ap (λ (fs : List ReadFrame). length fs) reads in omega (arith, same)
as-many (p ∷ ps) before after reads = let more = as-many ps (read_frame p reads.0 ∷ before) after reads.2 in omega (arith, more)

sizes : List (List ℕ) → ℕ
sizes ps = sum_by (λ (payload : List ℕ). length payload + 6) ps

as-long : (ps : List (List ℕ)) (before after : List ReadFrame) → ReadsFrames ps before after → bytes_in after ≡ bytes_in before + sizes ps
unfolding sizes
as-long [] before after reads = let same = ap bytes_in reads in omega (arith, same)
as-long (p ∷ ps) before after reads =
    let more = as-long ps (read_frame p reads.0 ∷ before) after reads.2 in
    let one = sum_by-cons (λ (payload : List ℕ). length payload + 6) p ps in
    omega (arith, more, one)

one-of-two : (reading : Result AnyMessage AnyFault) (ms : List AnyMessage) (fs : List AnyFault) → length (with_message reading ms) + length (with_fault reading fs) ≡ suc (length ms + length fs)
one-of-two (Ok m) ms fs = omega arith
one-of-two (Err fault) ms fs = omega arith

each-is : (fs : List ReadFrame) → length (messages_in fs) + length (faults_in fs) ≡ length fs
each-is [] = omega arith
each-is (f ∷ before) =
    let rest = each-is before in
    let one = one-of-two f.reading (messages_in before) (faults_in before) in
    omega (arith, rest, one)

-- the messages that are read are those of the set
one-read : (reading : Result AnyMessage AnyFault) (bs : List Bool) (ms : List AnyMessage) → DecodesBy messages_read bs reading → AllByRecursion IsReadMessage ms → AllByRecursion IsReadMessage (with_message reading ms)
one-read (Ok m) bs ms d read = (d.accepted, read)
one-read (Err fault) bs ms d read = read

all-read : (ps : List (List ℕ)) (before after : List ReadFrame) → ReadsFrames ps before after → AllByRecursion IsReadMessage (messages_in before) → AllByRecursion IsReadMessage (messages_in after)
all-read [] before after reads read = subst (λ (fs : List ReadFrame). AllByRecursion IsReadMessage (messages_in fs)) (sym reads) read
all-read (p ∷ ps) before after reads read = all-read ps (read_frame p reads.0 ∷ before) after reads.2 (one-read reads.0 (bits p) (messages_in before) reads.1 read)

pub frames-counted : EachFrameIsCounted
unfolding sizes
frames-counted bytes fs reads =
    let all = as-many (payloads (frames bytes)) [] fs reads in
    let framed = as-long (payloads (frames bytes)) [] fs reads in
    let size = length-map (frames bytes) (λ (f : Frame). f.payload) in
    record { all = omega (arith, all, size); framed = omega (arith, framed); each = each-is fs; read = all-read (payloads (frames bytes)) [] fs reads tt }

-- how many of the numbers that have a line this one is
hits : ℕ → ℕ
hits k = sum_by (λ n. cond (k == n) 1 0) message_numbers

hit-type : (s : System) (k : MsmKind) → hits (number_of_type (record { system = s; kind = k })) ≡ 1
unfolding hits
hit-type Gps Msm4 = refl
hit-type Gps Msm5 = refl
hit-type Gps Msm6 = refl
hit-type Gps Msm7 = refl
hit-type Glonass Msm4 = refl
hit-type Glonass Msm5 = refl
hit-type Glonass Msm6 = refl
hit-type Glonass Msm7 = refl
hit-type Galileo Msm4 = refl
hit-type Galileo Msm5 = refl
hit-type Galileo Msm6 = refl
hit-type Galileo Msm7 = refl
hit-type Beidou Msm4 = refl
hit-type Beidou Msm5 = refl
hit-type Beidou Msm6 = refl
hit-type Beidou Msm7 = refl
hit-type Qzss Msm4 = refl
hit-type Qzss Msm5 = refl
hit-type Qzss Msm6 = refl
hit-type Qzss Msm7 = refl
hit-type Sbas Msm4 = refl
hit-type Sbas Msm5 = refl
hit-type Sbas Msm6 = refl
hit-type Sbas Msm7 = refl
hit-type Navic Msm4 = refl
hit-type Navic Msm5 = refl
hit-type Navic Msm6 = refl
hit-type Navic Msm7 = refl

hit : (m : AnyMessage) → hits (number_of m) ≡ 1
unfolding hits
hit (any.Message (Obs1004 m)) = refl
hit (any.Message (Arp1005 m)) = refl
hit (any.Message (Arp1006 m)) = refl
hit (any.Message (Msm1074 m)) = refl
hit (any.Msm m) = hit-type m.system m.kind
hit (any.Obs1012 m) = refl

-- the sum of two counts of each number
sum-both : (f g : ℕ → ℕ) (ns : List ℕ) → sum_by (λ n. f n + g n) ns ≡ sum_by f ns + sum_by g ns
sum-both f g [] = refl
sum-both f g (n ∷ ns) =
    let both = sum_by-cons (λ k. f k + g k) n ns in
    let one = sum_by-cons f n ns in
    let other = sum_by-cons g n ns in
    let rest = sum-both f g ns in
    omega (arith, both, one, other, rest)

pub messages-counted : EachMessageIsCounted
unfolding hits
messages-counted [] = refl
messages-counted (m ∷ ms) =
    let here : ℕ → ℕ = λ n. cond (is_numbered n m) 1 0 in
    let there : ℕ → ℕ = λ n. count_by (is_numbered n) ms in
    let each : ◌≡◌ {A = ℕ → ℕ} (λ n. count_by (is_numbered n) (m ∷ ms)) (λ n. here n + there n) = fun_ext (λ n. sum_by-cons (λ (x : AnyMessage). cond (is_numbered n x) 1 0) m ms) in
    let split : sum_by (λ n. count_by (is_numbered n) (m ∷ ms)) message_numbers ≡ sum_by here message_numbers + sum_by there message_numbers =
    ap (λ (f : ℕ → ℕ). sum_by f message_numbers) each ∙ sum-both here there message_numbers in
    let one : sum_by here message_numbers ≡ 1 = hit m in
    let rest = messages-counted ms in
    omega (arith, split, one, rest)

-- ---- what stands in the text

behind-regrouped : (u b p a : List ℕ) → u ++ (b ++ p ++ a) ≡ (u ++ b) ++ p ++ a
behind-regrouped u b p a = simp append_assoc

stands-behind : (u part text : List ℕ) → StandsIn part text → StandsIn part (u ++ text)
stands-behind u part text stands = (u ++ stands.0, stands.1, ap (λ (t : List ℕ). u ++ t) stands.2 ∙ behind-regrouped u stands.0 part stands.1)

stands-before : (part text v : List ℕ) → StandsIn part text → StandsIn part (text ++ v)
stands-before part text v stands = (stands.0, stands.1 ++ v, ap (λ (t : List ℕ). t ++ v) stands.2 ∙ append_assoc (stands.0 ++ part) stands.1 v)

stands-first : (part v : List ℕ) → StandsIn part (part ++ v)
stands-first part v = ([], v, refl)

each-stands : (f : ℕ → List ℕ) (ns : List ℕ) → AllByRecursion (λ n. StandsIn (f n) (flat_map f ns)) ns
each-stands f [] = tt
each-stands f (n ∷ ns) =
    (stands-first (f n) (flat_map f ns), each-weaker (λ k. StandsIn (f k) (flat_map f ns)) (λ k. StandsIn (f k) (f n ++ flat_map f ns)) ns (λ k stands. stands-behind (f n) (f k) (flat_map f ns) stands) (each-stands f ns))

three-behind : (a v u n : List ℕ) → a ++ v ++ u ++ n ≡ a ++ (v ++ u ++ n)
three-behind a v u n = simp append_assoc

four-behind : (a w v u n : List ℕ) → a ++ w ++ v ++ u ++ n ≡ a ++ (w ++ v ++ u ++ n)
four-behind a w v u n = simp append_assoc

pub parts-stand : PartsStand
unfolding summary_text
parts-stand name bytes fs =
    let head : List ℕ = size_lines (length bytes) fs ++ look_line (length fs) (take 512 bytes) in
    let stations : List ℕ = stations_text name (messages_in fs) (dates_in fs) (equipment_among fs) in
    let weeks : List ℕ = weeks_text (dates_in fs) in
    let systems : List ℕ = system_weeks_text (system_messages_in fs) in
    let unread : List ℕ = unread_lines (faults_in fs) in
    let last : List ℕ = nothing_line (all_codes_text (has_code (entries_in (messages_in fs))) (has_any_code (cells_beside (messages_in fs)))) in (
      (head, weeks ++ systems ++ unread ++ last, four-behind (head ++ stations) weeks systems unread last),
      (head ++ stations, systems ++ unread ++ last, three-behind (head ++ stations ++ weeks) systems unread last),
      (head ++ stations ++ weeks ++ systems, last, refl),
    )

lines-if-some : (name : List ℕ) (n : ℕ) (ms : List AnyMessage) (d : StationDates) (e : Equipment) → 0 < length ms → lines_if_any name n ms d e ≡ station_lines name n ms d e
lines-if-some name n ms d e some =
    let above : (length ms == 0) ≡ false = ne_eqb (length ms) 0 (λ none. omega (arith, none, some)) in
    ap (λ (b : Bool). cond (b && not (is_mentioned d e)) [] (station_lines name n ms d e)) above

pub stations-stand : StationsStand
unfolding stations_text
stations-stand name ms ds es n within some =
    let f : ℕ → List ℕ = λ s. lines_if_any name s (messages_from s ms) (station_dates s ds) (equipment_of s es) in
    subst (λ (part : List ℕ). StandsIn part (flat_map f all_numbers)) (lines-if-some name n (messages_from n ms) (station_dates n ds) (equipment_of n es) some)
    (of-all (λ k. StandsIn (f k) (flat_map f all_numbers)) (each-stands f all_numbers) n within)

epochs-are : (ms : List AnyMessage) → ((kind : MsmKind) → IsHeld (epochs_in (times_with_value kind ms))) → ◌≡◌ {A = MsmKind → ℕ} (λ kind. epochs_with_value kind ms) (λ kind. epochs_in (times_with_value kind ms))
epochs-are ms held = fun_ext (λ kind. let few = held kind in omega (arith, few))

pub proposals-stand : ProposalsStand
unfolding station_lines
proposals-stand name station ms d e held =
    let proposal : (MsmKind → ℕ) → List ℕ = λ epochs. station_proposal name (near_text (proposed_date d)) station epochs (λ kind. has_code (entries_with kind ms)) (epochs_beside ms) (taken_beside (proposed_date d) ms) (glonass_beside (proposed_date d) ms) in
    let lines : List ℕ =
    number_line (codes "station ") station
    ++ message_lines (λ n. count_of (is_numbered n) ms)
    ++ time_lines (times_of_week ms)
    ++ told_lines d e
    ++ signal_lines (has_satellite (entries_in ms)) (has_code (entries_in ms)) (has_index (cells_beside ms)) (has_any_code (cells_beside ms))
    ++ system_epoch_lines (epochs_beside ms)
    ++ channel_line (place_is_told ms)
    ++ all_clock_lines (proposed_date d) (systems_clocked ms) (clocks_of ms).offsets in
    let whole = append-nil (station_lines name station ms d e) in
    subst (λ (epochs : MsmKind → ℕ). StandsIn (proposal epochs) (station_lines name station ms d e)) (epochs-are ms held) (lines, [], sym whole)

pub untaken-stand : UntakenStand
unfolding unread_lines
untaken-stand fs few =
    let other : ℕ → ℕ = λ n. count_of (is_other n) fs in
    let line : ℕ → List ℕ = λ n. numbered_line (codes "untaken GPS ") n (other n) in
    let others : List ℕ = flat_map (λ n. numbered_line (codes "other ") n (other n)) all_numbers in
    let one : List ℕ = counted_line (codes "refused M1 - ") (count_of is_no_number fs) in
    let three : List ℕ = flat_map (λ n. numbered_line (codes "refused M3 ") n (count_of (is_short n) fs)) all_numbers in
    let four : List ℕ = flat_map (λ n. numbered_line (codes "refused M4 ") n (count_of (is_outside_week n) fs)) all_numbers in
    let five : List ℕ = flat_map (λ n. numbered_line (codes "refused M5 ") n (count_of (is_too_many_cells n) fs)) all_numbers in
    let untaken : List ℕ = flat_map line untaken_numbers in
    each-weaker (λ n. StandsIn (line n) (flat_map line untaken_numbers)) (λ n. StandsIn (numbered_line (codes "untaken GPS ") n (count_by (is_other n) fs)) (unread_lines fs)) untaken_numbers
    (λ n stands.
    let most = count_by-le-length (is_other n) fs in
    let told : other n ≡ count_by (is_other n) fs = omega (arith, most, few) in
    subst (λ (k : ℕ). StandsIn (numbered_line (codes "untaken GPS ") n k) (unread_lines fs)) told
    (stands-before (line n) (others ++ untaken ++ one ++ three ++ four) five (stands-before (line n) (others ++ untaken ++ one ++ three) four
    (stands-before (line n) (others ++ untaken ++ one) three (stands-before (line n) (others ++ untaken) one (stands-behind others (line n) untaken stands))))))
    (each-stands line untaken_numbers)
