-- The lines of what a summary holds.
use Rattle.std.proofs.Common.{Option, None, Some, take, ◌≡◌, ◌<◌, ◌+◌, ◌/◌, ◌%◌, ◌==◌, ℕ, suc, Bool, true, false, cond, List, [], ◌∷◌, ◌++◌, length, get_or, drop, decimal, refl, sym, ap, ◌∙◌, append_assoc, drop-cons, arith}
use Rattle.std.specs.Prelude.{flat_map, filter, codes}
use Rattle.std.specs.List.{AllByRecursion}
use Rattle.rtk_obs.specs.declared.any_code.AnyCode.{AnyCode}
use Rattle.rtk_obs.specs.declared.code.Code.{Code}
use Rattle.rtk_obs.specs.AnyCode.{text_of, number_of, all_any_codes}
use Rattle.rtk_obs.specs.Code.{name_of, place_of, all_codes}
use Rattle.rtk_obs.specs.SatelliteIndex.{index_name}
use Rattle.rtk_message.specs.declared.msm_kind.MsmKind.{MsmKind}
use Rattle.rtk_message.specs.declared.any_message.AnyMessage.{AnyMessage}
use Rattle.rtk_survey.specs.BesideGps.{cells_beside, has_index, has_any_code}
use Rattle.rtk_survey.specs.Chains.{clocks_of, clocks_at}
use Rattle.rtk_survey.specs.Channels.{CountsChannels, place_is_told}
use Rattle.rtk_survey.specs.Counting.{count_of}
use Rattle.rtk_survey.specs.Look.{look_of, look_name}
use Rattle.rtk_survey.specs.Surveys.{look_if_empty}
use Rattle.rtk_survey.specs.declared.look.Look.{Look}
use Rattle.rtk_survey.specs.declared.equipment.Equipment.{Equipment}
use Rattle.rtk_survey.specs.FrameDates.{proposed_date}
use Rattle.rtk_survey.specs.FrameEquipment.{told_lines}
use Rattle.rtk_survey.specs.Proposal.{epochs_with_value, entries_with}
use Rattle.rtk_survey.specs.NextCommand.{with_own_sbas, station_proposal}
use Rattle.rtk_survey.specs.Steps.OtherSystems.{glonass_held, taken_held, clocked_held}
use Rattle.rtk_survey.specs.Summary.{all_numbers, epochs_beside, taken_beside, glonass_beside, systems_clocked, station_lines}
use Rattle.rtk_survey.specs.SummaryText.{look_line, number_line, numbered_line, message_numbers, message_lines, system_epoch_lines, channel_line, list_line, time_lines, near_text, untaken_numbers, listed_satellite, satellites_text, listed_index, indices_text, joined_names, joined_texts, all_codes_text, words_text, auto_line, next_lines, signal_lines}
use Rattle.std.specs.BTreeMap.{BTreeMap}
use Rattle.rtk_survey.specs.BitMarks.{is_marked_in}
use Rattle.rtk_survey.specs.Contents.{count_at, HasCodes, HasSignals, HasSystemSignals, HasSystems, IsStationOf, HasMsms, equipment_at, epochs_held, codes_held, times_of}
use Rattle.rtk_survey.specs.Steps.Tables.{counts_text, untaken_text, look_lines, messages_held, system_epochs_held, place_is_counted}
use Rattle.rtk_survey.specs.Tracing.{is_numbered, entries_in, has_satellite, has_code, times_of_week}
use Rattle.rtk_survey.specs.UncheckedClocks.{systems_sent, all_clock_lines}
use Rattle.rtk_survey.specs.declared.station_dates.StationDates.{StationDates}
use Rattle.rtk_survey.specs.declared.date_message.UtcDate.{UtcDate}
use Rattle.rtk_survey.specs.declared.signals.Codes.{Codes}
use Rattle.rtk_survey.specs.declared.signals.Signals.{Signals}
use Rattle.rtk_survey.specs.declared.clock_chains.ClockSurvey.{ClockSurvey}
use Rattle.rtk_survey.specs.declared.station.StationSurvey.{StationSurvey}
use Rattle.rtk_survey.specs.declared.system_signals.SystemSignals.{SystemSignals}
use Rattle.rtk_survey.specs.declared.systems_sent.SystemsSent.{SystemsSent}
use Rattle.rtk_survey.proofs.ChannelLineLemmas.{channel-line-is}
use Rattle.rtk_survey.proofs.ListLemmas.{lines-agree}
use Rattle.rtk_survey.proofs.NextLemmas.{taken-is, glonass-is}
use Rattle.rtk_survey.proofs.MsmLemmas.{codes-marked, epochs-are, codes-held-are}
use Rattle.rtk_survey.proofs.SystemLemmas.{any_codes_held, any-codes-marked, epochs-beside-are, counts-held}

-- ---- counts

-- the lines of a table of counts are those of the counts that it holds
lists-agree : (f g : ℕ → List ℕ) (ns : List ℕ) → ((k : ℕ) → f k ≡ g k) → flat_map f ns ≡ flat_map g ns
lists-agree f g [] agree = refl
lists-agree f g (n ∷ ns) agree = ap (λ t. t ++ flat_map f ns) (agree n) ∙ ap (λ t. g n ++ t) (lists-agree f g ns agree)

-- so are the lines of some numbers
lines-agree-on : (f g : ℕ → List ℕ) (ns : List ℕ) → AllByRecursion (λ k. f k ≡ g k) ns → flat_map f ns ≡ flat_map g ns
lines-agree-on f g [] agree = refl
lines-agree-on f g (n ∷ ns) agree = ap (λ t. t ++ flat_map f ns) agree.0 ∙ ap (λ t. g n ++ t) (lines-agree-on f g ns agree.1)

counts-agree-on : (words : List ℕ) (a b : ℕ → ℕ) (ns : List ℕ) → AllByRecursion (λ k. a k ≡ b k) ns
    → AllByRecursion (λ k. numbered_line words k (a k) ≡ numbered_line words k (b k)) ns
counts-agree-on words a b [] agree = tt
counts-agree-on words a b (n ∷ ns) agree = (ap (λ k. numbered_line words n k) agree.0, counts-agree-on words a b ns agree.1)

pub counts-are : (words : List ℕ) (counts : BTreeMap ℕ ℕ) (count : ℕ → ℕ) → ((n : ℕ) → count_at counts n ≡ count n)
    → counts_text words counts ≡ flat_map (λ n. numbered_line words n (count n)) all_numbers
unfolding counts_text
counts-are words counts count are =
    lists-agree (λ n. numbered_line words n (count_at counts n)) (λ n. numbered_line words n (count n)) all_numbers
    (λ k. ap (λ c. numbered_line words k c) (are k))

-- so are the lines of the messages that are not taken
pub untaken-are : (counts : BTreeMap ℕ ℕ) (count : ℕ → ℕ) → ((n : ℕ) → count_at counts n ≡ count n)
    → untaken_text counts ≡ flat_map (λ n. numbered_line (codes "untaken GPS ") n (count n)) untaken_numbers
unfolding untaken_text
untaken-are counts count are =
    lists-agree (λ n. numbered_line (codes "untaken GPS ") n (count_at counts n)) (λ n. numbered_line (codes "untaken GPS ") n (count n)) untaken_numbers
    (λ k. ap (λ c. numbered_line (codes "untaken GPS ") k c) (are k))

-- ---- satellites and codes

-- the first of the codes that are left
code-first : (i : ℕ) (d : Code) → i < 16 → drop i all_codes ≡ get_or all_codes i d ∷ drop (i + 1) all_codes
code-first i d within =
    let next : suc i ≡ i + 1 = omega arith in
    drop-cons all_codes i d within ∙ ap (λ k. get_or all_codes i d ∷ drop k all_codes) next

-- a code that has a value is the next name
pub code-named : (marked : Code → Bool) (text : List ℕ) (separator i : ℕ) (d : Code) (whole : List ℕ) → i < 16 → marked (get_or all_codes i d) ≡ true
    → text ++ joined_names separator (filter marked (drop i all_codes)) ≡ whole
    → ((text ++ separator ∷ []) ++ name_of (get_or all_codes i d)) ++ joined_names 44 (filter marked (drop (i + 1) all_codes)) ≡ whole
code-named marked text separator i d whole within marks so_far =
    let c = get_or all_codes i d in
    let rest = filter marked (drop (i + 1) all_codes) in
    let first : filter marked (drop i all_codes) ≡ c ∷ rest = ap (λ cs. filter marked cs) (code-first i d within) ∙ ap (λ b. cond b (c ∷ rest) rest) marks in
    append_assoc (text ++ separator ∷ []) (name_of c) (joined_names 44 rest) ∙ append_assoc text (separator ∷ []) (name_of c ++ joined_names 44 rest)
    ∙ ap (λ cs. text ++ joined_names separator cs) (sym first) ∙ so_far

-- and one that has none is no name
pub code-passed : (marked : Code → Bool) (text : List ℕ) (separator i : ℕ) (d : Code) (whole : List ℕ) → i < 16 → marked (get_or all_codes i d) ≡ false
    → text ++ joined_names separator (filter marked (drop i all_codes)) ≡ whole
    → text ++ joined_names separator (filter marked (drop (i + 1) all_codes)) ≡ whole
code-passed marked text separator i d whole within marks so_far =
    let c = get_or all_codes i d in
    let rest = filter marked (drop (i + 1) all_codes) in
    let first : filter marked (drop i all_codes) ≡ rest = ap (λ cs. filter marked cs) (code-first i d within) ∙ ap (λ b. cond b (c ∷ rest) rest) marks in
    ap (λ cs. text ++ joined_names separator cs) (sym first) ∙ so_far

-- a code that has a value is kept
pub code-kept : (marked : Code → Bool) (codes : List Code) (i : ℕ) (d : Code) (whole : List Code) → i < 16 → marked (get_or all_codes i d) ≡ true
    → codes ++ filter marked (drop i all_codes) ≡ whole → (codes ++ get_or all_codes i d ∷ []) ++ filter marked (drop (i + 1) all_codes) ≡ whole
code-kept marked codes i d whole within marks so_far =
    let c = get_or all_codes i d in
    let rest = filter marked (drop (i + 1) all_codes) in
    let first : filter marked (drop i all_codes) ≡ c ∷ rest = ap (λ cs. filter marked cs) (code-first i d within) ∙ ap (λ b. cond b (c ∷ rest) rest) marks in
    append_assoc codes (c ∷ []) rest ∙ ap (λ cs. codes ++ cs) (sym first) ∙ so_far

pub code-left : (marked : Code → Bool) (codes : List Code) (i : ℕ) (d : Code) (whole : List Code) → i < 16 → marked (get_or all_codes i d) ≡ false
    → codes ++ filter marked (drop i all_codes) ≡ whole → codes ++ filter marked (drop (i + 1) all_codes) ≡ whole
code-left marked codes i d whole within marks so_far =
    let c = get_or all_codes i d in
    let rest = filter marked (drop (i + 1) all_codes) in
    let first : filter marked (drop i all_codes) ≡ rest = ap (λ cs. filter marked cs) (code-first i d within) ∙ ap (λ b. cond b (c ∷ rest) rest) marks in
    ap (λ cs. codes ++ cs) (sym first) ∙ so_far

pub next-lines-are : (name near : List ℕ) (station : ℕ) (options names : List ℕ) → (length names ≡ 0 → ⊥)
    → next_lines name near station options names ≡ codes " next rtcm2rinex convert --station " ++ decimal station ++ codes " --near " ++ near ++ words_text name station options names ++ auto_line name station
next-lines-are name near station options [] some = absurd (some refl)
next-lines-are name near station options (x ∷ xs) some = refl

-- a code of another system than GPS that has a value is the next name
any-code-first : (i : ℕ) (d : AnyCode) → i < 69 → drop i all_any_codes ≡ get_or all_any_codes i d ∷ drop (i + 1) all_any_codes
any-code-first i d within =
    let next : suc i ≡ i + 1 = omega arith in
    drop-cons all_any_codes i d within ∙ ap (λ k. get_or all_any_codes i d ∷ drop k all_any_codes) next

pub any-code-named : (marked : AnyCode → Bool) (text : List ℕ) (separator i : ℕ) (d : AnyCode) (whole : List ℕ) → i < 69 → marked (get_or all_any_codes i d) ≡ true
    → text ++ joined_texts separator (filter marked (drop i all_any_codes)) ≡ whole
    → ((text ++ separator ∷ []) ++ text_of (get_or all_any_codes i d)) ++ joined_texts 44 (filter marked (drop (i + 1) all_any_codes)) ≡ whole
any-code-named marked text separator i d whole within marks so_far =
    let c = get_or all_any_codes i d in
    let rest = filter marked (drop (i + 1) all_any_codes) in
    let first : filter marked (drop i all_any_codes) ≡ c ∷ rest = ap (λ cs. filter marked cs) (any-code-first i d within) ∙ ap (λ b. cond b (c ∷ rest) rest) marks in
    append_assoc (text ++ separator ∷ []) (text_of c) (joined_texts 44 rest) ∙ append_assoc text (separator ∷ []) (text_of c ++ joined_texts 44 rest)
    ∙ ap (λ cs. text ++ joined_texts separator cs) (sym first) ∙ so_far

pub any-code-passed : (marked : AnyCode → Bool) (text : List ℕ) (separator i : ℕ) (d : AnyCode) (whole : List ℕ) → i < 69 → marked (get_or all_any_codes i d) ≡ false
    → text ++ joined_texts separator (filter marked (drop i all_any_codes)) ≡ whole
    → text ++ joined_texts separator (filter marked (drop (i + 1) all_any_codes)) ≡ whole
any-code-passed marked text separator i d whole within marks so_far =
    let c = get_or all_any_codes i d in
    let rest = filter marked (drop (i + 1) all_any_codes) in
    let first : filter marked (drop i all_any_codes) ≡ rest = ap (λ cs. filter marked cs) (any-code-first i d within) ∙ ap (λ b. cond b (c ∷ rest) rest) marks in
    ap (λ cs. text ++ joined_texts separator cs) (sym first) ∙ so_far

pub all-codes-are : (c : Codes) (s : SystemSignals) (ms : List AnyMessage) → HasCodes c (entries_in ms) → HasSystemSignals s (cells_beside ms)
    → all_codes_text (λ code. get_or c.marks (place_of code) false) (λ code. is_marked_in s.codes.words (number_of code)) ≡ all_codes_text (has_code (entries_in ms)) (has_any_code (cells_beside ms))
all-codes-are c s ms has others =
    ap (λ (t : Code → Bool). all_codes_text t (any_codes_held s)) (codes-marked c (entries_in ms) has)
    ∙ ap (λ (t : AnyCode → Bool). all_codes_text (has_code (entries_in ms)) t) (any-codes-marked s (cells_beside ms) others)

satellites-agree : (s t : ℕ → Bool) → ((n : ℕ) → n < 33 → s n ≡ t n) → satellites_text s ≡ satellites_text t
unfolding satellites_text
satellites-agree s t agree = lines-agree (listed_satellite s) (listed_satellite t) 1 32 (λ k lt. ap (λ b. cond b (32 ∷ 71 ∷ (48 + k / 10) ∷ (48 + k % 10) ∷ []) []) (agree k lt))

indices-agree : (s t : ℕ → Bool) → ((n : ℕ) → s n ≡ t n) → indices_text s ≡ indices_text t
unfolding indices_text
indices-agree s t agree =
    lines-agree (listed_index s) (listed_index t) 33 189 (λ k lt. ap (λ b. cond b (32 ∷ index_name k) []) (agree k))

pub signals-are : (s : Signals) (o : SystemSignals) (ms : List AnyMessage) → HasSignals s (entries_in ms) → HasSystemSignals o (cells_beside ms)
    → signal_lines (λ n. get_or s.satellites n false) (λ c. get_or s.codes.marks (place_of c) false) (λ n. is_marked_in o.satellites.words n) (λ c. is_marked_in o.codes.words (number_of c))
    ≡ signal_lines (has_satellite (entries_in ms)) (has_code (entries_in ms)) (has_index (cells_beside ms)) (has_any_code (cells_beside ms))
unfolding signal_lines
signals-are s o ms stands others =
    let marked : ℕ → Bool = λ n. get_or s.satellites n false in
    let indexed : ℕ → Bool = λ n. is_marked_in o.satellites.words n in
    let es = entries_in ms in
    let cs = cells_beside ms in
    let a : satellites_text marked ≡ satellites_text (has_satellite es) = satellites-agree marked (has_satellite es) (λ n lt. stands.satellites n (let size = stands.satellites_size in omega (arith, lt, size))) in
    let b : indices_text indexed ≡ indices_text (has_index cs) = indices-agree indexed (has_index cs) others.satellites in
    let lines : List ℕ → List ℕ → List ℕ = λ sats codes_of. list_line (codes " satellites") sats ++ list_line (codes " codes") codes_of in
    let coded : List ℕ = all_codes_text (λ c. get_or s.codes.marks (place_of c) false) (any_codes_held o) in
    ap (λ (t : List ℕ). lines (t ++ indices_text indexed) coded) a
    ∙ ap (λ (t : List ℕ). lines (satellites_text (has_satellite es) ++ t) coded) b
    ∙ ap (λ (t : List ℕ). lines (satellites_text (has_satellite es) ++ indices_text (has_index cs)) t) (all-codes-are s.codes o ms stands.codes others)

sent-are : (c : Codes) (s : SystemSignals) (ms : List AnyMessage) → HasCodes c (entries_in ms) → HasSystemSignals s (cells_beside ms)
    → systems_sent (λ code. get_or c.marks (place_of code) false) (λ code. is_marked_in s.codes.words (number_of code)) ≡ systems_sent (has_code (entries_in ms)) (has_any_code (cells_beside ms))
sent-are c s ms has others =
    ap (λ (t : Code → Bool). systems_sent t (any_codes_held s)) (codes-marked c (entries_in ms) has)
    ∙ ap (λ (t : AnyCode → Bool). systems_sent (has_code (entries_in ms)) t) (any-codes-marked s (cells_beside ms) others)

clocked-are : (s : StationSurvey) (ms : List AnyMessage) → HasCodes s.signals.codes (entries_in ms) → HasSystemSignals s.system_signals (cells_beside ms) → HasSystems s.system_msm ms
    → clocked_held s ≡ systems_clocked ms
clocked-are s ms has others beside =
    ap (λ (x : SystemsSent). with_own_sbas (system_epochs_held s) x) (sent-are s.signals.codes s.system_signals ms has others)
    ∙ ap (λ (e : ℕ → ℕ). with_own_sbas e (systems_sent (has_code (entries_in ms)) (has_any_code (cells_beside ms)))) (epochs-beside-are s ms beside)

-- ---- a station

-- the command by what is held is that by the messages
pub proposal-is : (name near : List ℕ) (number : ℕ) (date : Option UtcDate) (s : StationSurvey) (ms : List AnyMessage) → HasMsms s.msm ms → HasSystems s.system_msm ms
    → CountsChannels s.channels ms → clocks_at s.clocks ≡ clocks_of ms → s.times ≡ times_of (times_of_week ms)
    → station_proposal name near number (epochs_held s.msm) (codes_held s.msm) (system_epochs_held s) (taken_held date s) (glonass_held date s)
    ≡ station_proposal name near number (λ kind. epochs_with_value kind ms) (λ kind. has_code (entries_with kind ms)) (epochs_beside ms) (taken_beside date ms) (glonass_beside date ms)
proposal-is name near number date s ms own beside channels clocks times =
    let epochs : MsmKind → ℕ = λ kind. epochs_with_value kind ms in
    let code : MsmKind → Code → Bool = λ kind. has_code (entries_with kind ms) in
    let taken : AnyCode → Bool = taken_held date s in
    let items : List ℕ = glonass_held date s in
    ap (λ (e : MsmKind → ℕ). station_proposal name near number e (codes_held s.msm) (system_epochs_held s) taken items) (epochs-are s.msm ms own)
    ∙ ap (λ (t : MsmKind → Code → Bool). station_proposal name near number epochs t (system_epochs_held s) taken items) (codes-held-are s.msm ms own)
    ∙ ap (λ (e : ℕ → ℕ). station_proposal name near number epochs code e taken items) (epochs-beside-are s ms beside)
    ∙ ap (λ (t : AnyCode → Bool). station_proposal name near number epochs code (epochs_beside ms) t items) (taken-is date s ms beside clocks times)
    ∙ ap (λ (t : List ℕ). station_proposal name near number epochs code (epochs_beside ms) (taken_beside date ms) t) (glonass-is date s ms beside channels times)

-- a survey has its own dates, antenna and receiver
pub own-survey : (ms : List AnyMessage) (d : StationDates) (e : Equipment) (s : StationSurvey) → IsStationOf ms d e s → IsStationOf ms s.dates (equipment_at s.equipment) s
own-survey ms d e s is = record {
  counts = is.counts;
  times = is.times;
  signals = is.signals;
  msm = is.msm;
  system_signals = is.system_signals;
  system_msm = is.system_msm;
  channels = is.channels;
  clocks = is.clocks;
  point = is.point;
  far = is.far;
  dates = refl;
  equipment = refl;
  nameless = is.nameless;
  other_point = is.other_point;
}

-- what is put of a station that holds this much
abbrev pub lines_held : List ℕ → ℕ → StationSurvey → StationDates → Equipment → List ℕ → List ℕ
lines_held name number s d e times =
    number_line (codes "station ") number
    ++ message_lines (messages_held s)
    ++ time_lines times
    ++ told_lines d e
    ++ signal_lines (λ n. get_or s.signals.satellites n false) (λ c. get_or s.signals.codes.marks (place_of c) false) (λ n. is_marked_in s.system_signals.satellites.words n) (λ c. is_marked_in s.system_signals.codes.words (number_of c))
    ++ system_epoch_lines (system_epochs_held s)
    ++ channel_line (place_is_counted s.channels)
    ++ all_clock_lines (proposed_date d) (clocked_held s) (clocks_at s.clocks).offsets
    ++ station_proposal name (near_text (proposed_date d)) number (epochs_held s.msm) (codes_held s.msm) (system_epochs_held s) (taken_held (proposed_date d) s) (glonass_held (proposed_date d) s)

-- the lines of the counts of messages
messages-agree : (s : StationSurvey) (ms : List AnyMessage) (d : StationDates) (e : Equipment) → IsStationOf ms d e s → message_lines (messages_held s) ≡ message_lines (λ n. count_of (is_numbered n) ms)
unfolding message_lines
messages-agree s ms d e stands =
    let count : ℕ → ℕ = λ n. count_of (is_numbered n) ms in
    let words : List ℕ = codes " message " in
    lines-agree-on (λ n. numbered_line words n (messages_held s n)) (λ n. numbered_line words n (count n)) message_numbers
    (counts-agree-on words (messages_held s) count message_numbers (counts-held s ms stands.counts stands.msm stands.system_msm))

pub station-lines-are : (name : List ℕ) (number : ℕ) (s : StationSurvey) (d : StationDates) (e : Equipment) (ms : List AnyMessage) → IsStationOf ms d e s
    → station_lines name number ms d e ≡ lines_held name number s d e (times_of_week ms)
unfolding station_lines
station-lines-are name number s d e ms stands =
    let head : List ℕ = number_line (codes "station ") number in
    let times : List ℕ = time_lines (times_of_week ms) in
    let dates : List ℕ = told_lines d e in
    let near : List ℕ = near_text (proposed_date d) in
    let signals : List ℕ = signal_lines (has_satellite (entries_in ms)) (has_code (entries_in ms)) (has_index (cells_beside ms)) (has_any_code (cells_beside ms)) in
    let proposal : List ℕ = station_proposal name near number (λ kind. epochs_with_value kind ms) (λ kind. has_code (entries_with kind ms)) (epochs_beside ms) (taken_beside (proposed_date d) ms) (glonass_beside (proposed_date d) ms) in
    let messages' : List ℕ = message_lines (messages_held s) in
    let signals' : List ℕ = signal_lines (λ n. get_or s.signals.satellites n false) (λ c. get_or s.signals.codes.marks (place_of c) false) (λ n. is_marked_in s.system_signals.satellites.words n) (λ c. is_marked_in s.system_signals.codes.words (number_of c)) in
    let channels : List ℕ = channel_line (place_is_told ms) in
    let date = proposed_date d in
    let sent : SystemsSent = systems_clocked ms in
    let clocks : List ℕ = all_clock_lines date sent (clocks_of ms).offsets in
    let channels' : List ℕ = channel_line (place_is_counted s.channels) in
    let epochs' : List ℕ = system_epoch_lines (system_epochs_held s) in
    ap (λ (t : List ℕ). head ++ t ++ times ++ dates ++ signals ++ system_epoch_lines (epochs_beside ms) ++ channels ++ clocks ++ proposal) (sym (messages-agree s ms d e stands))
    ∙ ap (λ (t : List ℕ). head ++ messages' ++ times ++ dates ++ t ++ system_epoch_lines (epochs_beside ms) ++ channels ++ clocks ++ proposal) (sym (signals-are s.signals s.system_signals ms stands.signals stands.system_signals))
    ∙ ap (λ (t : ℕ → ℕ). head ++ messages' ++ times ++ dates ++ signals' ++ system_epoch_lines t ++ channels ++ clocks ++ proposal) (sym (epochs-beside-are s ms stands.system_msm))
    ∙ ap (λ (t : List ℕ). head ++ messages' ++ times ++ dates ++ signals' ++ epochs' ++ t ++ clocks ++ proposal) (sym (channel-line-is s.channels ms stands.channels))
    ∙ ap (λ (x : ClockSurvey). head ++ messages' ++ times ++ dates ++ signals' ++ epochs' ++ channels' ++ all_clock_lines date sent x.offsets ++ proposal) (sym stands.clocks)
    ∙ ap (λ (x : SystemsSent). head ++ messages' ++ times ++ dates ++ signals' ++ epochs' ++ channels' ++ all_clock_lines date x (clocks_at s.clocks).offsets ++ proposal) (sym (clocked-are s ms stands.signals.codes stands.system_signals stands.system_msm))
    ∙ ap (λ (t : List ℕ). head ++ messages' ++ times ++ dates ++ signals' ++ epochs' ++ channels' ++ all_clock_lines date (clocked_held s) (clocks_at s.clocks).offsets ++ t) (sym (proposal-is name near number (proposed_date d) s ms stands.msm stands.system_msm stands.channels stands.clocks stands.times))

-- ---- a file without a frame

look-if : (b : Bool) (look : Look) → look_lines (cond b (Some look) None) ≡ cond b (codes "looks-like " ++ look_name look ++ 10 ∷ []) []
look-if true look = refl
look-if false look = refl

pub look-lines-are : (frames : ℕ) (bytes : List ℕ) → look_lines (look_if_empty frames bytes) ≡ look_line frames (take 512 bytes)
look-lines-are frames bytes = look-if (frames == 0) (look_of (take 512 bytes))
