-- The file of a set is the text of a well-formed table, since it is a header and the records of
-- rising epochs.
use Rattle.std.proofs.Common.{◌≡◌, ℕ, suc, ◌<◌, Bool, true, false, cond, List, [], ◌∷◌, ◌++◌, length, get_or, Option, None, Some, refl, ap, sym, subst, ◌∙◌, arith, ◌≤◌, ◌^◌, inl, inr, length-append, ℤ, pos}
use Rattle.std.specs.Prelude.{filter, flat_map, All, AllPairs, IfSome, unwrap_or, nat_lt, ◌==◌}
use Rattle.std.proofs.lemmas.Bool.Decides.{nat_tests}
use Rattle.std.proofs.lemmas.Bool.{and_parts, cases_Bool, eqb-true}
use Rattle.std.proofs.lemmas.List.{append-nil, length-map}
use Rattle.std.proofs.lemmas.List.Elements.{All-nil, All-cons, All-append, All-map, All-head, All-tail, All-weaker, filter-append}
use Rattle.std.proofs.lemmas.List.Quantifiers.{all_pairs_push}
use Rattle.std.proofs.lemmas.Grind.{flat_map-append}
use Rattle.rtk_message.specs.declared.system.System.{System}
use Rattle.rtk_obs.specs.declared.any_code.AnyCode.{AnyCode}
use Rattle.rtk_obs.specs.declared.signal_cells.SignalEntry.{SignalEntry}
use Rattle.rtk_obs.specs.declared.track.Track.{Track}
use Rattle.rtk_obs.specs.AnyCode.{number_of}
use Rattle.rtk_obs.specs.Rollover.{digits_since}
use Rattle.rtk_obs.specs.Slip.{epoch_cell}
use Rattle.rtk_obs.specs.declared.cell.CellSource.TheVariants.{Legacy, Msm}
use Rattle.rtk_obs.specs.SatelliteIndex.{bit_at}
use Rattle.rtk_obs.specs.SignalCells.{IsSignalInRange}
use Rattle.rtk_collect.specs.Signals.{signals}
use Rattle.rtk_collect.specs.EpochSet.{EpochSetView, is_from, FirstIsBelow, EpochsFall}
use Rattle.rtk_rinex.specs.declared.epoch_table.Observed.{Observed}
use Rattle.rtk_obs.specs.Reading.{IsMoment}
use Rattle.rtk_rinex.specs.Header.{PositionView, IsPositionView}
use Rattle.rtk_rinex.specs.MixedForm.{form_of_head, has_phases, phases_in}
use Rattle.rtk_rinex.specs.MixedHead.{MixedHeadView}
use Rattle.rtk_rinex.specs.MixedRecord.{mixed_record_text}
use Rattle.rtk_rinex.specs.MixedTable.{HasNoPhase, IsEpochOfHead, IsMixedTable, IsRowOfHead, MixedTable, WritesNoPhase, mixed_table_text, shown_mixed_table, with_mixed_record}
use Rattle.rtk_rinex.specs.Record.{EpochTableView, IsStrengthOrNone, is_present}
use Rattle.rtk_rinex.specs.Table.{StartsAt, shown_epoch_in}
use Rattle.rtk_rinex.proofs.PublicLaws.{mixed_file-is_shown}
use Rattle.rtk_convert.specs.Rows.{rolling_frequency, codes_for, first_cell, is_signal, last_phase_of, cell_at, in_turn, observed_after, observed_at, or_nothing, rolled_or_none, shift_or_none, table_of}
use Rattle.rtk_convert.specs.File.{record_of, records, first_or, first_time, head_at, header_at, file_of, one_more_if_any, record_count}
use Rattle.rtk_setup.specs.Setup.{SetupView, IsSetupView}
use Rattle.rtk_convert.specs.FileLaws.{HasPhaseBy, IsGoodEpoch, FileIsTable}
use Rattle.rtk_convert.proofs.FileHeaderLemmas.{head-good, epoch-of-head}
use Rattle.rtk_convert.proofs.RowsLemmas.{all-rows, rows_to-rise, HasStrength, first-strength, observed-strength}

-- the tables of the epochs, rising
tables : List AnyCode → List (EpochSetView SignalEntry) → List EpochTableView
tables listed [] = []
tables listed (e ∷ below) = tables listed below ++ table_of listed e below ∷ []

tables-text : (doppler : Bool) (listed : List AnyCode) (epochs : List (EpochSetView SignalEntry)) → flat_map (mixed_record_text doppler) (tables listed epochs) ≡ records doppler listed epochs
unfolding tables records
tables-text doppler listed [] = refl
tables-text doppler listed (e ∷ below) =
    flat_map-append (mixed_record_text doppler) (tables listed below) (table_of listed e below ∷ [])
    ∙ ap (λ (xs : List ℕ). xs ++ (record_of doppler listed e below ++ [])) (tables-text doppler listed below)
    ∙ ap (λ (xs : List ℕ). records doppler listed below ++ xs) (append-nil (record_of doppler listed e below))

-- ---- the first time

-- an epoch has a record
abbrev has_record : Bool → EpochTableView → Bool
has_record doppler e = nat_lt 0 (length (mixed_record_text doppler e))

first_of : List EpochTableView → Option ℕ
first_of [] = None
first_of (e ∷ epochs) = Some e.time

first-step : (doppler : Bool) (o : Option ℕ) (xs : List EpochTableView) (e : EpochTableView) (text : List ℕ) → o ≡ first_of xs → mixed_record_text doppler e ≡ text
    → first_or o e.time text ≡ first_of (xs ++ filter (has_record doppler) (e ∷ []))
unfolding first_of
first-step doppler o [] e [] h k = rw (h, k) refl
first-step doppler o [] e (x ∷ text) h k = let some : nat_lt 0 (suc (length text)) ≡ true = grind (arith, nat_tests) in rw (h, k, some) refl
first-step doppler o (y ∷ xs) e text h k = rw h refl

first-same : (doppler : Bool) (listed : List AnyCode) (epochs : List (EpochSetView SignalEntry)) → first_time doppler listed epochs ≡ first_of (with_mixed_record doppler (tables listed epochs))
unfolding first_time tables first_of
first-same doppler listed [] = refl
first-same doppler listed (e ∷ below) =
    first-step doppler (first_time doppler listed below) (with_mixed_record doppler (tables listed below)) (table_of listed e below) (record_of doppler listed e below) (first-same doppler listed below) refl
    ∙ ap first_of (sym (filter-append (has_record doppler) (tables listed below) (table_of listed e below ∷ [])))

-- ---- the epochs are good

kept-if : {X : Type 0} (P : X → Type 0) (b : Bool) (x : X) (xs : List X) → P x → All P xs → All P (cond b (x ∷ xs) xs)
kept-if P true x xs h k = All-cons P x xs h k
kept-if P false x xs h k = k

all-kept : {X : Type 0} (P : X → Type 0) (p : X → Bool) (xs : List X) → All P xs → All P (filter p xs)
all-kept P p [] h = All-nil P
all-kept P p (x ∷ xs) h = kept-if P (p x) x (filter p xs) (All-head P x xs h) (all-kept P p xs (All-tail P x xs h))

in-turn : (P : SignalEntry → Type 0) (cells : List SignalEntry) → All P cells → All P (in_turn cells)
in-turn P cells h =
    All-append P (filter (is_from signals Msm) cells) (filter (is_from signals Legacy) cells) (all-kept P (is_from signals Msm) cells h) (all-kept P (is_from signals Legacy) cells h)

cell-strength : (cells : List SignalEntry) (s : ℕ) (c : AnyCode) → All IsSignalInRange cells → HasStrength (cell_at cells s c)
cell-strength cells s c h = first-strength (in_turn cells) s c (in-turn IsSignalInRange cells h)

-- ---- phases that have a meaning

abbrev ShowsNoPhase : Option SignalEntry → Type 0
ShowsNoPhase o = IfSome o (λ c. (c.cell.phase_millicycles ≡ None) × (c.doppler_millihertz ≡ pos 0))

no-phase-if : (b : Bool) (c : SignalEntry) (o : Option SignalEntry) → (b ≡ true → (c.cell.phase_millicycles ≡ None) × (c.doppler_millihertz ≡ pos 0)) → ShowsNoPhase o → ShowsNoPhase (cond b (Some c) o)
no-phase-if true c o h k = h refl
no-phase-if false c o h k = k

first-phase : (setup : SetupView) (cells : List SignalEntry) (s : ℕ) (c : AnyCode) → has_phases (form_of_head setup.head) s ≡ false → All (HasPhaseBy setup) cells → ShowsNoPhase (first_cell cells s c)
first-phase setup [] s c none h = tt
first-phase setup (e ∷ cells) s c none h =
    no-phase-if (is_signal s c e) e (first_cell cells s c)
    (λ is.
    let same : e.satellite ≡ s = eqb-true e.satellite s (and_parts (e.satellite == s) (number_of e.code == number_of c) is).0 in
    All-head (HasPhaseBy setup) e cells h (subst (λ (n : ℕ). has_phases (form_of_head setup.head) n ≡ false) (sym same) none))
    (first-phase setup cells s c none (All-tail (HasPhaseBy setup) e cells h))

observed-phase : (last : Option Track) (code : AnyCode) (epoch : ℕ) (o : Option SignalEntry) → ShowsNoPhase o → HasNoPhase (or_nothing (observed_after last code epoch o))
observed-phase last code epoch None h = (refl, refl)
observed-phase last code epoch (Some c) h = (ap (λ (p : Option ℤ). rolled_or_none p (digits_since (rolling_frequency code) last (epoch_cell epoch c.cell)).rolls) h.0, ap shift_or_none h.1)

table-rows : (s : SetupView) (e : EpochSetView SignalEntry) (below : List (EpochSetView SignalEntry)) → IsGoodEpoch s e → All (IsRowOfHead s.head) (table_of s.head.listed e below).rows
table-rows s e below good = all-rows (IsRowOfHead s.head) (observed_at e below) s.head.listed 221 (omega arith)
    (λ n hs m.
    let codes = codes_for s.head.listed n in
    let row = λ (code : AnyCode). or_nothing (observed_at e below n code) in
    record {
      satellite = hs;
      width = length-map codes row;
      strengths = All-map (λ (o : Observed). IsStrengthOrNone o.strength_millidbhz) row codes
          (λ k d l. observed-strength (last_phase_of below n (get_or codes k d)) (get_or codes k d) e.epoch (cell_at e.cells n (get_or codes k d)) (cell-strength e.cells n (get_or codes k d) good.cells));
      phases = λ is untold.
          let none : has_phases (form_of_head s.head) n ≡ false = subst (λ (t : System). phases_in (form_of_head s.head) t (bit_at n) ≡ false) (sym is) untold in
          All-map WritesNoPhase row codes
          (λ k d l.
          let shown = observed-phase (last_phase_of below n (get_or codes k d)) (get_or codes k d) e.epoch (cell_at e.cells n (get_or codes k d))
          (first-phase s (in_turn e.cells) n (get_or codes k d) none (in-turn (HasPhaseBy s) e.cells good.phases)) in
          (ap is_present shown.0, ap is_present shown.1));
    })

table-good : (s : SetupView) (e : EpochSetView SignalEntry) (below : List (EpochSetView SignalEntry)) → IsGoodEpoch s e → IsEpochOfHead s.head (table_of s.head.listed e below)
table-good s e below good = record {
  time = good.time;
  rows = table-rows s e below good;
  rise = rows_to-rise (observed_at e below) s.head.listed 221 (omega arith);
}

-- what each table has, all have
all-tables : (P : EpochTableView → Type 0) (s : SetupView) → ((e : EpochSetView SignalEntry) (below : List (EpochSetView SignalEntry)) → IsGoodEpoch s e → P (table_of s.head.listed e below))
    → (epochs : List (EpochSetView SignalEntry)) → All (IsGoodEpoch s) epochs → All P (tables s.head.listed epochs)
unfolding tables
all-tables P s f [] h = All-nil P
all-tables P s f (e ∷ below) h =
    All-append P (tables s.head.listed below) (table_of s.head.listed e below ∷ []) (all-tables P s f below (All-tail (IsGoodEpoch s) e below h))
    (All-cons P (table_of s.head.listed e below) [] (f e below (All-head (IsGoodEpoch s) e below h)) (All-nil P))

tables-below : (listed : List AnyCode) (bound : ℕ) (epochs : List (EpochSetView SignalEntry)) → FirstIsBelow bound epochs → EpochsFall epochs → All (λ (x : EpochTableView). x.time < bound) (tables listed epochs)
unfolding tables
tables-below listed bound [] a f = All-nil (λ (x : EpochTableView). x.time < bound)
tables-below listed bound (e ∷ below) a f =
    All-append (λ (x : EpochTableView). x.time < bound) (tables listed below) (table_of listed e below ∷ [])
    (All-weaker (λ (x : EpochTableView). x.time < e.epoch) (λ (x : EpochTableView). x.time < bound) (λ x h. omega arith) (tables listed below) (tables-below listed e.epoch below f.0 f.1))
    (All-cons (λ (x : EpochTableView). x.time < bound) (table_of listed e below) [] a (All-nil (λ (x : EpochTableView). x.time < bound)))

tables-rise : (listed : List AnyCode) (epochs : List (EpochSetView SignalEntry)) → EpochsFall epochs → AllPairs (λ a b. a.time < b.time) (tables listed epochs)
unfolding tables
tables-rise listed [] f = λ i j d h k. absurd (omega arith)
tables-rise listed (e ∷ below) f =
    all_pairs_push (λ (a b : EpochTableView). a.time < b.time) (tables listed below) (table_of listed e below) (tables-rise listed below f.1) (tables-below listed e.epoch below f.0 f.1)

-- ---- the first time is good

first-moment : (h : MixedHeadView) (near : ℕ) (xs : List EpochTableView) → IsMoment near → All (IsEpochOfHead h) xs → IsMoment (unwrap_or (first_of xs) near)
unfolding first_of
first-moment h near [] m good = m
first-moment h near (e ∷ xs) m good = let one : IsEpochOfHead h e = All-head (IsEpochOfHead h) e xs good in one.time

starts : (near : ℕ) (xs : List EpochTableView) → StartsAt (unwrap_or (first_of xs) near) xs
unfolding first_of
starts near [] = tt
starts near (e ∷ xs) = refl

-- ---- the count of records

-- one more epoch
more-counted : (doppler : Bool) (n count : ℕ) (xs : List EpochTableView) (e : EpochTableView) (text : List ℕ) → count ≡ length (with_mixed_record doppler xs) → mixed_record_text doppler e ≡ text
    → length (with_mixed_record doppler xs) ≤ n → suc n < 2 ^ 64 → one_more_if_any text count ≡ length (with_mixed_record doppler xs ++ filter (has_record doppler) (e ∷ []))
more-counted doppler n count xs e [] is none few within = rw none (is ∙ ap (λ (t : List EpochTableView). length t) (sym (append-nil (with_mixed_record doppler xs))))
more-counted doppler n count xs e (x ∷ text) is some few within =
    let has : nat_lt 0 (suc (length text)) ≡ true = grind (arith, nat_tests) in
    let more = length-append (with_mixed_record doppler xs) (e ∷ []) in
    rw (some, has) (omega (arith, is, more, few, within))

one-at-most : (test : EpochTableView → Bool) (e : EpochTableView) → length (filter test (e ∷ [])) ≤ 1
one-at-most test e = elim (cases_Bool (test e)) [
  | inl passes ↦ rw passes (omega arith)
  | inr fails ↦ rw fails (omega arith)
]

few-records : (doppler : Bool) (listed : List AnyCode) (epochs : List (EpochSetView SignalEntry)) → length (with_mixed_record doppler (tables listed epochs)) ≤ length epochs
unfolding tables
few-records doppler listed [] = omega arith
few-records doppler listed (e ∷ below) =
    let few = few-records doppler listed below in
    let joined = filter-append (has_record doppler) (tables listed below) (table_of listed e below ∷ []) in
    let size = ap (λ (t : List EpochTableView). length t) joined in
    let sum = length-append (with_mixed_record doppler (tables listed below)) (filter (has_record doppler) (table_of listed e below ∷ [])) in
    let one = one-at-most (has_record doppler) (table_of listed e below) in
    omega (arith, few, size, sum, one)

records-are : (doppler : Bool) (listed : List AnyCode) (epochs : List (EpochSetView SignalEntry)) → length epochs < 2 ^ 64 → record_count doppler listed epochs ≡ length (with_mixed_record doppler (tables listed epochs))
unfolding record_count tables
records-are doppler listed [] few = refl
records-are doppler listed (e ∷ below) few =
    let xs : List EpochTableView = tables listed below in
    more-counted doppler (length below) (record_count doppler listed below) xs (table_of listed e below) (record_of doppler listed e below) (records-are doppler listed below (omega (arith, few))) refl (few-records doppler listed below) few
    ∙ ap (λ (t : List EpochTableView). length t) (sym (filter-append (has_record doppler) xs (table_of listed e below ∷ [])))

-- ---- the table

-- the file is the text of a table with as many records as are counted
pub file-has_records : (s : SetupView) (site : PositionView) (epochs : List (EpochSetView SignalEntry)) → IsSetupView s → IsPositionView site → EpochsFall epochs → All (IsGoodEpoch s) epochs
    → (t : MixedTable) × IsMixedTable t × (file_of s site epochs ≡ mixed_table_text t) × (length epochs < 2 ^ 64 → length t.epochs ≡ record_count s.head.doppler s.head.listed epochs)
file-has_records s site epochs good_setup good_site fall good =
    let xs : List EpochTableView = tables s.head.listed epochs in
    let some : List EpochTableView = with_mixed_record s.head.doppler xs in
    let first : ℕ = unwrap_or (first_of some) s.near in
    let near : IsMoment s.near = let to = good_setup.1.to in omega arith in
    let all : All (IsEpochOfHead s.head) xs = all-tables (IsEpochOfHead s.head) s (table-good s) epochs good in
    let told : All (IsEpochOfHead (head_at s first)) xs = All-weaker (IsEpochOfHead s.head) (IsEpochOfHead (head_at s first)) (epoch-of-head s first) xs all in
    let moment = first-moment s.head s.near some near (all-kept (IsEpochOfHead s.head) (has_record s.head.doppler) xs all) in
    let shown = mixed_file-is_shown (head_at s first) site first xs (head-good s first good_setup) good_site moment told (tables-rise s.head.listed epochs fall) (starts s.near some) in (
      shown_mixed_table (head_at s first) site first xs,
      shown.table,
      ap (λ (o : Option ℕ). header_at s site (unwrap_or o s.near) ++ records s.head.doppler s.head.listed epochs) (first-same s.head.doppler s.head.listed epochs)
          ∙ ap (λ (text : List ℕ). header_at s site first ++ text) (sym (tables-text s.head.doppler s.head.listed epochs))
          ∙ shown.text,
      λ few. length-map some (shown_epoch_in s.head.doppler) ∙ sym (records-are s.head.doppler s.head.listed epochs few),
    )

pub file-is_table : FileIsTable
file-is_table s site epochs good_setup good_site fall good =
    let t = file-has_records s site epochs good_setup good_site fall good in (t.0, t.1, t.2)
