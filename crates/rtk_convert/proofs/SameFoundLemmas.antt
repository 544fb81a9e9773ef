-- A conversion represents two lists of found frames: the next frame adds the same to the files and the reports of both, and so
-- does the end.
use Rattle.std.proofs.Common.{◌≡◌, ℕ, Bool, List, [], ◌∷◌, ◌++◌, take, Option, None, Some, Result, refl, ap, append_assoc, sym, subst, ◌∙◌, arith, inl, inr}
use Rattle.std.specs.Prelude.{is_some, IsTrue, not, ◌&&◌, ◌||◌, if◌then◌else◌}
use Rattle.std.proofs.lemmas.Bool.{cases_Bool}
use Rattle.std.proofs.lemmas.List.Elements.{All-cons}
use Rattle.std.proofs.lemmas.List.{append-nil, append_cancel_left, take-append-drop}
use Rattle.rtk_frame.specs.Stream.{with_more, count_after}
use Rattle.rtk_message.specs.declared.any_message.AnyMessage.{AnyMessage as Message}
use Rattle.rtk_message.specs.declared.any_message.AnyMessage.TheVariants as any
use Rattle.rtk_message.specs.declared.message.Message.TheVariants.{Obs1004, Arp1005, Arp1006, Msm1074}
use Rattle.rtk_message.specs.declared.any_fault.AnyFault.{AnyFault}
use Rattle.rtk_message.specs.declared.system.System.{System}
use Rattle.rtk_message.specs.declared.system.System.TheVariants.{Gps, Glonass, Galileo, Beidou, Qzss, Sbas, Navic}
use Rattle.rtk_message.specs.AnyDecoded.{number_of}
use Rattle.rtk_obs.specs.declared.any_code.AnyCode.{AnyCode}
use Rattle.rtk_obs.specs.declared.track.Track.{Track}
use Rattle.rtk_obs.specs.AnyCode.{IsSignal}
use Rattle.rtk_obs.specs.Carriers.{IsSlot}
use Rattle.rtk_obs.specs.SatelliteIndex.{letter_of}
use Rattle.rtk_obs.specs.Rollover.{last_after, last_phase}
use Rattle.rtk_obs.specs.Slip.{EpochCell, epoch_cell}
use Rattle.rtk_collect.specs.Signals.{signals}
use Rattle.rtk_obs.specs.declared.signal_cells.SignalEntry.{SignalEntry}
use Rattle.rtk_collect.specs.Accepted.{station, kept, closed, no_cells}
use Rattle.rtk_collect.specs.Answer.{Class, class_of, conflicts_of}
use Rattle.rtk_collect.specs.Arrival.{Arrival, At, epoch_of, message_of}
use Rattle.rtk_collect.specs.EpochSet.{EpochSetView}
use Rattle.rtk_collect.specs.Late.{late}
use Rattle.rtk_collect.specs.Laws.{KeptAreGreatest, ExcusedIsKept}
use Rattle.rtk_collect.specs.declared.conflicts.AnySatelliteCode.{AnySatelliteCode}
use Rattle.rtk_collect.proofs.PublicLaws.{closed-drop}
use Rattle.rtk_rinex.specs.Header.{PositionView}
use Rattle.rtk_rinex.specs.MixedRecord.{mixed_record_text}
use Rattle.rtk_rinex.specs.declared.epoch_table.SatelliteRow.{SatelliteRow}
use Rattle.rtk_setup.specs.declared.counts.Counts.{Counts}
use Rattle.rtk_convert.specs.declared.frame_class.FrameClass.{FrameClass}
use Rattle.rtk_convert.specs.declared.frame_class.FrameClass.TheVariants.{OtherMessage, Refused, Foreign, Dated}
use Rattle.rtk_convert.specs.Conversion.{AllTaken, found_on}
use Rattle.rtk_convert.specs.File.{record_of, first_or, first_time, one_more_if_any, record_count}
use Rattle.rtk_convert.specs.FileOfArrivals.{site_of_stations, site_of_kept, kept_file, file_so_far}
use Rattle.rtk_convert.specs.Finish.{all_counts, missing_letter, missing_letters, missing_lines, unphased_lines, remark_lines, report_of}
use Rattle.rtk_convert.specs.FrameClass.{IsDatedMessage, IsEpochOf, IsClassOfReading, IsClassOfPayload, Found, arrivals}
use Rattle.rtk_convert.specs.History.{Finds, newest_on}
use Rattle.rtk_convert.specs.Report.{brings, brings_sbas, class_lines, frame_lines, has_taken, is_of, is_of_sbas, is_taken, lines, counted_as, one_frame_more, frame_counts}
use Rattle.rtk_convert.specs.ReportText.{missing_line}
use Rattle.rtk_setup.specs.Counts.{count_lines}
use Rattle.rtk_convert.specs.Rows.{rolling_frequency, cell_at, and_below, last_phase_of, observed_after, observed_at}
use Rattle.rtk_setup.specs.Setup.{SetupView, cells_by, is_of_gps, lists_system, takes}
use Rattle.rtk_convert.specs.Slots.{is_without_channel, is_of_other_channel, tells_slot, any_tells}
use Rattle.rtk_convert.specs.Steps.ClosedText.{header_before, closed_text, closing_text, closing}
use Rattle.rtk_convert.specs.Writing.{WritesRest}
use Rattle.rtk_convert.proofs.ClassLemmas.{dated-reading, dated-taken}
use Rattle.rtk_convert.proofs.EndLemmas.{channels-same}
use Rattle.rtk_convert.proofs.FileLemmas.{first_time-more, closed-more, file-closed}
use Rattle.rtk_convert.proofs.RowsLemmas.{rows_to-same}
use Rattle.rtk_convert.proofs.SameWindowLemmas.{SameWindow, HasStationNumber, AnsweredAlike, answered-alike, class-late}
use Rattle.rtk_convert.proofs.SoFarLemmas.{so_far-is, text-final}

-- ---- texts

-- two texts went on with the same text
pub record GoOnAlike (first first_after second second_after : List ℕ) : Type 0 where
  pub more : List ℕ
  pub first_is : first_after ≡ first ++ more
  pub second_is : second_after ≡ second ++ more

pub alike-none : (x y : List ℕ) → GoOnAlike x x y y
alike-none x y = record { more = []; first_is = sym (append-nil x); second_is = sym (append-nil y) }

pub alike-on : (a b c x y z : List ℕ) → GoOnAlike a b x y → GoOnAlike b c y z → GoOnAlike a c x z
alike-on a b c x y z p q = record {
  more = p.more ++ q.more;
  first_is = q.first_is ∙ ap (λ t. t ++ q.more) p.first_is ∙ append_assoc a p.more q.more;
  second_is = q.second_is ∙ ap (λ t. t ++ q.more) p.second_is ∙ append_assoc x p.more q.more;
}

pub rest-alike : (before after : Option (List ℕ)) (a b x y : List ℕ) → GoOnAlike a b x y → WritesRest before after a b → WritesRest before after x y
rest-alike before after a b x y g w =
    (g.more, g.second_is, w.2 ∙ ap (with_more before) (append_cancel_left a w.0 g.more (sym w.1 ∙ g.first_is)))

-- ---- closed epochs

-- the same phases are the last ones, both have a record or none, and as many records
pub record SameClosed (doppler : Bool) (listed : List AnyCode) (first second : List (EpochSetView SignalEntry)) : Type 0 where
  pub phases : (satellite : ℕ) (code : AnyCode) → IsSignal satellite code → last_phase_of first satellite code ≡ last_phase_of second satellite code
  pub header : is_some (first_time doppler listed first) ≡ is_some (first_time doppler listed second)
  pub count : record_count doppler listed first ≡ record_count doppler listed second

text_of : Bool → ℕ → List SatelliteRow → List ℕ
text_of doppler epoch rows = mixed_record_text doppler (record { time = epoch; rows = rows })

record-same : (doppler : Bool) (listed : List AnyCode) (e : EpochSetView SignalEntry) (first second : List (EpochSetView SignalEntry)) → SameClosed doppler listed first second → record_of doppler listed e first ≡ record_of doppler listed e second
unfolding text_of
record-same doppler listed e first second c =
    ap (text_of doppler e.epoch) (rows_to-same (observed_at e first) (observed_at e second) listed 221 (omega arith)
    (λ s code is. ap (λ (t : Option Track). observed_after t code e.epoch (cell_at e.cells s code)) (c.phases s code is)))

phase-step : (frequency : ℕ) (epoch : ℕ) (o : Option SignalEntry) (xs ys : List EpochCell) → last_phase frequency xs ≡ last_phase frequency ys → last_phase frequency (and_below epoch o xs) ≡ last_phase frequency (and_below epoch o ys)
phase-step frequency epoch None xs ys h = h
phase-step frequency epoch (Some c) xs ys h = ap (λ (t : Option Track). last_after frequency t (epoch_cell epoch c.cell)) h

header-step : (o p : Option ℕ) (epoch : ℕ) (text : List ℕ) → is_some o ≡ is_some p → is_some (first_or o epoch text) ≡ is_some (first_or p epoch text)
header-step None None epoch text h = refl
header-step None (Some t) epoch text h = absurd cc
header-step (Some t) None epoch text h = absurd cc
header-step (Some t) (Some u) epoch text h = refl

one-closed : (doppler : Bool) (listed : List AnyCode) (e : EpochSetView SignalEntry) (first second : List (EpochSetView SignalEntry)) → SameClosed doppler listed first second → SameClosed doppler listed (e ∷ first) (e ∷ second)
unfolding record_count
one-closed doppler listed e first second c =
    let same = record-same doppler listed e first second c in
    record {
      phases = λ s code is. phase-step (rolling_frequency code) e.epoch (cell_at e.cells s code) _ _ (c.phases s code is);
      header = ap is_some (first_time-more doppler listed e first) ∙ header-step (first_time doppler listed first) (first_time doppler listed second) e.epoch (record_of doppler listed e first) c.header
          ∙ ap (λ t. is_some (first_or (first_time doppler listed second) e.epoch t)) same ∙ ap is_some (sym (first_time-more doppler listed e second));
      count = ap (one_more_if_any (record_of doppler listed e first)) c.count ∙ ap (λ t. one_more_if_any t (record_count doppler listed second)) same;
    }

more-closed : (doppler : Bool) (listed : List AnyCode) (more first second : List (EpochSetView SignalEntry)) → SameClosed doppler listed first second → SameClosed doppler listed (more ++ first) (more ++ second)
more-closed doppler listed [] first second c = c
more-closed doppler listed (e ∷ more) first second c = one-closed doppler listed e (more ++ first) (more ++ second) (more-closed doppler listed more first second c)

closing-same : (s : SetupView) (site : PositionView) (e : EpochSetView SignalEntry) (first second : List (EpochSetView SignalEntry)) → SameClosed s.head.doppler s.head.listed first second → closing s site e first ≡ closing s site e second
closing-same s site e first second c =
    ap (λ b. closing_text s site e.epoch b (record_of s.head.doppler s.head.listed e first)) c.header
    ∙ ap (closing_text s site e.epoch (is_some (first_time s.head.doppler s.head.listed second))) (record-same s.head.doppler s.head.listed e first second c)

closed-alike : (s : SetupView) (site : PositionView) (more first second : List (EpochSetView SignalEntry)) → SameClosed s.head.doppler s.head.listed first second
    → GoOnAlike (closed_text s site first) (closed_text s site (more ++ first)) (closed_text s site second) (closed_text s site (more ++ second))
closed-alike s site [] first second c = alike-none (closed_text s site first) (closed_text s site second)
closed-alike s site (e ∷ more) first second c =
    alike-on (closed_text s site first) (closed_text s site (more ++ first)) (closed_text s site (e ∷ more ++ first))
    (closed_text s site second) (closed_text s site (more ++ second)) (closed_text s site (e ∷ more ++ second))
    (closed-alike s site more first second c)
    (record {
      more = closing s site e (more ++ first);
      first_is = closed-more s site e (more ++ first);
      second_is = closed-more s site e (more ++ second)
          ∙ ap (λ t. closed_text s site (more ++ second) ++ t) (sym (closing-same s site e (more ++ first) (more ++ second) (more-closed s.head.doppler s.head.listed more first second c)));
    })

-- ---- an arrival

site-same : (of : Message → List SignalEntry) (n : ℕ) (first second : List Arrival) → SameWindow of n first second → site_of_kept n first ≡ site_of_kept n second
site-same of n first second w =
    ap (λ (m : Option Message). site_of_stations m (station n 1006 first)) w.arp1005 ∙ ap (site_of_stations (station n 1005 second)) w.arp1006

arrival-alike : (s : SetupView) (a : Arrival) (first second : List Arrival) → AnsweredAlike (cells_by s) s.window a first second → SameClosed s.head.doppler s.head.listed (closed signals (cells_by s) s.window first) (closed signals (cells_by s) s.window second)
    → GoOnAlike (file_so_far s first) (file_so_far s (a ∷ first)) (file_so_far s second) (file_so_far s (a ∷ second))
arrival-alike s a first second alike c =
    let site = site_of_kept s.window (a ∷ first) in
    let same : site_of_kept s.window (a ∷ second) ≡ site = sym (site-same (cells_by s) s.window (a ∷ first) (a ∷ second) alike.holds) in
    let g = closed-alike s site alike.closes (closed signals (cells_by s) s.window first) (closed signals (cells_by s) s.window second) c in
    record {
      more = g.more;
      first_is = so_far-is s (a ∷ first) ∙ ap (closed_text s site) alike.first_closes ∙ g.first_is
          ∙ ap (λ t. t ++ g.more) (text-final s a first ∙ sym (so_far-is s first));
      second_is = so_far-is s (a ∷ second) ∙ ap (λ (p : PositionView). closed_text s p (closed signals (cells_by s) s.window (a ∷ second))) same ∙ ap (closed_text s site) alike.second_closes ∙ g.second_is
          ∙ ap (λ t. t ++ g.more) (ap (λ (p : PositionView). closed_text s p (closed signals (cells_by s) s.window second)) (sym same) ∙ text-final s a second ∙ sym (so_far-is s second));
    }

closed-after-same : (s : SetupView) (a : Arrival) (first second : List Arrival) → AnsweredAlike (cells_by s) s.window a first second → SameClosed s.head.doppler s.head.listed (closed signals (cells_by s) s.window first) (closed signals (cells_by s) s.window second)
    → SameClosed s.head.doppler s.head.listed (closed signals (cells_by s) s.window (a ∷ first)) (closed signals (cells_by s) s.window (a ∷ second))
closed-after-same s a first second alike c =
    let more = more-closed s.head.doppler s.head.listed alike.closes (closed signals (cells_by s) s.window first) (closed signals (cells_by s) s.window second) c in
    rw (alike.first_closes, alike.second_closes) more

lines-same : (s : SetupView) (link : ℕ) (a : Arrival) (first second : List Arrival) → AnsweredAlike (cells_by s) s.window a first second → frame_lines s link (Dated a) first ≡ frame_lines s link (Dated a) second
lines-same s link a first second alike =
    let n = s.window in
    let of = cells_by s in
    let with_class = λ (c : Class) (cells : List AnySatelliteCode). class_lines link (number_of (message_of a)) (epoch_of a) c cells in
    elim (cases_Bool (late n a first)) [
      | inl over ↦
          ap (λ (c : Class). with_class c (conflicts_of signals of n a first)) (class-late of n a first over)
          ∙ ap (λ (c : Class). with_class c (conflicts_of signals of n a second)) (sym (class-late of n a second (sym alike.same_late ∙ over)))
      | inr fresh ↦
          ap (λ (c : Class). with_class c (conflicts_of signals of n a first)) alike.same_class ∙ ap (with_class (class_of signals of n a second)) (alike.same_conflicts fresh)
    ]

brings-same : (s : SetupView) (system : System) (a : Arrival) (first second : List Arrival) → AnsweredAlike (cells_by s) s.window a first second → brings s system (Dated a) first ≡ brings s system (Dated a) second
brings-same s system a first second alike =
    ap (λ (c : Class). (is_of system (message_of a) && is_taken c) || (is_of_sbas (brings_sbas s (message_of a)) system && is_taken c)) alike.same_class

-- ---- a frame

-- both tell the same for the last lines of a report
abbrev pub RemarksAlike : SetupView → List Found → List Found → Type 0
RemarksAlike s first second =
    ((system : System) → has_taken s system first ≡ has_taken s system second)
    × ((slot : ℕ) → IsSlot slot → any_tells is_of_other_channel s slot first ≡ any_tells is_of_other_channel s slot second)
    × ((slot : ℕ) → IsSlot slot → any_tells is_without_channel s slot first ≡ any_tells is_without_channel s slot second)

-- a conversion with this setup represents both, and takes the messages of the second
pub record SameFound (s : SetupView) (first second : List Found) : Type 0 where
  pub taken : AllTaken s (arrivals second)
  pub window : SameWindow (cells_by s) s.window (arrivals first) (arrivals second)
  pub closed : SameClosed s.head.doppler s.head.listed (closed signals (cells_by s) s.window (arrivals first)) (closed signals (cells_by s) s.window (arrivals second))
  pub counts : frame_counts s first ≡ frame_counts s second
  pub remarks : RemarksAlike s first second

-- a frame adds the same to the files and the reports of both, and then they are the same for a conversion again
pub record AddsAlike (s : SetupView) (first first_after second second_after : List Found) : Type 0 where
  pub file : GoOnAlike (file_so_far s (arrivals first)) (file_so_far s (arrivals first_after)) (file_so_far s (arrivals second)) (file_so_far s (arrivals second_after))
  pub report : GoOnAlike (lines s first) (lines s first_after) (lines s second) (lines s second_after)
  pub same : SameFound s first_after second_after

station-number : (s : SetupView) (m : Message) (e : Option ℕ) → IsEpochOf s m e → HasStationNumber (At e m)
station-number s m (Some t) is = tt
station-number s (any.Message (Obs1004 m)) None is = absurd is
station-number s (any.Message (Arp1005 m)) None is = inl refl
station-number s (any.Message (Arp1006 m)) None is = inr refl
station-number s (any.Message (Msm1074 m)) None is = absurd is
station-number s (any.Msm m) None is = absurd is
station-number s (any.Obs1012 m) None is = absurd is

-- a message that is dated has the number of a station message, or an epoch
dated-number : (s : SetupView) (m : Message) (a : Arrival) → IsDatedMessage s m a → HasStationNumber a
dated-number s m (At e n) is = subst (λ (x : Message). HasStationNumber (At e x)) (sym is.0) (station-number s m e is.1)

numbered : (s : SetupView) (r : Result Message AnyFault) (a : Arrival) → IsClassOfReading s r (Dated a) → HasStationNumber a
numbered s r a is = let p = dated-reading s r a is in dated-number s p.0 a p.2.dated

frame-alike : ((s : SetupView) → KeptAreGreatest signals (cells_by s)) → ExcusedIsKept → (s : SetupView) (link : ℕ) (payload : List ℕ) (f : FrameClass) (first second : List Found) → IsClassOfPayload s payload f → SameFound s first second
    → AddsAlike s first (found_on link f ∷ first) second (found_on link f ∷ second)
frame-alike greatest excused s link payload OtherMessage first second comes same = record {
  file = alike-none (file_so_far s (arrivals first)) (file_so_far s (arrivals second));
  report = record { more = []; first_is = refl; second_is = refl };
  same = record { taken = same.taken; window = same.window; closed = same.closed; counts = ap (λ (c : Counts). record (one_frame_more c) { other = count_after c.other }) same.counts; remarks = same.remarks };
}
frame-alike greatest excused s link payload (Refused fault) first second comes same = record {
  file = alike-none (file_so_far s (arrivals first)) (file_so_far s (arrivals second));
  report = record { more = frame_lines s link (Refused fault) []; first_is = refl; second_is = refl };
  same = record { taken = same.taken; window = same.window; closed = same.closed; counts = ap (λ (c : Counts). record (one_frame_more c) { refused = count_after c.refused }) same.counts; remarks = same.remarks };
}
frame-alike greatest excused s link payload Foreign first second comes same = record {
  file = alike-none (file_so_far s (arrivals first)) (file_so_far s (arrivals second));
  report = record { more = []; first_is = refl; second_is = refl };
  same = record { taken = same.taken; window = same.window; closed = same.closed; counts = ap (λ (c : Counts). record (one_frame_more c) { foreign = count_after c.foreign }) same.counts; remarks = same.remarks };
}
frame-alike greatest excused s link payload (Dated a) first second comes same =
    let alike = answered-alike (cells_by s) (greatest s) excused s.window a (arrivals first) (arrivals second) (numbered s comes.0 a comes.2) same.window in
    record {
      file = arrival-alike s a (arrivals first) (arrivals second) alike same.closed;
      report = record {
        more = frame_lines s link (Dated a) (arrivals first);
        first_is = refl;
        second_is = ap (λ t. lines s second ++ t) (sym (lines-same s link a (arrivals first) (arrivals second) alike));
      };
      same = record {
        taken = All-cons (λ (b : Arrival). IsTrue (takes s (number_of (message_of b)))) a (arrivals second) (dated-taken s comes.0 a comes.2) same.taken;
        window = alike.holds;
        closed = closed-after-same s a (arrivals first) (arrivals second) alike same.closed;
        counts = ap (λ (c : Counts). counted_as (class_of signals (cells_by s) s.window a (arrivals first)) (one_frame_more c)) same.counts
            ∙ ap (λ (c : Class). counted_as c (one_frame_more (frame_counts s second))) alike.same_class;
        remarks = (
          λ system. ap (λ (b : Bool). b || has_taken s system first) (brings-same s system a (arrivals first) (arrivals second) alike)
              ∙ ap (λ (b : Bool). brings s system (Dated a) (arrivals second) || b) (same.remarks.0 system),
          λ slot is. ap (λ (b : Bool). tells_slot is_of_other_channel s slot (Dated a) || b) (same.remarks.1 slot is),
          λ slot is. ap (λ (b : Bool). tells_slot is_without_channel s slot (Dated a) || b) (same.remarks.2 slot is),
        );
      };
    }

-- ---- the frames that a call finds

-- frames with these payloads are found after both, and add the same
pub record FindsAlike (s : SetupView) (link : ℕ) (ps : List (List ℕ)) (first first_after second : List Found) : Type 0 where
  pub after : List Found
  pub finds : Finds s link ps second after
  pub adds : AddsAlike s first first_after second after
  pub newest : (k : ℕ) → newest_on k first ≡ newest_on k second → newest_on k first_after ≡ newest_on k after

adds-on : (s : SetupView) (a b c x y z : List Found) → AddsAlike s a b x y → AddsAlike s b c y z → AddsAlike s a c x z
adds-on s a b c x y z p q = record {
  file = alike-on (file_so_far s (arrivals a)) (file_so_far s (arrivals b)) (file_so_far s (arrivals c)) (file_so_far s (arrivals x)) (file_so_far s (arrivals y)) (file_so_far s (arrivals z)) p.file q.file;
  report = alike-on (lines s a) (lines s b) (lines s c) (lines s x) (lines s y) (lines s z) p.report q.report;
  same = q.same;
}

pub adds-none : (s : SetupView) (first second : List Found) → SameFound s first second → AddsAlike s first first second second
adds-none s first second same = record {
  file = alike-none (file_so_far s (arrivals first)) (file_so_far s (arrivals second));
  report = alike-none (lines s first) (lines s second);
  same = same;
}

newest-step : (link k : ℕ) (f : FrameClass) (first second : List Found) → newest_on k first ≡ newest_on k second → newest_on k (found_on link f ∷ first) ≡ newest_on k (found_on link f ∷ second)
newest-step link k f first second h = rw h refl

pub finds-alike : ((s : SetupView) → KeptAreGreatest signals (cells_by s)) → ExcusedIsKept → (s : SetupView) (link : ℕ) (ps : List (List ℕ)) (first first_after second : List Found) → Finds s link ps first first_after → SameFound s first second
    → FindsAlike s link ps first first_after second
finds-alike greatest excused s link [] first first_after second found same =
    record {
      after = second;
      finds = refl;
      adds = rw found (adds-none s first second same);
      newest = λ k h. ap (newest_on k) found ∙ h;
    }
finds-alike greatest excused s link (p ∷ ps) first first_after second (f, comes, more) same =
    let one = frame-alike greatest excused s link p f first second comes same in
    let rest = finds-alike greatest excused s link ps (found_on link f ∷ first) first_after (found_on link f ∷ second) more one.same in
    record {
      after = rest.after;
      finds = (f, comes, rest.finds);
      adds = adds-on s first (found_on link f ∷ first) first_after second (found_on link f ∷ second) rest.after one rest.adds;
      newest = λ k h. rest.newest k (newest-step link k f first second h);
    }

-- ---- the end

none : EpochSetView SignalEntry
none = no_cells 0

window-and-closed : (of : Message → List SignalEntry) (n : ℕ) (before : List Arrival) → kept signals of n before ≡ take n (kept signals of n before) ++ closed signals of n before
window-and-closed of n before = sym (take-append-drop n (kept signals of n before)) ∙ ap (λ t. take n (kept signals of n before) ++ t) (sym (closed-drop signals of n none before))

kept-same : (s : SetupView) (first second : List Arrival) → SameWindow (cells_by s) s.window first second → SameClosed s.head.doppler s.head.listed (closed signals (cells_by s) s.window first) (closed signals (cells_by s) s.window second)
    → SameClosed s.head.doppler s.head.listed (kept signals (cells_by s) s.window first) (kept signals (cells_by s) s.window second)
kept-same s first second w c =
    let more = more-closed s.head.doppler s.head.listed (take s.window (kept signals (cells_by s) s.window first)) (closed signals (cells_by s) s.window first) (closed signals (cells_by s) s.window second) c in
    let one = window-and-closed (cells_by s) s.window first in
    let other : kept signals (cells_by s) s.window second ≡ take s.window (kept signals (cells_by s) s.window first) ++ closed signals (cells_by s) s.window second = window-and-closed (cells_by s) s.window second ∙ ap (λ t. t ++ closed signals (cells_by s) s.window second) (sym w.sets) in
    record {
      phases = λ satellite code is. ap (λ (xs : List (EpochSetView SignalEntry)). last_phase_of xs satellite code) one ∙ more.phases satellite code is ∙ ap (λ (xs : List (EpochSetView SignalEntry)). last_phase_of xs satellite code) (sym other);
      header = ap (λ (xs : List (EpochSetView SignalEntry)). is_some (first_time s.head.doppler s.head.listed xs)) one ∙ more.header ∙ ap (λ (xs : List (EpochSetView SignalEntry)). is_some (first_time s.head.doppler s.head.listed xs)) (sym other);
      count = ap (record_count s.head.doppler s.head.listed) one ∙ more.count ∙ ap (record_count s.head.doppler s.head.listed) (sym other);
    }

pub counts-same : (s : SetupView) (first second : List Found) → SameFound s first second → all_counts s first ≡ all_counts s second
counts-same s first second same =
    let k = kept-same s (arrivals first) (arrivals second) same.window same.closed in
    ap (λ (c : Counts). record c { epochs = record_count s.head.doppler s.head.listed (kept signals (cells_by s) s.window (arrivals first)) }) same.counts
    ∙ ap (λ (n : ℕ). record (frame_counts s second) { epochs = n }) k.count

pub file-ends-alike : (s : SetupView) (first second : List Found) → SameFound s first second
    → GoOnAlike (file_so_far s (arrivals first)) (kept_file s (arrivals first)) (file_so_far s (arrivals second)) (kept_file s (arrivals second))
file-ends-alike s first second same =
    let A = arrivals first in
    let B = arrivals second in
    let site = site_of_kept s.window A in
    let sites : site_of_kept s.window B ≡ site = sym (site-same (cells_by s) s.window A B same.window) in
    let sets = take s.window (kept signals (cells_by s) s.window A) in
    let k = kept-same s A B same.window same.closed in
    let g = closed-alike s site sets (closed signals (cells_by s) s.window A) (closed signals (cells_by s) s.window B) same.closed in
    let last = header_before s site s.near (is_some (first_time s.head.doppler s.head.listed (kept signals (cells_by s) s.window A))) in
    let other : kept signals (cells_by s) s.window B ≡ sets ++ closed signals (cells_by s) s.window B = window-and-closed (cells_by s) s.window B ∙ ap (λ t. t ++ closed signals (cells_by s) s.window B) (sym same.window.sets) in
    record {
      more = g.more ++ last;
      first_is = file-closed s site (kept signals (cells_by s) s.window A)
          ∙ ap (λ t. t ++ last) (ap (closed_text s site) (window-and-closed (cells_by s) s.window A) ∙ g.first_is ∙ ap (λ t. t ++ g.more) (sym (so_far-is s A)))
          ∙ append_assoc (file_so_far s A) g.more last;
      second_is = file-closed s (site_of_kept s.window B) (kept signals (cells_by s) s.window B)
          ∙ ap (λ (p : PositionView). closed_text s p (kept signals (cells_by s) s.window B) ++ header_before s p s.near (is_some (first_time s.head.doppler s.head.listed (kept signals (cells_by s) s.window B)))) sites
          ∙ ap (λ b. closed_text s site (kept signals (cells_by s) s.window B) ++ header_before s site s.near b) (sym k.header)
          ∙ ap (λ t. t ++ last) (ap (closed_text s site) other ∙ g.second_is
          ∙ ap (λ t. t ++ g.more) (ap (λ (p : PositionView). closed_text s p (closed signals (cells_by s) s.window B)) (sym sites) ∙ sym (so_far-is s B)))
          ∙ append_assoc (file_so_far s B) g.more last;
    }

letter-same : (s : SetupView) (first second : List Found) (system : System) → SameFound s first second → missing_letter s first system ≡ missing_letter s second system
letter-same s first second system same =
    ap (λ (b : Bool). if lists_system s.head.listed system && not b then 32 ∷ letter_of system ∷ [] else []) (same.remarks.0 system)

letters-same : (s : SetupView) (first second : List Found) → SameFound s first second → missing_letters s first ≡ missing_letters s second
letters-same s first second same = rw (
  letter-same s first second Gps same,
  letter-same s first second Glonass same,
  letter-same s first second Galileo same,
  letter-same s first second Beidou same,
  letter-same s first second Qzss same,
  letter-same s first second Sbas same,
  letter-same s first second Navic same,
) refl

missing-same : (s : SetupView) (first second : List Found) → SameFound s first second → missing_lines s first ≡ missing_lines s second
missing-same s first second same = ap (λ (t : List ℕ). if is_of_gps s then [] else missing_line t) (letters-same s first second same)

unphased-same : (s : SetupView) (first second : List Found) → SameFound s first second → unphased_lines s first ≡ unphased_lines s second
unphased-same s first second same =
    channels-same (lists_system s.head.listed Glonass) (λ slot. any_tells is_of_other_channel s slot first) (λ slot. any_tells is_without_channel s slot first)
    (λ slot. any_tells is_of_other_channel s slot second) (λ slot. any_tells is_without_channel s slot second) same.remarks.1 same.remarks.2

remarks-same : (s : SetupView) (first second : List Found) → SameFound s first second → remark_lines s first ≡ remark_lines s second
remarks-same s first second same =
    ap (λ (t : List ℕ). t ++ missing_lines s first) (unphased-same s first second same) ∙ ap (λ (t : List ℕ). unphased_lines s second ++ t) (missing-same s first second same)

pub report-ends-alike : (s : SetupView) (first second : List Found) → SameFound s first second
    → GoOnAlike (lines s first) (report_of s first) (lines s second) (report_of s second)
report-ends-alike s first second same = record {
  more = remark_lines s first ++ count_lines (all_counts s first);
  first_is = refl;
  second_is = ap (λ (c : Counts). lines s second ++ (remark_lines s second ++ count_lines c)) (sym (counts-same s first second same))
      ∙ ap (λ (t : List ℕ). lines s second ++ (t ++ count_lines (all_counts s first))) (sym (remarks-same s first second same));
}
