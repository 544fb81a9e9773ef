-- One arrival: what the epochs represent after it, and what was written.
use Rattle.std.proofs.Common.{◌≡◌, ℕ, List, ◌∷◌, ◌++◌, Option, None, Some, ap, sym, subst, ◌∙◌, ℤ, pos}
use Rattle.std.specs.Prelude.{option_to_list, option_map, IsTrue}
use Rattle.std.proofs.lemmas.List.{append-nil}
use Rattle.std.proofs.lemmas.List.Elements.{All-cons}
use Rattle.rtk_message.specs.declared.any_message.AnyMessage.{AnyMessage as Message}
use Rattle.rtk_message.specs.declared.arp1005.Arp1005.{Arp1005 as Message1005}
use Rattle.rtk_message.specs.declared.arp1006.Arp1006.{Arp1006 as Message1006}
use Rattle.rtk_message.specs.AnyDecoded.{number_of}
use Rattle.rtk_obs.specs.declared.position.Position.{Position}
use Rattle.rtk_obs.specs.declared.signal_cells.SignalEntry.{SignalEntry}
use Rattle.rtk_collect.specs.declared.conflicts.AnySatelliteCode.{AnySatelliteCode}
use Rattle.rtk_collect.specs.declared.outcome.Outcome.{Outcome}
use Rattle.rtk_collect.specs.EpochSet.{EpochSetView}
use Rattle.rtk_collect.specs.Arrival.{Arrival, epoch_of, message_of, message_of_1005, message_of_1006}
use Rattle.rtk_collect.specs.Accepted.{station, closed}
use Rattle.rtk_collect.specs.Answer.{IsRightAnswer}
use Rattle.rtk_collect.specs.Collector.{CollectorView, RepresentsArrivals}
use Rattle.rtk_collect.specs.Signals.{signals}
use Rattle.rtk_collect.specs.StationPosition.{IsPosition}
use Rattle.rtk_frame.specs.Stream.{with_more, TakesPart}
use Rattle.rtk_rinex.specs.Header.{PositionView, position_view}
use Rattle.rtk_convert.specs.declared.frame_class.FrameClass.TheVariants.{Dated}
use Rattle.rtk_convert.specs.declared.message_class.MessageClass.{MessageClass}
use Rattle.rtk_convert.specs.ClosedEpochs.{ClosedEpochsView, HasClosed}
use Rattle.rtk_convert.specs.Conversion.{HoldsKept}
use Rattle.rtk_convert.specs.Epochs.{EpochsView}
use Rattle.rtk_convert.specs.FileOfArrivals.{site_of_stations, site_of_kept, file_so_far}
use Rattle.rtk_convert.specs.Report.{frame_lines}
use Rattle.rtk_setup.specs.Setup.{SetupView, takes, cells_by}
use Rattle.rtk_convert.specs.Writing.{Written}
use Rattle.rtk_convert.specs.Steps.AddedMessage.{AddsArrivalAs, AddsArrivalPartAs, IsTakenBy, RepresentsEpochs, closed_by}
use Rattle.rtk_convert.specs.Steps.ClosedText.{closing}
use Rattle.rtk_convert.specs.Steps.OfferLines.{class_named, class_of_offer, offer_lines}
use Rattle.rtk_convert.specs.Steps.OfferedMessage.{AnswersMessage}
use Rattle.rtk_convert.specs.Steps.WrittenAnswer.{ClosesMore, closing_if, site_of_window}
use Rattle.rtk_convert.proofs.AnswersLemmas.{answer-class, answer-lines, answer-closed}
use Rattle.rtk_convert.proofs.SoFarLemmas.{so_far-stays, so_far-closes, so_far-grows}
use Rattle.rtk_convert.proofs.WritingLemmas.{writes-text, part-text, part-none, takes-none}

-- ---- the site

abbrev site_with : ℤ → ℤ → ℤ → ℕ → PositionView
site_with x y z h = record { x = x; y = y; z = z; height = h }

fields-same : (x y z : ℤ) (h : ℕ) (x' y' z' : ℤ) (h' : ℕ) → x ≡ x' → y ≡ y' → z ≡ z' → h ≡ h' → site_with x y z h ≡ site_with x' y' z' h'
fields-same x y z h x' y' z' h' ex ey ez eh = cc

-- the position by two station messages
pub site-position : (short : Option Message1005) (tall : Option Message1006) (p : Position) → IsPosition short tall p
    → position_view p ≡ site_of_stations (option_map message_of_1005 short) (option_map message_of_1006 tall)
site-position short (Some m) p h = fields-same p.x p.y p.z p.height m.arp.x m.arp.y m.arp.z m.height h.0 h.1 h.2 h.3
site-position (Some m) None p h = fields-same p.x p.y p.z p.height m.x m.y m.z 0 h.0 h.1 h.2 h.3
site-position None None p h = fields-same p.x p.y p.z p.height (pos 0) (pos 0) (pos 0) 0 h.0 h.1 h.2 h.3

pub site-kept : (s : SetupView) (w : CollectorView SignalEntry) (arrivals : List Arrival) → w.places ≡ s.window → RepresentsArrivals signals (cells_by s) w arrivals
    → site_of_window w ≡ site_of_kept s.window arrivals
site-kept s w arrivals size holds =
    ap (λ (m : Option Message). site_of_stations m (option_map message_of_1006 w.arp1006)) (holds.arp1005 ∙ ap (λ (k : ℕ). station k 1005 arrivals) size)
    ∙ ap (λ (m : Option Message). site_of_stations (station s.window 1005 arrivals) m) (holds.arp1006 ∙ ap (λ (k : ℕ). station k 1006 arrivals) size)

-- ---- the file

so_far-answer : (s : SetupView) (a : Arrival) (set : Option (EpochSetView SignalEntry)) (before : List Arrival) (site : PositionView) → site ≡ site_of_kept s.window (a ∷ before)
    → closed signals (cells_by s) s.window (a ∷ before) ≡ option_to_list set ++ closed signals (cells_by s) s.window before
    → file_so_far s (a ∷ before) ≡ file_so_far s before ++ closing_if s site set (closed signals (cells_by s) s.window before)
so_far-answer s a None before site is h = so_far-stays s a before h ∙ sym (append-nil (file_so_far s before))
so_far-answer s a (Some e) before site is h =
    so_far-closes s a e before h ∙ ap (λ (x : PositionView). file_so_far s before ++ closing s x e (closed signals (cells_by s) s.window before)) (sym is)

-- ---- an arrival

abbrev pub epochs : CollectorView SignalEntry → ClosedEpochsView → EpochsView
epochs w c = record { collector = w; closed = c }

-- one more arrival is among those that the window holds
pub holds-more : {s : SetupView} {w w' : CollectorView SignalEntry} {a : Arrival} {before : List Arrival} → IsTakenBy s (message_of a) → HoldsKept s w before
    → RepresentsArrivals signals (cells_by s) w' (a ∷ before) → HoldsKept s w' (a ∷ before)
holds-more {s} {w} {w'} {a} {before} taken kept window =
    record { taken = All-cons (λ (b : Arrival). IsTrue (takes s (number_of (message_of b)))) a before taken kept.taken; window = window }

-- the answer is right for the window of the setup
answered : {s : SetupView} {w w' : CollectorView SignalEntry} {a : Arrival} (offer : Outcome SignalEntry AnySatelliteCode) (listed : List AnySatelliteCode) → w.places ≡ s.window → AnswersMessage s w a offer listed w'
    → (before : List Arrival) → HoldsKept s w before → IsRightAnswer signals (cells_by s) s.window a before offer listed
answered {s} {w} {w'} {a} offer listed size meets before kept = subst (λ (n : ℕ). IsRightAnswer signals (cells_by s) n a before offer listed) size (meets before kept).0

-- the file so far after it
more-text : {s : SetupView} {w w' : CollectorView SignalEntry} {a : Arrival} (offer : Outcome SignalEntry AnySatelliteCode) (listed : List AnySatelliteCode) → w.places ≡ s.window → w'.places ≡ w.places → AnswersMessage s w a offer listed w'
    → (before : List Arrival) → HoldsKept s w before
    → file_so_far s (a ∷ before) ≡ file_so_far s before ++ closing_if s (site_of_window w') (closed_by offer) (closed signals (cells_by s) s.window before)
more-text {s} {w} {w'} {a} offer listed size same meets before kept =
    so_far-answer s a (closed_by offer) before (site_of_window w') (site-kept s w' (a ∷ before) (same ∙ size) (meets before kept).1)
    (answer-closed s a before offer listed (answered {w' = w'} offer listed size meets before kept))

module _ {s : SetupView} {w w' : CollectorView SignalEntry} {c : ClosedEpochsView} {link : ℕ} {a : Arrival} (offer : Outcome SignalEntry AnySatelliteCode) (listed : List AnySatelliteCode) {lines : List ℕ} {o o' : Written}
    (taken : IsTakenBy s (message_of a)) (size : w.places ≡ s.window) (same : w'.places ≡ w.places) (meets : AnswersMessage s w a offer listed w')
    (text : lines ≡ offer_lines link (number_of (message_of a)) (epoch_of a) offer listed) where
  -- all was written
  pub adds-all : {class : MessageClass} {c' : ClosedEpochsView} → class_named class ≡ class_of_offer offer → ClosesMore s.head.doppler s.head.listed c (closed_by offer) c'
      → ((below : List (EpochSetView SignalEntry)) → HasClosed c s.head.doppler s.head.listed below → o'.file ≡ with_more o.file (closing_if s (site_of_window w') (closed_by offer) below))
      → o'.report ≡ with_more o.report lines → (before : List Arrival) → RepresentsEpochs s (epochs w c) before → AddsArrivalAs s (epochs w c) link a class before (epochs w' c') o o'
  adds-all {class} {c'} named closes file report before rep =
      let answer = answered {w' = w'} offer listed size meets before rep.kept in
      record {
        after = record {
          kept = holds-more taken rep.kept (meets before rep.kept).1;
          closed = subst (λ (xs : List (EpochSetView SignalEntry)). HasClosed c' s.head.doppler s.head.listed xs) (sym (answer-closed s a before offer listed answer))
              (closes (closed signals (cells_by s) s.window before) rep.closed);
        };
        is_class = named ∙ sym (answer-class s a before offer listed answer);
        out = writes-text o.file o'.file (file_so_far s before) (file_so_far s (a ∷ before)) (closing_if s (site_of_window w') (closed_by offer) (closed signals (cells_by s) s.window before))
            (more-text offer listed size same meets before rep.kept) (file (closed signals (cells_by s) s.window before) rep.closed);
        log = report ∙ ap (with_more o.report) (text ∙ sym (answer-lines s link a before offer listed answer));
      }

  -- a first part of it
  pub adds-part : ((below : List (EpochSetView SignalEntry)) → HasClosed c s.head.doppler s.head.listed below → TakesPart o.file o'.file (closing_if s (site_of_window w') (closed_by offer) below))
      → TakesPart o.report o'.report lines → (before : List Arrival) → RepresentsEpochs s (epochs w c) before → AddsArrivalPartAs s link a before o o'
  adds-part file report before rep = record {
    out = part-text o.file o'.file (file_so_far s before) (file_so_far s (a ∷ before)) (closing_if s (site_of_window w') (closed_by offer) (closed signals (cells_by s) s.window before))
        (more-text offer listed size same meets before rep.kept) (file (closed signals (cells_by s) s.window before) rep.closed);
    log = subst (λ (t : List ℕ). TakesPart o.report o'.report t) (text ∙ sym (answer-lines s link a before offer listed (answered {w' = w'} offer listed size meets before rep.kept))) report;
  }

-- nothing was written
pub adds-nothing : {s : SetupView} {link : ℕ} {a : Arrival} {before : List Arrival} {o : Written} → AddsArrivalPartAs s link a before o o
adds-nothing {s} {link} {a} {before} {o} =
    let g = so_far-grows s a before in
    record { out = part-none o.file (file_so_far s before) (file_so_far s (a ∷ before)) g.0 g.1; log = takes-none o.report (frame_lines s link (Dated a) before) }
