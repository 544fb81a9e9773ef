-- The laws on the file of arrivals.
use Rattle.std.proofs.Common.{◌≡◌, ℕ, List, [], ◌∷◌, ◌++◌, take, Option, Some, refl, ap, append_assoc, sym, ◌∙◌, inl, inr, Bool}
use Rattle.std.specs.Prelude.{is_some, unwrap_or}
use Rattle.std.proofs.lemmas.List.{append-nil, take-append-drop}
use Rattle.rtk_message.specs.declared.any_message.AnyMessage.{AnyMessage as Message}
use Rattle.rtk_obs.specs.declared.any_code.AnyCode.{AnyCode}
use Rattle.rtk_collect.specs.Signals.{signals}
use Rattle.rtk_setup.specs.Setup.{cells_by}
use Rattle.rtk_obs.specs.declared.signal_cells.SignalEntry.{SignalEntry}
use Rattle.rtk_collect.specs.EpochSet.{EpochSetView}
use Rattle.rtk_collect.specs.Arrival.{Arrival}
use Rattle.rtk_collect.specs.Accepted.{station, kept, closed}
use Rattle.rtk_collect.specs.Laws.{without_late, SetDecides, LateArrivalsChangeNothing}
use Rattle.rtk_collect.proofs.PublicLaws.{closed-drop, closed-only-grow, closed-after}
use Rattle.rtk_rinex.specs.Header.{PositionView}
use Rattle.rtk_convert.specs.declared.frame_class.FrameClass.{FrameClass}
use Rattle.rtk_convert.specs.declared.frame_class.FrameClass.TheVariants.{OtherMessage, Refused, Foreign, Dated}
use Rattle.rtk_convert.specs.ArrivalLaws.{OneSetHasOneFile, LateLeaveFile, Begins, SoFarBegins, HeaderIsFinal, and_if_arrived, only_arrived, OthersLeaveFile}
use Rattle.rtk_convert.specs.File.{record_of, first_time, header_at, file_of}
use Rattle.rtk_convert.specs.Steps.ClosedText.{closed_text, header_before}
use Rattle.rtk_convert.specs.FileOfArrivals.{site_of_stations, site_of_kept, kept_file, file_so_far}
use Rattle.rtk_convert.specs.FrameClass.{Found, and_arrived, arrivals}
use Rattle.rtk_setup.specs.Setup.{SetupView}
use Rattle.rtk_convert.proofs.FileLemmas.{first-kept, first_time-drop, closed-grows, file-closed}
use Rattle.rtk_convert.proofs.SoFarLemmas.{so_far-is, so_far-grows, site-final}

-- one set of epochs and one pair of station messages have one file
same-file : (s : SetupView) (first second : List Arrival) → kept signals (cells_by s) s.window first ≡ kept signals (cells_by s) s.window second
    → ((k : ℕ) → station s.window k first ≡ station s.window k second) → kept_file s first ≡ kept_file s second
same-file s first second sets stations =
    ap (λ (x : List (EpochSetView SignalEntry)). file_of s (site_of_kept s.window first) x) sets
    ∙ ap (λ (m : Option Message). file_of s (site_of_stations m (station s.window 1006 first)) (kept signals (cells_by s) s.window second)) (stations 1005)
    ∙ ap (λ (m : Option Message). file_of s (site_of_stations (station s.window 1005 second) m) (kept signals (cells_by s) s.window second)) (stations 1006)

pub one-file : ((s : SetupView) → SetDecides signals (cells_by s)) → OneSetHasOneFile
one-file law s first second good also same = let h = law s s.window first second good also same in same-file s first second h.0 h.1

pub late-leave : ((s : SetupView) → LateArrivalsChangeNothing signals (cells_by s)) → LateLeaveFile
late-leave law s before = let h = law s s.window before in same-file s (without_late s.window before) before h.3 h.4

-- ---- the file so far

pub grows : (s : SetupView) (later before : List Arrival) → Begins (file_so_far s before) (file_so_far s (later ++ before))
grows s [] before = ([], sym (append-nil (file_so_far s before)))
grows s (a ∷ later) before =
    let first = grows s later before in
    let next = so_far-grows s a (later ++ before) in
    (first.0 ++ next.0, next.1 ∙ ap (λ (x : List ℕ). x ++ next.0) first.1 ∙ append_assoc (file_so_far s before) first.0 next.0)

no_cells : EpochSetView SignalEntry
no_cells = record { epoch = 0; cells = [] }

-- the file so far begins the whole file
whole : (s : SetupView) (before : List Arrival) → Begins (file_so_far s before) (kept_file s before)
whole s before =
    let site = site_of_kept s.window before in
    let all : List (EpochSetView SignalEntry) = kept signals (cells_by s) s.window before in
    let split : take s.window all ++ closed signals (cells_by s) s.window before ≡ all =
    ap (λ (x : List (EpochSetView SignalEntry)). take s.window all ++ x) (closed-drop signals (cells_by s) s.window no_cells before) ∙ take-append-drop s.window all in
    let more = closed-grows s site (take s.window all) (closed signals (cells_by s) s.window before) in
    let last : List ℕ = header_before s site s.near (is_some (first_time s.head.doppler s.head.listed all)) in (
      more.0 ++ last,
      file-closed s site all
          ∙ ap (λ (x : List ℕ). x ++ last) (ap (closed_text s site) (sym split) ∙ more.1 ∙ ap (λ (x : List ℕ). x ++ more.0) (sym (so_far-is s before)))
          ∙ append_assoc (file_so_far s before) more.0 last,
    )

pub so_far-begins : SoFarBegins
so_far-begins s later before =
    let first = grows s later before in
    let rest = whole s (later ++ before) in
    (first, (first.0 ++ rest.0, rest.1 ∙ ap (λ (x : List ℕ). x ++ rest.0) first.1 ∙ append_assoc (file_so_far s before) first.0 rest.0))

-- ---- the header

first_time-more : (doppler : Bool) (listed : List AnyCode) (more below : List (EpochSetView SignalEntry)) (t : ℕ) → first_time doppler listed below ≡ Some t → first_time doppler listed (more ++ below) ≡ Some t
unfolding first_time
first_time-more doppler listed [] below t h = h
first_time-more doppler listed (e ∷ more) below t h =
    first-kept (first_time doppler listed (more ++ below)) e.epoch t (record_of doppler listed e (more ++ below)) (first_time-more doppler listed more below t h)

first_time-kept : (s : SetupView) (before : List Arrival) (t : ℕ) → first_time s.head.doppler s.head.listed (closed signals (cells_by s) s.window before) ≡ Some t → first_time s.head.doppler s.head.listed (kept signals (cells_by s) s.window before) ≡ Some t
first_time-kept s before t h =
    first_time-drop s.window s.head.doppler s.head.listed (kept signals (cells_by s) s.window before) t (ap (first_time s.head.doppler s.head.listed) (sym (closed-drop signals (cells_by s) s.window no_cells before)) ∙ h)

none-closed : (doppler : Bool) (listed : List AnyCode) (xs : List (EpochSetView SignalEntry)) (t : ℕ) → first_time doppler listed xs ≡ Some t → xs ≡ [] → ⊥
unfolding first_time
none-closed doppler listed [] t h e = cc
none-closed doppler listed (x ∷ xs) t h e = cc

pub header-final : HeaderIsFinal
header-final s a before t h =
    let g = closed-only-grow signals (cells_by s) s.window (a ∷ []) before in
    let after : first_time s.head.doppler s.head.listed (closed signals (cells_by s) s.window (a ∷ before)) ≡ Some t =
    ap (first_time s.head.doppler s.head.listed) g.1 ∙ first_time-more s.head.doppler s.head.listed g.0 (closed signals (cells_by s) s.window before) t h in
    let site : site_of_kept s.window (a ∷ before) ≡ site_of_kept s.window before = elim (closed-after signals (cells_by s) s.window before) [
      | inl none ↦ absurd (none-closed s.head.doppler s.head.listed (closed signals (cells_by s) s.window before) t h none)
      | inr full ↦ site-final s.window a before full
    ] in
    ap (λ (o : Option ℕ). header_at s (site_of_kept s.window (a ∷ before)) (unwrap_or o s.near)) (first_time-kept s (a ∷ before) t after)
    ∙ ap (λ (x : PositionView). header_at s x t) site
    ∙ ap (λ (o : Option ℕ). header_at s (site_of_kept s.window before) (unwrap_or o s.near)) (sym (first_time-kept s before t h))

-- ---- frames that are no arrivals

others-step : (f : Found) (x : FrameClass) (before : List Found) → f.class ≡ x → arrivals (and_if_arrived f x before) ≡ and_arrived x (arrivals before)
others-step f OtherMessage before h = refl
others-step f (Refused fault) before h = refl
others-step f Foreign before h = refl
others-step f (Dated a) before h = ap (λ (x : FrameClass). and_arrived x (arrivals before)) h

others-same : (found : List Found) → arrivals (only_arrived found) ≡ arrivals found
others-same [] = refl
others-same (f ∷ before) = others-step f f.class (only_arrived before) refl ∙ ap (and_arrived f.class) (others-same before)

pub others-leave : OthersLeaveFile
others-leave s found = (others-same found, ap (kept_file s) (others-same found))
