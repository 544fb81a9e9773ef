-- How the file so far grows with an arrival.
use Rattle.std.proofs.Common.{◌≡◌, ℕ, ◌≤◌, List, [], ◌∷◌, ◌++◌, drop, length, Option, ap, sym, ◌∙◌, inl, inr}
use Rattle.rtk_message.specs.declared.any_message.AnyMessage.{AnyMessage as Message}
use Rattle.rtk_collect.specs.Signals.{signals}
use Rattle.rtk_setup.specs.Setup.{cells_by}
use Rattle.rtk_obs.specs.declared.signal_cells.SignalEntry.{SignalEntry}
use Rattle.rtk_collect.specs.EpochSet.{EpochSetView}
use Rattle.rtk_collect.specs.Arrival.{Arrival}
use Rattle.rtk_collect.specs.Late.{epochs}
use Rattle.rtk_collect.specs.Accepted.{station, kept, closed}
use Rattle.rtk_collect.proofs.PublicLaws.{closed-drop, closed-only-grow, closed-after, stations-are-final}
use Rattle.rtk_rinex.specs.Header.{PositionView}
use Rattle.rtk_setup.specs.Setup.{SetupView}
use Rattle.rtk_convert.specs.FilePrefix.{so_far}
use Rattle.rtk_convert.specs.Steps.ClosedText.{closed_text, closing}
use Rattle.rtk_convert.specs.FileOfArrivals.{site_of_stations, site_of_kept, file_so_far}
use Rattle.rtk_convert.proofs.FileLemmas.{so_far-closed, closed-more, closed-grows, closed-none}

pub any_epoch : EpochSetView SignalEntry
any_epoch = record { epoch = 0; cells = [] }

-- the file so far, from the closed epochs alone
pub so_far-is : (s : SetupView) (arrivals : List Arrival) → file_so_far s arrivals ≡ closed_text s (site_of_kept s.window arrivals) (closed signals (cells_by s) s.window arrivals)
so_far-is s arrivals =
    let same : closed signals (cells_by s) s.window arrivals ≡ drop s.window (kept signals (cells_by s) s.window arrivals) = closed-drop signals (cells_by s) s.window any_epoch arrivals in
    ap (λ (c : List (EpochSetView SignalEntry)). so_far s (site_of_kept s.window arrivals) (kept signals (cells_by s) s.window arrivals) c) same
    ∙ so_far-closed s.window s (site_of_kept s.window arrivals) (kept signals (cells_by s) s.window arrivals)
    ∙ ap (closed_text s (site_of_kept s.window arrivals)) (sym same)

pub site-final : (n : ℕ) (a : Arrival) (before : List Arrival) → n ≤ length (epochs before) → site_of_kept n (a ∷ before) ≡ site_of_kept n before
site-final n a before h =
    let final = stations-are-final n before h in
    ap (λ (m : Option Message). site_of_stations m (station n 1006 (a ∷ before))) (final.1 a 1005)
    ∙ ap (λ (m : Option Message). site_of_stations (station n 1005 before) m) (final.1 a 1006)

-- the header is final once an epoch is closed
pub text-final : (s : SetupView) (a : Arrival) (before : List Arrival)
    → closed_text s (site_of_kept s.window (a ∷ before)) (closed signals (cells_by s) s.window before) ≡ closed_text s (site_of_kept s.window before) (closed signals (cells_by s) s.window before)
text-final s a before = elim (closed-after signals (cells_by s) s.window before) [
  | inl none ↦ ap (closed_text s (site_of_kept s.window (a ∷ before))) none ∙ closed-none s (site_of_kept s.window (a ∷ before)) (site_of_kept s.window before) ∙ ap (closed_text s (site_of_kept s.window before)) (sym none)
  | inr full ↦ ap (λ (p : PositionView). closed_text s p (closed signals (cells_by s) s.window before)) (site-final s.window a before full)
]

-- an arrival that closes no epoch
pub so_far-stays : (s : SetupView) (a : Arrival) (before : List Arrival) → closed signals (cells_by s) s.window (a ∷ before) ≡ closed signals (cells_by s) s.window before → file_so_far s (a ∷ before) ≡ file_so_far s before
so_far-stays s a before h =
    so_far-is s (a ∷ before) ∙ ap (closed_text s (site_of_kept s.window (a ∷ before))) h ∙ text-final s a before ∙ sym (so_far-is s before)

-- one that closes an epoch
pub so_far-closes : (s : SetupView) (a : Arrival) (e : EpochSetView SignalEntry) (before : List Arrival) → closed signals (cells_by s) s.window (a ∷ before) ≡ e ∷ closed signals (cells_by s) s.window before
    → file_so_far s (a ∷ before) ≡ file_so_far s before ++ closing s (site_of_kept s.window (a ∷ before)) e (closed signals (cells_by s) s.window before)
so_far-closes s a e before h =
    let site = site_of_kept s.window (a ∷ before) in
    let more : List ℕ = closing s site e (closed signals (cells_by s) s.window before) in
    so_far-is s (a ∷ before) ∙ ap (closed_text s site) h ∙ closed-more s site e (closed signals (cells_by s) s.window before)
    ∙ ap (λ (x : List ℕ). x ++ more) (text-final s a before ∙ sym (so_far-is s before))

-- the file so far only grows
pub so_far-grows : (s : SetupView) (a : Arrival) (before : List Arrival) → (rest : List ℕ) × (file_so_far s (a ∷ before) ≡ file_so_far s before ++ rest)
so_far-grows s a before =
    let site = site_of_kept s.window (a ∷ before) in
    let g = closed-only-grow signals (cells_by s) s.window (a ∷ []) before in
    let p = closed-grows s site g.0 (closed signals (cells_by s) s.window before) in
    (p.0, so_far-is s (a ∷ before) ∙ ap (closed_text s site) g.1 ∙ p.1 ∙ ap (λ (x : List ℕ). x ++ p.0) (text-final s a before ∙ sym (so_far-is s before)))
