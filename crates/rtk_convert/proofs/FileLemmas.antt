-- The file so far, from the closed epochs alone, and how it grows.
use Rattle.std.proofs.Common.{◌≡◌, ◌≢◌, ℕ, zero, suc, List, [], ◌∷◌, ◌++◌, drop, Option, None, Some, refl, ap, append_assoc, sym, ◌∙◌, Bool}
use Rattle.std.specs.Prelude.{unwrap_or, is_some}
use Rattle.std.proofs.lemmas.List.{append-nil}
use Rattle.rtk_obs.specs.declared.any_code.AnyCode.{AnyCode}
use Rattle.rtk_obs.specs.declared.signal_cells.SignalEntry.{SignalEntry}
use Rattle.rtk_collect.specs.EpochSet.{EpochSetView}
use Rattle.rtk_rinex.specs.Header.{PositionView}
use Rattle.rtk_setup.specs.Setup.{SetupView}
use Rattle.rtk_convert.specs.File.{record_of, records, first_or, first_time, header_at, header_of, file_of}
use Rattle.rtk_convert.specs.FilePrefix.{unless_empty, so_far}
use Rattle.rtk_convert.specs.Steps.ClosedText.{with_header, closed_text, header_before, closing_text, closing}

pub records-more : (doppler : Bool) (listed : List AnyCode) (e : EpochSetView SignalEntry) (below : List (EpochSetView SignalEntry)) → records doppler listed (e ∷ below) ≡ records doppler listed below ++ record_of doppler listed e below
unfolding records
records-more doppler listed e below = refl

pub first_time-more : (doppler : Bool) (listed : List AnyCode) (e : EpochSetView SignalEntry) (below : List (EpochSetView SignalEntry)) → first_time doppler listed (e ∷ below) ≡ first_or (first_time doppler listed below) e.epoch (record_of doppler listed e below)
unfolding first_time
first_time-more doppler listed e below = refl

left-empty : (xs ys : List ℕ) → xs ++ ys ≡ [] → xs ≡ []
left-empty [] ys h = refl
left-empty (x ∷ xs) ys h = cc

none-step : (o : Option ℕ) (e : ℕ) (before text : List ℕ) → (o ≡ None → before ≡ []) → first_or o e text ≡ None → before ++ text ≡ []
none-step (Some t) e before text h f = cc
none-step None e before [] h f = append-nil before ∙ h refl
none-step None e before (x ∷ text) h f = cc

-- without a first time there is no record
pub no-records : (doppler : Bool) (listed : List AnyCode) (epochs : List (EpochSetView SignalEntry)) → first_time doppler listed epochs ≡ None → records doppler listed epochs ≡ []
unfolding records first_time
no-records doppler listed [] h = refl
no-records doppler listed (e ∷ below) h = none-step (first_time doppler listed below) e.epoch (records doppler listed below) (record_of doppler listed e below) (no-records doppler listed below) h

some-step : (o : Option ℕ) (e t : ℕ) (before text : List ℕ) → ((u : ℕ) → o ≡ Some u → before ≢ []) → first_or o e text ≡ Some t → before ++ text ≢ []
some-step (Some u) e t before text h f k = h u refl (left-empty before text k)
some-step None e t [] [] h f k = cc
some-step None e t [] (x ∷ text) h f k = cc
some-step None e t (y ∷ before) text h f k = cc

-- with one there is
pub some-records : (doppler : Bool) (listed : List AnyCode) (epochs : List (EpochSetView SignalEntry)) (t : ℕ) → first_time doppler listed epochs ≡ Some t → records doppler listed epochs ≢ []
unfolding records first_time
some-records doppler listed [] t h = cc
some-records doppler listed (e ∷ below) t h = some-step (first_time doppler listed below) e.epoch t (records doppler listed below) (record_of doppler listed e below) (λ u. some-records doppler listed below u) h

pub first-kept : (o : Option ℕ) (e t : ℕ) (text : List ℕ) → o ≡ Some t → first_or o e text ≡ Some t
first-kept None e t text h = cc
first-kept (Some u) e t text h = h

-- later epochs leave the first time
pub first_time-drop : (n : ℕ) (doppler : Bool) (listed : List AnyCode) (epochs : List (EpochSetView SignalEntry)) (t : ℕ) → first_time doppler listed (drop n epochs) ≡ Some t → first_time doppler listed epochs ≡ Some t
unfolding first_time
first_time-drop zero doppler listed epochs t h = h
first_time-drop (suc n) doppler listed [] t h = h
first_time-drop (suc n) doppler listed (e ∷ below) t h = first-kept (first_time doppler listed below) e.epoch t (record_of doppler listed e below) (first_time-drop n doppler listed below t h)

not-empty : (xs text : List ℕ) → xs ≢ [] → unless_empty xs text ≡ text
not-empty [] text h = absurd (h refl)
not-empty (x ∷ xs) text h = refl

so_far-step : (s : SetupView) (p : PositionView) (all_epochs closed : List (EpochSetView SignalEntry)) (o : Option ℕ) → first_time s.head.doppler s.head.listed closed ≡ o
    → ((t : ℕ) → first_time s.head.doppler s.head.listed closed ≡ Some t → first_time s.head.doppler s.head.listed all_epochs ≡ Some t)
    → so_far s p all_epochs closed ≡ with_header s p o (records s.head.doppler s.head.listed closed)
so_far-step s p all_epochs closed None q up = rw (no-records s.head.doppler s.head.listed closed q) refl
so_far-step s p all_epochs closed (Some t) q up =
    not-empty (records s.head.doppler s.head.listed closed) (header_of s p all_epochs ++ records s.head.doppler s.head.listed closed) (some-records s.head.doppler s.head.listed closed t q)
    ∙ ap (λ (o : Option ℕ). header_at s p (unwrap_or o s.near) ++ records s.head.doppler s.head.listed closed) (up t q)

-- the file so far is the file of the closed epochs alone
pub so_far-closed : (n : ℕ) (s : SetupView) (p : PositionView) (epochs : List (EpochSetView SignalEntry)) → so_far s p epochs (drop n epochs) ≡ closed_text s p (drop n epochs)
so_far-closed n s p epochs =
    so_far-step s p epochs (drop n epochs) (first_time s.head.doppler s.head.listed (drop n epochs)) refl (λ t h. first_time-drop n s.head.doppler s.head.listed epochs t h)

closed-step : (s : SetupView) (p : PositionView) (e : ℕ) (before text : List ℕ) (o : Option ℕ) → (o ≡ None → before ≡ [])
    → with_header s p (first_or o e text) (before ++ text) ≡ with_header s p o before ++ closing_text s p e (is_some o) text
closed-step s p e before [] None h = refl
closed-step s p e before (x ∷ text) None h = rw (h refl) refl
closed-step s p e before [] (Some t) h = rw append-nil (sym (append-nil (header_at s p t ++ before)))
closed-step s p e before (x ∷ text) (Some t) h = sym (append_assoc (header_at s p t) before (x ∷ text))

-- what one more closed epoch adds
pub closed-more : (s : SetupView) (p : PositionView) (e : EpochSetView SignalEntry) (below : List (EpochSetView SignalEntry))
    → closed_text s p (e ∷ below) ≡ closed_text s p below ++ closing s p e below
unfolding records first_time
closed-more s p e below = closed-step s p e.epoch (records s.head.doppler s.head.listed below) (record_of s.head.doppler s.head.listed e below) (first_time s.head.doppler s.head.listed below) (no-records s.head.doppler s.head.listed below)

-- more closed epochs only add
pub closed-grows : (s : SetupView) (p : PositionView) (more closed : List (EpochSetView SignalEntry)) → (rest : List ℕ) × (closed_text s p (more ++ closed) ≡ closed_text s p closed ++ rest)
closed-grows s p [] closed = ([], sym (append-nil (closed_text s p closed)))
closed-grows s p (e ∷ more) closed =
    let before = closed-grows s p more closed in
    let t : List ℕ = closing s p e (more ++ closed) in
    (before.0 ++ t, closed-more s p e (more ++ closed) ∙ ap (λ (x : List ℕ). x ++ t) before.1 ∙ append_assoc (closed_text s p closed) before.0 t)

file-step : (s : SetupView) (p : PositionView) (text : List ℕ) (o : Option ℕ) → (o ≡ None → text ≡ [])
    → header_at s p (unwrap_or o s.near) ++ text ≡ with_header s p o text ++ header_before s p s.near (is_some o)
file-step s p text None h = rw (h refl, append-nil) refl
file-step s p text (Some t) h = sym (append-nil (header_at s p t ++ text))

-- the whole file: what is out once all its epochs are closed, and the header if there was no record
pub file-closed : (s : SetupView) (p : PositionView) (epochs : List (EpochSetView SignalEntry))
    → file_of s p epochs ≡ closed_text s p epochs ++ header_before s p s.near (is_some (first_time s.head.doppler s.head.listed epochs))
file-closed s p epochs = file-step s p (records s.head.doppler s.head.listed epochs) (first_time s.head.doppler s.head.listed epochs) (no-records s.head.doppler s.head.listed epochs)

-- without a closed epoch nothing is out, whatever the site
pub closed-none : (s : SetupView) (p q : PositionView) → closed_text s p [] ≡ closed_text s q []
unfolding first_time records
closed-none s p q = refl
