-- First epochs that messages tell count, or are passed over.
use Rattle.std.proofs.Common.{◌≡◌, ◌⊎◌, inl, inr, ◌==◌, ◌&&◌, ◌||◌, ℕ, Bool, true, false, List, [], ◌∷◌, length, refl, ap, ◌∙◌, ne_eqb, arith}
use Rattle.std.specs.Prelude.{if◌then◌else◌}
use Rattle.std.specs.List.{list_any}
use Rattle.rtk_survey.specs.CaptureDates.{or_else, is_one_rolled_over}
use Rattle.rtk_survey.specs.declared.tellings.Tellings.{Tellings}
use Rattle.rtk_survey.specs.declared.tellings.Told.{Told}
use Rattle.rtk_captures.specs.Laws.{DatesCountOrAreTold}
use Rattle.rtk_captures.specs.StationCaptures.{beside_own, beside_others}

-- those that count, of these four kinds of messages, where the last one decides or not
abbrev counting-of : List Told → List Told → List Told → List Told → Bool → List Told
counting-of own weeks others systems decides = or_else own (if decides then systems else or_else weeks (or_else others systems))

-- other systems decide only where a week of GPS is told
never-decides : (systems : List Told) → list_any (is_one_rolled_over []) systems ≡ false
never-decides [] = refl
never-decides (x ∷ xs) = never-decides xs

weeks-told : (own weeks others systems : List Told) (decides : Bool)
    → (counting-of own weeks others systems decides ≡ weeks) ⊎ ((if decides then weeks else beside_own own weeks) ≡ weeks)
weeks-told own weeks others systems true = inr refl
weeks-told [] [] others systems false = inr refl
weeks-told [] (x ∷ xs) others systems false = inl refl
weeks-told (x ∷ xs) weeks others systems false = inr refl

others-told : (own weeks others systems : List Told) (decides : Bool) → (weeks ≡ [] → decides ≡ false)
    → (counting-of own weeks others systems decides ≡ others) ⊎ (beside_others own weeks others ≡ others)
others-told (x ∷ xs) weeks others systems decides none = inr refl
others-told [] (x ∷ xs) others systems decides none = inr refl
others-told [] [] [] systems decides none = inr refl
others-told [] [] (x ∷ xs) systems decides none = inl (ap (λ (b : Bool). if b then systems else x ∷ xs) (none refl))

not-empty : (x : Told) (xs : List Told) → (length (x ∷ xs) == 0) ≡ false
not-empty x xs = ne_eqb (length (x ∷ xs)) 0 (λ q. omega arith)

-- they count if the others are empty, or if they decide
abbrev are-passed-over : Bool → Bool → Bool → Bool → List Told → List Told
are-passed-over no_own decides no_weeks no_others systems = if no_own && (decides || (no_weeks && no_others)) then [] else systems

systems-told : (own weeks others systems : List Told) (decides : Bool)
    → (counting-of own weeks others systems decides ≡ systems)
    ⊎ (are-passed-over (length own == 0) decides (length weeks == 0) (length others == 0) systems ≡ systems)
systems-told [] weeks others systems true = inl refl
systems-told [] [] [] systems false = inl refl
systems-told [] [] (x ∷ xs) systems false = inr (ap (λ (b : Bool). are-passed-over true false true b systems) (not-empty x xs))
systems-told [] (x ∷ xs) others systems false = inr (ap (λ (b : Bool). are-passed-over true false b (length others == 0) systems) (not-empty x xs))
systems-told (x ∷ xs) weeks others systems decides =
    inr (ap (λ (b : Bool). are-passed-over b decides (length weeks == 0) (length others == 0) systems) (not-empty x xs))

pub dates-told : DatesCountOrAreTold
dates-told t =
    let decides : Bool = list_any (is_one_rolled_over t.weeks.items) t.system_weeks.items in (
      weeks-told t.own.items t.weeks.items t.others.items t.system_weeks.items decides,
      others-told t.own.items t.weeks.items t.others.items t.system_weeks.items decides
          (λ e. ap (λ (ws : List Told). list_any (is_one_rolled_over ws) t.system_weeks.items) e ∙ never-decides t.system_weeks.items),
      systems-told t.own.items t.weeks.items t.others.items t.system_weeks.items decides,
    )
