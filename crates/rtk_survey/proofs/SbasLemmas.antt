-- The cells of satellites of SBAS in a 1004.
use Rattle.std.proofs.Common.{◌≡◌, ◌≤◌, ◌-◌, ◌==◌, ◌&&◌, ◌||◌, ◌∙◌, ℕ, Bool, true, false, not, cond, List, [], ◌∷◌, None, Some, length, map, inl, inr, refl, sym, ap, ne_eqb, arith}
use Rattle.std.specs.Prelude.{filter, flat_map, nat_le}
use Rattle.std.specs.List.{AllByRecursion, list_any}
use Rattle.std.proofs.lemmas.Bool.{cases_Bool, eqb-true}
use Rattle.std.proofs.lemmas.Bool.Decides.{nat_tests}
use Rattle.std.proofs.lemmas.List.Elements.{All-from_recursion}
use Rattle.std.proofs.lemmas.List.Folds.{list_any-append}
use Rattle.rtk_message.specs.declared.obs1004.Satellite.{Satellite}
use Rattle.rtk_message.specs.declared.system.System.TheVariants.{Sbas}
use Rattle.rtk_obs.specs.declared.cell.CellEntry.{CellEntry}
use Rattle.rtk_obs.specs.declared.code.Code.{Code}
use Rattle.rtk_obs.specs.declared.code.Code.TheVariants.{G1C, G1P, G1W, G1S, G1L, G1X, G2C, G2D, G2P, G2W, G2S, G2L, G2X, G5I, G5Q, G5X}
use Rattle.rtk_obs.specs.declared.signal_cells.SignalEntry.{SignalEntry}
use Rattle.rtk_obs.specs.AnyCode.{code_of_gps, system_of}
use Rattle.rtk_obs.specs.Cell.{is_satellite}
use Rattle.rtk_obs.specs.LegacyCells.{has_number, first_entries, satellite_entries, l1_code_of, l2_code_of, cells_of_1004}
use Rattle.rtk_obs.specs.SatelliteIndex.{is_taken, index_in}
use Rattle.rtk_obs.specs.SbasCells.{is_sbas_number, sbas_entry_if, satellite_signals, signals_of_1004}
use Rattle.rtk_obs.specs.SignalCells.{signal_of}
use Rattle.rtk_obs.proofs.PublicLaws.{plain-1004}
use Rattle.rtk_survey.specs.BesideGps.{is_other_system, is_beside_entry}
use Rattle.rtk_survey.specs.Sbas.{is_sbas}

neither : (a b : Bool) → (a || b) ≡ false → (a ≡ false) × (b ≡ false)
neither true b none = cc
neither false b none = (refl, none)

no-sbas : (ss : List Satellite) → list_any is_sbas ss ≡ false → AllByRecursion (λ s. is_sbas_number s.satellite ≡ false) ss
no-sbas [] none = tt
no-sbas (s ∷ ss) none = let parts = neither (is_sbas s) (list_any is_sbas ss) none in (parts.0, no-sbas ss parts.1)

code-of-gps : (c : Code) → is_other_system (system_of (code_of_gps c)) ≡ false
code-of-gps G1C = refl
code-of-gps G1P = refl
code-of-gps G1W = refl
code-of-gps G1S = refl
code-of-gps G1L = refl
code-of-gps G1X = refl
code-of-gps G2C = refl
code-of-gps G2D = refl
code-of-gps G2P = refl
code-of-gps G2W = refl
code-of-gps G2S = refl
code-of-gps G2L = refl
code-of-gps G2X = refl
code-of-gps G5I = refl
code-of-gps G5Q = refl
code-of-gps G5X = refl

-- no cell of GPS is one of another system
none-beside : (es : List CellEntry) → filter is_beside_entry (map signal_of es) ≡ []
none-beside [] = refl
none-beside (e ∷ es) =
    let rest : List SignalEntry = filter is_beside_entry (map signal_of es) in
    ap (λ (b : Bool). cond b (signal_of e ∷ rest) rest) (code-of-gps e.code) ∙ none-beside es

-- a 1004 without a satellite of SBAS has cells of GPS alone
pub no-sbas-cells : (ss : List Satellite) → list_any is_sbas ss ≡ false → filter is_beside_entry (signals_of_1004 ss) ≡ []
no-sbas-cells ss none =
    ap (λ (es : List SignalEntry). filter is_beside_entry es) (plain-1004 ss (All-from_recursion (λ (s : Satellite). is_sbas_number s.satellite ≡ false) ss (no-sbas ss none)))
    ∙ none-beside (cells_of_1004 ss)

-- ---- its cells say whether a 1004 has such a satellite

-- a satellite of SBAS gives a cell of another system than GPS, and one of GPS gives none
gps-number : (n : ℕ) → is_satellite n ≡ true → n ≤ 32
gps-number n h = grind (arith, nat_tests)

sbas-number : (n : ℕ) → is_sbas_number n ≡ true → (40 ≤ n) × (n ≤ 58)
sbas-number n h = grind (arith, nat_tests)

sbas-taken : (n : ℕ) → 40 ≤ n → n ≤ 58 → is_taken Sbas (n - 39) ≡ true
sbas-taken n from to = grind (arith, nat_tests)

sbas-cell : (s : Satellite) (b : Bool) (i : ℕ) → list_any is_beside_entry (sbas_entry_if s (cond b (Some i) None)) ≡ b
sbas-cell s true i = refl
sbas-cell s false i = refl

gps-cells : (s : Satellite) → list_any is_beside_entry (map signal_of (satellite_entries s)) ≡ false
gps-cells s =
    let second : Bool = is_other_system (system_of (code_of_gps (l2_code_of s.l2_code))) in
    ap (λ (b : Bool). b || (second || false)) (code-of-gps (l1_code_of s.l1_code)) ∙ ap (λ (b : Bool). b || false) (code-of-gps (l2_code_of s.l2_code))

satellite-beside : (a b : Bool) (s : Satellite) → is_satellite s.satellite ≡ a → is_sbas_number s.satellite ≡ b
    → list_any is_beside_entry (cond a (map signal_of (satellite_entries s)) (cond b (sbas_entry_if s (index_in Sbas (s.satellite - 39))) [])) ≡ b
satellite-beside true true s e f = let few = gps-number s.satellite e in let many = (sbas-number s.satellite f).0 in absurd (omega (arith, few, many))
satellite-beside true false s e f = gps-cells s
satellite-beside false true s e f =
    let is = sbas-number s.satellite f in
    sbas-cell s (is_taken Sbas (s.satellite - 39)) _ ∙ sbas-taken s.satellite is.0 is.1
satellite-beside false false s e f = refl

all-beside : (ss : List Satellite) → list_any is_beside_entry (flat_map satellite_signals ss) ≡ list_any is_sbas ss
all-beside [] = refl
all-beside (s ∷ ss) =
    list_any-append is_beside_entry (satellite_signals s) (flat_map satellite_signals ss)
    ∙ ap (λ (b : Bool). b || list_any is_beside_entry (flat_map satellite_signals ss)) (satellite-beside (is_satellite s.satellite) (is_sbas_number s.satellite) s refl refl)
    ∙ ap (λ (b : Bool). is_sbas s || b) (all-beside ss)

-- satellites that fail a test anyhow may go
any-kept : (keep : Satellite → Bool) (ss : List Satellite) → ((s : Satellite) → keep s ≡ false → is_sbas s ≡ false) → list_any is_sbas (filter keep ss) ≡ list_any is_sbas ss
any-kept keep [] fails = refl
any-kept keep (s ∷ ss) fails =
    let rest : List Satellite = filter keep ss in
    elim (cases_Bool (keep s)) [
      | inl stays ↦ ap (λ (b : Bool). list_any is_sbas (cond b (s ∷ rest) rest)) stays ∙ ap (λ (b : Bool). is_sbas s || b) (any-kept keep ss fails)
      | inr goes ↦
          ap (λ (b : Bool). list_any is_sbas (cond b (s ∷ rest) rest)) goes ∙ any-kept keep ss fails ∙ sym (ap (λ (b : Bool). b || list_any is_sbas ss) (fails s goes))
    ]

true-of : (b : Bool) → not b ≡ false → b ≡ true
true-of true h = refl
true-of false h = cc

-- nor does it matter which entries of a satellite are left out
first-sbas : (ss : List Satellite) → list_any is_sbas (first_entries ss) ≡ list_any is_sbas ss
unfolding first_entries
first-sbas [] = refl
first-sbas (s ∷ ss) =
    let rest : Bool = list_any is_sbas (filter (λ t. not (has_number s.satellite t)) (first_entries ss)) in
    elim (cases_Bool (is_sbas s)) [
      | inl holds ↦ ap (λ (b : Bool). b || rest) holds ∙ sym (ap (λ (b : Bool). b || list_any is_sbas ss) holds)
      | inr fails ↦
          ap (λ (b : Bool). b || rest) fails
          ∙ any-kept (λ t. not (has_number s.satellite t)) (first_entries ss)
          (λ t goes. ap (λ (n : ℕ). nat_le 40 n && nat_le n 58) (eqb-true t.satellite s.satellite (true-of (t.satellite == s.satellite) goes)) ∙ fails)
          ∙ first-sbas ss ∙ sym (ap (λ (b : Bool). b || list_any is_sbas ss) fails)
    ]

none-left : (es : List SignalEntry) → (length (filter is_beside_entry es) == 0) ≡ not (list_any is_beside_entry es)
none-left [] = refl
none-left (e ∷ es) =
    let rest : List SignalEntry = filter is_beside_entry es in
    let any : Bool = list_any is_beside_entry es in
    elim (cases_Bool (is_beside_entry e)) [
      | inl holds ↦
          ap (λ (b : Bool). length (cond b (e ∷ rest) rest) == 0) holds ∙ ne_eqb (length (e ∷ rest)) 0 (λ none. omega (arith, none))
          ∙ sym (ap (λ (b : Bool). not (b || any)) holds)
      | inr fails ↦ ap (λ (b : Bool). length (cond b (e ∷ rest) rest) == 0) fails ∙ none-left es ∙ sym (ap (λ (b : Bool). not (b || any)) fails)
    ]

not-twice : (b : Bool) → not (not b) ≡ b
not-twice true = refl
not-twice false = refl

pub sbas-told : (ss : List Satellite) → not (length (filter is_beside_entry (signals_of_1004 ss)) == 0) ≡ list_any is_sbas ss
sbas-told ss =
    ap not (none-left (signals_of_1004 ss)) ∙ not-twice (list_any is_beside_entry (signals_of_1004 ss)) ∙ all-beside (first_entries ss) ∙ first-sbas ss
