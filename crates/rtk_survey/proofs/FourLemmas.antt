-- A station without 1075 to 1077.
use Rattle.std.proofs.Common.{◌≡◌, ◌∙◌, ◌==◌, ◌++◌, ◌&&◌, ℕ, Bool, true, false, cond, List, [], ◌∷◌, refl, ap, append-nil, subst, inl, inr}
use Rattle.std.specs.Prelude.{◌||◌, filter}
use Rattle.std.proofs.Math.Path.{fun_ext}
use Rattle.std.specs.List.{list_all, list_any}
use Rattle.std.proofs.lemmas.Bool.{cases_eq, ne_eqb}
use Rattle.rtk_message.specs.declared.any_message.AnyMessage.{AnyMessage}
use Rattle.rtk_message.specs.declared.msm_kind.MsmKind.{MsmKind}
use Rattle.rtk_message.specs.declared.msm_kind.MsmKind.TheVariants.{Msm4, Msm5, Msm6, Msm7}
use Rattle.rtk_message.specs.Accepted.{four, accepts}
use Rattle.rtk_message.specs.AnyDecoded.{number_of}
use Rattle.rtk_message.specs.Systems.{number_of_kind}
use Rattle.rtk_obs.specs.declared.any_code.AnyCode.{AnyCode}
use Rattle.rtk_obs.specs.declared.code.Code.{Code}
use Rattle.rtk_obs.specs.AnyCode.{system_of, all_any_codes}
use Rattle.rtk_obs.specs.SatelliteIndex.{letter_of}
use Rattle.rtk_survey.specs.Counting.{shown_count}
use Rattle.rtk_survey.specs.Proposal.{entry_has_value, gives_value, epochs_in, epochs_with_value, is_taken_with, entries_with, better_of, proposed, is_of_four}
use Rattle.rtk_survey.specs.NextCommand.{other_kinds_text, next_options, station_proposal}
use Rattle.rtk_survey.specs.SummaryText.{codes_text, joined_texts, separator_behind, any_codes_text, all_codes_text, counted_line, second_frequency_line, next_lines, other_msm_lines, proposal_lines}
use Rattle.rtk_survey.specs.UncheckedClocks.{is_sent_code, sends_letter, sends_gps, systems_sent}
use Rattle.rtk_survey.specs.declared.systems_sent.SystemsSent.{SystemsSent}
use Rattle.rtk_survey.specs.Tracing.{entries_of_message, entries_in, has_code, times_of_week}
use Rattle.rtk_survey.proofs.NamedLemmas.{stays}

and-false : (a : Bool) → (a && false) ≡ false
and-false true = refl
and-false false = refl

both : (a b : Bool) → (a && b) ≡ true → (a ≡ true) × (b ≡ true)
both true b h = (refl, h)
both false b h = cc

taken-all : (ms : List AnyMessage) → list_all is_of_four ms ≡ true → filter (is_taken_with Msm4) ms ≡ ms
taken-all [] are = refl
taken-all (m ∷ ms) are =
    let parts = both (is_of_four m) (list_all is_of_four ms) are in
    let others = filter (is_taken_with Msm4) ms in
    ap (λ (b : Bool). cond b (m ∷ others) others) parts.0 ∙ ap (λ (xs : List AnyMessage). m ∷ xs) (taken-all ms parts.1)

-- a message of the four is of no other MSM than 1074
not-of : (n k : ℕ) → accepts four n ≡ true → accepts four k ≡ false → (n == k) ≡ false
not-of n k is not = elim (cases_eq n k) [
  | inl same ↦ let it : accepts four k ≡ true = subst (λ (j : ℕ). accepts four j ≡ true) same is in cc
  | inr other ↦ ne_eqb n k other
]

none-with : (kind : MsmKind) (ms : List AnyMessage) → accepts four (number_of_kind kind) ≡ false → list_all is_of_four ms ≡ true → filter (gives_value kind) ms ≡ []
none-with kind [] wide are = refl
none-with kind (m ∷ ms) wide are =
    let parts = both (is_of_four m) (list_all is_of_four ms) are in
    let others = filter (gives_value kind) ms in
    let value = list_any entry_has_value (entries_of_message m) in
    ap (λ (b : Bool). cond (b && value) (m ∷ others) others) (not-of (number_of m) (number_of_kind kind) parts.0 wide) ∙ none-with kind ms wide parts.1

no-epochs : (kind : MsmKind) (ms : List AnyMessage) → accepts four (number_of_kind kind) ≡ false → list_all is_of_four ms ≡ true → epochs_with_value kind ms ≡ 0
no-epochs kind ms wide are = ap (λ (xs : List AnyMessage). shown_count (epochs_in (times_of_week xs))) (none-with kind ms wide are)

no-line : (epochs : MsmKind → ℕ) (kind : MsmKind) → (words : List ℕ) → epochs kind ≡ 0 → counted_line words (epochs kind) ≡ []
no-line epochs kind words none = ap (λ (n : ℕ). counted_line words n) none

no-lines : (epochs : MsmKind → ℕ) → epochs Msm5 ≡ 0 → epochs Msm6 ≡ 0 → epochs Msm7 ≡ 0 → other_msm_lines epochs Msm4 ≡ []
unfolding other_msm_lines
no-lines epochs five six seven = rw (five, six, seven) refl

-- no code of another system is taken
never : (letter : ℕ) (cs : List AnyCode) → list_any (is_sent_code letter (λ c. false)) cs ≡ false
never letter [] = refl
never letter (c ∷ cs) = ap (λ (b : Bool). b || list_any (is_sent_code letter (λ c. false)) cs) (and-false (letter_of (system_of c) == letter)) ∙ never letter cs

none-sent : (letter : ℕ) → sends_letter letter (λ c. false) ≡ false
unfolding sends_letter
none-sent letter = never letter all_any_codes

-- the systems that are sent are GPS alone, or none
gps_alone : Bool → SystemsSent
gps_alone gps = record { gps = gps; glonass = false; galileo = false; beidou = false; qzss = false; sbas = false; navic = false }

sent-alone : (code : Code → Bool) → systems_sent code (λ c. false) ≡ gps_alone (sends_gps code)
unfolding systems_sent gps_alone
sent-alone code =
    rw (none-sent 82, none-sent 69, none-sent 67, none-sent 74, none-sent 83, none-sent 73) refl

options-alone : (beside : ℕ → ℕ) (items : List ℕ) (gps : Bool) → next_options beside items Msm4 (gps_alone gps) ≡ []
unfolding next_options other_kinds_text gps_alone
options-alone beside items true = refl
options-alone beside items false = refl

joined-none : (separator : ℕ) (cs : List AnyCode) → joined_texts separator (filter (λ c. false) cs) ≡ []
joined-none separator [] = refl
joined-none separator (c ∷ cs) = joined-none separator cs

codes-alone : (code : Code → Bool) → all_codes_text code (λ c. false) ≡ codes_text code
unfolding all_codes_text any_codes_text
codes-alone code =
    ap (λ (t : List ℕ). codes_text code ++ t) (joined-none (separator_behind (codes_text code)) all_any_codes) ∙ append-nil (codes_text code)

pub four-name-none : (name near : List ℕ) (station : ℕ) (ms : List AnyMessage) (beside : ℕ → ℕ) (other : AnyCode → Bool) (items : List ℕ)
    → list_all is_of_four ms ≡ true → ((c : AnyCode) → other c ≡ false)
    → station_proposal name near station (λ kind. epochs_with_value kind ms) (λ kind. has_code (entries_with kind ms)) beside other items
    ≡ second_frequency_line (has_code (entries_in ms)) ++ next_lines name near station [] (codes_text (has_code (entries_in ms)))
unfolding station_proposal proposal_lines
four-name-none name near station ms beside other items are without =
    let epochs : MsmKind → ℕ = λ kind. epochs_with_value kind ms in
    let code : MsmKind → Code → Bool = λ kind. has_code (entries_with kind ms) in
    let five : epochs Msm5 ≡ 0 = no-epochs Msm5 ms refl are in
    let six : epochs Msm6 ≡ 0 = no-epochs Msm6 ms refl are in
    let seven : epochs Msm7 ≡ 0 = no-epochs Msm7 ms refl are in
    let none : proposed epochs ≡ Msm4 =
    stays epochs (better_of epochs (better_of epochs Msm4 Msm5) Msm6) Msm7 seven
    ∙ stays epochs (better_of epochs Msm4 Msm5) Msm6 six ∙ stays epochs Msm4 Msm5 five in
    let no_other : other ≡ (λ (c : AnyCode). false) = fun_ext without in
    let options : (AnyCode → Bool) → MsmKind → List ℕ = λ o kind. next_options beside items kind (systems_sent (code kind) o) in
    let shown : List AnyMessage → List ℕ = λ xs. second_frequency_line (has_code (entries_in xs)) ++ next_lines name near station [] (codes_text (has_code (entries_in xs))) in
    let named : station_proposal name near station epochs code beside other items
    ≡ second_frequency_line (code Msm4) ++ other_msm_lines epochs Msm4 ++ next_lines name near station (options other Msm4) (all_codes_text (code Msm4) other) =
    ap (λ (k : MsmKind). second_frequency_line (code k) ++ other_msm_lines epochs k ++ next_lines name near station (options other k) (all_codes_text (code k) other)) none in
    let second : List ℕ = second_frequency_line (code Msm4) in
    let lines : List ℕ = other_msm_lines epochs Msm4 in
    let plain : options (λ c. false) Msm4 ≡ [] = ap (λ (x : SystemsSent). next_options beside items Msm4 x) (sent-alone (code Msm4)) ∙ options-alone beside items (sends_gps (code Msm4)) in
    let bare : second ++ lines ++ next_lines name near station (options other Msm4) (all_codes_text (code Msm4) other) ≡ second ++ lines ++ next_lines name near station [] (codes_text (code Msm4)) =
    ap (λ (o : AnyCode → Bool). second ++ lines ++ next_lines name near station (options o Msm4) (all_codes_text (code Msm4) o)) no_other
    ∙ ap (λ (t : List ℕ). second ++ lines ++ next_lines name near station t (all_codes_text (code Msm4) (λ c. false))) plain
    ∙ ap (λ (t : List ℕ). second ++ lines ++ next_lines name near station [] t) (codes-alone (code Msm4)) in
    let next : List ℕ = next_lines name near station [] (codes_text (code Msm4)) in
    let alone : second ++ lines ++ next ≡ second ++ next =
    ap (λ (t : List ℕ). second ++ t ++ next) (no-lines epochs five six seven) ∙ ap (λ (t : List ℕ). t ++ next) (append-nil second) in
    let all : shown (filter (is_taken_with Msm4) ms) ≡ shown ms = ap shown (taken-all ms are) in
    named ∙ bare ∙ alone ∙ all
