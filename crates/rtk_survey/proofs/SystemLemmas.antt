-- What a station has of other systems than GPS, one message after another.
use Rattle.std.proofs.Common.{◌≡◌, ◌≢◌, ◌<◌, ◌+◌, ◌==◌, ◌&&◌, ◌∙◌, ◌++◌, ℕ, Bool, true, false, not, cond, List, [], ◌∷◌, Option, None, Some, length, take, get_or, refl, sym, ap, subst, inl, inr, ne_eqb, arith}
use Rattle.std.specs.Prelude.{◌||◌, filter}
use Rattle.std.specs.BTreeMap.{BTreeMap, get, is_at, Updates}
use Rattle.std.specs.List.{AllByRecursion, filter_map}
use Rattle.std.specs.Map.{lookup}
use Rattle.std.specs.Option.{unwrap_or}
use Rattle.std.specs.Ordering.{nat_cmp}
use Rattle.std.proofs.Math.Path.{fun_ext}
use Rattle.std.proofs.lemmas.Bool.{cases_eq, eq-eqb}
use Rattle.std.proofs.lemmas.List.Elements.{filter_agree}
use Rattle.std.proofs.lemmas.List.Sums.{length-filter}
use Rattle.rtk_message.specs.declared.any_message.AnyMessage.{AnyMessage}
use Rattle.rtk_message.specs.AnyDecoded.{number_of}
use Rattle.rtk_obs.specs.declared.any_code.AnyCode.{AnyCode}
use Rattle.rtk_obs.specs.declared.signal_cells.SignalEntry.{SignalEntry}
use Rattle.rtk_obs.specs.AnyCode as any_code
use Rattle.rtk_survey.specs.BesideGps.{is_beside_numbered, has_part_beside, is_part_numbered, messages_beside, gives_index, gives_number, has_any_code, told_time_of, gives_value_beside, times_beside}
use Rattle.rtk_survey.specs.BitMarks.{is_marked_in}
use Rattle.rtk_survey.specs.Contents.{count_at, CountsBeside, CountsMessages, HasMsms, HasSystemSignals, HasSystemMsm, IsMsmKept, HasSystems, messages_of_msm, epochs_of_msm}
use Rattle.rtk_survey.specs.Steps.Tables.{messages_held, system_epochs_held}
use Rattle.rtk_survey.specs.Counting.{shown_count, count_of}
use Rattle.rtk_survey.specs.Proposal.{epochs_in}
use Rattle.rtk_survey.specs.Summary.{epochs_beside}
use Rattle.rtk_survey.specs.SummaryText.{message_numbers}
use Rattle.rtk_survey.specs.Tracing.{is_numbered, is_gps_number, is_beside_gps}
use Rattle.rtk_survey.specs.declared.epochs.Epochs.{Epochs}
use Rattle.rtk_survey.specs.declared.station.StationSurvey.{StationSurvey}
use Rattle.rtk_survey.specs.declared.system_msm.SystemMsm.{SystemMsm}
use Rattle.rtk_survey.specs.declared.system_signals.SystemSignals.{SystemSignals}
use Rattle.rtk_survey.proofs.MapLemmas.{put-one}
use Rattle.rtk_survey.proofs.SignalLemmas.{any-more}
use Rattle.rtk_survey.proofs.TallyLemmas.{tally-more, tally-same}

-- ---- satellites and codes

pub signals-more : (s : SystemSignals) (xs es : List SignalEntry) (i : ℕ) (d : SignalEntry) → i < length xs
    → HasSystemSignals s (get_or xs i d ∷ (take i xs ++ es)) → HasSystemSignals s (take (i + 1) xs ++ es)
signals-more s xs es i d within stands = record {
  satellites = λ n. stands.satellites n ∙ sym (any-more (gives_index n) xs es i d within);
  codes = λ n. stands.codes n ∙ sym (any-more (gives_number n) xs es i d within);
}

-- whether a code of another system than GPS has a value
abbrev pub any_codes_held : SystemSignals → AnyCode → Bool
any_codes_held s c = is_marked_in s.codes.words (any_code.number_of c)

pub any-codes-marked : (s : SystemSignals) (es : List SignalEntry) → HasSystemSignals s es → any_codes_held s ≡ has_any_code es
any-codes-marked s es stands = fun_ext (λ code. stands.codes (any_code.number_of code))

-- ---- times

-- the times of a message more, by whether it gives a value
pub times-with-value : (m : AnyMessage) (ms : List AnyMessage) → gives_value_beside m ≡ true
    → times_beside (m ∷ ms) ≡ filter_map told_time_of (m ∷ filter gives_value_beside ms)
times-with-value m ms passes =
    let others = filter gives_value_beside ms in
    ap (λ (b : Bool). filter_map told_time_of (cond b (m ∷ others) others)) passes

pub times-without-value : (m : AnyMessage) (ms : List AnyMessage) → gives_value_beside m ≡ false → times_beside (m ∷ ms) ≡ times_beside ms
times-without-value m ms fails =
    let others = filter gives_value_beside ms in
    ap (λ (b : Bool). filter_map told_time_of (cond b (m ∷ others) others)) fails

-- ---- messages by number

never-both : (b : Bool) → (b && false) ≡ false
never-both true = refl
never-both false = refl

-- a message of a number is one of its messages
beside-own : (k : ℕ) (m : AnyMessage) (ms : List AnyMessage) → k ≡ number_of m → has_part_beside m ≡ true → messages_beside k (m ∷ ms) ≡ m ∷ messages_beside k ms
beside-own k m ms is beside =
    let yes : is_numbered k m ≡ true = eq-eqb (number_of m) k (sym is) in
    let others : List AnyMessage = messages_beside k ms in
    ap (λ (b : Bool). cond (b && is_numbered k m) (m ∷ others) others) beside ∙ ap (λ (b : Bool). cond b (m ∷ others) others) yes

-- and one of another number is none
beside-other : (n : ℕ) (m : AnyMessage) (ms : List AnyMessage) → n ≢ number_of m → messages_beside n (m ∷ ms) ≡ messages_beside n ms
beside-other n m ms other =
    let no : is_numbered n m ≡ false = ne_eqb (number_of m) n (λ same. other (sym same)) in
    let others : List AnyMessage = messages_beside n ms in
    ap (λ (b : Bool). cond (has_part_beside m && b) (m ∷ others) others) no ∙ ap (λ (b : Bool). cond b (m ∷ others) others) (never-both (has_part_beside m))

-- nor is a message of GPS alone
beside-none : (n : ℕ) (m : AnyMessage) (ms : List AnyMessage) → has_part_beside m ≡ false → messages_beside n (m ∷ ms) ≡ messages_beside n ms
beside-none n m ms inside =
    let others : List AnyMessage = messages_beside n ms in
    ap (λ (b : Bool). cond (b && is_numbered n m) (m ∷ others) others) inside

-- of a number that is none of GPS all messages count
part-numbered : (n : ℕ) (m : AnyMessage) → is_gps_number n ≡ false → is_part_numbered n m ≡ is_numbered n m
part-numbered n m out = elim (cases_eq (number_of m) n) [
  | inl same ↦ ap (λ (b : Bool). (not b || gives_value_beside m) && is_numbered n m) (ap is_gps_number same ∙ out)
  | inr other ↦
      let no : is_numbered n m ≡ false = ne_eqb (number_of m) n other in
      ap (λ (b : Bool). has_part_beside m && b) no ∙ never-both (has_part_beside m) ∙ sym no
]

all-of-number : (n : ℕ) (ms : List AnyMessage) → is_gps_number n ≡ false → messages_beside n ms ≡ filter (is_numbered n) ms
all-of-number n ms out = filter_agree (is_part_numbered n) (is_numbered n) (λ m. part-numbered n m out) ms

-- what is held of a number is its entry, else a new one
part-or-new : (own : List AnyMessage) (o : Option SystemMsm) (new : SystemMsm) → IsMsmKept own o → HasSystemMsm new [] → HasSystemMsm (unwrap_or o new) own
part-or-new own None new nothing begins = subst (λ (x : List AnyMessage). HasSystemMsm new x) (sym nothing) begins
part-or-new own (Some p) new is begins = is

module _ (m m' : BTreeMap ℕ SystemMsm) (old new fresh : SystemMsm) (ms : List AnyMessage) where
  pub system-more : (x : AnyMessage) (k : ℕ) → k ≡ number_of x → has_part_beside x ≡ true → old ≡ unwrap_or (get nat_cmp m k) fresh → HasSystemMsm fresh [] → Updates nat_cmp m m' k (Some new)
      → ((own : List AnyMessage) → HasSystemMsm old own → HasSystemMsm new (x ∷ own)) → HasSystems m ms → HasSystems m' (x ∷ ms)
  system-more x k is beside was begins puts takes all =
      put-one (λ n o. IsMsmKept (messages_beside n ms) o) (λ n o. IsMsmKept (messages_beside n (x ∷ ms)) o) m m' k new puts
      (subst (λ (own : List AnyMessage). HasSystemMsm new own) (sym (beside-own k x ms is beside))
      (takes (messages_beside k ms) (subst (λ (s : SystemMsm). HasSystemMsm s (messages_beside k ms)) (sym was) (part-or-new (messages_beside k ms) (get nat_cmp m k) fresh (all k) begins))))
      (λ n other kept. subst (λ (own : List AnyMessage). IsMsmKept own (get nat_cmp m n)) (sym (beside-other n x ms (λ same. other (same ∙ sym is)))) kept)
      all

pub system-same : (m : BTreeMap ℕ SystemMsm) (x : AnyMessage) (ms : List AnyMessage) → has_part_beside x ≡ false → HasSystems m ms → HasSystems m (x ∷ ms)
system-same m x ms inside all = λ n. subst (λ (own : List AnyMessage). IsMsmKept own (get nat_cmp m n)) (sym (beside-none n x ms inside)) (all n)

pub no-systems-yet : (m : BTreeMap ℕ SystemMsm) → m.entries ≡ [] → HasSystems m []
no-systems-yet m empty = λ n.
    subst (λ (entries : List (ℕ × SystemMsm)). IsMsmKept (messages_beside n []) (lookup (is_at (nat_cmp n)) entries)) (sym empty) refl

-- ---- counts

counted-of : (own : List AnyMessage) (o : Option SystemMsm) → IsMsmKept own o → messages_of_msm o ≡ shown_count (length own)
counted-of own None nothing = let size = ap (λ (xs : List AnyMessage). length xs) nothing in omega (arith, size)
counted-of own (Some p) is = is.messages

counted-beside : (n : ℕ) (parts : BTreeMap ℕ SystemMsm) (ms : List AnyMessage) → is_gps_number n ≡ false → HasSystems parts ms → messages_of_msm (get nat_cmp parts n) ≡ count_of (is_numbered n) ms
counted-beside n parts ms out has =
    counted-of (messages_beside n ms) (get nat_cmp parts n) (has n)
    ∙ ap (λ (own : List AnyMessage). shown_count (length own)) (all-of-number n ms out)
    ∙ ap shown_count (length-filter (is_numbered n) ms)

epochs-of : (own : List AnyMessage) (o : Option SystemMsm) → IsMsmKept own o → epochs_of_msm o ≡ shown_count (epochs_in (times_beside own))
epochs-of own None nothing = let few = ap (λ (xs : List AnyMessage). epochs_in (times_beside xs)) nothing in omega (arith, few)
epochs-of own (Some p) is = ap (λ (e : Epochs). e.count) is.epochs

pub epochs-beside-are : (s : StationSurvey) (ms : List AnyMessage) → HasSystems s.system_msm ms → system_epochs_held s ≡ epochs_beside ms
epochs-beside-are s ms has = fun_ext (λ n. epochs-of (messages_beside n ms) (get nat_cmp s.system_msm n) (has n))

-- each number that has a line has its count
pub counts-held : (s : StationSurvey) (ms : List AnyMessage) → CountsMessages s.counts ms → HasMsms s.msm ms → HasSystems s.system_msm ms
    → AllByRecursion (λ n. messages_held s n ≡ count_of (is_numbered n) ms) message_numbers
counts-held s ms k m has =
    let beside : (n : ℕ) → is_gps_number n ≡ false → messages_of_msm (get nat_cmp s.system_msm n) ≡ count_of (is_numbered n) ms = λ n out. counted-beside n s.system_msm ms out has in
    (k.obs_1004, (k.arp_1005, (k.arp_1006, (beside 1012 refl, (m.msm4.messages, (m.msm5.messages, (m.msm6.messages, (m.msm7.messages, (beside 1084 refl, (beside 1085 refl, (beside 1086 refl, (beside 1087 refl, (beside 1094 refl, (beside 1095 refl, (beside 1096 refl, (beside 1097 refl, (beside 1104 refl, (beside 1105 refl, (beside 1106 refl, (beside 1107 refl, (beside 1114 refl, (beside 1115 refl, (beside 1116 refl, (beside 1117 refl, (beside 1124 refl, (beside 1125 refl, (beside 1126 refl, (beside 1127 refl, (beside 1134 refl, (beside 1135 refl, (beside 1136 refl, (beside 1137 refl, tt))))))))))))))))))))))))))))))))

-- a message of another system more, by its number
pub beside-counted : (old new : BTreeMap ℕ ℕ) (k : ℕ) (m : AnyMessage) (ms : List AnyMessage) → k ≡ number_of m → is_beside_gps m ≡ true
    → count_at new k ≡ shown_count (count_at old k + 1) → ((n : ℕ) → n ≢ k → count_at new n ≡ count_at old n) → CountsBeside old ms → CountsBeside new (m ∷ ms)
beside-counted old new k m ms is beside own others counts =
    tally-more (λ n x. is_beside_numbered n x) m ms old new k
    (λ n. ap (λ (b : Bool). b && is_numbered n m) beside ∙ ap (λ (j : ℕ). j == n) (sym is)) own others counts

-- and one of GPS
pub beside-passed : (counts : BTreeMap ℕ ℕ) (m : AnyMessage) (ms : List AnyMessage) → is_beside_gps m ≡ false → CountsBeside counts ms → CountsBeside counts (m ∷ ms)
beside-passed counts m ms inside stand = tally-same (λ n x. is_beside_numbered n x) m ms counts (λ n. ap (λ (b : Bool). b && is_numbered n m) inside) stand
