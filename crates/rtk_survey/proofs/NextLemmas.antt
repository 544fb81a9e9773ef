-- What the command of a station takes of other systems, by what is held and by the messages.
use Rattle.std.proofs.Common.{◌≡◌, ◌<◌, ◌≤◌, ◌+◌, ◌&&◌, ◌||◌, ◌∙◌, ◌++◌, ℕ, zero, suc, Bool, true, false, cond, nat_lt, List, [], Option, None, Some, refl, sym, ap, arith}
use Rattle.std.specs.Prelude.{flat_map}
use Rattle.std.specs.BTreeMap.{get}
use Rattle.std.specs.List.{range_with_len}
use Rattle.std.specs.Ordering.{nat_cmp}
use Rattle.std.proofs.Math.Path.{fun_ext}
use Rattle.rtk_message.specs.declared.any_message.AnyMessage.{AnyMessage}
use Rattle.rtk_message.specs.declared.system.System.TheVariants.{Glonass}
use Rattle.rtk_obs.specs.declared.any_code.AnyCode.{AnyCode}
use Rattle.rtk_survey.specs.BesideGps.{cells_beside, messages_beside, has_index, has_any_code}
use Rattle.rtk_survey.specs.Chains.{clocks_of, clocks_at}
use Rattle.rtk_survey.specs.Channels.{CountsChannels}
use Rattle.rtk_survey.specs.Contents.{HasSystems, IsMsmKept, times_of}
use Rattle.rtk_survey.specs.NextCommand.{number_by, next_takes_1012, other_taken, glonass_options, more_told, most_told, told_of_slot, item_text, slot_item, slot_items}
use Rattle.rtk_survey.specs.Steps.OtherSystems.{code_in_part, codes_held_by, slot_in_part, slot_held, slots_held, fields_held, legacy_held, glonass_held, taken_held}
use Rattle.rtk_survey.specs.Steps.Tables.{system_epochs_held}
use Rattle.rtk_survey.specs.Summary.{epochs_beside, codes_beside, legacy_beside, taken_beside, slot_numbered, slots_beside, fields_told, glonass_beside}
use Rattle.rtk_survey.specs.declared.clock_chains.ClockSurvey.{ClockSurvey}
use Rattle.rtk_survey.specs.declared.date_message.UtcDate.{UtcDate}
use Rattle.rtk_survey.specs.declared.station.StationSurvey.{StationSurvey}
use Rattle.rtk_survey.specs.Tracing.{times_of_week, newest_time, oldest_time}
use Rattle.rtk_survey.specs.declared.system_msm.SystemMsm.{SystemMsm}
use Rattle.rtk_survey.specs.declared.times_of_week.Times.{Times}
use Rattle.rtk_survey.proofs.SystemLemmas.{any-codes-marked, epochs-beside-are}

-- ---- codes

codes-of-part : (o : Option SystemMsm) (own : List AnyMessage) → IsMsmKept own o → (c : AnyCode) → code_in_part o c ≡ has_any_code (cells_beside own) c
codes-of-part None own nothing c = ap (λ (ms : List AnyMessage). has_any_code (cells_beside ms) c) (sym nothing)
codes-of-part (Some p) own is c = ap (λ (t : AnyCode → Bool). t c) (any-codes-marked p.signals (cells_beside own) is.signals)

codes-are : (s : StationSurvey) (ms : List AnyMessage) → HasSystems s.system_msm ms → codes_held_by s ≡ codes_beside ms
codes-are s ms has = fun_ext (λ n. fun_ext (λ c. codes-of-part (get nat_cmp s.system_msm n) (messages_beside n ms) (has n) c))

-- 1012 are taken by what is held, and by the messages
legacy-is : (date : Option UtcDate) (s : StationSurvey) (ms : List AnyMessage) → HasSystems s.system_msm ms → s.times ≡ times_of (times_of_week ms) → legacy_held date s ≡ legacy_beside date ms
legacy-is date s ms has times =
    ap (λ (t : Times). next_takes_1012 date t.first t.last (system_epochs_held s)) times
    ∙ ap (λ (e : ℕ → ℕ). next_takes_1012 date (oldest_time (times_of_week ms)) (newest_time (times_of_week ms)) e) (epochs-beside-are s ms has)

pub taken-is : (date : Option UtcDate) (s : StationSurvey) (ms : List AnyMessage) → HasSystems s.system_msm ms → clocks_at s.clocks ≡ clocks_of ms → s.times ≡ times_of (times_of_week ms)
    → taken_held date s ≡ taken_beside date ms
taken-is date s ms has clocks times =
    ap (λ (x : ClockSurvey). other_taken date x.offsets (system_epochs_held s) (codes_held_by s) (legacy_held date s)) clocks
    ∙ ap (λ (e : ℕ → ℕ). other_taken date (clocks_of ms).offsets e (codes_held_by s) (legacy_held date s)) (epochs-beside-are s ms has)
    ∙ ap (λ (t : ℕ → AnyCode → Bool). other_taken date (clocks_of ms).offsets (epochs_beside ms) t (legacy_held date s)) (codes-are s ms has)
    ∙ ap (λ (b : Bool). other_taken date (clocks_of ms).offsets (epochs_beside ms) (codes_beside ms) b) (legacy-is date s ms has times)

-- ---- channels

slot-of-part : (o : Option SystemMsm) (own : List AnyMessage) (slot : ℕ) → IsMsmKept own o → slot_in_part o slot ≡ has_index (cells_beside own) (32 + slot)
slot-of-part None own slot nothing = ap (λ (ms : List AnyMessage). has_index (cells_beside ms) (32 + slot)) (sym nothing)
slot-of-part (Some p) own slot is = is.signals.satellites (32 + slot)

slot-is : (s : StationSurvey) (ms : List AnyMessage) (slot n : ℕ) → HasSystems s.system_msm ms → slot_held s slot n ≡ slot_numbered ms slot n
slot-is s ms slot n has = slot-of-part (get nat_cmp s.system_msm n) (messages_beside n ms) slot (has n)

slots-are : (legacy : Bool) (s : StationSurvey) (ms : List AnyMessage) (slot : ℕ) → HasSystems s.system_msm ms → slots_held legacy s slot ≡ slots_beside legacy ms slot
slots-are legacy s ms slot has =
    ap (λ (e : ℕ → ℕ). slot_held s slot (number_by e Glonass) || (legacy && slot_held s slot 1012)) (epochs-beside-are s ms has)
    ∙ ap (λ (b : Bool). b || (legacy && slot_held s slot 1012)) (slot-is s ms slot (number_by (epochs_beside ms) Glonass) has)
    ∙ ap (λ (b : Bool). slot_numbered ms slot (number_by (epochs_beside ms) Glonass) || (legacy && b)) (slot-is s ms slot 1012 has)

same-some : (a b : ℕ) → Some a ≡ Some b → a ≡ b
same-some a b same = cc

low-none : (b : Bool) (n k : ℕ) → cond b (Some n) None ≡ Some k → k < suc n
low-none true n k is = let same = same-some n k is in omega (arith, same)
low-none false n k is = cc

low-some : (b : Bool) (told n k : ℕ) → told < n → cond b (Some n) (Some told) ≡ Some k → k < suc n
low-some true told n k low is = let same = same-some n k is in omega (arith, same)
low-some false told n k low is = let same = same-some told k is in omega (arith, same, low)

-- the field that is told is one of those so far
told-low : (f : ℕ → ℕ) (o : Option ℕ) (n : ℕ) → ((k : ℕ) → o ≡ Some k → k < n) → (k : ℕ) → more_told f o n ≡ Some k → k < suc n
told-low f None n few k is = low-none (nat_lt 0 (f n)) n k is
told-low f (Some told) n few k is = low-some (nat_lt (f told) (f n)) told n k (few told refl) is

more-agree : (f g : ℕ → ℕ) (o : Option ℕ) (n : ℕ) → ((k : ℕ) → k < suc n → f k ≡ g k) → ((k : ℕ) → o ≡ Some k → k < n) → more_told f o n ≡ more_told g o n
more-agree f g None n agree few = ap (λ (c : ℕ). cond (nat_lt 0 c) (Some n) None) (agree n (omega arith))
more-agree f g (Some told) n agree few =
    let low = few told refl in
    ap (λ (c : ℕ). cond (nat_lt c (f n)) (Some n) (Some told)) (agree told (omega (arith, low)))
    ∙ ap (λ (c : ℕ). cond (nat_lt (g told) c) (Some n) (Some told)) (agree n (omega arith))

-- the counts of these fields are the same
most-agree : (f g : ℕ → ℕ) (n : ℕ) → ((k : ℕ) → k < n → f k ≡ g k) → (most_told f n ≡ most_told g n) × ((k : ℕ) → most_told f n ≡ Some k → k < n)
most-agree f g zero agree = (refl, λ k is. cc)
most-agree f g (suc n) agree =
    let before = most-agree f g n (λ k lt. agree k (omega (arith, lt))) in (
      ap (λ (o : Option ℕ). more_told f o n) before.0 ∙ more-agree f g (most_told g n) n agree (λ k is. before.1 k (before.0 ∙ is)),
      told-low f (most_told f n) n before.1,
    )

item-agree : (a b : ℕ → Bool) (f g : ℕ → ℕ → ℕ) (slot : ℕ) → a slot ≡ b slot → ((field : ℕ) → field < 14 → f slot field ≡ g slot field) → slot_item a f slot ≡ slot_item b g slot
unfolding told_of_slot
item-agree a b f g slot same agree =
    ap (λ (x : Bool). cond x (item_text slot (most_told (f slot) 14)) []) same
    ∙ ap (λ (o : Option ℕ). cond (b slot) (item_text slot o) []) (most-agree (f slot) (g slot) 14 agree).0

items-agree : (f g : ℕ → List ℕ) (a n : ℕ) → ((k : ℕ) → a ≤ k → k < a + n → f k ≡ g k) → flat_map f (range_with_len a n) ≡ flat_map g (range_with_len a n)
items-agree f g a zero agree = refl
items-agree f g a (suc n) agree =
    let here : a < a + suc n = omega arith in
    let low : a ≤ a = omega arith in
    let rest : flat_map f (range_with_len (a + 1) n) ≡ flat_map g (range_with_len (a + 1) n) =
    items-agree f g (a + 1) n (λ k from lt. let below : a ≤ k = omega (arith, from) in let further : k < a + suc n = omega (arith, lt) in agree k below further) in
    ap (λ (t : List ℕ). t ++ flat_map f (range_with_len (a + 1) n)) (agree a low here) ∙ ap (λ (t : List ℕ). g a ++ t) rest

items-are : (legacy : Bool) (s : StationSurvey) (ms : List AnyMessage) → HasSystems s.system_msm ms → CountsChannels s.channels ms
    → slot_items (slots_held legacy s) (fields_held s) ≡ slot_items (slots_beside legacy ms) (fields_told ms)
unfolding slot_items
items-are legacy s ms has counts =
    items-agree (slot_item (slots_held legacy s) (fields_held s)) (slot_item (slots_beside legacy ms) (fields_told ms)) 1 27
    (λ slot from lt.
    let within : slot < 28 = omega (arith, lt) in
    item-agree (slots_held legacy s) (slots_beside legacy ms) (fields_held s) (fields_told ms) slot (slots-are legacy s ms slot has)
    (λ field few. counts slot field (record { first = from; last = within; few = omega (arith, few) })))

-- the options of GLONASS by what is held are those by the messages
pub glonass-is : (date : Option UtcDate) (s : StationSurvey) (ms : List AnyMessage) → HasSystems s.system_msm ms → CountsChannels s.channels ms → s.times ≡ times_of (times_of_week ms)
    → glonass_held date s ≡ glonass_beside date ms
glonass-is date s ms has counts times =
    ap (λ (b : Bool). glonass_options (slot_items (slots_held b s) (fields_held s)) b) (legacy-is date s ms has times)
    ∙ ap (λ (items : List ℕ). glonass_options items (legacy_beside date ms)) (items-are (legacy_beside date ms) s ms has counts)
