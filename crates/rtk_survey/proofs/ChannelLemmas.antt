-- The channels that messages tell, one message after another.
use Rattle.std.proofs.Common.{◌≡◌, ◌≢◌, ◌<◌, ◌==◌, ◌&&◌, ◌∙◌, ℕ, Bool, true, false, not, cond, List, [], ◌∷◌, length, Option, None, Some, refl, sym, ap, inl, inr, ne_eqb, arith}
use Rattle.std.specs.Prelude.{slice_get}
use Rattle.std.proofs.lemmas.Bool.{cases_Bool}
use Rattle.std.specs.BTreeMap.{BTreeMap}
use Rattle.rtk_message.specs.declared.any_message.AnyMessage.{AnyMessage}
use Rattle.rtk_message.specs.declared.any_message.AnyMessage.TheVariants.{Message, Msm, Obs1012}
use Rattle.rtk_message.specs.declared.msm.Msm as msm
use Rattle.rtk_survey.specs.Channels.{has_slot_bit, slots_before, slot_field, if_channel, is_field, is_glonass, field_told, tells_channels, tells_field, place_of_field, count_of_field, IsChannelTold, CountsFields, CountsChannels, tells_slot_channel, slot_channel_in, tells_slot_if, tells_slot_of_1020, CountsSlots}
use Rattle.rtk_survey.specs.Steps.Fields.{TakesFields}
use Rattle.rtk_survey.specs.declared.system_message.SlotChannel.{SlotChannel}
use Rattle.rtk_survey.specs.declared.system_message.SystemMessage.{SystemMessage}
use Rattle.rtk_survey.proofs.TallyLemmas.{one-more, none-more}

-- ---- places

-- another slot or another field has another place
pub other-place : (s f slot field : ℕ) → f < 21 → field < 21 → (s ≡ slot → f ≢ field) → place_of_field s f ≢ place_of_field slot field
other-place s f slot field few told other same =
    let is : s ≡ slot = omega (arith, few, told, same) in
    other is (omega (arith, same, is))

-- ---- one more

-- the counts take what one more tells
pub fields-more : {X : Type 0} (tells : ℕ → ℕ → X → Bool) (old new : BTreeMap ℕ ℕ) (x : X) (xs : List X) → TakesFields (λ slot field. tells slot field x) old new → CountsFields tells old xs → CountsFields tells new (x ∷ xs)
fields-more {X} tells old new x xs takes had = λ slot field is. elim (cases_Bool (tells slot field x)) [
  | inl holds ↦
      one-more (tells slot field) x xs (count_of_field old slot field) (count_of_field new slot field) holds (had slot field is) (takes.told slot field is holds)
  | inr fails ↦ none-more (tells slot field) x xs (count_of_field new slot field) fails (takes.others slot field is fails ∙ had slot field is)
]

-- one more tells no channel
none-told : {X : Type 0} (tells : ℕ → ℕ → X → Bool) (counts : BTreeMap ℕ ℕ) (x : X) (xs : List X) → ((slot field : ℕ) → IsChannelTold slot field → tells slot field x ≡ false) → CountsFields tells counts xs → CountsFields tells counts (x ∷ xs)
none-told {X} tells counts x xs none had = λ slot field is. none-more (tells slot field) x xs (count_of_field counts slot field) (none slot field is) (had slot field is)

-- ---- a message more

either-none : (b : Bool) → ◌≡◌ {A = Option ℕ} (cond b None None) None
either-none true = refl
either-none false = refl

-- an MSM without such fields has none of a slot
none-of-slot : (has : Bool) (at : ℕ) (fields : List ℕ) → not (length fields == 0) ≡ false → cond has (slice_get fields at) None ≡ None
none-of-slot has at [] none = either-none has
none-of-slot has at (f ∷ fs) none =
    let some : (length (f ∷ fs) == 0) ≡ false = ne_eqb (length (f ∷ fs)) 0 (λ same. omega (arith, same)) in
    let both : true ≡ false = sym (ap not some) ∙ none in
    cc

untold-if : (m : msm.Msm) (slot : ℕ) (b : Bool) → (b && not (length m.extended == 0)) ≡ false → cond b (if_channel (slot_field m slot)) None ≡ None
untold-if m slot true none = ap if_channel (none-of-slot (has_slot_bit m.header.satellite_mask slot) (slots_before m.header.satellite_mask slot) m.extended none)
untold-if m slot false none = refl

-- a message without such fields tells no channel
pub untold : (m : AnyMessage) (slot : ℕ) → tells_channels m ≡ false → field_told m slot ≡ None
untold (Message m) slot none = refl
untold (Msm m) slot none = untold-if m slot (is_glonass m.system) none
untold (Obs1012 m) slot none = cc

pub told-more : (old new : BTreeMap ℕ ℕ) (m : AnyMessage) (ms : List AnyMessage) → TakesFields (λ slot field. tells_field slot field m) old new → CountsFields tells_field old ms → CountsChannels new (m ∷ ms)
told-more old new m ms takes had = fields-more tells_field old new m ms takes had

pub untold-more : (counts : BTreeMap ℕ ℕ) (m : AnyMessage) (ms : List AnyMessage) → tells_channels m ≡ false → CountsChannels counts ms → CountsChannels counts (m ∷ ms)
untold-more counts m ms none had = none-told tells_field counts m ms (λ slot field is. ap (λ (o : Option ℕ). is_field o field) (untold m slot none)) had

-- ---- a 1020 more

pub slot-told : (old new : BTreeMap ℕ ℕ) (m : SystemMessage) (s : SlotChannel) (ts : List SystemMessage) → Some s ≡ slot_channel_in m → TakesFields (tells_slot_channel s) old new → CountsFields tells_slot_of_1020 old ts → CountsSlots new (m ∷ ts)
slot-told old new m s ts is takes had =
    let same : (slot field : ℕ) → tells_slot_of_1020 slot field m ≡ tells_slot_channel s slot field = λ slot field. ap (λ (o : Option SlotChannel). tells_slot_if o slot field) (sym is) in
    fields-more tells_slot_of_1020 old new m ts
    (record {
      told = λ slot field told holds. takes.told slot field told (sym (same slot field) ∙ holds);
      others = λ slot field told fails. takes.others slot field told (sym (same slot field) ∙ fails);
    })
    had

pub no-slot : (counts : BTreeMap ℕ ℕ) (m : SystemMessage) (ts : List SystemMessage) → None ≡ slot_channel_in m → CountsSlots counts ts → CountsSlots counts (m ∷ ts)
no-slot counts m ts is had = none-told tells_slot_of_1020 counts m ts (λ slot field told. ap (λ (o : Option SlotChannel). tells_slot_if o slot field) (sym is)) had
