-- A slot stands in a line of the report exactly if a satellite of it lacks a channel.
use Rattle.std.proofs.Common.{◌≡◌, ◌∙◌, ◌+◌, ◌<◌, ◌≤◌, ◌==◌, ◌⊎◌, ℕ, zero, suc, ℤ, Bool, true, false, List, [], ◌∷◌, length, Option, None, Some, refl, sym, ap, subst, inl, inr, arith}
use Rattle.std.specs.Prelude.{◌&&◌, not, is_some, slice_index, slice_index_or, Contains}
use Rattle.std.proofs.lemmas.Bool.{eqb-true, eq-eqb, and_parts, and_from, or_cases, or_left, or_right, both_ways}
use Rattle.rtk_message.specs.declared.any_message.AnyMessage.{AnyMessage as Message}
use Rattle.rtk_message.specs.declared.any_message.AnyMessage.TheVariants as any
use Rattle.rtk_message.specs.declared.msm.Msm.{Msm}
use Rattle.rtk_message.specs.declared.obs1012.GlonassSatellite.{GlonassSatellite}
use Rattle.rtk_message.specs.declared.system.System.{System}
use Rattle.rtk_message.specs.declared.system.System.TheVariants.{Glonass}
use Rattle.rtk_obs.specs.Carriers.{IsSlot, channel_at}
use Rattle.rtk_obs.specs.GlonassCells.{glonass_channel, unless_other_in_1012}
use Rattle.rtk_obs.specs.MsmCells.{satellites_of}
use Rattle.rtk_obs.specs.SatelliteIndex.{letter_of}
use Rattle.rtk_obs.specs.SignalCells.{bit_of_row, channel_in, field_of_row}
use Rattle.rtk_collect.specs.Arrival.{At}
use Rattle.rtk_convert.specs.declared.frame_class.FrameClass.{FrameClass}
use Rattle.rtk_convert.specs.declared.frame_class.FrameClass.TheVariants.{OtherMessage, Refused, Foreign, Dated}
use Rattle.rtk_convert.specs.ChannelLaws.{IsFoundMessage, LacksChannel, HasSlotWithoutChannel, IsListed, ReportTellsChannels}
use Rattle.rtk_convert.specs.Conversion.{found_on}
use Rattle.rtk_convert.specs.FrameClass.{Found}
use Rattle.rtk_setup.specs.Setup.{SetupView, channels_of}
use Rattle.rtk_convert.specs.Slots.{SatelliteTest, is_without_channel, is_of_other_channel, holds_in_msm, holds_in_1012, any_satellite, any_satellite_1012, has_such_satellite, tells_slot, any_tells}
use Rattle.rtk_convert.proofs.PhasesLemmas.{channel-none}
use Rattle.rtk_convert.proofs.SystemLemmas.{letter-once}

-- ---- the satellites of an MSM

module _ (test : ℕ → Bool) (m : Msm) (slot : ℕ) where
  -- one of the satellites is that of a row
  row-of : (row : ℕ) (bits : List ℕ) → any_satellite test m slot row bits ≡ true
      → (k : ℕ) × (k < length bits) × (slice_index bits k ≡ slot) × (test (field_of_row m (row + k)) ≡ true)
  row-of row [] h = absurd (both_ways false refl h)
  row-of row (bit ∷ bits) h = elim (or_cases ((bit == slot) && test (field_of_row m row)) (any_satellite test m slot (suc row) bits) h) [
    | inl here ↦
        let p = and_parts (bit == slot) (test (field_of_row m row)) here in
        let same : row + 0 ≡ row = omega arith in
        (0, omega arith, eqb-true bit slot p.0, ap (λ (n : ℕ). test (field_of_row m n)) same ∙ p.1)
    | inr later ↦
        let p = row-of (suc row) bits later in
        let same : row + suc p.0 ≡ suc row + p.0 = omega arith in
        (suc p.0, (let within = p.1 in omega arith), p.2, ap (λ (n : ℕ). test (field_of_row m n)) same ∙ p.3)
  ]

  -- that of a row is one of them
  at-row : (row : ℕ) (bits : List ℕ) (k : ℕ) → slice_index bits k ≡ slot → 1 ≤ slot → test (field_of_row m (row + k)) ≡ true → any_satellite test m slot row bits ≡ true
  at-row row [] k is some h = absurd (omega (arith, is, some))
  at-row row (bit ∷ bits) zero is some h =
      let same : row ≡ row + 0 = omega arith in
      or_left ((bit == slot) && test (field_of_row m row)) (any_satellite test m slot (suc row) bits)
      (and_from (bit == slot) (test (field_of_row m row)) (eq-eqb bit slot is) (ap (λ (n : ℕ). test (field_of_row m n)) same ∙ h))
  at-row row (bit ∷ bits) (suc k) is some h =
      let same : suc row + k ≡ row + suc k = omega arith in
      or_right ((bit == slot) && test (field_of_row m row)) (any_satellite test m slot (suc row) bits)
      (at-row (suc row) bits k is some (ap (λ (n : ℕ). test (field_of_row m n)) same ∙ h))

-- ---- the satellites of a 1012

module _ (test : GlonassSatellite → Bool) (slot : ℕ) where
  abbrev of_slot : GlonassSatellite → Bool
  of_slot s = (s.slot == slot) && test s

  -- one of the satellites
  satellite-of : (ss : List GlonassSatellite) → any_satellite_1012 test slot ss ≡ true → (s : GlonassSatellite) × Contains ss s × (s.slot ≡ slot) × (test s ≡ true)
  satellite-of [] h = absurd (both_ways false refl h)
  satellite-of (s ∷ ss) h = elim (or_cases (of_slot s) (any_satellite_1012 test slot ss) h) [
    | inl here ↦
        let p = and_parts (s.slot == slot) (test s) here in
        (s, (0, omega arith, refl), eqb-true s.slot slot p.0, p.1)
    | inr later ↦
        let p = satellite-of ss later in
        (p.0, (suc p.1.0, (let within = p.1.1 in omega arith), p.1.2), p.2, p.3)
  ]

  -- each of the satellites is one of them
  satellite-at : (ss : List GlonassSatellite) (k : ℕ) (s : GlonassSatellite) → k < length ss → slice_index_or ss k s ≡ s → s.slot ≡ slot → test s ≡ true → any_satellite_1012 test slot ss ≡ true
  satellite-at [] k s lt is slot_is h = absurd (omega arith)
  satellite-at (x ∷ ss) zero s lt is slot_is h =
      or_left (of_slot x) (any_satellite_1012 test slot ss) (ap (λ (y : GlonassSatellite). of_slot y) is ∙ and_from (s.slot == slot) (test s) (eq-eqb s.slot slot slot_is) h)
  satellite-at (x ∷ ss) (suc k) s lt is slot_is h = or_right (of_slot x) (any_satellite_1012 test slot ss) (satellite-at ss k s (omega arith) is slot_is h)

-- ---- found frames

-- the message of a frame that tells a slot
record TellsBy (test : SatelliteTest) (s : SetupView) (slot : ℕ) (class : FrameClass) : Type 0 where
  pub epoch : Option ℕ
  pub message : Message
  pub class_is : class ≡ Dated (At epoch message)
  pub some : has_such_satellite test (channels_of s.head.glonass) slot message ≡ true

module _ (test : SatelliteTest) (s : SetupView) (slot : ℕ) where
  tells-by : (class : FrameClass) → tells_slot test s slot class ≡ true → TellsBy test s slot class
  tells-by OtherMessage h = absurd (both_ways false refl h)
  tells-by (Refused fault) h = absurd (both_ways false refl h)
  tells-by Foreign h = absurd (both_ways false refl h)
  tells-by (Dated (At e m)) h = record { epoch = e; message = m; class_is = refl; some = h }

  -- one of the found frames tells the slot
  found-at : (found : List Found) → any_tells test s slot found ≡ true → (f : Found) × Contains found f × (tells_slot test s slot f.class ≡ true)
  found-at [] h = absurd (both_ways false refl h)
  found-at (f ∷ before) h = elim (or_cases (tells_slot test s slot f.class) (any_tells test s slot before) h) [
    | inl here ↦ (f, (0, omega arith, refl), here)
    | inr earlier ↦
        let p = found-at before earlier in
        (p.0, (suc p.1.0, (let within = p.1.1 in omega arith), p.1.2), p.2)
  ]

  -- a found frame that tells the slot is one of them
  tells-at : (found : List Found) (k : ℕ) (f : Found) → k < length found → slice_index_or found k f ≡ f → tells_slot test s slot f.class ≡ true → any_tells test s slot found ≡ true
  tells-at [] k f lt is h = absurd (omega arith)
  tells-at (x ∷ before) zero f lt is h =
      or_left (tells_slot test s slot x.class) (any_tells test s slot before) (ap (λ (y : Found). tells_slot test s slot y.class) is ∙ h)
  tells-at (x ∷ before) (suc k) f lt is h =
      or_right (tells_slot test s slot x.class) (any_tells test s slot before) (tells-at before k f (omega arith) is h)

-- ---- why a satellite lacks a channel

not-some : (o : Option ℤ) → not (is_some o) ≡ true → o ≡ None
not-some None h = refl
not-some (Some k) h = absurd (both_ways false refl h)

-- where a test holds of a satellite, it has no channel
abbrev TellsNone : SatelliteTest → Type 0
TellsNone test = (told own : Option ℤ) → (told ≡ None → own ≡ None) → test told own ≡ true → own ≡ None

none-other : TellsNone is_of_other_channel
none-other told own never h = not-some own (and_parts (is_some told) (not (is_some own)) h).1

none-without : TellsNone is_without_channel
none-without told own never h = never (not-some told h)

-- and if there is none, one of the tests says why
why-none : (told own : Option ℤ) → own ≡ None → (is_of_other_channel told own ≡ true) ⊎ (is_without_channel told own ≡ true)
why-none None own none = inr refl
why-none (Some k) own none = inl (ap (λ (o : Option ℤ). not (is_some o)) none)

module _ (s : SetupView) (slot : ℕ) where
  -- a message that a test holds of
  lacking : (test : SatelliteTest) → TellsNone test → (m : Message) → has_such_satellite test (channels_of s.head.glonass) slot m ≡ true → HasSlotWithoutChannel s slot m
  lacking test none (any.Message m) h = both_ways false refl h
  lacking test none (any.Obs1012 m) h =
      let channels = channels_of s.head.glonass in
      let p = satellite-of (holds_in_1012 test channels) slot m.satellites h in (
        p.0,
        p.1,
        record {
          slot_is = p.2;
          none = none (channel_at channels p.0.slot) (glonass_channel channels p.0) (λ untold. ap (λ (o : Option ℤ). unless_other_in_1012 p.0.channel o) untold) p.3;
        },
      )
  lacking test none (any.Msm m) h =
      let channels = channels_of s.head.glonass in
      let p = and_parts (letter_of m.system == letter_of Glonass) (any_satellite (holds_in_msm test channels slot) m slot 0 (satellites_of m.header)) h in
      let system = letter-once m.system Glonass (eqb-true (letter_of m.system) (letter_of Glonass) p.0) in
      let row = row-of (holds_in_msm test channels slot) m slot 0 (satellites_of m.header) p.1 in
      let from : row.0 ≡ 0 + row.0 = omega arith in (
        row.0,
        record {
          system = system;
          slot_is = row.2;
          none = ap (λ (x : System). channel_in x channels (bit_of_row m row.0) (field_of_row m row.0)) system
              ∙ ap (λ (n : ℕ). channel_in Glonass channels n (field_of_row m row.0)) row.2
              ∙ none (channel_at channels slot) (channel_in Glonass channels slot (field_of_row m row.0)) (channel-none channels slot (field_of_row m row.0))
              (ap (λ (n : ℕ). holds_in_msm test channels slot (field_of_row m n)) from ∙ row.3);
        },
      )

  -- the tests hold of each message with a satellite that lacks a channel
  abbrev Either : Message → Type 0
  Either m =
      (has_such_satellite is_of_other_channel (channels_of s.head.glonass) slot m ≡ true)
      ⊎ (has_such_satellite is_without_channel (channels_of s.head.glonass) slot m ≡ true)

  msm-has : (test : SatelliteTest) (m : Msm) (row : ℕ) → IsSlot slot → LacksChannel s slot m row → holds_in_msm test (channels_of s.head.glonass) slot (field_of_row m row) ≡ true
      → has_such_satellite test (channels_of s.head.glonass) slot (any.Msm m) ≡ true
  msm-has test m row is lacks h =
      let channels = channels_of s.head.glonass in
      let from : 0 + row ≡ row = omega arith in
      let satellite = at-row (holds_in_msm test channels slot) m slot 0 (satellites_of m.header) row lacks.slot_is is.0 (ap (λ (n : ℕ). holds_in_msm test channels slot (field_of_row m n)) from ∙ h) in
      let letter : (letter_of m.system == letter_of Glonass) ≡ true = ap (λ (x : System). letter_of x == letter_of Glonass) lacks.system in
      and_from (letter_of m.system == letter_of Glonass) (any_satellite (holds_in_msm test channels slot) m slot 0 (satellites_of m.header)) letter satellite

  either : (m : Message) → IsSlot slot → HasSlotWithoutChannel s slot m → Either m
  either (any.Message m) is lacks = absurd lacks
  either (any.Obs1012 m) is lacks =
      let channels = channels_of s.head.glonass in
      let satellite = lacks.0 in
      elim (why-none (channel_at channels satellite.slot) (glonass_channel channels satellite) lacks.2.none) [
        | inl other ↦ inl (satellite-at (holds_in_1012 is_of_other_channel channels) slot m.satellites lacks.1.0 satellite lacks.1.1 lacks.1.2 lacks.2.slot_is other)
        | inr without ↦ inr (satellite-at (holds_in_1012 is_without_channel channels) slot m.satellites lacks.1.0 satellite lacks.1.1 lacks.1.2 lacks.2.slot_is without)
      ]
  either (any.Msm m) is lacks =
      let channels = channels_of s.head.glonass in
      let field = field_of_row m lacks.0 in
      let none : channel_in Glonass channels slot field ≡ None =
      ap (λ (n : ℕ). channel_in Glonass channels n field) (sym lacks.1.slot_is)
      ∙ ap (λ (x : System). channel_in x channels (bit_of_row m lacks.0) field) (sym lacks.1.system) ∙ lacks.1.none in
      elim (why-none (channel_at channels slot) (channel_in Glonass channels slot field) none) [
        | inl other ↦ inl (msm-has is_of_other_channel m lacks.0 is lacks.1 other)
        | inr without ↦ inr (msm-has is_without_channel m lacks.0 is lacks.1 without)
      ]

module _ (s : SetupView) (found : List Found) (slot : ℕ) where
  -- a slot that a line lists
  lacks : (test : SatelliteTest) → TellsNone test → any_tells test s slot found ≡ true → (m : Message) × IsFoundMessage found m × HasSlotWithoutChannel s slot m
  lacks test none h =
      let at = found-at test s slot found h in
      let by = tells-by test s slot at.0.class at.2 in
      let frame : at.0 ≡ found_on at.0.link (Dated (At by.epoch by.message)) = ap (λ (c : FrameClass). found_on at.0.link c) by.class_is in
      (by.message, (at.0.link, by.epoch, subst (λ (f : Found). Contains found f) frame at.1), lacking s slot test none by.message by.some)

  to-lacks : IsListed s found slot → (m : Message) × IsFoundMessage found m × HasSlotWithoutChannel s slot m
  to-lacks (inl h) = lacks is_of_other_channel none-other h
  to-lacks (inr h) = lacks is_without_channel none-without h

  -- a message that a test holds of is listed by it
  lists : (test : SatelliteTest) (m : Message) → IsFoundMessage found m → has_such_satellite test (channels_of s.head.glonass) slot m ≡ true → any_tells test s slot found ≡ true
  lists test m came h = tells-at test s slot found came.2.0 (found_on came.0 (Dated (At came.1 m))) came.2.1 came.2.2 h

  to-lists : (m : Message) → IsSlot slot → IsFoundMessage found m → HasSlotWithoutChannel s slot m → IsListed s found slot
  to-lists m is came lacking_one = elim (either s slot m is lacking_one) [
    | inl other ↦ inl (lists is_of_other_channel m came other)
    | inr without ↦ inr (lists is_without_channel m came without)
  ]

pub report-tells-channels : ReportTellsChannels
report-tells-channels s found slot is = (to-lacks s found slot, λ p. to-lists s found slot p.0 is p.1 p.2)
