-- The slots of GLONASS whose satellites have no phases.
use Rattle.std.proofs.Common.{◌≡◌, ◌≢◌, ◌∙◌, ◌+◌, ◌-◌, ◌^◌, ◌<◌, ◌≤◌, ◌==◌, ℕ, zero, suc, ℤ, Bool, true, false, List, ◌∷◌, length, take, get_or, Option, None, Some, Result, refl, sym, ap, subst, replicate, inl, inr, arith}
use Rattle.std.specs.Prelude.{◌&&◌, ◌||◌, not, is_some, nat_le, slice_index_or, if◌then◌else◌, IfOk}
use Rattle.std.specs.List.{list_any}
use Rattle.std.proofs.Math.Path.{fun_ext}
use Rattle.std.proofs.lemmas.Bool.{cases_Bool, cases_lt, both_ways, eqb-true, eq-eqb, ne_eqb, and_left, and_parts, and_from, or_from}
use Rattle.std.proofs.lemmas.Bool.Decides.{nat_tests}
use Rattle.std.proofs.lemmas.List.Folds.{list_any_more}
use Rattle.std.proofs.lemmas.Nat.{pow_below}
use Rattle.std.proofs.Math.Nat.{pow-suc}
use Rattle.rtk_message.specs.declared.any_fault.AnyFault.{AnyFault}
use Rattle.rtk_message.specs.declared.any_message.AnyMessage.{AnyMessage as Message}
use Rattle.rtk_message.specs.declared.any_message.AnyMessage.TheVariants as any
use Rattle.rtk_message.specs.declared.message.Message.{Message as GpsMessage}
use Rattle.rtk_message.specs.declared.msm.Msm.{Msm}
use Rattle.rtk_message.specs.declared.obs1012.GlonassSatellite.{GlonassSatellite}
use Rattle.rtk_message.specs.declared.obs1012.Obs1012.{Obs1012}
use Rattle.rtk_message.specs.declared.system.System.{System}
use Rattle.rtk_message.specs.declared.system.System.TheVariants.{Gps, Glonass, Galileo, Beidou, Qzss, Sbas, Navic}
use Rattle.rtk_obs.specs.Carriers.{IsSlot, channel_at}
use Rattle.rtk_obs.specs.GlonassCells.{agrees_in_1012, unless_other_in_1012}
use Rattle.rtk_obs.specs.Mask.{set_bits_from}
use Rattle.rtk_obs.specs.MsmCells.{satellites_of}
use Rattle.rtk_obs.specs.SatelliteIndex.{is_taken, letter_of}
use Rattle.rtk_obs.specs.SignalCells.{agrees_with, unless_other, field_of_row}
use Rattle.rtk_collect.specs.Arrival.{Arrival, At, message_of}
use Rattle.rtk_convert.specs.declared.frame_class.FrameClass.TheVariants.{Dated}
use Rattle.rtk_convert.specs.declared.remarks.Remarks.{Remarks}
use Rattle.rtk_convert.specs.FrameClass.{IsClassOfReading, IsDatedMessage}
use Rattle.rtk_setup.specs.Setup.{SetupView, AreSameChannels, channels_of}
use Rattle.rtk_convert.specs.Slots.{has_slot, SatelliteTest, is_without_channel, is_of_other_channel, holds_in_msm, holds_in_1012, any_satellite, any_satellite_1012, has_such_satellite}
use Rattle.rtk_convert.specs.Steps.Remarks.{PutsSlots, PutsSatellites, PutsSatellites1012}
use Rattle.rtk_convert.proofs.ClassLemmas.{dated-reading}

-- ---- sets of slots

-- a set without marks
pub none-marked : (n i : ℕ) → slice_index_or (replicate n false) i false ≡ false
none-marked zero i = refl
none-marked (suc n) zero = refl
none-marked (suc n) (suc i) = none-marked n i

-- what is told of one slot, told of each slot
pub same-slot : (test : ℕ → Bool) (slot k : ℕ) → ((slot == k) && test slot) ≡ ((slot == k) && test k)
same-slot test slot k = elim (cases_Bool (slot == k)) [
  | inl same ↦ ap (λ (n : ℕ). (slot == k) && test n) (eqb-true slot k same)
  | inr other ↦ rw other refl
]

-- a slot that does not belong to a set is not put into it
pub put-none : (same belongs has : Bool) → belongs ≡ false → has ≡ ((same && belongs) || has)
put-none same true has h = absurd cc
put-none true false has h = refl
put-none false false has h = refl

-- and one that belongs to it is
pub put-some : (slot k : ℕ) (belongs old new : Bool) → belongs ≡ true → (slot ≡ k → new ≡ true) → (slot ≢ k → new ≡ old) → new ≡ (((slot == k) && belongs) || old)
put-some slot k belongs old new is at other = elim (cases_Bool (slot == k)) [
  | inl same ↦ rw (same, is) (at (eqb-true slot k same))
  | inr unlike ↦ rw unlike (other (λ e. both_ways (slot == k) unlike (eq-eqb slot k e)))
]

-- ---- the channel of a satellite

le-true : (a b : ℕ) → a ≤ b → nat_le a b ≡ true
le-true a b h = grind (arith, nat_tests)

le-of : (a b : ℕ) → nat_le a b ≡ true → a ≤ b
le-of a b h = grind (arith, nat_tests)

lt-false : (a b : ℕ) → b < a → nat_le a b ≡ false
lt-false a b h = grind (arith, nat_tests)

other-if : (b : Bool) (k : ℤ) → not b ≡ not (is_some (if b then Some k else None))
other-if true k = refl
other-if false k = refl

pub other-some : (channels : List (Option ℤ)) (slot field : ℕ) (k : ℤ) → IsSlot slot → channel_at channels slot ≡ Some k
    → not (agrees_with k field) ≡ holds_in_msm is_of_other_channel channels slot field
other-some channels slot field k is some =
    let within : nat_le slot 27 ≡ true = le-true slot 27 is.1 in
    rw (some, within) (other-if (agrees_with k field) k)

pub other-none : (channels : List (Option ℤ)) (slot field : ℕ) → channel_at channels slot ≡ None → false ≡ holds_in_msm is_of_other_channel channels slot field
other-none channels slot field none = rw none refl

-- and of one in a 1012
pub other-some-1012 : (channels : List (Option ℤ)) (s : GlonassSatellite) (k : ℤ) → channel_at channels s.slot ≡ Some k
    → not (agrees_in_1012 k s.channel) ≡ holds_in_1012 is_of_other_channel channels s
other-some-1012 channels s k some = rw some (other-if (agrees_in_1012 k s.channel) k)

pub other-none-1012 : (channels : List (Option ℤ)) (s : GlonassSatellite) → channel_at channels s.slot ≡ None → false ≡ holds_in_1012 is_of_other_channel channels s
other-none-1012 channels s none = rw none refl

-- ---- the slot of a satellite in a 1012

pub slot-of : (n : ℕ) → is_taken Glonass n ≡ true → IsSlot n
slot-of n h = let p = and_parts (nat_le 1 n) (nat_le n 27) h in (le-of 1 n p.0, le-of n 27 p.1)

taken-slot : (n : ℕ) → IsSlot n → is_taken Glonass n ≡ true
taken-slot n is = and_from (nat_le 1 n) (nat_le n 27) (le-true 1 n is.0) (le-true n 27 is.1)

-- a satellite with another number changes nothing
pub no-slot : (n k : ℕ) (belongs has : Bool) → is_taken Glonass n ≡ false → IsSlot k → has ≡ (((n == k) && belongs) || has)
no-slot n k belongs has none is = elim (cases_Bool (n == k)) [
  | inl same ↦ absurd (both_ways (is_taken Glonass n) none (ap (λ (j : ℕ). is_taken Glonass j) (eqb-true n k same) ∙ taken-slot k is))
  | inr other ↦ rw other refl
]

-- ---- the set bits of a mask of 64 bits

pow-grows : (j k : ℕ) → j ≤ k → 2 ^ j ≤ 2 ^ k
pow-grows j k h = elim (cases_lt j k) [
  | inl less ↦ omega (arith, pow_below j k less)
  | inr more ↦ let same : j ≡ k = omega (arith, h, more) in subst (λ (i : ℕ). 2 ^ j ≤ 2 ^ i) same (omega arith)
]

bits-low : (place w mask : ℕ) → mask < 2 ^ w → set_bits_from place (suc w) mask ≡ set_bits_from (suc place) w mask
unfolding set_bits_from
bits-low place w mask h = rw (lt-false (2 ^ w) mask h) refl

bits-top : (place w mask : ℕ) → 2 ^ w ≤ mask → set_bits_from place (suc w) mask ≡ place ∷ set_bits_from (suc place) w (mask - 2 ^ w)
unfolding set_bits_from
bits-top place w mask h = rw (le-true (2 ^ w) mask h) refl

-- the bits above a mask are not set
bits-above : (k place w mask : ℕ) → mask < 2 ^ w → set_bits_from place (k + w) mask ≡ set_bits_from (place + k) w mask
bits-above zero place w mask h =
    let e : 0 + w ≡ w = omega arith in
    let f : place + 0 ≡ place = omega arith in
    rw (e, f) refl
bits-above (suc k) place w mask h =
    let e : suc k + w ≡ suc (k + w) = omega arith in
    let f : suc place + k ≡ place + suc k = omega arith in
    rw e (bits-low place (k + w) mask (omega (arith, pow-grows w (k + w) (omega arith)))
    ∙ (bits-above k (suc place) w mask h ∙ ap (λ (p : ℕ). set_bits_from p w mask) f))

-- the first set bit has so many before it, and the others are those of the rest
bits-first : (before rest : ℕ) → before < 64 → 2 ^ (63 - before) ≤ rest → rest < 2 ^ (64 - before) → set_bits_from 1 64 rest ≡ (before + 1) ∷ set_bits_from 1 64 (rest - 2 ^ (63 - before))
bits-first before rest inside from below =
    let w = 63 - before in
    let e : before + suc w ≡ 64 = omega (arith, inside) in
    let f : suc before + w ≡ 64 = omega (arith, inside) in
    let p : 1 + before ≡ before + 1 = omega arith in
    let q : 1 + suc before ≡ suc (1 + before) = omega arith in
    let wide : 64 - before ≡ suc w = omega (arith, inside) in
    let under : rest < 2 ^ suc w = subst (λ (v : ℕ). rest < 2 ^ v) wide below in
    let left : set_bits_from 1 64 rest ≡ (1 + before) ∷ set_bits_from (suc (1 + before)) w (rest - 2 ^ w) =
    sym (ap (λ (v : ℕ). set_bits_from 1 v rest) e) ∙ bits-above before 1 (suc w) rest under ∙ bits-top (1 + before) w rest from in
    let right : set_bits_from 1 64 (rest - 2 ^ w) ≡ set_bits_from (suc (1 + before)) w (rest - 2 ^ w) =
    sym (ap (λ (v : ℕ). set_bits_from 1 v (rest - 2 ^ w)) f) ∙ bits-above (suc before) 1 w (rest - 2 ^ w) (omega (arith, under, pow-suc 2 w))
    ∙ ap (λ (v : ℕ). set_bits_from v w (rest - 2 ^ w)) q in
    left ∙ ap (λ (v : ℕ). v ∷ set_bits_from (suc (1 + before)) w (rest - 2 ^ w)) p ∙ ap (λ (bits : List ℕ). (before + 1) ∷ bits) (sym right)

-- it is that of a slot if the mask reaches the bit of the last one
pub slot-before : (before rest : ℕ) → 2 ^ 37 ≤ rest → rest < 2 ^ (64 - before) → before < 27
slot-before before rest last below = elim (cases_lt before 27) [
  | inl less ↦ less
  | inr more ↦ absurd (omega (arith, pow-grows (64 - before) 37 (omega (arith, more)), last, below))
]

-- the masks of the rows fall
pub bits-fall : (row before rest : ℕ) → row ≤ 64 → rest < 2 ^ (64 - row) → before < 64 → 2 ^ (63 - before) ≤ rest → rest < 2 ^ (64 - before)
    → (row + 1 ≤ 64) × (rest - 2 ^ (63 - before) < 2 ^ (64 - (row + 1)))
bits-fall row before rest few fits inside from below = elim (cases_lt before row) [
  | inl less ↦ absurd (omega (arith, pow-grows (64 - row) (63 - before) (omega (arith, less, few)), fits, from))
  | inr more ↦
      let wide : 64 - before ≡ suc (63 - before) = omega (arith, inside) in
      let under : rest < 2 ^ suc (63 - before) = subst (λ (v : ℕ). rest < 2 ^ v) wide below in
      let grows = pow-grows (63 - before) (64 - (row + 1)) (omega (arith, more, inside)) in
      (omega (arith, more, inside), omega (arith, grows, under, pow-suc 2 (63 - before)))
]

-- ---- the satellites of an MSM

or-swap : (p h r : Bool) → ((p || h) || r) ≡ (h || (p || r))
or-swap true true r = refl
or-swap true false r = refl
or-swap false true r = refl
or-swap false false r = refl

module _ (test : ℕ → Bool) (m : Msm) (slot : ℕ) where
  -- one more satellite is looked at
  step-set : (has new : Bool) (row place : ℕ) (bits : List ℕ) → new ≡ (((place == slot) && test (field_of_row m row)) || has)
      → (new || any_satellite test m slot (suc row) bits) ≡ (has || any_satellite test m slot row (place ∷ bits))
  step-set has new row place bits is = rw is (or-swap ((place == slot) && test (field_of_row m row)) has (any_satellite test m slot (suc row) bits))

  none-if : (b : Bool) (row place : ℕ) (more rest : List ℕ) → slot < place → any_satellite test m slot (suc row) more ≡ false → any_satellite test m slot row rest ≡ false
      → any_satellite test m slot row (if b then place ∷ more else rest) ≡ false
  none-if true row place more rest lt first second =
      or_from ((place == slot) && test (field_of_row m row)) (any_satellite test m slot (suc row) more)
      (and_left (place == slot) (test (field_of_row m row)) (ne_eqb place slot (λ e. omega (arith, e, lt)))) first
  none-if false row place more rest lt first second = second

  -- the later bits are of later slots
  none-left : (row place w rest : ℕ) → slot < place → any_satellite test m slot row (set_bits_from place w rest) ≡ false
  unfolding set_bits_from
  none-left row place zero rest lt = refl
  none-left row place (suc w) rest lt =
      none-if (nat_le (2 ^ w) rest) row place (set_bits_from (suc place) w (rest - 2 ^ w)) (set_bits_from (suc place) w rest) lt
      (none-left (suc row) (suc place) w (rest - 2 ^ w) (omega arith)) (none-left row (suc place) w rest (omega arith))

  none-after : (row rest : ℕ) → rest < 2 ^ 37 → slot ≤ 27 → any_satellite test m slot row (set_bits_from 1 64 rest) ≡ false
  none-after row rest few is =
      subst (λ (bits : List ℕ). any_satellite test m slot row bits ≡ false) (sym (bits-above 27 1 37 rest few)) (none-left row 28 37 rest (omega (arith, is)))

  or-false : (b c : Bool) → c ≡ false → (b || c) ≡ b
  or-false true c h = refl
  or-false false c h = h

  or-turned : (a b c : Bool) → a ≡ (b || c) → a ≡ (c || b)
  or-turned a true true h = h
  or-turned a true false h = h
  or-turned a false true h = h
  or-turned a false false h = h

-- a set has the slots of the satellites so far, and those of the satellites that are left are due
abbrev pub HasSoFar : SatelliteTest → List (Option ℤ) → Msm → List Bool → List Bool → ℕ → ℕ → Type 0
HasSoFar test channels m old now row rest =
    (slot : ℕ) → IsSlot slot
    → (has_slot now slot || any_satellite (holds_in_msm test channels slot) m slot row (set_bits_from 1 64 rest))
    ≡ (has_slot old slot || any_satellite (holds_in_msm test channels slot) m slot 0 (satellites_of m.header))

pub so-far-none : (test : SatelliteTest) (channels : List (Option ℤ)) (m : Msm) (old : List Bool) → HasSoFar test channels m old old 0 m.header.satellite_mask
so-far-none test channels m old = λ slot is. refl

module _ (test : SatelliteTest) (channels : List (Option ℤ)) (m : Msm) (old now : List Bool) (row rest : ℕ) where
  -- one more satellite
  pub so-far-next : (new : List Bool) (before field : ℕ) → field ≡ field_of_row m row → before < 64 → 2 ^ (63 - before) ≤ rest → rest < 2 ^ (64 - before)
      → ((slot : ℕ) → IsSlot slot → has_slot new slot ≡ ((((before + 1) == slot) && holds_in_msm test channels slot field) || has_slot now slot))
      → HasSoFar test channels m old now row rest → HasSoFar test channels m old new (row + 1) (rest - 2 ^ (63 - before))
  so-far-next new before field told inside from below puts h = λ slot is.
      let rows : row + 1 ≡ suc row = omega arith in
      let left = rest - 2 ^ (63 - before) in
      let put = puts slot is ∙ ap (λ (f : ℕ). (((before + 1) == slot) && holds_in_msm test channels slot f) || has_slot now slot) told in
      ap (λ (r : ℕ). has_slot new slot || any_satellite (holds_in_msm test channels slot) m slot r (set_bits_from 1 64 left)) rows
      ∙ step-set (holds_in_msm test channels slot) m slot (has_slot now slot) (has_slot new slot) row (before + 1) (set_bits_from 1 64 left) put
      ∙ ap (λ (bits : List ℕ). has_slot now slot || any_satellite (holds_in_msm test channels slot) m slot row bits) (sym (bits-first before rest inside from below))
      ∙ h slot is

  -- all slots
  pub so-far-all : rest < 2 ^ 37 → HasSoFar test channels m old now row rest
      → (slot : ℕ) → IsSlot slot → has_slot now slot ≡ (any_satellite (holds_in_msm test channels slot) m slot 0 (satellites_of m.header) || has_slot old slot)
  so-far-all few h = λ slot is.
      let none = none-after (holds_in_msm test channels slot) m slot row rest few is.1 in
      or-turned (holds_in_msm test channels slot) m slot (has_slot now slot) (has_slot old slot) (any_satellite (holds_in_msm test channels slot) m slot 0 (satellites_of m.header))
      (sym (or-false (holds_in_msm test channels slot) m slot (has_slot now slot) (any_satellite (holds_in_msm test channels slot) m slot row (set_bits_from 1 64 rest)) none) ∙ h slot is)

-- ---- the satellites of a 1012

or-around : (a b c : Bool) → (a || (b || c)) ≡ ((b || a) || c)
or-around true true c = refl
or-around true false c = refl
or-around false true c = refl
or-around false false c = refl

-- one more satellite
pub one-more : (test : GlonassSatellite → Bool) (ss : List GlonassSatellite) (i : ℕ) (d : GlonassSatellite) (has now new : Bool) → i < length ss
    → now ≡ (list_any test (take i ss) || has) → new ≡ (test (get_or ss i d) || now) → new ≡ (list_any test (take (i + 1) ss) || has)
one-more test ss i d has now new lt before puts =
    puts ∙ ap (λ (b : Bool). test (get_or ss i d) || b) before ∙ or-around (test (get_or ss i d)) (list_any test (take i ss)) has
    ∙ ap (λ (b : Bool). b || has) (sym (list_any_more test ss i d lt))

-- ---- messages

-- a letter of another system
other-letter : (s : System) → s ≢ Glonass → (letter_of s == letter_of Glonass) ≡ false
other-letter Gps ne = refl
other-letter Glonass ne = absurd (ne refl)
other-letter Galileo ne = refl
other-letter Beidou ne = refl
other-letter Qzss ne = refl
other-letter Sbas ne = refl
other-letter Navic ne = refl

module _ (channels : List (Option ℤ)) where
  -- a message that is no MSM, or a 1074
  pub message-none : (m : GpsMessage) (old : Remarks) → PutsSlots channels (any.Message m) old old
  message-none m old = record { systems = refl; other_channels = λ slot is. refl; no_channels = λ slot is. refl }

  -- a 1012
  pub put-1012 : (m : Obs1012) (old new : Remarks) → PutsSatellites1012 channels m.satellites old new → PutsSlots channels (any.Obs1012 m) old new
  put-1012 m old new puts = record { systems = puts.systems; other_channels = puts.other_channels; no_channels = puts.no_channels }

  -- an MSM of GLONASS
  pub msm-put : (m : Msm) (old new : Remarks) → m.system ≡ Glonass → PutsSatellites channels m old new → PutsSlots channels (any.Msm m) old new
  msm-put m old new of puts =
      let such = λ (test : SatelliteTest) (slot : ℕ) (marks : List Bool).
      ap (λ (s : System). ((letter_of s == letter_of Glonass) && any_satellite (holds_in_msm test channels slot) m slot 0 (satellites_of m.header)) || has_slot marks slot) (sym of) in
      record {
        systems = puts.systems;
        other_channels = λ slot is. puts.other_channels slot is ∙ such is_of_other_channel slot old.other_channels;
        no_channels = λ slot is. puts.no_channels slot is ∙ such is_without_channel slot old.no_channels;
      }

  -- one of another system
  pub msm-left : (m : Msm) (old : Remarks) → m.system ≢ Glonass → PutsSlots channels (any.Msm m) old old
  msm-left m old ne =
      let such = λ (test : SatelliteTest) (slot : ℕ) (marks : List Bool).
      ap (λ (b : Bool). (b && any_satellite (holds_in_msm test channels slot) m slot 0 (satellites_of m.header)) || has_slot marks slot) (sym (other-letter m.system ne)) in
      record {
        systems = refl;
        other_channels = λ slot is. such is_of_other_channel slot old.other_channels;
        no_channels = λ slot is. such is_without_channel slot old.no_channels;
      }

-- ---- by the channels of the setup

msm-same : (test : SatelliteTest) (channels others : List (Option ℤ)) (slot field : ℕ) → AreSameChannels channels others → holds_in_msm test channels slot field ≡ holds_in_msm test others slot field
msm-same test channels others slot field h = ap (λ (o : Option ℤ). test o (if nat_le slot 27 then unless_other field o else None)) (h slot)

same-1012 : (test : SatelliteTest) (channels others : List (Option ℤ)) (s : GlonassSatellite) → AreSameChannels channels others → holds_in_1012 test channels s ≡ holds_in_1012 test others s
same-1012 test channels others s h = ap (λ (o : Option ℤ). test o (unless_other_in_1012 s.channel o)) (h s.slot)

has-same : (test : SatelliteTest) (channels others : List (Option ℤ)) (slot : ℕ) (m : Message) → AreSameChannels channels others
    → has_such_satellite test channels slot m ≡ has_such_satellite test others slot m
has-same test channels others slot (any.Message m) h = refl
has-same test channels others slot (any.Obs1012 m) h =
    ap (λ (f : GlonassSatellite → Bool). any_satellite_1012 f slot m.satellites) (fun_ext (λ (s : GlonassSatellite). same-1012 test channels others s h))
has-same test channels others slot (any.Msm m) h =
    ap (λ (f : ℕ → Bool). (letter_of m.system == letter_of Glonass) && any_satellite f m slot 0 (satellites_of m.header)) (fun_ext (λ (field : ℕ). msm-same test channels others slot field h))

puts-same : (channels others : List (Option ℤ)) (m : Message) (old new : Remarks) → AreSameChannels channels others → PutsSlots channels m old new → PutsSlots others m old new
puts-same channels others m old new h puts = record {
  systems = puts.systems;
  other_channels = λ slot is. puts.other_channels slot is
      ∙ ap (λ (b : Bool). b || has_slot old.other_channels slot) (has-same is_of_other_channel channels others slot m h);
  no_channels = λ slot is. puts.no_channels slot is
      ∙ ap (λ (b : Bool). b || has_slot old.no_channels slot) (has-same is_without_channel channels others slot m h);
}

message-is : (s : SetupView) (m : Message) (a : Arrival) → IsDatedMessage s m a → m ≡ message_of a
message-is s m (At e n) is = sym is.0

-- the satellites of what was read are those of the message that is dated
pub slots-put : (s : SetupView) (r : Result Message AnyFault) (a : Arrival) (channels : List (Option ℤ)) {old new : Remarks} → IsClassOfReading s r (Dated a)
    → AreSameChannels channels (channels_of s.head.glonass) → IfOk r (λ m. PutsSlots channels m old new) → PutsSlots (channels_of s.head.glonass) (message_of a) old new
slots-put s r a channels {old} {new} is same puts =
    let p = dated-reading s r a is in
    let read : PutsSlots channels p.0 old new = subst (λ (x : Result Message AnyFault). IfOk x (λ m. PutsSlots channels m old new)) p.1 puts in
    puts-same channels (channels_of s.head.glonass) (message_of a) old new same
    (subst (λ (m : Message). PutsSlots channels m old new) (message-is s p.0 a p.2.dated) read)
