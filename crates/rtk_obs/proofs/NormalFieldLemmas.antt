-- The normal form of the field of a satellite of GLONASS (DF040).
use Rattle.std.proofs.Common.{◌≡◌, ◌∙◌, ◌↔◌, ℕ, ℤ, pos, ◌+ℤ◌, ◌-◌, ◌≤◌, ◌||◌, unsigned_abs, Bool, true, false, not, cond, List, [], ◌∷◌, ◌++◌, map, filter, Option, Some, None, refl, ap, arith}
use Rattle.std.specs.Prelude.{IfSome}
use Rattle.std.specs.List.{flat_map}
use Rattle.std.specs.Ordering.{int_eq}
use Rattle.std.proofs.lemmas.Int.{ints}
use Rattle.std.proofs.lemmas.Bool.Decides.{Decides-int_eq}
use Rattle.rtk_message.specs.declared.obs1012.GlonassSatellite.{GlonassSatellite}
use Rattle.rtk_message.specs.declared.system.System.TheVariants.{Glonass}
use Rattle.rtk_obs.specs.declared.any_code.AnyCode.{AnyCode}
use Rattle.rtk_obs.specs.declared.signal_cells.SignalEntry.{SignalEntry}
use Rattle.rtk_obs.specs.Carriers.{IsChannel, AreChannels, channel_at}
use Rattle.rtk_obs.specs.GlonassCells.{tells_no_channel, agrees_in_1012, unless_other_in_1012, glonass_channel, normal_field, with_field, normal_satellite, glonass_l1_code, glonass_l1_entry, glonass_l2_code, glonass_l2_entries, glonass_entries, slot_entries, is_of_slot, first_of_slots, entries_of_1012}
use Rattle.rtk_obs.specs.SatelliteIndex.{index_in}

-- ---- a field

or-right : (a b : Bool) → b ≡ true → (a || b) ≡ true
or-right true b h = refl
or-right false b h = h

never : (b : Bool) → (b ≡ true → ⊥) → b ≡ false
never true h = absurd (h refl)
never false h = refl

agrees-itself : (k : ℤ) → IsChannel k → agrees_in_1012 k (unsigned_abs (k +ℤ pos 7)) ≡ true
agrees-itself k h =
    let same : pos (unsigned_abs (k +ℤ pos 7)) ≡ k +ℤ pos 7 = omega (arith, ints, h.0) in
    or-right (tells_no_channel (unsigned_abs (k +ℤ pos 7))) (int_eq (pos (unsigned_abs (k +ℤ pos 7))) (k +ℤ pos 7))
    ((Decides-int_eq (pos (unsigned_abs (k +ℤ pos 7))) (k +ℤ pos 7)).1 same)

agrees-never : (k : ℤ) → IsChannel k → agrees_in_1012 k 30 ≡ false
agrees-never k h =
    never (int_eq (pos 30) (k +ℤ pos 7)) (λ t. let same : pos 30 ≡ k +ℤ pos 7 = (Decides-int_eq (pos 30) (k +ℤ pos 7)).0 t in absurd (omega (arith, ints, h.1, same)))

twice-if : (k : ℤ) (b : Bool) → IsChannel k
    → cond (agrees_in_1012 k (cond b (unsigned_abs (k +ℤ pos 7)) 30)) (unsigned_abs (k +ℤ pos 7)) 30 ≡ cond b (unsigned_abs (k +ℤ pos 7)) 30
twice-if k true h = rw (agrees-itself k h) refl
twice-if k false h = rw (agrees-never k h) refl

field-twice : (o : Option ℤ) (f : ℕ) → IfSome o IsChannel → normal_field o (normal_field o f) ≡ normal_field o f
field-twice None f h = refl
field-twice (Some k) f h = twice-if k (agrees_in_1012 k f) h

same-if : (k : ℤ) (b : Bool) → IsChannel k → cond (agrees_in_1012 k (cond b (unsigned_abs (k +ℤ pos 7)) 30)) (Some k) None ≡ cond b (Some k) None
same-if k true h = rw (agrees-itself k h) refl
same-if k false h = rw (agrees-never k h) refl

channel-same : (o : Option ℤ) (f : ℕ) → IfSome o IsChannel → unless_other_in_1012 (normal_field o f) o ≡ unless_other_in_1012 f o
channel-same None f h = refl
channel-same (Some k) f h = same-if k (agrees_in_1012 k f) h

mark-if : (k : ℤ) (b : Bool) → IsChannel k → (cond b (Some k) None ≡ None) ↔ (30 ≤ cond b (unsigned_abs (k +ℤ pos 7)) 30)
mark-if k true h = (λ e. absurd cc, λ m. absurd (omega (arith, ints, h.1, m)))
mark-if k false h = (λ e. omega arith, λ m. refl)

marked : (o : Option ℤ) (f : ℕ) → IfSome o IsChannel → (unless_other_in_1012 f o ≡ None) ↔ (30 ≤ normal_field o f)
marked None f h = (λ e. omega arith, λ m. refl)
marked (Some k) f h = mark-if k (agrees_in_1012 k f) h

-- ---- a satellite

l2-same : (s : GlonassSatellite) (f : ℕ) (channel : Option ℤ) (i : ℕ) (o : Option AnyCode) → glonass_l2_entries (with_field f s) channel i o ≡ glonass_l2_entries s channel i o
l2-same s f channel i None = refl
l2-same s f channel i (Some code) = refl

cells-same : (s : GlonassSatellite) (f : ℕ) (channel : Option ℤ) (o : Option ℕ) → glonass_entries (with_field f s) channel o ≡ glonass_entries s channel o
cells-same s f channel None = refl
cells-same s f channel (Some i) = ap (λ (es : List SignalEntry). glonass_l1_entry s channel i (glonass_l1_code s.l1_code) ∷ es) (l2-same s f channel i (glonass_l2_code s.l2_code))

module _ (channels : List (Option ℤ)) where
  pub normal-twice : AreChannels channels → (s : GlonassSatellite) → normal_satellite channels (normal_satellite channels s) ≡ normal_satellite channels s
  normal-twice are s = ap (λ (f : ℕ). with_field f s) (field-twice (channel_at channels s.slot) s.channel (are.each (s.slot - 1)))

  pub normal-marks : AreChannels channels → (s : GlonassSatellite) → (glonass_channel channels s ≡ None) ↔ (30 ≤ (normal_satellite channels s).channel)
  normal-marks are s = marked (channel_at channels s.slot) s.channel (are.each (s.slot - 1))

  slot-same : AreChannels channels → (s : GlonassSatellite) → slot_entries channels (normal_satellite channels s) ≡ slot_entries channels s
  slot-same are s =
      let o = channel_at channels s.slot in
      cells-same s (normal_field o s.channel) (unless_other_in_1012 (normal_field o s.channel) o) (index_in Glonass s.slot)
      ∙ ap (λ (c : Option ℤ). glonass_entries s c (index_in Glonass s.slot)) (channel-same o s.channel (are.each (s.slot - 1)))

  kept-if : (b : Bool) (x : GlonassSatellite) (xs ys : List GlonassSatellite) → xs ≡ map (normal_satellite channels) ys
      → cond b (normal_satellite channels x ∷ xs) xs ≡ map (normal_satellite channels) (cond b (x ∷ ys) ys)
  kept-if true x xs ys e = ap (λ (zs : List GlonassSatellite). normal_satellite channels x ∷ zs) e
  kept-if false x xs ys e = e

  others-normal : (n : ℕ) (ss : List GlonassSatellite)
      → filter (λ t. not (is_of_slot n t)) (map (normal_satellite channels) ss) ≡ map (normal_satellite channels) (filter (λ t. not (is_of_slot n t)) ss)
  others-normal n [] = refl
  others-normal n (s ∷ ss) =
      kept-if (not (is_of_slot n s)) s (filter (λ t. not (is_of_slot n t)) (map (normal_satellite channels) ss)) (filter (λ t. not (is_of_slot n t)) ss) (others-normal n ss)

  first-normal : (ss : List GlonassSatellite) → first_of_slots (map (normal_satellite channels) ss) ≡ map (normal_satellite channels) (first_of_slots ss)
  unfolding first_of_slots
  first-normal [] = refl
  first-normal (s ∷ ss) =
      ap (λ (ts : List GlonassSatellite). normal_satellite channels s ∷ filter (λ t. not (is_of_slot s.slot t)) ts) (first-normal ss)
      ∙ ap (λ (ts : List GlonassSatellite). normal_satellite channels s ∷ ts) (others-normal s.slot (first_of_slots ss))

  all-same : AreChannels channels → (ss : List GlonassSatellite) → flat_map (slot_entries channels) (map (normal_satellite channels) ss) ≡ flat_map (slot_entries channels) ss
  all-same are [] = refl
  all-same are (s ∷ ss) =
      ap (λ (es : List SignalEntry). es ++ flat_map (slot_entries channels) (map (normal_satellite channels) ss)) (slot-same are s)
      ∙ ap (λ (es : List SignalEntry). slot_entries channels s ++ es) (all-same are ss)

  pub normal-cells : AreChannels channels → (ss : List GlonassSatellite) → entries_of_1012 channels (map (normal_satellite channels) ss) ≡ entries_of_1012 channels ss
  normal-cells are ss = ap (flat_map (slot_entries channels)) (first-normal ss) ∙ all-same are (first_of_slots ss)
