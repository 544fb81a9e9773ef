-- A cell of a satellite of GLONASS has no phase unless the head tells the channel of its slot.
use Rattle.std.proofs.Common.{◌≡◌, ◌≢◌, ◌∙◌, ◌+◌, ◌-◌, ◌≤◌, ℕ, suc, Bool, true, false, List, [], ◌∷◌, Option, None, Some, ℤ, cond, inl, inr, refl, ap, subst, arith, pos}
use Rattle.std.specs.Prelude.{All, IfSome, nat_le, is_some, ◌==◌}
use Rattle.std.specs.List.{flat_map}
use Rattle.std.proofs.lemmas.Bool.{cases_Bool, and_parts}
use Rattle.std.proofs.lemmas.Bool.Decides.{nat_tests}
use Rattle.std.proofs.lemmas.List.Elements.{All-nil, All-cons, All-append, All-map, All-weaker}
use Rattle.rtk_message.specs.declared.any_message.AnyMessage.{AnyMessage as Message}
use Rattle.rtk_message.specs.declared.any_message.AnyMessage.TheVariants as any
use Rattle.rtk_message.specs.declared.message.Message.TheVariants.{Obs1004, Arp1005, Arp1006, Msm1074}
use Rattle.rtk_message.specs.declared.msm.Msm.{Msm}
use Rattle.rtk_message.specs.declared.obs1004.Satellite.{Satellite}
use Rattle.rtk_message.specs.declared.obs1012.GlonassSatellite.{GlonassSatellite}
use Rattle.rtk_message.specs.declared.system.System.{System}
use Rattle.rtk_message.specs.declared.system.System.TheVariants.{Gps, Glonass, Galileo, Beidou, Qzss, Sbas, Navic}
use Rattle.rtk_obs.specs.declared.any_code.AnyCode.{AnyCode}
use Rattle.rtk_obs.specs.declared.any_code.AnyCode.TheVariants.{R1C, R1P, R2C, R2P}
use Rattle.rtk_obs.specs.declared.cell.CellEntry.{CellEntry}
use Rattle.rtk_obs.specs.declared.signal_cells.SignalEntry.{SignalEntry}
use Rattle.rtk_obs.specs.AnyCode.{carrier_of}
use Rattle.rtk_obs.specs.Carriers.{channel_at, frequency_at}
use Rattle.rtk_obs.specs.Cell.{IsSatellite}
use Rattle.rtk_obs.specs.Doppler.{doppler_on, rate_at, doppler_entry_if, doppler_entry, entries_with_doppler}
use Rattle.rtk_obs.specs.GlonassCells.{first_of_slots, glonass_channel, glonass_l1_cell, glonass_l1_code, glonass_l1_entry, glonass_l2_cell, glonass_l2_code, glonass_l2_entries, glonass_l2_entry, slot_entries, unless_other_in_1012}
use Rattle.rtk_obs.specs.Mask.{join_from}
use Rattle.rtk_obs.specs.MessageCells.{cells_of}
use Rattle.rtk_obs.specs.MsmCells.{Slot, cell_on, slots_of}
use Rattle.rtk_obs.specs.SatelliteIndex.{bit_at, index_in, is_taken, satellites_before, satellites_of_system, system_at}
use Rattle.rtk_obs.specs.SbasCells.{entries_with_sbas}
use Rattle.rtk_obs.specs.Signals.{code_in}
use Rattle.rtk_obs.specs.SignalCells.{bit_of_row, channel_in, entries_of, entry_if, field_of_row, signal_entry, signal_of}
use Rattle.rtk_obs.proofs.PublicLaws.{cells_of-satellites}
use Rattle.rtk_collect.specs.Signals.{plain_entries_by, entries_by}
use Rattle.rtk_rinex.specs.MixedForm.{form_of_head, has_channel, has_phases, phases_in}
use Rattle.rtk_rinex.specs.MixedHead.{GlonassView, MixedHeadView}
use Rattle.rtk_setup.specs.Setup.{channels_of}
use Rattle.rtk_convert.proofs.SignalsOf1004Lemmas.{each-signal, sbas_entry}
use Rattle.rtk_convert.proofs.SystemLemmas.{at-gps, in-system}

le-of : (a b : ℕ) → nat_le a b ≡ true → a ≤ b
le-of a b h = grind (arith, nat_tests)

-- the satellite of a mask bit is of the system
system-of : (s : System) (bit : ℕ) → is_taken s bit ≡ true → system_at (satellites_before s + bit) ≡ s
system-of s bit h =
    let p = and_parts (nat_le 1 bit) (nat_le bit (satellites_of_system s)) h in
    in-system s bit (le-of 1 bit p.0) (le-of bit (satellites_of_system s) p.1)

-- a satellite of another system than GLONASS may show phases
phases-always : (h : MixedHeadView) (s : System) (bit : ℕ) → s ≢ Glonass → phases_in (form_of_head h) s bit ≡ true
phases-always h Gps bit ne = refl
phases-always h Glonass bit ne = absurd (ne refl)
phases-always h Galileo bit ne = refl
phases-always h Beidou bit ne = refl
phases-always h Qzss bit ne = refl
phases-always h Sbas bit ne = refl
phases-always h Navic bit ne = refl

never-both : (b : Bool) → b ≡ true → b ≡ false → ⊥
never-both true t f = cc
never-both false t f = cc

-- without a told channel the setup has none for a slot
none-if : (o : Option ℤ) → is_some o ≡ false → o ≡ None
none-if None h = refl
none-if (Some k) h = absurd cc

none-told : (g : Option GlonassView) (slot : ℕ) → has_channel g slot ≡ false → channel_at (channels_of g) slot ≡ None
none-told None slot h = refl
none-told (Some g) slot h = none-if (channel_at g.channels slot) h

pub channel-none : (channels : List (Option ℤ)) (bit field : ℕ) → channel_at channels bit ≡ None → channel_in Glonass channels bit field ≡ None
channel-none channels bit field h = elim (cases_Bool (nat_le bit 27)) [
  | inl a ↦ rw (a, h) refl
  | inr b ↦ rw b refl
]

-- a code of GLONASS has no frequency without a channel
no-frequency : (c code : AnyCode) → Some c ≡ Some code → frequency_at (carrier_of c) None ≡ None → frequency_at (carrier_of code) None ≡ None
no-frequency c code is h = let same : c ≡ code = cc in subst (λ (x : AnyCode). frequency_at (carrier_of x) None ≡ None) same h

not-some : (code : AnyCode) → None ≡ Some code → ⊥
not-some code h = cc

glonass-frequency : (n : ℕ) (code : AnyCode) → code_in Glonass n ≡ Some code → frequency_at (carrier_of code) None ≡ None
glonass-frequency n code is = elim (cases_Bool (n == 2)) [
  | inl a ↦ no-frequency R1C code (rw a at is) refl
  | inr b ↦ elim (cases_Bool (n == 3)) [
    | inl a ↦ no-frequency R1P code (rw (b, a) at is) refl
    | inr d ↦ elim (cases_Bool (n == 8)) [
      | inl a ↦ no-frequency R2C code (rw (b, d, a) at is) refl
      | inr e ↦ elim (cases_Bool (n == 9)) [
        | inl a ↦ no-frequency R2P code (rw (b, d, e, a) at is) refl
        | inr f ↦ absurd (not-some code (rw (b, d, e, f) at is))
      ]
    ]
  ]
]

l1-frequency : (b : Bool) → frequency_at (carrier_of (glonass_l1_code b)) None ≡ None
l1-frequency true = refl
l1-frequency false = refl

l2-frequency-if : (a b : Bool) → IfSome (cond a (Some R2C) (cond b (Some R2P) None)) (λ code. frequency_at (carrier_of code) None ≡ None)
l2-frequency-if true b = refl
l2-frequency-if false true = refl
l2-frequency-if false false = tt

l2-frequency : (n : ℕ) → IfSome (glonass_l2_code n) (λ code. frequency_at (carrier_of code) None ≡ None)
l2-frequency n = l2-frequency-if (n == 0) (n == 1)

-- ---- the entries of a message

module _ (h : MixedHeadView) where
  abbrev HasPhase : SignalEntry → Type 0
  HasPhase e = has_phases (form_of_head h) e.satellite ≡ false → (e.cell.phase_millicycles ≡ None) × (e.doppler_millihertz ≡ pos 0)

  of-another : (e : SignalEntry) (s : System) → system_at e.satellite ≡ s → s ≢ Glonass → HasPhase e
  of-another e s is ne none =
      absurd (never-both (phases_in (form_of_head h) s (bit_at e.satellite)) (phases-always h s (bit_at e.satellite) ne)
      (subst (λ (t : System). phases_in (form_of_head h) t (bit_at e.satellite) ≡ false) is none))

  -- a slot without a channel
  untold-slot : (bit : ℕ) → is_taken Glonass bit ≡ true → has_phases (form_of_head h) (32 + bit) ≡ false → channel_at (channels_of h.glonass) bit ≡ None
  untold-slot bit taken none =
      let system : system_at (32 + bit) ≡ Glonass = system-of Glonass bit taken in
      let untold : has_channel h.glonass (32 + bit - 32) ≡ false = subst (λ (t : System). phases_in (form_of_head h) t (32 + bit - satellites_before t) ≡ false) system none in
      let slot : 32 + bit - 32 ≡ bit = omega arith in
      none-told h.glonass bit (subst (λ (n : ℕ). has_channel h.glonass n ≡ false) slot untold)

  of-glonass : (m : Msm) (k row bit field signal : ℕ) (code : AnyCode) → code_in Glonass signal ≡ Some code → is_taken Glonass bit ≡ true
      → HasPhase (record { satellite = 32 + bit; code = code; doppler_millihertz = pos 0; cell = cell_on m k row (frequency_at (carrier_of code) (channel_in Glonass (channels_of h.glonass) bit field)) })
  of-glonass m k row bit field signal code is taken none =
      let channel = channel-none (channels_of h.glonass) bit field (untold-slot bit taken none) in (
        ap (λ (o : Option ℤ). (cell_on m k row (frequency_at (carrier_of code) o)).phase_millicycles) channel
            ∙ ap (λ (f : Option ℕ). (cell_on m k row f).phase_millicycles) (glonass-frequency signal code is),
        refl,
      )

  abbrev entry_of : System → Msm → ℕ → ℕ → ℕ → ℕ → AnyCode → SignalEntry
  entry_of s m k row bit field code =
      record { satellite = satellites_before s + bit; code = code; doppler_millihertz = pos 0; cell = cell_on m k row (frequency_at (carrier_of code) (channel_in s (channels_of h.glonass) bit field)) }

  abbrev shift_entry_of : System → Msm → ℕ → ℕ → ℕ → ℕ → AnyCode → SignalEntry
  shift_entry_of s m k row bit field code =
      let frequency = frequency_at (carrier_of code) (channel_in s (channels_of h.glonass) bit field) in
      record { satellite = satellites_before s + bit; code = code; doppler_millihertz = doppler_on frequency (rate_at m k row); cell = cell_on m k row frequency }

  of-system : (s : System) (m : Msm) (k row bit field signal : ℕ) (code : AnyCode) → code_in s signal ≡ Some code → is_taken s bit ≡ true
      → HasPhase (entry_of s m k row bit field code)
  of-system Gps m k row bit field signal code is taken = of-another (entry_of Gps m k row bit field code) Gps (system-of Gps bit taken) (λ e. cc)
  of-system Glonass m k row bit field signal code is taken = of-glonass m k row bit field signal code is taken
  of-system Galileo m k row bit field signal code is taken = of-another (entry_of Galileo m k row bit field code) Galileo (system-of Galileo bit taken) (λ e. cc)
  of-system Beidou m k row bit field signal code is taken = of-another (entry_of Beidou m k row bit field code) Beidou (system-of Beidou bit taken) (λ e. cc)
  of-system Qzss m k row bit field signal code is taken = of-another (entry_of Qzss m k row bit field code) Qzss (system-of Qzss bit taken) (λ e. cc)
  of-system Sbas m k row bit field signal code is taken = of-another (entry_of Sbas m k row bit field code) Sbas (system-of Sbas bit taken) (λ e. cc)
  of-system Navic m k row bit field signal code is taken = of-another (entry_of Navic m k row bit field code) Navic (system-of Navic bit taken) (λ e. cc)

  of-code : (m : Msm) (k row satellite : ℕ) (channel : Option ℤ) (c : Option AnyCode)
      → ((code : AnyCode) → c ≡ Some code → HasPhase (record { satellite = satellite; code = code; doppler_millihertz = pos 0; cell = cell_on m k row (frequency_at (carrier_of code) channel) }))
      → All HasPhase (entry_if m k row channel (Some satellite) c)
  of-code m k row satellite channel None f = All-nil HasPhase
  of-code m k row satellite channel (Some code) f = All-cons HasPhase _ [] (f code refl) (All-nil HasPhase)

  of-entry : (s : System) (m : Msm) (k row bit field signal : ℕ)
      → All HasPhase (entry_if m k row (channel_in s (channels_of h.glonass) bit field) (index_in s bit) (code_in s signal))
  of-entry s m k row bit field signal = elim (cases_Bool (is_taken s bit)) [
    | inl taken ↦ rw taken (of-code m k row (satellites_before s + bit) (channel_in s (channels_of h.glonass) bit field) (code_in s signal) (λ code is. of-system s m k row bit field signal code is taken))
    | inr other ↦ rw other (All-nil HasPhase)
  ]

  of-slots : (m : Msm) (k : ℕ) (slots : List Slot) → All HasPhase (join_from (signal_entry (channels_of h.glonass) m) k slots)
  unfolding join_from
  of-slots m k [] = All-nil HasPhase
  of-slots m k (x ∷ slots) =
      All-append HasPhase (signal_entry (channels_of h.glonass) m k x) (join_from (signal_entry (channels_of h.glonass) m) (suc k) slots)
      (of-entry m.system m k x.row (bit_of_row m x.row) (field_of_row m x.row) x.signal) (of-slots m (suc k) slots)

  -- the entries of a 1012
  of-l1 : (s : GlonassSatellite) (code : AnyCode) → frequency_at (carrier_of code) None ≡ None → is_taken Glonass s.slot ≡ true
      → HasPhase (glonass_l1_entry s (glonass_channel (channels_of h.glonass) s) (32 + s.slot) code)
  of-l1 s code is taken none = (
    ap (λ (o : Option ℤ). (glonass_l1_cell s (frequency_at (carrier_of code) (unless_other_in_1012 s.channel o))).phase_millicycles) (untold-slot s.slot taken none)
        ∙ ap (λ (f : Option ℕ). (glonass_l1_cell s f).phase_millicycles) is,
    refl,
  )

  of-l2 : (s : GlonassSatellite) (code : AnyCode) → frequency_at (carrier_of code) None ≡ None → is_taken Glonass s.slot ≡ true
      → HasPhase (glonass_l2_entry s (glonass_channel (channels_of h.glonass) s) (32 + s.slot) code)
  of-l2 s code is taken none = (
    ap (λ (o : Option ℤ). (glonass_l2_cell s (frequency_at (carrier_of code) (unless_other_in_1012 s.channel o))).phase_millicycles) (untold-slot s.slot taken none)
        ∙ ap (λ (f : Option ℕ). (glonass_l2_cell s f).phase_millicycles) is,
    refl,
  )

  of-l2-if : (s : GlonassSatellite) (o : Option AnyCode) → IfSome o (λ code. frequency_at (carrier_of code) None ≡ None) → is_taken Glonass s.slot ≡ true
      → All HasPhase (glonass_l2_entries s (glonass_channel (channels_of h.glonass) s) (32 + s.slot) o)
  of-l2-if s None is taken = All-nil HasPhase
  of-l2-if s (Some code) is taken = All-cons HasPhase _ [] (of-l2 s code is taken) (All-nil HasPhase)

  of-slot : (s : GlonassSatellite) → All HasPhase (slot_entries (channels_of h.glonass) s)
  of-slot s = elim (cases_Bool (is_taken Glonass s.slot)) [
    | inl taken ↦ rw taken (All-cons HasPhase _ _ (of-l1 s (glonass_l1_code s.l1_code) (l1-frequency s.l1_code) taken) (of-l2-if s (glonass_l2_code s.l2_code) (l2-frequency s.l2_code) taken))
    | inr other ↦ rw other (All-nil HasPhase)
  ]

  of-satellites : (ss : List GlonassSatellite) → All HasPhase (flat_map (slot_entries (channels_of h.glonass)) ss)
  of-satellites [] = All-nil HasPhase
  of-satellites (s ∷ ss) = All-append HasPhase (slot_entries (channels_of h.glonass) s) (flat_map (slot_entries (channels_of h.glonass)) ss) (of-slot s) (of-satellites ss)

  of-gps : (e : CellEntry) → IsSatellite e.satellite → HasPhase (signal_of e)
  of-gps e is = of-another (signal_of e) Gps (at-gps e.satellite is.1) (λ q. cc)

  -- no cell of a message has a phase without the channel of its slot
  entries-phases : (m : Message) → All HasPhase (entries_of (channels_of h.glonass) m)
  entries-phases (any.Message m) =
      All-map HasPhase signal_of (cells_of (any.Message m))
      (All-weaker (λ (e : CellEntry). IsSatellite e.satellite) (λ (e : CellEntry). HasPhase (signal_of e)) of-gps (cells_of (any.Message m)) (cells_of-satellites (any.Message m)))
  entries-phases (any.Msm m) = of-slots m 0 (slots_of m.header m.cell_mask)
  entries-phases (any.Obs1012 m) = of-satellites (first_of_slots m.satellites)

  -- nor with those of SBAS in a 1004
  of-sbas : (s : Satellite) (bit : ℕ) → is_taken Sbas bit ≡ true → HasPhase (sbas_entry s bit)
  of-sbas s bit taken = of-another (sbas_entry s bit) Sbas (system-of Sbas bit taken) (λ q. cc)

  with-sbas : (m : Message) → All HasPhase (entries_with_sbas (channels_of h.glonass) m)
  with-sbas (any.Message (Obs1004 m)) = each-signal HasPhase of-gps of-sbas m.satellites
  with-sbas (any.Message (Arp1005 m)) = entries-phases (any.Message (Arp1005 m))
  with-sbas (any.Message (Arp1006 m)) = entries-phases (any.Message (Arp1006 m))
  with-sbas (any.Message (Msm1074 m)) = entries-phases (any.Message (Msm1074 m))
  with-sbas (any.Msm m) = entries-phases (any.Msm m)
  with-sbas (any.Obs1012 m) = entries-phases (any.Obs1012 m)

  plain-by : (sbas : Bool) (m : Message) → All HasPhase (plain_entries_by sbas (channels_of h.glonass) m)
  plain-by true m = with-sbas m
  plain-by false m = entries-phases m

  -- nor an entry with a Doppler shift
  shift-glonass : (m : Msm) (k row bit field signal : ℕ) (code : AnyCode) → code_in Glonass signal ≡ Some code → is_taken Glonass bit ≡ true
      → HasPhase (shift_entry_of Glonass m k row bit field code)
  shift-glonass m k row bit field signal code is taken none =
      let channel = channel-none (channels_of h.glonass) bit field (untold-slot bit taken none) in (
        ap (λ (o : Option ℤ). (cell_on m k row (frequency_at (carrier_of code) o)).phase_millicycles) channel
            ∙ ap (λ (f : Option ℕ). (cell_on m k row f).phase_millicycles) (glonass-frequency signal code is),
        ap (λ (o : Option ℤ). doppler_on (frequency_at (carrier_of code) o) (rate_at m k row)) channel
            ∙ ap (λ (f : Option ℕ). doppler_on f (rate_at m k row)) (glonass-frequency signal code is),
      )

  shift-system : (s : System) (m : Msm) (k row bit field signal : ℕ) (code : AnyCode) → code_in s signal ≡ Some code → is_taken s bit ≡ true
      → HasPhase (shift_entry_of s m k row bit field code)
  shift-system Gps m k row bit field signal code is taken = of-another (shift_entry_of Gps m k row bit field code) Gps (system-of Gps bit taken) (λ e. cc)
  shift-system Glonass m k row bit field signal code is taken = shift-glonass m k row bit field signal code is taken
  shift-system Galileo m k row bit field signal code is taken = of-another (shift_entry_of Galileo m k row bit field code) Galileo (system-of Galileo bit taken) (λ e. cc)
  shift-system Beidou m k row bit field signal code is taken = of-another (shift_entry_of Beidou m k row bit field code) Beidou (system-of Beidou bit taken) (λ e. cc)
  shift-system Qzss m k row bit field signal code is taken = of-another (shift_entry_of Qzss m k row bit field code) Qzss (system-of Qzss bit taken) (λ e. cc)
  shift-system Sbas m k row bit field signal code is taken = of-another (shift_entry_of Sbas m k row bit field code) Sbas (system-of Sbas bit taken) (λ e. cc)
  shift-system Navic m k row bit field signal code is taken = of-another (shift_entry_of Navic m k row bit field code) Navic (system-of Navic bit taken) (λ e. cc)

  shift-code : (m : Msm) (k row satellite : ℕ) (channel : Option ℤ) (c : Option AnyCode)
      → ((code : AnyCode) → c ≡ Some code → HasPhase (record {
        satellite = satellite;
        code = code;
        doppler_millihertz = doppler_on (frequency_at (carrier_of code) channel) (rate_at m k row);
        cell = cell_on m k row (frequency_at (carrier_of code) channel);
      }))
      → All HasPhase (doppler_entry_if m k row channel (Some satellite) c)
  shift-code m k row satellite channel None f = All-nil HasPhase
  shift-code m k row satellite channel (Some code) f = All-cons HasPhase _ [] (f code refl) (All-nil HasPhase)

  shift-entry : (s : System) (m : Msm) (k row bit field signal : ℕ)
      → All HasPhase (doppler_entry_if m k row (channel_in s (channels_of h.glonass) bit field) (index_in s bit) (code_in s signal))
  shift-entry s m k row bit field signal = elim (cases_Bool (is_taken s bit)) [
    | inl taken ↦ rw taken (shift-code m k row (satellites_before s + bit) (channel_in s (channels_of h.glonass) bit field) (code_in s signal) (λ code is. shift-system s m k row bit field signal code is taken))
    | inr other ↦ rw other (All-nil HasPhase)
  ]

  shift-slots : (m : Msm) (k : ℕ) (slots : List Slot) → All HasPhase (join_from (doppler_entry (channels_of h.glonass) m) k slots)
  unfolding join_from
  shift-slots m k [] = All-nil HasPhase
  shift-slots m k (x ∷ slots) =
      All-append HasPhase (doppler_entry (channels_of h.glonass) m k x) (join_from (doppler_entry (channels_of h.glonass) m) (suc k) slots)
      (shift-entry m.system m k x.row (bit_of_row m x.row) (field_of_row m x.row) x.signal) (shift-slots m (suc k) slots)

  with-shifts : (sbas : Bool) (m : Message) → All HasPhase (entries_with_doppler (plain_entries_by sbas (channels_of h.glonass)) (channels_of h.glonass) m)
  with-shifts sbas (any.Message m) = plain-by sbas (any.Message m)
  with-shifts sbas (any.Msm m) = shift-slots m 0 (slots_of m.header m.cell_mask)
  with-shifts sbas (any.Obs1012 m) = plain-by sbas (any.Obs1012 m)

  pub phases-by : (sbas doppler : Bool) (m : Message) → All HasPhase (entries_by sbas doppler (channels_of h.glonass) m)
  phases-by sbas true m = with-shifts sbas m
  phases-by sbas false m = plain-by sbas m
