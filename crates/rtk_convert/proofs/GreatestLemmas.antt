-- The satellites of the messages that a setup takes are of its listed systems.
use Rattle.std.proofs.Common.{◌≡◌, ◌∙◌, ◌+◌, ◌*◌, ◌≤◌, ℕ, suc, Bool, true, false, cond, nat_le, List, [], ◌∷◌, length, map, Option, None, Some, ℤ, refl, sym, subst, arith, inl, inr}
use Rattle.std.specs.Prelude.{◌||◌, All, IfSome, if◌then◌else◌}
use Rattle.std.specs.List.{flat_map}
use Rattle.std.proofs.lemmas.Bool.{and_parts, cases_Bool}
use Rattle.std.proofs.lemmas.Bool.Decides.{nat_tests}
use Rattle.std.proofs.lemmas.List.Elements.{All-nil, All-cons, All-append, All-map, All-take, All-weaker}
use Rattle.rtk_message.specs.declared.any_message.AnyMessage.{AnyMessage as Message}
use Rattle.rtk_message.specs.declared.any_message.AnyMessage.TheVariants as any
use Rattle.rtk_message.specs.declared.message.Message.TheVariants.{Obs1004, Arp1005, Arp1006, Msm1074}
use Rattle.rtk_message.specs.declared.msm.Msm.{Msm}
use Rattle.rtk_message.specs.declared.obs1004.Obs1004.{Obs1004 as Obs1004Message}
use Rattle.rtk_message.specs.declared.obs1004.Satellite.{Satellite}
use Rattle.rtk_message.specs.declared.obs1012.GlonassSatellite.{GlonassSatellite}
use Rattle.rtk_message.specs.declared.obs1012.Obs1012.{Obs1012}
use Rattle.rtk_message.specs.declared.msm_kind.MsmKind.{MsmKind}
use Rattle.rtk_message.specs.declared.msm_kind.MsmKind.TheVariants.{Msm4, Msm5, Msm6, Msm7}
use Rattle.rtk_message.specs.declared.system.System.{System}
use Rattle.rtk_message.specs.declared.system.System.TheVariants.{Gps, Glonass, Galileo, Beidou, Qzss, Sbas, Navic}
use Rattle.rtk_message.specs.Accepted as accepted
use Rattle.rtk_message.specs.AnyDecoded.{number_of}
use Rattle.rtk_message.specs.MsmForm.{type_of}
use Rattle.rtk_message.proofs.PublicLaws.{accepts-type}
use Rattle.rtk_obs.specs.declared.any_code.AnyCode.{AnyCode}
use Rattle.rtk_obs.specs.declared.cell.CellEntry.{CellEntry}
use Rattle.rtk_obs.specs.declared.signal_cells.SignalEntry.{SignalEntry}
use Rattle.rtk_obs.specs.Cell.{IsSatellite}
use Rattle.rtk_obs.specs.Doppler.{doppler_entry_if, doppler_entry, doppler_entries, entries_with_doppler}
use Rattle.rtk_obs.specs.GlonassCells.{entries_of_1012, first_of_slots, glonass_channel, glonass_entries, glonass_l2_code, glonass_l2_entries, slot_entries}
use Rattle.rtk_obs.specs.Mask.{join_from}
use Rattle.rtk_obs.specs.MessageCells.{cells_of}
use Rattle.rtk_obs.specs.MsmCells.{Slot, slots_of}
use Rattle.rtk_obs.specs.SatelliteIndex.{index_in, is_taken, satellites_before, satellites_of_system}
use Rattle.rtk_obs.specs.SignalCells.{bit_of_row, channel_in, entries_of, field_of_row, entry_if, signal_entry, signal_entries, signal_of}
use Rattle.rtk_obs.specs.SbasCells.{signals_of_1004}
use Rattle.rtk_obs.specs.Signals.{code_in}
use Rattle.rtk_obs.proofs.PublicLaws.{cells_of-satellites}
use Rattle.rtk_collect.specs.Accepted.{kept}
use Rattle.rtk_collect.specs.Arrival.{Arrival, message_of}
use Rattle.rtk_collect.specs.Collector.{CollectorView}
use Rattle.rtk_collect.specs.EpochSet.{EpochSetView}
use Rattle.rtk_collect.specs.Signals.{signals, AreUpTo, plain_entries_by, entries_by}
use Rattle.rtk_collect.proofs.PublicLaws.{epochs-are-of-satellites}
use Rattle.rtk_convert.specs.Conversion.{AllTaken, HoldsArrivals}
use Rattle.rtk_setup.specs.Setup.{SetupView, taken_by, kind_of, lists_system, last_or, greatest_satellite, cells_by, channels_of, obs1012_taken}
use Rattle.rtk_convert.specs.Steps.AddedMessage.{IsTakenBy}
use Rattle.rtk_convert.proofs.GpsOfferLemmas.{accepts-taken}
use Rattle.rtk_convert.proofs.SignalsOf1004Lemmas.{each-signal, sbas_entry}

-- the last satellite of a system
abbrev pub last_of : System → ℕ
last_of s = satellites_before s + satellites_of_system s

abbrev IsUpTo : ℕ → SignalEntry → Type 0
IsUpTo limit e = e.satellite ≤ limit

-- ---- the satellites of a message

taken-low : (s : System) (bit : ℕ) → is_taken s bit ≡ true → satellites_before s + bit ≤ last_of s
taken-low s bit h =
    let p = and_parts (nat_le 1 bit) (nat_le bit (satellites_of_system s)) h in
    let low = p.1 in
    grind (arith, nat_tests)

index-up-to : (s : System) (bit : ℕ) → IfSome (index_in s bit) (λ i. i ≤ last_of s)
index-up-to s bit = elim (cases_Bool (is_taken s bit)) [
  | inl is ↦ rw is (taken-low s bit is)
  | inr other ↦ rw other tt
]

entry-up-to : (limit : ℕ) (m : Msm) (k row : ℕ) (channel : Option ℤ) (o : Option ℕ) (c : Option AnyCode) → IfSome o (λ i. i ≤ limit) → All (IsUpTo limit) (entry_if m k row channel o c)
entry-up-to limit m k row channel None c h = All-nil (IsUpTo limit)
entry-up-to limit m k row channel (Some i) None h = All-nil (IsUpTo limit)
entry-up-to limit m k row channel (Some i) (Some c) h = All-cons (IsUpTo limit) _ [] h (All-nil (IsUpTo limit))

slots-up-to : (channels : List (Option ℤ)) (m : Msm) (k : ℕ) (slots : List Slot) → All (IsUpTo (last_of m.system)) (join_from (signal_entry channels m) k slots)
unfolding join_from
slots-up-to channels m k [] = All-nil (IsUpTo (last_of m.system))
slots-up-to channels m k (s ∷ slots) =
    All-append (IsUpTo (last_of m.system)) (signal_entry channels m k s) _
    (entry-up-to (last_of m.system) m k s.row (channel_in m.system channels (bit_of_row m s.row) (field_of_row m s.row)) (index_in m.system (bit_of_row m s.row)) (code_in m.system s.signal)
    (index-up-to m.system (bit_of_row m s.row)))
    (slots-up-to channels m (suc k) slots)

-- the satellites of a 1012
shift-up-to : (limit : ℕ) (m : Msm) (k row : ℕ) (channel : Option ℤ) (o : Option ℕ) (c : Option AnyCode) → IfSome o (λ i. i ≤ limit) → All (IsUpTo limit) (doppler_entry_if m k row channel o c)
shift-up-to limit m k row channel None c h = All-nil (IsUpTo limit)
shift-up-to limit m k row channel (Some i) None h = All-nil (IsUpTo limit)
shift-up-to limit m k row channel (Some i) (Some c) h = All-cons (IsUpTo limit) _ [] h (All-nil (IsUpTo limit))

shifts-up-to : (channels : List (Option ℤ)) (m : Msm) (k : ℕ) (slots : List Slot) → All (IsUpTo (last_of m.system)) (join_from (doppler_entry channels m) k slots)
unfolding join_from
shifts-up-to channels m k [] = All-nil (IsUpTo (last_of m.system))
shifts-up-to channels m k (s ∷ slots) =
    All-append (IsUpTo (last_of m.system)) (doppler_entry channels m k s) (join_from (doppler_entry channels m) (suc k) slots)
    (shift-up-to (last_of m.system) m k s.row (channel_in m.system channels (bit_of_row m s.row) (field_of_row m s.row)) (index_in m.system (bit_of_row m s.row)) (code_in m.system s.signal)
    (index-up-to m.system (bit_of_row m s.row)))
    (shifts-up-to channels m (suc k) slots)

l2-up-to : (limit : ℕ) (s : GlonassSatellite) (channel : Option ℤ) (i : ℕ) (o : Option AnyCode) → i ≤ limit → All (IsUpTo limit) (glonass_l2_entries s channel i o)
l2-up-to limit s channel i None h = All-nil (IsUpTo limit)
l2-up-to limit s channel i (Some code) h = All-cons (IsUpTo limit) _ [] h (All-nil (IsUpTo limit))

glonass-up-to : (limit : ℕ) (s : GlonassSatellite) (channel : Option ℤ) (o : Option ℕ) → IfSome o (λ i. i ≤ limit) → All (IsUpTo limit) (glonass_entries s channel o)
glonass-up-to limit s channel None h = All-nil (IsUpTo limit)
glonass-up-to limit s channel (Some i) h = All-cons (IsUpTo limit) _ _ h (l2-up-to limit s channel i (glonass_l2_code s.l2_code) h)

satellites-up-to : (channels : List (Option ℤ)) (ss : List GlonassSatellite) → All (IsUpTo 59) (flat_map (slot_entries channels) ss)
satellites-up-to channels [] = All-nil (IsUpTo 59)
satellites-up-to channels (s ∷ ss) =
    All-append (IsUpTo 59) (slot_entries channels s) (flat_map (slot_entries channels) ss)
    (glonass-up-to 59 s (glonass_channel channels s) (index_in Glonass s.slot) (index-up-to Glonass s.slot)) (satellites-up-to channels ss)

-- those of a 1004 with satellites of SBAS
gps-low : (e : CellEntry) → IsSatellite e.satellite → IsUpTo 207 (signal_of e)
gps-low e is = omega (arith, is.1)

sbas-low : (s : Satellite) (bit : ℕ) → is_taken Sbas bit ≡ true → IsUpTo 207 (sbas_entry s bit)
sbas-low s bit taken = taken-low Sbas bit taken

-- ---- the greatest satellite

first-of : (b : Bool) → (b || false) ≡ true → b ≡ true
first-of true h = refl
first-of false h = h

or-more : (b : Bool) (n x k : ℕ) → k ≤ n → k ≤ x → k ≤ cond b n x
or-more true n x k h g = h
or-more false n x k h g = g

or-is : (b : Bool) (n x : ℕ) → b ≡ true → n ≤ cond b n x
or-is true n x h = omega arith
or-is false n x h = cc

module _ (s : SetupView) where
  to_glonass : (k x : ℕ) → k ≤ x → k ≤ 59 → k ≤ last_or s Glonass x
  to_glonass k x h g = or-more (lists_system s.head.listed Glonass) 59 x k g h

  to_galileo : (k x : ℕ) → k ≤ x → k ≤ 95 → k ≤ last_or s Galileo x
  to_galileo k x h g = or-more (lists_system s.head.listed Galileo) 95 x k g h

  to_beidou : (k x : ℕ) → k ≤ x → k ≤ 158 → k ≤ last_or s Beidou x
  to_beidou k x h g = or-more (lists_system s.head.listed Beidou) 158 x k g h

  to_qzss : (k x : ℕ) → k ≤ x → k ≤ 168 → k ≤ last_or s Qzss x
  to_qzss k x h g = or-more (lists_system s.head.listed Qzss) 168 x k g h

  to_sbas : (k x : ℕ) → k ≤ x → k ≤ 207 → k ≤ last_or s Sbas x
  to_sbas k x h g = or-more (lists_system s.head.listed Sbas) 207 x k g h

  to_navic : (k x : ℕ) → k ≤ x → k ≤ 221 → k ≤ last_or s Navic x
  to_navic k x h g = or-more (lists_system s.head.listed Navic) 221 x k g h

  pub greatest-from : (system : System) → lists_system s.head.listed system ≡ true → last_of system ≤ greatest_satellite s
  greatest-from Gps h =
      to_navic 32 _ (to_sbas 32 _ (to_qzss 32 _ (to_beidou 32 _ (to_galileo 32 _ (to_glonass 32 _ (or-is (lists_system s.head.listed Gps) 32 0 h) (omega arith)) (omega arith)) (omega arith)) (omega arith)) (omega arith)) (omega arith)
  greatest-from Glonass h =
      to_navic 59 _ (to_sbas 59 _ (to_qzss 59 _ (to_beidou 59 _ (to_galileo 59 _ (or-is (lists_system s.head.listed Glonass) 59 _ h) (omega arith)) (omega arith)) (omega arith)) (omega arith)) (omega arith)
  greatest-from Galileo h =
      to_navic 95 _ (to_sbas 95 _ (to_qzss 95 _ (to_beidou 95 _ (or-is (lists_system s.head.listed Galileo) 95 _ h) (omega arith)) (omega arith)) (omega arith)) (omega arith)
  greatest-from Beidou h = to_navic 158 _ (to_sbas 158 _ (to_qzss 158 _ (or-is (lists_system s.head.listed Beidou) 158 _ h) (omega arith)) (omega arith)) (omega arith)
  greatest-from Qzss h = to_navic 168 _ (to_sbas 168 _ (or-is (lists_system s.head.listed Qzss) 168 _ h) (omega arith)) (omega arith)
  greatest-from Sbas h = to_navic 207 _ (or-is (lists_system s.head.listed Sbas) 207 _ h) (omega arith)
  greatest-from Navic h = or-is (lists_system s.head.listed Navic) 221 _ h

  -- ---- the messages that are taken

  none-taken : (k : MsmKind) → accepted.takes_kind accepted.no_kind k ≡ false
  none-taken Msm4 = refl
  none-taken Msm5 = refl
  none-taken Msm6 = refl
  none-taken Msm7 = refl

  kinds-listed : (b : Bool) (k j : MsmKind) → accepted.takes_kind (if b then accepted.only_kind k else accepted.no_kind) j ≡ true → b ≡ true
  kinds-listed true k j h = refl
  kinds-listed false k j h = cc (h, none-taken j)

  takes-listed : (system : System) (k : MsmKind) → accepted.takes (taken_by s) (record { system = system; kind = k }) ≡ true → lists_system s.head.listed system ≡ true
  takes-listed Gps k h = kinds-listed (lists_system s.head.listed Gps) (kind_of s.kinds Gps) k h
  takes-listed Glonass k h = kinds-listed (lists_system s.head.listed Glonass) (kind_of s.kinds Glonass) k h
  takes-listed Galileo k h = kinds-listed (lists_system s.head.listed Galileo) (kind_of s.kinds Galileo) k h
  takes-listed Beidou k h = kinds-listed (lists_system s.head.listed Beidou) (kind_of s.kinds Beidou) k h
  takes-listed Qzss k h = kinds-listed (lists_system s.head.listed Qzss) (kind_of s.kinds Qzss) k h
  takes-listed Sbas k h = kinds-listed (lists_system s.head.listed Sbas) (kind_of s.kinds Sbas) k h
  takes-listed Navic k h = kinds-listed (lists_system s.head.listed Navic) (kind_of s.kinds Navic) k h

  gps-up-to : (m : Message) → lists_system s.head.listed Gps ≡ true → All (IsUpTo (greatest_satellite s)) (map signal_of (cells_of m))
  gps-up-to m h =
      let low = greatest-from Gps h in
      All-map (IsUpTo (greatest_satellite s)) signal_of (cells_of m)
      (All-weaker (λ (e : CellEntry). IsSatellite e.satellite) (λ (e : CellEntry). e.satellite ≤ greatest_satellite s) (λ e is. omega (arith, is.1, low)) (cells_of m) (cells_of-satellites m))

  -- a 1004, by whether a code of SBAS is listed
  legacy-up-to : (b : Bool) (m : Obs1004Message) → lists_system s.head.listed Sbas ≡ b → (lists_system s.head.listed Gps || b) ≡ true
      → All (IsUpTo (greatest_satellite s)) (plain_entries_by b (channels_of s.head.glonass) (any.Message (Obs1004 m)))
  legacy-up-to true m is h =
      let low = greatest-from Sbas is in
      All-weaker (IsUpTo 207) (IsUpTo (greatest_satellite s)) (λ e up. omega (arith, up, low)) (signals_of_1004 m.satellites) (each-signal (IsUpTo 207) gps-low sbas-low m.satellites)
  legacy-up-to false m is h = gps-up-to (any.Message (Obs1004 m)) (first-of (lists_system s.head.listed Gps) h)

  up-to-1012 : (m : Obs1012) → obs1012_taken s ≡ true → All (IsUpTo (greatest_satellite s)) (entries_of (channels_of s.head.glonass) (any.Obs1012 m))
  up-to-1012 m h =
      let low = greatest-from Glonass (and_parts s.takes_1012 (lists_system s.head.listed Glonass) h).1 in
      All-weaker (IsUpTo 59) (IsUpTo (greatest_satellite s)) (λ e up. omega (arith, up, low)) (entries_of_1012 (channels_of s.head.glonass) m.satellites)
      (satellites-up-to (channels_of s.head.glonass) (first_of_slots m.satellites))

  msm-up-to : (m : Msm) → IsTakenBy s (any.Msm m) → All (IsUpTo (greatest_satellite s)) (entries_of (channels_of s.head.glonass) (any.Msm m))
  msm-up-to m h =
      let listed = takes-listed m.system m.kind (sym (accepts-type (taken_by s) (type_of m)) ∙ accepts-taken s (number_of (any.Msm m)) h) in
      let low = greatest-from m.system listed in
      All-weaker (IsUpTo (last_of m.system)) (IsUpTo (greatest_satellite s)) (λ e is. omega (arith, is, low)) (signal_entries (channels_of s.head.glonass) m)
      (slots-up-to (channels_of s.head.glonass) m 0 (slots_of m.header m.cell_mask))

  up-to-by : (b : Bool) (m : Message) → lists_system s.head.listed Sbas ≡ b → IsTakenBy s m → All (IsUpTo (greatest_satellite s)) (plain_entries_by b (channels_of s.head.glonass) m)
  up-to-by true (any.Message (Obs1004 m)) is h = legacy-up-to true m is (subst (λ (b : Bool). (lists_system s.head.listed Gps || b) ≡ true) is h)
  up-to-by true (any.Message (Arp1005 m)) is h = All-nil (IsUpTo (greatest_satellite s))
  up-to-by true (any.Message (Arp1006 m)) is h = All-nil (IsUpTo (greatest_satellite s))
  up-to-by true (any.Message (Msm1074 m)) is h = gps-up-to (any.Message (Msm1074 m)) (takes-listed Gps Msm4 h)
  up-to-by true (any.Msm m) is h = msm-up-to m h
  up-to-by true (any.Obs1012 m) is h = up-to-1012 m h
  up-to-by false (any.Message (Obs1004 m)) is h = legacy-up-to false m is (subst (λ (b : Bool). (lists_system s.head.listed Gps || b) ≡ true) is h)
  up-to-by false (any.Message (Arp1005 m)) is h = All-nil (IsUpTo (greatest_satellite s))
  up-to-by false (any.Message (Arp1006 m)) is h = All-nil (IsUpTo (greatest_satellite s))
  up-to-by false (any.Message (Msm1074 m)) is h = gps-up-to (any.Message (Msm1074 m)) (takes-listed Gps Msm4 h)
  up-to-by false (any.Msm m) is h = msm-up-to m h
  up-to-by false (any.Obs1012 m) is h = up-to-1012 m h

  shifted-up-to : (m : Msm) → IsTakenBy s (any.Msm m) → All (IsUpTo (greatest_satellite s)) (doppler_entries (channels_of s.head.glonass) m)
  shifted-up-to m h =
      let listed = takes-listed m.system m.kind (sym (accepts-type (taken_by s) (type_of m)) ∙ accepts-taken s (number_of (any.Msm m)) h) in
      let low = greatest-from m.system listed in
      All-weaker (IsUpTo (last_of m.system)) (IsUpTo (greatest_satellite s)) (λ e is. omega (arith, is, low)) (doppler_entries (channels_of s.head.glonass) m)
      (shifts-up-to (channels_of s.head.glonass) m 0 (slots_of m.header m.cell_mask))

  with-shifts-up-to : (b : Bool) (m : Message) → lists_system s.head.listed Sbas ≡ b → IsTakenBy s m
      → All (IsUpTo (greatest_satellite s)) (entries_with_doppler (plain_entries_by b (channels_of s.head.glonass)) (channels_of s.head.glonass) m)
  with-shifts-up-to b (any.Message m) is h = up-to-by b (any.Message m) is h
  with-shifts-up-to b (any.Msm m) is h = shifted-up-to m h
  with-shifts-up-to b (any.Obs1012 m) is h = up-to-by b (any.Obs1012 m) is h

  up-to-in : (b doppler : Bool) (m : Message) → lists_system s.head.listed Sbas ≡ b → IsTakenBy s m → All (IsUpTo (greatest_satellite s)) (entries_by b doppler (channels_of s.head.glonass) m)
  up-to-in b true m is h = with-shifts-up-to b m is h
  up-to-in b false m is h = up-to-by b m is h

  pub message-up-to : (m : Message) → IsTakenBy s m → All (IsUpTo (greatest_satellite s)) (cells_by s m)
  message-up-to m h = up-to-in (lists_system s.head.listed Sbas) s.head.doppler m refl h

  arrivals-up-to : (arrivals : List Arrival) → AllTaken s arrivals → AreUpTo (lists_system s.head.listed Sbas) s.head.doppler (channels_of s.head.glonass) (greatest_satellite s) arrivals
  arrivals-up-to arrivals h =
      All-weaker (λ (a : Arrival). IsTakenBy s (message_of a)) (λ (a : Arrival). All (IsUpTo (greatest_satellite s)) (cells_by s (message_of a))) (λ a taken. message-up-to (message_of a) taken) arrivals h

  -- the epochs of a window are among the kept ones, and each of these has few cells
  pub cells-few : (w : CollectorView SignalEntry) → HoldsArrivals s w → All (λ (e : EpochSetView SignalEntry). length e.cells ≤ 32 * greatest_satellite s) w.sets
  cells-few w p =
      subst (All (λ (e : EpochSetView SignalEntry). length e.cells ≤ 32 * greatest_satellite s)) (sym p.1.window.sets)
      (All-take (λ (e : EpochSetView SignalEntry). length e.cells ≤ 32 * greatest_satellite s) w.places (kept signals (cells_by s) w.places p.0)
      (epochs-are-of-satellites (lists_system s.head.listed Sbas) s.head.doppler (channels_of s.head.glonass) (greatest_satellite s) w.places p.0 (arrivals-up-to p.0 p.1.taken)))
