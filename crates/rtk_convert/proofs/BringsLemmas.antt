-- The systems of which a message was taken.
use Rattle.std.proofs.Common.{◌≡◌, ◌∙◌, ◌==◌, ℕ, Bool, true, false, List, Option, None, Some, refl, sym, ap, arith}
use Rattle.std.specs.Prelude.{◌&&◌, ◌||◌, ◌/◌, ◌%◌, is_some, not, if◌then◌else◌}
use Rattle.std.proofs.lemmas.Bool.{ne_eqb}
use Rattle.rtk_message.specs.declared.any_message.AnyMessage.{AnyMessage as Message}
use Rattle.rtk_message.specs.declared.any_message.AnyMessage.TheVariants as any
use Rattle.rtk_message.specs.declared.message.Message.TheVariants.{Obs1004, Arp1005, Arp1006, Msm1074}
use Rattle.rtk_message.specs.declared.msm_kind.MsmKind.{MsmKind}
use Rattle.rtk_message.specs.declared.msm_kind.MsmKind.TheVariants.{Msm4, Msm5, Msm6, Msm7}
use Rattle.rtk_message.specs.declared.msm_type.MsmType.{MsmType}
use Rattle.rtk_message.specs.declared.system.System.{System}
use Rattle.rtk_message.specs.declared.system.System.TheVariants.{Gps, Glonass, Galileo, Beidou, Qzss, Sbas, Navic}
use Rattle.rtk_message.specs.AnyDecoded.{number_of, tow_of}
use Rattle.rtk_message.specs.Systems.{kind_of_digit, number_of_type, system_of_tens, type_of_both, type_of_number}
use Rattle.rtk_obs.specs.SatelliteIndex.{letter_of}
use Rattle.rtk_obs.specs.declared.signal_cells.SignalEntry.{SignalEntry}
use Rattle.rtk_collect.specs.Answer.{Class, TakenClass}
use Rattle.rtk_collect.specs.Arrival.{Arrival, IsWideMsm, epoch_of, message_of}
use Rattle.rtk_collect.specs.Collector.{CollectorView}
use Rattle.rtk_setup.specs.declared.counts.Counts.{Counts}
use Rattle.rtk_convert.specs.declared.frame_class.FrameClass.TheVariants.{Dated}
use Rattle.rtk_convert.specs.declared.message_class.MessageClass.{MessageClass}
use Rattle.rtk_convert.specs.declared.remarks.Remarks.{Remarks}
use Rattle.rtk_convert.specs.declared.systems.Systems.{Systems}
use Rattle.rtk_convert.specs.ClosedEpochs.{ClosedEpochsView}
use Rattle.rtk_convert.specs.Report.{arrival_class, brings, brings_sbas, counted_as, holds_sbas, is_of, is_taken}
use Rattle.rtk_setup.specs.Setup.{SetupView, lists_system}
use Rattle.rtk_convert.specs.Systems.{has_system, with_system}
use Rattle.rtk_convert.specs.Writing.{Written}
use Rattle.rtk_convert.specs.Steps.AddedMessage.{AddsArrivalAs, AddsMessage, RepresentsEpochs}
use Rattle.rtk_convert.specs.Steps.OfferLines.{class_named}
use Rattle.rtk_convert.specs.Steps.ReadMessage.{brings_by, sbas_by, system_of_number, system_of_type}
use Rattle.rtk_convert.proofs.AddLemmas.{epochs}
use Rattle.rtk_convert.proofs.ArriveLemmas.{state}

abbrev msm_type : System → MsmKind → MsmType
msm_type s k = record { system = s; kind = k }

-- the number of a type tells it
read-back : (s : System) (k : MsmKind) → system_of_number (number_of_type (msm_type s k)) ≡ s
read-back Gps Msm4 = refl
read-back Gps Msm5 = refl
read-back Gps Msm6 = refl
read-back Gps Msm7 = refl
read-back Glonass Msm4 = refl
read-back Glonass Msm5 = refl
read-back Glonass Msm6 = refl
read-back Glonass Msm7 = refl
read-back Galileo Msm4 = refl
read-back Galileo Msm5 = refl
read-back Galileo Msm6 = refl
read-back Galileo Msm7 = refl
read-back Beidou Msm4 = refl
read-back Beidou Msm5 = refl
read-back Beidou Msm6 = refl
read-back Beidou Msm7 = refl
read-back Qzss Msm4 = refl
read-back Qzss Msm5 = refl
read-back Qzss Msm6 = refl
read-back Qzss Msm7 = refl
read-back Sbas Msm4 = refl
read-back Sbas Msm5 = refl
read-back Sbas Msm6 = refl
read-back Sbas Msm7 = refl
read-back Navic Msm4 = refl
read-back Navic Msm5 = refl
read-back Navic Msm6 = refl
read-back Navic Msm7 = refl

gps-of-both : (k : Option MsmKind) → system_of_type (type_of_both (Some Gps) k) ≡ Gps
gps-of-both None = refl
gps-of-both (Some k) = refl

not-1012 : (number : ℕ) → number / 10 ≡ 107 → (number == 1012) ≡ false
not-1012 number tens = ne_eqb number 1012 (λ is. let other : 1012 / 10 ≡ 107 = ap (λ (n : ℕ). n / 10) (sym is) ∙ tens in absurd (omega (arith, other)))

-- the numbers of the MSM of GPS are of GPS
pub gps-of-number : (number : ℕ) → number / 10 ≡ 107 → Gps ≡ system_of_number number
gps-of-number number tens =
    sym (ap (λ (b : Bool). if b then Glonass else system_of_type (type_of_number number)) (not-1012 number tens)
    ∙ ap (λ (n : ℕ). system_of_type (type_of_both (system_of_tens n) (kind_of_digit (number % 10)))) tens ∙ gps-of-both (kind_of_digit (number % 10)))

-- an observation of a number is of its system
observed-by : (m : Message) (e : Option ℕ) (system : System) → is_some e ≡ is_some (tow_of m)
    → (is_some e && (letter_of (system_of_number (number_of m)) == letter_of system)) ≡ is_of system m
observed-by (any.Message (Obs1004 m)) e system h = ap (λ (b : Bool). b && (letter_of Gps == letter_of system)) h
observed-by (any.Message (Arp1005 m)) e system h = rw h refl
observed-by (any.Message (Arp1006 m)) e system h = rw h refl
observed-by (any.Message (Msm1074 m)) e system h = ap (λ (b : Bool). b && (letter_of Gps == letter_of system)) h
observed-by (any.Msm m) e system h =
    ap (λ (b : Bool). b && (letter_of (system_of_number (number_of (any.Msm m))) == letter_of system)) h
    ∙ ap (λ (s : System). is_some (tow_of (any.Msm m)) && (letter_of s == letter_of system)) (read-back m.system m.kind)
observed-by (any.Obs1012 m) e system h = ap (λ (b : Bool). b && (letter_of Glonass == letter_of system)) h

brings-by : (s : SetupView) (a : Arrival) (before : List Arrival) (class : Class) (system : System) → is_some (epoch_of a) ≡ is_some (tow_of (message_of a)) → class ≡ arrival_class s a before
    → (brings_by (number_of (message_of a)) (epoch_of a) class system || sbas_by (brings_sbas s (message_of a)) class system) ≡ brings s system (Dated a) before
brings-by s a before class system h is =
    ap (λ (b : Bool). (b && is_taken class) || sbas_by (brings_sbas s (message_of a)) class system) (observed-by (message_of a) (epoch_of a) system h)
    ∙ ap (λ (c : Class). (is_of system (message_of a) && is_taken c) || sbas_by (brings_sbas s (message_of a)) c system) is

-- ---- the systems of which a message was taken

-- a set with one system more
has-with : (y : Systems) (x system : System) → has_system (with_system y x) system ≡ ((letter_of x == letter_of system) || has_system y system)
has-with y Gps Gps = refl
has-with y Gps Glonass = refl
has-with y Gps Galileo = refl
has-with y Gps Beidou = refl
has-with y Gps Qzss = refl
has-with y Gps Sbas = refl
has-with y Gps Navic = refl
has-with y Glonass Gps = refl
has-with y Glonass Glonass = refl
has-with y Glonass Galileo = refl
has-with y Glonass Beidou = refl
has-with y Glonass Qzss = refl
has-with y Glonass Sbas = refl
has-with y Glonass Navic = refl
has-with y Galileo Gps = refl
has-with y Galileo Glonass = refl
has-with y Galileo Galileo = refl
has-with y Galileo Beidou = refl
has-with y Galileo Qzss = refl
has-with y Galileo Sbas = refl
has-with y Galileo Navic = refl
has-with y Beidou Gps = refl
has-with y Beidou Glonass = refl
has-with y Beidou Galileo = refl
has-with y Beidou Beidou = refl
has-with y Beidou Qzss = refl
has-with y Beidou Sbas = refl
has-with y Beidou Navic = refl
has-with y Qzss Gps = refl
has-with y Qzss Glonass = refl
has-with y Qzss Galileo = refl
has-with y Qzss Beidou = refl
has-with y Qzss Qzss = refl
has-with y Qzss Sbas = refl
has-with y Qzss Navic = refl
has-with y Sbas Gps = refl
has-with y Sbas Glonass = refl
has-with y Sbas Galileo = refl
has-with y Sbas Beidou = refl
has-with y Sbas Qzss = refl
has-with y Sbas Sbas = refl
has-with y Sbas Navic = refl
has-with y Navic Gps = refl
has-with y Navic Glonass = refl
has-with y Navic Galileo = refl
has-with y Navic Beidou = refl
has-with y Navic Qzss = refl
has-with y Navic Sbas = refl
has-with y Navic Navic = refl

and-true : (b : Bool) → (b && true) ≡ b
and-true true = refl
and-true false = refl

and-false : (b : Bool) → (b && false) ≡ false
and-false true = refl
and-false false = refl

-- whether a test is true or false by another one
told-by : (b untimed expected : Bool) → b ≡ not untimed → untimed ≡ expected → b ≡ not expected
told-by b untimed expected told is = told ∙ ap (λ (x : Bool). not x) is

-- an observation that is taken puts its system into the set
pub systems-put : (y : Systems) (number : ℕ) (epoch : Option ℕ) (untimed : Bool) (class : Class) (system of : System) → is_some epoch ≡ not untimed → untimed ≡ false → class ≡ TakenClass → of ≡ system_of_number number
    → has_system (with_system y of) system ≡ (brings_by number epoch class system || has_system y system)
systems-put y number epoch untimed class system of told timed is named =
    ap (λ (x : System). has_system (with_system y x) system) named
    ∙ has-with y (system_of_number number) system
    ∙ ap (λ (b : Bool). b || has_system y system) (sym (and-true (letter_of (system_of_number number) == letter_of system)))
    ∙ ap (λ (b : Bool). ((b && (letter_of (system_of_number number) == letter_of system)) && true) || has_system y system) (sym (told-by (is_some epoch) untimed false told timed))
    ∙ ap (λ (c : Class). brings_by number epoch c system || has_system y system) (sym is)

-- another message puts none into it
pub systems-untimed : (y : Systems) (number : ℕ) (epoch : Option ℕ) (untimed : Bool) (class : Class) (system : System) → is_some epoch ≡ not untimed → untimed ≡ true
    → has_system y system ≡ (brings_by number epoch class system || has_system y system)
systems-untimed y number epoch untimed class system told none =
    ap (λ (b : Bool). ((b && (letter_of (system_of_number number) == letter_of system)) && is_taken class) || has_system y system) (sym (told-by (is_some epoch) untimed true told none))

pub systems-stay : (y : Systems) (number : ℕ) (epoch : Option ℕ) (class : Class) (system : System) → is_taken class ≡ false → has_system y system ≡ (brings_by number epoch class system || has_system y system)
systems-stay y number epoch class system left =
    ap (λ (b : Bool). b || has_system y system) (sym (and-false (is_some epoch && (letter_of (system_of_number number) == letter_of system))))
    ∙ ap (λ (b : Bool). ((is_some epoch && (letter_of (system_of_number number) == letter_of system)) && b) || has_system y system) (sym left)

-- ---- satellites of SBAS in a 1004

pub both-true : (b c : Bool) → b ≡ true → c ≡ (b && c)
both-true true c h = refl
both-true false c h = absurd cc

-- a message that is none of the four has none
none-held : (m : Message) → IsWideMsm m → holds_sbas m ≡ false
none-held (any.Message m) wide = absurd wide
none-held (any.Msm m) wide = refl
none-held (any.Obs1012 m) wide = refl

pub wide-none : (s : SetupView) (m : Message) → IsWideMsm m → false ≡ brings_sbas s m
wide-none s m wide = sym (ap (λ (b : Bool). lists_system s.head.listed Sbas && b) (none-held m wide) ∙ and-false (lists_system s.head.listed Sbas))

pub sbas-none : (y : Systems) (sbas : Bool) (class : Class) (system : System) → sbas ≡ false → has_system y system ≡ (sbas_by sbas class system || has_system y system)
sbas-none y sbas class system none = ap (λ (b : Bool). sbas_by b class system || has_system y system) (sym none)

pub sbas-put : (y : Systems) (sbas : Bool) (class : Class) (system : System) → sbas ≡ true → class ≡ TakenClass
    → has_system (with_system y Sbas) system ≡ (sbas_by sbas class system || has_system y system)
sbas-put y sbas class system some is =
    has-with y Sbas system
    ∙ ap (λ (b : Bool). b || has_system y system) (sym (and-true (letter_of Sbas == letter_of system)))
    ∙ ap (λ (b : Bool). ((b && (letter_of Sbas == letter_of system)) && true) || has_system y system) (sym some)
    ∙ ap (λ (c : Class). sbas_by sbas c system || has_system y system) (sym is)

or-turn : (a b c : Bool) → (b || (a || c)) ≡ ((a || b) || c)
or-turn true true c = refl
or-turn true false c = refl
or-turn false b c = refl

-- what an arrival changes in the epochs of a conversion, its counts and its systems it changes in the conversion; the sets of slots stay
pub message-adds : {s : SetupView} {w w' : CollectorView SignalEntry} {c c' : ClosedEpochsView} {k k' : Counts} {y y' : Remarks} {b : Bool} {link : ℕ} {a : Arrival} (class : MessageClass) {o o' : Written}
    → is_some (epoch_of a) ≡ is_some (tow_of (message_of a))
    → ((before : List Arrival) → RepresentsEpochs s (epochs w c) before → AddsArrivalAs s (epochs w c) link a class before (epochs w' c') o o')
    → k' ≡ counted_as (class_named class) k
    → ((system : System) → has_system y'.systems system
    ≡ (sbas_by (brings_sbas s (message_of a)) (class_named class) system || (brings_by (number_of (message_of a)) (epoch_of a) (class_named class) system || has_system y.systems system)))
    → y'.other_channels ≡ y.other_channels → y'.no_channels ≡ y.no_channels
    → AddsMessage (state s w c k y b) link a (state s w' c' k' y' b) o o'
message-adds {s} {w} {w'} {c} {c'} {k} {k'} {y} {y'} {b} {link} {a} class {o} {o'} timed adds counts systems others none = λ before rep.
    let t = adds before (record { kept = rep.kept; closed = rep.closed }) in
    record {
      after = record { kept = t.after.kept; closed = t.after.closed };
      counts = counts ∙ ap (λ (x : Class). counted_as x k) t.is_class;
      systems = λ system. systems system
          ∙ or-turn (brings_by (number_of (message_of a)) (epoch_of a) (class_named class) system) (sbas_by (brings_sbas s (message_of a)) (class_named class) system) (has_system y.systems system)
          ∙ ap (λ (x : Bool). x || has_system y.systems system) (brings-by s a before (class_named class) system timed t.is_class);
      other_channels = others;
      no_channels = none;
      out = t.out;
      log = t.log;
    }
