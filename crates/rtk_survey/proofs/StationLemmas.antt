-- The stations that were heard, each with its own messages, dates, antenna and receiver.
use Rattle.std.proofs.Common.{◌≡◌, ◌≢◌, ℕ, Bool, true, false, cond, List, [], ◌∷◌, Option, None, Some, refl, sym, ap, subst, ◌∙◌, ne_eqb, arith}
use Rattle.std.proofs.lemmas.Bool.{eq-eqb}
use Rattle.std.specs.BTreeMap.{BTreeMap, get, is_at, Updates}
use Rattle.std.specs.Map.{lookup}
use Rattle.std.specs.Option.{UnwrapsOrElse}
use Rattle.std.specs.Ordering.{nat_cmp}
use Rattle.rtk_message.specs.declared.any_message.AnyMessage.{AnyMessage}
use Rattle.rtk_message.specs.AnyDecoded.{station_of}
use Rattle.rtk_survey.specs.Contents.{IsStationOf, IsHeard, AreStations}
use Rattle.rtk_survey.specs.EquipmentHistory.{no_equipment, equipment_of, with_message}
use Rattle.rtk_survey.specs.FrameDates.{no_station_dates, station_dates}
use Rattle.rtk_survey.specs.ReadFrames.{messages_from, is_of_station}
use Rattle.rtk_survey.specs.declared.date_message.DateMessage.{DateMessage}
use Rattle.rtk_survey.specs.declared.date_message.DateMessage.TheVariants.{Utc, Ephemeris, OtherEphemeris}
use Rattle.rtk_survey.specs.declared.date_message.EphemerisDate.{EphemerisDate}
use Rattle.rtk_survey.specs.declared.date_message.UtcDate.{UtcDate}
use Rattle.rtk_survey.specs.declared.equipment.Equipment.{Equipment}
use Rattle.rtk_survey.specs.declared.equipment_message.EquipmentMessage.{EquipmentMessage}
use Rattle.rtk_survey.specs.declared.station.StationSurvey.{StationSurvey}
use Rattle.rtk_survey.specs.declared.station_dates.StationDates.{StationDates}
use Rattle.rtk_survey.specs.declared.system_message.SystemWeek.{SystemWeek}
use Rattle.rtk_survey.proofs.DateLemmas.{same-dates-of, same-dates-without, same-dates-beside}
use Rattle.rtk_survey.proofs.MapLemmas.{put-one}

-- a message of a station is one of its messages, and one of another is none
pub own-message : (station : ℕ) (m : AnyMessage) (ms : List AnyMessage) → station ≡ station_of m → messages_from station (m ∷ ms) ≡ m ∷ messages_from station ms
own-message station m ms same =
    let yes : is_of_station station m ≡ true = eq-eqb (station_of m) station (sym same) in
    ap (λ (b : Bool). cond b (m ∷ messages_from station ms) (messages_from station ms)) yes

pub other-message : (station : ℕ) (m : AnyMessage) (ms : List AnyMessage) → station ≢ station_of m → messages_from station (m ∷ ms) ≡ messages_from station ms
other-message station m ms other =
    let no : is_of_station station m ≡ false = grind arith in
    ap (λ (b : Bool). cond b (m ∷ messages_from station ms) (messages_from station ms)) no

own-equipment : (station : ℕ) (m : EquipmentMessage) (es : List EquipmentMessage) → station ≡ m.station → equipment_of station (m ∷ es) ≡ with_message m (equipment_of station es)
own-equipment station m es same =
    ap (λ (b : Bool). cond b (with_message m (equipment_of station es)) (equipment_of station es)) (eq-eqb m.station station (sym same))

other-equipment : (station : ℕ) (m : EquipmentMessage) (es : List EquipmentMessage) → station ≢ m.station → equipment_of station (m ∷ es) ≡ equipment_of station es
other-equipment station m es other =
    ap (λ (b : Bool). cond b (with_message m (equipment_of station es)) (equipment_of station es)) (ne_eqb m.station station (λ same. other (sym same)))

-- the survey of a station that an entry has, or else that of no message
abbrev pub IsSurveyAt : Option StationSurvey → StationSurvey → Type 0
IsSurveyAt o s = (own : List AnyMessage) (d : StationDates) (e : Equipment) → IsHeard own d e o → IsStationOf own d e s

given-by : (IsNew : StationSurvey → Type 0) (o : Option StationSurvey) (given : StationSurvey)
    → ((new : StationSurvey) → IsNew new → IsStationOf [] no_station_dates no_equipment new) → UnwrapsOrElse o IsNew given → IsSurveyAt o given
given-by IsNew None given begins gives = λ own d e nothing.
    subst (λ (x : List AnyMessage). IsStationOf x d e given) (sym nothing.0)
    (subst (λ (x : StationDates). IsStationOf [] x e given) (sym nothing.1) (subst (λ (x : Equipment). IsStationOf [] no_station_dates x given) (sym nothing.2) (begins given gives)))
given-by IsNew (Some s) given begins gives = λ own d e is. subst (λ (x : StationSurvey). IsStationOf own d e x) (sym gives) is

-- an entry gives it, if what comes into an empty one is the survey of no message
pub entry-or-new : (IsNew : StationSurvey → Type 0) (o held : Option StationSurvey) (given : StationSurvey) → UnwrapsOrElse o IsNew given → o ≡ held
    → ((new : StationSurvey) → IsNew new → IsStationOf [] no_station_dates no_equipment new) → IsSurveyAt held given
entry-or-new IsNew o held given gives same begins = subst (λ (x : Option StationSurvey). IsSurveyAt x given) same (given-by IsNew o given begins gives)

module _ (m m' : BTreeMap ℕ StationSurvey) (old new : StationSurvey) (ms : List AnyMessage) (ds : List DateMessage) (es : List EquipmentMessage) where
  -- a message more
  pub message-more : (x : AnyMessage) (k : ℕ) → k ≡ station_of x → IsSurveyAt (get nat_cmp m k) old → Updates nat_cmp m m' k (Some new)
      → ((own : List AnyMessage) (d : StationDates) (e : Equipment) → IsStationOf own d e old → IsStationOf (x ∷ own) d e new)
      → AreStations ms ds es m → AreStations (x ∷ ms) ds es m'
  message-more x k is had puts takes all =
      put-one (λ n o. IsHeard (messages_from n ms) (station_dates n ds) (equipment_of n es) o) (λ n o. IsHeard (messages_from n (x ∷ ms)) (station_dates n ds) (equipment_of n es) o) m m' k new puts
      (subst (λ (own : List AnyMessage). IsStationOf own (station_dates k ds) (equipment_of k es) new) (sym (own-message k x ms is))
      (takes (messages_from k ms) (station_dates k ds) (equipment_of k es) (had (messages_from k ms) (station_dates k ds) (equipment_of k es) (all k))))
      (λ n other heard. subst (λ (own : List AnyMessage). IsHeard own (station_dates n ds) (equipment_of n es) (get nat_cmp m n)) (sym (other-message n x ms (λ same. other (same ∙ sym is)))) heard)
      all

  -- a 1013 or a 1029 more
  pub date-more-of : (x : UtcDate) → IsSurveyAt (get nat_cmp m x.station) old → Updates nat_cmp m m' x.station (Some new)
      → ((own : List AnyMessage) (dates : List DateMessage) (e : Equipment) → IsStationOf own (station_dates x.station dates) e old → IsStationOf own (station_dates x.station (Utc x ∷ dates)) e new)
      → AreStations ms ds es m → AreStations ms (Utc x ∷ ds) es m'
  date-more-of x had puts takes all =
      put-one (λ n o. IsHeard (messages_from n ms) (station_dates n ds) (equipment_of n es) o) (λ n o. IsHeard (messages_from n ms) (station_dates n (Utc x ∷ ds)) (equipment_of n es) o) m m' x.station new puts
      (takes (messages_from x.station ms) ds (equipment_of x.station es) (had (messages_from x.station ms) (station_dates x.station ds) (equipment_of x.station es) (all x.station)))
      (λ n other heard. subst (λ (d : StationDates). IsHeard (messages_from n ms) d (equipment_of n es) (get nat_cmp m n)) (sym (same-dates-of n x ds other)) heard)
      all

  -- a 1007, 1008 or 1033 more
  pub equipment-more : (x : EquipmentMessage) → IsSurveyAt (get nat_cmp m x.station) old → Updates nat_cmp m m' x.station (Some new)
      → ((own : List AnyMessage) (d : StationDates) (e : Equipment) → IsStationOf own d e old → IsStationOf own d (with_message x e) new)
      → AreStations ms ds es m → AreStations ms ds (x ∷ es) m'
  equipment-more x had puts takes all =
      put-one (λ n o. IsHeard (messages_from n ms) (station_dates n ds) (equipment_of n es) o) (λ n o. IsHeard (messages_from n ms) (station_dates n ds) (equipment_of n (x ∷ es)) o) m m' x.station new puts
      (subst (λ (e : Equipment). IsStationOf (messages_from x.station ms) (station_dates x.station ds) e new) (sym (own-equipment x.station x es refl))
      (takes (messages_from x.station ms) (station_dates x.station ds) (equipment_of x.station es) (had (messages_from x.station ms) (station_dates x.station ds) (equipment_of x.station es) (all x.station))))
      (λ n other heard. subst (λ (e : Equipment). IsHeard (messages_from n ms) (station_dates n ds) e (get nat_cmp m n)) (sym (other-equipment n x es other)) heard)
      all

-- a message more without a station
pub ephemeris-more : (m : BTreeMap ℕ StationSurvey) (e : EphemerisDate) (ms : List AnyMessage) (ds : List DateMessage) (es : List EquipmentMessage)
    → AreStations ms ds es m → AreStations ms (Ephemeris e ∷ ds) es m
ephemeris-more m e ms ds es all = λ n.
    subst (λ (d : StationDates). IsHeard (messages_from n ms) d (equipment_of n es) (get nat_cmp m n)) (sym (same-dates-without n e ds)) (all n)

pub other-ephemeris-more : (m : BTreeMap ℕ StationSurvey) (w : SystemWeek) (ms : List AnyMessage) (ds : List DateMessage) (es : List EquipmentMessage)
    → AreStations ms ds es m → AreStations ms (OtherEphemeris w ∷ ds) es m
other-ephemeris-more m w ms ds es all = λ n.
    subst (λ (d : StationDates). IsHeard (messages_from n ms) d (equipment_of n es) (get nat_cmp m n)) (sym (same-dates-beside n w ds)) (all n)

-- none was heard
pub no-stations : (m : BTreeMap ℕ StationSurvey) → m.entries ≡ [] → AreStations [] [] [] m
no-stations m empty = λ n.
    subst (λ (entries : List (ℕ × StationSurvey)). IsHeard (messages_from n []) (station_dates n []) (equipment_of n []) (lookup (is_at (nat_cmp n)) entries)) (sym empty) (refl, refl, refl)
