-- All frames and messages are taken alike, whatever came before.
use Rattle.std.proofs.Common.{◌≡◌, ◌==◌, ℕ, true, false, List, [], ◌∷◌, ◌++◌, Option, Result, Ok, Err, refl, sym, ap, ◌∙◌, eq-eqb, ne_eqb, arith}
use Rattle.std.specs.Prelude.{filter}
use Rattle.std.specs.List.{filter_map}
use Rattle.std.proofs.lemmas.Grind.{flat_map-append}
use Rattle.std.proofs.lemmas.List.Elements.{filter-append, filter_map-append}
use Rattle.rtk_message.specs.declared.any_message.AnyMessage.{AnyMessage}
use Rattle.rtk_message.specs.declared.any_fault.AnyFault.{AnyFault}
use Rattle.rtk_survey.specs.BesideGps.{is_part_numbered, cells_beside_gps, told_time_of, gives_value_beside}
use Rattle.rtk_survey.specs.CountingLaws.{FramesAreTakenAlike, MessagesAreTakenAlike, ChangesAddUp, OtherTimeIsChange, EpochsAreChanges}
use Rattle.rtk_survey.specs.Proposal.{gives_value, is_taken_with}
use Rattle.rtk_survey.specs.ReadFrames.{ReadFrame, with_message, with_fault, messages_in, faults_in, is_of_station}
use Rattle.rtk_survey.specs.Tracing.{gps_time_of, times_of_week, newest_time, change_from, entries_of_message, entries_in}

-- ---- frames and messages

one-message : (reading : Result AnyMessage AnyFault) (later before : List AnyMessage) → with_message reading (later ++ before) ≡ with_message reading later ++ before
one-message (Ok m) later before = refl
one-message (Err fault) later before = refl

one-fault : (reading : Result AnyMessage AnyFault) (later before : List AnyFault) → with_fault reading (later ++ before) ≡ with_fault reading later ++ before
one-fault (Ok m) later before = refl
one-fault (Err fault) later before = refl

messages-joined : (later before : List ReadFrame) → messages_in (later ++ before) ≡ messages_in later ++ messages_in before
messages-joined [] before = refl
messages-joined (f ∷ later) before = ap (λ (ms : List AnyMessage). with_message f.reading ms) (messages-joined later before) ∙ one-message f.reading (messages_in later) (messages_in before)

faults-joined : (later before : List ReadFrame) → faults_in (later ++ before) ≡ faults_in later ++ faults_in before
faults-joined [] before = refl
faults-joined (f ∷ later) before = ap (λ (fs : List AnyFault). with_fault f.reading fs) (faults-joined later before) ∙ one-fault f.reading (faults_in later) (faults_in before)

pub frames-alike : FramesAreTakenAlike
frames-alike later before = (messages-joined later before, faults-joined later before)

pub messages-alike : MessagesAreTakenAlike
messages-alike later before =
    record {
      stations = λ n. filter-append (is_of_station n) later before;
      times = filter_map-append gps_time_of later before;
      with_value = λ kind. ap (λ (ms : List AnyMessage). times_of_week ms) (filter-append (gives_value kind) later before)
          ∙ filter_map-append gps_time_of (filter (gives_value kind) later) (filter (gives_value kind) before);
      entries = flat_map-append entries_of_message later before;
      entries_taken = λ kind. ap (λ (ms : List AnyMessage). entries_in ms) (filter-append (is_taken_with kind) later before)
          ∙ flat_map-append entries_of_message (filter (is_taken_with kind) later) (filter (is_taken_with kind) before);
      beside = λ n. filter-append (is_part_numbered n) later before;
      times_beside_gps = ap (λ (ms : List AnyMessage). filter_map told_time_of ms) (filter-append gives_value_beside later before)
          ∙ filter_map-append told_time_of (filter gives_value_beside later) (filter gives_value_beside before);
      cells_beside_them = flat_map-append cells_beside_gps later before;
    }

-- ---- times

same-newest : (later before : List ℕ) (t : ℕ) → newest_time (later ++ t ∷ before) ≡ newest_time (later ++ t ∷ [])
same-newest [] before t = refl
same-newest (u ∷ later) before t = refl

pub changes-joined : ChangesAddUp
changes-joined [] before t = omega arith
changes-joined (u ∷ later) before t =
    let more = changes-joined later before t in
    let newest = ap (λ (o : Option ℕ). change_from o u) (same-newest later before t) in
    omega (arith, more, newest)

pub other-time : OtherTimeIsChange
other-time t before = (
  λ is. rw is (let same : (before == before) ≡ true = eq-eqb before before refl in rw same refl),
  λ differs. let other : (before == t) ≡ false = ne_eqb before t (λ is. differs (sym is)) in rw other refl,
)

pub epochs-changed : EpochsAreChanges
epochs-changed t [] = refl
epochs-changed t (u ∷ before) = let more = epochs-changed u before in omega (arith, more)
