-- What a class says of what a payload is read as.
use Rattle.std.proofs.Common.{◌≡◌, ◌≢◌, ℕ, Bool, true, false, Result, Ok, Err, refl, sym, ap, subst, ◌∙◌, eqb, eq-eqb}
use Rattle.std.specs.Prelude.{IfOk}
use Rattle.std.proofs.lemmas.Bool.{cond-false, cond-true, ne_eqb}
use Rattle.rtk_message.specs.declared.any_message.AnyMessage.{AnyMessage as Message}
use Rattle.rtk_message.specs.declared.any_fault.AnyFault.{AnyFault}
use Rattle.rtk_message.specs.declared.any_fault.AnyFault.TheVariants.{NoNumber, Other, Short, EpochRange, TooManyCells}
use Rattle.rtk_message.specs.Accepted.{accepts}
use Rattle.rtk_message.specs.AnyDecoded.{number_of, station_of}
use Rattle.rtk_collect.specs.Arrival.{Arrival, At, message_of}
use Rattle.rtk_convert.specs.declared.frame_class.FrameClass.{FrameClass}
use Rattle.rtk_convert.specs.declared.frame_class.FrameClass.TheVariants.{OtherMessage, Foreign, Dated}
use Rattle.rtk_convert.specs.FrameClass.{IsClassIf, IsClassOfReading, IsDatedMessage, class_of_fault, refused_if}
use Rattle.rtk_setup.specs.Setup.{SetupView, taken_by, takes, takes_1004}
use Rattle.rtk_convert.specs.Steps.AddedMessage.{IsTakenBy}
use Rattle.rtk_convert.specs.Steps.ReadMessage.{IsReadMessage}

-- a message of the chosen station that the setup takes
pub record IsDatedReading (s : SetupView) (m : Message) (a : Arrival) : Type 0 where
  pub taken : takes s (number_of m) ≡ true
  pub station : station_of m ≡ s.station
  pub dated : IsDatedMessage s m a

dated-if : (b : Bool) (s : SetupView) (m : Message) (a : Arrival) → takes s (number_of m) ≡ b → IsClassIf b s m (Dated a) → IsDatedReading s m a
dated-if true s m a is h = record { taken = is; station = h.0; dated = h.1 }
dated-if false s m a is h = cc

not-refused : (b : Bool) (fault : AnyFault) (a : Arrival) → Dated a ≡ refused_if b fault → ⊥
not-refused true fault a h = cc
not-refused false fault a h = cc

not-dated : (s : SetupView) (fault : AnyFault) (a : Arrival) → Dated a ≡ class_of_fault s fault → ⊥
not-dated s NoNumber a h = cc
not-dated s (Other number) a h = cc
not-dated s (Short number) a h = not-refused (takes s number) (Short number) a h
not-dated s (EpochRange number) a h = not-refused (takes s number) (EpochRange number) a h
not-dated s (TooManyCells number) a h = not-refused (takes s number) (TooManyCells number) a h

-- a payload whose class is an arrival is read as its message
pub dated-reading : (s : SetupView) (r : Result Message AnyFault) (a : Arrival) → IsClassOfReading s r (Dated a) → (m : Message) × (r ≡ Ok m) × IsDatedReading s m a
dated-reading s (Ok m) a h = (m, refl, dated-if (takes s (number_of m)) s m a refl h)
dated-reading s (Err fault) a h = absurd (not-dated s fault a h)

message-taken : (s : SetupView) (m : Message) (a : Arrival) → IsDatedMessage s m a → takes s (number_of m) ≡ true → IsTakenBy s (message_of a)
message-taken s m (At e n) is t = ap (λ (x : Message). takes s (number_of x)) is.0 ∙ t

-- and the setup takes the message
pub dated-taken : (s : SetupView) (r : Result Message AnyFault) (a : Arrival) → IsClassOfReading s r (Dated a) → IsTakenBy s (message_of a)
dated-taken s r a is = let p = dated-reading s r a is in message-taken s p.0 a p.2.dated p.2.taken

-- ---- the numbers that a setup takes

-- a 1004 is taken if a code of GPS or of SBAS is listed
pub takes-legacy : (s : SetupView) (number : ℕ) → number ≡ 1004 → takes s number ≡ takes_1004 s
takes-legacy s number is = cond-true (eqb number 1004) (takes_1004 s) (accepts (taken_by s) number) (eq-eqb number 1004 is)

-- another number if it is read
pub takes-other : (s : SetupView) (number : ℕ) → number ≢ 1004 → takes s number ≡ accepts (taken_by s) number
takes-other s number other = cond-false (eqb number 1004) (takes_1004 s) (accepts (taken_by s) number) (ne_eqb number 1004 other)

-- ---- the class of a message that was read

-- a message that was read is as the set reads it
pub read-one : (s : SetupView) (r : Result Message AnyFault) (m : Message) → IfOk r (λ x. IsReadMessage s x) → r ≡ Ok m → IsReadMessage s m
read-one s r m h is = subst (λ (x : Result Message AnyFault). IfOk x (λ y. IsReadMessage s y)) is h

-- one that the setup does not take
pub class-other : (s : SetupView) (r : Result Message AnyFault) (m : Message) (answer : Bool) → r ≡ Ok m → answer ≡ takes s (number_of m) → answer ≡ false → IsClassOfReading s r OtherMessage
class-other s r m answer is asked told =
    let not_taken : takes s (number_of m) ≡ false = sym asked ∙ told in
    subst (λ (x : Result Message AnyFault). IsClassOfReading s x OtherMessage) (sym is)
    (subst (λ (b : Bool). IsClassIf b s m OtherMessage) (sym not_taken) refl)

-- one of another station
pub class-foreign : (s : SetupView) (r : Result Message AnyFault) (m : Message) (station own : ℕ) (answer : Bool) → r ≡ Ok m → answer ≡ takes s (number_of m) → answer ≡ true
    → station ≡ station_of m → own ≡ s.station → station ≢ own → IsClassOfReading s r Foreign
class-foreign s r m station own answer is asked told of chosen other =
    let taken : takes s (number_of m) ≡ true = sym asked ∙ told in
    subst (λ (x : Result Message AnyFault). IsClassOfReading s x Foreign) (sym is)
    (subst (λ (b : Bool). IsClassIf b s m Foreign) (sym taken) (λ q. other (of ∙ q ∙ sym chosen)))

-- one of the chosen station, with its epoch
pub class-dated : (s : SetupView) (r : Result Message AnyFault) (m : Message) (station own : ℕ) (answer : Bool) (a : Arrival) → r ≡ Ok m → answer ≡ takes s (number_of m) → answer ≡ true
    → station ≡ station_of m → own ≡ s.station → station ≡ own → IsDatedMessage s m a → IsClassOfReading s r (Dated a)
class-dated s r m station own answer a is asked told of chosen same dated =
    let taken : takes s (number_of m) ≡ true = sym asked ∙ told in
    subst (λ (x : Result Message AnyFault). IsClassOfReading s x (Dated a)) (sym is)
    (subst (λ (b : Bool). IsClassIf b s m (Dated a)) (sym taken) (sym of ∙ same ∙ chosen, dated))

-- one that is no message
pub class-fault : (s : SetupView) (r : Result Message AnyFault) (fault : AnyFault) (f : FrameClass) → r ≡ Err fault → f ≡ class_of_fault s fault → IsClassOfReading s r f
class-fault s r fault f is told = subst (λ (x : Result Message AnyFault). IsClassOfReading s x f) (sym is) told
