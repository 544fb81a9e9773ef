-- The frames that a scanner finds, one after another, and what is held of them.
use Rattle.std.proofs.Common.{Result, Ok, Err, OnOk, ◌≡◌, ◌≤◌, ◌<◌, ◌+◌, ◌-◌, ℕ, List, [], ◌∷◌, ◌++◌, Option, Some, length, take, drop, refl, ap, subst, ◌∙◌, arith}
use Rattle.std.proofs.lemmas.Grind.{common_steps}
use Rattle.std.specs.Borrow.{Bor}
use Rattle.rtk_bits.specs.Bits.{bits}
use Rattle.rtk_message.specs.AnyDecoded.{DecodesBy}
use Rattle.rtk_message.specs.declared.any_fault.AnyFault.{AnyFault}
use Rattle.rtk_message.specs.declared.any_message.AnyMessage.{AnyMessage}
use Rattle.rtk_frame.specs.Frames.{final_frames, frames, payloads, pending}
use Rattle.rtk_frame.specs.Scanner.{FedAnswer, RestAnswer}
use Rattle.rtk_frame.specs.ScannerView.{ScannerView}
use Rattle.rtk_frame.specs.declared.scanner.Answer.TheVariants.{Found, Hungry}
use Rattle.rtk_frame.proofs.PublicLaws.{after_found, first_payloads}
use Rattle.rtk_survey.specs.Contents.{HoldsFrames}
use Rattle.rtk_survey.specs.ReadFrames.{ReadFrame, ReadsFrames, messages_read, read_frame}
use Rattle.rtk_survey.specs.Surveys.{HoldsMore}
use Rattle.rtk_survey.specs.declared.contents.Contents.{Contents}
use Rattle.rtk_survey.specs.declared.target.Target.{Target}

-- ---- what is held of them

pub holds-none : (c : Contents) → HoldsMore [] c c
holds-none c = λ q before held. (before, refl, held)

-- a frame, and then those of more payloads
pub holds-first : (a b c : Contents) (p : List ℕ) (ps : List (List ℕ)) → HoldsMore (p ∷ []) a b → HoldsMore ps b c → HoldsMore (p ∷ ps) a c
holds-first a b c p ps one rest = λ q before held.
    let first = one q before held in
    let more = rest q first.0 first.2 in
    (more.0, (first.1.0, first.1.1, subst (λ (fs : List ReadFrame). ReadsFrames ps fs more.0) first.1.2 more.1), more.2)

-- a frame whose payload is a message, and one whose payload is none
pub holds-message : {E : Type 0} (r : Result (Unit {0}) E) (payload : List ℕ) (reading : Result AnyMessage AnyFault) (m : AnyMessage) (old new : Contents) → reading ≡ Ok m
    → DecodesBy messages_read (bits payload) reading
    → OnOk r ((q : Option Target) (before : List ReadFrame) → HoldsFrames q before old → HoldsFrames q (read_frame payload (Ok m) ∷ before) new) → OnOk r (HoldsMore (payload ∷ []) old new)
holds-message (Err e) payload reading m old new is reads took = took
holds-message (Ok u) payload reading m old new is reads took = λ q before held.
    (read_frame payload (Ok m) ∷ before, (Ok m, subst (λ (x : Result AnyMessage AnyFault). DecodesBy messages_read (bits payload) x) is reads, refl), took q before held)

pub holds-fault : {E : Type 0} (r : Result (Unit {0}) E) (payload : List ℕ) (reading : Result AnyMessage AnyFault) (fault : AnyFault) (old new : Contents) → reading ≡ Err fault
    → DecodesBy messages_read (bits payload) reading
    → OnOk r ((q : Option Target) (before : List ReadFrame) → HoldsFrames q before old → HoldsFrames q (read_frame payload (Err fault) ∷ before) new) → OnOk r (HoldsMore (payload ∷ []) old new)
holds-fault (Err e) payload reading fault old new is reads took = took
holds-fault (Ok u) payload reading fault old new is reads took = λ q before held.
    (read_frame payload (Err fault) ∷ before, (Err fault, subst (λ (x : Result AnyMessage AnyFault). DecodesBy messages_read (bits payload) x) is reads, refl), took q before held)

-- if the frames with these payloads are held from here on, then those are from the start on
abbrev pub HoldsOn : Contents → List (List ℕ) → Contents → List (List ℕ) → Type 0
HoldsOn here left start all = (end : Contents) → HoldsMore left here end → HoldsMore all start end

-- ---- the scanner's answers

pub rest-is : (at : ℕ) (p : List ℕ) → take (length p - at) (drop at p) ≡ drop at p
rest-is at p = grind (arith, common_steps)

-- of a piece p from a place on, after the pending bytes s1, the next frame was found: s2 is
-- pending, and the place next was reached
pub record FindsNext (p s1 s2 : List ℕ) (at next : ℕ) (payload : List ℕ) : Type 0 where
  pub first : payloads (final_frames (s1 ++ drop at p)) ≡ payload ∷ payloads (final_frames (s2 ++ drop next p))
  pub waiting : pending (s1 ++ drop at p) ≡ pending (s2 ++ drop next p)
  pub within : next ≤ length p
  pub smaller : length s2 + (length p - next) < length s1 + (length p - at)

pub finds-next : (p s1 : List ℕ) (at used : ℕ) (payload : Bor (List ℕ)) (scan : ScannerView)
    → at ≤ length p → used ≤ length (take (length p - at) (drop at p))
    → FedAnswer s1 (take (length p - at) (drop at p)) used (Found payload) scan
    → FindsNext p s1 scan.pending at (at + used) payload.now
finds-next p s1 at used payload scan within some answer =
    let a = subst (λ (q : List ℕ). FedAnswer s1 q used (Found payload) scan) (rest-is at p) answer in
    let few : used ≤ length (drop at p) = subst (λ (q : List ℕ). used ≤ length q) (rest-is at p) some in
    let law = after_found s1 (drop at p) used payload.now scan.pending a.0 in
    let d : drop used (drop at p) ≡ drop (at + used) p = grind (arith, common_steps) in
    let n : length (drop at p) ≡ length p - at = grind (arith, common_steps) in
    let fall = a.1 in
    record {
      first = law.0 ∙ ap (λ (t : List ℕ). payload.now ∷ payloads (final_frames (scan.pending ++ t))) d;
      waiting = law.1 ∙ ap (λ (t : List ℕ). pending (scan.pending ++ t)) d;
      within = grind (arith);
      smaller = grind (arith);
    }

-- no frame was found: s2 is pending
pub record FindsNoMore (p s1 s2 : List ℕ) (at : ℕ) : Type 0 where
  pub none : final_frames (s1 ++ drop at p) ≡ []
  pub waiting : s2 ≡ pending (s1 ++ drop at p)

pub finds-no-more : (p s1 : List ℕ) (at used : ℕ) (scan : ScannerView)
    → FedAnswer s1 (take (length p - at) (drop at p)) used Hungry scan
    → FindsNoMore p s1 scan.pending at
finds-no-more p s1 at used scan answer =
    let a = subst (λ (q : List ℕ). FedAnswer s1 q used Hungry scan) (rest-is at p) answer in
    record { none = a.1; waiting = a.2 }

-- of the pending bytes s1 no more will come, and the next frame was found: s2 is pending
pub record FindsLeft (s1 s2 : List ℕ) (payload : List ℕ) : Type 0 where
  pub first : payloads (frames s1) ≡ payload ∷ payloads (frames s2)
  pub smaller : length s2 < length s1

pub finds-left : (s1 : List ℕ) (payload : Bor (List ℕ)) (scan : ScannerView) → RestAnswer s1 (Some payload) scan → FindsLeft s1 scan.pending payload.now
finds-left s1 payload scan answer =
    let fall = answer.1 in
    record { first = first_payloads s1 payload.now scan.pending answer.0; smaller = grind (arith) }
