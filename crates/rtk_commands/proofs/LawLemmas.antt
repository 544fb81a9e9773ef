-- A payload has one line, and frames have one text.
use Rattle.std.proofs.Common.{◌≡◌, ℕ, Bool, List, [], ◌∷◌, Some, Result, Ok, Err, sym, ◌∙◌, ap}
use Rattle.rtk_bits.specs.Bits.{bits}
use Rattle.rtk_frame.specs.Frames.{Frame}
use Rattle.rtk_message.specs.declared.accepted.Accepted.{Accepted}
use Rattle.rtk_message.specs.declared.any_message.AnyMessage.{AnyMessage}
use Rattle.rtk_message.specs.declared.any_fault.AnyFault.{AnyFault}
use Rattle.rtk_message.specs.declared.message.Message.{Message}
use Rattle.rtk_message.specs.declared.fault.DecodeFault.{DecodeFault}
use Rattle.rtk_message.specs.AnyDecoded.{DecodesBy}
use Rattle.rtk_message.specs.Decoded.{Decodes}
use Rattle.rtk_commands.specs.Shown.{line_of, IsLineOf, AreLinesBy}
use Rattle.rtk_commands.specs.ShownBySet.{any_line_of, IsLineBy}

-- bits decode to one message or fault
decodes-once : (bs : List Bool) (r s : Result Message DecodeFault) → Decodes bs r → Decodes bs s → r ≡ s
decodes-once bs (Ok m) s a b = sym (b.only m a.message)
decodes-once bs (Err f) (Ok n) a b = a.only n b.message
decodes-once bs (Err f) (Err g) a b = let e : Some f ≡ Some g = sym a.fault ∙ b.fault in cc

-- also by a set of messages
decodes-once-by : (a : Accepted) (bs : List Bool) (r s : Result AnyMessage AnyFault) → DecodesBy a bs r → DecodesBy a bs s → r ≡ s
decodes-once-by a bs (Ok m) s x y = sym (y.only m x.accepted x.clock x.message)
decodes-once-by a bs (Err f) (Ok n) x y = x.only n y.accepted y.clock y.message
decodes-once-by a bs (Err f) (Err g) x y = let e : Some f ≡ Some g = sym x.fault ∙ y.fault in cc

pub line-once : (payload line other : List ℕ) → IsLineOf payload line → IsLineOf payload other → line ≡ other
line-once payload line other (r, a, e) (s, b, h) = e ∙ ap line_of (decodes-once (bits payload) r s a b) ∙ sym h

pub line-once-by : (a : Accepted) (payload line other : List ℕ) → IsLineBy a payload line → IsLineBy a payload other → line ≡ other
line-once-by a payload line other (r, x, e) (s, y, h) = e ∙ ap any_line_of (decodes-once-by a (bits payload) r s x y) ∙ sym h

pub text-once : (IsLine : List ℕ → List ℕ → Type 0) → ((payload line other : List ℕ) → IsLine payload line → IsLine payload other → line ≡ other) → (frames : List Frame) (text other : List ℕ)
    → AreLinesBy IsLine frames text → AreLinesBy IsLine frames other → text ≡ other
text-once IsLine once [] text other e h = e ∙ sym h
text-once IsLine once (f ∷ fs) text other (line, rest, one, more, e) (line', rest', one', more', h) =
    let here : line ≡ line' = once f.payload line line' one one' in
    let there : rest ≡ rest' = text-once IsLine once fs rest rest' more more' in
    cc
