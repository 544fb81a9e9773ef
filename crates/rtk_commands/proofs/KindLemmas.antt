-- The lines of `show` are those by the set of which 1074 is the only MSM.
use Rattle.std.proofs.Common.{◌≡◌, ℕ, Bool, List, [], ◌∷◌, take, length, Option, None, Some, Result, Ok, Err, IfOk, IsSomeAnd, refl, sym, ◌∙◌, ap}
use Rattle.rtk_bits.specs.Bits.{bits}
use Rattle.rtk_frame.specs.Frames.{Frame, frames}
use Rattle.rtk_message.specs.declared.fault.DecodeFault.{DecodeFault}
use Rattle.rtk_message.specs.declared.fault.DecodeFault.TheVariants.{NoNumber, Other, Short, EpochRange, TooManyCells}
use Rattle.rtk_message.specs.declared.message.Message.{Message}
use Rattle.rtk_message.specs.declared.msm_kind.MsmKind.TheVariants.{Msm4}
use Rattle.rtk_message.specs.Accepted.{only}
use Rattle.rtk_message.specs.AnyDecoded.{any_of}
use Rattle.rtk_message.proofs.PublicLaws.{by_four, each_by_four}
use Rattle.rtk_commands.specs.Input.{GivesText}
use Rattle.rtk_commands.specs.declared.fault.ToolFault.{ToolFault}
use Rattle.rtk_commands.specs.Hex.{capture_of}
use Rattle.rtk_commands.specs.Show.{ShowsTextBy, ShowsPartOfBy, ShowsText, ShowsPartOf}
use Rattle.rtk_commands.specs.Shown.{line_of, IsLineOf, AreLinesBy, AreLinesOf, Shows}
use Rattle.rtk_commands.specs.ShownBySet.{any_line_of, IsLineBy}

-- the line of an answer of the four messages is that of the same answer of the wider set
same-line : (r : Result Message DecodeFault) → line_of r ≡ any_line_of (any_of r)
same-line (Ok m) = refl
same-line (Err NoNumber) = refl
same-line (Err (Other number)) = refl
same-line (Err (Short number)) = refl
same-line (Err (EpochRange number)) = refl
same-line (Err TooManyCells) = refl

pub line-by-1074 : (payload line : List ℕ) → IsLineOf payload line → IsLineBy (only Msm4) payload line
line-by-1074 payload line (r, decodes, is) = (any_of r, by_four (bits payload) r decodes, is ∙ same-line r)

pub line-of-show : (payload line : List ℕ) → IsLineBy (only Msm4) payload line → IsLineOf payload line
line-of-show payload line (r, decodes, is) =
    let some = each_by_four (bits payload) r decodes in
    (some.0, some.2, is ∙ ap any_line_of some.1 ∙ sym (same-line some.0))

lines-through : (IsLine IsOther : List ℕ → List ℕ → Type 0) → ((payload line : List ℕ) → IsLine payload line → IsOther payload line) → (fs : List Frame) (text : List ℕ) → AreLinesBy IsLine fs text → AreLinesBy IsOther fs text
lines-through IsLine IsOther step [] text are = are
lines-through IsLine IsOther step (f ∷ fs) text (line, others, one, more, is) =
    (line, others, step f.payload line one, lines-through IsLine IsOther step fs others more, is)

pub lines-by-1074 : (fs : List Frame) (text : List ℕ) → AreLinesOf fs text → AreLinesBy (IsLineBy (only Msm4)) fs text
lines-by-1074 = lines-through IsLineOf (IsLineBy (only Msm4)) line-by-1074

pub lines-of-show : (fs : List Frame) (text : List ℕ) → AreLinesBy (IsLineBy (only Msm4)) fs text → AreLinesOf fs text
lines-of-show = lines-through (IsLineBy (only Msm4)) IsLineOf line-of-show

-- what was shown by this set is what `show` shows
shown-of-show : (capture : List ℕ) (before after : Option (List ℕ)) → Shows (IsLineBy (only Msm4)) capture before after → Shows IsLineOf capture before after
shown-of-show capture before after (text, are, taken) = (text, lines-of-show (frames capture) text are, taken)

text-of-show : (hex : Bool) (count : ℕ) (text : List ℕ) (before after : Option (List ℕ)) → ShowsTextBy (IsLineBy (only Msm4)) hex count text before after → ShowsText hex count text before after
text-of-show hex count text before after (short, shown) = (short, capture-of-show (capture_of hex text) shown)
  where
    capture-of-show : (capture : Option (List ℕ)) → IsSomeAnd capture (λ c. Shows (IsLineBy (only Msm4)) c before after × (count ≡ length (frames c))) → IsSomeAnd capture (λ c. Shows IsLineOf c before after × (count ≡ length (frames c)))
    capture-of-show None none = none
    capture-of-show (Some capture) some = (shown-of-show capture before after some.0, some.1)

part-of-capture : (capture : Option (List ℕ)) (before after : Option (List ℕ)) → ShowsPartOfBy (IsLineBy (only Msm4)) capture before after → ShowsPartOf capture before after
part-of-capture None before after same = same
part-of-capture (Some capture) before after (n, text, are, part) = (n, text, lines-of-show (take n (frames capture)) text are, part)

pub result-of-show : (hex : Bool) (result : Result ℕ ToolFault) (given given' before after : Option (List ℕ))
    → IfOk result (λ count. GivesText given given' (λ text. ShowsTextBy (IsLineBy (only Msm4)) hex count text before after))
    → IfOk result (λ count. GivesText given given' (λ text. ShowsText hex count text before after))
result-of-show hex (Ok count) given given' before after (text, gives, shown) = (text, gives, text-of-show hex count text before after shown)
result-of-show hex (Err fault) given given' before after none = tt

pub part-of-show : (hex : Bool) (given given' before after : Option (List ℕ)) → GivesText given given' (λ text. ShowsPartOfBy (IsLineBy (only Msm4)) (capture_of hex text) before after)
    → GivesText given given' (λ text. ShowsPartOf (capture_of hex text) before after)
part-of-show hex given given' before after (text, gives, part) = (text, gives, part-of-capture (capture_of hex text) before after part)
