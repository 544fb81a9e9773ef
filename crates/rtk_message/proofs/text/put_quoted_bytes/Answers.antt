use Rattle.std.proofs.Common.{◌≡◌, ◌<◌, ◌+◌, ◌++◌, ℕ, List, [], ◌∷◌, length, take, get_or, ap, sym, ◌∙◌, append_assoc}
use Rattle.std.proofs.lemmas.Grind.{flat_map-append}
use Rattle.std.proofs.lemmas.List.{append-nil, take_more}
use Rattle.std.specs.Prelude.{flat_map}
use Rattle.rtk_message.specs.ShellText.{quoted_byte}
use Rattle.rtk_message.proofs.text.put_quoted_bytes.Goals as goal

-- one byte more
put-byte : (xs : List ℕ) (i : ℕ) (before mid after : List ℕ) → i < length xs → mid ≡ before ++ flat_map quoted_byte (take i xs) → after ≡ mid ++ quoted_byte (get_or xs i 0)
    → after ≡ before ++ flat_map quoted_byte (take (i + 1) xs)
put-byte xs i before mid after within so_far more =
    let lines : List ℕ = flat_map quoted_byte (take i xs) in
    let x : ℕ = get_or xs i 0 in
    let longer : flat_map quoted_byte (take (i + 1) xs) ≡ lines ++ quoted_byte x =
    ap (λ (t : List ℕ). flat_map quoted_byte t) (take_more xs i 0 within) ∙ flat_map-append quoted_byte (take i xs) (x ∷ []) ∙ ap (λ (t : List ℕ). lines ++ t) (append-nil (quoted_byte x)) in
    more ∙ ap (λ (t : List ℕ). t ++ quoted_byte x) so_far ∙ append_assoc before lines (quoted_byte x) ∙ ap (λ (t : List ℕ). before ++ t) (sym longer)

pub loop-byte-preserved : goal.loop-byte-preserved
loop-byte-preserved c =
    put-byte c.args.name.now c.loop-byte.byte-index c.args.line.now.items c.loop-byte.line.items c.put_quoted_byte.new.line.items
    c.loop-byte-test.true c.loop-byte.invariant c.in_ok-put_quoted_byte.ensures
