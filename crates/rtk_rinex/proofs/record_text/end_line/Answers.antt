use Rattle.std.proofs.Common.{◌≡◌, ◌-◌, ◌+◌, ◌∷◌, [], ◌++◌, List, ℕ, length, replicate, drop, set, get_or, ap, refl, sym, ◌∙◌, arith, length-append}
use Rattle.std.proofs.lemmas.List.{length-set, length-take}
use Rattle.rtk_rinex.specs.Record.{trim_end}
use Rattle.rtk_rinex.proofs.WrittenLemmas.{named-line, named-rest, line-text}
use Rattle.rtk_rinex.proofs.record_text.end_line.Goals as goal

pub returns-clause-text : goal.returns-clause-text
returns-clause-text c =
    let line = c.args.line.now in
    let name = c.args.name in
    let one : List ℕ = set line 0 (get_or name 0 0) in
    let two : List ℕ = set one 1 (get_or name 1 0) in
    let field : List ℕ = set two 2 (get_or name 2 0) in
    let r = c.trimmed_len-len.result in
    let named : field ≡ name ++ drop 3 line = named-line line name field (omega arith) c.requires.name refl in
    let size : length field ≡ length line = length-set two 2 (get_or name 2 0) ∙ length-set one 1 (get_or name 1 0) ∙ length-set line 0 (get_or name 0 0) in
    let t = line-text field c.args.end r (length line - c.args.end) (named-rest line name field c.args.end c.requires.name c.requires.columns named ∙ c.requires.blank)
    (omega (arith, length-take c.args.end field)) (omega (arith, size, c.requires.room)) c.trimmed_len-len.ensures.value in
    t.0 ∙ ap (λ (n : ℕ). (trim_end field ++ 10 ∷ []) ++ replicate (n - (r + 1)) 32) size ∙ ap (λ (xs : List ℕ). (trim_end xs ++ 10 ∷ []) ++ replicate (length line - (r + 1)) 32) named

pub returns-clause-len : goal.returns-clause-len
returns-clause-len c =
    let line = c.args.line.now in
    let name = c.args.name in
    let one : List ℕ = set line 0 (get_or name 0 0) in
    let two : List ℕ = set one 1 (get_or name 1 0) in
    let field : List ℕ = set two 2 (get_or name 2 0) in
    let r = c.trimmed_len-len.result in
    let named : field ≡ name ++ drop 3 line = named-line line name field (omega arith) c.requires.name refl in
    let size : length field ≡ length line = length-set two 2 (get_or name 2 0) ∙ length-set one 1 (get_or name 1 0) ∙ length-set line 0 (get_or name 0 0) in
    let t = line-text field c.args.end r (length line - c.args.end) (named-rest line name field c.args.end c.requires.name c.requires.columns named ∙ c.requires.blank)
    (omega (arith, length-take c.args.end field)) (omega (arith, size, c.requires.room)) c.trimmed_len-len.ensures.value in
    sym (ap (λ (xs : List ℕ). length (trim_end xs ++ 10 ∷ [])) (sym named) ∙ length-append (trim_end field) (10 ∷ []) ∙ ap (λ (n : ℕ). n + 1) t.1)
