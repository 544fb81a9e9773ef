use Rattle.std.proofs.Common.{◌≡◌, ◌∙◌, ◌++◌, ◌<◌, ℕ, List, [], ◌∷◌, length, slice_index_or, codes, arith, sym, refl, subst, length-append}
use Rattle.rtk_rinex.specs.MixedHeader.{mixed_version_line}
use Rattle.rtk_rinex.specs.Steps.MixedRoom.{IsFileLetter}
use Rattle.rtk_rinex.proofs.HeaderShownLemmas.{line_rest, line_is}
use Rattle.rtk_rinex.proofs.mixed_header_check.read_file_letter.Goals as goal

-- the letter stands after 40 columns
at_letter : (text more : List ℕ) (l : ℕ) → text ≡ mixed_version_line l ++ more → (40 < length text) × (slice_index_or text 40 0 ≡ l)
at_letter text more l e =
    let a : List ℕ = codes "     3.05           OBSERVATION DATA    " ++ l ∷ [] in
    let rest : List ℕ = line_rest a (codes "RINEX VERSION / TYPE") more in
    let r : text ≡ a ++ rest = e ∙ line_is a (codes "RINEX VERSION / TYPE") more in
    rw r (omega (arith, length-append a rest), refl)

pub returns-then-text-gt40-clause-shown : goal.returns-then-text-gt40-clause-shown
returns-then-text-gt40-clause-shown c = λ file good line.
    let at = at_letter c.args.text.now line.0 file line.1 in
    c.file_letter.ensures.same (subst IsFileLetter (sym at.1) good) ∙ at.1

pub returns-else-text-gt40-clause-shown : goal.returns-else-text-gt40-clause-shown
returns-else-text-gt40-clause-shown c = λ file good line.
    let at = (at_letter c.args.text.now line.0 file line.1).0 in absurd (omega (arith, at))
