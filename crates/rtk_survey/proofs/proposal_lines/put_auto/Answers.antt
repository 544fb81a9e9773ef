use Rattle.std.proofs.Common.{◌≡◌, ◌++◌, ◌∷◌, [], List, ℕ, Bool, true, false, if◌then◌else◌, codes, decimal, append_assoc, ap, sym, ◌∙◌}
use Rattle.std.proofs.lemmas.List.{append-nil}
use Rattle.rtk_message.specs.ShellText.{sh_quoted}
use Rattle.rtk_obs.specs.CivilText.{last_digits}
use Rattle.rtk_survey.specs.SummaryText.{is_standard_input, auto_line}
use Rattle.rtk_survey.proofs.proposal_lines.put_auto.Goals as goal

abbrev words : List ℕ → ℕ → List ℕ
words name station =
    codes " auto rtcm2rinex auto --station " ++ decimal station ++ codes " -o " ++ last_digits 4 station ++ codes ".rnx " ++ sh_quoted name ++ 10 ∷ []

auto-none : (name : List ℕ) (station : ℕ) → is_standard_input name ≡ true → auto_line name station ≡ []
auto-none name station is = ap (λ (b : Bool). if b then [] else words name station) is

auto-some : (name : List ℕ) (station : ℕ) → is_standard_input name ≡ false → auto_line name station ≡ words name station
auto-some name station is = ap (λ (b : Bool). if b then [] else words name station) is

regrouped : (a w d o m r q e : List ℕ) → ((((((a ++ w) ++ d) ++ o) ++ m) ++ r) ++ q) ++ e ≡ a ++ (w ++ d ++ o ++ m ++ r ++ q ++ e)
regrouped a w d o m r q e = simp append_assoc

pub returns-then-is_standard_input : goal.returns-then-is_standard_input
returns-then-is_standard_input c =
    rw (auto-none c.args.name.now c.args.station (sym c.is_standard_input.ensures ∙ c.if-is_standard_input.true)) (sym (append-nil c.args.lines.now.items))

pub returns : goal.returns
returns c =
    let station : ℕ = c.args.station in
    rw (
      auto-some c.args.name.now station (sym c.is_standard_input.ensures ∙ c.if-is_standard_input.false),
      c.in_ok-push.ensures.items,
      c.in_ok-put_sh_quoted.ensures,
      c.in_ok-extend_from_slice-3.ensures.items,
      c.in_ok-extend_from_slice-2.ensures.items,
      c.marker_of.ensures,
      c.in_ok-extend_from_slice.ensures.items,
      c.in_ok-put_named.ensures,
      c.from.ensures,
    ) (regrouped c.args.lines.now.items (codes " auto rtcm2rinex auto --station ") (decimal station) (codes " -o ") (last_digits 4 station) (codes ".rnx ") (sh_quoted c.args.name.now) (10 ∷ []))
