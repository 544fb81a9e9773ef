use Rattle.std.proofs.Common.{◌≡◌, ◌==◌, ◌&&◌, ◌||◌, ◌∙◌, ℕ, Bool, true, false, sym, ap}
use Rattle.std.specs.List.{list_any}
use Rattle.rtk_obs.specs.AnyCode.{number_of}
use Rattle.rtk_survey.specs.BesideGps.{gives_index, gives_number, signal_has_value}
use Rattle.rtk_survey.specs.BitMarks.{is_marked_in}
use Rattle.rtk_survey.proofs.system_signals.SystemSignals.mark_entry.Goals as goal

pub returns-then-has_value : goal.returns-then-has_value
returns-then-has_value c = λ es stands.
    let x = c.args.entry.now in
    let s = c.args.self.now in
    let valued : signal_has_value x ≡ true = sym c.has_value.ensures ∙ c.if-has_value.true in
    record {
      satellites = λ n.
          c.mark.ensures n ∙ ap (λ (k : ℕ). (k == n) || is_marked_in s.satellites.words n) (c.from.ensures ∙ c.index.ensures.value)
          ∙ ap (λ (b : Bool). (x.satellite == n) || b) (stands.satellites n)
          ∙ ap (λ (b : Bool). (b && (x.satellite == n)) || list_any (gives_index n) es) (sym valued);
      codes = λ n.
          c.mark-then-has_value.ensures n ∙ ap (λ (k : ℕ). (k == n) || is_marked_in s.codes.words n) c.number.ensures.value
          ∙ ap (λ (b : Bool). (number_of x.code == n) || b) (stands.codes n)
          ∙ ap (λ (b : Bool). (b && (number_of x.code == n)) || list_any (gives_number n) es) (sym valued);
    }

pub returns-else-has_value : goal.returns-else-has_value
returns-else-has_value c = λ es stands.
    let x = c.args.entry.now in
    let valueless : signal_has_value x ≡ false = sym c.has_value.ensures ∙ c.if-has_value.false in
    record {
      satellites = λ n.
          stands.satellites n ∙ ap (λ (b : Bool). (b && (x.satellite == n)) || list_any (gives_index n) es) (sym valueless);
      codes = λ n.
          stands.codes n ∙ ap (λ (b : Bool). (b && (number_of x.code == n)) || list_any (gives_number n) es) (sym valueless);
    }
