use Rattle.std.proofs.Common.{◌≡◌, ◌∙◌, ◌++◌, List, Option, Some, None, map, ap, subst, sym}
use Rattle.std.proofs.lemmas.List.{append-nil}
use Rattle.rtk_quality.specs.Largest.{list_of, AreLargest}
use Rattle.rtk_quality.specs.Missing.{if_listed, ended_missings, open_missing, missing_code, size_of_missing}
use Rattle.rtk_quality.specs.declared.missing.MissingCode.{MissingCode}
use Rattle.rtk_quality.specs.declared.runs.Run.{Run}
use Rattle.rtk_quality.proofs.MissingCodeLemmas.{last-run}
use Rattle.rtk_quality.proofs.missing.note_runs.Goals as goal

pub returns-in_ok-note-in-Some : goal.returns-in_ok-note-in-Some
returns-in_ok-note-in-Some c = λ place before all stands are.
    let one : Run → MissingCode = missing_code c.args.satellite c.args.code in
    let ended : List Run = ended_missings c.args.interval place before in
    let listed : if_listed c.args.interval (open_missing c.args.interval place before) ≡ Some c.in-Some.run' =
    ap (λ (o : Option Run). if_listed c.args.interval o) (sym stands.newest) ∙ sym c.if_listed.ensures ∙ c.in-Some.is in
    let so_far = subst (λ (rs : List Run). AreLargest size_of_missing c.note_ended.new.missing (all ++ map one rs)) (c.as_slice.ensures.value ∙ stands.ended) (c.in_ok-note_ended.ensures all are) in
    last-run size_of_missing one ended (list_of (if_listed c.args.interval (open_missing c.args.interval place before))) _ all
    (subst (λ (o : Option Run). AreLargest size_of_missing c.note.new.self ((all ++ map one ended) ++ map one (list_of o))) (sym listed)
    (c.in_ok-note-in-Some.ensures (all ++ map one ended) so_far))

pub returns-in-None : goal.returns-in-None
returns-in-None c = λ place before all stands are.
    let one : Run → MissingCode = missing_code c.args.satellite c.args.code in
    let ended : List Run = ended_missings c.args.interval place before in
    let listed : if_listed c.args.interval (open_missing c.args.interval place before) ≡ None =
    ap (λ (o : Option Run). if_listed c.args.interval o) (sym stands.newest) ∙ sym c.if_listed.ensures ∙ c.in-None.is in
    let so_far = subst (λ (rs : List Run). AreLargest size_of_missing c.note_ended.new.missing (all ++ map one rs)) (c.as_slice.ensures.value ∙ stands.ended) (c.in_ok-note_ended.ensures all are) in
    last-run size_of_missing one ended (list_of (if_listed c.args.interval (open_missing c.args.interval place before))) _ all
    (subst (λ (o : Option Run). AreLargest size_of_missing c.note_ended.new.missing ((all ++ map one ended) ++ map one (list_of o))) (sym listed)
    (subst (λ (ms : List MissingCode). AreLargest size_of_missing c.note_ended.new.missing ms) (sym (append-nil (all ++ map one ended))) so_far))
