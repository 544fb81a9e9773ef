use Rattle.std.proofs.Common.{◌≡◌, ◌≢◌, ◌++◌, ◌∙◌, refl, sym, ap, subst}
use Rattle.std.proofs.lemmas.Bool.{eqb-true, eqb-false}
use Rattle.rtk_quality.specs.Entries.{pass_entry}
use Rattle.rtk_quality.specs.declared.file_counts.EndedPass.{EndedPass}
use Rattle.rtk_quality.proofs.SectionLemmas.{pass-put, pass-passed}
use Rattle.rtk_quality.proofs.sections.put_ended.Goals as goal
use Rattle.rtk_quality.proofs.sections.put_ended.Goals.{then-is_of+in_ok-put_pass_entry, else-is_of}

pub loop-one-preserved : goal.loop-one-preserved
loop-one-preserved c =
    let one : EndedPass = c.one-item.result in
    elim c.if-is_of.branch [
      | then-is_of+in_ok-put_pass_entry w ↦
          pass-put (pass_entry c.args.form c.args.satellite) c.args.satellite c.loop-one.one-index c.args.ended.now one c.args.text.now.items c.loop-one.text.items c.if-is_of.text.items
          c.loop-one-test.true (subst (λ (p : EndedPass). p.satellite ≡ c.args.satellite) c.one-item.is (eqb-true one.satellite c.args.satellite (sym c.is_of.ensures ∙ w.if-is_of.true)))
          c.loop-one.invariant (rw w.text-is w.in_ok-put_pass_entry.ensures ∙ ap (λ (p : EndedPass). c.loop-one.text.items ++ pass_entry c.args.form c.args.satellite p.pass) c.one-item.is)
      | else-is_of w ↦
          pass-passed (pass_entry c.args.form c.args.satellite) c.args.satellite c.loop-one.one-index c.args.ended.now one c.args.text.now.items c.loop-one.text.items c.if-is_of.text.items
          c.loop-one-test.true (subst (λ (p : EndedPass). p.satellite ≢ c.args.satellite) c.one-item.is (eqb-false one.satellite c.args.satellite (sym c.is_of.ensures ∙ w.if-is_of.false)))
          c.loop-one.invariant (rw w.text-is refl)
    ]
