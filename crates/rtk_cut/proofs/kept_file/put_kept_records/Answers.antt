use Rattle.std.proofs.Common.{Bool, refl, ap, ◌∙◌}
use Rattle.rtk_rinex.specs.MixedForm.{FormView}
use Rattle.rtk_cut.proofs.KeptFileLemmas.{put-none, put-more, put-all}
use Rattle.rtk_cut.proofs.kept_file.put_kept_records.Goals as goal

pub loop-read-init : goal.loop-read-init
loop-read-init c = record { form = refl; put = λ epochs left. put-none c.args.records.form.doppler c.args.kept epochs c.args.records c.args.text.now.items left }

pub loop-read-preserved : goal.loop-read-preserved
loop-read-preserved c =
    let i = c.loop-read.invariant in
    let doppler : Bool = c.args.records.form.doppler in
    record {
      form = c.next.ensures.form ∙ i.form;
      put = λ epochs left.
          put-more doppler c.args.kept epochs c.loop-read.rest c.next.new.self c.in-Some.read c.args.text.now.items c.loop-read.text.items c.put_kept_record.new.text.items
          (i.put epochs left) c.in-Some.ensures.next (ap (λ (f : FormView). f.doppler) (c.in-Some.ensures.same_form ∙ i.form)) c.in_ok-put_kept_record.ensures;
    }

pub returns : goal.returns
returns c = λ epochs left.
    put-all c.args.records.form.doppler c.args.kept epochs c.loop-read.rest c.args.text.now.items c.loop-read.text.items (c.loop-read.invariant.put epochs left) c.in_default.ensures.next
