use Rattle.rtk_quality.specs.SatellitePasses.{passes_of}
use Rattle.rtk_quality.specs.Entries.{pass_entry}
use Rattle.rtk_quality.specs.Standing.{ended_of}
use Rattle.rtk_quality.proofs.SectionLemmas.{some-put, none-put}
use Rattle.rtk_quality.proofs.sections.put_passes.Goals as goal

pub returns-in_ok-put_pass_entry-in-Some : goal.returns-in_ok-put_pass_entry-in-Some
returns-in_ok-put_pass_entry-in-Some c = λ interval before stands ended.
    some-put (pass_entry c.args.form c.args.satellite) (passes_of interval before) c.args.counts.now.last c.in-Some.pass (ended_of c.args.satellite c.args.ended.now)
    c.args.text.now.items c.put_ended.new.text.items c.put_pass_entry.new.text.items stands.last c.in-Some.is ended c.in_ok-put_ended.ensures c.in_ok-put_pass_entry-in-Some.ensures

pub returns-in-None : goal.returns-in-None
returns-in-None c = λ interval before stands ended.
    none-put (pass_entry c.args.form c.args.satellite) (passes_of interval before) c.args.counts.now.last (ended_of c.args.satellite c.args.ended.now)
    c.args.text.now.items c.put_ended.new.text.items stands.last c.in-None.is ended c.in_ok-put_ended.ensures
