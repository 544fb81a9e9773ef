use Rattle.std.proofs.Common.{inr, ◌∙◌}
use Rattle.std.proofs.lemmas.Result.{IfOk-weaker}
use Rattle.rtk_commands.proofs.KeptPartLemmas.{none-all, kept-all, kept-first, kept-some_file, of-some, match-some, match-none}
use Rattle.rtk_commands.proofs.ResultLemmas.{if-failed}
use Rattle.rtk_commands.proofs.kept_part.cut_present.Goals as goal

pub cut_plain-requires-clause-some : goal.cut_plain-requires-clause-some
cut_plain-requires-clause-some g c =
    kept-some_file c.kept_files_are_tables.ensures c.gps_files_stay.ensures.header c.gps_files_stay.ensures.records c.types_tell_shifts.ensures.mixed c.args.command.kept c.args.table.now.text _ c.requires.some
    (λ t good is. of-some _ c.in-Ok.kept c.in-Some.narrow c.in-Some.is (c.in-Ok.ensures.some t good is))
    (λ t good is. c.as_slice.ensures.value ∙ match-some _ _ c.in-Ok.kept c.in-Some.narrow c.in-Some.is (c.in-Ok.ensures.text t good is))

pub returns-in-Some-clause-all : goal.returns-in-Some-clause-all
returns-in-Some-clause-all g c =
    IfOk-weaker c.cut_plain.result.1 _ _
    (λ answer all. kept-all c.args.command c.args.table.now.text _ c.args.times c.args.label answer _ _ c.requires.some c.requires.present (λ t good is. of-some _ c.in-Ok.kept c.in-Some.narrow c.in-Some.is (c.in-Ok.ensures.some t good is))
    (λ t good is. c.as_slice.ensures.value ∙ match-some _ _ c.in-Ok.kept c.in-Some.narrow c.in-Some.is (c.in-Ok.ensures.text t good is)) all) c.cut_plain.ensures.all

pub returns-in-None-clause-all : goal.returns-in-None-clause-all
returns-in-None-clause-all g c = none-all c.args.command c.args.table.now.text c.args.times c.args.label _ c.requires.some c.requires.present (λ t good is. match-none _ _ c.in-Ok.kept c.in-None.is (c.in-Ok.ensures.text t good is))

pub returns-in-Some-clause-part : goal.returns-in-Some-clause-part
returns-in-Some-clause-part g c e =
    kept-first c.args.command c.args.table.now.text _ c.args.times c.args.label _ _ c.requires.some c.requires.present (λ t good is. of-some _ c.in-Ok.kept c.in-Some.narrow c.in-Some.is (c.in-Ok.ensures.some t good is))
    (λ t good is. c.as_slice.ensures.value ∙ match-some _ _ c.in-Ok.kept c.in-Some.narrow c.in-Some.is (c.in-Ok.ensures.text t good is))
    (if-failed c.cut_plain.result.1 e c.cut_plain.ensures.first)

pub returns-in-Some-clause-memory : goal.returns-in-Some-clause-memory
returns-in-Some-clause-memory g c e =
    inr (kept-first c.args.command c.args.table.now.text _ c.args.times c.args.label _ _ c.requires.some c.requires.present (λ t good is. of-some _ c.in-Ok.kept c.in-Some.narrow c.in-Some.is (c.in-Ok.ensures.some t good is))
    (λ t good is. c.as_slice.ensures.value ∙ match-some _ _ c.in-Ok.kept c.in-Some.narrow c.in-Some.is (c.in-Ok.ensures.text t good is))
    (if-failed c.cut_plain.result.1 e c.cut_plain.ensures.first))
