use Rattle.std.proofs.Common.{◌∙◌, sym}
use Rattle.rtk_cut.proofs.KeptFileLemmas.{first-none, first-found, first-more, first-all}
use Rattle.rtk_cut.proofs.kept_file.first_kept.Goals as goal

pub loop-read-init : goal.loop-read-init
loop-read-init c = λ epochs left. first-none c.args.kept c.args.otherwise epochs c.args.records left

pub loop-read-preserved : goal.loop-read-preserved
loop-read-preserved c = λ epochs left.
    first-more c.args.kept c.args.otherwise epochs c.loop-read.rest c.next.new.self c.in-Some.read (c.loop-read.invariant epochs left) c.in-Some.ensures.next
    (λ e is. sym c.if-keeps_some.false ∙ c.keeps_some.ensures e is)

pub returns-then-keeps_some : goal.returns-then-keeps_some
returns-then-keeps_some c = λ epochs left.
    c.time.ensures
    ∙ first-found c.args.kept c.args.otherwise epochs c.loop-read.rest c.next.new.self c.in-Some.read (c.loop-read.invariant epochs left) c.in-Some.ensures.next
    (λ e is. sym c.if-keeps_some.true ∙ c.keeps_some.ensures e is)

pub returns : goal.returns
returns c = λ epochs left. first-all c.args.kept c.args.otherwise epochs c.loop-read.rest (c.loop-read.invariant epochs left) c.in_default.ensures.next
