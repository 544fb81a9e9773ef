use Rattle.rtk_plan.proofs.setup_seconds.seconds_of_setup.Goals as goal

pub returns : goal.returns
returns c = (c.args.span.now, c.requires, c.in_ok-seconds.ensures)
