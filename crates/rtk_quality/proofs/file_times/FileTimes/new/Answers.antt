use Rattle.rtk_quality.proofs.file_times.FileTimes.new.Goals as goal

pub returns : goal.returns
returns c = λ unit. record { records = c.new.ensures unit; gaps = c.new-2.ensures }
