use Rattle.std.proofs.Common.{rules}
use Rattle.rtk_convert.proofs.converter.Converter.refusal.Goals as goal

pub returns-then-is_stopped : goal.returns-then-is_stopped
returns-then-is_stopped c = search rules depth 5 fits 300
