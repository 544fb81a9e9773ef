use Rattle.std.proofs.Common.{rules}
use Rattle.rtk_convert.proofs.writing.write_record.Goals as goal

pub returns-then-is_header_out-clause-puts : goal.returns-then-is_header_out-clause-puts
returns-then-is_header_out-clause-puts g c = search rules depth 5 fits 300
