use Rattle.std.proofs.Common.{◌≡◌, take}
use Rattle.std.specs.Prelude.{filter, not}
use Rattle.rtk_commands.specs.Hex.{is_white_space}
use Rattle.rtk_commands.proofs.hex_input.decode_hex.Given as goal

abbrev pub invariant-loop-byte : goal.invariant-loop-byte
invariant-loop-byte l = l.digits.items ≡ filter (λ byte. not (is_white_space byte)) (take l.byte-index l.text)
