use Rattle.std.proofs.Common.{◌≡◌, ℕ, refl}
use Rattle.rtk_message.specs.declared.any_fault.AnyFault.{AnyFault}
use Rattle.rtk_message.specs.declared.any_fault.AnyFault.TheVariants.{NoNumber, Other, Short, EpochRange, TooManyCells}
use Rattle.rtk_commands.specs.ShownBySet.{any_refusal_text, any_unread_text}
use Rattle.rtk_commands.proofs.payload_line.put_unread.Goals as goal

-- every fault but the number of another message is shown as a refusal
refused : (fault : AnyFault) → ((number : ℕ) → fault ≡ Other number → ⊥) → any_refusal_text fault ≡ any_unread_text fault
refused NoNumber other = refl
refused (Other number) other = absurd (other number refl)
refused (Short number) other = refl
refused (EpochRange number) other = refl
refused (TooManyCells number) other = refl

pub returns-in_default : goal.returns-in_default
returns-in_default c = rw (refused c.args.fault c.in_default.not-Other) at c.put_refusal.ensures
