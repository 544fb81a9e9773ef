-- The fault line of a cause.
use Rattle.rtk_cli.specs.declared.words.BadWords.{BadWords}
use Rattle.rtk_cli.specs.declared.words.WordsFault.{WordsFault}
use Rattle.rtk_cli.specs.declared.words.WordsFault.TheVariants.{Clap, Bad, OutOfMemory}
use Rattle.rtk_cli.specs.FaultLines.{TellsCause, IsRefusal}
use Rattle.rtk_cli.specs.Words.{IsWordsFault}

pub has_line : (cause : BadWords) (fault : WordsFault) → TellsCause cause fault → IsWordsFault fault
has_line cause (Clap text status) tells = absurd tells
has_line cause (Bad line more) tells = (cause, tells)
has_line cause OutOfMemory tells = tt

pub refusal_has_line : (IsCause : BadWords → Type 0) (fault : WordsFault) → IsRefusal IsCause fault → IsWordsFault fault
refusal_has_line IsCause (Clap text status) (cause, is, tells) = absurd tells
refusal_has_line IsCause (Bad line more) (cause, is, tells) = (cause, tells)
refusal_has_line IsCause OutOfMemory refused = tt
