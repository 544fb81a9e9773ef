use Rattle.std.proofs.Common.{◌≡◌}
use Rattle.rtk_commands.proofs.PassedLemmas.{all_text}
use Rattle.rtk_commands.proofs.input.read_by.Goals as goal

pub returns-clause-whole : goal.returns-clause-whole
returns-clause-whole g c =
    let read = c.in_ok-text.ensures.whole in
    all_text g.K.Before.had c.over-source.result.number c.read_whole.new.reader.number
    (g.R.Read.remaining c.over-source.result.inner) (g.R.Read.remaining c.read_whole.new.reader.inner) (λ bytes. bytes ≡ c.in_ok-text.text.items)
    c.over-source.ensures.number (rw c.over-source.ensures.inner c.requires) c.in_ok-text.ensures.to_the_end.1 (read.0, read.1, read.2.0)
