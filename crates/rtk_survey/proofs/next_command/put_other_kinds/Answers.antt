use Rattle.std.proofs.Common.{◌++◌, ℕ, List}
use Rattle.rtk_message.specs.declared.system.System.{System}
use Rattle.rtk_message.specs.declared.system.System.TheVariants.{Glonass, Galileo, Beidou, Qzss, Sbas, Navic}
use Rattle.rtk_survey.specs.NextCommand.{other_kind_text, other_kinds_text}
use Rattle.rtk_survey.specs.Steps.Tables.{system_epochs_held}
use Rattle.rtk_survey.proofs.ListLemmas.{and-then}
use Rattle.rtk_survey.proofs.next_command.put_other_kinds.Goals as goal

pub returns : goal.returns
unfolding other_kinds_text
returns c =
    let text : System → List ℕ = λ s. other_kind_text c.args.first (system_epochs_held c.args.station.now) c.args.sent.now s in
    let l0 : List ℕ = c.args.text.now.items in
    let l1 : List ℕ = c.put_other_kind.new.text.items in
    let l2 : List ℕ = c.put_other_kind-2.new.text.items in
    let l3 : List ℕ = c.put_other_kind-3.new.text.items in
    let l4 : List ℕ = c.put_other_kind-4.new.text.items in
    let l5 : List ℕ = c.put_other_kind-5.new.text.items in
    let l6 : List ℕ = c.put_other_kind-6.new.text.items in
    let r : List ℕ = text Glonass in
    let e : List ℕ = text Galileo in
    let b : List ℕ = text Beidou in
    let j : List ℕ = text Qzss in
    let a : List ℕ = text Sbas in
    let n : List ℕ = text Navic in
    and-then l0 l5 l6 (r ++ e ++ b ++ j ++ a) n
    (and-then l0 l4 l5 (r ++ e ++ b ++ j) a
    (and-then l0 l3 l4 (r ++ e ++ b) j
    (and-then l0 l2 l3 (r ++ e) b
    (and-then l0 l1 l2 r e c.in_ok-put_other_kind.ensures c.in_ok-put_other_kind-2.ensures)
    c.in_ok-put_other_kind-3.ensures)
    c.in_ok-put_other_kind-4.ensures)
    c.in_ok-put_other_kind-5.ensures)
    c.in_ok-put_other_kind-6.ensures
