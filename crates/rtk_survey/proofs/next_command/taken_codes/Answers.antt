use Rattle.std.proofs.Common.{◌&&◌, ◌||◌, ◌∙◌, Bool, ap}
use Rattle.rtk_message.specs.declared.system.System.{System}
use Rattle.rtk_message.specs.declared.system.System.TheVariants.{Glonass, Galileo, Beidou, Qzss, Sbas, Navic}
use Rattle.rtk_obs.specs.AnyCode.{number_of}
use Rattle.rtk_survey.specs.BitMarks.{is_marked_in}
use Rattle.rtk_survey.specs.Chains.{clocks_at}
use Rattle.rtk_survey.specs.NextCommand.{takes_code, takes_code_1012, takes_code_1004, other_taken}
use Rattle.rtk_survey.specs.Steps.OtherSystems.{codes_held_by, legacy_held}
use Rattle.rtk_survey.specs.Steps.Tables.{system_epochs_held}
use Rattle.rtk_survey.proofs.next_command.taken_codes.Goals as goal

pub returns : goal.returns
unfolding other_taken
returns c = λ k.
    let s = c.args.station.now in
    let takes : System → Bool = λ system. takes_code c.args.date (clocks_at s.clocks).offsets (system_epochs_held s) (codes_held_by s) k system in
    let legacy : Bool = c.takes_1012-legacy.result in
    let by_1012 : Bool = takes_code_1012 c.args.date (clocks_at s.clocks).offsets (codes_held_by s) k in
    let by_1004 : Bool = takes_code_1004 c.args.date (clocks_at s.clocks).offsets (codes_held_by s) k in
    c.join_1012.ensures k
    ∙ ap (λ (b : Bool). (b && by_1012) || is_marked_in c.join_1004.new.marks.words (number_of k)) c.takes_1012-legacy.ensures
    ∙ ap (λ (b : Bool). (legacy_held c.args.date s && by_1012) || b) (c.join_1004.ensures k
    ∙ ap (λ (b : Bool). by_1004 || b) (c.join_system-6.ensures k
    ∙ ap (λ (b : Bool). takes Glonass || b) (c.join_system-5.ensures k
    ∙ ap (λ (b : Bool). takes Galileo || b) (c.join_system-4.ensures k
    ∙ ap (λ (b : Bool). takes Beidou || b) (c.join_system-3.ensures k
    ∙ ap (λ (b : Bool). takes Qzss || b) (c.join_system-2.ensures k
    ∙ ap (λ (b : Bool). takes Sbas || b) (c.join_system.ensures k
    ∙ ap (λ (b : Bool). takes Navic || b) (c.new-marks.ensures (number_of k)))))))))
