use Rattle.std.proofs.Common.{◌≡◌, ◌++◌, ℕ, List, Option, sym, subst, ap, ◌∙◌, arith}
use Rattle.std.specs.Prelude.{flat_map}
use Rattle.std.specs.List.{range_with_len}
use Rattle.rtk_survey.specs.Contents.{IsHeard}
use Rattle.rtk_survey.specs.EquipmentHistory.{equipment_of}
use Rattle.rtk_survey.specs.FrameDates.{station_dates}
use Rattle.rtk_survey.specs.ReadFrames.{messages_from}
use Rattle.rtk_survey.specs.Summary.{all_numbers, lines_if_any, stations_text}
use Rattle.rtk_survey.specs.declared.station.StationSurvey.{StationSurvey}
use Rattle.rtk_survey.proofs.ListLemmas.{put-more}
use Rattle.rtk_survey.proofs.lines.put_stations.Goals as goal

pub loop-number-preserved : goal.loop-number-preserved
loop-number-preserved c = λ ms ds es all.
    let name : List ℕ = c.args.name.now in
    let n : ℕ = c.loop-number.number-counter in
    let lines : ℕ → List ℕ = λ s. lines_if_any name s (messages_from s ms) (station_dates s ds) (equipment_of s es) in
    put-more lines 0 n n c.args.lines.now.items c.loop-number.lines.items c.put_station_if_any.new.lines.items
    (omega arith) (c.loop-number.invariant ms ds es all)
    (c.in_ok-put_station_if_any.ensures (messages_from n ms) (station_dates n ds) (equipment_of n es)
    (subst (λ (o : Option StationSurvey). IsHeard (messages_from n ms) (station_dates n ds) (equipment_of n es) o) (sym c.get.ensures.value) (all n)))

pub returns : goal.returns
unfolding stations_text all_numbers
returns c = λ ms ds es all.
    let end : c.loop-number.number-counter ≡ 4096 = omega (arith, c.loop-number.auto.number-counter-end, c.loop-number-test.false) in
    c.loop-number.invariant ms ds es all
    ∙ ap (λ (k : ℕ). c.args.lines.now.items ++ flat_map (λ s. lines_if_any c.args.name.now s (messages_from s ms) (station_dates s ds) (equipment_of s es)) (range_with_len 0 k)) end
