use Rattle.std.proofs.Common.{◌≡◌, ℕ, [], ap, ◌∙◌, arith}
use Rattle.std.specs.Prelude.{flat_map}
use Rattle.std.specs.List.{range_with_len}
use Rattle.rtk_survey.proofs.PublicLaws.{put-more}
use Rattle.rtk_captures.specs.RefusalLists.{listed_station, listed_stations}
use Rattle.rtk_captures.proofs.captures.Captures.list_stations.Goals as goal

pub loop-station-preserved : goal.loop-station-preserved
loop-station-preserved c =
    let n : ℕ = c.loop-station.station in
    put-more (listed_station c.args.self.now.names.now c.args.self.now.surveys.now) 0 n n [] c.loop-station.lines.items c.put_station_lines.new.lines.items
    (omega arith) c.loop-station.invariant c.in_ok-put_station_lines.ensures

pub returns : goal.returns
unfolding listed_stations
returns c =
    let end : c.loop-station.station ≡ 4096 = omega (arith, c.loop-station.auto.station-end, c.loop-station-test.false) in
    c.loop-station.invariant
    ∙ ap (λ (k : ℕ). flat_map (listed_station c.args.self.now.names.now c.args.self.now.surveys.now) (range_with_len 0 k)) end
