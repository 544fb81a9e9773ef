use Rattle.std.proofs.Common.{◌∙◌, List, Option, sym, ap, subst}
use Rattle.rtk_obs.specs.declared.track.Track.{Track}
use Rattle.rtk_obs.specs.Rollover.{digits_since, last_after}
use Rattle.rtk_obs.specs.Slip.{EpochCell, epoch_cell}
use Rattle.rtk_obs.specs.Tracks.{IsLater}
use Rattle.rtk_convert.specs.LastPhases.{track_at}
use Rattle.rtk_convert.specs.Rows.{rolling_frequency}
use Rattle.rtk_convert.proofs.PhaseBlockLemmas.{IsStepIn, step-before, step-after, step-others}
use Rattle.rtk_convert.proofs.signal_phases.SignalPhases.step.Goals as goal

pub step_any-requires-clause-later : goal.step_any-requires-clause-later
step_any-requires-clause-later c =
    let e = c.args.entry.now in
    let blocks = c.self.inside.blocks.items in
    let block = c.index_mut.result.now in
    let in_block : IsStepIn blocks e.satellite e.code c.index-place.result c.from.result c.code_at-code.result block =
    record { size = c.self.invariant; is = c.requires.range.signal.0; index_is = c.index-place.ensures.value; at_is = c.from.ensures; code_is = c.code_at-code.ensures ∙ c.place.ensures.value; read = c.index_mut.ensures.value } in
    subst (λ (t : Option Track). IsLater t c.args.epoch)
    (ap (λ (t : List (Option Track)). track_at t e.satellite e.code) (sym c.self.view_is) ∙ step-before blocks e.satellite e.code c.index-place.result c.from.result c.code_at-code.result block block in_block)
    c.requires.later

pub returns-clause-digits : goal.returns-clause-digits
returns-clause-digits c =
    let e = c.args.entry.now in
    let blocks = c.self.inside.blocks.items in
    let block = c.index_mut.result.now in
    let cell : EpochCell = epoch_cell c.args.epoch e.cell in
    let in_block : IsStepIn blocks e.satellite e.code c.index-place.result c.from.result c.code_at-code.result block =
    record { size = c.self.invariant; is = c.requires.range.signal.0; index_is = c.index-place.ensures.value; at_is = c.from.ensures; code_is = c.code_at-code.ensures ∙ c.place.ensures.value; read = c.index_mut.ensures.value } in
    let before = ap (λ (t : List (Option Track)). track_at t e.satellite e.code) (sym c.self.view_is) ∙ step-before blocks e.satellite e.code c.index-place.result c.from.result c.code_at-code.result block block in_block in
    c.step_any.ensures.digits
    ∙ ap (λ (t : Option Track). digits_since (rolling_frequency e.code) t cell) (sym before)

pub returns-clause-same : goal.returns-clause-same
returns-clause-same c =
    let e = c.args.entry.now in
    let blocks = c.self.inside.blocks.items in
    let block = c.index_mut.result.now in
    let cell : EpochCell = epoch_cell c.args.epoch e.cell in
    let in_block : IsStepIn blocks e.satellite e.code c.index-place.result c.from.result c.code_at-code.result block =
    record { size = c.self.invariant; is = c.requires.range.signal.0; index_is = c.index-place.ensures.value; at_is = c.from.ensures; code_is = c.code_at-code.ensures ∙ c.place.ensures.value; read = c.index_mut.ensures.value } in
    let before = ap (λ (t : List (Option Track)). track_at t e.satellite e.code) (sym c.self.view_is) ∙ step-before blocks e.satellite e.code c.index-place.result c.from.result c.code_at-code.result block block in_block in
    step-after blocks e.satellite e.code c.index-place.result c.from.result c.code_at-code.result block c.step_any.new.self in_block
    ∙ c.step_any.ensures.same
    ∙ ap (λ (t : Option Track). last_after (rolling_frequency e.code) t cell) (sym before)

pub returns-clause-others : goal.returns-clause-others
returns-clause-others c = λ s d ne.
    let e = c.args.entry.now in
    let blocks = c.self.inside.blocks.items in
    let block = c.index_mut.result.now in
    let in_block : IsStepIn blocks e.satellite e.code c.index-place.result c.from.result c.code_at-code.result block =
    record { size = c.self.invariant; is = c.requires.range.signal.0; index_is = c.index-place.ensures.value; at_is = c.from.ensures; code_is = c.code_at-code.ensures ∙ c.place.ensures.value; read = c.index_mut.ensures.value } in
    step-others blocks e.satellite e.code c.index-place.result c.from.result c.code_at-code.result block c.step_any.new.self in_block c.step_any.ensures.others s d ne
    ∙ ap (λ (t : List (Option Track)). track_at t s d) c.self.view_is
