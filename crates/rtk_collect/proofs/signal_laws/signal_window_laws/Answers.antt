use Rattle.rtk_collect.specs.Signals.{signals, entries_by}
use Rattle.rtk_collect.proofs.ArrivalsLemmas.{with_arrival-new, with_arrival-below, with_arrival-same, kept-falls}
use Rattle.rtk_collect.proofs.EqualityLemmas.{any_satellite_code-same}
use Rattle.rtk_collect.proofs.FewLemmas.{kept-are-greatest}
use Rattle.rtk_collect.proofs.FirstLemmas.{first-is-kept}
use Rattle.rtk_collect.proofs.JoinsLemmas.{closed-rest}
use Rattle.rtk_collect.proofs.LateLemmas.{late-change-nothing, closed-only-grow, closed-fall, closed-after, kept-late, kept-new}
use Rattle.rtk_collect.proofs.MembersLemmas.{kept-are-taken}
use Rattle.rtk_collect.proofs.NextWindowLemmas.{new-window-is-empty, windows-answer, answers-unique, windows-unique}
use Rattle.rtk_collect.proofs.OpeningLemmas.{held-length, closed-length}
use Rattle.rtk_collect.proofs.PreferredLemmas.{first-is-preferred}
use Rattle.rtk_collect.proofs.SetsLemmas.{set-decides, kept-same, kept-rise}
use Rattle.rtk_collect.proofs.SignalGpsLemmas.{gps-is-kept}
use Rattle.rtk_collect.proofs.SignalLemmas.{signal-keys-are-distinct, gps-keeps-its-order, epochs-are-of-satellites, signals-are-few, signals-open, signals-close}
use Rattle.rtk_collect.proofs.signal_laws.signal_window_laws.Goals as goal

pub returns-clause-keys : goal.returns-clause-keys
returns-clause-keys c = signal-keys-are-distinct

pub returns-clause-order : goal.returns-clause-order
returns-clause-order c = gps-keeps-its-order

pub returns-clause-satellites : goal.returns-clause-satellites
returns-clause-satellites c = epochs-are-of-satellites

pub returns-clause-equality : goal.returns-clause-equality
returns-clause-equality c = any_satellite_code-same

pub returns-clause-cells : goal.returns-clause-cells
returns-clause-cells c = signals-are-few

pub returns-clause-opens : goal.returns-clause-opens
returns-clause-opens c = signals-open

pub returns-clause-closes : goal.returns-clause-closes
returns-clause-closes c = signals-close

pub returns-clause-new : goal.returns-clause-new
returns-clause-new c = λ sbas doppler channels. new-window-is-empty signals (entries_by sbas doppler channels)

pub returns-clause-answers : goal.returns-clause-answers
returns-clause-answers c = λ sbas doppler channels. windows-answer signals (entries_by sbas doppler channels)

pub returns-clause-one_answer : goal.returns-clause-one_answer
returns-clause-one_answer c = λ sbas doppler channels. answers-unique signals (entries_by sbas doppler channels)

pub returns-clause-one_window : goal.returns-clause-one_window
returns-clause-one_window c = λ sbas doppler channels. windows-unique signals (entries_by sbas doppler channels)

pub returns-clause-late_change_nothing : goal.returns-clause-late_change_nothing
returns-clause-late_change_nothing c = λ sbas doppler channels. late-change-nothing signals (entries_by sbas doppler channels)

pub returns-clause-closed_grow : goal.returns-clause-closed_grow
returns-clause-closed_grow c = λ sbas doppler channels. closed-only-grow signals (entries_by sbas doppler channels)

pub returns-clause-closed_fall : goal.returns-clause-closed_fall
returns-clause-closed_fall c = λ sbas doppler channels. closed-fall signals (entries_by sbas doppler channels)

pub returns-clause-closed_after : goal.returns-clause-closed_after
returns-clause-closed_after c = λ sbas doppler channels. closed-after signals (entries_by sbas doppler channels)

pub returns-clause-closed_rest : goal.returns-clause-closed_rest
returns-clause-closed_rest c = λ sbas doppler channels. closed-rest signals (entries_by sbas doppler channels)

pub returns-clause-closed_count : goal.returns-clause-closed_count
returns-clause-closed_count c = λ sbas doppler channels. closed-length signals (entries_by sbas doppler channels)

pub returns-clause-taken : goal.returns-clause-taken
returns-clause-taken c = λ sbas doppler channels. kept-are-taken signals (entries_by sbas doppler channels)

pub returns-clause-same : goal.returns-clause-same
returns-clause-same c = λ sbas doppler channels. set-decides signals (entries_by sbas doppler channels)

pub returns-clause-late : goal.returns-clause-late
returns-clause-late c = λ sbas doppler channels. kept-late signals (entries_by sbas doppler channels)

pub returns-clause-in_time : goal.returns-clause-in_time
returns-clause-in_time c = λ sbas doppler channels. kept-new signals (entries_by sbas doppler channels)

pub returns-clause-held : goal.returns-clause-held
returns-clause-held c = λ sbas doppler channels. held-length signals (entries_by sbas doppler channels)

pub returns-clause-fall : goal.returns-clause-fall
returns-clause-fall c = λ sbas doppler channels. kept-falls signals (entries_by sbas doppler channels)

pub returns-clause-rise : goal.returns-clause-rise
returns-clause-rise c = λ sbas doppler channels. kept-rise signals (entries_by sbas doppler channels)

pub returns-clause-greatest : goal.returns-clause-greatest
returns-clause-greatest c = λ sbas doppler channels. kept-are-greatest signals (entries_by sbas doppler channels)

pub returns-clause-first : goal.returns-clause-first
returns-clause-first c = λ sbas doppler channels. first-is-kept signals (entries_by sbas doppler channels)

pub returns-clause-joins_greater : goal.returns-clause-joins_greater
returns-clause-joins_greater c = with_arrival-new signals

pub returns-clause-joins_same : goal.returns-clause-joins_same
returns-clause-joins_same c = with_arrival-same signals

pub returns-clause-joins_lesser : goal.returns-clause-joins_lesser
returns-clause-joins_lesser c = with_arrival-below signals

pub returns-clause-ordered : goal.returns-clause-ordered
returns-clause-ordered c = kept-same signals

pub returns-clause-preferred : goal.returns-clause-preferred
returns-clause-preferred c = first-is-preferred signals

pub returns-clause-gps : goal.returns-clause-gps
returns-clause-gps c = gps-is-kept
