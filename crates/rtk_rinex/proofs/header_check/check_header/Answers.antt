use Rattle.std.proofs.Common.{◌≡◌, ◌∙◌, ◌++◌, List, ℕ, drop, length, ap, sym}
use Rattle.std.proofs.lemmas.Result.{err_from_is_err_and}
use Rattle.rtk_rinex.specs.Header.{position_view, header_text}
use Rattle.rtk_rinex.specs.HeaderFault.{IsFaultOfHeader}
use Rattle.rtk_rinex.specs.Steps.HeaderRead.{ShowsHeader, IsUnlike}
use Rattle.rtk_rinex.specs.declared.check_fault.CheckFault.{CheckFault}
use Rattle.rtk_rinex.specs.declared.header_check.HeaderParts.{HeaderParts}
use Rattle.rtk_rinex.proofs.HeaderRowsLemmas.{Values, IsGood, values_of, text_with}
use Rattle.rtk_rinex.proofs.HeaderVerdictLemmas.{HasAll, has_all, only_header, fault_is}
use Rattle.rtk_rinex.proofs.OneHeaderLemmas.{has-fault-after, no_header}
use Rattle.rtk_rinex.proofs.TextLemmas.{on_err}
use Rattle.rtk_rinex.proofs.header_check.check_header.Goals as goal

-- the values that were read, and what is written of them
abbrev values : HeaderParts → Values
values p = values_of p.head (position_view p.position) p.first

-- ---- the text has all lines

all : (c : goal.After-len) → HasAll c.in_ok-lines.lines c.args.text.now c.as_slice.result.now
all c =
    let p = c.read_header-parts.result in
    let g = c.read_header-parts.ensures.good in
    let a = c.in_ok-lines.ensures.alike in
    has_all c.in_ok-lines.lines c.args.text.now c.as_slice.result.now a.0 a.1 (values p) (record { heading = g.0; site = g.1; first = g.2 })
    (c.as_slice.ensures.value ∙ c.read_header-parts.ensures.written) a.2 a.3

pub returns-clause-text : goal.returns-clause-text
returns-clause-text c =
    let p = c.read_header-parts.result in
    let is = c.as_slice.ensures.value ∙ c.read_header-parts.ensures.written in
    (all c).begins ∙ ap (λ (w : List ℕ). w ++ drop (length c.as_slice.result.now) c.args.text.now) is
    ∙ ap (λ (n : ℕ). header_text p.head (position_view p.position) p.first ++ drop n c.args.text.now) (ap length c.as_slice.ensures.value ∙ sym c.len.ensures.value)

pub returns-clause-size : goal.returns-clause-size
returns-clause-size c =
    let is = c.as_slice.ensures.value ∙ c.read_header-parts.ensures.written in
    (c.len.ensures.value ∙ ap length c.read_header-parts.ensures.written, rw is at (all c).lines)

pub returns-clause-only : goal.returns-clause-only
returns-clause-only c =
    let p = c.read_header-parts.result in
    let g = c.read_header-parts.ensures.good in
    let is = c.as_slice.ensures.value ∙ c.read_header-parts.ensures.written in
    only_header c.args.text.now (drop (length c.as_slice.result.now) c.args.text.now) (values p) c.code_laws.ensures.names (record { heading = g.0; site = g.1; first = g.2 })
    ((all c).begins ∙ ap (λ (w : List ℕ). w ++ drop (length c.as_slice.result.now) c.args.text.now) is)

-- ---- a line of the text is another one

fault : (p : HeaderParts) (text written : List ℕ) (f : CheckFault) → IsGood (values p) → written ≡ text_with (values p) → ShowsHeader text written → IsUnlike text written f → IsFaultOfHeader text f
fault p text written f g is shows unlike = fault_is text written (values p) f g is shows unlike

pub returns-in_err-lines-clause-fault : goal.returns-in_err-lines-clause-fault
returns-in_err-lines-clause-fault c =
    let p = err_from_is_err_and c.from_residual.result c.from_residual.ensures.1 in
    let g = c.read_header-parts.ensures.good in
    let f = c.in_err-lines.field-0.0 in
    rw p.1 (rw p.2 (fault c.read_header-parts.result c.args.text.now c.as_slice.result.now f (record { heading = g.0; site = g.1; first = g.2 })
    (c.as_slice.ensures.value ∙ c.read_header-parts.ensures.written) (rw c.as_slice.ensures.value c.read_header-parts.ensures.shown) c.in_err-lines.ensures.unlike))

pub returns-in_err-lines-clause-none : goal.returns-in_err-lines-clause-none
returns-in_err-lines-clause-none c =
    let g = c.read_header-parts.ensures.good in
    let f = c.in_err-lines.field-0.0 in
    let is = fault c.read_header-parts.result c.args.text.now c.as_slice.result.now f (record { heading = g.0; site = g.1; first = g.2 })
    (c.as_slice.ensures.value ∙ c.read_header-parts.ensures.written) (rw c.as_slice.ensures.value c.read_header-parts.ensures.shown) c.in_err-lines.ensures.unlike in
    on_err c.from_residual.result (no_header is.0 c.args.text.now f.cause (has-fault-after is.0 c.args.text.now f.cause is.2))
