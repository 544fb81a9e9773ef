-- Which time lines stand at the begin of a text.
use Rattle.std.specs.Prelude.{◌≡◌, ◌≤◌, ℕ, List, [], ◌∷◌, ◌++◌, length, take, drop, Option, IfSome}
use Rattle.rtk_rinex.specs.Columns.{left}
use Rattle.rtk_obs.specs.Reading.{IsMoment}
use Rattle.rtk_label.specs.TimeLines.{interval_label, last_label, extent_lines}
use Rattle.rtk_label.specs.declared.time_lines.TimeLines.{TimeLines}

-- formula
-- the columns 61 to 80 of a line with this label, and its LF
abbrev pub label_end : List ℕ → List ℕ
label_end label = left 20 label ++ 10 ∷ []

-- the text begins with a line of this label
abbrev pub BeginsWith : List ℕ → List ℕ → Type 0
BeginsWith label text = take 21 (drop 60 text) ≡ label_end label

-- it begins with no time line
abbrev pub HasNoTimeLine : List ℕ → Type 0
HasNoTimeLine text = ¬ (BeginsWith interval_label text) × ¬ (BeginsWith last_label text)

-- these are the time lines at the begin of a text: if it begins with time lines of some interval and moment, with no
-- time line behind them, it is these, and they are also those of this interval and moment that `w` asks for
pub record AreTold (text : List ℕ) (w : TimeLines) (lines : List ℕ) : Type 0 where
  pub parts : text ≡ lines ++ drop (length lines) text
  pub few : length lines ≤ 162
  pub every : (v : TimeLines) (interval last : Option ℕ) (more : List ℕ) → IfSome last IsMoment → HasNoTimeLine more → text ≡ extent_lines v interval last ++ more
      → (lines ≡ extent_lines v interval last) × (extent_lines w interval last ≡ lines)
