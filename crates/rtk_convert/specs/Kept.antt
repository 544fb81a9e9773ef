-- What is kept of all frames that were found, whatever bodies equal keys carry: the file, the report
-- and the counts. Lists are newest first.
use Rattle.std.specs.Prelude.{◌≡◌, ℕ, List, [], ◌∷◌, length, Option}
use Rattle.rtk_frame.specs.Stream.{with_more}
use Rattle.rtk_collect.specs.Laws.{without_late}
use Rattle.rtk_setup.specs.declared.counts.Counts.{Counts}
use Rattle.rtk_convert.specs.declared.frame_class.FrameClass.{FrameClass}
use Rattle.rtk_convert.specs.declared.frame_class.FrameClass.TheVariants.{OtherMessage, Refused, Foreign, Dated}
use Rattle.rtk_convert.specs.FileLaws.{IsTextOfTable}
use Rattle.rtk_convert.specs.FileOfArrivals.{kept_file}
use Rattle.rtk_convert.specs.Finish.{all_counts, report_of}
use Rattle.rtk_convert.specs.FrameClass.{Found, arrivals}
use Rattle.rtk_convert.specs.Headline.{Came, RunHeadline}
use Rattle.rtk_convert.specs.History.{History}
use Rattle.rtk_convert.specs.ReadHistory.{Read, IsHistoryOf, AllClosed}
use Rattle.rtk_convert.specs.ReadSteps.{HasCalled}
use Rattle.rtk_setup.specs.Setup.{SetupView, IsSetupView}
use Rattle.rtk_convert.specs.Writing.{Written}

-- ---- of found frames

abbrev pub and_came : ℕ → FrameClass → Came → Came
and_came link OtherMessage before = before
and_came link (Refused fault) before = before
and_came link Foreign before = before
and_came link (Dated a) before = (link, a) ∷ before

-- the messages among found frames
abbrev pub came_of : List Found → Came
came_of [] = []
came_of (f ∷ before) = and_came f.link f.class (came_of before)

-- the file is made of what is kept, under each key the first that came while its epoch was open, and
-- late arrivals change nothing in it; the report and the counts are of all frames found, each counted
-- in one class
pub record WritesKept (s : SetupView) (found : List Found) (counts : Counts) (written_old written_new : Written) : Type 0 where
  pub out : written_new.file ≡ with_more written_old.file (kept_file s (arrivals found))
  pub late_leave_file : kept_file s (without_late s.window (arrivals found)) ≡ kept_file s (arrivals found)
  pub log : written_new.report ≡ with_more written_old.report (report_of s found)
  pub counts_are : counts ≡ all_counts s found

-- ---- of a run

-- each read was of the link whose turn it was; what the frames bring that these reads find, and what
-- is kept of them. Since every setup is a good one, the checker accepts the file
pub record KeepsInOrder (s : SetupView) (links : ℕ) (reads : List Read) (came : Came) (counts : Counts) (written_old written_new : Written) : Type 0 where
  pub history : History
  pub in_order : IsHistoryOf s links reads history
  pub closed : AllClosed history
  pub brings : came ≡ came_of history.found
  pub kept : WritesKept s history.found counts written_old written_new
  pub is_table : IsSetupView s → IsTextOfTable (kept_file s (arrivals history.found))

-- the promise, and of the same reads and messages the rest: two clauses can't share these lists, so
-- this one has the promise in it. `calls` counts the reads of a reader
pub record RunKeeps {R : Type 0} (given : R → Option (List ℕ)) (calls : R → ℕ) (is_at_end : R → Type 0) (s : SetupView) (before after : List R) (counts : Counts) (written_old written_new : Written) : Type 0 where
  pub promise : RunHeadline given is_at_end s before after written_old written_new
  pub called : HasCalled calls before after (length promise.reads)
  pub rest : KeepsInOrder s (length before) promise.reads promise.came counts written_old written_new
