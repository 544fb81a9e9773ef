-- A text that passes a writer in parts, and gets the fields of a label.
use Rattle.std.proofs.Common.{◌≡◌, ◌<◌, ◌≤◌, ℕ, List, [], ◌∷◌, ◌++◌, length, take, drop, Option, None, Some, refl, sym, ap, subst, ◌∙◌, append_assoc, append-nil, arith}
use Rattle.std.specs.Prelude.{MatchOption, Result, Ok, Err, IfOk}
use Rattle.std.specs.Io.KnownBytes.{Appends, WriteAppends}
use Rattle.std.specs.List.{concat}
use Rattle.std.proofs.lemmas.List.{take_at, drop_at}
use Rattle.rtk_rinex.specs.Table.{table_text}
use Rattle.rtk_rinex.specs.MixedTable.{mixed_table_text}
use Rattle.rtk_label.specs.Filling.{filling_label, filling_front}
use Rattle.rtk_label.specs.Labelled.{LabelView, labelled_text, labelled_mixed_text}
use Rattle.rtk_label.specs.LabelLaws.{FilesAreLong}
use Rattle.rtk_label.specs.LabelWriting.{IsFilledFront}
use Rattle.rtk_label.specs.declared.filling.Filling.{Filling}
use Rattle.rtk_cli.specs.LabelPassing.{AwaitsText, LinesWait, LinesAreWritten, FillsFirst, PassesOn, FillsFrom, FillsText, FillsParts, PassesLabelled}
use Rattle.rtk_cli.specs.declared.auto_labelling.Labelled.{Labelled}

-- bytes that were known, and bytes behind them
appended : (held : Option (List ℕ)) (before more : List ℕ) → Appends (Some before) held more → held ≡ Some (before ++ more)
appended None before more is = absurd is
appended (Some bytes) before more is = ap (λ (xs : List ℕ). Some xs) is

known : (old new : Option (List ℕ)) (before more : List ℕ) → old ≡ Some before → Appends old new more → new ≡ Some (before ++ more)
known old new before more is wrote = appended new before more (subst (λ (o : Option (List ℕ)). Appends o new more) is wrote)

-- of bytes that are not known nothing is said
pub nothing-known : {E : Type 0} (r : Result ℕ E) (buf : List ℕ) → WriteAppends None None r buf
nothing-known (Ok n) buf = tt
nothing-known (Err e) buf = tt

-- ---- a writer before its first call

module _ {W : Type 0} (new : Labelled W) where
  pub awaits-lines : (f : Filling) (o : Option LabelView) (l : LabelView) → o ≡ Some l → new.filling ≡ Some f → filling_label f ≡ l → filling_front f ≡ [] → AwaitsText o new
  awaits-lines f o l is some label none = subst (λ (p : Option LabelView). AwaitsText p new) (sym is) (f, some, label, none)

  pub awaits-none : (o : Option LabelView) → o ≡ None → new.filling ≡ None → AwaitsText o new
  awaits-none o is none = subst (λ (p : Option LabelView). AwaitsText p new) (sym is) none

module _ {W : Type 0} (contents : W → Option (List ℕ)) where
  -- ---- a call

  pub passed-on : {E : Type 0} (inner : W) (new : Labelled W) (r : Result ℕ E) (buf : List ℕ) → new.filling ≡ None → WriteAppends (contents inner) (contents new.inner) r buf
      → IfOk r (λ n. FillsFrom contents None inner new (take n buf))
  passed-on inner new (Ok n) buf none wrote = (none, wrote)
  passed-on inner new (Err e) buf none wrote = tt

  pub by-filling : {E : Type 0} (old new : Labelled W) (o : Option Filling) (r : Result ℕ E) (buf : List ℕ) → old.filling ≡ o
      → IfOk r (λ n. FillsFrom contents o old.inner new (take n buf)) → IfOk r (λ n. FillsText contents old new (take n buf))
  by-filling old new o r buf is filled = subst (λ (p : Option Filling). IfOk r (λ n. FillsFrom contents p old.inner new (take n buf))) (sym is) filled

  pub lines-written : {E : Type 0} (f g : Filling) (inner : W) (new : Labelled W) (r : Result ℕ E) (count : ℕ) (buf lines : List ℕ) → new.filling ≡ None
      → filling_label g ≡ filling_label f → filling_front g ≡ filling_front f ++ take count buf → length (filling_front g) ≡ 729 → IsFilledFront (filling_label g) (filling_front g) lines
      → IfOk r (λ n. (n ≡ count) × Appends (contents inner) (contents new.inner) lines) → IfOk r (λ n. FillsFirst contents f inner new (take n buf))
  lines-written f g inner new (Ok n) count buf lines none label front whole filled wrote =
      let at : filling_front g ≡ filling_front f ++ take n buf = front ∙ ap (λ (k : ℕ). filling_front f ++ take k buf) (sym wrote.0) in
      let are : LinesAreWritten contents f inner new (take n buf) =
      record {
        lines = lines;
        whole = ap length (sym at) ∙ whole;
        filled = subst (λ (l : LabelView). IsFilledFront l (filling_front f ++ take n buf) lines) label (subst (λ (x : List ℕ). IsFilledFront (filling_label g) x lines) at filled);
        wrote = wrote.1;
      } in
      subst (λ (o : Option Filling). MatchOption o (LinesAreWritten contents f inner new (take n buf)) (λ h. LinesWait f h inner new (take n buf))) (sym none) are
  lines-written f g inner new (Err e) count buf lines none label front whole filled wrote = tt

  -- ---- all calls

  -- once the lines are written, parts stand behind them
  passes : (old new : Labelled W) (before : List ℕ) (parts : List (List ℕ)) → old.filling ≡ None → contents old.inner ≡ Some before → FillsParts contents old new parts
      → contents new.inner ≡ Some (before ++ concat parts)
  passes old new before [] none is done = ap (λ (w : Labelled W). contents w.inner) (sym done) ∙ is ∙ ap (λ (xs : List ℕ). Some xs) (sym (append-nil before))
  passes old new before (part ∷ parts) none is steps =
      let mid : Labelled W = steps.0 in
      let step : PassesOn contents old.inner mid part = subst (λ (o : Option Filling). FillsFrom contents o old.inner mid part) none steps.1 in
      let held : contents mid.inner ≡ Some (before ++ part) = known (contents old.inner) (contents mid.inner) before part is step.1 in
      passes mid new (before ++ part) parts step.0 held steps.2 ∙ ap (λ (xs : List ℕ). Some xs) (append_assoc before part (concat parts))

  -- a part more while lines wait: then they are written, or wait on
  behind : (l : LabelView) (text whole : List ℕ) → ((front lines : List ℕ) → take 729 text ≡ front → IsFilledFront l front lines → whole ≡ lines ++ drop 729 text)
      → (mid new : Labelled W) (f : Filling) (inner : W) (before part : List ℕ) (parts : List (List ℕ)) (o : Option Filling) → mid.filling ≡ o → filling_label f ≡ l
      → contents inner ≡ Some before → filling_front f ++ (part ++ concat parts) ≡ text
      → MatchOption o (LinesAreWritten contents f inner mid part) (λ g. LinesWait f g inner mid part) → FillsParts contents mid new parts
      → ((g : Filling) → mid.filling ≡ Some g → filling_label g ≡ l → length (filling_front g) < 729 → contents mid.inner ≡ Some before → filling_front g ++ concat parts ≡ text
      → contents new.inner ≡ Some (before ++ whole))
      → contents new.inner ≡ Some (before ++ whole)
  behind l text whole fits mid new f inner before part parts None none label is same wrote steps more =
      let front : List ℕ = filling_front f ++ part in
      let lines : List ℕ = wrote.lines in
      let parted : front ++ concat parts ≡ text = append_assoc (filling_front f) part (concat parts) ∙ same in
      let begins : take 729 text ≡ front = ap (λ (t : List ℕ). take 729 t) (sym parted) ∙ take_at front (concat parts) 729 wrote.whole in
      let rest : drop 729 text ≡ concat parts = ap (λ (t : List ℕ). drop 729 t) (sym parted) ∙ drop_at front (concat parts) 729 wrote.whole in
      let filled : IsFilledFront l front lines = subst (λ (m : LabelView). IsFilledFront m front lines) label wrote.filled in
      let held : contents mid.inner ≡ Some (before ++ lines) = known (contents inner) (contents mid.inner) before lines is wrote.wrote in
      passes mid new (before ++ lines) parts none held steps
      ∙ ap (λ (xs : List ℕ). Some xs) (
      append_assoc before lines (concat parts)
      ∙ ap (λ (xs : List ℕ). before ++ (lines ++ xs)) (sym rest)
      ∙ ap (λ (xs : List ℕ). before ++ xs) (sym (fits front lines begins filled)))
  behind l text whole fits mid new f inner before part parts (Some g) some label is same wait steps more =
      more g some (wait.label ∙ label) wait.short (ap contents wait.same ∙ is) (ap (λ (t : List ℕ). t ++ concat parts) wait.front ∙ append_assoc (filling_front f) part (concat parts) ∙ same)

  waits : (l : LabelView) (text whole : List ℕ) → 810 ≤ length text → ((front lines : List ℕ) → take 729 text ≡ front → IsFilledFront l front lines → whole ≡ lines ++ drop 729 text)
      → (old new : Labelled W) (f : Filling) (before : List ℕ) (parts : List (List ℕ)) → old.filling ≡ Some f → filling_label f ≡ l → length (filling_front f) < 729
      → contents old.inner ≡ Some before → filling_front f ++ concat parts ≡ text → FillsParts contents old new parts → contents new.inner ≡ Some (before ++ whole)
  waits l text whole long fits old new f before [] some label short is same steps =
      let all : length (filling_front f) ≡ length text = ap length (sym (append-nil (filling_front f)) ∙ same) in
      absurd (omega (arith, long, short, all))
  waits l text whole long fits old new f before (part ∷ parts) some label short is same steps =
      let mid : Labelled W = steps.0 in
      let step : FillsFirst contents f old.inner mid part = subst (λ (o : Option Filling). FillsFrom contents o old.inner mid part) some steps.1 in
      behind l text whole fits mid new f old.inner before part parts mid.filling refl label is same step steps.2
      (λ g wait own less held rest. waits l text whole long fits mid new g before parts wait own less held rest steps.2)

  -- a text whose first lines wait
  awaited : (l : LabelView) (text whole : List ℕ) → 810 ≤ length text → ((front lines : List ℕ) → take 729 text ≡ front → IsFilledFront l front lines → whole ≡ lines ++ drop 729 text)
      → (old new : Labelled W) (before : List ℕ) (parts : List (List ℕ)) → AwaitsText (Some l) old → contents old.inner ≡ Some before → concat parts ≡ text
      → FillsParts contents old new parts → contents new.inner ≡ Some (before ++ whole)
  awaited l text whole long fits old new before parts awaits is came steps =
      let f : Filling = awaits.0 in
      let none : filling_front f ≡ [] = awaits.3 in
      let empty : length (filling_front f) ≡ 0 = ap length none in
      waits l text whole long fits old new f before parts awaits.1 awaits.2 (omega (arith, empty)) is (ap (λ (t : List ℕ). t ++ concat parts) none ∙ came) steps

  pub pass-labelled : FilesAreLong → PassesLabelled contents
  pass-labelled long =
      record {
        gps = λ l t good. awaited l (table_text t) (labelled_text l t) (long.gps t good) (λ front lines begins filled. filled.gps t good begins);
        mixed = λ l t good. awaited l (mixed_table_text t) (labelled_mixed_text l t) (long.mixed t good) (λ front lines begins filled. filled.mixed t good begins);
        plain = λ text old new before parts awaits is came steps. passes old new before parts awaits is steps ∙ ap (λ (t : List ℕ). Some (before ++ t)) came;
      }
