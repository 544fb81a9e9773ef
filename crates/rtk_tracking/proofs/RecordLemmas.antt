-- The records of a file, one after another, and what stands for their epochs.
use Rattle.std.proofs.Common.{◌≡◌, List, [], ◌∷◌, ℕ, refl, sym, ap, ◌∙◌, subst}
use Rattle.rtk_rinex.specs.Record.{EpochTableView}
use Rattle.rtk_rinex.specs.Records.{RecordsView, AreLeft, IsNextOf, IsNextTimeOf}
use Rattle.rtk_rinex.specs.MixedRecords.{MixedRecordsView, MixedRowsView, AreMixedLeft, IsNextRecordOf}
use Rattle.rtk_tracking.specs.Epochs.{epochs_onto, newest_first}

-- ---- the records of a file of GPS or of any systems; Left says which epochs are those whose records are left

-- the epochs that came, in a state that stands for them, and those that are left
abbrev pub HasComeBy : {S : Type 0} → (S → List EpochTableView → Type 0) → (List EpochTableView → Type 0) → S → List EpochTableView → Type 0
HasComeBy Stands Left state epochs =
    (before : List EpochTableView) × (rest : List EpochTableView) × Left rest × (epochs_onto rest before ≡ newest_first epochs) × Stands state before

-- the next of these epochs was read, and others are left
pub record ReadsNext (rest : List EpochTableView) (epoch : EpochTableView) (Left : List EpochTableView → Type 0) : Type 0 where
  pub others : List EpochTableView
  pub first : rest ≡ epoch ∷ others
  pub are_left : Left others

-- the moment of the next of these epochs was read, and others are left
pub record ReadsTime (rest : List EpochTableView) (time : ℕ) (Left : List EpochTableView → Type 0) : Type 0 where
  pub epoch : EpochTableView
  pub at : epoch.time ≡ time
  pub next : ReadsNext rest epoch Left

pub come-next : {S : Type 0} (Stands : S → List EpochTableView → Type 0) (Left_1 Left_2 : List EpochTableView → Type 0) (state_1 state_2 : S) (epochs : List EpochTableView) (epoch : EpochTableView)
    → (come : HasComeBy Stands Left_1 state_1 epochs) → ReadsNext come.1 epoch Left_2 → Stands state_2 (epoch ∷ come.0) → HasComeBy Stands Left_2 state_2 epochs
come-next Stands Left_1 Left_2 state_1 state_2 epochs epoch come n stands = (
  epoch ∷ come.0,
  n.others,
  n.are_left,
  sym (ap (λ (es : List EpochTableView). epochs_onto es come.0) n.first) ∙ come.3,
  stands,
)

pub come-time-by : {S : Type 0} (Stands : S → List EpochTableView → Type 0) (Left_1 Left_2 : List EpochTableView → Type 0) (state_1 state_2 : S) (epochs : List EpochTableView) (time : ℕ)
    → HasComeBy Stands Left_1 state_1 epochs → ((rest : List EpochTableView) → Left_1 rest → ReadsTime rest time Left_2)
    → ((es : List EpochTableView) (e : EpochTableView) → e.time ≡ time → Stands state_1 es → Stands state_2 (e ∷ es)) → HasComeBy Stands Left_2 state_2 epochs
come-time-by Stands Left_1 Left_2 state_1 state_2 epochs time come next takes =
    let n = next come.1 come.2 in come-next Stands Left_1 Left_2 state_1 state_2 epochs n.epoch come n.next (takes come.0 n.epoch n.at come.4)

pub come-all-by : {S : Type 0} (Stands : S → List EpochTableView → Type 0) (Left : List EpochTableView → Type 0) (state : S) (epochs : List EpochTableView)
    → HasComeBy Stands Left state epochs → ((rest : List EpochTableView) → Left rest → rest ≡ []) → Stands state (newest_first epochs)
come-all-by Stands Left state epochs come none =
    subst (λ (es : List EpochTableView). Stands state es) (sym (ap (λ (es : List EpochTableView). epochs_onto es come.0) (none come.1 come.2)) ∙ come.3) come.4

-- ---- those of a file of GPS

abbrev pub HasCome : {S : Type 0} → (S → List EpochTableView → Type 0) → RecordsView → S → List EpochTableView → Type 0
HasCome Stands left state epochs = HasComeBy Stands (AreLeft left) state epochs

pub reads-next : (rest : List EpochTableView) (text : List ℕ) (epoch : EpochTableView) (left : RecordsView) → IsNextOf rest text epoch left → ReadsNext rest epoch (AreLeft left)
reads-next [] text epoch left next = absurd next
reads-next (e ∷ es) text epoch left next = record { others = es; first = ap (λ (f : EpochTableView). f ∷ es) (sym next.1); are_left = next.2 }

pub come-more : {S : Type 0} (Stands : S → List EpochTableView → Type 0) (left_1 left_2 : RecordsView) (state_1 state_2 : S) (epochs : List EpochTableView) (text : List ℕ) (epoch : EpochTableView)
    → HasCome Stands left_1 state_1 epochs → ((rest : List EpochTableView) → AreLeft left_1 rest → IsNextOf rest text epoch left_2)
    → ((es : List EpochTableView) → Stands state_1 es → Stands state_2 (epoch ∷ es)) → HasCome Stands left_2 state_2 epochs
come-more Stands left_1 left_2 state_1 state_2 epochs text epoch come next takes =
    come-next Stands (AreLeft left_1) (AreLeft left_2) state_1 state_2 epochs epoch come (reads-next come.1 text epoch left_2 (next come.1 come.2)) (takes come.0 come.4)

pub come-all : {S : Type 0} (Stands : S → List EpochTableView → Type 0) (left : RecordsView) (state : S) (epochs : List EpochTableView)
    → HasCome Stands left state epochs → ((rest : List EpochTableView) → AreLeft left rest → rest ≡ []) → Stands state (newest_first epochs)
come-all Stands left state epochs come none = come-all-by Stands (AreLeft left) state epochs come none

reads-time : (rest : List EpochTableView) (time : ℕ) (left : RecordsView) → IsNextTimeOf rest time left → ReadsTime rest time (AreLeft left)
reads-time [] time left next = absurd next
reads-time (e ∷ es) time left next = record { epoch = e; at = sym next.0; next = record { others = es; first = refl; are_left = next.1 } }

pub come-time : {S : Type 0} (Stands : S → List EpochTableView → Type 0) (left_1 left_2 : RecordsView) (state_1 state_2 : S) (epochs : List EpochTableView) (time : ℕ)
    → HasCome Stands left_1 state_1 epochs → ((rest : List EpochTableView) → AreLeft left_1 rest → IsNextTimeOf rest time left_2)
    → ((es : List EpochTableView) (e : EpochTableView) → e.time ≡ time → Stands state_1 es → Stands state_2 (e ∷ es)) → HasCome Stands left_2 state_2 epochs
come-time Stands left_1 left_2 state_1 state_2 epochs time come next takes =
    come-time-by Stands (AreLeft left_1) (AreLeft left_2) state_1 state_2 epochs time come (λ rest left. reads-time rest time left_2 (next rest left)) takes

-- ---- those of a file of any systems

pub reads-record : (rest : List EpochTableView) (rows : MixedRowsView) (left : MixedRecordsView) → IsNextRecordOf rest rows left → ReadsTime rest rows.time (AreMixedLeft left)
reads-record [] rows left next = absurd next
reads-record (e ∷ es) rows left next = record { epoch = e; at = sym next.0.time; next = record { others = es; first = refl; are_left = next.1 } }
