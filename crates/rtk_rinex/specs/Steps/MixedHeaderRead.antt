-- What the lines of a header of any systems show, and the header that a text shows.
use Rattle.std.specs.Prelude.{◌≡◌, ◌≢◌, ℕ, ◌+◌, ◌*◌, ◌/◌, ◌%◌, ◌<◌, ◌≤◌, Bool, true, false, not, ◌==◌, if◌then◌else◌, List, [], ◌∷◌, ◌++◌, length, take, drop, ℤ, Option, is_some, All, AllPairs, Contains, slice_index_or, Decides}
use Rattle.std.specs.Int.{IsInRange}
use Rattle.std.specs.List.{count_by}
use Rattle.rtk_obs.specs.declared.any_code.AnyCode.{AnyCode}
use Rattle.rtk_obs.specs.AnyCode.{name_of}
use Rattle.rtk_obs.specs.Carriers.{AreChannels}
use Rattle.rtk_rinex.specs.Header.{unit_line}
use Rattle.rtk_rinex.specs.Lines.{HasNoEnd, text_of}
use Rattle.rtk_rinex.specs.MixedHead.{IsMixedList, letter}
use Rattle.rtk_rinex.specs.MixedHeader.{version_letter, by_system, system_types_lines, types_count, slots_text}
use Rattle.rtk_rinex.specs.MixedHeaderFault.{BeginsMixedHeader}
use Rattle.rtk_rinex.specs.Steps.HeaderShown.{line_at, number_at}
use Rattle.rtk_rinex.specs.Steps.MixedRoom.{codes_of_letter}

-- whatever lines of a header begin the text, begin what is written too
abbrev pub ShowsMixedHeader : List ℕ → List ℕ → Type 0
ShowsMixedHeader text written =
    (lines : List (List ℕ)) (rest : List ℕ) → All HasNoEnd lines → BeginsMixedHeader (text_of lines) → text ≡ text_of lines ++ rest
    → (more : List ℕ) × (written ≡ text_of lines ++ more)

-- what follows these lines in a text that is written, and what is known if the lines are all of a part
pub record Goes (written : List ℕ) (lines : List (List ℕ)) (more : List ℕ) (Known : Type 0) : Type 0 where
  pub rest : List ℕ
  pub begins : written ≡ text_of lines ++ rest
  pub whole : more ≡ [] → (rest ≡ []) × Known

-- whatever lines of the header's part of other good values begin the text, begin the part of these values
-- too; and if the lines are the whole part, more is known
abbrev pub Reads : {V : Type 0} → (V → Type 0) → (V → Type 0) → (V → List ℕ) → List ℕ → V → Type 0
Reads {V} If Then part text v =
    (u : V) (lines : List (List ℕ)) (rest more : List ℕ) → If u → All HasNoEnd lines → part u ≡ text_of lines ++ more → text ≡ text_of lines ++ rest
    → Goes (part v) lines more (Then u)

-- ---- the codes

-- 1 to 16 codes of the system of this letter, no two alike
pub record IsGroup (system : ℕ) (codes : List AnyCode) : Type 0 where
  pub count : IsInRange 1 16 (length codes)
  pub own : All (λ c. letter c ≡ system) codes
  pub distinct : AllPairs (λ c d. c ≢ d) codes

-- all codes of the system of this letter, each once
pub record AreAllOf (system : ℕ) (all : List AnyCode) : Type 0 where
  pub length : length all ≡ codes_of_letter system
  pub own : All (λ c. letter c ≡ system) all
  pub distinct : AllPairs (λ c d. c ≢ d) all
  pub every : (c : AnyCode) → letter c ≡ system → Contains all c

-- the name of the code after i codes, read from its type of pseudorange; each code has three types, or four
-- with Doppler shifts, of which thirteen stand on a line
abbrev pub code_name_at : Bool → ℕ → List ℕ → List ℕ
code_name_at doppler i text = take 2 (drop (8 + 4 * (types_count doppler * i % 13)) (line_at (types_count doppler * i / 13) text))

-- the first line of types shows a Doppler shift: the third type of its first code is one
abbrev pub shows_doppler : List ℕ → Bool
shows_doppler text = slice_index_or text 15 0 == 68

-- the codes of a system that the lines of its types show, at which a text begins
pub record ShowsGroup (doppler : Bool) (system : ℕ) (text : List ℕ) (codes : List AnyCode) : Type 0 where
  pub group : IsGroup system codes
  pub count : (n : ℕ) → IsInRange 1 (codes_of_letter system) n → number_at 3 3 text ≡ types_count doppler * n → length codes ≡ n
  pub shown : (ds : List AnyCode) (i : ℕ) (d : AnyCode) → IsGroup system ds → i < length ds → i < length codes
      → ((j : ℕ) → j ≤ i → code_name_at doppler j text ≡ name_of (slice_index_or ds j d)) → slice_index_or codes i d ≡ slice_index_or ds i d

-- the lines of this system are due after those of the listed codes, where its letter begins the text or
-- not: the letter of the file is its letter; or the file has several systems, and the text begins with its
-- letter, or no other system is left that could be the second one
abbrev pub is_due : ℕ → ℕ → List AnyCode → Bool → Bool
is_due file system listed begins =
    if file == 77 then (if begins then true else if system == 83 then length listed == 0 else if system == 73 then not (version_letter listed == 77) else false)
    else file == system

-- the lines of one system are written as they are due, and its codes are listed
pub record ReadsSystem (doppler : Bool) (text : List ℕ) (file system : ℕ) (old new : List AnyCode) (out written : List ℕ) : Type 0 where
  pub codes : List AnyCode
  pub listed : new ≡ old ++ codes
  pub put : written ≡ out ++ system_types_lines doppler system codes
  pub begins : Bool
  pub letter : Decides begins (take 1 (drop (length out) text) ≡ system ∷ [])
  pub due : is_due file system old begins ≡ true → ShowsGroup doppler system (drop (length out) text) codes
  pub none : is_due file system old begins ≡ false → codes ≡ []

-- the types of all systems up to the line of the unit
abbrev pub types_and_unit : Bool → List AnyCode → List ℕ
types_and_unit doppler listed = by_system (system_types_lines doppler) listed ++ unit_line

-- good codes of a file of this letter
pub record IsListOf (file : ℕ) (listed : List AnyCode) : Type 0 where
  pub list : IsMixedList listed
  pub letter : version_letter listed ≡ file

-- ---- the slots of GLONASS

-- the columns of the slot after i slots; eight stand on a line
abbrev pub slot_at : ℕ → List ℕ → List ℕ
slot_at i text = take 7 (drop (4 + 7 * (i % 8)) (line_at (i / 8) text))

-- the columns of the slot after i slots, as they are written
abbrev pub slot_of : ℕ → List (Option ℤ) → List ℕ
slot_of i channels = take 7 (drop (7 * i) (slots_text channels 27))

-- the first slots of these channels, as many as n, stand in the lines of slots at which a text begins
abbrev pub HasSlots : List ℕ → List (Option ℤ) → ℕ → Type 0
HasSlots text channels n = (j : ℕ) → j < n → slot_at j text ≡ slot_of j channels

-- channels of as many slots as another has
abbrev pub HaveOneCount : List (Option ℤ) → List (Option ℤ) → Type 0
HaveOneCount channels others = count_by is_some channels ≡ count_by is_some others

-- the channels that the lines of slots show, at which a text begins
pub record ShowsSlots (text : List ℕ) (channels : List (Option ℤ)) : Type 0 where
  pub good : AreChannels channels
  pub count : (us : List (Option ℤ)) → AreChannels us → number_at 0 3 text ≡ count_by is_some us → HaveOneCount channels us
  pub shown : (us : List (Option ℤ)) (i : ℕ) → AreChannels us → HaveOneCount channels us → i ≤ count_by is_some us → HasSlots text us i
      → take (7 * i) (slots_text channels 27) ≡ take (7 * i) (slots_text us 27)
  pub all : (us : List (Option ℤ)) → AreChannels us → HaveOneCount channels us → HasSlots text us (count_by is_some us) → us ≡ channels
