-- The command of `convert` that does what `auto` does, as sh takes it (this project's rule).
use Rattle.std.specs.Prelude.{ℕ, ◌+◌, ◌==◌, Bool, nat_lt, List, [], ◌∷◌, ◌++◌, length, flat_map, codes, decimal, Option, None, Some, if◌then◌else◌}
use Rattle.std.specs.Borrow.{Bor}
use Rattle.std.specs.List.{list_any}
use Rattle.std.specs.declared.vec.Vec.{Vec}
use Rattle.rtk_message.specs.ShellText.{sh_quoted}
use Rattle.rtk_obs.specs.declared.any_code.AnyCode.{AnyCode}
use Rattle.rtk_obs.specs.AnyCode.{system_of, name_of, text_of}
use Rattle.rtk_rinex.specs.MixedHead.{MixedHeadView}
use Rattle.rtk_setup.specs.Setup.{SetupView}
use Rattle.rtk_systems.specs.ChannelWords.{glonass_words}
use Rattle.rtk_systems.specs.SystemMsms.{kinds_words}
use Rattle.rtk_systems.specs.Values.{is_gps_system}
use Rattle.rtk_captures.specs.TimeText.{time_text}

-- formula
-- a word that is no name of a file: its leading hyphens stay in front
abbrev pub word_text : List ℕ → List ℕ
word_text [] = sh_quoted []
word_text (x ∷ xs) = if x == 45 then 45 ∷ word_text xs else sh_quoted (x ∷ xs)

-- formula
-- the command with the station and the reference
unfoldable pub station_words : SetupView → List ℕ
station_words s = codes "rtcm2rinex convert --station " ++ decimal s.station ++ codes " --near " ++ time_text s.near

-- formula
-- the time of making and the marker
unfoldable pub marker_words : MixedHeadView → List ℕ
marker_words h = codes " --made " ++ time_text h.made ++ codes " --marker " ++ word_text h.marker

-- formula
-- a code as an option lists it: band and attribute alone for GPS, behind the letter of the system for any other
abbrev pub said_code : AnyCode → List ℕ
said_code c = if is_gps_system (system_of c) then name_of c else text_of c

-- formula
-- the names of codes, the first after this separator and each other one after a comma
abbrev pub code_names : ℕ → List AnyCode → List ℕ
code_names separator [] = []
code_names separator (c ∷ cs) = separator ∷ said_code c ++ code_names 44 cs

-- formula
-- the codes, the MSM and the window
unfoldable pub value_words : SetupView → List ℕ
value_words s = codes " --codes" ++ code_names 32 s.head.listed ++ kinds_words s.kinds s.head.listed ++ codes " --window " ++ decimal s.window

-- formula
abbrev pub leap_option : ℕ → List ℕ
leap_option n = codes " --leap-seconds " ++ decimal n

-- the option of leap seconds, if they are given
abbrev pub leap_words : Option ℕ → List ℕ
leap_words None = []
leap_words (Some n) = leap_option n

-- the option of 1012, if they are asked for
abbrev pub words_of_1012 : Bool → List ℕ
words_of_1012 is_asked = if is_asked then codes " --with-1012" else []

-- the option of Doppler shifts, if they are asked for
abbrev pub words_of_doppler : Bool → List ℕ
words_of_doppler is_asked = if is_asked then codes " --doppler" else []

-- formula
-- the command with its options
unfoldable pub convert_words : SetupView → List ℕ
convert_words s =
    station_words s ++ marker_words s.head ++ value_words s ++ glonass_words s.head.glonass ++ leap_words s.leap_seconds ++ words_of_1012 s.takes_1012
    ++ words_of_doppler s.head.doppler

-- formula
-- names of files, each after a blank
abbrev pub name_after_blank : Bor (List ℕ) → List ℕ
name_after_blank name = 32 ∷ sh_quoted name.now

abbrev pub names_text : List (Bor (List ℕ)) → List ℕ
names_text names = flat_map name_after_blank names

-- formula
-- files one after another
abbrev pub cat_words : List (Bor (List ℕ)) → List ℕ
cat_words names = codes "cat" ++ names_text names

-- formula
-- the file of the link of this number, from 1, if several captures are joined to it
abbrev pub joined_name : ℕ → List ℕ
joined_name number = codes "joined/" ++ decimal number ++ codes ".rtcm"

-- formula
-- the captures of a link are joined into a file; a link of one capture is this capture
abbrev pub join_line : ℕ → List (Bor (List ℕ)) → List ℕ
join_line number names =
    if nat_lt (length names) 2 then [] else cat_words names ++ codes " >" ++ joined_name number ++ codes " &&\n"

abbrev pub join_lines : {A : Type 0} → ℕ → List (Vec (Bor (List ℕ)) A) → List ℕ
join_lines number [] = []
join_lines number (link ∷ links) = join_line number link.items ++ join_lines (number + 1) links

-- formula
-- the file of a link
abbrev pub link_word : ℕ → List (Bor (List ℕ)) → List ℕ
link_word number names = if nat_lt (length names) 2 then names_text names else 32 ∷ joined_name number

abbrev pub link_words : {A : Type 0} → ℕ → List (Vec (Bor (List ℕ)) A) → List ℕ
link_words number [] = []
link_words number (link ∷ links) = link_word number link.items ++ link_words (number + 1) links

abbrev pub is_joined : {A : Type 0} → Vec (Bor (List ℕ)) A → Bool
is_joined link = nat_lt 1 (length link.items)

abbrev pub has_joined : {A : Type 0} → List (Vec (Bor (List ℕ)) A) → Bool
has_joined {A} links = list_any (is_joined {A = A}) links

-- formula
-- a new folder for the files of links, if captures are joined: no file that is there is written over
abbrev pub folder_line : {A : Type 0} → List (Vec (Bor (List ℕ)) A) → List ℕ
folder_line links = if has_joined links then codes "mkdir joined &&\n" else []

-- formula
-- the lines of several links: first the captures of each are joined
abbrev pub several_links_text : {A : Type 0} → List ℕ → List (Vec (Bor (List ℕ)) A) → List ℕ
several_links_text words links = folder_line links ++ join_lines 1 links ++ words ++ link_words 1 links ++ 10 ∷ []

-- formula
-- the captures of one link go through standard input
abbrev pub one_link_text : List ℕ → List (Bor (List ℕ)) → List ℕ
one_link_text words names = cat_words names ++ codes " | " ++ words ++ codes " stdin\n"

-- formula
-- the command of links, each of them the names of its captures in their order
abbrev pub command_text : {A : Type 0} → List ℕ → List (Vec (Bor (List ℕ)) A) → List ℕ
command_text {A} words [] = several_links_text {A = A} words []
command_text words (link ∷ []) =
    if nat_lt 1 (length link.items) then one_link_text words link.items else several_links_text words (link ∷ [])
command_text words (link ∷ other ∷ links) = several_links_text words (link ∷ other ∷ links)
