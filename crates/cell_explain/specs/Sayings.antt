-- The lines in which a text's records are told
use Rattle.std.specs.Prelude.{◌==◌, ◌&&◌, ℕ, List, [], ◌∷◌, ◌++◌, codes, decimal, if◌then◌else◌, length, map, nat_le}
use Rattle.std.specs.Prelude.{nat_lt, take}
use Rattle.cell_rules.specs.declared.refusal.Refusal.{Refusal}
use Rattle.cell_rules.specs.Words.{refusal_text}
use Rattle.cell_sentences.specs.Sentences.{entry_deed, refusal_sentence}
use Rattle.std.specs.Prelude.{Option, Some, None}
use Rattle.cell_types.specs.declared.words.AxisState.{AxisState}
use Rattle.cell_types.specs.declared.words.Pose.{Pose}
use Rattle.cell_sentences.specs.Names.{arm_name, pose_name, station_name, way_to_pose}
use Rattle.cell_sentences.specs.Sentences.{plate_name}
use Rattle.cell_explain.specs.declared.due.Circumstances.{Circumstances}
use Rattle.cell_explain.specs.declared.due.Due.{Due}
use Rattle.cell_explain.specs.declared.due.Due.TheVariants as due
use Rattle.cell_explain.specs.declared.due.Need.{Need}
use Rattle.cell_explain.specs.declared.due.Need.TheVariants as need
use Rattle.cell_explain.specs.declared.telling.Since.{Since}
use Rattle.cell_explain.specs.declared.telling.Since.TheVariants as since
use Rattle.cell_explain.specs.declared.wanted.Trouble.{Trouble}
use Rattle.cell_explain.specs.declared.wanted.Trouble.TheVariants as trouble
use Rattle.cell_explain.specs.declared.wanted.Wanted.{Wanted}
use Rattle.cell_explain.specs.declared.wanted.Wanted.TheVariants as wanted
use Rattle.cell_explain.specs.declared.words.Words.{Words}
use Rattle.cell_explain.specs.declared.words.Words.TheVariants as words

-- a byte as it is shown: letters, digits, signs and blanks of ASCII as they are, and any other byte as a dot (46)
abbrev pub shown_byte : ℕ → ℕ
shown_byte byte = if nat_le 32 byte && nat_le byte 126 then byte else 46

-- a record as it is shown: its first 80 bytes, and three dots where it has more
abbrev pub shown : List ℕ → List ℕ
shown bytes = map shown_byte (take 80 bytes) ++ (if nat_lt 80 (length bytes) then codes "..." else [])

-- the words of which one may stand in a field
abbrev pub words_text : Words → List ℕ
words_text words.KindsOfOne =
    codes "lamp, admitted, claimed, yielded, started, arrived, conveyed, forged, gripped, dropped, "
    ++ codes "delivered, declared, stop_asked, quarantined, repaired"
words_text words.Kinds =
    codes "lamp, admitted, claimed, yielded, started, arrived, conveyed, forged, gripped, dropped, "
    ++ codes "delivered, declared, stop_asked, quarantined, repaired, expected, reinstated"
words_text words.Machine = codes "feed, table, robot, press1, press2, deposit"
words_text words.Station = codes "feed_in, feed_end, table, arm1, arm2, press1, press2, dep_in, dep_end"
words_text words.Axis =
    codes "feed_belt, table_lift, table_turn, robot_turn, arm_one, arm_two, press_one, press_two, deposit_belt"
words_text words.Pose =
    codes "rest, to_end, to_table, low, high, belt, robot, table1, p1_load, p1_unload, p2_load, p2_unload, "
    ++ codes "deposit2, in, out, middle, top, bottom"
words_text words.Zone = codes "z1, z2, z3, z4, z5"
words_text words.Arm = codes "arm1, arm2"
words_text words.Belt = codes "feed, deposit"
words_text words.Colour = codes "red, green"
words_text words.Cause =
    codes "stuck_switch, contradictory, stray_position, no_departure, missing_motion, lost_position, "
    ++ codes "plate_lost, strange_plate, silent, command_fault, operator_stop"
words_text words.Fault = codes "no_motion, keeps_old, both, slow, lose_plate, silent, refuse_command"
words_text words.Trigger = codes "always, admitted, delivered, quarantined, failed"
words_text words.Task = codes "stop, clear, repair, expect"

-- what may stand in a field
abbrev pub wanted_text : Wanted → List ℕ
wanted_text (wanted.Word words) = codes "one of " ++ words_text words
wanted_text (wanted.Number low most) = codes "a number from "
    ++ (decimal low ++ (codes " to " ++ (decimal most ++ codes ", in digits alone, with no 0 in front")))
wanted_text wanted.Nothing = codes "nothing"

-- a number from 2 to 12 in words; nothing for another
abbrev pub number_word : ℕ → List ℕ
number_word n =
    if n == 2 then codes "two"
    else if n == 3 then codes "three"
    else if n == 4 then codes "four"
    else if n == 5 then codes "five"
    else if n == 6 then codes "six"
    else if n == 7 then codes "seven"
    else if n == 8 then codes "eight"
    else if n == 9 then codes "nine"
    else if n == 10 then codes "ten"
    else if n == 11 then codes "eleven"
    else if n == 12 then codes "twelve"
    else []

-- a number in words, or in digits where it has no word here
abbrev pub word_or_digits : ℕ → List ℕ → List ℕ
word_or_digits n [] = decimal n
word_or_digits n (byte ∷ rest) = byte ∷ rest

-- how many fields a record has that hasn't four
abbrev pub count_text : ℕ → List ℕ
count_text n = if n == 1 then codes "one field, and not four" else word_or_digits n (number_word n)
    ++ codes " fields, and not four"

-- why a record can't be read
abbrev pub trouble_text : Trouble → List ℕ
trouble_text trouble.OpenQuote = codes "a quote isn't closed"
trouble_text (trouble.Count n) = count_text n
trouble_text (trouble.Field n wanted) = codes "field " ++ (decimal n ++ (codes ": " ++ wanted_text wanted))
trouble_text trouble.NoEntry = codes "no entry's record"
trouble_text trouble.Twice = codes "this motion has a fault already"
trouble_text trouble.NoLine = codes "no line of a script"

-- a record as it stands before why it can't be read; one that hasn't four fields isn't shown
abbrev pub shown_before : Trouble → List ℕ → List ℕ
shown_before (trouble.Count n) bytes = []
shown_before _ bytes = shown bytes ++ codes ": "

-- the line of a record that can't be read: the line in which it begins, what it is and its number, itself, and why
abbrev pub record_line : ℕ → List ℕ → ℕ → List ℕ → Trouble → List ℕ
record_line line name number bytes why =
    codes "line " ++ (decimal line ++ (codes ", "
    ++ (name ++ (codes " " ++ (decimal number
    ++ (codes ": " ++ (shown_before why bytes ++ (trouble_text why ++ 10 ∷ []))))))))

-- the line of a first record that is no profile's
abbrev pub profile_line : ℕ → List ℕ
profile_line line = codes "line " ++ (decimal line ++ codes ": the first record is profile,1,, or profile,2,,\n")

-- since when it is so that an entry is refused
abbrev pub since_text : Since → List ℕ
since_text since.Opening = codes ", from the start on"
since_text (since.Entry n e) = codes ", since entry " ++ (decimal n ++ (codes " " ++ entry_deed e))
since_text since.Always = []

-- what an entry needs of an axis
abbrev pub need_text : Need → List ℕ
need_text need.Still = codes ", and it has to stand still"
need_text (need.Pose p) = codes ", and its pose has to be " ++ pose_name p
need_text (need.Going p) = codes ", and it has to be going " ++ way_to_pose p
need_text (need.Facing s) = codes ", and it has to face " ++ station_name s
need_text (need.FacingAny a) = codes ", and it has to face a place of " ++ arm_name a
need_text need.Elsewhere = codes " already"
need_text need.Untold = []

-- where an axis is at rest, or goes
abbrev pub where_text : Pose → Option Pose → List ℕ
where_text at None = codes "its pose is " ++ pose_name at
where_text at (Some to) = codes "it goes " ++ way_to_pose to

abbrev pub whereabouts_text : AxisState → List ℕ
whereabouts_text state = where_text state.at state.going

-- what is so where an entry is refused, beside the refusal
abbrev pub due_text : Due → List ℕ
due_text due.Nothing = []
due_text (due.NextPlate n) = codes "; the next plate is " ++ decimal n
due_text (due.PlateThere (Some k)) = codes "; " ++ (plate_name k ++ codes " is there")
due_text (due.PlateThere None) = codes "; no plate is there"
due_text (due.PlateExpected (Some k)) = codes "; " ++ (plate_name k ++ codes " is expected")
due_text (due.PlateExpected None) = codes "; no plate is expected"
due_text due.NoMotion = codes "; it has no such motion"
due_text (due.Axis state needed) = codes "; " ++ (whereabouts_text state ++ need_text needed)

-- since when an entry is refused, and what is so beside
abbrev pub circumstances_text : Circumstances → List ℕ
circumstances_text made = since_text made.since ++ due_text made.due

-- the line of a refused entry: the line in which its record begins, its number, the record, the refusal, the same as a
-- sentence, since when it is so, and what is so beside
abbrev pub refused_line : ℕ → ℕ → List ℕ → Refusal → Circumstances → List ℕ
refused_line line number bytes why made =
    codes "line " ++ (decimal line ++ (codes ", entry "
    ++ (decimal number ++ (codes ": " ++ (shown bytes ++ (codes ": " ++ (refusal_text why
    ++ (codes ": " ++ (refusal_sentence why ++ (circumstances_text made ++ 10 ∷ []))))))))))

-- the line of a good script of this name: how many lines it has
abbrev pub good_line : List ℕ → ℕ → List ℕ
good_line name n = if n == 1 then name ++ codes " ok, 1 line\n" else name
    ++ (codes " ok, " ++ (decimal n ++ codes " lines\n"))

-- the line of a script that has too many lines: where the first of these begins
abbrev pub long_line : ℕ → List ℕ
long_line line = codes "line " ++ (decimal line ++ codes ": more than 1000 lines\n")
