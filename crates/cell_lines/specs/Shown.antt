-- Which reading a machine's line tells
use Rattle.std.specs.Prelude.{ℕ, ◌+◌, ◌*◌, Bool, List, [], ◌∷◌, Option, Some, None, if◌then◌else◌}
use Rattle.std.specs.List.{list_all, list_any}
use Rattle.std.specs.Str.{bytes_eq}
use Rattle.cell_types.specs.Cell.{axes_of}
use Rattle.cell_types.specs.Sensors.{presence_words, switch_words}
use Rattle.cell_types.specs.declared.words.Axis.{Axis}
use Rattle.cell_types.specs.declared.words.Machine.{Machine}
use Rattle.cell_diagnosis.specs.declared.reading.Reading.{Reading}
use Rattle.line_reader.specs.Split.{parts}

-- a word is one of these
abbrev pub is_among : List (List ℕ) → List ℕ → Bool
is_among words word = list_any (λ w. bytes_eq w word) words

-- the byte whose bit number i, from 0, says whether word number i is told
unfoldable pub byte_of : List (List ℕ) → List (List ℕ) → ℕ
byte_of [] told = 0
byte_of (word ∷ words) told = (if is_among told word then 1 else 0) + 2 * byte_of words told

-- the byte of words that are told, if they are among those that can be
abbrev pub if_known : List (List ℕ) → List (List ℕ) → Option ℕ
if_known words told = if list_all (is_among words) told then Some (byte_of words told) else None

-- the byte of a text that tells some words, with a plus (43) between them; an empty text tells none
abbrev pub bits_of : List (List ℕ) → List ℕ → Option ℕ
bits_of words [] = Some 0
bits_of words (b ∷ rest) = if_known words (parts 43 (b ∷ rest))

abbrev pub axis_bits : Axis → List ℕ → Option ℕ
axis_bits a text = bits_of (switch_words a) text

abbrev pub three : Option ℕ → Option ℕ → Option ℕ → Option (List ℕ)
three (Some a) (Some b) (Some c) = Some (a ∷ b ∷ c ∷ [])
three _ _ _ = None

-- the switches of a machine's axes, by the texts of each
abbrev pub switches_by : List Axis → List (List ℕ) → Option (List ℕ)
switches_by (a ∷ []) (x ∷ []) = three (axis_bits a x) (Some 0) (Some 0)
switches_by (a ∷ (b ∷ [])) (x ∷ (y ∷ [])) = three (axis_bits a x) (axis_bits b y) (Some 0)
switches_by (a ∷ (b ∷ (c ∷ []))) (x ∷ (y ∷ (z ∷ []))) = three (axis_bits a x) (axis_bits b y) (axis_bits c z)
switches_by _ _ = None

-- the switches of a machine by a text that has one part for each of its axes, with a slash (47) between them
abbrev pub switches_of : Machine → List ℕ → Option (List ℕ)
switches_of m text = switches_by (axes_of m) (parts 47 text)

abbrev pub if_both : Option (List ℕ) → Option ℕ → Option Reading
if_both (Some switches) (Some presence) = Some (record { switches = switches; presence = presence })
if_both _ _ = None

-- the reading of a machine, by the texts of its switches and of the stations that show a plate
abbrev pub reading_of : Machine → List ℕ → List ℕ → Option Reading
reading_of m switches presence = if_both (switches_of m switches) (bits_of (presence_words m) presence)
