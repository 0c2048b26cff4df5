-- The fields that write a line are short.
use Rattle.std.proofs.Common.{ℕ, List, length, Option, Some, None, refl, arith}
use Rattle.std.specs.Prelude.{◌==◌, IsSome, codes, if◌then◌else◌}
use Rattle.std.specs.Str.{bytes_eq}
use Rattle.std.proofs.lemmas.Bool.{eqb-true}
use Rattle.cell_rows.proofs.Unfit.{four_fit}
use Rattle.cell_rows.specs.Scripts.{FitLines}
use Rattle.cell_types.specs.Numbers.{plate_of}
use Rattle.cell_types.specs.Texts.{all_machine, all_station, machine_named, machine_word, station_named, station_word}
use Rattle.cell_types.proofs.ShortLaws.{IsShort, either, mapped, named_short, number_short, word_short}
use Rattle.operator_desk.specs.Lines.{both, line_of, task_of, total_of, trigger_of}
use Rattle.operator_desk.specs.declared.line.Trigger.{Trigger}
use Rattle.operator_desk.specs.declared.line.Trigger.TheVariants as trigger
use Rattle.operator_desk.specs.declared.line.Task.{Task}

-- two short fields
abbrev AreShort : List ℕ → List ℕ → Type 0
AreShort word argument = IsShort word × IsShort argument

-- a field that names a word is spelled as that word, and all these words are short
machine_short : (field : List ℕ) → IsSome (machine_named field) → IsShort field
machine_short field some = named_short machine_word all_machine field refl some

station_short : (field : List ℕ) → IsSome (station_named field) → IsShort field
station_short field some = named_short station_word all_station field refl some

plate_short : (field : List ℕ) → IsSome (plate_of field) → IsShort field
plate_short field some = number_short 100000 field some

-- zero is a number of plates too, though no plate has it
total_short : (field : List ℕ) → IsSome (total_of field) → IsShort field
total_short field some =
    either (IsShort field) (bytes_eq field (codes "0")) (Some 0) (plate_of field)
    (λ same s. word_short field (codes "0") (omega arith) same) (λ s. plate_short field s) some

-- the word `always` names nothing, so the field after it has to be empty
empty_short : (field : List ℕ) → IsSome (if length field == 0 then Some trigger.Always else None) → IsShort field
empty_short field some =
    either (IsShort field) (length field == 0) (Some trigger.Always) None
    (λ none s. omega (arith, eqb-true (length field) 0 none)) (λ s. cc s) some

-- a trigger is told by one of a few words, and what may stand after each of them is short too
trigger_short : (word bound : List ℕ) → IsSome (trigger_of word bound) → AreShort word bound
unfolding trigger_of
trigger_short word bound some =
    let P = AreShort word bound in
    either P (bytes_eq word (codes "always")) _ _
    (λ same s. (word_short word (codes "always") (omega arith) same, empty_short bound s)) (λ s.
    either P (bytes_eq word (codes "admitted")) _ _
    (λ same s. (word_short word (codes "admitted") (omega arith) same, total_short bound (mapped _ _ s))) (λ s.
    either P (bytes_eq word (codes "delivered")) _ _
    (λ same s. (word_short word (codes "delivered") (omega arith) same, total_short bound (mapped _ _ s))) (λ s.
    either P (bytes_eq word (codes "quarantined")) _ _
    (λ same s. (word_short word (codes "quarantined") (omega arith) same, total_short bound (mapped _ _ s))) (λ s.
    either P (bytes_eq word (codes "failed")) _ _
    (λ same s. (word_short word (codes "failed") (omega arith) same, machine_short bound (mapped _ _ s)))
    (λ s. cc s) s) s) s) s) some

task_short : (word argument : List ℕ) → IsSome (task_of word argument) → AreShort word argument
unfolding task_of
task_short word argument some =
    let P = AreShort word argument in
    either P (bytes_eq word (codes "stop")) _ _
    (λ same s. (word_short word (codes "stop") (omega arith) same, machine_short argument (mapped _ _ s))) (λ s.
    either P (bytes_eq word (codes "clear")) _ _
    (λ same s. (word_short word (codes "clear") (omega arith) same, station_short argument (mapped _ _ s))) (λ s.
    either P (bytes_eq word (codes "repair")) _ _
    (λ same s. (word_short word (codes "repair") (omega arith) same, machine_short argument (mapped _ _ s))) (λ s.
    either P (bytes_eq word (codes "expect")) _ _
    (λ same s. (word_short word (codes "expect") (omega arith) same, plate_short argument (mapped _ _ s)))
    (λ s. cc s) s) s) s) some

both_some : (t : Option Trigger) (a : Option Task) → IsSome (both t a) → IsSome t × IsSome a
both_some None a s = cc s
both_some (Some t) None s = cc s
both_some (Some t) (Some a) s = (refl, refl)

-- so the reader of a script may give up on a long record at once, since it is no line
pub lines_fit : FitLines line_of
lines_fit before when bound action argument some =
    let parts = both_some (trigger_of when bound) (task_of action argument) some in
    let first = trigger_short when bound parts.0 in
    let last = task_short action argument parts.1 in
    four_fit when bound action argument first.0 first.1 last.0 last.1
