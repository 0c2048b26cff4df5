-- What the machines wait for after each number of a journal's entries: lists in the page's data
use Rattle.std.specs.Prelude.{◌≡◌, ℕ, ◌+◌, List, [], ◌∷◌, ◌++◌, Option, None, Some, ⊤, codes, map, take}
use Rattle.std.specs.Prelude.{if◌then◌else◌}
use Rattle.std.specs.Io.KnownBytes.{Appends}
use Rattle.cell_types.specs.declared.words.Entry.{Entry}
use Rattle.cell_types.specs.Texts.{all_machine}
use Rattle.cell_rules.specs.Situations.{situation_of}
use Rattle.cell_waits.specs.declared.waiting.Waiting.{Waiting}
use Rattle.cell_waits.specs.Waits.{waiting_of}
use Rattle.cell_sentences.specs.Sentences.{entry_sentence}
use Rattle.cell_audit.specs.Judged.{audit_limits}
use Rattle.cell_show.specs.Refused.{refusal_cells}
use Rattle.cell_show.specs.Rows.{bracketed, quoted, with_commas}
use Rattle.cell_show.specs.declared.page.waits.Next.{Next}

-- for what the machines wait after the first i entries, in the order of machines
abbrev pub waits_after : List Entry → ℕ → List (Option Waiting)
waits_after J i = map (waiting_of audit_limits (situation_of (take i J))) all_machine

-- a machine's cell: what it wants next, why that is refused, and the part of the drawing; nothing if it doesn't wait
abbrev pub wait_cell : Option Waiting → List ℕ
wait_cell None = codes "[]"
wait_cell (Some w) = bracketed (with_commas (quoted (entry_sentence w.wanted) ∷ refusal_cells w.refusal))

-- a machine's cell in a state: 0 only where it waits as in the state before, and else its cell anew
pub data IsNext (before now : Option Waiting) : List ℕ → Type 0 where
  as_before : now ≡ before → IsNext before now (codes "0")
  anew : IsNext before now (wait_cell now)

-- the cell that is written, where it is known whether the machine waits as before
abbrev pub next_cell : Next → List ℕ
next_cell next = if next.is_as_before then codes "0" else wait_cell next.waiting

-- the cells of all machines
abbrev pub AreNext : List (Option Waiting) → List (Option Waiting) → List (List ℕ) → Type 0
AreNext [] [] [] = ⊤
AreNext (b ∷ bs) (w ∷ ws) (x ∷ xs) = IsNext b w x × AreNext bs ws xs
AreNext _ _ _ = ⊥

-- before the first state that is told no machine is taken to wait
abbrev pub nobody : List (Option Waiting)
nobody = None ∷ None ∷ None ∷ None ∷ None ∷ None ∷ []

-- the lists of the states after the first `from` entries, and after so many more, each on a line of its own
pub data TellsWaits (J : List Entry) (from : ℕ) : ℕ → List ℕ → Type 0 where
  first : (cells : List (List ℕ)) → AreNext nobody (waits_after J from) cells
      → TellsWaits J from 0 (bracketed (with_commas cells))
  more : (n : ℕ) (text : List ℕ) (cells : List (List ℕ)) → TellsWaits J from n text
      → AreNext (waits_after J (from + n)) (waits_after J (from + n + 1)) cells
      → TellsWaits J from (n + 1) (text ++ (codes ",\n" ++ bracketed (with_commas cells)))

-- the lists in the page's data
abbrev pub waits_text : List ℕ → List ℕ
waits_text lists = codes "\"waits\":[\n" ++ (lists ++ codes "\n],\n")

-- a list was written
pub record WritesNext (old new : Option (List ℕ)) (before now : List (Option Waiting)) : Type 0 where
  pub cells : List (List ℕ)
  pub next : AreNext before now cells
  pub whole : Appends old new (bracketed (with_commas cells))

-- the lists were written
pub record WritesWaits (old new : Option (List ℕ)) (J : List Entry) (from count : ℕ) : Type 0 where
  pub lists : List ℕ
  pub told : TellsWaits J from count lists
  pub whole : Appends old new (waits_text lists)
