-- What a sweep goes through, by the words of its command
use Rattle.std.specs.Prelude.{◌≡◌, ◌≢◌, ◌⊎◌, ◌<◌, ◌==◌, ◌&&◌, ◌||◌, ℕ, Bool, true, false, is_some, List, length, Option}
use Rattle.std.specs.Prelude.{Some, None}
use Rattle.std.specs.Borrow.{Bor}
use Rattle.std.specs.List.{after_first, before_first, position_or_len}
use Rattle.cell_types.specs.Numbers.{number_to}
use Rattle.cell_sim.specs.declared.fault.Fault.{Fault}
use Rattle.cell_command.specs.declared.order.Sweeping.{Sweeping}
use Rattle.cell_orders.specs.Numbers.{IsNoNumberIn, IsNumberIn, IsNumberOr, IsOutside}
use Rattle.cell_orders.specs.Texts.{IsGiven}
use Rattle.cell_sweep.specs.Kinds.{IsNoList, NamesKinds, all_kinds}
use Rattle.cell_sweep.specs.declared.choice.Choice.{Choice}
use Rattle.cell_sweep.specs.declared.choice.Choice.TheVariants as choice
use Rattle.cell_sweep.specs.declared.choice.Part.{Part}
use Rattle.cell_sweep.specs.declared.kinds.KindsError.TheVariants as wrong
use Rattle.cellctl.specs.declared.asked.Asked.{Asked}

-- the kinds of a sweep: those that a list names, or all, where none is given
abbrev pub AreKinds : Option (Bor (List ℕ)) → List Fault → Type 0
AreKinds None kinds = kinds ≡ all_kinds
AreKinds (Some list) kinds = NamesKinds list.now kinds

-- a list is given, and the part of this number is its first that names no kind
abbrev pub HasNoKind : Option (Bor (List ℕ)) → ℕ → Type 0
HasNoKind None number = ⊥
HasNoKind (Some list) number = IsNoList list.now (wrong.Unknown number)

-- how many motions a sweep goes through: the number that a word writes, where one is given
abbrev pub AreMotions : Option (Bor (List ℕ)) → Option ℕ → Type 0
AreMotions None motions = motions ≡ None
AreMotions (Some word) motions = (motions ≡ number_to 1000000 word.now) × (motions ≢ None)

-- a word is given, and writes no such number
abbrev pub IsNoCount : Option (Bor (List ℕ)) → Type 0
IsNoCount None = ⊥
IsNoCount (Some word) = number_to 1000000 word.now ≡ None

-- so many runs as a word says have faults that are drawn: as many, and by the number, that words say, or two by 1
abbrev pub Draws : List ℕ → Sweeping → Choice → Type 0
Draws word s (choice.Random runs faults seed) = IsNumberIn 1 1000000 word runs × IsNumberOr 2 1 100 s.faults faults
    × IsNumberOr 1 0 4294967295 s.seed seed
Draws word s _ = ⊥

-- one of these words writes no such number
abbrev pub DrawsNone : List ℕ → Sweeping → Type 0
DrawsNone word s =
    IsNoNumberIn 1 1000000 word ⊎ (IsOutside 1 100 s.faults ⊎ IsOutside 0 4294967295 s.seed)

-- whether runs have two faults each
abbrev pub is_of_pairs : Choice → Bool
is_of_pairs choice.Pairs = true
is_of_pairs _ = false

-- whether runs have faults that are drawn
abbrev pub is_drawn : Choice → Bool
is_drawn (choice.Random runs faults seed) = true
is_drawn _ = false

-- which faults the runs have: where no number of runs is given each fault alone, or each two, by the flag of pairs
abbrev pub Chooses : Option (Bor (List ℕ)) → Sweeping → Choice → Type 0
Chooses None s chosen = (s.pairs ≡ is_of_pairs chosen) × (is_drawn chosen ≡ false) × (s.seed ≡ None) × (s.faults ≡ None)
Chooses (Some word) s chosen = (s.pairs ≡ false) × Draws word.now s chosen

-- the words for that are wrong: a number of runs goes with pairs, or is none, or with none another number goes
abbrev pub ChoosesNone : Option (Bor (List ℕ)) → Sweeping → Type 0
ChoosesNone None s = IsGiven s.seed ⊎ IsGiven s.faults
ChoosesNone (Some word) s = (s.pairs ≡ true) ⊎ DrawsNone word.now s

-- two words write a part: its number, and how many parts there are
abbrev pub WritePart : List ℕ → List ℕ → Part → Type 0
WritePart number count part = IsNumberIn 1 1000000 count part.count × IsNumberIn 1 part.count number part.number

-- two words write none
abbrev pub WriteNoPart : List ℕ → List ℕ → Type 0
WriteNoPart number count = (part : Part) → WritePart number count part → ⊥

-- a slash
abbrev pub is_slash : ℕ → Bool
is_slash b = b == 47

-- a word has a slash, and what stands before and behind the first one writes a part
abbrev pub IsPart : List ℕ → Part → Type 0
IsPart word part = (position_or_len is_slash word < length word)
    × WritePart (before_first is_slash word) (after_first is_slash word) part

-- a word writes no part
abbrev pub IsPartless : List ℕ → Type 0
IsPartless word = (part : Part) → IsPart word part → ⊥

-- which part of the runs is made: the one that a word writes, or the whole, where none is given
abbrev pub IsPartAsked : Option (Bor (List ℕ)) → Part → Type 0
IsPartAsked None part = (part.number ≡ 1) × (part.count ≡ 1)
IsPartAsked (Some word) part = IsPart word.now part

-- a word is given, and writes no part
abbrev pub IsNoPart : Option (Bor (List ℕ)) → Type 0
IsNoPart None = ⊥
IsNoPart (Some word) = IsPartless word.now

-- a picture is asked for, and something with which it doesn't go
abbrev pub is_crowded : Sweeping → Bool
is_crowded s = s.svg && (s.csv || (s.pairs || (is_some s.random || is_some s.part)))

-- the words but for the kinds ask for these
pub record Asks (s : Sweeping) (a : Asked) : Type 0 where
  pub picture : is_crowded s ≡ false
  pub motions : AreMotions s.motions a.motions
  pub choice : Chooses s.random s a.choice
  pub part : IsPartAsked s.part a.part
  pub threads : IsNumberOr 1 1 64 s.threads a.threads

-- the words but for the kinds are wrong
abbrev pub AsksNothing : Sweeping → Type 0
AsksNothing s = (is_crowded s ≡ true) ⊎ (IsNoCount s.motions ⊎ (ChoosesNone s.random s ⊎ (IsNoPart s.part
    ⊎ IsOutside 1 64 s.threads)))
