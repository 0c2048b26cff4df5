-- What is asked of every order of events, by the words of its command
use Rattle.std.specs.Prelude.{◌≡◌, ◌⊎◌, ℕ, Bool, true, false, is_some, List, map}
use Rattle.std.specs.Borrow.{Bor}
use Rattle.std.specs.List.{All, Contains, list_any}
use Rattle.std.specs.Str.{bytes_eq}
use Rattle.cell_types.specs.Texts.{all_machine, machine_named, machine_word}
use Rattle.cell_types.specs.declared.words.Machine.{Machine}
use Rattle.cell_command.specs.declared.order.Exploring.{Exploring}
use Rattle.cell_explore.specs.declared.question.Question.{Question}
use Rattle.cell_orders.specs.Numbers.{IsNoNumberIn, IsNumberIn, IsNumberOr, IsOutside}

-- a word names a machine
abbrev pub names_machine : List ℕ → Bool
names_machine word = is_some (machine_named word)

-- each of the words names a machine
abbrev pub AreMachines : List (Bor (List ℕ)) → Type 0
AreMachines words = All (λ w. names_machine w.now ≡ true) words

-- one of the words names none
abbrev pub HasNoMachine : List (Bor (List ℕ)) → Type 0
HasNoMachine words = (word : Bor (List ℕ)) × Contains words word × (names_machine word.now ≡ false)

-- one of the words is a machine's
abbrev pub is_named : List (Bor (List ℕ)) → Machine → Bool
is_named words machine = list_any (λ w. bytes_eq w.now (machine_word machine)) words

-- of each machine, in their order, whether one of the words is its own
abbrev pub named : List (Bor (List ℕ)) → List Bool
named words = map (is_named words) all_machine

-- the words ask this question, with as many states at the most, and of some number of threads
pub record Asks (e : Exploring) (q : Question) (limit : ℕ) : Type 0 where
  pub plates : IsNumberIn 0 15 e.plates.now q.plan
  pub machines : AreMachines e.failing.items
  pub failing : q.may_fail ≡ named e.failing.items
  pub repairs : q.repairs ≡ e.repairs
  pub limited : IsNumberOr 2000000 1 4294967295 e.limit limit
  pub threaded : (threads : ℕ) × IsNumberOr 1 1 64 e.threads threads

-- the words ask no question: one of them is no such number, or no machine's
abbrev pub AsksNothing : Exploring → Type 0
AsksNothing e = IsNoNumberIn 0 15 e.plates.now ⊎ (IsOutside 1 4294967295 e.limit ⊎ (IsOutside 1 64 e.threads
    ⊎ HasNoMachine e.failing.items))
