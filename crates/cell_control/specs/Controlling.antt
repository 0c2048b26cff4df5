-- A run over a cell at the other end of two pipes
use Rattle.std.specs.Prelude.{◌≡◌, ◌⊎◌, ℕ, Bool, true, false, Option, None, List, [], length, if◌then◌else◌}
use Rattle.std.specs.Prelude.{Result, Ok, Err, IfOk, IsErr}
use Rattle.std.specs.declared.io.Error.{Error}
use Rattle.cell_types.specs.declared.words.Entry.{Entry}
use Rattle.cell_rules.specs.Legal.{legal}
use Rattle.cell_rules.specs.Safety.{IsSafe}
use Rattle.operator_desk.specs.declared.line.Line.{Line}
use Rattle.cell_runs.specs.Inputs.{AreInputs}
use Rattle.cell_runs.specs.declared.inputs.Inputs.{Inputs}
use Rattle.cell_runs.specs.declared.inputs.InputError.{InputError}
use Rattle.cell_control.specs.Scripts.{AreDue}
use Rattle.cell_control.specs.declared.texts.Orders.{Orders}
use Rattle.cell_lines.specs.Stands.{Begins, Stand, Syncs, Told, WritesSome, closing_text, first_stand, sync_text}
use Rattle.cell_lines.specs.declared.far_end.Loss.{Loss}
use Rattle.cell_workers.specs.declared.ends.End.TheVariants as end
use Rattle.cell_rounds.specs.Moves.{Terms}
use Rattle.cell_rounds.specs.Runs.{Controlled}
use Rattle.cell_rounds.specs.Stands.{last_command}
use Rattle.cell_rounds.specs.declared.progress.Halt.{Halt}
use Rattle.cell_rounds.specs.declared.progress.Halt.TheVariants as halt
use Rattle.cell_rounds.specs.declared.settle.LastCommand.{LastCommand}

-- what the settings and the operator's script say, or the first of them that is refused
abbrev pub AreOrders : List ℕ → List ℕ → Result Orders InputError → Type 0
AreOrders settings operator (Ok orders) = (inputs : Inputs) × AreInputs settings [] operator (Ok inputs)
    × (orders.plan ≡ inputs.plan) × (orders.script ≡ inputs.script) × (orders.operator.now ≡ operator)
AreOrders settings operator (Err e) = AreInputs settings [] operator (Err e)

-- the cell's first line was read; or the run was found again whose journal has so many entries
abbrev pub Starts : Bool → ℕ → Stand → Stand → Type 0
Starts false n s t = Begins s t
Starts true n s t = Syncs n s t

-- what is written for that
abbrev pub start_text : Bool → ℕ → List ℕ
start_text resumes n = if resumes then sync_text n else []

-- the command of which a run that goes on doesn't know whether it went out: that of the journal's last entry
abbrev pub left_open : Bool → List Entry → Option LastCommand
left_open resumes J = if resumes then last_command J else None

-- a run over a cell's lines from this journal on, by a script with these lines, and what is kept of it. A command may
-- be pending, of which it isn't known whether it went out. The cell couldn't be reached, and at most the line by which
-- it is found was written; or it was reached, and rounds led to where the run halted
pub data Ran {K : Type 0} (keeps : K → K → Entry → Bool → Type 0) (T : Terms) (resumes : Bool) (J : List Entry)
    (lines : List Line) (pending : Option LastCommand) (s t : Stand) (k k' : K) (h : Halt) (J' : List Entry) : Type 0
  where
    unreached : h ≡ halt.Gone → J' ≡ J → k' ≡ k → WritesSome (start_text resumes (length J)) s.text t.text
        → Ran keeps T resumes J lines pending s t k k' h J'
    reached : (begun : Stand) → Starts resumes (length J) s begun
        → Controlled Told keeps T h begun k J lines pending t k' J'
        → Ran keeps T resumes J lines pending s t k k' h J'

-- what was written at the end: that all machines stop, and that the run ends where the cell could still be reached
abbrev pub Closes : Option (List ℕ) → Option (List ℕ) → Type 0
Closes old new = (why : Option Loss) × WritesSome (closing_text why) old new

-- a run over these bytes of a cell, and what was written to it, at the end too
pub record Controls {K : Type 0} (keeps : K → K → Entry → Bool → Type 0) (T : Terms) (resumes : Bool) (J : List Entry)
    (lines : List Line) (pending : Option LastCommand) (input old new : Option (List ℕ)) (k k' : K) (h : Halt)
    (J' : List Entry) : Type 0 where
  pub last : Stand
  pub ran : Ran keeps T resumes J lines pending (first_stand input old) last k k' h J'
  pub closes : Closes last.text new

-- a run that halted so has this status: 0 is that of one that is finished, and of no other
abbrev pub HasStatus : Halt → ℕ → Type 0
HasStatus (halt.End end.Finished) status = status ≡ 0
HasStatus (halt.End end.Memory) status = status ≡ 4
HasStatus halt.Unkept status = status ≡ 3
HasStatus halt.Gone status = (status ≡ 1) ⊎ (status ≡ 3)
HasStatus (halt.End e) status = status ≡ 1

-- what a call that controls a cell did, whatever it answered: a run from this journal on, by the script's lines that
-- are due, led to a journal that is legal and safe, and the status is that of its halt; or it wasn't begun, and nothing
-- was written or kept
pub data Controlling {K : Type 0} (keeps : K → K → Entry → Bool → Type 0) (T : Terms) (resumes : Bool) (J : List Entry)
    (script : List Line) (operator : List ℕ) (input old new : Option (List ℕ)) (k k' : K) (answer : Result ℕ Error)
    : Type 0 where
  unbegun : IsErr answer → new ≡ old → k' ≡ k
      → Controlling keeps T resumes J script operator input old new k k' answer
  begun : (lines : List Line) (h : Halt) (J' : List Entry) → AreDue resumes operator J script lines
      → Controls keeps T resumes J lines (left_open resumes J) input old new k k' h J' → legal T.limits J' ≡ true
      → IsSafe J' → IfOk answer (HasStatus h)
      → Controlling keeps T resumes J script operator input old new k k' answer
