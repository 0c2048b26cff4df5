-- The run of the simulated cell as a function: from each moment the one that follows
use Rattle.std.specs.Prelude.{◌≡◌, ◌≢◌, ◌+◌, ◌++◌, ◌∷◌, [], ℕ, zero, suc, Bool, false, Option, Some, None, List}
use Rattle.std.specs.Prelude.{option_to_list}
use Rattle.std.specs.Option.{option_and_then}
use Rattle.cell_types.specs.Entries.{command_of}
use Rattle.cell_types.specs.Texts.{all_machine}
use Rattle.cell_types.specs.declared.words.Command.{Command}
use Rattle.cell_types.specs.declared.words.Entry.{Entry}
use Rattle.cell_types.specs.declared.words.Machine.{Machine}
use Rattle.cell_rules.specs.declared.limits.BookLimits.{BookLimits}
use Rattle.cell_diagnosis.specs.declared.reading.Reading.{Reading}
use Rattle.cell_machines.specs.Candidates.{proposed}
use Rattle.cell_ports.specs.declared.plan.Plan.{Plan}
use Rattle.cell_ports.specs.declared.port.Act.{Act}
use Rattle.cell_turns.specs.Acts.{act_of}
use Rattle.cell_turns.specs.Rulings.{ruling}
use Rattle.cell_turns.specs.Schedules.{Now, mind_sent, now}
use Rattle.cell_turns.specs.Six.{at, put}
use Rattle.cell_turns.specs.Turns.{mind_after}
use Rattle.cell_turns.specs.declared.turns.decide.Ruling.{Ruling}
use Rattle.cell_turns.specs.declared.turns.decide.Ruling.TheVariants.{Books, Nothing, PastLast, Proposes}
use Rattle.operator_desk.specs.Next.{entry_of, left_after, next_of}
use Rattle.operator_desk.specs.declared.action.Action.{Action}
use Rattle.operator_desk.specs.declared.line.Line.{Line}
use Rattle.cell_plant.specs.declared.keeper.Unkept.{Unkept}
use Rattle.cell_workers.specs.declared.ends.End.{End}
use Rattle.cell_workers.specs.declared.ends.End.TheVariants as end
use Rattle.cell_rounds.specs.Moves.{Leads, Terms}
use Rattle.cell_rounds.specs.Stands.{Between, Closing, Desk, Noting, Place, Point, Serving, Stand, Turning, desk, place}
use Rattle.cell_rounds.specs.Stands.{start, to}
use Rattle.cell_sim.specs.Commands.{after_command, fails}
use Rattle.cell_sim.specs.Hands.{after_hand}
use Rattle.cell_sim.specs.Readings.{after_reading, after_round, shown}
use Rattle.cell_sim.specs.Simulated.{Simulated}
use Rattle.cell_sim.specs.declared.fault.PlannedFault.{PlannedFault}
use Rattle.sim_plant.specs.Answers.{AnswersSo, SimCell}
use Rattle.cell_runs.specs.Cells.{AllKept, Ran}
use Rattle.cell_runs.specs.Runs.{Simulates}
use Rattle.cell_runs.specs.declared.inputs.Inputs.{Inputs}

-- a moment of a run: the world, the journal with what each watch stands for, the script's lines, and the place in the
-- round
pub record Moment : Type 0 where
  pub world : Simulated
  pub now : Now
  pub desk : Desk
  pub place : Place

abbrev pub moment : Simulated → Now → Desk → Place → Moment
moment world now desk place = record { world = world; now = now; desk = desk; place = place }

abbrev pub moment_of : Stand SimCell Unkept → Moment
moment_of s = moment s.cell.world s.now s.desk s.place

-- the entry by what was decided: none, this one, or what the machine does next
abbrev pub ruled : BookLimits → List Entry → ℕ → Machine → Ruling → Option Entry
ruled l J plates m Nothing = None
ruled l J plates m (Books e) = Some e
ruled l J plates m PastLast = None
ruled l J plates m Proposes = proposed l J plates m

-- the entry that a turn of m decides on at this reading
abbrev pub decided : BookLimits → Plan → Machine → Option Reading → Now → Option Entry
decided l p m r s = ruled l s.journal p.plates m (ruling s.journal m p (at s.minds m) r)

-- the world after a command, if there is one, and whether that fails
abbrev pub ordered : List PlannedFault → Simulated → Option Command → Simulated
ordered faults w None = w
ordered faults w (Some c) = after_command faults w c

abbrev pub is_lost : List PlannedFault → Simulated → Option Command → Bool
is_lost faults w None = false
is_lost faults w (Some c) = fails faults w c

-- after a turn of m that showed this and decided on that
abbrev pub turned : Terms → List PlannedFault → Machine → List Machine → Option Reading → Option Entry → Moment → Moment
turned T faults m rest r e a = moment (ordered faults (after_reading a.world m) (option_and_then command_of e))
    (now (a.now.journal ++ option_to_list e) (put a.now.minds m
    (mind_sent (is_lost faults (after_reading a.world m) (option_and_then command_of e))
    (mind_after a.now.journal m T.plan (at a.now.minds m) r e))))
    a.desk (to a.place (Turning rest))

-- the world after an act by hand, if there is one
abbrev pub handed : Simulated → Option Act → Simulated
handed w None = w
handed w (Some act) = after_hand w act

-- after the operator's action, if his script has one now
abbrev pub served : Moment → Option Action → Moment
served a None = moment a.world a.now a.desk (to a.place (Serving 0))
served a (Some x) = moment (handed a.world (act_of (entry_of x))) (now (a.now.journal ++ entry_of x ∷ []) a.now.minds)
    (desk (left_after a.desk.lines) false) (to a.place (Serving 0))

-- what follows: a round begins; nobody did anything at the cell; each machine takes its turn; the operator does his
-- script's next action; nobody wants anything at the cell; and the round ends
abbrev pub next_at : Terms → List PlannedFault → Point → Moment → Moment
next_at T faults Between a = moment a.world a.now a.desk (place a.place.rounds a.now.journal (Noting 0))
next_at T faults (Noting n) a = moment a.world a.now a.desk (to a.place (Turning all_machine))
next_at T faults (Turning (m ∷ rest)) a = turned T faults m rest (shown a.world m)
    (decided T.limits T.plan m (shown a.world m) a.now) a
next_at T faults (Turning []) a =
    served a (next_of a.desk.lines (record { limits = T.limits; entries = a.now.journal }))
next_at T faults (Serving n) a = moment a.world a.now a.desk (to a.place Closing)
next_at T faults Closing a =
    moment (after_round a.world) a.now a.desk (place (a.place.rounds + 1) a.place.begun Between)
next_at T faults _ a = a

abbrev pub next : Terms → List PlannedFault → Moment → Moment
next T faults a = next_at T faults a.place.point a

-- so many moves later
abbrev pub later : Terms → List PlannedFault → ℕ → Moment → Moment
later T faults zero a = a
later T faults (suc n) a = next T faults (later T faults n a)

-- a run of the simulated cell goes through these moments and no others
abbrev pub RunFollows : Type 0
RunFollows =
    (T : Terms) (cell : SimCell) (k : Unkept) (J : List Entry) (lines : List Line) (s : Stand SimCell Unkept)
    → Leads AnswersSo AllKept T (start cell k J lines None) s
    → (n : ℕ) × (moment_of s ≡ later T cell.faults n (moment_of (start cell k J lines None)))

-- the same journal, the same end and the same world
abbrev pub Same : List Entry → List Entry → End → End → Simulated → Simulated → Type 0
Same J K e f v w = (J ≡ K) × (e ≡ f) × (v ≡ w)

-- so two runs of the same cell by the same plan and the same script are the same, if memory wasn't refused to them
abbrev pub RunIsOne : Type 0
RunIsOne =
    (l : BookLimits) (p : Plan) (old new other : SimCell) (before J K : List Entry) (script : List Line) (e f : End)
    → Ran AnswersSo l p old before script new J e → Ran AnswersSo l p old before script other K f → e ≢ end.Memory
    → f ≢ end.Memory → Same J K e f new.world other.world

-- and so are those of which the texts of a run tell
abbrev pub SimulationIsOne : Type 0
SimulationIsOne =
    (inputs : Inputs) (world : Simulated) (before J K : List Entry) (e f : End) → Simulates inputs world before J e
    → Simulates inputs world before K f → e ≢ end.Memory → f ≢ end.Memory → (J ≡ K) × (e ≡ f)
