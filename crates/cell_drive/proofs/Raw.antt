-- What a run by commands has written, part after part
use Rattle.std.proofs.Common.{◌≡◌, ◌≢◌, ◌<◌, ◌+◌, ◌∙◌, ◌++◌, ℕ, List, [], Option, Some, None, Result, Ok, Err}
use Rattle.std.proofs.Common.{IfOk, OnOk, ap, append_assoc, arith, inl, inr, refl, subst, sym}
use Rattle.std.specs.Prelude.{position}
use Rattle.std.specs.Io.KnownBytes.{Appends}
use Rattle.std.proofs.KnownBytes.{Appends-trans}
use Rattle.std.proofs.lemmas.Result.{IfOk-weaker}
use Rattle.cell_audit.specs.Lines.{WritesAnswer}
use Rattle.cell_audit.specs.declared.error.AuditError.{AuditError}
use Rattle.cell_rows.specs.Scripts.{Gives, script_status}
use Rattle.cell_rows.specs.declared.script.LineError.{LineError}
use Rattle.cell_rows.specs.declared.script.LineError.TheVariants as error
use Rattle.cell_types.specs.declared.words.Entry.{Entry}
use Rattle.cell_types.specs.declared.words.Totals.{Totals}
use Rattle.operator_desk.specs.declared.line.Line.{Line}
use Rattle.cell_sim.specs.Simulated.{Simulated}
use Rattle.cell_method.specs.Lines.{Row}
use Rattle.cell_method.specs.declared.error.DriveError.{DriveError}
use Rattle.cell_method.specs.declared.rounds.DriveEnd.{DriveEnd}
use Rattle.cell_method.specs.declared.rounds.DriveEnd.TheVariants as ends
use Rattle.cell_runs.specs.Inputs.{WritesError, operator_line}
use Rattle.cell_runs.specs.Runs.{limits_of}
use Rattle.cell_runs.specs.declared.inputs.Inputs.{Inputs}
use Rattle.cell_drive.specs.Commanded.{Commanded, EndsAs, Stand, counted_in, run_counts, start}
use Rattle.cell_drive.specs.Deeds.{IsRead, is_expecting}
use Rattle.cell_drive.specs.Ends.{end_lines}
use Rattle.cell_drive.specs.Raw.{DrivesCommands, DrivesRaw, DrivesScript, DrivesWorld, HasNoWorld, IsStatusOf}
use Rattle.cell_drive.specs.Raw.{RunsCommands, TellsCommanded, first_lines, world_in}

-- a script that reads well is refused here for want of memory alone
pub script-read : (e : LineError) (script : List Line) (due : Result (List Line) LineError) → due ≡ Ok script
    → Gives (Err e) due → IsRead script (Err e)
script-read (error.Unreadable place) script due is gives = cc
script-read error.TooManyLines script due is gives = cc
script-read error.OutOfMemory script due is gives = tt

-- what is told, put together of its parts
pub told-lines : (e : DriveEnd) (s : Stand) (t : Totals) (k : ℕ) (a b c d more z : List ℕ)
    → a ≡ end_lines e t → t ≡ counted_in s.world → b ≡ run_counts s.rounds s.commands k → k ≡ s.world.collisions
    → c ≡ b → d ≡ a ++ c → z ≡ d ++ more → TellsCommanded e s z
told-lines e s t k a b c d more z ends total counts collisions same one two =
    let first : a ≡ end_lines e (counted_in s.world) = ends ∙ ap (λ (u : Totals). end_lines e u) total in
    let next : c ≡ run_counts s.rounds s.commands s.world.collisions =
    same ∙ counts ∙ ap (λ n. run_counts s.rounds s.commands n) collisions in (
      more,
      two ∙ ap (λ text. text ++ more) one ∙ append_assoc a c more ∙ ap (λ text. text ++ (c ++ more)) first
          ∙ ap (λ text. end_lines e (counted_in s.world) ++ (text ++ more)) next,
    )

-- a run that was told is one by commands
pub runs : (inputs : Inputs) (s t : Stand) (all left : Option (List (Option Row))) (e ended : DriveEnd)
    (w x z : Option (List ℕ)) (r : Result ℕ DriveError)
    → Commanded inputs.plan inputs.faults s t all left e w x → (ended ≢ ends.Memory → e ≡ ended)
    → OnOk r ((text : List ℕ) × TellsCommanded ended t text × Appends x z text) → IfOk r (IsStatusOf ended t.world)
    → IfOk r (λ status. status < 3 → ended ≢ ends.Memory)
    → IfOk r (λ status. status < 3 → RunsCommands inputs s all [] w z status)
runs inputs s t all left e ended w x z (Err error) c same told is memory = tt
runs inputs s t all left e ended w x z (Ok status) c same (text, tells, written) is memory = λ few. record {
  after = t;
  left = left;
  to = c.to;
  told = c.goes.told;
  leads = c.goes.leads;
  ended = ended;
  ends = subst (λ (end : DriveEnd). EndsAs inputs.plan t c.to all left end) (same (memory few)) c.ends;
  with_status = is;
  below = text;
  tells = tells;
  text = Appends-trans w x z c.goes.told text c.goes.text written;
}

-- behind its first lines
runs-behind : (inputs : Inputs) (s t : Stand) (all : Option (List (Option Row))) (first : List ℕ)
    (w x z : Option (List ℕ)) (status : ℕ)
    → s ≡ t → Appends w x first → RunsCommands inputs s all [] x z status → RunsCommands inputs t all first w z status
runs-behind inputs s t all first w x z status same before run = subst (λ (u : Stand). RunsCommands inputs u all first w
    z status) same (record {
      after = run.after;
      left = run.left;
      to = run.to;
      told = run.told;
      leads = run.leads;
      ended = run.ended;
      ends = run.ends;
      with_status = run.with_status;
      below = run.below;
      tells = run.tells;
      text = Appends-trans w x z first (run.told ++ run.below) before run.text;
    })

in-world : (inputs : Inputs) (from : Option (List Entry)) (all : Option (List (Option Row))) (w z : Option (List ℕ))
    (status : ℕ)
    → DrivesCommands inputs from all w z status → DrivesWorld inputs from all w z status
in-world inputs None all w z status run = run
in-world inputs (Some J) all w z status run = inl run

-- the script has no line that is refused
pub driven : (inputs : Inputs) (from : Option (List Entry)) (w : Simulated) (script : List Line)
    (all : Option (List (Option Row))) (a b c : Option (List ℕ)) (r : Result ℕ DriveError)
    → (position is_expecting inputs.script ≡ None) × (script ≡ inputs.script) → w ≡ world_in inputs from
    → Appends a b (first_lines inputs.plan from)
    → IfOk r (λ status. status < 3 → RunsCommands inputs (start w script) all [] b c status)
    → IfOk r (λ status. status < 3 → DrivesRaw inputs from all a c status)
driven inputs from w script all a b c r (none, same) is before run = IfOk-weaker r _ _
    (λ status h few. subst (λ (o : Option ℕ). DrivesScript o inputs from all a c status) (sym none)
    (in-world inputs from all a c status
    (runs-behind inputs (start w script) (start (world_in inputs from) inputs.script) all
    (first_lines inputs.plan from) a b c status
    (ap (λ (v : Simulated). start v script) is ∙ ap (λ (ls : List Line). start (world_in inputs from) ls) same)
    before (h few)))) run

-- it has one
pub script-refused : (inputs : Inputs) (from : Option (List Entry)) (all : Option (List (Option Row)))
    (a c : Option (List ℕ)) (e : LineError) (r : Result ℕ DriveError)
    → IsRead inputs.script (Err e) → IfOk r (WritesError a c (operator_line e) (script_status e))
    → IfOk r (λ status. status < 3 → DrivesRaw inputs from all a c status)
script-refused inputs from all a c (error.Unreadable place) r (before, at, is) written = IfOk-weaker r _ _
    (λ status h few. subst (λ (o : Option ℕ). DrivesScript o inputs from all a c status) (sym at)
    (subst (λ n. WritesError a c (operator_line (error.Unreadable n)) 1 status) is h)) written
script-refused inputs from all a c error.TooManyLines r is written = absurd is
script-refused inputs from all a c error.OutOfMemory r is written = IfOk-weaker r _ _
    (λ status h few. absurd (let same : status ≡ 4 = h.1 in omega arith)) written

-- the journal is refused
pub journal-refused : (inputs : Inputs) (from : Option (List Entry)) (all : Option (List (Option Row)))
    (a c : Option (List ℕ)) (e : AuditError) (r : Result ℕ DriveError)
    → position is_expecting inputs.script ≡ None → HasNoWorld (limits_of inputs.plan) from e
    → IfOk r (WritesAnswer a c (Err e))
    → IfOk r (λ status. status < 3 → DrivesRaw inputs from all a c status)
journal-refused inputs None all a c e r none is written = absurd is
journal-refused inputs (Some J) all a c e r none is written = IfOk-weaker r _ _
    (λ status h few. subst (λ (o : Option ℕ). DrivesScript o inputs (Some J) all a c status) (sym none)
    (inr (e, is, h))) written
