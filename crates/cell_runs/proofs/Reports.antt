-- What is printed of a report, and of a run in rounds.
use Rattle.std.proofs.Common.{◌≡◌, ℕ, Bool, List, Option, Result, Ok, Err, Some, inl, refl, subst}
use Rattle.std.specs.Prelude.{IfOk}
use Rattle.cell_types.specs.declared.words.Entry.{Entry}
use Rattle.cell_types.specs.declared.words.Totals.{Totals}
use Rattle.cell_rules.specs.Views.{count_of}
use Rattle.cell_ports.specs.declared.plan.Plan.{Plan}
use Rattle.cell_output.specs.Watched.{WritesPart}
use Rattle.cell_workers.specs.declared.ends.End.{End}
use Rattle.cell_workers.specs.Report.{IsReport}
use Rattle.operator_desk.specs.declared.line.Line.{Line}
use Rattle.cell_runs.specs.Runs.{PrintsOrStops, WritesReport, kept, limits_of, shown}

-- printing doesn't look at the plan, so what the report has to do with it may be told afterwards
pub report-printed : {E : Type 0} (r : Result ℕ E) (journal : Bool) (e : End) (J : List Entry) (t : Totals)
    (ws : List (List Entry × Totals)) (old new : Option (List ℕ))
    → IfOk r (PrintsOrStops journal e t J old new)
    → IfOk r (λ status. (plan : Plan) (script : List Line) → IsReport (limits_of plan) script J t ws
    → WritesReport journal plan script old new status (Some (kept J e plan)))
report-printed (Ok status) journal e J t ws old new printed = λ plan script is. inl (e, J, t, ws, is, printed, refl)
report-printed (Err error) journal e J t ws old new printed = printed

-- the printer has the book's journal and the totals that the book counted
pub outcome-printed : {E : Type 0} (r : Result ℕ E) (journal : Bool) (e : End) (J K : List Entry) (t : Totals)
    (old new : Option (List ℕ))
    → K ≡ J → t ≡ count_of J → IfOk r (PrintsOrStops journal e t K old new)
    → IfOk r (PrintsOrStops journal e (count_of J) J old new)
outcome-printed r journal e J K t old new same counts printed =
    subst (λ (L : List Entry). IfOk r (PrintsOrStops journal e (count_of J) L old new)) same
    (subst (λ (u : Totals). IfOk r (PrintsOrStops journal e u K old new)) counts printed)

-- the same where a write was refused on the way
pub outcome-in-part : (journal : Bool) (e : End) (J K : List Entry) (t : Totals) (old new : Option (List ℕ))
    → K ≡ J → t ≡ count_of J → WritesPart old new (shown journal e t K)
    → WritesPart old new (shown journal e (count_of J) J)
outcome-in-part journal e J K t old new same counts part =
    subst (λ (L : List Entry). WritesPart old new (shown journal e (count_of J) L)) same
    (subst (λ (u : Totals). WritesPart old new (shown journal e u K)) counts part)
