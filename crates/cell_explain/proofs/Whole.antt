-- The whole of what is told, of a book by a plan's limits
use Rattle.std.proofs.Common.{◌≡◌, ℕ, true, List, ◌++◌, Option, Result, Ok, Err, OnOk, drop, subst}
use Rattle.std.specs.Io.KnownBytes.{Appends}
use Rattle.cell_types.specs.declared.words.Entry.{Entry}
use Rattle.cell_rules.specs.History.{History}
use Rattle.cell_rules.specs.Legal.{legal}
use Rattle.operator_desk.specs.declared.line.Line.{Line}
use Rattle.cell_sim.specs.declared.fault.PlannedFault.{PlannedFault}
use Rattle.cell_ports.specs.declared.plan.Plan.{Plan}
use Rattle.cell_workers.specs.declared.ends.End.{End}
use Rattle.cell_explain.specs.Endings.{greatest, limits_of, run_of}
use Rattle.cell_explain.specs.Failures.{failures_of}
use Rattle.cell_explain.specs.Plates.{plates_of}
use Rattle.cell_explain.specs.Waiting.{waiting_of}
use Rattle.cell_explain.specs.Missed.{missed_of}
use Rattle.cell_explain.proofs.ToldOf.{told-then}
use Rattle.cell_explain.proofs.Wider.{legal-greatest}

-- what is told of a book, by the lines of both scripts
abbrev pub told_of : History → ℕ → End → Plan → ℕ → ℕ → List Line → List PlannedFault → List ℕ
told_of b before e plan n at lines faults =
    run_of b.entries e plan ++ (failures_of b.entries
    ++ (plates_of b.limits b.entries
    ++ (waiting_of b.limits b.entries n at lines ++ missed_of (drop before b.entries) faults)))

-- its parts, one after the other, of which the last is told where it was written
pub told-whole : {A B : Type 0} (r : Result A B) (b : History) (J : List Entry) (before : ℕ) (e : End) (plan : Plan)
    (n at : ℕ) (lines : List Line) (faults : List PlannedFault)
    (old first second third fourth new : Option (List ℕ)) → b ≡ record { limits = limits_of plan; entries = J }
    → Appends old first (run_of b.entries e plan) → Appends first second (failures_of b.entries)
    → Appends second third (plates_of b.limits b.entries)
    → Appends third fourth (waiting_of b.limits b.entries n at lines)
    → OnOk r (Appends fourth new (missed_of (drop before b.entries) faults))
    → OnOk r (Appends old new (told_of (record { limits = limits_of plan; entries = J }) before e plan n at lines
    faults))
told-whole r b J before e plan n at lines faults old first second third fourth new is h i j k m =
    subst (λ (a : History). OnOk r (Appends old new (told_of a before e plan n at lines faults))) is
    (told-then r old first new _ _ h (told-then r first second new _ _ i
    (told-then r second third new _ _ j (told-then r third fourth new _ _ k m))))

-- a fact holds on success too
pub always : {A B P : Type 0} (r : Result A B) → P → OnOk r P
always (Ok x) p = p
always (Err e) p = tt

-- the book's journal is legal by the greatest limits
pub legal-book : (b : History) (J : List Entry) (plan : Plan) → b ≡ record { limits = limits_of plan; entries = J }
    → legal b.limits b.entries ≡ true → legal greatest J ≡ true
legal-book b J plan is h = legal-greatest plan J (subst (λ (a : History). legal a.limits a.entries ≡ true) is h)

-- what is known of two numbers goes with what they are in
pub with-both : {A B : Type 0} (r : Result A B) (L P : ℕ → ℕ → Type 0) (n at : ℕ) → L n at → OnOk r (P n at)
    → OnOk r ((m : ℕ) × (k : ℕ) × L m k × P m k)
with-both (Ok x) L P n at l p = (n, at, l, p)
with-both (Err e) L P n at l p = tt
