-- The entry that a turn decides on is its machine's own
use Rattle.std.proofs.Common.{◌≡◌, ℕ, true, Option, Some, None, List, IfSome, sym, subst}
use Rattle.cell_types.specs.declared.words.Actor.TheVariants as actor
use Rattle.cell_types.specs.declared.words.Entry.{Entry}
use Rattle.cell_types.specs.declared.words.Machine.{Machine}
use Rattle.cell_types.specs.Entries.{actor_or_operator, machine_of_entry}
use Rattle.cell_rules.specs.declared.limits.BookLimits.{BookLimits}
use Rattle.cell_rules.specs.Legal.{legal}
use Rattle.cell_rules.proofs.Safe.Told.{told_when_legal}
use Rattle.cell_diagnosis.specs.declared.reading.Reading.{Reading}
use Rattle.cell_machines.proofs.Own.{useful_own}
use Rattle.cell_machines.proofs.Proposed.{some_proposed}
use Rattle.cell_ports.specs.declared.plan.Plan.{Plan}
use Rattle.cell_turns.specs.declared.turns.decide.Ruling.{Ruling}
use Rattle.cell_turns.specs.declared.turns.decide.Ruling.TheVariants.{Books, Nothing, PastLast, Proposes}
use Rattle.cell_turns.specs.Minds.{Mind}
use Rattle.cell_turns.specs.Observed.{findings}
use Rattle.cell_turns.specs.Rulings.{ruling}
use Rattle.cell_turns.specs.Turns.{IsDecided, IsRuled}
use Rattle.cell_turns.proofs.Own.{OwnRuling}
use Rattle.cell_turns.proofs.Rooms.{own_ruling}
use Rattle.cell_turns.proofs.Shown.{shown}
use Rattle.cell_turns.proofs.Signed.{lit}

abbrev Owned : Machine → Option Entry → Type 0
Owned m e = IfSome e (λ x. machine_of_entry x ≡ Some m)

-- an actor that is a machine isn't the operator
machine_by : (o : Option Machine) (m : Machine) → actor_or_operator o ≡ actor.Machine m → o ≡ Some m
machine_by (Some k) m h = cc h
machine_by None m h = cc h

ruled_owned : (l : BookLimits) (J : List Entry) (m : Machine) (plates : ℕ) (k : Ruling) (e : Option Entry)
    → OwnRuling l J m k → IsRuled l J m plates k e → Owned m e
ruled_owned l J m plates Nothing e own h = subst (Owned m) (sym h) tt
ruled_owned l J m plates (Books x) e own h =
    subst (Owned m) (sym h) (machine_by (machine_of_entry x) m own.by)
ruled_owned l J m plates PastLast e own h = absurd h
ruled_owned l J m plates Proposes None own h = tt
ruled_owned l J m plates Proposes (Some e) own h =
    machine_by (machine_of_entry e) m (useful_own l J plates m e (some_proposed l J plates m (Some e) h))

own_here : (l : BookLimits) (J : List Entry) (m : Machine) (p : Plan) (s : Mind) (r : Option Reading)
    → legal l J ≡ true → OwnRuling l J m (ruling J m p s r)
unfolding ruling
own_here l J m p s r h =
    own_ruling l J m s.memory (findings J m p s r) (λ yes. lit J m r s.memory.sign yes) (told_when_legal l J h)
    (shown J p m)

pub decided_owned : (l : BookLimits) (J : List Entry) (m : Machine) (p : Plan) (s : Mind) (r : Option Reading)
    (e : Option Entry) → legal l J ≡ true → IsDecided l J m p s r e → Owned m e
decided_owned l J m p s r e h d = ruled_owned l J m p.plates (ruling J m p s r) e (own_here l J m p s r h) d
