-- What a turn decides, as the code has it, is the machine's own
use Rattle.std.proofs.Common.{◌≡◌, IfSome, ℕ, Bool, true, false, ◌&&◌, Option, Some, None, List, refl, sym, ap, ◌∙◌}
use Rattle.std.proofs.Common.{subst, ◌⊎◌, inl, inr}
use Rattle.cell_types.specs.declared.words.Machine.{Machine}
use Rattle.cell_types.specs.declared.words.Actor.TheVariants as actor
use Rattle.cell_types.specs.declared.words.Entry.{Entry}
use Rattle.cell_types.specs.declared.words.Entry.TheVariants.{Quarantined}
use Rattle.cell_types.specs.Entries.{actor_of}
use Rattle.cell_rules.specs.Views.{is_quarantined}
use Rattle.cell_rules.specs.declared.limits.BookLimits.{BookLimits}
use Rattle.cell_rules.specs.declared.refusal.Refusal.{Refusal}
use Rattle.cell_rules.specs.declared.refusal.Refusal.TheVariants.{JournalFull}
use Rattle.cell_rules.specs.Bridged.{TellsWhatIsLeft}
use Rattle.cell_rules.specs.Legal.{first_of}
use Rattle.cell_ports.specs.declared.plan.Plan.{Plan}
use Rattle.cell_turns.specs.declared.turns.decide.Ruling.{Ruling}
use Rattle.cell_turns.specs.declared.turns.decide.Ruling.TheVariants.{Nothing, Books, PastLast, Proposes}
use Rattle.cell_turns.specs.Moving.{motion_of_machine}
use Rattle.cell_turns.specs.Rulings.{ruling_by}
use Rattle.cell_diagnosis.specs.declared.reading.Reading.{Reading}
use Rattle.cell_machines.specs.Useful.{is_useful}
use Rattle.cell_machines.proofs.Proposed.{some_proposed}
use Rattle.cell_turns.specs.declared.watch.Watch.{Watch}
use Rattle.cell_turns.specs.declared.turns.decide.Findings.{Findings}
use Rattle.cell_turns.specs.Signs.{shows_sign}
use Rattle.cell_turns.specs.Turns.{may_meet, IsRuled}
use Rattle.cell_turns.proofs.Own.{IsOwn, OwnRuling}
use Rattle.cell_turns.proofs.Shown.{AreShown, shown}
use Rattle.cell_turns.proofs.Signed.{lit}
use Rattle.cell_turns.proofs.Rooms.{own_ruling}

-- quarantines are the operator's, so a machine books none
plain_by : (e : Entry) (m : Machine) → actor_of e ≡ actor.Machine m → is_quarantined e ≡ false
plain_by (Quarantined k src) m h = cc
plain_by _ m h = refl

-- a useful entry is refused, if at all, by a full journal, which any entry may meet
room_by : (e : Entry) (o : Option Refusal) → (o ≡ None) ⊎ (o ≡ Some JournalFull) → may_meet e o ≡ true
room_by e o (inl h) = ap (may_meet e) h
room_by e o (inr h) = ap (may_meet e) h

-- shown of useful entries in the crate of the machines; the code hands it in, and the next one too
abbrev pub UsefulIsOwn : Type 0
UsefulIsOwn = (l : BookLimits) (J : List Entry) (plan : ℕ) (m : Machine) (e : Entry) → is_useful l J plan m e ≡ true
    → actor_of e ≡ actor.Machine m

abbrev pub UsefulHasRoom : Type 0
UsefulHasRoom = (l : BookLimits) (J : List Entry) (plan : ℕ) (m : Machine) (e : Entry) → is_useful l J plan m e ≡ true
    → (first_of l J e ≡ None) ⊎ (first_of l J e ≡ Some JournalFull)

abbrev pub OwnEntry : BookLimits → List Entry → Machine → Option Entry → Type 0
OwnEntry l J m None = Unit {0}
OwnEntry l J m (Some e) = IsOwn l J m e

-- what is proposed is useful, and from that comes all that is asked here
own_ruled : (l : BookLimits) (J : List Entry) (m : Machine) (plates : ℕ) (k : Ruling) (e : Option Entry) → UsefulIsOwn
    → UsefulHasRoom → OwnRuling l J m k → IsRuled l J m plates k e → OwnEntry l J m e
own_ruled l J m plates Nothing e mine room own h = subst (OwnEntry l J m) (sym h) tt
own_ruled l J m plates (Books x) e mine room own h = subst (OwnEntry l J m) (sym h) own
own_ruled l J m plates PastLast e mine room own h = absurd h
own_ruled l J m plates Proposes None mine room own h = tt
own_ruled l J m plates Proposes (Some e) mine room own h =
    let useful : is_useful l J plates m e ≡ true = some_proposed l J plates m (Some e) h in
    record {
      by = mine l J plates m e useful;
      room = room_by e (first_of l J e) (room l J plates m e useful);
      plain = plain_by e m (mine l J plates m e useful);
    }

pub own_turn : (l : BookLimits) (w : Watch) (J : List Entry) (p : Plan) (r : Option Reading) (k : Ruling)
    (e : Option Entry) (found : Findings)
    → UsefulIsOwn → UsefulHasRoom → TellsWhatIsLeft J
    → found.motion ≡ motion_of_machine J p w.machine
    → found.sign ≡ shows_sign J w.machine r
    → k ≡ ruling_by J w.machine w.memory found
    → IsRuled l J w.machine p.plates k e
    → OwnEntry l J w.machine e
own_turn l w J p r k e found mine room told motion_is sign_is k_is h =
    own_ruled l J w.machine p.plates k e mine room
    (subst (OwnRuling l J w.machine) (sym k_is)
    (own_ruling l J w.machine w.memory found
    (λ yes. lit J w.machine r w.memory.sign (ap (λ (b : Bool). w.memory.sign && b) (sym sign_is) ∙ yes))
    told (subst (AreShown J w.machine) (sym motion_is) (shown J p w.machine))))
    h

pub own_actor : (l : BookLimits) (J : List Entry) (m : Machine) (e : Option Entry) → OwnEntry l J m e
    → IfSome e (λ x. actor_of x ≡ actor.Machine m)
own_actor l J m None own = tt
own_actor l J m (Some e) own = own.by
