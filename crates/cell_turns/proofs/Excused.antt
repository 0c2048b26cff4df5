-- A turn is refused only for want of room, or once the plates' numbers have run out
use Rattle.std.proofs.Common.{◌≡◌, ◌≢◌, true, false, Option, Some, None, List, refl, sym, ◌∙◌, subst, ◌⊎◌, inl, inr}
use Rattle.cell_types.specs.declared.words.Machine.{Machine}
use Rattle.cell_types.specs.declared.words.Entry.{Entry}
use Rattle.cell_rules.specs.declared.limits.BookLimits.{BookLimits}
use Rattle.cell_rules.specs.declared.refusal.Refusal.{Refusal}
use Rattle.cell_rules.specs.declared.refusal.Refusal.TheVariants.{JournalFull, PlateLimit, OutOfMemory}
use Rattle.cell_rules.specs.Legal.{first_of}
use Rattle.cell_ports.specs.declared.plan.Plan.{Plan}
use Rattle.cell_turns.specs.declared.turns.decide.Ruling.{Ruling}
use Rattle.cell_turns.specs.declared.turns.decide.Ruling.TheVariants.{PastLast}
use Rattle.cell_turns.specs.Rulings.{ruling}
use Rattle.cell_diagnosis.specs.declared.reading.Reading.{Reading}
use Rattle.cell_turns.specs.declared.turns.TurnError.TheVariants.{Refused}
use Rattle.cell_turns.specs.declared.watch.Watch.{Watch}
use Rattle.cell_turns.specs.Minds.{Mind, FitsMind}
use Rattle.cell_turns.specs.Turns.{may_meet, IsDecided, IsUnbooked, IsExcused}
use Rattle.cell_turns.proofs.Own.{IsOwn}
use Rattle.cell_turns.proofs.OwnTurns.{OwnEntry}

-- want of memory is set apart, since it doesn't come from the tests of the entry
memory_or_not : (why : Refusal) → (why ≡ OutOfMemory) ⊎ (why ≢ OutOfMemory)
memory_or_not OutOfMemory = inl refl
memory_or_not _ = inr (λ e. cc)

-- both refusals that an entry may meet are for want of room
expects : (e : Entry) (why : Refusal) → may_meet e (Some why) ≡ true → (why ≡ JournalFull) ⊎ (why ≡ PlateLimit)
expects e JournalFull h = inl refl
expects e PlateLimit h = inr refl
expects e _ h = cc

-- only a quarantine can lack memory, and no machine books one, so a test has refused it
refused_first : (l : BookLimits) (J : List Entry) (m : Machine) (e : Entry) (why : Refusal) → IsOwn l J m e
    → IsUnbooked l J (Some e) why → first_of l J e ≡ Some why
refused_first l J m e why own h = go (memory_or_not why)
  where
    go : (why ≡ OutOfMemory) ⊎ (why ≢ OutOfMemory) → first_of l J e ≡ Some why
    go (inl is) = absurd (differ (sym own.plain ∙ h.0 is))
      where
        differ : false ≡ true → ⊥
        differ q = cc
    go (inr isnt) = h.1 isnt

-- the book's refusal of the entry that was decided
pub excused : (l : BookLimits) (J : List Entry) (m : Machine) (p : Plan) (r : Option Reading) (w : Watch)
    (e : Option Entry) (why : Refusal)
    → ((s : Mind) → FitsMind w s → IsDecided l J m p s r e) → OwnEntry l J m e → IsUnbooked l J e why
    → IsExcused l J m p r w (Refused why)
excused l J m p r w None why decided own h = absurd h
excused l J m p r w (Some e) why decided own h =
    let first = refused_first l J m e why own h in
    let expected : may_meet e (Some why) ≡ true = subst (λ (o : Option Refusal). may_meet e o ≡ true)
    first own.room in (
      λ s fit. inr (record { entry = e; decided = decided s fit; first = first; expected = expected }),
      expects e why expected,
    )

-- the plates' numbers have run out
pub past_last : (l : BookLimits) (J : List Entry) (m : Machine) (p : Plan) (r : Option Reading) (w : Watch) (k : Ruling)
    (why : Refusal)
    → ((s : Mind) → FitsMind w s → k ≡ ruling J m p s r) → (k ≡ PastLast) × (why ≡ PlateLimit)
    → IsExcused l J m p r w (Refused why)
past_last l J m p r w k why ruled h = (λ s fit. inl (sym (ruled s fit) ∙ h.0, h.1), inr h.1)
