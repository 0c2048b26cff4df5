-- Greater limits allow what lesser ones do
use Rattle.std.proofs.Common.{◌≡◌, ℕ, ◌+◌, ◌≤◌, Bool, true, false, Option, Some, List, [], ◌∷◌, ◌++◌, refl, arith}
use Rattle.std.specs.Prelude.{◌&&◌, nat_le, is_none, if◌then◌else◌}
use Rattle.std.proofs.lemmas.Bool.Decides.{nat_tests}
use Rattle.cell_types.specs.declared.words.Entry.{Entry}
use Rattle.cell_types.specs.declared.words.Entry.TheVariants.{Admitted, Declared}
use Rattle.cell_rules.specs.Situations.{Situation, situation_of}
use Rattle.cell_rules.specs.declared.limits.BookLimits.{BookLimits}
use Rattle.cell_rules.specs.declared.refusal.Refusal.{Refusal}
use Rattle.cell_rules.specs.declared.refusal.Refusal.TheVariants.{JournalFull, PlateLimit}
use Rattle.cell_rules.specs.First.{first, first_true}
use Rattle.cell_rules.specs.Legal.{legal, legal_from}
use Rattle.cell_ports.specs.declared.plan.Plan.{Plan}
use Rattle.cell_explain.specs.Endings.{greatest, limits_of}

-- a limit that isn't reached isn't reached where it is greater
room : (a b n : ℕ) → a ≤ b → nat_le a n ≡ false → nat_le b n ≡ false
room a b n less h = grind (arith, nat_tests)

-- what passes two tests, passes two that are passed where those are
passes : (x y : Bool) (r : Refusal) (p q : Option Refusal) → (x ≡ false → y ≡ false)
    → (is_none p ≡ true → is_none q ≡ true)
    → is_none (if x then Some r else p) ≡ true → is_none (if y then Some r else q) ≡ true
passes true y r p q head rest h = cc h
passes false y r p q head rest h = rw (head refl) (rest h)

-- a journal is legal entry by entry, so its first entry and the rest may be widened one by one
both : (a b p q : Bool) → (a ≡ true → p ≡ true) → (b ≡ true → q ≡ true) → (a && b) ≡ true → (p && q) ≡ true
both true b p q f g h = rw (f refl) (g h)
both false b p q f g h = cc h

-- a test of room, and those after it
wider : (a b n : ℕ) (r : Refusal) (ts us : List (Bool × Refusal)) → a ≤ b
    → (is_none (first_true ts) ≡ true → is_none (first_true us) ≡ true)
    → is_none (first_true ((nat_le a n, r) ∷ ts)) ≡ true → is_none (first_true ((nat_le b n, r) ∷ us)) ≡ true
unfolding first_true
wider a b n r ts us less rest h = passes (nat_le a n) (nat_le b n) r (first_true ts) (first_true us) (room a b n less)
    rest h

-- a test of the journal's room, before tests that read no limit
longer : (l m : BookLimits) (c : Situation) (ts : List (Bool × Refusal)) → l.entries ≤ m.entries
    → is_none (first_true ((nat_le l.entries c.entries, JournalFull) ∷ ts)) ≡ true
    → is_none (first_true ((nat_le m.entries c.entries, JournalFull) ∷ ts)) ≡ true
longer l m c ts more h = wider l.entries m.entries c.entries JournalFull ts ts more (λ t. t) h

-- an entry that is allowed stays so by greater limits
still_allowed : (l m : BookLimits) (c : Situation) (e : Entry) → l.entries ≤ m.entries → l.plates ≤ m.plates
    → is_none (first l c e) ≡ true → is_none (first m c e) ≡ true
still_allowed l m c (Admitted k) more plates h =
    wider l.entries m.entries c.entries JournalFull _ _ more
    (λ t. wider l.plates m.plates c.admitted PlateLimit _ _ plates (λ u. u) t) h
still_allowed l m c (Declared n cause) more plates h =
    let places : l.entries + 6 ≤ m.entries + 6 = omega arith in
    wider (l.entries + 6) (m.entries + 6) c.entries JournalFull _ _ places (λ t. t) h
still_allowed l m c _ more plates h = longer l m c _ more h

-- each entry is judged after the same ones as before, and only the limits have changed
still_legal : (l m : BookLimits) (done es : List Entry) → l.entries ≤ m.entries → l.plates ≤ m.plates
    → legal_from l done es ≡ true → legal_from m done es ≡ true
still_legal l m done [] more plates h = refl
still_legal l m done (e ∷ es) more plates h =
    both (is_none (first l (situation_of done) e)) (legal_from l (done ++ e ∷ []) es)
    (is_none (first m (situation_of done) e)) (legal_from m (done ++ e ∷ []) es)
    (λ t. still_allowed l m (situation_of done) e more plates t)
    (λ t. still_legal l m (done ++ e ∷ []) es more plates t) h

-- a journal that is legal by a plan's limits is so by the greatest
pub legal-greatest : (plan : Plan) (J : List Entry) → legal (limits_of plan) J ≡ true → legal greatest J ≡ true
legal-greatest plan J h = still_legal (limits_of plan) greatest [] J plan.journal_in_range.1 plan.plates_in_range.1 h
