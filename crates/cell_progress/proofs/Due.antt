-- An order is a legal journal of entries that are due
use Rattle.std.proofs.Common.{◌≡◌, ℕ, ◌+◌, ◌==◌, ◌≤◌, Bool, true, false, ◌&&◌, not, Option, Some, None, List, [], ◌∷◌}
use Rattle.std.proofs.Common.{◌++◌, refl, sym, ap, subst, ◌∙◌, arith, eqb-true}
use Rattle.std.specs.List.{Contains}
use Rattle.std.proofs.lemmas.Bool.Decides.{nat_tests}
use Rattle.cell_types.specs.declared.words.Machine.{Machine}
use Rattle.cell_types.specs.declared.words.Station.{Station}
use Rattle.cell_types.specs.declared.words.Axis.{Axis}
use Rattle.cell_types.specs.declared.words.Belt.{Belt}
use Rattle.cell_types.specs.declared.words.Cause.{Cause}
use Rattle.cell_types.specs.declared.words.Colour.{Colour}
use Rattle.cell_types.specs.declared.words.Entry.{Entry}
use Rattle.cell_types.specs.declared.words.Entry.TheVariants.{Admitted, Arrived, Claimed, Conveyed, Declared, Delivered}
use Rattle.cell_types.specs.declared.words.Entry.TheVariants.{Dropped, Expected, Forged, Gripped, Lamp, Quarantined}
use Rattle.cell_types.specs.declared.words.Entry.TheVariants.{Reinstated, Repaired, Started, StopAsked, Yielded}
use Rattle.cell_types.specs.Cell.{machine_of_station}
use Rattle.cell_types.specs.After.{Snapshot, after, opening, step}
use Rattle.cell_types.proofs.Left.{after_snoc}
use Rattle.cell_journal.specs.Snapshots.{seen, seen_step}
use Rattle.cell_rules.specs.First.{any_still_there, any_visited, ends_by_arrival, is_pose, kind_tests, other_plate_at}
use Rattle.cell_rules.specs.First.{station_empty, tests}
use Rattle.cell_rules.specs.Legal.{allowed, legal, legal_from}
use Rattle.cell_rules.specs.Situations.{Situation}
use Rattle.cell_rules.specs.SituationIn.{situation_in}
use Rattle.cell_rules.specs.declared.limits.BookLimits.{BookLimits}
use Rattle.cell_rules.proofs.Safe.Bridge.{Good, good_passed, good_start, good_step}
use Rattle.cell_rules.proofs.Safe.Facts.{Passed, and_both, is_pose_tells, no_other, not_false, occupied, passed_last}
use Rattle.cell_rules.proofs.Safe.Facts.{plate_at}
use Rattle.cell_rules.proofs.Safe.Lights.{DepositLit}
use Rattle.cell_rules.proofs.Safe.Step.{green}
use Rattle.cell_machines.specs.Room.{is_bookable, is_none_or_full}
use Rattle.cell_machines.specs.Useful.{is_useful_now, wants}
use Rattle.cell_useful.specs.Cells.{ahead, ample, may_of, told}
use Rattle.cell_useful.specs.Moves.{entries_of}
use Rattle.cell_useful.specs.Told.{IsPossible as IsPossibleAs, Seen, can_happen, cell_seen, opening_of, seen_after}
use Rattle.cell_progress.specs.Due.{AreDue, AreDueSeen, IsDue}
use Rattle.cell_progress.specs.Orders.{IsPossible, cell_of, may_after}
use Rattle.cell_progress.proofs.Asked.{snap}
use Rattle.cell_progress.proofs.Happening.{Happens, declared_may, happens, is_operators, is_own, is_service}
use Rattle.cell_progress.proofs.Happening.{no_service, operators_never, wanted_by, wanted_own}
use Rattle.cell_progress.proofs.Happening.{ended, fails, laid, served, wanted}
use Rattle.cell_progress.proofs.Lawful.{low, none_refuses, seen_more, told_same, under_plan, with_own}
use Rattle.cell_progress.proofs.Listing.{There, admitted_there, arrived_there, cleared_there, conveyed_there}
use Rattle.cell_progress.proofs.Listing.{declared_there, delivered_there, forged_there, repaired_there, wanted_there}
use Rattle.cell_progress.proofs.Passing.{Allowed, no_full}

-- the tests of a kind are the same with limits that nothing reaches
kinds_back : (l : BookLimits) (plan : ℕ) (serves : Bool) (may : Machine → Bool) (n : ℕ) (f : Machine → ℕ)
    (q : ℕ → Option Station) (c : Situation) (e : Entry) → plan ≤ 100000 → IsDue plan serves may c e
    → Passed (kind_tests l (with_own n f q c) e) → Passed (kind_tests ample c e)
unfolding any_visited any_still_there
kinds_back l plan serves may n f q c (Expected k) room d p = absurd d
kinds_back l plan serves may n f q c (Admitted k) room d p = (low 100000 plan c.admitted room d, p.1)
kinds_back l plan serves may n f q c _ room d p = p

bookable : (s : Snapshot) (e : Entry) → Passed (kind_tests ample (cell_of s) e) → is_bookable ample (cell_of s) e ≡ true
unfolding is_bookable
bookable s e p = ap is_none_or_full (none_refuses (tests ample (cell_of s) e) (no_full e, p))

-- a green light at the deposit belt shows a plate at its end
abbrev Lit : Snapshot → Type 0
Lit s = s.lamp Belt.Deposit ≡ Colour.Green → DepositLit s.plate s.failed

due_there : (plan : ℕ) (serves : Bool) (may : Machine → Bool) (s : Snapshot) (e : Entry) → Lit s
    → IsDue plan serves may (cell_of s) e → Passed (kind_tests ample (cell_of s) e)
    → There plan serves may (cell_of s) e
due_there plan serves may s (Arrived a to) lit d p =
    let b = and_both (is_pose to (s.going a)) (ends_by_arrival a to)
    (not_false (is_pose to (s.going a) && ends_by_arrival a to) p.1.0) in
    arrived_there plan serves may (cell_of s) a to (is_pose_tells to (s.going a) b.0) b.1 (bookable s (Arrived a to) p)
due_there plan serves may s (Conveyed Axis.FeedBelt k Station.FeedEnd) lit d p =
    conveyed_there plan serves may (cell_of s) Axis.FeedBelt k Station.FeedIn Station.FeedEnd (0, omega arith, refl)
    (plate_at s Station.FeedIn k p.1.1.0) (bookable s (Conveyed Axis.FeedBelt k Station.FeedEnd) p)
due_there plan serves may s (Conveyed Axis.FeedBelt k Station.Table) lit d p =
    conveyed_there plan serves may (cell_of s) Axis.FeedBelt k Station.FeedEnd Station.Table (1, omega arith, refl)
    (plate_at s Station.FeedEnd k p.1.1.0) (bookable s (Conveyed Axis.FeedBelt k Station.Table) p)
due_there plan serves may s (Conveyed Axis.DepositBelt k Station.DepEnd) lit d p =
    conveyed_there plan serves may (cell_of s) Axis.DepositBelt k Station.DepIn Station.DepEnd (2, omega arith, refl)
    (plate_at s Station.DepIn k p.1.1.0) (bookable s (Conveyed Axis.DepositBelt k Station.DepEnd) p)
due_there plan serves may s (Conveyed a k dest) lit d p = let e = p.1.0 in cc
due_there plan serves may s (Forged Machine.Press1 k) lit d p =
    forged_there plan serves may (cell_of s) Machine.Press1 k Station.Press1 (3, omega arith, refl)
    (plate_at s Station.Press1 k p.1.1.0) (bookable s (Forged Machine.Press1 k) p)
due_there plan serves may s (Forged Machine.Press2 k) lit d p =
    forged_there plan serves may (cell_of s) Machine.Press2 k Station.Press2 (4, omega arith, refl)
    (plate_at s Station.Press2 k p.1.1.0) (bookable s (Forged Machine.Press2 k) p)
due_there plan serves may s (Forged m k) lit d p = let e = p.1.0 in cc
due_there plan serves may s (Delivered k) lit d p =
    let shown = lit (green (s.lamp Belt.Deposit) p.1.1.0) in
    delivered_there plan serves may (cell_of s) k
    (no_other s Station.DepEnd shown.plate_there k shown.there p.1.0) (bookable s (Delivered k) p)
due_there plan serves may s (Admitted k) lit d p =
    admitted_there plan serves may (cell_of s) k (eqb-true k (s.admitted + 1) (not_false (k == s.admitted + 1) p.1.1.0))
    d (bookable s (Admitted k) p)
due_there plan serves may s (Declared m why) lit d p =
    declared_there plan serves may (cell_of s) m why d.1 d.0 (bookable s (Declared m why) p)
due_there plan serves may s (Quarantined k t) lit d p =
    let c = cell_of s in
    let last = passed_last (any_visited c (machine_of_station t))
    (station_empty c t ∷ other_plate_at c t k ∷ []) p.1 in
    let there = occupied s t last.0 in
    cleared_there plan serves may c d k t (no_other s t there.0 k there.1 last.1.0) (bookable s (Quarantined k t) p)
due_there plan serves may s (Repaired m) lit d p =
    repaired_there plan serves may (cell_of s) d m (bookable s (Repaired m) p)
due_there plan serves may s (StopAsked m) lit d p = absurd d
due_there plan serves may s (Expected k) lit d p = absurd d
due_there plan serves may s (Reinstated k) lit d p = absurd d
due_there plan serves may s (Lamp b to) lit d p =
    wanted_there plan serves may (cell_of s) (Lamp b to) d.0 d.1 (bookable s (Lamp b to) p)
due_there plan serves may s (Claimed m z) lit d p =
    wanted_there plan serves may (cell_of s) (Claimed m z) d.0 d.1 (bookable s (Claimed m z) p)
due_there plan serves may s (Yielded m z) lit d p =
    wanted_there plan serves may (cell_of s) (Yielded m z) d.0 d.1 (bookable s (Yielded m z) p)
due_there plan serves may s (Started a to) lit d p =
    wanted_there plan serves may (cell_of s) (Started a to) d.0 d.1 (bookable s (Started a to) p)
due_there plan serves may s (Gripped x k t) lit d p =
    wanted_there plan serves may (cell_of s) (Gripped x k t) d.0 d.1 (bookable s (Gripped x k t) p)
due_there plan serves may s (Dropped x k t) lit d p =
    wanted_there plan serves may (cell_of s) (Dropped x k t) d.0 d.1 (bookable s (Dropped x k t) p)

-- what is allowed by the journal's limits and due can happen in the cell that is told
due_then : (l : BookLimits) (plan : ℕ) (serves : Bool) (t : Snapshot) (x : Seen) (e : Entry) → plan ≤ 100000
    → x.state ≡ seen t → Lit t → IsDue plan serves (may_of x.may) (cell_seen x) e → Passed (tests l (situation_in t) e)
    → Contains (can_happen plan serves x) e
unfolding told
due_then l plan serves t x e room same lit d p =
    let c : Situation = cell_of (snap x) in
    let own = subst (λ (y : Situation). Passed (kind_tests l y e)) (told_same t x same) p.1 in
    due_there plan serves (may_of x.may) (snap x) e
    (subst (λ (s : Snapshot). Lit s) (sym same) lit) d
    (kinds_back l plan serves (may_of x.may) t.entries t.forged_by t.waits c e room d own)

seen_possible : (l : BookLimits) (plan : ℕ) (serves : Bool) (done es : List Entry) (x : Seen) → plan ≤ 100000
    → Good done → x.state ≡ seen (after done) → legal_from l done es ≡ true → AreDueSeen plan serves x es
    → IsPossibleAs plan serves x es
seen_possible l plan serves done [] x room g same h d = tt
seen_possible l plan serves done (e ∷ es) x room g same h d =
    let b = and_both (allowed l done e) (legal_from l (done ++ e ∷ []) es) h in (
      due_then l plan serves (after done) x e room same g.safe.lights.deposit d.0 (good_passed l done e g b.0),
      seen_possible l plan serves (done ++ e ∷ []) es (seen_after x e) room (good_step l done e g b.0)
          (ap (λ (s : Snapshot). seen_step e s) same ∙ seen_more e (after done)
          ∙ ap (λ (s : Snapshot). seen s) (sym (after_snoc opening done e))) b.1 d.1,
    )

pub seen_due_law : (l : BookLimits) (plan : ℕ) (serves : Bool) (may : List Bool) (J : List Entry) → plan ≤ 100000
    → legal l J ≡ true → AreDueSeen plan serves (opening_of may) J → IsPossibleAs plan serves (opening_of may) J
seen_due_law l plan serves may J room h d = seen_possible l plan serves [] J (opening_of may) room good_start refl h d

-- the same in the cell as the journal's entries leave it
own_then : (l : BookLimits) (plan : ℕ) (serves : Bool) (may : Machine → Bool) (s : Snapshot) (e : Entry)
    → plan ≤ 100000 → Lit s → IsDue plan serves may (cell_of s) e → Passed (tests l (situation_in s) e)
    → Contains (entries_of plan serves may (cell_of s)) e
own_then l plan serves may s e room lit d p =
    due_there plan serves may s e lit d
    (kinds_back l plan serves may s.entries s.forged_by s.waits (cell_of s) e room d p.1)

due_possible : (l : BookLimits) (plan : ℕ) (serves : Bool) (may : Machine → Bool) (done es : List Entry)
    → plan ≤ 100000 → Good done → legal_from l done es ≡ true → AreDue plan serves may (after done) es
    → IsPossible plan serves may (after done) es
due_possible l plan serves may done [] room g h d = tt
due_possible l plan serves may done (e ∷ es) room g h d =
    let b = and_both (allowed l done e) (legal_from l (done ++ e ∷ []) es) h in
    let left = after_snoc opening done e in (
      own_then l plan serves may (after done) e room g.safe.lights.deposit d.0 (good_passed l done e g b.0),
      subst (λ (t : Snapshot). IsPossible plan serves (may_after e may) t es) left
          (due_possible l plan serves (may_after e may) (done ++ e ∷ []) es room (good_step l done e g b.0) b.1
          (subst (λ (t : Snapshot). AreDue plan serves (may_after e may) t es) (sym left) d.1)),
    )

pub due_law : (l : BookLimits) (plan : ℕ) (serves : Bool) (may : Machine → Bool) (J : List Entry) → plan ≤ 100000
    → legal l J ≡ true → AreDue plan serves may opening J → IsPossible plan serves may opening J
due_law l plan serves may J room h d = due_possible l plan serves may [] J room good_start h d

-- the other way round, each entry of an order is due
wish : (plan : ℕ) (may : Machine → Bool) (c : Situation) (e : Entry) → Happens plan may c e → is_own e ≡ true
    → (m : Machine) × (wants ample c plan m e ≡ true)
unfolding is_useful_now
wish plan may c e h o = let u = wanted_by plan may c e h o in (u.0, (and_both _ _ u.1).0)

fault : (plan : ℕ) (may : Machine → Bool) (c : Situation) (m : Machine) (why : Cause)
    → Happens plan may c (Declared m why) → why ≡ Cause.CommandFault
fault plan may c m why (wanted by u) = let w = wanted_own plan c by (Declared m why) u in cc
fault plan may c m why (ended i b) = cc
fault plan may c m why (laid i n b) = cc
fault plan may c m why (fails x i d b) = cc
fault plan may c m why (served i b) = cc

he_serves : (b : Bool) → (b ≡ false → true ≡ false) → b ≡ true
he_serves true f = refl
he_serves false f = let e = f refl in cc

due_when : (plan : ℕ) (serves : Bool) (may : Machine → Bool) (c : Situation) (e : Entry) → Happens plan may c e
    → (serves ≡ false → is_service e ≡ false) → IsDue plan serves may c e
unfolding is_operators
due_when plan serves may c (Arrived a p) h s = tt
due_when plan serves may c (Conveyed a k dest) h s = tt
due_when plan serves may c (Forged m k) h s = tt
due_when plan serves may c (Delivered k) h s = tt
due_when plan serves may c (Admitted k) h s = under_plan plan may c k h
due_when plan serves may c (Declared m why) h s = (declared_may plan may c m why h, fault plan may c m why h)
due_when plan serves may c (Quarantined k t) h s = he_serves serves s
due_when plan serves may c (Repaired m) h s = he_serves serves s
due_when plan serves may c (StopAsked m) h s = operators_never plan may c (StopAsked m) h refl
due_when plan serves may c (Expected k) h s = operators_never plan may c (Expected k) h refl
due_when plan serves may c (Reinstated k) h s = operators_never plan may c (Reinstated k) h refl
due_when plan serves may c (Lamp b to) h s = wish plan may c (Lamp b to) h refl
due_when plan serves may c (Claimed m z) h s = wish plan may c (Claimed m z) h refl
due_when plan serves may c (Yielded m z) h s = wish plan may c (Yielded m z) h refl
due_when plan serves may c (Started a to) h s = wish plan may c (Started a to) h refl
due_when plan serves may c (Gripped x k t) h s = wish plan may c (Gripped x k t) h refl
due_when plan serves may c (Dropped x k t) h s = wish plan may c (Dropped x k t) h refl

due_by : (plan : ℕ) (serves : Bool) (may : Machine → Bool) (c : Situation) (e : Entry)
    → Contains (entries_of plan serves may c) e → IsDue plan serves may c e
due_by plan serves may c e h =
    due_when plan serves may c e (happens plan serves may c e h)
    (λ z. no_service plan may c e (subst (λ (b : Bool). Contains (entries_of plan b may c) e) z h))

pub all_due : (plan : ℕ) (serves : Bool) (may : Machine → Bool) (s : Snapshot) (es : List Entry)
    → IsPossible plan serves may s es → AreDue plan serves may s es
all_due plan serves may s [] h = tt
all_due plan serves may s (e ∷ es) h =
    (due_by plan serves may (cell_of s) e h.0, all_due plan serves (may_after e may) (step e s) es h.1)

pub all_seen_due : (plan : ℕ) (serves : Bool) (x : Seen) (es : List Entry) → IsPossibleAs plan serves x es
    → AreDueSeen plan serves x es
all_seen_due plan serves x [] h = tt
all_seen_due plan serves x (e ∷ es) h =
    (due_by plan serves (may_of x.may) (cell_seen x) e h.0, all_seen_due plan serves (seen_after x e) es h.1)
