-- An order is a legal journal, where the limits leave room for it
use Rattle.std.proofs.Common.{◌≡◌, ℕ, ◌+◌, ◌<◌, ◌≤◌, Bool, true, false, Option, Some, None, List, [], ◌∷◌, ◌++◌}
use Rattle.std.proofs.Common.{length, length-append, suc, refl, sym, ap, subst, ◌∙◌, arith}
use Rattle.std.specs.Prelude.{is_none, nat_le, nat_lt}
use Rattle.std.specs.List.{Contains}
use Rattle.std.proofs.lemmas.Bool.Decides.{nat_tests}
use Rattle.cell_types.specs.declared.words.Machine.{Machine}
use Rattle.cell_types.specs.declared.words.Station.{Station}
use Rattle.cell_types.specs.declared.words.Entry.{Entry}
use Rattle.cell_types.specs.declared.words.Entry.TheVariants.{Admitted, Declared, Expected, Lamp}
use Rattle.cell_types.specs.After.{Snapshot, after, opening, step}
use Rattle.cell_types.specs.Room.{is_full}
use Rattle.cell_types.proofs.Left.{after_snoc}
use Rattle.cell_journal.specs.Snapshots.{seen, seen_step}
use Rattle.cell_rules.specs.First.{any_still_there, any_visited, first, first_true, kind_tests, tests}
use Rattle.cell_rules.specs.Legal.{allowed, legal, legal_from}
use Rattle.cell_rules.specs.Situations.{Situation, situation_of}
use Rattle.cell_rules.specs.SituationIn.{situation_in}
use Rattle.cell_rules.specs.declared.limits.BookLimits.{BookLimits}
use Rattle.cell_rules.specs.declared.refusal.Refusal.{Refusal}
use Rattle.cell_rules.proofs.Safe.Bridge.{Good, good_cell, good_start, good_step}
use Rattle.cell_rules.proofs.Safe.Facts.{Passed, and_true}
use Rattle.cell_useful.specs.Cells.{ahead, ample, may_of}
use Rattle.cell_useful.specs.Told.{IsPossible as IsPossibleAs, Seen, can_happen, opening_of, seen_after}
use Rattle.cell_progress.specs.Orders.{IsPossible, cell_of, may_after}
use Rattle.cell_progress.proofs.Asked.{reason, snap}
use Rattle.cell_progress.proofs.Happening.{Happens, happens, is_operators, may_be_booked, operators_never, wanted_own}
use Rattle.cell_progress.proofs.Happening.{ended, fails, laid, served, wanted}
use Rattle.cell_progress.proofs.Passing.{Allowed, passes}

-- the cell with a journal's own numbers: of entries, of what each press forged, and of the plates in quarantine
abbrev pub with_own : ℕ → (Machine → ℕ) → (ℕ → Option Station) → Situation → Situation
with_own n f q c = record c { entries = n; forged_by = f; waits = q }

pub none_refuses : (ts : List (Bool × Refusal)) → Passed ts → first_true ts ≡ None
unfolding first_true
none_refuses [] h = refl
none_refuses (t ∷ ts) h = rw h.0 (none_refuses ts h.1)

pub under_plan : (plan : ℕ) (may : Machine → Bool) (c : Situation) (k : ℕ) → Happens plan may c (Admitted k)
    → nat_lt c.admitted plan ≡ true
under_plan plan may c k (wanted m u) = let w = wanted_own plan c m (Admitted k) u in cc
under_plan plan may c k (ended i b) = cc
under_plan plan may c k (laid i n b) = n
under_plan plan may c k (fails m i d b) = cc
under_plan plan may c k (served i b) = cc

pub low : (limit plan n : ℕ) → plan ≤ limit → nat_lt n plan ≡ true → nat_le limit n ≡ false
low limit plan n h m = grind (arith, nat_tests)

space_left : (limit n : ℕ) (e : Entry) → n < limit → is_full limit n e ≡ false
space_left limit n (Declared m cause) h = grind (arith, nat_tests)
space_left limit n _ h = grind (arith, nat_tests)

-- of the tests of a kind only those of the next plate read a limit, and only those of a plate that is laid back read
-- which plates wait in quarantine
kinds_pass : (l : BookLimits) (plan : ℕ) (may : Machine → Bool) (n : ℕ) (f : Machine → ℕ) (q : ℕ → Option Station)
    (c : Situation) (e : Entry) → plan ≤ l.plates → Happens plan may c e → Passed (kind_tests ample c e)
    → Passed (kind_tests l (with_own n f q c) e)
unfolding any_visited any_still_there is_operators
kinds_pass l plan may n f q c (Expected k) room h p = absurd (operators_never plan may c (Expected k) h refl)
kinds_pass l plan may n f q c (Admitted k) room h p =
    (low l.plates plan c.admitted room (under_plan plan may c k h), p.1)
kinds_pass l plan may n f q c _ room h p = p

-- what can happen is allowed, where the limits leave room for it
may_book : (l : BookLimits) (plan : ℕ) (may : Machine → Bool) (s : Snapshot) (n : ℕ) (f : Machine → ℕ)
    (q : ℕ → Option Station) (e : Entry) → plan ≤ l.plates → n < l.entries → Happens plan may (cell_of s) e
    → first l (with_own n f q (cell_of s)) e ≡ None
may_book l plan may s n f q e room space h =
    let p : Allowed s e = passes s e (may_be_booked plan may (cell_of s) e h) in
    none_refuses (tests l (with_own n f q (cell_of s)) e)
    (space_left l.entries n e space, kinds_pass l plan may n f q (cell_of s) e room h p.1)

-- the state s is that after a journal, but for the numbers of the journal's own
abbrev pub Tells : Snapshot → Snapshot → Type 0
Tells t s = situation_in t ≡ with_own t.entries t.forged_by t.waits (cell_of s)

booked : (l : BookLimits) (plan : ℕ) (may : Machine → Bool) (done : List Entry) (s : Snapshot) (e : Entry)
    → plan ≤ l.plates → length done < l.entries → Good done → Tells (after done) s → Happens plan may (cell_of s) e
    → allowed l done e ≡ true
booked l plan may done s e room space g told h =
    let t = after done in
    let long : length done ≡ t.entries = g.agrees.entries in
    let few : t.entries < l.entries = omega (arith, space, long) in
    ap is_none (subst (λ (c : Situation). first l c e ≡ None) (sym (good_cell done g ∙ told))
    (may_book l plan may s t.entries t.forged_by t.waits e room few h))

-- room for one more and the rest is room for one, and then for the rest
room_for_one : (n k limit : ℕ) → n + suc k ≤ limit → n < limit
room_for_one n k limit h = omega arith

room_for_rest : (n k m limit : ℕ) → n + suc k ≤ limit → m ≡ n + 1 → m + k ≤ limit
room_for_rest n k m limit h i = omega arith

own_lawful : (l : BookLimits) (plan : ℕ) (serves : Bool) (may : Machine → Bool) (done es : List Entry)
    → plan ≤ l.plates → length done + length es ≤ l.entries → Good done → IsPossible plan serves may (after done) es
    → legal_from l done es ≡ true
own_lawful l plan serves may done [] room space g h = refl
own_lawful l plan serves may done (e ∷ es) room space g h =
    let few = room_for_one (length done) (length es) l.entries space in
    let ok = booked l plan may done (after done) e room few g refl
    (happens plan serves may (cell_of (after done)) e h.0) in
    and_true _ _ ok (own_lawful l plan serves (may_after e may) (done ++ e ∷ []) es room
    (room_for_rest (length done) (length es) (length (done ++ e ∷ [])) l.entries space (length-append done (e ∷ [])))
    (good_step l done e g ok)
    (subst (λ (t : Snapshot). IsPossible plan serves (may_after e may) t es) (sym (after_snoc opening done e)) h.1))

pub seen_more : (e : Entry) (s : Snapshot) → seen_step e (seen s) ≡ seen (step e s)
seen_more (Lamp a b) s = refl
seen_more _ s = refl

pub told_same : (t : Snapshot) (x : Seen) → x.state ≡ seen t → Tells t (snap x)
told_same t x h =
    subst (λ (s : Snapshot). Tells t (record s { forged_by = ahead x.leads })) (sym h) refl

told_lawful : (l : BookLimits) (plan : ℕ) (serves : Bool) (failing : Machine → Bool) (done es : List Entry) (x : Seen)
    → plan ≤ l.plates → length done + length es ≤ l.entries → Good done → x.state ≡ seen (after done)
    → IsPossibleAs plan serves x es → legal_from l done es ≡ true
told_lawful l plan serves failing done [] x room space g told h = refl
told_lawful l plan serves failing done (e ∷ es) x room space g told h =
    let few = room_for_one (length done) (length es) l.entries space in
    let ok = booked l plan (may_of x.may) done (snap x) e room few g (told_same (after done) x told)
    (reason plan serves failing x e h.0) in
    and_true _ _ ok (told_lawful l plan serves failing (done ++ e ∷ []) es (seen_after x e) room
    (room_for_rest (length done) (length es) (length (done ++ e ∷ [])) l.entries space (length-append done (e ∷ [])))
    (good_step l done e g ok)
    (ap (λ (s : Snapshot). seen_step e s) told ∙ seen_more e (after done)
    ∙ ap (λ (s : Snapshot). seen s) (sym (after_snoc opening done e))) h.1)

all_room : (n limit : ℕ) → n ≤ limit → 0 + n ≤ limit
all_room n limit h = omega arith

pub order_legal : (l : BookLimits) (plan : ℕ) (serves : Bool) (may : Machine → Bool) (es : List Entry)
    → plan ≤ l.plates → length es ≤ l.entries → IsPossible plan serves may opening es → legal l es ≡ true
order_legal l plan serves may es room space h =
    own_lawful l plan serves may [] es room (all_room (length es) l.entries space) good_start h

pub searched_legal : (l : BookLimits) (plan : ℕ) (serves : Bool) (may : List Bool) (es : List Entry)
    → plan ≤ l.plates → length es ≤ l.entries → IsPossibleAs plan serves (opening_of may) es → legal l es ≡ true
searched_legal l plan serves may es room space h =
    told_lawful l plan serves (may_of may) [] es (opening_of may) room (all_room (length es) l.entries space) good_start
    refl h
