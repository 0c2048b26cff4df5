-- What the steps of a round lead to
use Rattle.std.proofs.Common.{◌≡◌, ◌≢◌, ◌⊎◌, inl, inr, ℕ, ◌<◌, List, [], ◌∷◌, ◌++◌, map, length, Bool, true, false}
use Rattle.std.proofs.Common.{not, Option, Some, None, refl, sym, ap, subst, ◌∙◌, append_assoc, append-nil, arith}
use Rattle.std.proofs.Common.{Result, Ok, Err, IfErr, option_to_list, eqb-true}
use Rattle.std.specs.Prelude.{if◌then◌else◌, nat_eq}
use Rattle.std.specs.Result.{IsErrAnd}
use Rattle.std.proofs.lemmas.List.{map-append, append_cancel_left}
use Rattle.cell_types.specs.declared.words.Actor.{Actor}
use Rattle.cell_types.specs.declared.words.Actor.TheVariants as actor
use Rattle.cell_types.specs.declared.words.Entry.{Entry}
use Rattle.cell_types.specs.Entries.{actor_of}
use Rattle.cell_rules.specs.declared.limits.BookLimits.{BookLimits}
use Rattle.cell_rules.specs.History.{History}
use Rattle.cell_ledger.specs.Held.{Held}
use Rattle.cell_ports.specs.declared.plan.Plan.{Plan}
use Rattle.cell_turns.specs.declared.schedule.Step.{Step}
use Rattle.cell_turns.specs.declared.schedule.Step.TheVariants.{Turn, Hand}
use Rattle.cell_turns.specs.declared.six.Six.{Six}
use Rattle.cell_turns.specs.declared.watch.Watch.{Watch}
use Rattle.cell_ports.specs.Logs.{ActLog}
use Rattle.cell_turns.specs.Minds.{Mind}
use Rattle.cell_turns.specs.Schedules.{Now, now, Leads, FitAll, Led, Scheduled, Grown, entries_of, same_actor}
use Rattle.cell_turns.specs.Schedules.Leads.{stays, turns as one_turn, refuses as one_refused, hands as one_hand}
use Rattle.cell_turns.specs.Schedules.Leads.{spares as one_spared, fails as one_failed}
use Rattle.cell_workers.specs.declared.ends.End.{End}
use Rattle.cell_workers.specs.declared.ends.End.TheVariants as end
use Rattle.operator_desk.specs.Next.{next_of, left_after, entry_of}
use Rattle.operator_desk.specs.declared.action.Action.{Action}
use Rattle.operator_desk.specs.declared.line.Line.{Line}
use Rattle.cell_runs.specs.Rounds.{turn_of, history, Place, place, Operates}
use Rattle.cell_runs.specs.Rounds.{Breaks, EndsIn, Ends, Takes, Reaches}
use Rattle.cell_runs.specs.Rounds.Operates.{rests, waits, books, fails}

-- a schedule grows at its end, so one of a single step is that step behind no others
one_of : {A : Type 0} (xs : List A) (x y : A) → xs ++ x ∷ [] ≡ y ∷ [] → (xs ≡ []) × (x ≡ y)
one_of [] x y h = (refl, cc)
one_of (a ∷ []) x y h = cc
one_of (a ∷ b ∷ xs) x y h = cc

-- what ends with an element isn't empty, so no kind of step has made an empty schedule
no_snoc : {A : Type 0} (xs : List A) (x : A) → xs ++ x ∷ [] ≡ [] → ⊥
no_snoc [] x h = cc
no_snoc (a ∷ xs) x h = cc

-- every kind of step adds one to the schedule, so an empty one has been through none
leads_nowhere : (l : BookLimits) (p : Plan) (s t : Now) (zs : List Step) (r f : ℕ) → Leads l p s zs r f t → zs ≡ []
    → s ≡ t
leads_nowhere l p s _ _ _ _ stays h = refl
leads_nowhere l p s t _ r f (one_turn {steps = ys} m x b d) h = absurd (no_snoc ys (Turn m x) h)
leads_nowhere l p s t _ _ f (one_refused {steps = ys} m x why b d) h = absurd (no_snoc ys (Turn m x) h)
leads_nowhere l p s _ _ r f (one_hand {steps = ys} e b d) h = absurd (no_snoc ys (Hand e) h)
leads_nowhere l p s t _ r f (one_spared {steps = ys} e b d) h = absurd (no_snoc ys (Hand e) h)
leads_nowhere l p s t _ r _ (one_failed {steps = ys} e b d c) h = absurd (no_snoc ys (Hand e) h)

-- the same of refused turns, whose count grows only with a step
none_refused : (l : BookLimits) (p : Plan) (s t : Now) (zs : List Step) (r f : ℕ) → Leads l p s zs r f t → zs ≡ []
    → r ≡ 0
none_refused l p s _ _ _ _ stays h = refl
none_refused l p s t _ r f (one_turn {steps = ys} m x b d) h = absurd (no_snoc ys (Turn m x) h)
none_refused l p s t _ _ f (one_refused {steps = ys} m x why b d) h = absurd (no_snoc ys (Turn m x) h)
none_refused l p s _ _ r f (one_hand {steps = ys} e b d) h = absurd (no_snoc ys (Hand e) h)
none_refused l p s t _ r f (one_spared {steps = ys} e b d) h = absurd (no_snoc ys (Hand e) h)
none_refused l p s t _ r _ (one_failed {steps = ys} e b d c) h = absurd (no_snoc ys (Hand e) h)

-- one step with a refused turn changes nothing
not_refused : (r : ℕ) → r ≡ 0 → 0 < r → ⊥
not_refused r none some = omega (arith, none, some)

-- a single step that isn't a refused turn would have left their count at none
refused_still : (l : BookLimits) (p : Plan) (s t : Now) (zs : List Step) (r f : ℕ) (x : Step) → Leads l p s zs r f t
    → zs ≡ x ∷ [] → 0 < r → s ≡ t
refused_still l p s _ _ _ _ x stays h some = refl
refused_still l p s t _ r f x (one_turn {t = v} {steps = ys} m y b d) h some =
    absurd (not_refused r (none_refused l p s v ys r f b (one_of ys (Turn m y) x h).0) some)
refused_still l p s t _ _ f x (one_refused {steps = ys} {refused = r} m y why b d) h some =
    leads_nowhere l p s t ys r f b (one_of ys (Turn m y) x h).0
refused_still l p s _ _ r f x (one_hand {t = v} {steps = ys} e b d) h some =
    absurd (not_refused r (none_refused l p s v ys r f b (one_of ys (Hand e) x h).0) some)
refused_still l p s t _ r f x (one_spared {steps = ys} e b d) h some =
    absurd (not_refused r (none_refused l p s t ys r f b (one_of ys (Hand e) x h).0) some)
refused_still l p s t _ r _ x (one_failed {steps = ys} {failed = f} e b d c) h some =
    absurd (not_refused r (none_refused l p s t ys r f b (one_of ys (Hand e) x h).0) some)

-- one who follows a journal relies on it: a refused turn has booked nothing in place of the wanted entry
pub unchanged_if_refused : (p : Plan) (x : Step) (refused : ℕ) (a b : History) (ws ws' : Six Watch) (told : Bool)
    (acts acts' : ActLog) (minds : Six Mind)
    → 0 < refused → Scheduled p (x ∷ []) refused a b ws ws' told acts acts' → FitAll ws minds → b.entries ≡ a.entries
unchanged_if_refused p x refused a b ws ws' told acts acts' minds some s fits =
    let led = s.led minds fits in
    ap (λ (u : Now). u.journal) (sym (refused_still a.limits p (now a.entries minds) (now b.entries led.minds) (x ∷ [])
    refused s.failed x led.leads refl some))

-- memory that is refused at a first step leaves all as it was
before_first : (x y : Step) (done left : List Step) → x ∷ [] ≡ done ++ y ∷ left → done ≡ []
before_first x y [] left h = refl
before_first x y (z ∷ []) left h = cc
before_first x y (z ∷ w ∷ done) left h = cc

-- of a single step nothing was taken yet when memory was refused
pub unchanged_if_stopped : (p : Plan) (x y : Step) (done left : List Step) (refused : ℕ) (a b : History)
    (ws ws' : Six Watch) (told : Bool) (acts acts' : ActLog) (minds : Six Mind)
    → x ∷ [] ≡ done ++ y ∷ left → Scheduled p done refused a b ws ws' told acts acts' → FitAll ws minds
    → b.entries ≡ a.entries
unchanged_if_stopped p x y done left refused a b ws ws' told acts acts' minds is s fits =
    let led = s.led minds fits in
    ap (λ (u : Now). u.journal) (sym (leads_nowhere a.limits p (now a.entries minds) (now b.entries led.minds) done
    refused s.failed led.leads (before_first x y done left is)))

-- one step by hand books that entry, which is the operator's, or nothing
abbrev HandsOver : Now → Now → Entry → Type 0
HandsOver s t e = ((t.journal ≡ s.journal ++ e ∷ []) × (actor_of e ≡ actor.Operator)) ⊎ (t.journal ≡ s.journal)

-- an entry that is spared, or whose act fails, leaves the journal as it was, so there is no third case
by_hand : (l : BookLimits) (p : Plan) (s t : Now) (zs : List Step) (r f : ℕ) (e : Entry) → Leads l p s zs r f t
    → zs ≡ Hand e ∷ [] → HandsOver s t e
by_hand l p s _ _ _ _ e stays h = cc
by_hand l p s t _ r f e (one_turn {steps = ys} m x b d) h = absurd (no_hand (one_of ys (Turn m x) (Hand e) h).1)
  where
    no_hand : Turn m x ≡ Hand e → ⊥
    no_hand q = cc
by_hand l p s t _ _ f e (one_refused {steps = ys} m x why b d) h = absurd (no_hand (one_of ys (Turn m x) (Hand e) h).1)
  where
    no_hand : Turn m x ≡ Hand e → ⊥
    no_hand q = cc
by_hand l p s _ _ r f e (one_hand {t = v} {steps = ys} x b d) h =
    let one = one_of ys (Hand x) (Hand e) h in
    let is = same_entry one.1 in
    let from = leads_nowhere l p s v ys r f b one.0 in
    inl (
      ap (λ (u : Now). u.journal ++ x ∷ []) (sym from) ∙ ap (λ (y : Entry). s.journal ++ y ∷ []) is,
      sym (ap actor_of is) ∙ d.actor,
    )
  where
    same_entry : Hand x ≡ Hand e → x ≡ e
    same_entry q = cc
by_hand l p s t _ r f e (one_spared {steps = ys} x b d) h =
    inr (ap (λ (u : Now). u.journal) (sym (leads_nowhere l p s t ys r f b (one_of ys (Hand x) (Hand e) h).0)))
by_hand l p s t _ r _ e (one_failed {steps = ys} {failed = f} x b d c) h =
    inr (ap (λ (u : Now). u.journal) (sym (leads_nowhere l p s t ys r f b (one_of ys (Hand x) (Hand e) h).0)))

-- one step books one entry at most
pub one_booked : (l : BookLimits) (p : Plan) (s t : Now) (zs : List Step) (r f : ℕ) (x : Step) → Leads l p s zs r f t
    → zs ≡ x ∷ [] → (b : Option Entry) × (t.journal ≡ s.journal ++ option_to_list b)
one_booked l p s _ _ _ _ x stays h = (None, sym (append-nil s.journal))
one_booked l p s t _ r f x (one_turn {t = v} {steps = ys} m y b d) h = (
  d.booked,
  d.journal ∙ ap (λ (u : Now). u.journal ++ option_to_list d.booked)
      (sym (leads_nowhere l p s v ys r f b (one_of ys (Turn m y) x h).0)),
)
one_booked l p s t _ _ f x (one_refused {steps = ys} {refused = r} m y why b d) h = (
  None,
  ap (λ (u : Now). u.journal) (sym (leads_nowhere l p s t ys r f b (one_of ys (Turn m y) x h).0))
      ∙ sym (append-nil s.journal),
)
one_booked l p s _ _ r f x (one_hand {t = v} {steps = ys} e b d) h =
    (Some e, ap (λ (u : Now). u.journal ++ e ∷ []) (sym (leads_nowhere l p s v ys r f b (one_of ys (Hand e) x h).0)))
one_booked l p s t _ r f x (one_spared {steps = ys} e b d) h = (
  None,
  ap (λ (u : Now). u.journal) (sym (leads_nowhere l p s t ys r f b (one_of ys (Hand e) x h).0))
      ∙ sym (append-nil s.journal),
)
one_booked l p s t _ r _ x (one_failed {steps = ys} {failed = f} e b d c) h = (
  None,
  ap (λ (u : Now). u.journal) (sym (leads_nowhere l p s t ys r f b (one_of ys (Hand e) x h).0))
      ∙ sym (append-nil s.journal),
)

-- so an entry of his that was booked can't be missing from his list
own_entry : (e : Entry) → actor_of e ≡ actor.Operator → entries_of actor.Operator (e ∷ []) ≡ e ∷ []
own_entry e h = ap (λ (a : Actor). if same_actor actor.Operator a then e ∷ [] else []) h

-- whether the entry was booked is whether the operator's list has an entry
pub booked_if : (J J' added his : List Entry) (e : Entry) (booked : Bool) → J' ≡ J ++ added
    → his ≡ entries_of actor.Operator added → (booked ≡ true → his ≢ []) → (booked ≡ false → his ≡ [])
    → ((J' ≡ J ++ e ∷ []) × (actor_of e ≡ actor.Operator)) ⊎ (J' ≡ J) → J' ≡ J ++ (if booked then e ∷ [] else [])
booked_if J J' added his e true grew is some lacks (inl h) = h.0
booked_if J J' added his e true grew is some lacks (inr h) =
    absurd (some refl (is ∙ ap (entries_of actor.Operator)
    (append_cancel_left J added [] (sym grew ∙ h ∙ sym (append-nil J)))))
booked_if J J' added his e false grew is some lacks (inl h) =
    absurd (no_entry (sym (own_entry e h.1)
    ∙ ap (entries_of actor.Operator) (sym (append_cancel_left J added (e ∷ []) (sym grew ∙ h.0))) ∙ sym is
    ∙ lacks refl))
  where
    no_entry : e ∷ [] ≡ [] → ⊥
    no_entry q = cc
booked_if J J' added his e false grew is some lacks (inr h) = h ∙ sym (append-nil J)

-- a schedule without a refused turn
pub takes_of : (p : Plan) (steps : List Step) (refused : ℕ) (a b : History) (ws ws' : Six Watch) (told : Bool)
    (acts acts' : ActLog) (minds : Six Mind)
    → refused ≡ 0 → Scheduled p steps refused a b ws ws' told acts acts' → FitAll ws minds
    → Takes a.limits p steps (now a.entries minds) b.entries ws'
takes_of p steps refused a b ws ws' told acts acts' minds zero_refused s fits = (
  s.failed,
  subst (λ (r : ℕ). Led a.limits p (now a.entries minds) steps r s.failed b.entries ws') zero_refused
      (s.led minds fits),
)

-- a schedule of a first part of some steps
pub breaks_of : (p : Plan) (steps done left : List Step) (refused : ℕ) (a b : History) (ws ws' : Six Watch)
    (told : Bool) (acts acts' : ActLog) (minds : Six Mind)
    → steps ≡ done ++ left → Scheduled p done refused a b ws ws' told acts acts' → FitAll ws minds
    → Breaks a.limits p (map turn_of steps) (now a.entries minds) b.entries refused
breaks_of p steps done left refused a b ws ws' told acts acts' minds is s fits =
    let led = s.led minds fits in
    record {
      steps = done;
      left = map turn_of left;
      failed = s.failed;
      minds = led.minds;
      first = sym (map-append turn_of done left) ∙ ap (map turn_of) (sym is);
      leads = led.leads;
    }

-- the limit on turns is met between rounds, so a round never ends a run that way
pub ends : (l : BookLimits) (p : Plan) (n : ℕ) (s : Place) (J : List Entry) (e : End) → EndsIn l p s J e
    → Ends l p n s J e
ends l p n s J end.Full h = h
ends l p n s J end.Memory h = h
ends l p n s J end.TurnLimit h = absurd h
ends l p n s J end.Finished h = h
ends l p n s J end.Stalled h = h

-- where nothing is booked, the operator has nothing to do
pub rested : (l : BookLimits) (p : Plan) (s t : Place) → Operates l p s t → t.now.journal ≡ s.now.journal
    → (t.lost ≡ true) ⊎ (next_of t.lines (history l t.now.journal) ≡ None)
rested l p _ _ rests h = inl refl
rested l p _ _ (waits n) h = inr n
rested l p _ _ (books {s = s} {t = t} a n b grew) h =
    absurd (no_entry (append_cancel_left s.journal _ [] (sym grew ∙ h ∙ sym (append-nil s.journal))))
  where
    no_entry : entry_of a ∷ [] ≡ [] → ⊥
    no_entry q = cc
rested l p _ _ (fails a n b same) h = inl refl

-- whether a list is empty
differ : false ≡ true → ⊥
differ q = cc

filled : (his : List Entry) (empty : Bool) → empty ≡ nat_eq (length his) 0 → not empty ≡ true → his ≢ []
filled [] empty is h = absurd (differ (sym (ap not is) ∙ h))
filled (x ∷ xs) empty is h = λ q. cc

vacant : (his : List Entry) (empty : Bool) → empty ≡ nat_eq (length his) 0 → not empty ≡ false → his ≡ []
vacant [] empty is h = refl
vacant (x ∷ xs) true is h = absurd (omega (arith, eqb-true (length (x ∷ xs)) 0 (sym is)))
vacant (x ∷ xs) false is h = cc

-- the program only tests whether the operator's list is empty, and has to know from that what was booked
pub step_booked : (p : Plan) (a b : History) (h h' : Held) (machines : Six (List Entry)) (his : List Entry) (x : Step)
    (refused : ℕ) (ws ws' : Six Watch) (told : Bool) (acts acts' : ActLog) (empty : Bool) (minds : Six Mind) (e : Entry)
    → Grown a b h h' machines his → Scheduled p (x ∷ []) refused a b ws ws' told acts acts' → FitAll ws minds
    → x ≡ Hand e → empty ≡ nat_eq (length his) 0 → b.entries ≡ a.entries ++ (if not empty then e ∷ [] else [])
step_booked p a b h h' lists his x refused ws ws' told acts acts' empty minds e g s fits is test =
    let led = s.led minds fits in
    booked_if a.entries b.entries g.added his e (not empty) (ap (λ (k : History). k.entries) g.journal) g.by_operator
    (filled his empty test) (vacant his empty test)
    (by_hand a.limits p (now a.entries minds) (now b.entries led.minds) (x ∷ []) refused s.failed e led.leads
    (ap (λ (y : Step). y ∷ []) is))

-- what the operator does
pub act_rests : (l : BookLimits) (p : Plan) (s : Now) (lines : List Line) (lost : Bool) → lost ≡ true
    → Operates l p (place s lines lost) (place s lines lost)
act_rests l p s lines lost is = rw is rests

pub act_waits : (l : BookLimits) (p : Plan) (s : Now) (lines : List Line) (lost : Bool) → lost ≡ false
    → next_of lines (history l s.journal) ≡ None → Operates l p (place s lines lost) (place s lines lost)
act_waits l p s lines lost is h = rw is (waits h)

pub act_books : (l : BookLimits) (p : Plan) (J J' : List Entry) (minds : Six Mind) (ws' : Six Watch)
    (lines lines' lines'' : List Line) (lost lost' : Bool) (a : Action) (e : Entry) (booked : Bool)
    → lost ≡ false → next_of lines (history l J) ≡ Some a → e ≡ entry_of a → booked ≡ true → lines' ≡ lines
    → lost' ≡ lost → lines'' ≡ left_after lines'
    → J' ≡ J ++ (if booked then e ∷ [] else []) → Takes l p (Hand e ∷ []) (now J minds) J' ws'
    → Reaches (Operates l p (place (now J minds) lines lost)) J' ws' lines'' lost'
act_books l p J J' minds ws' lines lines' lines'' lost lost' a e booked free next is did same still left grew
    (f, led) = (
      led.minds,
      led.fits,
      rw (left, same, still, free)
          (books a next
          (subst (λ (x : Entry). Leads l p (now J minds) (Hand x ∷ []) 0 f (now J' led.minds)) is led.leads)
          (grew ∙ ap (λ (b : Bool). J ++ (if b then e ∷ [] else [])) did ∙ ap (λ (x : Entry). J ++ x ∷ []) is)),
    )

-- his line isn't done then, and the run gives up on his hands
pub act_fails : (l : BookLimits) (p : Plan) (J J' : List Entry) (minds : Six Mind) (ws' : Six Watch)
    (lines lines' : List Line) (lost : Bool) (a : Action) (e : Entry) (booked : Bool)
    → lost ≡ false → next_of lines (history l J) ≡ Some a → e ≡ entry_of a → booked ≡ false → lines' ≡ lines
    → J' ≡ J ++ (if booked then e ∷ [] else []) → Takes l p (Hand e ∷ []) (now J minds) J' ws'
    → Reaches (Operates l p (place (now J minds) lines lost)) J' ws' lines' true
act_fails l p J J' minds ws' lines lines' lost a e booked free next is idle same grew (f, led) = (
  led.minds,
  led.fits,
  rw (same, free)
      (fails a next (subst (λ (x : Entry). Leads l p (now J minds) (Hand x ∷ []) 0 f (now J' led.minds)) is led.leads)
      (grew ∙ ap (λ (b : Bool). J ++ (if b then e ∷ [] else [])) idle ∙ append-nil J)),
)

-- an error that `?` hands on
pub err_of : {A E : Type 0} (r : Result A E) (e : E) (Q : E → Type 0) → IsErrAnd r (λ x. x ≡ e) → Q e → IfErr r Q
err_of (Ok x) e Q is h = absurd is
err_of (Err x) e Q is h = subst Q (sym is) h

-- what the steps add
pub leads_grow : (l : BookLimits) (p : Plan) (s t : Now) (zs : List Step) (r f : ℕ) → Leads l p s zs r f t
    → (added : List Entry) × (t.journal ≡ s.journal ++ added)
leads_grow l p s _ _ _ _ stays = ([], sym (append-nil s.journal))
leads_grow l p s t _ r f (one_turn {t = v} {steps = ys} m x b d) =
    let (added, is) = leads_grow l p s v ys r f b in (
      added ++ option_to_list d.booked,
      d.journal ∙ ap (λ (J : List Entry). J ++ option_to_list d.booked) is
          ∙ append_assoc s.journal added (option_to_list d.booked),
    )
leads_grow l p s t _ _ f (one_refused {steps = ys} {refused = r} m x why b d) = leads_grow l p s t ys r f b
leads_grow l p s _ _ r f (one_hand {t = v} {steps = ys} e b d) =
    let (added, is) = leads_grow l p s v ys r f b in
    (added ++ e ∷ [], ap (λ (J : List Entry). J ++ e ∷ []) is ∙ append_assoc s.journal added (e ∷ []))
leads_grow l p s t _ r f (one_spared {steps = ys} e b d) = leads_grow l p s t ys r f b
leads_grow l p s t _ r _ (one_failed {steps = ys} {failed = f} e b d c) = leads_grow l p s t ys r f b

pub operates_grow : (l : BookLimits) (p : Plan) (s t : Place) → Operates l p s t
    → (more : List Entry) × (t.now.journal ≡ s.now.journal ++ more)
operates_grow l p _ _ (rests {s = s}) = ([], sym (append-nil s.journal))
operates_grow l p _ _ (waits {s = s} n) = ([], sym (append-nil s.journal))
operates_grow l p _ _ (books a n b grew) = (entry_of a ∷ [], grew)
operates_grow l p _ _ (fails {s = s} a n b same) = ([], same ∙ sym (append-nil s.journal))
