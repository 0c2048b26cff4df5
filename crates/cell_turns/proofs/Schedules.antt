-- A schedule, one step longer
use Rattle.std.proofs.Common.{◌≡◌, ◌<◌, ℕ, suc, ◌+◌, take, drop, get_or, List, [], ◌∷◌, ◌++◌, Bool, true, false, Option}
use Rattle.std.proofs.Common.{Some, None, IfSome, length, refl, sym, ap, ap₂, ◌∙◌, subst, cond, append_assoc}
use Rattle.std.proofs.Common.{append-nil, length-append, add-zero, add_assoc, arith}
use mir.Val.{bool_byte}
use Rattle.std.proofs.Math.Seq.{drop-cons}
use Rattle.std.proofs.lemmas.List.{take-append-drop}
use Rattle.std.specs.Prelude.{if◌then◌else◌, option_to_list, is_some}
use Rattle.std.specs.List.{count_by}
use Rattle.std.proofs.lemmas.List.Elements.{filter-append}
use Rattle.std.proofs.lemmas.List.Sums.{sum_by-append}
use Rattle.cell_types.specs.declared.words.Machine.{Machine}
use Rattle.cell_types.specs.declared.words.Actor.{Actor}
use Rattle.cell_types.specs.declared.words.Actor.TheVariants as actor
use Rattle.cell_types.specs.declared.words.Totals.{Totals}
use Rattle.cell_types.specs.declared.words.Entry.{Entry}
use Rattle.cell_types.specs.Entries.{actor_of}
use Rattle.cell_types.specs.Same.{same_machine}
use Rattle.cell_rules.specs.Views.{is_admitted, is_forged, is_quarantined, is_delivered, is_reinstated, count_of}
use Rattle.cell_rules.specs.declared.limits.BookLimits.{BookLimits}
use Rattle.cell_rules.specs.History.{History}
use Rattle.cell_rules.specs.Legal.{first_of}
use Rattle.cell_ledger.specs.Counts.{plus}
use Rattle.cell_ledger.specs.Held.{Held, held}
use Rattle.cell_diagnosis.specs.declared.reading.Reading.{Reading}
use Rattle.cell_ports.specs.declared.plan.Plan.{Plan}
use Rattle.cell_turns.specs.declared.schedule.Step.{Step}
use Rattle.cell_turns.specs.declared.schedule.Step.TheVariants.{Turn, Hand}
use Rattle.cell_turns.specs.declared.schedule.Handed.{Handed}
use Rattle.cell_turns.specs.declared.schedule.Handed.TheVariants.{Spared, Failed, Booked}
use Rattle.cell_turns.specs.declared.six.Six.{Six}
use Rattle.cell_turns.specs.declared.watch.Watch.{Watch}
use Rattle.cell_ports.specs.declared.port.Act.{Act}
use Rattle.cell_turns.specs.Six.{at, put}
use Rattle.cell_ports.specs.Logs.{ActLog, after_hand}
use Rattle.cell_turns.specs.Acts.{act_of, hands, ActedAtMost, Did, DidMore}
use Rattle.cell_turns.specs.Minds.{Mind, FitsMind}
use Rattle.cell_turns.specs.Handing.{IsHanded, handed_entry, handed_log}
use Rattle.cell_turns.specs.Turns.{IsDecided, IsTurnedAway, mind_after}
use Rattle.cell_turns.specs.Schedules.{Now, now, mind_sent, FitAll, Led, Scheduled, same_actor, entries_of, Grown}
use Rattle.cell_turns.specs.Schedules.Leads.{stays, turns, refuses, hands as booked, spares, fails}
use Rattle.cell_turns.specs.Steps.{TurnedAt, TurnedAway, GrewBy}
use Rattle.cell_turns.proofs.Sixes.{put_at, all_put, put_more}
use Rattle.cell_turns.proofs.Acts.{did_push}

-- turns

fit_put : (ws : Six Watch) (minds : Six Mind) (m : Machine) (w : Watch) (s : Mind) → FitAll ws minds → FitsMind w s
    → FitAll (put ws m w) (put minds m s)
fit_put ws minds m w s f g = record { each = all_put (λ n x y z. FitsMind x y) m ws minds minds w s s f.each g }

-- the code's turn is told for each mind that fits the watch, and so for the one that is led here
led_turn : (l : BookLimits) (p : Plan) (s : Now) (steps : List Step) (refused failed : ℕ) (cur next : History)
    (ws : Six Watch) (m : Machine) (r : Option Reading) (w' : Watch)
    → cur.limits ≡ l → TurnedAt p m r cur next (at ws m) w' → Led l p s steps refused failed cur.entries ws
    → Led l p s (steps ++ Turn m r ∷ []) refused failed next.entries (put ws m w')
led_turn l p s steps refused failed cur next ws m r w' limits t led =
    let mind = at led.minds m in
    let fit = led.fits.each m in
    let after = mind_sent t.lost (mind_after cur.entries m p mind r t.booked) in
    record {
      minds = put led.minds m after;
      leads = turns m r led.leads (record {
        booked = t.booked;
        lost = t.lost;
        decided = subst (λ (k : BookLimits). IsDecided k cur.entries m p mind r t.booked) limits (t.decided mind fit);
        allowed = subst (λ (k : BookLimits). IfSome t.booked (λ e. first_of k cur.entries e ≡ None)) limits t.allowed;
        commanded = t.commanded;
        journal = ap (λ (h : History). h.entries) t.journal;
        minds = refl;
      });
      fits = fit_put ws led.minds m w' after led.fits (t.fits mind fit);
    }

-- a refused turn leaves the watch and the journal as they were, and only the refusals grow
led_away : (l : BookLimits) (p : Plan) (s : Now) (steps : List Step) (refused failed : ℕ) (cur next : History)
    (ws : Six Watch) (m : Machine) (r : Option Reading) (w' : Watch)
    → cur.limits ≡ l → TurnedAway p m r cur next (at ws m) w' → Led l p s steps refused failed cur.entries ws
    → Led l p s (steps ++ Turn m r ∷ []) (refused + 1) failed next.entries (put ws m w')
led_away l p s steps refused failed cur next ws m r w' limits t led =
    subst (λ (u : Six Watch). Led l p s (steps ++ Turn m r ∷ []) (refused + 1) failed next.entries u)
    (sym (ap (put ws m) t.watch ∙ put_at ws m))
    (subst (λ (J : List Entry). Led l p s (steps ++ Turn m r ∷ []) (refused + 1) failed J ws)
    (sym (ap (λ (h : History). h.entries) t.journal))
    (record {
      minds = led.minds;
      leads = refuses m r t.why led.leads (subst (λ (k : BookLimits). IsTurnedAway k cur.entries m p (at led.minds m) r
          t.why) limits (t.away (at led.minds m) (led.fits.each m)));
      fits = led.fits;
    }))

-- the code has both ways of a turn in one step, and the flag says which one it went
pub scheduled_turn : (p : Plan) (steps : List Step) (refused refused' : ℕ) (before cur next : History)
    (ws0 ws : Six Watch) (told : Bool) (acts acts' : ActLog) (m : Machine) (r : Option Reading) (away : Bool)
    (w w' : Watch)
    → w ≡ at ws m → (away ≡ false → TurnedAt p m r cur next w w') → (away ≡ true → TurnedAway p m r cur next w w')
    → refused' ≡ refused + bool_byte away
    → Scheduled p steps refused before cur ws0 ws told acts acts'
    → Scheduled p (steps ++ Turn m r ∷ []) refused' before next ws0 (put ws m w') told acts acts'
scheduled_turn p steps refused refused' before cur next ws0 ws told acts acts' m r false w w' is turned away more s =
    let t = subst (λ (x : Watch). TurnedAt p m r cur next x w') is (turned refl) in
    rw more
    (rw (add-zero refused)
    (record {
      failed = s.failed;
      limits = ap (λ (h : History). h.limits) t.journal ∙ s.limits;
      led = λ minds f. led_turn before.limits p (now before.entries minds) steps refused s.failed cur next ws m r w'
          s.limits t (s.led minds f);
      failures = s.failures;
    }))
scheduled_turn p steps refused refused' before cur next ws0 ws told acts acts' m r true w w' is turned away more s =
    let t = subst (λ (x : Watch). TurnedAway p m r cur next x w') is (away refl) in
    rw more
    (record {
      failed = s.failed;
      limits = ap (λ (h : History). h.limits) t.journal ∙ s.limits;
      led = λ minds f. led_away before.limits p (now before.entries minds) steps refused s.failed cur next ws m r w'
          s.limits t (s.led minds f);
      failures = s.failures;
    })

-- acts by hand

-- where nothing was booked the code still appends, if an empty list
left_over : (J : List Entry) (next : History) (cur : History)
    → next ≡ record { limits = cur.limits; entries = cur.entries ++ [] } → cur.entries ≡ next.entries
left_over J next cur h = sym (append-nil cur.entries) ∙ sym (ap (λ (k : History). k.entries) h)

-- an act that was done is no failure, and neither is an entry that wants no act
failures_hand : (log : ActLog) (o : Option Act) → (after_hand log o true).failures ≡ log.failures
failures_hand log None = refl
failures_hand log (Some a) = add-zero log.failures

-- only an act can fail, so the entry has to want one
failures_fail : (log : ActLog) (o : Option Act) → is_some o ≡ true
    → (after_hand log o false).failures ≡ log.failures + 1
failures_fail log None h = absurd (differ h)
  where
    differ : false ≡ true → ⊥
    differ q = cc
failures_fail log (Some a) h = refl

-- the failures are known only as long as the port tells what it was asked
pub scheduled_hand : (p : Plan) (steps : List Step) (refused : ℕ) (before cur next : History) (ws0 ws : Six Watch)
    (told told' : Bool) (acts log log' : ActLog) (e : Entry) (how : Handed)
    → IsHanded cur.limits cur.entries e how
    → next ≡ record { limits = cur.limits; entries = cur.entries ++ option_to_list (handed_entry how e) }
    → (told' ≡ true → told ≡ true) → (told' ≡ true → log' ≡ handed_log how log e)
    → Scheduled p steps refused before cur ws0 ws told acts log
    → Scheduled p (steps ++ Hand e ∷ []) refused before next ws0 ws told' acts log'
scheduled_hand p steps refused before cur next ws0 ws told told' acts log log' e Spared why is still tells s = record {
  failed = s.failed;
  limits = ap (λ (h : History). h.limits) is ∙ s.limits;
  led = λ minds f.
      let led = s.led minds f in
      subst (λ (J : List Entry). Led before.limits p (now before.entries minds) (steps ++ Hand e ∷ []) refused s.failed
      J ws) (left_over cur.entries next cur is)
      (record { minds = led.minds; leads = spares e led.leads (rw (← s.limits) why); fits = led.fits });
  failures = λ t. ap (λ (l : ActLog). l.failures) (tells t) ∙ s.failures (still t);
}
scheduled_hand p steps refused before cur next ws0 ws told told' acts log log' e Failed why is still tells s = record {
  failed = s.failed + 1;
  limits = ap (λ (h : History). h.limits) is ∙ s.limits;
  led = λ minds f.
      let led = s.led minds f in
      subst (λ (J : List Entry). Led before.limits p (now before.entries minds) (steps ++ Hand e ∷ []) refused
      (s.failed + 1) J ws) (left_over cur.entries next cur is)
      (record { minds = led.minds; leads = fails e led.leads (rw (← s.limits) why.0) why.1; fits = led.fits });
  failures = λ t. ap (λ (l : ActLog). l.failures) (tells t) ∙ failures_fail log (act_of e) why.1
      ∙ ap (λ k. k + 1) (s.failures (still t)) ∙ add_assoc acts.failures s.failed 1;
}
scheduled_hand p steps refused before cur next ws0 ws told told' acts log log' e Booked why is still tells s = record {
  failed = s.failed;
  limits = ap (λ (h : History). h.limits) is ∙ s.limits;
  led = λ minds f.
      let led = s.led minds f in
      subst (λ (J : List Entry). Led before.limits p (now before.entries minds) (steps ++ Hand e ∷ []) refused s.failed
      J ws) (sym (ap (λ (h : History). h.entries) is))
      (record { minds = led.minds; leads = booked e led.leads (rw (← s.limits) why); fits = led.fits });
  failures = λ t. ap (λ (l : ActLog). l.failures) (tells t) ∙ failures_hand log (act_of e) ∙ s.failures (still t);
}

-- the start

pub scheduled_start : (p : Plan) (before : History) (ws : Six Watch) (told : Bool) (acts : ActLog)
    → Scheduled p [] 0 before before ws ws told acts acts
scheduled_start p before ws told acts = record {
  failed = 0;
  limits = refl;
  led = λ minds f. record { minds = minds; leads = stays; fits = f };
  failures = λ t. sym (add-zero acts.failures);
}

-- the lists

counted : (p : Entry → Bool) (es fs : List Entry) → count_by p (es ++ fs) ≡ count_by p es + count_by p fs
counted p es fs = sum_by-append (λ (x : Entry). cond (p x) 1 0) es fs

-- count by count, since each is a sum over the list
plus_more : (c : Totals) (es fs : List Entry) → plus (plus c (count_of es)) (count_of fs) ≡ plus c (count_of (es ++ fs))
plus_more c es fs = λ i. record {
  entries = more c.entries (length es) (length fs) (length (es ++ fs)) (length-append es fs) i;
  admitted = more c.admitted (count_by is_admitted es) (count_by is_admitted fs) (count_by is_admitted (es ++ fs))
      (counted is_admitted es fs) i;
  forged = more c.forged (count_by is_forged es) (count_by is_forged fs) (count_by is_forged (es ++ fs))
      (counted is_forged es fs) i;
  quarantined = more c.quarantined (count_by is_quarantined es) (count_by is_quarantined fs)
      (count_by is_quarantined (es ++ fs)) (counted is_quarantined es fs) i;
  delivered = more c.delivered (count_by is_delivered es) (count_by is_delivered fs) (count_by is_delivered (es ++ fs))
      (counted is_delivered es fs) i;
  reinstated = more c.reinstated (count_by is_reinstated es) (count_by is_reinstated fs)
      (count_by is_reinstated (es ++ fs)) (counted is_reinstated es fs) i;
}
  where
    more : (a b d n : ℕ) → n ≡ b + d → (a + b) + d ≡ a + n
    more a b d n h = omega arith

entries_of-append : (a : Actor) (es fs : List Entry) → entries_of a (es ++ fs) ≡ entries_of a es ++ entries_of a fs
entries_of-append a es fs = filter-append (λ (e : Entry). same_actor a (actor_of e)) es fs

-- a turn that booked nothing adds to no list, whichever machine's turn it was
none_own : (b : Bool) → ◌≡◌ {A = List Entry} [] (if b then [] else [])
none_own true = refl
none_own false = refl

-- the entry of m is on m's list, and on no other
machine_more : (m n : Machine) (o : Option Entry) → IfSome o (λ e. actor_of e ≡ actor.Machine m)
    → entries_of (actor.Machine n) (option_to_list o) ≡ (if same_machine n m then option_to_list o else [])
machine_more m n None h = none_own (same_machine n m)
machine_more m n (Some e) h = ap (λ (a : Actor). if same_actor (actor.Machine n) a then e ∷ [] else []) h

operator_none : (m : Machine) (o : Option Entry) → IfSome o (λ e. actor_of e ≡ actor.Machine m)
    → entries_of actor.Operator (option_to_list o) ≡ []
operator_none m None h = refl
operator_none m (Some e) h = ap (λ (a : Actor). if same_actor actor.Operator a then e ∷ [] else []) h

machine_none : (n : Machine) (o : Option Entry) → IfSome o (λ e. actor_of e ≡ actor.Operator)
    → entries_of (actor.Machine n) (option_to_list o) ≡ []
machine_none n None h = refl
machine_none n (Some e) h = ap (λ (a : Actor). if same_actor (actor.Machine n) a then e ∷ [] else []) h

operator_more : (o : Option Entry) → IfSome o (λ e. actor_of e ≡ actor.Operator)
    → entries_of actor.Operator (option_to_list o) ≡ option_to_list o
operator_more None h = refl
operator_more (Some e) h = ap (λ (a : Actor). if same_actor actor.Operator a then e ∷ [] else []) h

journal_more : (before cur next : History) (added more : List Entry)
    → cur ≡ record { limits = before.limits; entries = before.entries ++ added }
    → next ≡ record { limits = cur.limits; entries = cur.entries ++ more }
    → next ≡ record { limits = before.limits; entries = before.entries ++ (added ++ more) }
journal_more before cur next added more is grew =
    grew ∙ ap (λ (h : History). record { limits = h.limits; entries = h.entries ++ more }) is
    ∙ ap (λ (es : List Entry). record { limits = before.limits; entries = es })
    (append_assoc before.entries added more)

pub shares_more : (h cur next : Held) (added more : List Entry) → cur ≡ held h.parts (plus h.counts (count_of added))
    → next ≡ held cur.parts (plus cur.counts (count_of more))
    → next ≡ held h.parts (plus h.counts (count_of (added ++ more)))
shares_more h cur next added more is grew =
    grew ∙ ap (λ (k : Held). held k.parts (plus k.counts (count_of more))) is
    ∙ ap (held h.parts) (plus_more h.counts added more)

-- the entry goes on the list of its machine, and all other lists stay as they are
pub grown_turn : (before cur next : History) (h k k' : Held) (machines : Six (List Entry)) (operator : List Entry)
    (m : Machine) (es es' : List Entry)
    → es ≡ at machines m → GrewBy (actor.Machine m) cur next k k' es es' → Grown before cur h k machines operator
    → Grown before next h k' (put machines m es') operator
grown_turn before cur next h k k' machines operator m es es' at_m t g =
    let more = option_to_list t.booked in
    record {
      added = g.added ++ more;
      journal = journal_more before cur next g.added more g.journal t.journal;
      by_machine = λ n. ap (λ l. at (put machines m l) n) (t.list ∙ ap (λ l. l ++ more) at_m)
          ∙ put_more machines m n more ∙ ap₂ (λ a b. a ++ b) (g.by_machine n) (sym (machine_more m n t.booked t.actor))
          ∙ sym (entries_of-append (actor.Machine n) g.added more);
      by_operator = g.by_operator ∙ sym (append-nil (entries_of actor.Operator g.added))
          ∙ ap (λ l. entries_of actor.Operator g.added ++ l) (sym (operator_none m t.booked t.actor))
          ∙ sym (entries_of-append actor.Operator g.added more);
      shares = shares_more h k k' g.added more g.shares t.shares;
    }

-- the entry goes on the operator's list, and the machines' stay as they are
pub grown_hand : (before cur next : History) (h k k' : Held) (machines : Six (List Entry)) (es es' : List Entry)
    → GrewBy actor.Operator cur next k k' es es' → Grown before cur h k machines es
    → Grown before next h k' machines es'
grown_hand before cur next h k k' machines es es' t g =
    let more = option_to_list t.booked in
    record {
      added = g.added ++ more;
      journal = journal_more before cur next g.added more g.journal t.journal;
      by_machine = λ n. g.by_machine n ∙ sym (append-nil (entries_of (actor.Machine n) g.added))
          ∙ ap (λ l. entries_of (actor.Machine n) g.added ++ l) (sym (machine_none n t.booked t.actor))
          ∙ sym (entries_of-append (actor.Machine n) g.added more);
      by_operator = t.list ∙ ap₂ (λ a b. a ++ b) g.by_operator (sym (operator_more t.booked t.actor))
          ∙ sym (entries_of-append actor.Operator g.added more);
      shares = shares_more h k k' g.added more g.shares t.shares;
    }

-- an act by hand and its booking
pub did_hand : (acts log log' : ActLog) (es es' : List Entry) (e : Entry) (how : Handed)
    → log' ≡ handed_log how log e → es' ≡ es ++ option_to_list (handed_entry how e) → Did acts log es
    → Did acts log' es'
did_hand acts log log' es es' e Spared is list d = rw (is, list, append-nil es) d
did_hand acts log log' es es' e Failed is list d =
    record {
      acts = ap (λ (l : ActLog). l.acts) is ∙ failed (act_of e) ∙ d.acts
          ∙ ap (λ l. acts.acts ++ hands l) (sym (list ∙ append-nil es));
    }
  where
    failed : (o : Option Act) → (after_hand log o false).acts ≡ log.acts
    failed None = refl
    failed (Some a) = append-nil log.acts
did_hand acts log log' es es' e Booked is list d =
    did_push acts log log' es es' e (ap (λ (l : ActLog). l.acts) is ∙ done (act_of e)) list d
  where
    done : (o : Option Act) → (after_hand log o true).acts ≡ log.acts ++ option_to_list o
    done None = sym (append-nil log.acts)
    done (Some a) = refl

-- what is handed is the operator's, if it was booked
pub his_entry : (l : BookLimits) (J : List Entry) (e : Entry) (how : Handed) → IsHanded l J e how
    → IfSome (handed_entry how e) (λ x. actor_of x ≡ actor.Operator)
his_entry l J e Spared h = tt
his_entry l J e Failed h = tt
his_entry l J e Booked h = h.actor

-- the operator may have done the act of a step that was not finished
pub did_more : (acts log log' : ActLog) (es : List Entry) (wanted : Option Act) → ActedAtMost wanted log log'
    → Did acts log es → DidMore wanted acts log' es
did_more acts log log' es wanted a d = record {
  beyond = a.done;
  most = a.most;
  acts = a.acts
      ∙ ap (λ l. l ++ a.done) d.acts;
}

-- a step that wasn't finished is no step of the schedule, though its act may have been done
pub scheduled_stopped : (p : Plan) (steps : List Step) (refused : ℕ) (before cur next : History)
    (ws0 ws ws' : Six Watch) (told told' : Bool) (acts log log' : ActLog) (wanted : Option Act)
    → next ≡ cur → ws' ≡ ws → (told' ≡ true → told ≡ true) → (told' ≡ true → ActedAtMost wanted log log')
    → Scheduled p steps refused before cur ws0 ws told acts log
    → Scheduled p steps refused before next ws0 ws' told' acts log'
scheduled_stopped p steps refused before cur next ws0 ws ws' told told' acts log log' wanted is same still tells s =
    rw (is, same)
    (record {
      failed = s.failed;
      limits = s.limits;
      led = s.led;
      failures = λ t. (tells t).failures
          ∙ s.failures (still t);
    })

-- the steps are those taken, the next one and those left
pub steps_split : (steps : List Step) (i : ℕ) (next : Step) → i < length steps → get_or steps i next ≡ next
    → steps ≡ take i steps ++ next ∷ drop (suc i) steps
steps_split steps i next below is =
    sym (take-append-drop i steps) ∙ ap (λ (l : List Step). take i steps ++ l) (drop-cons steps i next below
    ∙ ap (λ (s : Step). s ∷ drop (suc i) steps) is)

-- nothing counts nothing
pub plus_none : (c : Totals) → c ≡ plus c (count_of [])
plus_none c = λ i. record {
  entries = sym (add-zero c.entries) i;
  admitted = sym (add-zero c.admitted) i;
  forged = sym (add-zero c.forged) i;
  quarantined = sym (add-zero c.quarantined) i;
  delivered = sym (add-zero c.delivered) i;
  reinstated = sym (add-zero c.reinstated) i;
}

pub grown_start : (before : History) (h : Held) (machines : Six (List Entry)) (operator : List Entry)
    → ((m : Machine) → at machines m ≡ []) → operator ≡ [] → Grown before before h h machines operator
grown_start before h machines operator none his = record {
  added = [];
  journal = ap (λ (es : List Entry). record { limits = before.limits; entries = es }) (sym (append-nil before.entries));
  by_machine = none;
  by_operator = his;
  shares = ap (held h.parts) (plus_none h.counts);
}
