-- Turns of one worker, one after another
use Rattle.std.proofs.Common.{◌≡◌, ◌<◌, ◌≤◌, ℕ, ◌+◌, Bool, true, false, not, ◌&&◌, Option, Some, None, List, [], ◌∷◌}
use Rattle.std.proofs.Common.{◌++◌, length, All, IfSome, IfNone, option_to_list, if◌then◌else◌, refl, sym, ap, ap₂, ◌∙◌}
use Rattle.std.proofs.Common.{subst, append_assoc, append-nil, length-append, arith, inl, inr}
use Rattle.std.specs.Prelude.{is_none}
use Rattle.std.proofs.lemmas.List.Elements.{All-append, All-nil, All-cons}
use Rattle.cell_types.specs.declared.words.Machine.{Machine}
use Rattle.cell_types.specs.declared.words.Actor.{Actor}
use Rattle.cell_types.specs.declared.words.Actor.TheVariants as actor
use Rattle.cell_types.specs.declared.words.Command.{Command}
use Rattle.cell_types.specs.declared.words.Command.TheVariants.{AllOff}
use Rattle.cell_types.specs.declared.words.Entry.{Entry}
use Rattle.cell_types.specs.Entries.{actor_of}
use Rattle.cell_rules.specs.Views.{count_of}
use Rattle.cell_rules.specs.declared.limits.BookLimits.{BookLimits}
use Rattle.cell_rules.specs.Safety.{IsSafe}
use Rattle.cell_rules.specs.Carrying.{IsCarrying}
use Rattle.cell_ledger.specs.Counts.{plus}
use Rattle.cell_ledger.specs.Held.{Held, held}
use Rattle.cell_diagnosis.specs.declared.reading.Reading.{Reading}
use Rattle.cell_ports.specs.declared.plan.Plan.{Plan}
use Rattle.cell_turns.specs.declared.watch.Watch.{Watch}
use Rattle.cell_ports.specs.Logs.{Log, after_read, after_command, after_sending}
use Rattle.cell_turns.specs.Sent.{is_command_fault, command_faults, one_where, Sends}
use Rattle.cell_turns.specs.Minds.{Mind, FitsMind, first_mind, with_failure, remembered, has_failed_command}
use Rattle.cell_turns.specs.Turns.{IsDecided, mind_after}
use Rattle.cell_workers.specs.Evidence.{Backed, Backs}
use Rattle.cell_workers.specs.Evidence.Backs.{begun, idled, based}
use Rattle.cell_workers.specs.Traces.{Traces, Calm, Saw}
use Rattle.cell_workers.specs.Working.{Served, Serves, Shown, Answered, SentAll, Evidence}
use Rattle.cell_turns.proofs.Logs.{sends_start}
use Rattle.cell_workers.proofs.Traces.{traces_after, traces_first}
use Rattle.cell_workers.proofs.Endings.{has_endings}
use Rattle.cell_workers.proofs.Backing.{decided_backed, calm_after, calm_first}
use Rattle.cell_turns.proofs.Schedules.{shares_more, plus_none}

-- what a watch saw

-- the turn changes the mind as it changes the watch, so the mind still fits
pub saw_after : (l : BookLimits) (J : List Entry) (m : Machine) (p : Plan) (r : Option Reading) (e : Option Entry)
    (w w' : Watch) → IsSafe J → IsCarrying J
    → ((s : Mind) → FitsMind w s → IsDecided l J m p s r e)
    → ((s : Mind) → FitsMind w s → FitsMind w' (mind_after J m p s r e))
    → (got : List (Option Reading)) → Saw m p got w → Saw m p (got ++ r ∷ []) w'
saw_after l J m p r e w w' safe carrying decided fits got x = record {
  mind = mind_after J m p x.mind r e;
  fits = fits x.mind x.fits;
  traces = traces_after J m p got x.mind r e x.traces;
  calm = calm_after l J m p x.mind r e (has_endings J safe carrying) (decided x.mind x.fits);
}

pub backed_at : (l : BookLimits) (J : List Entry) (m : Machine) (p : Plan) (r : Option Reading) (e : Option Entry)
    (w : Watch)
    → ((s : Mind) → FitsMind w s → IsDecided l J m p s r e) → (got : List (Option Reading)) → Saw m p got w
    → IfSome e (Backed p (got ++ r ∷ []))
backed_at l J m p r e w decided got x = decided_backed l J m p got x.mind r e x.traces x.calm (decided x.mind x.fits)

-- a turn, as the code has it
pub served : (l : BookLimits) (J : List Entry) (m : Machine) (p : Plan) (r : Option Reading) (e : Option Entry)
    (es es' : List Entry) (h h' : Held) (w w' : Watch) → IsSafe J → IsCarrying J
    → es' ≡ es ++ option_to_list e → h' ≡ held h.parts (plus h.counts (count_of (option_to_list e)))
    → IfSome e (λ x. actor_of x ≡ actor.Machine m)
    → ((s : Mind) → FitsMind w s → IsDecided l J m p s r e)
    → ((s : Mind) → FitsMind w s → FitsMind w' (mind_after J m p s r e))
    → IfSome e (λ x. is_command_fault x ≡ has_failed_command w)
    → has_failed_command w' ≡ (is_none e && has_failed_command w)
    → Served m p r e es es' h h' w w'
served l J m p r e es es' h h' w w' safe carrying list shares own decided fits fault flag = record {
  entries = list;
  shares = shares;
  actor = own;
  fault = fault;
  flag = flag;
  saw = saw_after l J m p r e w w' safe carrying decided fits;
  backed = backed_at l J m p r e w decided;
}

-- a worker starts with a watch that has seen nothing
pub saw_start : (J : List Entry) (m : Machine) (p : Plan) (w : Watch) → FitsMind w (first_mind J m) → Saw m p [] w
saw_start J m p w fits = record {
  mind = first_mind J m;
  fits = fits;
  traces =
      traces_first m p (remembered J m false false) refl;
  calm = calm_first (remembered J m false false);
}

-- a failed command is in the memory alone, and the traces speak of readings
failed_traces : (m : Machine) (p : Plan) (got : List (Option Reading)) (s : Mind) (b : Bool) → Traces m p got s
    → Traces m p got (if b then with_failure s else s)
failed_traces m p got s true t = record { axis = t.axis; rest = t.rest; sign = t.sign }
failed_traces m p got s false t = t

failed_calm : (s : Mind) (b : Bool) → Calm s → Calm (if b then with_failure s else s)
failed_calm s true (inl h) = inl h
failed_calm s true (inr h) = inr h
failed_calm s false c = c

-- sending reads nothing, so only the memory changes
pub saw_sent : (m : Machine) (p : Plan) (failed : Bool) (w w' : Watch)
    → ((s : Mind) → FitsMind w s → FitsMind w' (if failed then with_failure s else s)) → (got : List (Option Reading))
    → Saw m p got w → Saw m p got w'
saw_sent m p failed w w' fits got x = record {
  mind = if failed then with_failure x.mind else x.mind;
  fits = fits x.mind x.fits;
  traces = failed_traces m p got x.mind failed x.traces;
  calm = failed_calm x.mind failed x.calm;
}

-- a turn, and what it did to the list and the shares

pub serves_more : (a : Actor) (e : Option Entry) (es es' : List Entry) (h h' start : Held)
    → es' ≡ es ++ option_to_list e → h' ≡ held h.parts (plus h.counts (count_of (option_to_list e)))
    → IfSome e (λ x. actor_of x ≡ a)
    → Serves a start es h → Serves a start es' h'
serves_more a e es es' h h' start list shares actor_is s = record {
  actor = subst (All (λ (x : Entry). actor_of x ≡ a)) (sym list)
      (All-append (λ (x : Entry). actor_of x ≡ a) es (option_to_list e) s.actor (own e actor_is));
  counts = shares_more start h h' es (option_to_list e) s.counts shares
      ∙ ap (λ l. held start.parts (plus start.counts (count_of l))) (sym list);
}
  where
    own : (e : Option Entry) → IfSome e (λ x. actor_of x ≡ a) → All (λ (x : Entry). actor_of x ≡ a) (option_to_list e)
    own None h = All-nil (λ (x : Entry). actor_of x ≡ a)
    own (Some x) h = All-cons (λ (x : Entry). actor_of x ≡ a) x [] h (All-nil (λ (x : Entry). actor_of x ≡ a))

pub serves_turn : (m : Machine) (p : Plan) (r : Option Reading) (e : Option Entry) (es es' : List Entry) (h h' : Held)
    (w w' : Watch) (start : Held) → Served m p r e es es' h h' w w' → Serves (actor.Machine m) start es h
    → Serves (actor.Machine m) start es' h'
serves_turn m p r e es es' h h' w w' start t s = serves_more (actor.Machine m) e es es' h h' start t.entries t.shares
    t.actor s

pub serves_same : (a : Actor) (es es' : List Entry) (h h' start : Held) → es' ≡ es → h' ≡ h → Serves a start es h
    → Serves a start es' h'
serves_same a es es' h h' start list shares s = rw (list, shares) s

pub serves_start : (a : Actor) (es : List Entry) (now start : Held) → es ≡ [] → now ≡ start → Serves a start es now
serves_start a es now start e is = rw (e, is)
    (record {
      actor = All-nil (λ (x : Entry). actor_of x ≡ a);
      counts =
          ap (held start.parts) (plus_none start.counts);
    })

-- the answers of a call, with one more

-- each turn reads once, whether it books or not
pub shown_turn : (m : Machine) (p : Plan) (r : Option Reading) (e : Option Entry) (es es' : List Entry) (h h' : Held)
    (w w' : Watch) (before now after : Log) (k : ℕ)
    → after.answers ≡ now.answers ++ r ∷ [] → Served m p r e es es' h h' w w' → Shown m p before now es w k
    → Shown m p before after es' w' (k + 1)
shown_turn m p r e es es' h h' w w' before now after k is t s = record {
  got = s.got ++ r ∷ [];
  are = is ∙ ap (λ l. l ++ r ∷ []) s.are ∙ append_assoc before.answers s.got (r ∷ []);
  backs = subst (Backs p (s.got ++ r ∷ [])) (sym t.entries) (backs e (t.backed s.got s.saw));
  saw = t.saw s.got s.saw;
  many = length-append s.got (r ∷ []) ∙ ap (λ j. j + 1) s.many;
}
  where
    backs : (e : Option Entry) → IfSome e (Backed p (s.got ++ r ∷ []))
        → Backs p (s.got ++ r ∷ []) (es ++ option_to_list e)
    backs None b = subst (Backs p (s.got ++ r ∷ [])) (sym (append-nil es)) (idled r s.backs)
    backs (Some x) b = based r x s.backs b

-- the worker ends at this reading
pub answered_quiet : (m : Machine) (p : Plan) (r : Option Reading) (es es' : List Entry) (w : Watch)
    (before now after : Log) (k : ℕ)
    → after.answers ≡ now.answers ++ r ∷ [] → es' ≡ es → Shown m p before now es w k
    → Answered p before after es' (k + 1)
answered_quiet m p r es es' w before now after k is same s = record {
  got = s.got ++ r ∷ [];
  are = is ∙ ap (λ l. l ++ r ∷ []) s.are ∙ append_assoc before.answers s.got (r ∷ []);
  backs = subst (Backs p (s.got ++ r ∷ [])) (sym same) (idled r s.backs);
  many = length-append s.got (r ∷ []) ∙ ap (λ j. j + 1) s.many;
}

pub answered_shown : (m : Machine) (p : Plan) (before now : Log) (es : List Entry) (w : Watch) (k : ℕ)
    → Shown m p before now es w k → Answered p before now es k
answered_shown m p before now es w k s = record { got = s.got; are = s.are; backs = s.backs; many = s.many }

-- a command was sent, which reads nothing
pub shown_sent : (m : Machine) (p : Plan) (before now after : Log) (es : List Entry) (w w' : Watch) (k : ℕ)
    → after.answers ≡ now.answers → ((got : List (Option Reading)) → Saw m p got w → Saw m p got w')
    → Shown m p before now es w k → Shown m p before after es w' k
shown_sent m p before now after es w w' k is sees s = record {
  got = s.got;
  are = is ∙ s.are;
  backs = s.backs;
  saw =
      sees s.got s.saw;
  many = s.many;
}

pub shown_start : (m : Machine) (p : Plan) (log : Log) (es : List Entry) (w : Watch) → es ≡ [] → Saw m p [] w
    → Shown m p log log es w 0
shown_start m p log es w e x = rw e (record {
  got = [];
  are = sym (append-nil log.answers);
  backs = begun;
  saw =
      x;
  many = refl;
})

-- what holds anyway holds where there is none
pub at_none : {X : Type 0} {P : Type 0} (o : Option X) → P → IfNone o P
at_none None p = p
at_none (Some x) p = tt

-- a reading sends nothing
pub sends_read : (before now after : Log) (was failed : Bool) (es : List Entry) (r : Option Reading)
    → after ≡ after_read now r → Sends before was now es failed → Sends before was after es failed
sends_read before now after was failed es r is s = record {
  begins = s.begins;
  sent = ap (λ (l : Log). l.sent) is
      ∙ s.sent;
  failures = ap (λ (l : Log). l.failures + one_where was) is ∙ s.failures;
}

pub sends_begun : (log : Log) (es : List Entry) (failed : Bool) → es ≡ [] → failed ≡ false
    → Sends log false log es failed
sends_begun log es failed e is = rw is (sends_start log false es e)

-- a command reads nothing
pub answers_sent : (now after : Log) (o : Option Command) (failed : Bool) → after ≡ after_sending now o failed
    → after.answers ≡ now.answers
answers_sent now after None failed is = ap (λ (l : Log). l.answers) is
answers_sent now after (Some c) failed is = ap (λ (l : Log). l.answers) is

-- the machine's AllOff, at the end
pub sent_all : (m : Machine) (before now after : Log) (es : List Entry) (failed ok : Bool)
    → after ≡ after_command now (AllOff m) ok → Sends before false now es failed → SentAll m before after es
sent_all m before now after es failed ok is s = record {
  lost = failed;
  off = not ok;
  begins = s.begins;
  sent = ap (λ (l : Log). l.sent) is ∙ ap₂ (λ l x. l ++ x) s.sent (turned ok);
  failures = ap (λ (l : Log). l.failures) is
      ∙ ap₂ (λ l x. l + x) (grew now.failures (before.failures + (command_faults es + one_where failed)) s.failures)
      (counted ok);
}
  where
    grew : (n k : ℕ) → n + 0 ≡ k → n ≡ k
    grew n k h = omega arith

    turned : (b : Bool) → (if b then AllOff m ∷ [] else []) ≡ (if not b then [] else AllOff m ∷ [])
    turned true = refl
    turned false = refl

    counted : (b : Bool) → ◌≡◌ {A = ℕ} (if b then 0 else 1) (one_where (not b))
    counted true = refl
    counted false = refl

-- each entry has a reading of its own
backs_short : {p : Plan} {rs : List (Option Reading)} {es : List Entry} → Backs p rs es → length es ≤ length rs
backs_short begun = omega arith
backs_short (idled {rs} {es} r b) = let q = backs_short b in omega (arith, length-append rs (r ∷ []), q)
backs_short (based {rs} {es} r e b w) = let q =
    backs_short b in omega (arith, length-append rs (r ∷ []), length-append es (e ∷ []), q)

pub evidence : (p : Plan) (before now after : Log) (es : List Entry) (k : ℕ) → after.answers ≡ now.answers
    → Answered p before now es k → Evidence p before after es
evidence p before now after es k is t = record {
  got = t.got;
  are = is ∙ t.are;
  backs = t.backs;
  short =
      backs_short t.backs;
}

pub turns_answered : (p : Plan) (before now after : Log) (es : List Entry) (k : ℕ) → after.answers ≡ now.answers
    → Answered p before now es k → length after.answers ≡ length before.answers + k
turns_answered p before now after es k is t = ap length (is ∙ t.are) ∙ length-append before.answers t.got
    ∙ ap (λ n. length before.answers + n) t.many

-- no entry declares the last command's failure, but the log counts it
pub lost_more : (before now after : Log) (es : List Entry) (failed : Bool) (c : Command) (ok : Bool) → failed ≡ true
    → after ≡ after_command now c ok → Sends before false now es failed → before.failures < after.failures
lost_more before now after es false c ok f is s = cc
lost_more before now after es true c ok f is s = omega (arith, ap (λ (l : Log). l.failures) is, s.failures)
