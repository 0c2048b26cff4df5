-- Where a journal's entries are followed to
use Rattle.std.proofs.Common.{◌≡◌, ◌≢◌, ℕ, ◌+◌, ◌<◌, List, [], ◌∷◌, ◌++◌, length, take, drop, Bool, true, false, Option}
use Rattle.std.proofs.Common.{Some, None, refl, sym, ap, subst, ◌∙◌, append_assoc, append-nil, arith, length-append}
use Rattle.std.proofs.Common.{option_to_list}
use Rattle.std.specs.Prelude.{slice_get, is_some}
use Rattle.std.proofs.Math.Seq.{get_or-append_seam}
use Rattle.std.proofs.lemmas.List.{drop_more, length-take-le, take_more, take-append-drop}
use Rattle.std.proofs.lemmas.Option.{slice_get_past, slice_get-get_or, slice_get_within, get_or_from_slice_get}
use Rattle.cell_types.specs.declared.words.Actor.{Actor}
use Rattle.cell_types.specs.declared.words.Actor.TheVariants as actor
use Rattle.cell_types.specs.declared.words.Entry.{Entry}
use Rattle.cell_types.specs.declared.words.Machine.{Machine}
use Rattle.cell_types.specs.Entries.{actor_of}
use Rattle.cell_rules.specs.declared.limits.BookLimits.{BookLimits}
use Rattle.cell_ports.specs.declared.plan.Plan.{Plan}
use Rattle.cell_turns.specs.declared.schedule.Step.{Step}
use Rattle.cell_turns.specs.declared.six.Six.{Six}
use Rattle.cell_turns.specs.declared.watch.Watch.{Watch}
use Rattle.cell_turns.specs.Minds.{Mind, first_mind}
use Rattle.cell_turns.specs.Six.{each}
use Rattle.cell_turns.specs.Schedules.{Now, now, Leads, FitAll}
use Rattle.cell_turns.specs.Schedules.Leads.{stays}
use Rattle.cell_workers.specs.declared.ends.End.{End}
use Rattle.operator_desk.specs.Next.{entry_of}
use Rattle.operator_desk.specs.declared.line.Line.{Line}
use Rattle.cell_runs.specs.Rounds.{Place, place, Operates, Reaches, Stops, Takes, start, turn_of}
use Rattle.cell_runs.specs.Rounds.Operates.{rests, waits, books, fails}
use Rattle.cell_runs.specs.declared.follow.Followed.{Followed}
use Rattle.cell_runs.specs.declared.follow.Followed.TheVariants.{Whole, Parted, Memory}
use Rattle.cell_runs.specs.Followed.{Acts, Ends, EndsAt, FollowedAreSchedules, Follows, Halts, LeadsUpTo, Matches}
use Rattle.cell_runs.specs.Followed.{Parts, ReachesNow, TakesTurn, Waits, Works}
use Rattle.cell_runs.specs.Followed.Waits.{none as no_turn, more as one_more}
use Rattle.cell_runs.specs.Followed.Works.{books as works, rests as idles}
use Rattle.cell_runs.specs.Followed.Follows.{none as no_entry, more as one_entry}
use Rattle.cell_runs.proofs.OneRound.{one_booked}
use Rattle.cell_runs.proofs.Schedules.{Led, Reached, operates_lead, then_led}

differ : false ≡ true → ⊥
differ q = cc

-- the entry at the end of a journal that had another length
last_of : (J : List Entry) (b : Option Entry) → slice_get (J ++ option_to_list b) (length J) ≡ b
last_of J None = slice_get_past (J ++ []) (length J) (omega (arith, length-append J []))
last_of J (Some e) = slice_get-get_or (J ++ e ∷ []) (length J) e (omega (arith, length-append J (e ∷ [])))
    ∙ ap (λ (x : Entry). Some x) (get_or-append_seam J e [] e)

-- one entry at most was booked, so what stands where the journal ended is that entry or nothing
pub seen_last : (J J' : List Entry) (b seen : Option Entry) (n : ℕ) → n ≡ length J → J' ≡ J ++ option_to_list b
    → seen ≡ slice_get J' n → seen ≡ b
seen_last J J' b seen n size grew is = is ∙ ap (λ (K : List Entry). slice_get K n) grew
    ∙ ap (λ (k : ℕ). slice_get (J ++ option_to_list b) k) size ∙ last_of J b

-- turns that book nothing leave the journal as it was
waits_still : (l : BookLimits) (p : Plan) (m : Machine) (s t : Now) (n : ℕ) → Waits l p m s n t → t.journal ≡ s.journal
waits_still l p m s _ _ no_turn = refl
waits_still l p m s u _ (one_more {n = n} {t = t} w turn same) = same ∙ waits_still l p m s t n w

pub waits_start : (l : BookLimits) (p : Plan) (m : Machine) (J : List Entry) (ws : Six Watch) (minds : Six Mind)
    → FitAll ws minds → ReachesNow (Waits l p m (now J minds) 0) J ws
waits_start l p m J ws minds fits = (minds, fits, no_turn)

-- one turn more: where it leads, and the entry that is seen behind the journal that was
pub record OneTurn (l : BookLimits) (p : Plan) (m : Machine) (s t : Now) (seen : Option Entry) : Type 0 where
  pub turn : TakesTurn l p m s t
  pub grew : t.journal ≡ s.journal ++ option_to_list seen

-- a single turn books one entry at most, so all that it booked is what is seen
one_turn : (l l' : BookLimits) (p : Plan) (m : Machine) (x : Step) (before : ℕ) (J J' : List Entry) (ws' : Six Watch)
    (seen : Option Entry) (minds : Six Mind)
    → l' ≡ l → turn_of x ≡ Some m → before ≡ length J → seen ≡ slice_get J' before
    → Takes l' p (x ∷ []) (now J minds) J' ws' → ReachesNow (λ t. OneTurn l p m (now J minds) t seen) J' ws'
one_turn l l' p m x before J J' ws' seen minds same is size sees (f, led) =
    let (b, grew) = one_booked l' p (now J minds) (now J' led.minds) (x ∷ []) 0 f x led.leads refl in (
      led.minds,
      led.fits,
      record {
        turn = record {
          step = x;
          failed = f;
          turn = is;
          leads = subst (λ (k : BookLimits). Leads k p (now J minds) (x ∷ []) 0 f (now J' led.minds)) same led.leads;
        };
        grew = grew ∙ ap (λ (o : Option Entry). J ++ option_to_list o)
            (sym (seen_last J J' b seen before size grew sees));
      },
    )

works_some : (l : BookLimits) (p : Plan) (m : Machine) (s t u : Now) (n : ℕ) (seen : Option Entry) → is_some seen ≡ true
    → Waits l p m s n t → n < p.turns → OneTurn l p m t u seen → Works l p m s seen u
works_some l p m s t u n None is w few one = absurd (differ is)
works_some l p m s t u n (Some e) is w few one = works e w few one.turn one.grew

saw_none : (seen : Option Entry) → is_some seen ≡ false → seen ≡ None
saw_none None is = refl
saw_none (Some e) is = absurd (differ (sym is))

-- a turn that books an entry is the last
pub work_books : (l l' : BookLimits) (p : Plan) (m : Machine) (x : Step) (s : Now) (lines lines' : List Line)
    (lost lost' : Bool) (n before : ℕ) (J J' : List Entry) (ws ws' : Six Watch) (seen : Option Entry)
    → l' ≡ l → lines' ≡ lines → lost' ≡ lost → turn_of x ≡ Some m → n < p.turns → before ≡ length s.journal
    → seen ≡ slice_get J' before → is_some seen ≡ true
    → ReachesNow (Waits l p m s n) J ws → ((minds : Six Mind) → FitAll ws minds
    → Takes l' p (x ∷ []) (now J minds) J' ws')
    → Reaches (Acts l p (actor.Machine m) (place s lines lost) seen) J' ws' lines' lost'
work_books l l' p m x s lines lines' lost lost' n before J J' ws ws' seen same kept still is few size sees some
    (minds, fits, waited) next =
    let quiet = waits_still l p m s (now J minds) n waited in
    let (after, fits', one) = one_turn l l' p m x before J J' ws' seen minds same is
    (size ∙ ap (λ (K : List Entry). length K) (sym quiet)) sees (next minds fits) in
    (after, fits', (works_some l p m s (now J minds) (now J' after) n seen some waited few one, kept, still))

-- the same of the journal alone, to which the turns that waited added nothing
pub work_grown : (l l' : BookLimits) (p : Plan) (m : Machine) (x : Step) (s : Now) (n before : ℕ) (J J' : List Entry)
    (ws ws' : Six Watch) (seen : Option Entry)
    → l' ≡ l → turn_of x ≡ Some m → before ≡ length s.journal → seen ≡ slice_get J' before
    → ReachesNow (Waits l p m s n) J ws → ((minds : Six Mind) → FitAll ws minds
    → Takes l' p (x ∷ []) (now J minds) J' ws') → J' ≡ s.journal ++ option_to_list seen
work_grown l l' p m x s n before J J' ws ws' seen same is size sees (minds, fits, waited) next =
    let quiet = waits_still l p m s (now J minds) n waited in
    let (after, fits', one) = one_turn l l' p m x before J J' ws' seen minds same is
    (size ∙ ap (λ (K : List Entry). length K) (sym quiet)) sees (next minds fits) in
    one.grew ∙ ap (λ (K : List Entry). K ++ option_to_list seen) quiet

-- and one that books none is no turn but one that waits
pub work_waits : (l l' : BookLimits) (p : Plan) (m : Machine) (x : Step) (s : Now) (n before : ℕ) (J J' : List Entry)
    (ws ws' : Six Watch) (seen : Option Entry)
    → l' ≡ l → turn_of x ≡ Some m → before ≡ length s.journal → seen ≡ slice_get J' before → is_some seen ≡ false
    → ReachesNow (Waits l p m s n) J ws → ((minds : Six Mind) → FitAll ws minds
    → Takes l' p (x ∷ []) (now J minds) J' ws') → ReachesNow (Waits l p m s (n + 1)) J' ws'
work_waits l l' p m x s n before J J' ws ws' seen same is size sees none (minds, fits, waited) next =
    let quiet = waits_still l p m s (now J minds) n waited in
    let (after, fits', one) = one_turn l l' p m x before J J' ws' seen minds same is
    (size ∙ ap (λ (K : List Entry). length K) (sym quiet)) sees (next minds fits) in (
      after,
      fits',
      one_more waited one.turn
          (one.grew ∙ ap (λ (o : Option Entry). J ++ option_to_list o) (saw_none seen none) ∙ append-nil J),
    )

-- a machine gets as many turns as the plan has, and then counts as one that books nothing
pub work_rests : (l : BookLimits) (p : Plan) (m : Machine) (s : Now) (lines lines' : List Line) (lost lost' : Bool)
    (n : ℕ) (J : List Entry) (ws : Six Watch)
    → lines' ≡ lines → lost' ≡ lost → n ≡ p.turns → ReachesNow (Waits l p m s n) J ws
    → Reaches (Acts l p (actor.Machine m) (place s lines lost) None) J ws lines' lost'
work_rests l p m s lines lines' lost lost' n J ws kept still all (minds, fits, waited) =
    (minds, fits, (idles (subst (λ (k : ℕ). Waits l p m s k (now J minds)) all waited), kept, still))

-- a turn is tried only while the plan has turns left, and those before it booked nothing
pub work_halts : (l l' : BookLimits) (p : Plan) (m : Machine) (x : Step) (s : Now) (lines : List Line) (lost : Bool)
    (n : ℕ) (J J' : List Entry) (ws : Six Watch) (e : End)
    → l' ≡ l → turn_of x ≡ Some m → n < p.turns → ReachesNow (Waits l p m s n) J ws
    → ((minds : Six Mind) → FitAll ws minds → Stops l' p (turn_of x ∷ []) (now J minds) J' e)
    → Halts l p (actor.Machine m) (place s lines lost) J' e
work_halts l l' p m x s lines lost n J J' ws e same is few (minds, fits, waited) next = (
  n,
  now J minds,
  few,
  waited,
  subst (λ (o : Option Machine). Stops l p (o ∷ []) (now J minds) J' e) is
      (subst (λ (k : BookLimits). Stops k p (turn_of x ∷ []) (now J minds) J' e) same (next minds fits)),
)

-- all turns so far waited, and none of those books an entry
pub work_quiet : (l : BookLimits) (p : Plan) (m : Machine) (s : Now) (n : ℕ) (J : List Entry) (ws : Six Watch)
    → ReachesNow (Waits l p m s n) J ws → J ≡ s.journal
work_quiet l p m s n J ws (minds, fits, waited) = waits_still l p m s (now J minds) n waited

-- what an actor does adds the entry that he books
works_grow : (l : BookLimits) (p : Plan) (m : Machine) (s t : Now) (b : Option Entry) → Works l p m s b t
    → t.journal ≡ s.journal ++ option_to_list b
works_grow l p m s u _ (works {n = n} {t = t} e w few turn grew) =
    grew ∙ ap (λ (J : List Entry). J ++ e ∷ []) (waits_still l p m s t n w)
works_grow l p m s t _ (idles w) = waits_still l p m s t p.turns w ∙ sym (append-nil s.journal)

acts_grow : (l : BookLimits) (p : Plan) (a : Actor) (s t : Place) (b : Option Entry) → Acts l p a s b t
    → t.now.journal ≡ s.now.journal ++ option_to_list b
acts_grow l p (actor.Machine m) s t b acts = works_grow l p m s.now t.now b acts.0
acts_grow l p actor.Operator s t b acts = acts.1

pub acted_grow : (l : BookLimits) (p : Plan) (a : Actor) (s : Place) (b : Option Entry) (J' : List Entry)
    (ws' : Six Watch) (lines' : List Line) (lost' : Bool)
    → Reaches (Acts l p a s b) J' ws' lines' lost' → J' ≡ s.now.journal ++ option_to_list b
acted_grow l p a s b J' ws' lines' lost' (minds, fits, acts) =
    acts_grow l p a s (place (now J' minds) lines' lost') b acts

-- the operator
operates_one : (l : BookLimits) (p : Plan) (s t : Place) → Operates l p s t
    → (b : Option Entry) × (t.now.journal ≡ s.now.journal ++ option_to_list b)
operates_one l p _ _ (rests {s = s}) = (None, sym (append-nil s.journal))
operates_one l p _ _ (waits {s = s} n) = (None, sym (append-nil s.journal))
operates_one l p _ _ (books a n b grew) = (Some (entry_of a), grew)
operates_one l p _ _ (fails {s = s} a n b same) = (None, same ∙ sym (append-nil s.journal))

-- he books one entry at most, so what stands where the journal ended is his
pub operate_books : (l : BookLimits) (p : Plan) (s : Place) (before : ℕ) (J' : List Entry) (ws' : Six Watch)
    (lines' : List Line) (lost' : Bool) (seen : Option Entry)
    → before ≡ length s.now.journal → seen ≡ slice_get J' before → Reaches (Operates l p s) J' ws' lines' lost'
    → Reaches (Acts l p actor.Operator s seen) J' ws' lines' lost'
operate_books l p s before J' ws' lines' lost' seen size sees (minds, fits, operates) =
    let (b, grew) = operates_one l p s (place (now J' minds) lines' lost') operates in (
      minds,
      fits,
      (
        operates,
        grew ∙ ap (λ (o : Option Entry). s.now.journal ++ option_to_list o)
            (sym (seen_last s.now.journal J' b seen before size grew sees)),
      ),
    )

-- one entry of a journal more
pub follows_start : (l : BookLimits) (p : Plan) (J : List Entry) (ws : Six Watch) (lines : List Line) (lost : Bool)
    (minds : Six Mind) → FitAll ws minds → Reaches (Follows l p (place (now J minds) lines lost) []) J ws lines lost
follows_start l p J ws lines lost minds fits = (minds, fits, no_entry)

pub follows_more : (l l' : BookLimits) (p : Plan) (from : Place) (journal : List Entry) (i : ℕ) (e : Entry)
    (J J' : List Entry) (ws ws' : Six Watch) (lines lines' : List Line) (lost lost' : Bool)
    → l' ≡ l → slice_get journal i ≡ Some e → Reaches (Follows l p from (take i journal)) J ws lines lost
    → ((minds : Six Mind) → FitAll ws minds
    → Reaches (Acts l' p (actor_of e) (place (now J minds) lines lost) (Some e)) J' ws' lines' lost')
    → Reaches (Follows l p from (take (i + 1) journal)) J' ws' lines' lost'
follows_more l l' p from journal i e J J' ws ws' lines lines' lost lost' same is (minds, fits, led) next =
    let (after, fits', acts) = next minds fits in
    let grew : take (i + 1) journal ≡ take i journal ++ e ∷ [] = take_more journal i e (slice_get_within journal i e is)
    ∙ ap (λ (x : Entry). take i journal ++ x ∷ []) (get_or_from_slice_get journal i e e is) in (
      after,
      fits',
      subst (λ (es : List Entry). Follows l p from es (place (now J' after) lines' lost')) (sym grew)
          (one_entry e led (subst (λ (k : BookLimits). Acts k p (actor_of e) (place (now J minds) lines lost) (Some e)
          (place (now J' after) lines' lost')) same acts)),
    )

-- the entry at a place parts a journal into those before it, which were followed, and those behind
abbrev up_to : (l : BookLimits) (p : Plan) (from t : Place) (journal : List Entry) (i : ℕ) (e : Entry)
    → slice_get journal i ≡ Some e → Follows l p from (take i journal) t → LeadsUpTo l p from journal e t
up_to l p from t journal i e is led = record {
  same = take i journal;
  left = drop (i + 1) journal;
  in_order =
      sym (take-append-drop i journal)
      ∙ ap (λ (q : List Entry). take i journal ++ q) (drop_more journal i e (slice_get_within journal i e is)
      ∙ ap (λ (x : Entry). x ∷ drop (i + 1) journal) (get_or_from_slice_get journal i e e is));
  follows = led;
}

-- entries are told by numbers from 1, so the wanted one has the number of those followed and one more
number_of : (journal : List Entry) (i : ℕ) (e : Entry) → slice_get journal i ≡ Some e
    → i + 1 ≡ length (take i journal) + 1
number_of journal i e is = omega (
  arith,
  slice_get_within journal i e is,
  length-take-le i journal
      (omega (arith, slice_get_within journal i e is)),
)

-- a journal that is followed whole has no entry at which the following ends
ends_at : (l : BookLimits) (p : Plan) (from t : Place) (journal : List Entry) (i : ℕ) (e : Entry) (J : List Entry)
    (how : Followed)
    → slice_get journal i ≡ Some e → Follows l p from (take i journal) t → EndsAt l p t (i + 1) e J how
    → Ends l p from journal J how
ends_at l p from t journal i e J Whole is led h = absurd h
ends_at l p from t journal i e J (Parted j wanted booked) is led (number, same, parts) = (
  t,
  up_to l p from t journal i wanted (is ∙ ap (λ (x : Entry). Some x) (sym same)) led,
  number
      ∙ number_of journal i e is,
  subst (λ (x : Entry). Parts l p t x booked J) (sym same) parts,
)
ends_at l p from t journal i e J Memory is led (halts, same) = (e, t, up_to l p from t journal i e is led, halts, same)

-- the book keeps its limits while it is filled, so the end is one within those of the start
pub follows_ends : (l l' : BookLimits) (p : Plan) (from : Place) (journal : List Entry) (i : ℕ) (e : Entry)
    (J J' : List Entry) (ws : Six Watch) (lines : List Line) (lost : Bool) (how : Followed)
    → l' ≡ l → slice_get journal i ≡ Some e → Reaches (Follows l p from (take i journal)) J ws lines lost
    → ((minds : Six Mind) → FitAll ws minds → EndsAt l' p (place (now J minds) lines lost) (i + 1) e J' how)
    → Ends l p from journal J' how
follows_ends l l' p from journal i e J J' ws lines lost how same is (minds, fits, led) next =
    ends_at l p from (place (now J minds) lines lost) journal i e J' how is led
    (subst (λ (k : BookLimits). EndsAt k p (place (now J minds) lines lost) (i + 1) e J' how) same
    (next minds fits))

-- from an empty book
pub ends_started : (l k : BookLimits) (p : Plan) (script : List Line) (B K journal J J' : List Entry) (ws : Six Watch)
    (how : Followed)
    → K ≡ B → B ≡ [] → k ≡ l → J' ≡ J → FitAll ws (each (λ m. first_mind B m))
    → ((minds : Six Mind) → FitAll ws minds → Ends k p (place (now K minds) script false) journal J how)
    → Ends l p (start script) journal J' how
ends_started l k p script B K journal J J' ws how is empty same after fits next =
    subst (λ (x : BookLimits). Ends x p (start script) journal J' how) same
    (subst (λ (x : List Entry). Ends k p (start script) journal x how) (sym after)
    (subst (λ (x : List Entry). Ends k p (place (now x (each (λ m. first_mind x m))) script false) journal J how) empty
    (subst (λ (x : List Entry). Ends k p (place (now x (each (λ m. first_mind B m))) script false) journal J how) is
    (next (each (λ m. first_mind B m)) fits))))

-- what is booked is what was followed
follows_grow : (l : BookLimits) (p : Plan) (s t : Place) (es : List Entry) → Follows l p s es t
    → t.now.journal ≡ s.now.journal ++ es
follows_grow l p s _ _ no_entry = sym (append-nil s.now.journal)
follows_grow l p s u _ (one_entry {es = es} {t = t} e led acts) =
    acts_grow l p (actor_of e) t u (Some e) acts ∙ ap (λ (J : List Entry). J ++ e ∷ []) (follows_grow l p s t es led)
    ∙ append_assoc s.now.journal es (e ∷ [])

some_other : (e wanted : Entry) → e ≢ wanted → Some e ≢ Some wanted
some_other e wanted other = λ q. other (cc)

no_some : (wanted : Entry) → None ≢ Some wanted
no_some wanted = λ q. cc

-- how the following ended tells by itself what of the journal the book has
pub ends_match : (l : BookLimits) (p : Plan) (script : List Line) (journal J : List Entry) (how : Followed)
    → Ends l p (start script) journal J how → Matches journal J how
ends_match l p script journal J Whole (t, led, is) = is ∙ follows_grow l p (start script) t journal led
ends_match l p script journal J (Parted i wanted (Some e)) (t, to, number, (other, (u, acts, is))) = (
  to.same,
  to.left,
  to.in_order,
  number,
  is ∙ acts_grow l p (actor_of wanted) t u (Some e) acts
      ∙ ap (λ (K : List Entry). K ++ e ∷ []) (follows_grow l p (start script) t to.same to.follows),
  some_other e wanted other,
)
ends_match l p script journal J (Parted i wanted None) (t, to, number, (same, why)) = (
  to.same,
  to.left,
  to.in_order,
  number,
  same ∙ follows_grow l p (start script) t to.same to.follows ∙ sym (append-nil to.same),
  no_some wanted,
)
ends_match l p script journal J Memory (wanted, t, to, halts, same) = (
  wanted ∷ to.left,
  to.in_order ∙ ap (λ (K : List Entry). K ++ wanted ∷ to.left)
      (sym (same ∙ follows_grow l p (start script) t to.same to.follows)),
)

-- a journal that is followed as one schedule
takes_lead : (l : BookLimits) (p : Plan) (m : Machine) (s t : Now) → TakesTurn l p m s t → Led l p s t
takes_lead l p m s t turn = (turn.step ∷ [], turn.failed, turn.leads)

waits_lead : (l : BookLimits) (p : Plan) (m : Machine) (s t : Now) (n : ℕ) → Waits l p m s n t → Led l p s t
waits_lead l p m s _ _ no_turn = ([], 0, stays)
waits_lead l p m s u _ (one_more {n = n} {t = t} w turn same) =
    then_led l p s t u (waits_lead l p m s t n w) (takes_lead l p m t u turn)

works_lead : (l : BookLimits) (p : Plan) (m : Machine) (s t : Now) (b : Option Entry) → Works l p m s b t → Led l p s t
works_lead l p m s u _ (works {n = n} {t = t} e w few turn grew) =
    then_led l p s t u (waits_lead l p m s t n w) (takes_lead l p m t u turn)
works_lead l p m s t _ (idles w) = waits_lead l p m s t p.turns w

acts_lead : (l : BookLimits) (p : Plan) (a : Actor) (s t : Place) (b : Option Entry) → Acts l p a s b t
    → Led l p s.now t.now
acts_lead l p (actor.Machine m) s t b acts = works_lead l p m s.now t.now b acts.0
acts_lead l p actor.Operator s t b acts = operates_lead l p s t acts.0

follows_lead : (l : BookLimits) (p : Plan) (s t : Place) (es : List Entry) → Follows l p s es t → Led l p s.now t.now
follows_lead l p s _ _ no_entry = ([], 0, stays)
follows_lead l p s u _ (one_entry {es = es} {t = t} e led acts) =
    then_led l p s.now t.now u.now (follows_lead l p s t es led) (acts_lead l p (actor_of e) t u (Some e) acts)

reached : (l : BookLimits) (p : Plan) (s t : Now) (J : List Entry) → J ≡ t.journal → Led l p s t → Reached l p s J
reached l p s t J is (steps, failed, leads) =
    (steps, 0, failed, t.minds, subst (λ (K : List Entry). Leads l p s steps 0 failed (now K t.minds)) (sym is) leads)

-- what was begun for an entry that wasn't booked left the journal alone, so the schedule can leave it out
ends_lead : (l : BookLimits) (p : Plan) (s : Place) (journal J : List Entry) (how : Followed) → Ends l p s journal J how
    → Reached l p s.now J
ends_lead l p s journal J Whole (t, led, is) = reached l p s.now t.now J is (follows_lead l p s t journal led)
ends_lead l p s journal J (Parted i wanted (Some e)) (t, to, number, (other, (u, acts, is))) =
    reached l p s.now u.now J is (then_led l p s.now t.now u.now (follows_lead l p s t to.same to.follows)
    (acts_lead l p (actor_of wanted) t u (Some e) acts))
ends_lead l p s journal J (Parted i wanted None) (t, to, number, (same, why)) =
    reached l p s.now t.now J same (follows_lead l p s t to.same to.follows)
ends_lead l p s journal J Memory (wanted, t, to, halts, same) =
    reached l p s.now t.now J same (follows_lead l p s t to.same to.follows)

-- so what is shown of all schedules holds where a journal is followed
pub followed_lead : FollowedAreSchedules
followed_lead l p script journal J how is = ends_lead l p (start script) journal J how is.ends
