-- What the operator's worker books and what his hands do
use Rattle.std.proofs.Common.{◌≡◌, ◌+◌, ◌⊎◌, Bool, arith, subst, is_none, if◌then◌else◌, true, false, Option, Some}
use Rattle.std.proofs.Common.{None, List, [], ◌∷◌, ◌++◌, option_to_list, is_some, refl, sym, ap, ◌∙◌, append-nil, inl}
use Rattle.std.proofs.Common.{inr}
use Rattle.cell_types.specs.declared.words.Actor.TheVariants as actor
use Rattle.cell_types.specs.declared.words.Entry.{Entry}
use Rattle.cell_types.specs.Entries.{actor_of}
use Rattle.operator_desk.specs.declared.action.Action.{Action}
use Rattle.operator_desk.specs.declared.action.Action.TheVariants as action
use Rattle.operator_desk.specs.declared.line.Line.{Line}
use Rattle.operator_desk.specs.Next.{entry_of, holds, action_of, action_now, if_allowed, next_of, left_after}
use Rattle.cell_rules.specs.History.{History}
use Rattle.cell_rules.specs.Legal.{allowed, first_of}
use Rattle.cell_rules.specs.declared.limits.BookLimits.{BookLimits}
use Rattle.cell_rules.specs.declared.refusal.Refusal.{Refusal}
use Rattle.std.specs.Option.{option_and_then}
use Rattle.cell_ports.specs.declared.port.Act.{Act}
use Rattle.cell_ports.specs.Logs.{ActLog, after_hand}
use Rattle.cell_turns.specs.Acts.{act_of, Did}
use Rattle.cell_turns.proofs.Acts.{did_push}
use Rattle.cell_workers.specs.declared.hall.Ended.{Ended}
use Rattle.cell_workers.specs.declared.hall.Ended.TheVariants.{Told, Memory, PortLost}
use Rattle.cell_workers.specs.Operating.{DidHands, FailedHands, WastedHand, HandsEnded, IsDue, Follows, Followed}
use Rattle.cell_workers.specs.Operating.{RefusedAs, left_by}

-- what the script says is his
pub his_action : (a : Action) (e : Entry) → e ≡ entry_of a → actor_of e ≡ actor.Operator
his_action (action.Stop m) e is = ap actor_of is
his_action (action.Clear s k) e is = ap actor_of is
his_action (action.Repair m) e is = ap actor_of is
his_action (action.Expect k) e is = ap actor_of is

-- nothing was done for no entries
pub did_nothing : (now : ActLog) → DidHands now now []
did_nothing now = record { acts = sym (append-nil now.acts); failures = refl }

-- the acts of one more entry
did_one : (before now after : ActLog) (es es' : List Entry) (e : Entry)
    → after.acts ≡ now.acts ++ option_to_list (act_of e) → after.failures ≡ now.failures → es' ≡ es ++ e ∷ []
    → DidHands before now es → DidHands before after es'
did_one before now after es es' e acts failures list d =
    let pushed : Did before after es' = did_push before now after es es' e acts list (record { acts = d.acts }) in
    record { acts = pushed.acts; failures = failures ∙ d.failures }

-- an entry that wants no act was booked
pub did_still : (before now : ActLog) (es es' : List Entry) (e : Entry) → is_some (act_of e) ≡ false
    → es' ≡ es ++ e ∷ [] → DidHands before now es → DidHands before now es'
did_still before now es es' e none list d = did_one before now now es es' e (go (act_of e) none) refl list d
  where
    go : (o : Option Act) → is_some o ≡ false → now.acts ≡ now.acts ++ option_to_list o
    go None h = sym (append-nil now.acts)
    go (Some a) h = cc

-- the act of an entry was done
acts_done : (now : ActLog) (o : Option Act) → (after_hand now o true).acts ≡ now.acts ++ option_to_list o
acts_done now None = sym (append-nil now.acts)
acts_done now (Some a) = refl

none_failed : (now : ActLog) (o : Option Act) → (after_hand now o true).failures ≡ now.failures
none_failed now None = refl
none_failed now (Some a) = omega arith

-- one act was done, and its entry was booked
pub did_then : (before now after : ActLog) (es es' : List Entry) (e : Entry) → after ≡ after_hand now (act_of e) true
    → es' ≡ es ++ e ∷ [] → DidHands before now es → DidHands before after es'
did_then before now after es es' e is list d =
    did_one before now after es es' e (ap (λ (l : ActLog). l.acts) is ∙ acts_done now (act_of e))
    (ap (λ (l : ActLog). l.failures) is ∙ none_failed now (act_of e)) list d

-- the act of an entry that was due failed
pub act_failed : (l : BookLimits) (lines : List Line) (now after : ActLog) (e : Entry) → is_some (act_of e) ≡ true
    → after ≡ after_hand now (act_of e) false → IsDue l lines e → HandsEnded l lines now after [] PortLost
act_failed l lines now after e wanted is due = inr (inl (go (act_of e) wanted is, refl))
  where
    go : (o : Option Act) → is_some o ≡ true → after ≡ after_hand now o false → FailedHands l lines now after []
    go None some is = cc
    go (Some a) some is = record {
      entry = e;
      due = due;
      wanted = wanted;
      acts =
          ap (λ (log : ActLog). log.acts) is;
      failures = ap (λ (log : ActLog). log.failures) is;
    }

-- the act of an entry that was due was done, and its booking was refused
pub act_wasted : (l : BookLimits) (lines : List Line) (now after : ActLog) (e : Entry) (ended : Ended)
    → is_some (act_of e) ≡ true → RefusedAs l e ended → after ≡ after_hand now (act_of e) true → IsDue l lines e
    → HandsEnded l lines now after [] ended
act_wasted l lines now after e ended wanted refused is due = inr (inr (go (act_of e) refl wanted is))
  where
    go : (o : Option Act) → act_of e ≡ o → is_some o ≡ true → after ≡ after_hand now o true
        → WastedHand l lines now after [] ended
    go None same wanted is = cc
    go (Some a) same wanted is =
        record {
          entry = e;
          due = due;
          act = a;
          wanted = same;
          acts = ap (λ (log : ActLog). log.acts) is
              ∙ ap (λ (acts : List Act). acts ++ a ∷ []) (sym (append-nil now.acts));
          failures = ap (λ (log : ActLog). log.failures) is ∙ omega arith;
          refused = refused;
        }

-- nothing was done, and he was told to end or refused memory
pub none_done : (l : BookLimits) (lines : List Line) (now : ActLog) (ended : Ended) → (ended ≡ Told) ⊎ (ended ≡ Memory)
    → HandsEnded l lines now now [] ended
none_done l lines now ended why = inl (did_nothing now, why)

-- what was done before, and then this end
pub hands_ended : (l : BookLimits) (lines left : List Line) (before now after : ActLog) (es es' : List Entry)
    (ended : Ended) → HandsEnded l left now after [] ended → es' ≡ es → left ≡ left_by lines es → DidHands before now es
    → HandsEnded l lines before after es' ended
hands_ended l lines left before now after es es' ended (inl (d, why)) list lines_left was =
    inl (rw list (record { acts = d.acts ∙ append-nil now.acts ∙ was.acts; failures = d.failures ∙ was.failures }), why)
hands_ended l lines left before now after es es' ended (inr (inl (f, lost))) list lines_left was =
    inr (inl (
      rw list (record {
        entry = f.entry;
        due = rw (sym lines_left) f.due;
        wanted = f.wanted;
        acts = f.acts
            ∙ append-nil now.acts ∙ was.acts;
        failures = f.failures ∙ ap (λ n. n + 1) was.failures;
      }),
      lost,
    ))
hands_ended l lines left before now after es es' ended (inr (inr w)) list lines_left was =
    inr (inr (rw list (record {
      entry = w.entry;
      due = rw (sym lines_left) w.due;
      act = w.act;
      wanted = w.wanted;
      acts = w.acts ∙ ap (λ (acts : List Act). acts ++ w.act ∷ []) (append-nil now.acts ∙ was.acts);
      failures = w.failures ∙ was.failures;
      refused = w.refused;
    })))

-- no entries are those of no lines done
pub follows_start : (l : BookLimits) (lines : List Line) (es : List Entry) → es ≡ [] → Followed l lines es lines
follows_start l lines es none = rw none (record { follows = tt; left = refl })

-- one more entry, which was due with the lines that were left, and its line is done
follows_push : (l : BookLimits) (lines : List Line) (es : List Entry) (e : Entry) → Follows l lines es
    → IsDue l (left_by lines es) e → Follows l lines (es ++ e ∷ [])
follows_push l lines [] e so_far due = (due, tt)
follows_push l lines (x ∷ es) e (first, rest) due = (first, follows_push l (left_after lines) es e rest due)

-- each entry takes one line off, whichever entry it is
left_push : (lines : List Line) (es : List Entry) (e : Entry)
    → left_by lines (es ++ e ∷ []) ≡ left_after (left_by lines es)
left_push lines [] e = refl
left_push lines (x ∷ es) e = left_push (left_after lines) es e

pub follows_more : (l : BookLimits) (lines left left' : List Line) (es es' : List Entry) (e : Entry)
    → es' ≡ es ++ e ∷ [] → left' ≡ left_after left → IsDue l left e → Followed l lines es left
    → Followed l lines es' left'
follows_more l lines left left' es es' e list done due f =
    rw list (record {
      follows = follows_push l lines es e f.follows (subst (λ (x : List Line). IsDue l x e) f.left due);
      left = done ∙ ap left_after f.left ∙ sym (left_push lines es e);
    })

-- no more entries, and the same lines left
pub follows_same : (l : BookLimits) (lines left left' : List Line) (es es' : List Entry) → es' ≡ es → left' ≡ left
    → Followed l lines es left → Followed l lines es' left'
follows_same l lines left left' es es' list same f = rw (list, same) f

-- an action is done only where its entry is allowed
chosen_allowed : (h : History) (x a : Action) (b : Bool) → allowed h.limits h.entries (entry_of x) ≡ b
    → (if b then Some x else None) ≡ Some a → allowed h.limits h.entries (entry_of a) ≡ true
chosen_allowed h x a true is some =
    let same : x ≡ a = cc in
    subst (λ (y : Action). allowed h.limits h.entries (entry_of y) ≡ true) same is
chosen_allowed h x a false is some = cc

-- what the script says next is allowed
pub next_allowed : (lines : List Line) (h : History) (a : Action) → next_of lines h ≡ Some a
    → allowed h.limits h.entries (entry_of a) ≡ true
unfolding action_now
next_allowed [] h a is = cc
next_allowed (line ∷ rest) h a is = go (holds h.entries line.when) (action_of h.entries line.task) is
  where
    go : (b : Bool) (o : Option Action) → (if b then option_and_then (if_allowed h) o else None) ≡ Some a
        → allowed h.limits h.entries (entry_of a) ≡ true
    go false o is = cc
    go true None is = cc
    go true (Some x) is = chosen_allowed h x a (allowed h.limits h.entries (entry_of x)) refl is

-- so its booking isn't refused
pub never_refused : (lines : List Line) (h h' : History) (a : Action) (e : Entry) → h' ≡ h → next_of lines h' ≡ Some a
    → e ≡ entry_of a → is_some (first_of h.limits h.entries e) ≡ true → ⊥
never_refused lines h h' a e same next is refused =
    go (first_of h.limits h.entries e) refused (subst (λ (x : Entry). is_none (first_of h.limits h.entries x) ≡ true)
    (sym is) (next_allowed lines h a (subst (λ (k : History). next_of lines k ≡ Some a) same next)))
  where
    go : (o : Option Refusal) → is_some o ≡ true → is_none o ≡ true → ⊥
    go None some none = cc
    go (Some r) some none = cc
