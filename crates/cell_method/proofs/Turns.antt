-- What the operator's turn does
use Rattle.std.proofs.Common.{◌≡◌, ◌≢◌, ◌∙◌, ◌⊎◌, ◌&&◌, ℕ, List, [], ◌∷◌, ◌++◌, Option, Some, None, Bool, true, false}
use Rattle.std.proofs.Common.{inl, inr, ap, sym, refl, subst, is_none, if◌then◌else◌}
use Rattle.std.specs.Prelude.{Result, Ok, Err, IfErr, IsErrAnd}
use Rattle.std.specs.Option.{option_and_then}
use Rattle.std.specs.Io.KnownBytes.{Appends}
use Rattle.std.proofs.KnownBytes.{Appends-trans}
use Rattle.cell_types.specs.declared.words.Entry.{Entry}
use Rattle.cell_rules.specs.declared.limits.BookLimits.{BookLimits}
use Rattle.cell_rules.specs.declared.refusal.Refusal.{Refusal}
use Rattle.cell_rules.specs.declared.refusal.Refusal.TheVariants as refusal
use Rattle.cell_rules.specs.History.{History}
use Rattle.cell_rules.specs.Legal.{allowed, first_of}
use Rattle.cell_rules.specs.Views.{is_quarantined}
use Rattle.cell_turns.specs.Acts.{act_of}
use Rattle.cell_ports.specs.Logs.{ActLog, after_hand}
use Rattle.cell_ports.specs.declared.port.Act.{Act}
use Rattle.operator_desk.specs.declared.action.Action.{Action}
use Rattle.operator_desk.specs.declared.action.Action.TheVariants as action
use Rattle.operator_desk.specs.declared.line.Line.{Line}
use Rattle.operator_desk.specs.Next.{action_now, action_of, entry_of, holds, if_allowed, left_after, next_of}
use Rattle.cell_method.specs.Rounds.{FitsDesk, HandsFit, OperatorBroke, Operates, Stand, after_action, after_deed}
use Rattle.cell_method.specs.Rounds.{after_operator, can_fail, entry_line, history}
use Rattle.cell_method.specs.declared.error.DriveError.{DriveError}
use Rattle.cell_method.specs.declared.error.DriveError.TheVariants as error

-- the turn led to this stand
operates-as : {O : Type 0} (tells : O → Bool) (acts : O → ActLog) (l : BookLimits) (failed : Bool) (s t : Stand)
    (K : List Entry) (script : List Line) (lost : Bool) (hands : O) (w x : Option (List ℕ))
    → after_operator l s.lost failed s ≡ t → K ≡ t.journal → script ≡ t.lines → lost ≡ t.lost
    → HandsFit tells acts hands t
    → ((first : Option (List ℕ)) → Appends first w s.text → Appends first x t.text)
    → Operates tells acts l failed s K script lost hands w x
operates-as tells acts l failed s t K script lost hands w x is journal lines was hand text = record {
  journal = journal ∙ ap (λ u. u.journal) (sym is);
  lines = lines ∙ ap (λ u. u.lines) (sym is);
  lost = was ∙ ap (λ u. u.lost) (sym is);
  hands = λ told. hand told ∙ ap (λ u. u.hands) (sym is);
  text = λ z h. subst (Appends z x) (ap (λ u. u.text) (sym is)) (text z h);
}

-- an error of this kind was answered
pub err-of : {A : Type 0} (r : Result A DriveError) (e : DriveError) (Q : DriveError → Type 0)
    → IsErrAnd r (λ x. x ≡ e) → Q e → IfErr r Q
err-of (Ok x) e Q is h = absurd is
err-of (Err x) e Q is h = subst Q (sym is) h

-- what he does next, by the script and the journal that a stand has
next-here : {O : Type 0} (tells : O → Bool) (acts : O → ActLog) (l : BookLimits) (s : Stand) (J : List Entry)
    (script : List Line) (lost : Bool) (hands : O) (n : ℕ) (o : Option Action)
    → s.journal ≡ J → FitsDesk tells acts script lost hands n s → next_of script (history l J) ≡ o
    → next_of s.lines (history l s.journal) ≡ o
next-here tells acts l s J script lost hands n o journal desk next =
    ap (λ X. next_of s.lines (history l X)) journal
    ∙ ap (λ ls. next_of ls (history l J)) (sym desk.lines) ∙ next

-- his hands work, so his turn is that of this action, if there is one
action-here : {O : Type 0} (tells : O → Bool) (acts : O → ActLog) (l : BookLimits) (failed : Bool) (s : Stand)
    (J : List Entry) (script : List Line) (lost : Bool) (hands : O) (n : ℕ) (o : Option Action)
    → s.journal ≡ J → FitsDesk tells acts script lost hands n s → lost ≡ false → next_of script (history l J) ≡ o
    → after_operator l s.lost failed s ≡ after_action o failed s
action-here tells acts l failed s J script lost hands n o journal desk off next =
    ap (λ b. after_operator l b failed s) (sym desk.lost ∙ off)
    ∙ ap (λ x. after_action x failed s) (next-here tells acts l s J script lost hands n o journal desk next)

-- his hands, that tell, did the act that the entry wants, or failed
hand-fits : {O : Type 0} (tells : O → Bool) (acts : O → ActLog) (s : Stand) (hands hands' : O) (o : Option Act)
    (done : Bool)
    → HandsFit tells acts hands s → (tells hands' ≡ true → tells hands ≡ true)
    → (tells hands' ≡ true → acts hands' ≡ after_hand (acts hands) o done)
    → tells hands' ≡ true → acts hands' ≡ after_hand s.hands o done
hand-fits tells acts s hands hands' o done fits still told t =
    told t ∙ ap (λ g. after_hand g o done) (fits (still t))

not-failed : (b : Bool) → (b && false) ≡ false
not-failed true = refl
not-failed false = refl

-- his action was done and booked
pub operates-done : {O : Type 0} (tells : O → Bool) (acts : O → ActLog) (l : BookLimits) (s : Stand) (J K : List Entry)
    (script left : List Line) (lost : Bool) (hands hands' : O) (n : ℕ) (w x : Option (List ℕ)) (a : Action)
    → s.journal ≡ J → FitsDesk tells acts script lost hands n s → lost ≡ false
    → next_of script (history l J) ≡ Some a → K ≡ J ++ entry_of a ∷ [] → left ≡ left_after script
    → (tells hands' ≡ true → tells hands ≡ true)
    → (tells hands' ≡ true → acts hands' ≡ after_hand (acts hands) (act_of (entry_of a)) true)
    → Appends w x (entry_line (entry_of a))
    → Operates tells acts l false s K left lost hands' w x
operates-done tells acts l s J K script left lost hands hands' n w x a journal desk off next grown rest still told
    written =
    operates-as tells acts l false s (after_deed a false s) K left lost hands' w x
    (action-here tells acts l false s J script lost hands n (Some a) journal desk off next
    ∙ ap (λ b. after_deed a b s) (not-failed (can_fail a)))
    (grown ∙ ap (λ X. X ++ entry_of a ∷ []) (sym journal)) (rest ∙ ap left_after desk.lines) desk.lost
    (hand-fits tells acts s hands hands' (act_of (entry_of a)) true desk.hands still told)
    (λ z h. Appends-trans z w x s.text (entry_line (entry_of a)) h written)

memory-or-not : (why : Refusal) → (why ≡ refusal.OutOfMemory) ⊎ (why ≢ refusal.OutOfMemory)
memory-or-not refusal.OutOfMemory = inl refl
memory-or-not _ = inr (λ e. cc)

none-is : (o : Option Refusal) → is_none o ≡ true → o ≡ None
none-is None h = refl
none-is (Some why) h = cc

-- an action is chosen only where its entry is allowed
chosen-allowed : (h : History) (x a : Action) (b : Bool) → allowed h.limits h.entries (entry_of x) ≡ b
    → (if b then Some x else None) ≡ Some a → first_of h.limits h.entries (entry_of a) ≡ None
chosen-allowed h x a true is some =
    let same : x ≡ a = cc in
    none-is (first_of h.limits h.entries (entry_of a)) (subst (λ (y : Action). allowed h.limits h.entries (entry_of y)
    ≡ true) same is)
chosen-allowed h x a false is some = cc

-- what the script says next is allowed
next-allowed : (lines : List Line) (h : History) (a : Action) → next_of lines h ≡ Some a
    → first_of h.limits h.entries (entry_of a) ≡ None
unfolding action_now
next-allowed [] h a is = cc
next-allowed (line ∷ rest) h a is = go (holds h.entries line.when) (action_of h.entries line.task) is
  where
    go : (b : Bool) (o : Option Action) → (if b then option_and_then (if_allowed h) o else None) ≡ Some a
        → first_of h.limits h.entries (entry_of a) ≡ None
    go false o is = cc
    go true None is = cc
    go true (Some x) is = chosen-allowed h x a (allowed h.limits h.entries (entry_of x)) refl is

-- memory was refused to the booking of his action, which is that he took a plate out
pub broke-unbooked : {O : Type 0} (tells : O → Bool) (acts : O → ActLog) (l : BookLimits) (s : Stand) (J K : List Entry)
    (script : List Line) (lost : Bool) (hands hands' : O) (n : ℕ) (a : Action) (why : Refusal)
    → s.journal ≡ J → FitsDesk tells acts script lost hands n s → lost ≡ false
    → next_of script (history l J) ≡ Some a
    → (why ≢ refusal.OutOfMemory → first_of l J (entry_of a) ≡ Some why)
    → (why ≡ refusal.OutOfMemory → is_quarantined (entry_of a) ≡ true) → K ≡ J
    → (tells hands' ≡ true → tells hands ≡ true)
    → (tells hands' ≡ true → acts hands' ≡ after_hand (acts hands) (act_of (entry_of a)) true)
    → OperatorBroke tells acts l error.OutOfMemory s K hands'
broke-unbooked tells acts l s J K script lost hands hands' n a why journal desk off next other memory same still told =
    go a next here (his (memory-or-not why)) (hand-fits tells acts s hands hands' (act_of (entry_of a)) true desk.hands
    still told)
  where
    here : next_of s.lines (history l s.journal) ≡ Some a
    here = next-here tells acts l s J script lost hands n (Some a) journal desk next

    his : (why ≡ refusal.OutOfMemory) ⊎ (why ≢ refusal.OutOfMemory) → is_quarantined (entry_of a) ≡ true
    his (inl is) = memory is
    his (inr isnt) = absurd (differ (sym (other isnt) ∙ next-allowed script (history l J) a next))
      where
        differ : Some why ≡ None → ⊥
        differ q = cc

    go : (x : Action) → next_of script (history l J) ≡ Some x → next_of s.lines (history l s.journal) ≡ Some x
        → is_quarantined (entry_of x) ≡ true
        → (tells hands' ≡ true → acts hands' ≡ after_hand s.hands (act_of (entry_of x)) true)
        → OperatorBroke tells acts l error.OutOfMemory s K hands'
    go (action.Stop m) was now taken did = cc
    go (action.Repair m) was now taken did = cc
    go (action.Expect k) was now taken did = cc
    go (action.Clear station k) was now taken did = inl (
      same ∙ sym journal,
      record {
        works = sym desk.lost ∙ off;
        plate = k;
        station = station;
        next = now;
        taken = did;
      },
    )

-- his entry was booked, and its record wasn't written
pub broke-told : {O : Type 0} (tells : O → Bool) (acts : O → ActLog) (l : BookLimits) (e : DriveError) (s : Stand)
    (J K : List Entry) (script : List Line) (lost : Bool) (hands hands' : O) (n : ℕ) (a : Action)
    → e ≡ error.WriteFault → s.journal ≡ J → FitsDesk tells acts script lost hands n s → lost ≡ false
    → next_of script (history l J) ≡ Some a → K ≡ J ++ entry_of a ∷ []
    → (tells hands' ≡ true → tells hands ≡ true)
    → (tells hands' ≡ true → acts hands' ≡ after_hand (acts hands) (act_of (entry_of a)) true)
    → OperatorBroke tells acts l e s K hands'
broke-told tells acts l e s J K script lost hands hands' n a fault journal desk off next grown still told =
    let is = action-here tells acts l false s J script lost hands n (Some a) journal desk off next
    ∙ ap (λ b. after_deed a b s) (not-failed (can_fail a)) in
    let did = hand-fits tells acts s hands hands' (act_of (entry_of a)) true desk.hands still told in
    subst (λ x. OperatorBroke tells acts l x s K hands') (sym fault) (inr (
      grown ∙ ap (λ X. X ++ entry_of a ∷ []) (sym journal) ∙ ap (λ u. u.journal) (sym is),
      λ t. did t ∙ ap (λ u. u.hands) (sym is),
    ))
