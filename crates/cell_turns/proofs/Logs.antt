-- What a port is sent, with one entry more
use Rattle.std.proofs.Common.{◌≡◌, ℕ, ◌+◌, List, [], ◌∷◌, ◌++◌, Bool, true, false, if◌then◌else◌, Option, Some, None}
use Rattle.std.proofs.Common.{option_to_list, is_some, IfSome, subst, refl, sym, ap, ap₂, ◌∙◌, append_assoc, append-nil}
use Rattle.std.proofs.Common.{arith, cond, zero-add}
use Rattle.std.proofs.lemmas.List.Sums.{sum_by-append}
use Rattle.cell_types.specs.declared.words.Command.{Command}
use Rattle.cell_types.specs.declared.words.Entry.{Entry}
use Rattle.cell_types.specs.Entries.{command_of}
use Rattle.cell_ports.specs.Logs.{Log, after_sending}
use Rattle.cell_turns.specs.Sent.{is_command_fault, fails_before, sent_for, command_faults, one_where, Sends}

-- it takes the next entry to know that a command failed, so the new one decides on the one before it
pub sent_for-push : (failed : Bool) (es : List Entry) (e : Entry)
    → sent_for failed (es ++ e ∷ []) ≡ sent_for (is_command_fault e) es
    ++ (if failed then [] else option_to_list (command_of e))
sent_for-push failed [] e = append-nil (if failed then [] else option_to_list (command_of e))
sent_for-push failed (x ∷ es) e =
    ap₂ (λ (b : Bool) l. (if b then [] else option_to_list (command_of x)) ++ l) (before es) (sent_for-push failed es e)
    ∙ sym (append_assoc (if fails_before (is_command_fault e) es then [] else option_to_list (command_of x))
    (sent_for (is_command_fault e) es) (if failed then [] else option_to_list (command_of e)))
  where
    before : (es : List Entry) → fails_before failed (es ++ e ∷ []) ≡ fails_before (is_command_fault e) es
    before [] = refl
    before (y ∷ ys) = refl

faults-push : (es : List Entry) (e : Entry)
    → command_faults (es ++ e ∷ []) ≡ command_faults es + (if is_command_fault e then 1 else 0)
faults-push es e = sum_by-append (λ (x : Entry). cond (is_command_fault x) 1 0) es (e ∷ [])
    ∙ ap (λ k. command_faults es + k) (zero-add (cond (is_command_fault e) 1 0))

-- only the first entry says whether the command before them failed
begins_push : (was failed last : Bool) (es : List Entry) (e : Entry) → fails_before last es ≡ was
    → is_command_fault e ≡ last → fails_before failed (es ++ e ∷ []) ≡ was
begins_push was failed last [] e h is = is ∙ h
begins_push was failed last (x ∷ es) e h is = h

-- a failed command isn't among those sent, and only a command can fail
sent_after : (log : Log) (o : Option Command) (failed : Bool) → (failed ≡ true → is_some o ≡ true)
    → (after_sending log o failed).sent ≡ log.sent ++ (if failed then [] else option_to_list o)
sent_after log None false some = sym (append-nil log.sent)
sent_after log None true some = absurd (differ (some refl))
  where
    differ : false ≡ true → ⊥
    differ q = cc
sent_after log (Some c) false some = refl
sent_after log (Some c) true some = refl

failures_after : (log : Log) (o : Option Command) (failed : Bool) → (failed ≡ true → is_some o ≡ true)
    → (after_sending log o failed).failures ≡ log.failures + one_where failed
failures_after log None false some = omega arith
failures_after log None true some = absurd (differ (some refl))
  where
    differ : false ≡ true → ⊥
    differ q = cc
failures_after log (Some c) false some = refl
failures_after log (Some c) true some = refl

-- sending reads nothing
answers_after : (log : Log) (o : Option Command) (failed : Bool) → (after_sending log o failed).answers ≡ log.answers
answers_after log None failed = refl
answers_after log (Some c) failed = refl

pub unread_after : (now after : Log) (o : Option Command) (failed : Bool) → after ≡ after_sending now o failed
    → after.answers ≡ now.answers
unread_after now after o failed next = ap (λ (l : Log). l.answers) next ∙ answers_after now o failed

-- one entry more was booked, and its command was sent, or failed, if it has one
pub sends_push : (before now after : Log) (was last failed : Bool) (es : List Entry) (e : Entry)
    → is_command_fault e ≡ last → after ≡ after_sending now (command_of e) failed
    → (failed ≡ true → is_some (command_of e) ≡ true)
    → Sends before was now es last → Sends before was after (es ++ e ∷ []) failed
sends_push before now after was last failed es e is next some s =
    let more = if failed then [] else option_to_list (command_of e) in
    let grew = ap (λ (l : Log). l.failures) next ∙ failures_after now (command_of e) failed some in
    let faults = faults-push es e ∙ ap (λ b. command_faults es + one_where b) is in
    record {
      begins = begins_push was failed last es e s.begins is;
      sent = ap (λ (l : Log). l.sent) next ∙ sent_after now (command_of e) failed some ∙ ap (λ l. l ++ more) s.sent
          ∙ append_assoc before.sent (sent_for last es) more
          ∙ ap (λ l. before.sent ++ l) (ap (λ b. sent_for b es ++ more) (sym is) ∙ sym (sent_for-push failed es e));
      failures = counted after.failures now.failures before.failures (one_where was) (command_faults (es ++ e ∷ []))
          (command_faults es) (one_where last) (one_where failed) grew s.failures faults;
    }
  where
    counted : (a n b w f' f l x : ℕ) → a ≡ n + x → n + w ≡ b + (f + l) → f' ≡ f + l → a + w ≡ b + (f' + x)
    counted a n b w f' f l x p q r = omega arith

-- before a list's first entry
pub sends_start : (log : Log) (was : Bool) (es : List Entry) → es ≡ [] → Sends log was log es was
sends_start log was es e = rw e (record { begins = refl; sent = sym (append-nil log.sent); failures = omega arith })

-- a turn that booked nothing
pub sends_on : (before now after : Log) (was last failed : Bool) (es es' : List Entry) → after ≡ now → failed ≡ last
    → es' ≡ es → Sends before was now es last → Sends before was after es' failed
sends_on before now after was last failed es es' same still list s = rw (same, still, list) s

-- a turn that booked an entry, as the code has it
pub sends_booked : (before now after : Log) (was last failed flag : Bool) (es es' : List Entry) (o : Option Entry)
    (e : Entry)
    → o ≡ Some e → IfSome o (λ x. is_command_fault x ≡ last) → es' ≡ es ++ option_to_list o
    → after ≡ after_sending now (command_of e) failed → (failed ≡ true → is_some (command_of e) ≡ true) → flag ≡ failed
    → Sends before was now es last → Sends before was after es' flag
sends_booked before now after was last failed flag es es' o e is fault list next some same s =
    let first : is_command_fault e ≡ last = subst (λ (x : Option Entry). IfSome x (λ y. is_command_fault y ≡ last)) is
    fault in
    rw (same, list ∙ ap (λ (x : Option Entry). es ++ option_to_list x) is)
    (sends_push before now after was last failed es e first next some s)
