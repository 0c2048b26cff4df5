-- What the operator did, with one entry more
use Rattle.std.proofs.Common.{◌≡◌, inl, inr, refl, true, add-zero, List, [], ◌∷◌, ◌++◌, Option, Some, None, sym, ap}
use Rattle.std.proofs.Common.{◌∙◌, append_assoc, append-nil}
use Rattle.std.specs.Prelude.{option_to_list}
use Rattle.cell_types.specs.declared.words.Entry.{Entry}
use Rattle.cell_ports.specs.declared.port.Act.{Act}
use Rattle.cell_ports.specs.Logs.{ActLog, after_hand}
use Rattle.cell_turns.specs.Acts.{act_of, hands, ActedAtMost, Did}

hands-push : (es : List Entry) (e : Entry) → hands (es ++ e ∷ []) ≡ hands es ++ option_to_list (act_of e)
hands-push [] e = append-nil (option_to_list (act_of e))
hands-push (x ∷ es) e = ap (λ l. option_to_list (act_of x) ++ l) (hands-push es e)
    ∙ sym (append_assoc (option_to_list (act_of x)) (hands es) (option_to_list (act_of e)))

pub did_push : (before now after : ActLog) (es es' : List Entry) (e : Entry)
    → after.acts ≡ now.acts ++ option_to_list (act_of e) → es' ≡ es ++ e ∷ [] → Did before now es → Did before after es'
did_push before now after es es' e is more d = record {
  acts = is ∙ ap (λ l. l ++ option_to_list (act_of e)) d.acts
      ∙ append_assoc before.acts (hands es) (option_to_list (act_of e))
      ∙ ap (λ l. before.acts ++ l) (sym (hands-push es e) ∙ ap hands (sym more));
}

pub did_start : (log : ActLog) (es : List Entry) → es ≡ [] → Did log log es
did_start log es e = rw e (record { acts = sym (append-nil log.acts) })

-- the act that an entry wants was done, and nothing booked
pub acted_once : (log log' : ActLog) (o : Option Act) → log' ≡ after_hand log o true → ActedAtMost o log log'
acted_once log log' o is = record {
  done = option_to_list o;
  most = inr refl;
  acts = ap (λ (l : ActLog). l.acts) is ∙ done o;
  failures = ap (λ (l : ActLog). l.failures) is ∙ same o;
}
  where
    done : (o : Option Act) → (after_hand log o true).acts ≡ log.acts ++ option_to_list o
    done None = sym (append-nil log.acts)
    done (Some a) = refl

    same : (o : Option Act) → (after_hand log o true).failures ≡ log.failures
    same None = refl
    same (Some a) = add-zero log.failures

-- nothing was done
pub acted_not : (log : ActLog) (o : Option Act) → ActedAtMost o log log
acted_not log o = record { done = []; most = inl refl; acts = sym (append-nil log.acts); failures = refl }
