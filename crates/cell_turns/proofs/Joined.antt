-- Schedules, one after another
use Rattle.std.proofs.Common.{ℕ, ◌+◌, List, [], ◌∷◌, ◌++◌, ap, subst, ◌∙◌, append_assoc, append-nil, add-zero}
use Rattle.std.proofs.Common.{add_assoc}
use Rattle.cell_rules.specs.declared.limits.BookLimits.{BookLimits}
use Rattle.cell_ports.specs.declared.plan.Plan.{Plan}
use Rattle.cell_turns.specs.declared.schedule.Step.{Step}
use Rattle.cell_turns.specs.declared.schedule.Step.TheVariants.{Turn, Hand}
use Rattle.cell_turns.specs.declared.six.Six.{Six}
use Rattle.cell_turns.specs.declared.watch.Watch.{Watch}
use Rattle.cell_turns.specs.Schedules.{Now, now, Leads, Led}
use Rattle.cell_turns.specs.Schedules.Leads.{stays, turns, refuses, hands, spares, fails}
use Rattle.cell_turns.specs.Joined.{LeadsJoin, ScheduledJoin}

-- a schedule grows at its end, so the brackets have to move
further : (l : BookLimits) (p : Plan) (s t : Now) (xs ys : List Step) (x : Step) (r f : ℕ)
    → Leads l p s ((xs ++ ys) ++ x ∷ []) r f t → Leads l p s (xs ++ (ys ++ x ∷ [])) r f t
further l p s t xs ys x r f h = subst (λ (zs : List Step). Leads l p s zs r f t) (append_assoc xs ys (x ∷ [])) h

-- the steps of the second schedule go on the end of the first, one by one
pub leads_join : LeadsJoin
leads_join l p s t _ xs _ r _ f _ a stays = rw (append-nil xs, add-zero r, add-zero f) a
leads_join l p s t u xs _ r r' f f' a (turns {t = v} {steps = ys} m x b d) =
    further l p s u xs ys (Turn m x) (r + r') (f + f') (turns m x (leads_join l p s t v xs ys r r' f f' a b) d)
leads_join l p s t u xs _ r _ f f' a (refuses {steps = ys} {refused = r'} m x why b d) =
    further l p s u xs ys (Turn m x) (r + (r' + 1)) (f + f')
    (rw (← add_assoc r r' 1) (refuses m x why (leads_join l p s t u xs ys r r' f f' a b) d))
leads_join l p s t u xs _ r r' f f' a (hands {t = v} {steps = ys} e b d) =
    further l p s u xs ys (Hand e) (r + r') (f + f') (hands e (leads_join l p s t v xs ys r r' f f' a b) d)
leads_join l p s t u xs _ r r' f f' a (spares {steps = ys} e b d) =
    further l p s u xs ys (Hand e) (r + r') (f + f') (spares e (leads_join l p s t u xs ys r r' f f' a b) d)
leads_join l p s t u xs _ r r' f _ a (fails {steps = ys} {failed = f'} e b d c) =
    further l p s u xs ys (Hand e) (r + r') (f + (f' + 1))
    (rw (← add_assoc f f' 1) (fails e (leads_join l p s t u xs ys r r' f f' a b) d c))

-- the second schedule is led from the minds that the first one ended with
pub led_join : (l : BookLimits) (p : Plan) (s : Now) (xs ys : List Step) (r r' f f' : ℕ) (J J' : List _)
    (ws ws' : Six Watch) (one : Led l p s xs r f J ws)
    → Led l p (now J one.minds) ys r' f' J' ws' → Led l p s (xs ++ ys) (r + r') (f + f') J' ws'
led_join l p s xs ys r r' f f' J J' ws ws' one two = record {
  minds = two.minds;
  leads = leads_join l p s (now J one.minds) (now J' two.minds) xs ys r r' f f' one.leads two.leads;
  fits = two.fits;
}

pub scheduled_join : ScheduledJoin
scheduled_join p xs ys r r' a b c ws ws' ws'' told told' acts acts' acts'' still one two = record {
  failed = one.failed + two.failed;
  limits = two.limits ∙ one.limits;
  led = λ minds fits.
      let first = one.led minds fits in
      led_join a.limits p (now a.entries minds) xs ys r r' one.failed two.failed b.entries c.entries ws' ws'' first
      (subst (λ (l : BookLimits). Led l p (now b.entries first.minds) ys r' two.failed c.entries ws'') one.limits
      (two.led first.minds first.fits));
  failures = λ t. two.failures t ∙ ap (λ k. k + two.failed) (one.failures (still t))
      ∙ add_assoc acts.failures one.failed two.failed;
}
