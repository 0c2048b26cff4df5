-- In a run of the simulated cell without an operator only machines with a fault that lasts are declared failed
use Rattle.std.proofs.Common.{◌≡◌, ℕ, ◌++◌, ◌∷◌, [], true, false, ◌||◌, Option, Some, None, List, IfSome, refl, sym}
use Rattle.std.proofs.Common.{◌∙◌, subst, append-nil}
use Rattle.std.specs.Prelude.{option_to_list}
use Rattle.std.specs.List.{list_any}
use Rattle.std.proofs.lemmas.List.Folds.{list_any-append}
use Rattle.cell_types.specs.declared.words.Entry.{Entry}
use Rattle.cell_types.specs.declared.words.Entry.TheVariants.{Declared, Quarantined, Repaired, StopAsked}
use Rattle.cell_types.specs.declared.words.Machine.{Machine}
use Rattle.cell_types.specs.declared.words.Machine.TheVariants as machine
use Rattle.cell_types.specs.Entries.{machine_of_entry}
use Rattle.cell_rules.specs.Legal.{first_of, legal}
use Rattle.cell_rules.specs.declared.limits.BookLimits.{BookLimits}
use Rattle.cell_measures.specs.declared.durations.Durations.{Durations}
use Rattle.cell_ports.specs.declared.plan.Plan.{Plan}
use Rattle.cell_turns.specs.Six.{at}
use Rattle.cell_turns.specs.Turns.{IsDecided}
use Rattle.operator_desk.specs.Next.{next_of}
use Rattle.operator_desk.specs.declared.line.Line.{Line}
use Rattle.cell_plant.specs.declared.keeper.Unkept.{Unkept}
use Rattle.cell_workers.specs.declared.ends.End.{End}
use Rattle.cell_rounds.specs.Moves.{Leads, Terms, terms_of}
use Rattle.cell_rounds.specs.Moves.Leads.{goes, stays}
use Rattle.cell_rounds.specs.Runs.{Halts}
use Rattle.cell_rounds.specs.Runs.Halts.{breaks, fills, lacks, rests, tires}
use Rattle.cell_rounds.specs.Stands.{Answering, Between, Closing, Noted, Noting, Over, Point, Serving, Stand, Turning}
use Rattle.cell_rounds.specs.Stands.{Wanted, start}
use Rattle.cell_rounds.specs.declared.progress.Halt.{Halt}
use Rattle.cell_sim.specs.Readings.{shown}
use Rattle.cell_sim.specs.declared.fault.PlannedFault.{PlannedFault}
use Rattle.sim_plant.specs.Answers.{AnswersSo, SimCell}
use Rattle.cell_runs.specs.Cells.{AllKept, Ran}
use Rattle.cell_world.specs.FailCell.{AllLast, has_fault}
use Rattle.cell_world.specs.FailRuns.{IsCalmBeside, disturbs_other, opened_with}
use Rattle.cell_world.specs.OneRun.{Moment, moment_of, next_at, served}
use Rattle.cell_world.specs.Running.{Allows, opened}
use Rattle.cell_world.proofs.FailRuns.{run_with_failing}
use Rattle.cell_world.proofs.Long.{turn_long}
use Rattle.cell_world.proofs.Moves.{Holding, HoldsOn, come}
use Rattle.cell_world.proofs.OneRun.{IsOrdinary, MayGoOn, decided_is, is_ordinary, move_follows, starts_ordinary}
use Rattle.cell_world.proofs.Owned.{decided_owned}
use Rattle.cell_world.proofs.Rounds.{round_spares}
use Rattle.cell_world.proofs.Running.{Undisturbed, holds_on, none_next}
use Rattle.cell_world.proofs.Whole.{cell_opening}
use Rattle.cell_calm.specs.Calm.{disturbs_but, fails_only}
use Rattle.cell_calm.specs.Healthy.{NoneDeclared}
use Rattle.cell_calm.proofs.Plain.{neither, tame_more}
use Rattle.cell_calm.proofs.Possible.{tame_turn}
use Rattle.cell_calm.proofs.Tame.{Tame, tame_start}

-- WHAT A MACHINE BOOKS

-- an entry of a machine that declares no other one failed
owned_tame : (faults : List PlannedFault) (x : Entry) (m : Machine) → machine_of_entry x ≡ Some m
    → disturbs_other faults x ≡ false → disturbs_but (has_fault faults) x ≡ false
owned_tame faults (Declared n why) m own h = h
owned_tame faults (StopAsked n) m own h = cc
owned_tame faults (Quarantined k src) m own h = cc
owned_tame faults (Repaired n) m own h = cc
owned_tame faults x m own h = refl

last_calm : (faults : List PlannedFault) (J : List Entry) (x : Entry) → IsCalmBeside faults (J ++ x ∷ [])
    → disturbs_other faults x ≡ false
last_calm faults J x h =
    let both : list_any (disturbs_other faults) (J ++ x ∷ [])
    ≡ (list_any (disturbs_other faults) J || (disturbs_other faults x || false)) =
    list_any-append (disturbs_other faults) J (x ∷ []) in
    (neither (disturbs_other faults x) false
    (neither (list_any (disturbs_other faults) J) (disturbs_other faults x || false) (sym both ∙ h)).1).0

tame_then : (faults : List PlannedFault) (J : List Entry) (m : Machine) (e : Option Entry)
    → IfSome e (λ x. machine_of_entry x ≡ Some m)
    → IsCalmBeside faults (J ++ option_to_list e) → fails_only (has_fault faults) J ≡ true
    → fails_only (has_fault faults) (J ++ option_to_list e) ≡ true
tame_then faults J m None own calm h = rw append-nil h
tame_then faults J m (Some x) own calm h =
    tame_more (has_fault faults) J x h (owned_tame faults x m own (last_calm faults J x calm))

-- THE MOMENTS

-- a journal in which none was declared failed but those with these faults
abbrev pub IsTame : List PlannedFault → BookLimits → ℕ → List Entry → Type 0
IsTame faults l plan J = (fails_only (has_fault faults) J ≡ true) × Tame (has_fault faults) l plan J

-- no line of a script is left either
abbrev pub IsTameAt : Terms → List PlannedFault → Moment → Type 0
IsTameAt T faults x = (x.desk.lines ≡ []) × IsTame faults T.limits T.plan.plates x.now.journal

turn_tame : (T : Terms) (faults : List PlannedFault) (x : Moment) (m : Machine) (e : Option Entry)
    → legal T.limits x.now.journal ≡ true
    → IsDecided T.limits x.now.journal m T.plan (at x.now.minds m) (shown x.world m) e
    → IfSome e (λ y. first_of T.limits x.now.journal y ≡ None)
    → IsCalmBeside faults (x.now.journal ++ option_to_list e) → IsTame faults T.limits T.plan.plates x.now.journal
    → IsTame faults T.limits T.plan.plates (x.now.journal ++ option_to_list e)
turn_tame T faults x m e lawful decides allowed calm h =
    let J = x.now.journal in let mind = at x.now.minds m in let r = shown x.world m in
    let own = decided_owned T.limits J m T.plan mind r e lawful decides in
    let only = tame_then faults J m e own calm h.0 in
    (only, tame_turn (has_fault faults) T.limits T.plan J m mind r e decides allowed only (λ g. h.1))

tame_next : (T : Terms) (faults : List PlannedFault) (x : Moment) (point : Point)
    → is_ordinary point ≡ true → legal T.limits x.now.journal ≡ true → MayGoOn T point x
    → IsCalmBeside faults (next_at T faults point x).now.journal → IsTameAt T faults x
    → IsTameAt T faults (next_at T faults point x)
tame_next T faults x Between o lawful may calm h = h
tame_next T faults x (Noting n) o lawful may calm h = h
tame_next T faults x (Turning []) o lawful may calm h =
    subst (λ (ls : List Line).
    IsTameAt T faults (served x (next_of ls (record { limits = T.limits; entries = x.now.journal })))) (sym h.0) h
tame_next T faults x (Turning (m ∷ rest)) o lawful (e, decides, allowed) calm h =
    let is = decided_is T.limits T.plan m (shown x.world m) x.now e decides in (
      h.0,
      subst (λ (o : Option Entry). IsTame faults T.limits T.plan.plates (x.now.journal ++ option_to_list o)) is
          (turn_tame T faults x m e lawful decides allowed
          (subst (λ (o : Option Entry). IsCalmBeside faults (x.now.journal ++ option_to_list o)) (sym is) calm) h.1),
    )
tame_next T faults x (Serving n) o lawful may calm h = h
tame_next T faults x Closing o lawful may calm h = h
tame_next T faults x (Noted n task) o lawful may calm h = cc o
tame_next T faults x (Wanted n wish) o lawful may calm h = cc o
tame_next T faults x (Answering n reply) o lawful may calm h = cc o
tame_next T faults x (Over halt) o lawful may calm h = cc o

-- THE RUN

module _ (T : Terms) (ds : Durations) (faults : List PlannedFault) (k : Unkept) (last : AllLast faults)
    (fair : Allows T.plan ds) where
  abbrev first : Stand SimCell Unkept
  first = start (opened_with T.plan ds faults) k [] [] None

  pub stands_tame : (t : Stand SimCell Unkept) → Leads AnswersSo AllKept T first t
      → IsOrdinary faults t × IsTameAt T faults (moment_of t)
  stands_tame _ stays = (
    starts_ordinary (opened_with T.plan ds faults) k [] [],
    (refl, (refl, tame_start (has_fault faults) T.limits T.plan.plates)),
  )
  stands_tame u (goes {t = t} before move) =
      let was = stands_tame t before in
      let held = run_with_failing T ds faults t last fair (k, before) in
      let next_held = run_with_failing T ds faults u last fair (k, goes before move) in
      let f = move_follows T faults t u was.0 move in (
        f.ordinary,
        subst (IsTameAt T faults) (sym f.is)
            (tame_next T faults (moment_of t) t.place.point was.0.point held.cell.legal f.may
            (subst (λ (x : Moment). IsCalmBeside faults x.now.journal) f.is next_held.calm) was.1),
      )

-- THE END

-- what holds of the journal at each stand holds of the one at the end
ends_hold : (P : List Entry → Type 0) (T : Terms) (s : Stand SimCell Unkept) (h : Halt) (new : SimCell) (j : Unkept)
    (J : List Entry) → ((t : Stand SimCell Unkept) → Leads AnswersSo AllKept T s t → P t.now.journal)
    → Halts AnswersSo AllKept T s h new j J → P J
ends_hold P T s h new j J c (breaks t leads here has) = subst P has.2 (c t leads)
ends_hold P T s h new j J c (lacks t leads is unbooked has) = subst P has.2 (c t leads)
ends_hold P T s h new j J c (fills t leads is away has) = subst P has.2 (c t leads)
ends_hold P T s h new j J c (rests t e leads is rest has) = subst P has.2 (c t leads)
ends_hold P T s h new j J c (tires t leads is here rounds has) = subst P has.2 (c t leads)

pub ran_tame : (l : BookLimits) (p : Plan) (ds : Durations) (faults : List PlannedFault) (new : SimCell)
    (J : List Entry) (e : End) → AllLast faults → Allows p ds
    → Ran AnswersSo l p (opened_with p ds faults) [] [] new J e → IsTame faults l p.plates J
ran_tame l p ds faults new J e last fair (h, k, j, is, halts) =
    let T = terms_of l p false in
    ends_hold (IsTame faults l p.plates) T (start (opened_with p ds faults) k [] [] None) h new j J
    (λ t leads. (stands_tame T ds faults k last fair t leads).1.1) halts

-- WHERE NO FAULT IS PLANNED

pub none_declared : NoneDeclared
none_declared l p ds new J e fair ran = (ran_tame l p ds [] new J e tt fair ran).0

-- its motions take as long as ever
abbrev Lasting : Terms → Durations → Holding
Lasting T ds ls J minds w = Undisturbed T ls J minds w × (w.durations ≡ ds)

lasting_on : (T : Terms) (ds : Durations) → HoldsOn T (Lasting T ds)
lasting_on T ds =
    let l = T.limits in let on = holds_on T in
    record {
      alike = λ ls J f g w h t. (on.alike ls J f g w h t.0, t.1);
      turn = λ ls J f w m e t decided allowed. (on.turn ls J f w m e t.0 decided allowed, turn_long w m e ∙ t.1);
      round = λ ls J f w t. (
        on.round ls J f w t.0,
        (round_spares J machine.Feed w (on.plain ls J f w t.0)).long ∙ t.1,
      );
      hand = λ ls J f w a t next allowed. absurd (none_next ls (record { limits = l; entries = J }) a t.0.0 next);
      plain = λ ls J f w t. on.plain ls J f w t.0;
      counts = λ ls J f w t. on.counts ls J f w t.0;
      reads = λ ls J f w m t. on.reads ls J f w m t.0;
    }

pub stands_long : (T : Terms) (ds : Durations) (k : Unkept) (t : Stand SimCell Unkept) → Allows T.plan ds
    → Leads AnswersSo AllKept T (start (opened T.plan ds) k [] [] None) t → t.cell.world.durations ≡ ds
stands_long T ds k t fair leads =
    (come T (Lasting T ds) (opened T.plan ds) k [] [] t (lasting_on T ds) refl
    ((refl, (cell_opening T.limits T.plan ds fair, refl)), refl) leads).holds.1
