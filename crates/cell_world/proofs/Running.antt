-- The whole cell, through the moves of a run without an operator and without a fault
use Rattle.std.proofs.Common.{◌≡◌, Bool, true, false, Some, None, List, [], refl, sym, ap, ◌∙◌, subst}
use Rattle.cell_types.specs.declared.words.Entry.{Entry}
use Rattle.cell_types.specs.declared.words.Machine.{Machine}
use Rattle.cell_rules.specs.History.{History}
use Rattle.cell_rules.specs.declared.limits.BookLimits.{BookLimits}
use Rattle.cell_measures.specs.declared.durations.Durations.{Durations}
use Rattle.cell_ports.specs.declared.plan.Plan.{Plan}
use Rattle.cell_turns.specs.Minds.{Mind}
use Rattle.cell_plant.specs.declared.keeper.Unkept.{Unkept}
use Rattle.operator_desk.specs.declared.action.Action.{Action}
use Rattle.operator_desk.specs.declared.line.Line.{Line}
use Rattle.operator_desk.specs.Next.{next_of}
use Rattle.cell_rounds.specs.Moves.{Leads, Terms, terms_of}
use Rattle.cell_rounds.specs.Stands.{Stand, start}
use Rattle.cell_sim.specs.Readings.{after_reading, shown}
use Rattle.cell_sim.specs.Simulated.{Simulated}
use Rattle.sim_plant.specs.Answers.{AnswersSo, SimCell}
use Rattle.cell_runs.specs.Cells.{AllKept}
use Rattle.cell_world.specs.Agreeing.{has_belt}
use Rattle.cell_world.specs.BeltTurning.{BeltAsBooked}
use Rattle.cell_world.specs.Running.{Allows, EndIsWorld, IsBooked, NoneCollides, RunIsWorld, opened}
use Rattle.cell_world.specs.Turning.{IsAsBooked}
use Rattle.cell_world.specs.Whole.{CellAsBooked}
use Rattle.cell_world.proofs.BeltReads.{read_counts}
use Rattle.cell_world.proofs.Moves.{Holding, Holds, HoldsOn, clear, come, ended}
use Rattle.cell_world.proofs.Owned.{decided_owned}
use Rattle.cell_world.proofs.Rounds.{round_collisions, round_kept}
use Rattle.cell_world.proofs.Shows.{leaves_collisions}
use Rattle.cell_world.proofs.Whole.{cell_kept, cell_opening, cell_plain}

-- WHAT HOLDS

other_minds : (l : BookLimits) (J : List Entry) (p : Plan) (minds others : Machine → Mind) (w : Simulated)
    → ((n : Machine) → minds n ≡ others n) → CellAsBooked l J p minds w → CellAsBooked l J p others w
other_minds l J p minds others w h t =
    record {
      legal = t.legal;
      fair = t.fair;
      uncleared = t.uncleared;
      switches = λ n b. subst (λ (x : Mind). IsAsBooked J p n x w) (h n) (t.switches n b);
      belts = λ n b. subst (λ (x : Mind). BeltAsBooked J p n x w) (h n) (t.belts n b);
      stations = t.stations;
    }

-- the script has no line
abbrev pub Undisturbed : Terms → Holding
Undisturbed T ls J minds w = (ls ≡ []) × IsBooked T.limits J T.plan minds w

pub none_next : (lines : List Line) (h : History) (a : Action) → lines ≡ [] → next_of lines h ≡ Some a → ⊥
none_next lines h a e n = let x : None ≡ Some a = ap (λ (ls : List Line). next_of ls h) (sym e) ∙ n in cc x

-- a reading counts no collision
read_by : (l : BookLimits) (J : List Entry) (p : Plan) (minds : Machine → Mind) (w : Simulated) (m : Machine)
    (b : Bool) → has_belt m ≡ b → CellAsBooked l J p minds w → (after_reading w m).collisions ≡ w.collisions
read_by l J p minds w m false b t = leaves_collisions J p m (minds m).axis w b (t.switches m b).tied
read_by l J p minds w m true b t = read_counts J p m (minds m).axis w b (t.belts m b).tied

pub holds_on : (T : Terms) → HoldsOn T (Undisturbed T)
holds_on T =
    let l = T.limits in let p = T.plan in
    record {
      alike = λ ls J f g w h t. (t.0, (other_minds l J p f g w h t.1.0, t.1.1));
      turn = λ ls J f w m e t decided allowed. let left = cell_kept l J p f w m e t.1.0 (record {
        decided = decided;
        allowed = allowed;
        own = decided_owned l J m p (f m) (shown w m) e t.1.0.legal decided;
      }) in (t.0, (left.0, left.1 ∙ t.1.1));
      round = λ ls J f w t. (t.0, (round_kept l J p f w t.1.0, round_collisions w ∙ t.1.1));
      hand = λ ls J f w a t next allowed. absurd (none_next ls (record { limits = l; entries = J }) a t.0 next);
      plain = λ ls J f w t. cell_plain l J p f w t.1.0;
      counts = λ ls J f w t. t.1.1;
      reads = λ ls J f w m t. read_by l J p f w m (has_belt m) refl t.1.0 ∙ t.1.1;
    }

-- THE RUN

stands : (T : Terms) (ds : Durations) (k : Unkept) (t : Stand SimCell Unkept) → Allows T.plan ds
    → Leads AnswersSo AllKept T (start (opened T.plan ds) k [] [] None) t → Holds T (Undisturbed T) t
stands T ds k t fair leads =
    come T (Undisturbed T) (opened T.plan ds) k [] [] t (holds_on T) refl
    (refl, (cell_opening T.limits T.plan ds fair, refl)) leads

pub run_is_world : RunIsWorld
run_is_world T ds s fair (k, leads) = (stands T ds k s fair leads).holds.1

pub end_is_world : EndIsWorld
end_is_world l p ds new J e fair (h, k, j, is, halts) memory full =
    let T = terms_of l p false in
    let end = ended T (Undisturbed T) (start (opened p ds) k [] [] None) h new j J
    (λ t leads. stands T ds k t fair leads) halts (λ i. memory (is ∙ i)) (λ i. full (is ∙ i)) in
    (end.1, end.2.1)

pub none_collides : NoneCollides
none_collides l p ds new J e fair (h, k, j, is, halts) =
    let T = terms_of l p false in
    clear T (Undisturbed T) (start (opened p ds) k [] [] None) h new j J (holds_on T)
    (λ t leads. stands T ds k t fair leads) halts
