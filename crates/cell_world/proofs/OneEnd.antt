-- Where a run of the simulated cell ends no move follows, so two runs of it end alike
use Rattle.std.proofs.Common.{◌≡◌, ◌≢◌, ◌<◌, ◌⊎◌, inl, inr, ◌∷◌, ℕ, suc, Bool, true, false, Option}
use Rattle.std.proofs.Common.{Some, None, List, IfSome, refl, sym, ap, ◌∙◌, subst, arith}
use Rattle.std.specs.Prelude.{nat_lt}
use Rattle.std.proofs.lemmas.Bool.Decides.{nat_tests}
use Rattle.cell_types.specs.declared.words.Entry.{Entry}
use Rattle.cell_types.specs.declared.words.Machine.{Machine}
use Rattle.cell_rules.specs.Legal.{first_of}
use Rattle.cell_rules.specs.declared.limits.BookLimits.{BookLimits}
use Rattle.cell_rules.specs.declared.refusal.Refusal.{Refusal}
use Rattle.cell_diagnosis.specs.declared.reading.Reading.{Reading}
use Rattle.cell_turns.specs.Rulings.{ruling}
use Rattle.cell_turns.specs.Six.{at}
use Rattle.cell_turns.specs.Turns.{IsDecided, IsRuled, IsTurnedAway}
use Rattle.cell_turns.specs.declared.turns.decide.Ruling.{Ruling}
use Rattle.cell_turns.specs.declared.turns.decide.Ruling.TheVariants.{PastLast}
use Rattle.cell_plant.specs.declared.keeper.Unkept.{Unkept}
use Rattle.cell_workers.specs.Ends.{IsDone}
use Rattle.cell_workers.specs.declared.ends.End.{End}
use Rattle.cell_workers.specs.declared.ends.End.TheVariants as end
use Rattle.cell_turns.specs.Books.{limits_of}
use Rattle.cell_rounds.specs.Moves.{Move, Terms, terms_of}
use Rattle.cell_rounds.specs.Rest.{IsAtRest}
use Rattle.cell_rounds.specs.Runs.{Halts, end_of}
use Rattle.cell_rounds.specs.Runs.Halts.{breaks, fills, lacks, rests as comes_to_rest, tires}
use Rattle.cell_rounds.specs.Stands.{Between, Closing, Over, Point, Stand, Turning, start}
use Rattle.cell_rounds.specs.declared.progress.Halt.{Halt}
use Rattle.cell_sim.specs.Readings.{after_reading, shown}
use Rattle.cell_sim.specs.Simulated.{Simulated}
use Rattle.cell_sim.specs.declared.fault.PlannedFault.{PlannedFault}
use Rattle.sim_plant.specs.Answers.{AnswersSo, SimCell, sim_cell}
use Rattle.cell_runs.specs.Cells.{AllKept}
use Rattle.cell_world.specs.OneRun.{Moment, RunIsOne, Same, SimulationIsOne, later, moment_of}
use Rattle.cell_world.proofs.OneRun.{IsOrdinary, MayGoOn, Moves, decided_is, move_follows, moves_of}
use Rattle.cell_world.proofs.OneRun.{reached, starts_ordinary, not_ordinary}
use Rattle.cell_world.proofs.OneRun.Moves.{more, none}

-- how a run ends at a moment, if memory isn't refused: a turn is, all machines rest, or there were as many rounds as
-- may be; and the world that it leaves
pub data EndsAt (T : Terms) (a : Moment) (e : End) (w : Simulated) : Type 0 where
  full : (m : Machine) (rest : List Machine) (why : Refusal) → a.place.point ≡ Turning (m ∷ rest)
      → IsTurnedAway T.limits a.now.journal m T.plan (at a.now.minds m) (shown a.world m) why → e ≡ end.Full
      → w ≡ after_reading a.world m → EndsAt T a e w
  rest : a.place.point ≡ Closing → a.now.journal ≡ a.place.begun
      → IsAtRest T.plan T.waits a.now.journal a.now.minds e → w ≡ a.world → EndsAt T a e w
  tired : a.place.point ≡ Between → a.place.rounds ≡ T.plan.turns → e ≡ end.TurnLimit → w ≡ a.world → EndsAt T a e w

-- AT SUCH A MOMENT NO MOVE FOLLOWS

past_last : (l : BookLimits) (J : List Entry) (m : Machine) (plates : ℕ) (k : Ruling) (e : Option Entry) → k ≡ PastLast
    → IsRuled l J m plates k e → ⊥
past_last l J m plates k e h d = subst (λ (x : Ruling). IsRuled l J m plates x e) h d

both_refused : (l : BookLimits) (J : List Entry) (e : Option Entry) (x : Entry) (why : Refusal) → e ≡ Some x
    → IfSome e (λ y. first_of l J y ≡ None) → first_of l J x ≡ Some why → ⊥
both_refused l J e x why same free not =
    let allowed : first_of l J x ≡ None = subst (λ (o : Option Entry). IfSome o (λ y. first_of l J y ≡ None)) same free
    in
    let c : None ≡ Some why = sym allowed ∙ not in cc c

away_or_turned : (T : Terms) (a : Moment) (m : Machine) (e : Option Entry) (why : Refusal)
    → IsTurnedAway T.limits a.now.journal m T.plan (at a.now.minds m) (shown a.world m) why
    → IsDecided T.limits a.now.journal m T.plan (at a.now.minds m) (shown a.world m) e
    → IfSome e (λ x. first_of T.limits a.now.journal x ≡ None) → ⊥
away_or_turned T a m e why (inl (last, is)) d free =
    past_last T.limits a.now.journal m T.plan.plates
    (ruling a.now.journal m T.plan (at a.now.minds m) (shown a.world m)) e last d
away_or_turned T a m e why (inr refused) d free =
    let one = decided_is T.limits T.plan m (shown a.world m) a.now e d in
    let other = decided_is T.limits T.plan m (shown a.world m) a.now (Some refused.entry) refused.decided in
    both_refused T.limits a.now.journal e refused.entry why (one ∙ sym other) free refused.first

rests_or_goes : (T : Terms) (a : Moment) (e : End) → IsAtRest T.plan T.waits a.now.journal a.now.minds e
    → (T.waits ≡ true) × (IsDone T.plan.plates a.now.journal → ⊥) → ⊥
rests_or_goes T a e r (waits, undone) = by r.either
  where
    by : (e ≡ end.Finished) ⊎ ((e ≡ end.Stalled) × (T.waits ≡ false)) → ⊥
    by (inl done) = undone (r.finished done)
    by (inr (stalled, not)) = let x : true ≡ false = sym waits ∙ not in cc x

ends_or_goes : (T : Terms) (a : Moment) (e : End) (w : Simulated) → EndsAt T a e w → MayGoOn T a.place.point a → ⊥
ends_or_goes T a e w (full m ms why here away is left) may =
    let (o, d, free) = subst (λ (x : Point). MayGoOn T x a) here may in away_or_turned T a m o why away d free
ends_or_goes T a e w (rest here same r left) may =
    let on = subst (λ (x : Point). MayGoOn T x a) here may in rests_or_goes T a e r (on same r.idle)
ends_or_goes T a e w (tired here all is left) may =
    let room : a.place.rounds < T.plan.turns = subst (λ (x : Point). MayGoOn T x a) here may in
    absurd (omega (arith, all))

-- TWO ENDS AT ONE MOMENT

rest_same : (T : Terms) (a : Moment) (e f : End) → IsAtRest T.plan T.waits a.now.journal a.now.minds e
    → IsAtRest T.plan T.waits a.now.journal a.now.minds f → e ≡ f
rest_same T a e f r q = by r.either q.either
  where
    by : (e ≡ end.Finished) ⊎ ((e ≡ end.Stalled) × (T.waits ≡ false))
        → (f ≡ end.Finished) ⊎ ((f ≡ end.Stalled) × (T.waits ≡ false)) → e ≡ f
    by (inl done) other = done ∙ sym (q.stalled (r.finished done))
    by (inr stalled) (inl done) = r.stalled (q.finished done) ∙ sym done
    by (inr stalled) (inr other) = stalled.0 ∙ sym other.0

machine_same : (m n : Machine) (xs ys : List Machine) (x : Point) → x ≡ Turning (m ∷ xs) → x ≡ Turning (n ∷ ys)
    → m ≡ n
machine_same m n xs ys x h k = let y : Turning (m ∷ xs) ≡ Turning (n ∷ ys) = sym h ∙ k in cc y

elsewhere : (x y z : Point) → x ≡ y → x ≡ z → (y ≡ z → ⊥) → ⊥
elsewhere x y z h k never = never (sym h ∙ k)

turning_closing : (xs : List Machine) → Turning xs ≡ Closing → ⊥
turning_closing xs h = cc h

turning_between : (xs : List Machine) → Turning xs ≡ Between → ⊥
turning_between xs h = cc h

closing_between : Closing ≡ Between → ⊥
closing_between h = cc h

end_same : (T : Terms) (a : Moment) (e f : End) (v w : Simulated) → EndsAt T a e v → EndsAt T a f w
    → (e ≡ f) × (v ≡ w)
end_same T a e f v w (full m xs why here away is left) (full n ys because there gone same right) = (
  is ∙ sym same,
  left ∙ (ap (after_reading a.world) (machine_same m n xs ys a.place.point here there) ∙ sym right),
)
end_same T a e f v w (full m xs why here away is left) (rest there same q right) =
    absurd (elsewhere a.place.point _ Closing here there (turning_closing (m ∷ xs)))
end_same T a e f v w (full m xs why here away is left) (tired there all same right) =
    absurd (elsewhere a.place.point _ Between here there (turning_between (m ∷ xs)))
end_same T a e f v w (rest here is r left) (full n ys because there gone same right) =
    absurd (elsewhere a.place.point _ Closing there here (turning_closing (n ∷ ys)))
end_same T a e f v w (rest here is r left) (rest there same q right) = (rest_same T a e f r q, left ∙ sym right)
end_same T a e f v w (rest here is r left) (tired there all same right) =
    absurd (elsewhere a.place.point Closing Between here there closing_between)
end_same T a e f v w (tired here every is left) (full n ys because there gone same right) =
    absurd (elsewhere a.place.point _ Between there here (turning_between (n ∷ ys)))
end_same T a e f v w (tired here every is left) (rest there same q right) =
    absurd (elsewhere a.place.point Closing Between there here closing_between)
end_same T a e f v w (tired here every is left) (tired there all same right) = (is ∙ sym same, left ∙ sym right)

-- THE END OF A RUN

-- after so many moves it ends
pub record Ends (T : Terms) (faults : List PlannedFault) (s : Stand SimCell Unkept) (J : List Entry) (e : End)
    (w : Simulated) : Type 0 where
  pub count : ℕ
  pub last : Stand SimCell Unkept
  pub moves : Moves T s count last
  pub ends : EndsAt T (moment_of last) e w
  pub journal : J ≡ last.now.journal

ends_of : (T : Terms) (faults : List PlannedFault) (s : Stand SimCell Unkept) (h : Halt) (new : SimCell) (k : Unkept)
    (J : List Entry) → IsOrdinary faults s → Halts AnswersSo AllKept T s h new k J → end_of h ≢ end.Memory
    → Ends T faults s J (end_of h) new.world
ends_of T faults s h new k J c (breaks t leads here has) memory =
    let (n, moves) = moves_of T s t leads in
    absurd (not_ordinary t.place.point (Over h) here (reached T faults s n t c moves).ordinary.point refl)
ends_of T faults s h new k J c (lacks t leads is unbooked has) memory = absurd (memory (ap end_of is))
ends_of T faults s h new k J c (fills t leads is away (cell, keeper, journal)) memory =
    let (n, moves) = moves_of T s t leads in
    record {
      count = n;
      last = t;
      moves = moves;
      ends = full away.machine away.rest away.why away.point
          (subst (λ (r : Option Reading). IsTurnedAway T.limits t.now.journal away.machine T.plan
          (at t.now.minds away.machine) r away.why) away.shown.1.0 away.refused) (ap end_of is) away.shown.1.1;
      journal = sym journal;
    }
ends_of T faults s h new k J c (comes_to_rest t e leads is r (cell, keeper, journal)) memory =
    let (n, moves) = moves_of T s t leads in
    record {
      count = n;
      last = t;
      moves = moves;
      ends = rest r.point r.unchanged
          (subst (λ (x : End). IsAtRest T.plan T.waits t.now.journal t.now.minds x) (sym (ap end_of is)) r.rest)
          (sym (ap (λ (x : SimCell). x.world) cell));
      journal = sym journal;
    }
ends_of T faults s h new k J c (tires t leads is here all (cell, keeper, journal)) memory =
    let (n, moves) = moves_of T s t leads in
    record {
      count = n;
      last = t;
      moves = moves;
      ends = tired here all (ap end_of is) (sym (ap (λ (x : SimCell). x.world) cell));
      journal = sym journal;
    }

-- TWO RUNS

-- what a longer run went through, and a move from there
record Passed (T : Terms) (s : Stand SimCell Unkept) (n : ℕ) : Type 0 where
  here : Stand SimCell Unkept
  next : Stand SimCell Unkept
  moves : Moves T s n here
  move : Move AnswersSo AllKept T here next

passed_by : (T : Terms) (s t u : Stand SimCell Unkept) (n k : ℕ) (b : Bool) → b ≡ nat_lt n k → Moves T s k t
    → Move AnswersSo AllKept T t u → n < suc k → (n < k → Passed T s n) → Passed T s n
passed_by T s t u n k true h moves move less before =
    let shorter : n < k = grind (arith, nat_tests) in before shorter
passed_by T s t u n k false h moves move less before =
    let same : k ≡ n = grind (arith, nat_tests) in
    record { here = t; next = u; moves = subst (λ (i : ℕ). Moves T s i t) same moves; move = move }

passed : (T : Terms) (s u : Stand SimCell Unkept) (n k : ℕ) → Moves T s k u → n < k → Passed T s n
passed T s _ n _ none less = absurd (omega arith)
passed T s u n _ (more {n = k} {t = t} before move) less =
    passed_by T s t u n k (nat_lt n k) refl before move less (λ shorter. passed T s t n k before shorter)

-- a run from the same moment isn't longer than one that ended
not_longer : (T : Terms) (faults : List PlannedFault) (s q : Stand SimCell Unkept) (J : List Entry) (e : End)
    (w : Simulated) (k : ℕ) (u : Stand SimCell Unkept) → IsOrdinary faults s → IsOrdinary faults q
    → moment_of s ≡ moment_of q → (x : Ends T faults s J e w) → Moves T q k u → x.count < k → ⊥
not_longer T faults s q J e w k u c d from x moves less =
    let p = passed T q u x.count k moves less in
    let there = reached T faults q x.count p.here d p.moves in
    let last = reached T faults s x.count x.last c x.moves in
    let may = (move_follows T faults p.here p.next there.ordinary p.move).may in
    ends_or_goes T (moment_of p.here) e w
    (subst (λ (a : Moment). EndsAt T a e w) (last.is ∙ (ap (later T faults x.count) from ∙ sym there.is)) x.ends) may

trio : (n k : ℕ) (a b : Bool) → a ≡ nat_lt n k → b ≡ nat_lt k n → (n < k) ⊎ ((n ≡ k) ⊎ (k < n))
trio n k true b h i = let less : n < k = grind (arith, nat_tests) in inl less
trio n k false true h i = let fewer : k < n = grind (arith, nat_tests) in inr (inr fewer)
trio n k false false h i = let same : n ≡ k = grind (arith, nat_tests) in inr (inl same)

both_end : (T : Terms) (faults : List PlannedFault) (s : Stand SimCell Unkept) (q : Stand SimCell Unkept)
    (J K : List Entry) (e f : End) (v w : Simulated) → IsOrdinary faults s → IsOrdinary faults q
    → moment_of s ≡ moment_of q
    → (x : Ends T faults s J e v) (y : Ends T faults q K f w) → x.count ≡ y.count → Same J K e f v w
both_end T faults s q J K e f v w c d from x y same =
    let one = reached T faults s x.count x.last c x.moves in
    let two = reached T faults q y.count y.last d y.moves in
    let at : moment_of x.last ≡ moment_of y.last =
    one.is ∙ (ap (λ (n : ℕ). later T faults n (moment_of s)) same
    ∙ (ap (later T faults y.count) from ∙ sym two.is)) in
    let (ends, worlds) = end_same T (moment_of y.last) e f v w
    (subst (λ (a : Moment). EndsAt T a e v) at x.ends) y.ends in
    (x.journal ∙ (ap (λ (a : Moment). a.now.journal) at ∙ sym y.journal), ends, worlds)

two_ends : (T : Terms) (faults : List PlannedFault) (s q : Stand SimCell Unkept) (J K : List Entry) (e f : End)
    (v w : Simulated) → IsOrdinary faults s → IsOrdinary faults q → moment_of s ≡ moment_of q → Ends T faults s J e v
    → Ends T faults q K f w → Same J K e f v w
two_ends T faults s q J K e f v w c d from x y = by (trio x.count y.count _ _ refl refl)
  where
    by : (x.count < y.count) ⊎ ((x.count ≡ y.count) ⊎ (y.count < x.count)) → Same J K e f v w
    by (inl less) = absurd (not_longer T faults s q J e v y.count y.last c d from x y.moves less)
    by (inr (inl same)) = both_end T faults s q J K e f v w c d from x y same
    by (inr (inr fewer)) = absurd (not_longer T faults q s K f w x.count x.last d c (sym from) y x.moves fewer)

pub run_is_one : RunIsOne
run_is_one l p old new other before J K script e f (h, k, i, is, run) (g, j, m, same, again) kept spared =
    let T = terms_of l p false in
    let s = start old k before script None in
    let q = start old j before script None in
    let first = starts_ordinary old k before script in
    let second = starts_ordinary old j before script in
    let one = ends_of T old.faults s h new i J first run (λ r. kept (is ∙ r)) in
    let two = ends_of T old.faults q g other m K second again (λ r. spared (same ∙ r)) in
    let both = two_ends T old.faults s q J K (end_of h) (end_of g) new.world other.world first second refl one two in
    (both.0, is ∙ (both.1 ∙ sym same), both.2)

pub simulation_is_one : SimulationIsOne
simulation_is_one inputs world before J K e f (left, one) (right, two) kept spared =
    let both = run_is_one (limits_of inputs.plan) inputs.plan (sim_cell world inputs.faults) left right before J K
    inputs.script e f one.ran two.ran kept spared in
    (both.0, both.1)
