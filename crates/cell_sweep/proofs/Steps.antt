-- Steps of the loops of a sweep
use Rattle.std.proofs.Common.{◌≡◌, ◌≢◌, inl, inr, ℕ, ◌+◌, ◌-◌, ◌<◌, ◌≤◌, Bool, true, List, [], ◌∷◌, ◌++◌, Option}
use Rattle.std.proofs.Common.{Some, None, Result, Ok, Err, IfErr, IfOk, IsErr, IsErrAnd, OnOk, map, length}
use Rattle.std.proofs.Common.{get_or, take, refl, sym, ap, subst, ◌∙◌, append-nil, arith, drop}
use Rattle.std.specs.Borrow.{Bor}
use Rattle.std.specs.Io.KnownBytes.{Appends}
use Rattle.std.specs.List.{flat_map}
use Rattle.std.proofs.KnownBytes.{Appends-nil, Appends-trans}
use Rattle.std.proofs.lemmas.List.{flat_map_more, get_or-drop, get_or-map, length-drop, length-map, map-append}
use Rattle.std.proofs.lemmas.List.{take_more}
use Rattle.std.proofs.lemmas.List.Concat.{flat_map-append}
use Rattle.std.proofs.lemmas.List.Elements.{All-append, All-cons, All-nil}
use Rattle.cell_sim.specs.declared.fault.Fault.{Fault}
use Rattle.cell_sim.specs.declared.fault.PlannedFault.{PlannedFault}
use Rattle.cell_output.specs.Watched.{WritesPart}
use Rattle.cell_output.specs.declared.watched.WriteFault.{WriteFault}
use Rattle.cell_rows.specs.Rows.{rows_of}
use Rattle.cell_rows.specs.Scripts.{Gives, lines_of}
use Rattle.cell_rows.specs.declared.script.LineError.{LineError}
use Rattle.cell_settings.specs.Settings.{plan_numbers}
use Rattle.cell_sim.specs.Script.{next_fault}
use Rattle.operator_desk.specs.Lines.{line_of}
use Rattle.operator_desk.specs.declared.line.Line.{Line}
use Rattle.cell_sim.specs.Simulated.{Simulated, opening_with}
use Rattle.sim_plant.specs.Answers.{SimCell, sim_cell}
use Rattle.cell_runs.specs.Cells.{IsSimulated}
use Rattle.cell_runs.specs.Inputs.{AreFaults, AreInputs, AreLines, AreSettings}
use Rattle.cell_runs.specs.Runs.{limits_of}
use Rattle.cell_runs.specs.declared.inputs.Inputs.{Inputs}
use Rattle.cell_runs.specs.declared.inputs.InputError.{InputError}
use Rattle.cell_runs.specs.declared.inputs.InputError.TheVariants as input
use Rattle.cell_types.specs.declared.words.Axis.{Axis}
use Rattle.cell_types.specs.declared.words.Entry.{Entry}
use Rattle.cell_explain.specs.Missed.{motions_of}
use Rattle.cell_ports.specs.declared.plan.Plan.{Plan}
use Rattle.cell_workers.specs.declared.ends.End.{End}
use Rattle.cell_sweep.specs.declared.runs.NoRun.{NoRun}
use Rattle.cell_sweep.specs.declared.runs.NoRun.TheVariants as none
use Rattle.cell_sweep.specs.declared.sweep.Stop.{Stop}
use Rattle.cell_sweep.specs.declared.sweep.Stop.TheVariants as stop
use Rattle.cell_sim.specs.Spelled.{script_of}
use Rattle.cell_sweep.specs.declared.choice.Choice.{Choice}
use Rattle.cell_sweep.specs.declared.choice.Part.{Part}
use Rattle.cell_sweep.specs.Cases.{begin_of, cases_of, end_of, motions_by, motions_of as listed, part_of, text_of}
use Rattle.cell_sweep.specs.Kinds.{kind_of}
use Rattle.cell_sweep.specs.Rows.{Grows, GrowsBy, IsNoRun, IsScript, IsToldOf, RefusesRun, RefusesServed, RunsTo}
use Rattle.cell_sweep.specs.Rows.{TellsRun, TellsServed, Told, csv_line, head_of, ones}
use Rattle.cell_sweep.specs.Sweeps.{AreCounts, EndsSo, IsOfRun, RefusesSome, StopsSo, Sweeps, SweepsTexts, TellsCase}
use Rattle.cell_sweep.specs.Sweeps.{TellsCases, Wanted}

-- one more part of a list names one more kind
pub named-more : (parts : List (List ℕ)) (i : ℕ) (kinds new : List Fault) (kind : Fault)
    → map kind_of (take i parts) ≡ map Some kinds → i < length parts
    → kind_of (get_or parts i []) ≡ Some kind → new ≡ kinds ++ kind ∷ []
    → map kind_of (take (i + 1) parts) ≡ map Some new
named-more parts i kinds new kind so_far inside here next =
    ap (map kind_of) (take_more parts i [] inside) ∙ map-append kind_of (take i parts) (get_or parts i [] ∷ [])
    ∙ ap (λ ks. ks ++ kind_of (get_or parts i []) ∷ []) so_far ∙ ap (λ k. map Some kinds ++ k ∷ []) here
    ∙ sym (map-append Some kinds (kind ∷ []))
    ∙ ap (map Some) (sym next)

-- the same of parts that are lent
pub named-part : (lent : List (Bor (List ℕ))) (parts : List (List ℕ)) (i : ℕ) (d : Bor (List ℕ))
    (kinds new : List Fault) (kind : Fault)
    → map (λ p. p.now) lent ≡ parts → map kind_of (take i parts) ≡ map Some kinds → i < length lent
    → kind_of (get_or lent i d).now ≡ Some kind → new ≡ kinds ++ kind ∷ []
    → map kind_of (take (i + 1) parts) ≡ map Some new
named-part lent parts i d kinds new kind same so_far inside here next =
    named-more parts i kinds new kind so_far
    (subst (λ ps. i < length ps) same (subst (λ n. i < n) (sym (length-map lent (λ p. p.now))) inside))
    (ap (λ ps. kind_of (get_or ps i [])) (sym same)
    ∙ ap kind_of (get_or-map (λ (p : Bor (List ℕ)). p.now) lent i d [] inside) ∙ here) next

-- what is told of one more element comes after a first element and what is told of those so far
pub told-behind : {X : Type 0} (f : X → List ℕ) (b : ℕ) (old mid new : Option (List ℕ)) (xs : List X) (i : ℕ) (d : X)
    → i < length xs
    → Appends old mid (b ∷ flat_map f (take i xs)) → Appends mid new (f (get_or xs i d))
    → Appends old new (b ∷ flat_map f (take (i + 1) xs))
told-behind f b old mid new xs i d inside so_far next =
    subst (Appends old new) (ap (λ ys. b ∷ ys) (flat_map_more f [] (take i xs) (get_or xs i d)
    ∙ ap (flat_map f) (sym (take_more xs i d inside)))) (Appends-trans old mid new _ _ so_far next)

-- what is told of one more element comes after what is told of those so far
pub told-more : {X : Type 0} (f : X → List ℕ) (old mid new : Option (List ℕ)) (xs : List X) (i : ℕ) (d : X)
    → i < length xs
    → Appends old mid (flat_map f (take i xs)) → Appends mid new (f (get_or xs i d))
    → Appends old new (flat_map f (take (i + 1) xs))
told-more f old mid new xs i d inside so_far next =
    subst (Appends old new) (flat_map_more f [] (take i xs) (get_or xs i d)
    ∙ ap (flat_map f) (sym (take_more xs i d inside))) (Appends-trans old mid new _ _ so_far next)

-- it grew by a text that was written
pub grew : (old new : Option (List ℕ)) (text : List ℕ) → Appends old new text → Grows old new
grew old new text h = (text, h)

-- one growth and another one
pub grows-twice : (old mid new : Option (List ℕ)) → Grows old mid → Grows mid new → Grows old new
grows-twice old mid new (text, h) (more, i) = (text ++ more, Appends-trans old mid new text more h i)

-- one growth after another
pub by-then : (old mid new : Option (List ℕ)) (csv : Bool) (line more : List ℕ) → GrowsBy old mid csv line
    → GrowsBy mid new csv more → GrowsBy old new csv (line ++ more)
by-then old mid new csv line more (text, h, same) (next, i, alike) = (
  text ++ next,
  Appends-trans old mid new text next h i,
  λ is_csv. ap (λ ys. ys ++ next) (same is_csv)
      ∙ ap (λ ys. line ++ ys) (alike is_csv),
)

-- no case is told yet
pub no-cases : (settings operator : List ℕ) (w : Wanted) (old : Option (List ℕ))
    → TellsCases settings operator w [] old old
no-cases settings operator w old = (
  [],
  refl,
  All-nil (TellsServed settings operator w.service),
  ([], Appends-nil old, λ is_csv. refl),
)

-- of a part that ends where it begins no case is told yet
pub no-cases-yet : (settings operator : List ℕ) (w : Wanted) (cases : List (List PlannedFault)) (n : ℕ)
    (old : Option (List ℕ)) → TellsCases settings operator w (take (n - n) (drop n cases)) old old
no-cases-yet settings operator w cases n old =
    let same : n - n ≡ 0 = omega arith in
    rw same (no-cases settings operator w old)

-- one case is told
pub one-case : (settings operator : List ℕ) (w : Wanted) (faults : List PlannedFault) (old new : Option (List ℕ))
    → TellsCase settings operator w faults old new → TellsCases settings operator w (faults ∷ []) old new
one-case settings operator w faults old new (t, same, tells, line) = (
  t ∷ [],
  ap (λ (fs : List PlannedFault). fs ∷ []) same,
  All-cons (TellsServed settings operator w.service) t [] tells (All-nil (TellsServed settings operator w.service)),
  subst (GrowsBy old new w.csv) (sym (append-nil (csv_line w.choice t))) line,
)

-- some cases and then others are told
pub cases-then : (settings operator : List ℕ) (w : Wanted) (cases more : List (List PlannedFault))
    (old mid new : Option (List ℕ)) → TellsCases settings operator w cases old mid
    → TellsCases settings operator w more mid new → TellsCases settings operator w (cases ++ more) old new
cases-then settings operator w cases more old mid new (runs, same, told, grown) (next, alike, tells, lines) = (
  runs ++ next,
  map-append (λ (s : Told). s.faults) runs next ∙ ap (λ fs. fs ++ map (λ (s : Told). s.faults) next) same
      ∙ ap (λ fs. cases ++ fs) alike,
  All-append (TellsServed settings operator w.service) runs next told tells,
  subst (GrowsBy old new w.csv) (sym (flat_map-append (csv_line w.choice) runs next))
      (by-then old mid new w.csv (flat_map (csv_line w.choice) runs) (flat_map (csv_line w.choice) next) grown lines),
)

-- one more case is told
pub cases-more : (settings operator : List ℕ) (w : Wanted) (cases : List (List PlannedFault)) (begin place : ℕ)
    (faults : List PlannedFault) (old mid new : Option (List ℕ)) → begin ≤ place → place < length cases
    → ((d : List PlannedFault) → get_or cases place d ≡ faults)
    → TellsCases settings operator w (take (place - begin) (drop begin cases)) old mid
    → TellsCase settings operator w faults mid new
    → TellsCases settings operator w (take (place + 1 - begin) (drop begin cases)) old new
cases-more settings operator w cases begin place faults old mid new after inside same so_far next =
    let i = place - begin in
    let rest = drop begin cases in
    let here : get_or rest i [] ≡ faults =
    get_or-drop begin cases i [] ∙ ap (λ n. get_or cases n []) (omega (arith, after)) ∙ same [] in
    let within : i < length rest =
    subst (λ n. i < n) (sym (length-drop begin cases)) (omega (arith, after, inside)) in
    let longer : take (place + 1 - begin) rest ≡ take i rest ++ faults ∷ [] =
    ap (λ n. take n rest) (omega (arith, after)) ∙ take_more rest i [] within
    ∙ ap (λ fs. take i rest ++ fs ∷ []) here in
    subst (λ (fs : List (List PlannedFault)). TellsCases settings operator w fs old new) (sym longer)
    (cases-then settings operator w (take i rest) (faults ∷ []) old mid new so_far
    (one-case settings operator w faults mid new next))

-- the cases up to the end are told
pub cases-done : (settings operator : List ℕ) (w : Wanted) (cases : List (List PlannedFault)) (begin end place : ℕ)
    (old new : Option (List ℕ)) → place - begin ≤ end - begin → end ≤ place
    → TellsCases settings operator w (take (place - begin) (drop begin cases)) old new
    → TellsCases settings operator w (take (end - begin) (drop begin cases)) old new
cases-done settings operator w cases begin end place old new short past told =
    let same : end - begin ≡ place - begin = omega (arith, short, past) in
    rw same told

-- the script with one fault is its record
pub text_of-one : (faults : List PlannedFault) (d : PlannedFault) → 1 ≤ length faults → length faults < 2
    → text_of faults ≡ script_of (get_or faults 0 d)
text_of-one [] d some few = absurd (omega (arith, some))
text_of-one (f ∷ []) d some few = append-nil (script_of f)
text_of-one (f ∷ (g ∷ faults)) d some few = absurd (omega (arith, few))

-- what was written of the cases so far is whole lines
pub cases-grow : (settings operator : List ℕ) (w : Wanted) (cases : List (List PlannedFault))
    (old mid : Option (List ℕ))
    → TellsCases settings operator w cases old mid → Grows old mid
cases-grow settings operator w cases old mid (runs, same, told, (text, h, line)) = (text, h)

-- a run by the script of some faults is one of which a row with these faults tells
pub told-of : (settings script text : List ℕ) (faults : List PlannedFault) (t : Told) (plan : Plan) (J : List Entry)
    (e : End) → t.faults ≡ faults → text ≡ text_of faults
    → RunsTo settings text script plan J e → IsToldOf t script plan J e → TellsRun settings script t
told-of settings script text faults t plan J e same is_script runs told =
    (plan, J, e, subst (λ fs. RunsTo settings fs script plan J e) (is_script ∙ ap text_of (sym same)) runs, told)

-- the cases of a part, by the places where it begins and ends
pub part-is : (choice : Choice) (kinds lent : List Fault) (counts kept : List ℕ) (p : Part) (all begin end : ℕ)
    → lent ≡ kinds → kept ≡ counts → all ≡ length (cases_of choice lent (listed kept))
    → begin ≡ begin_of p all → end ≡ end_of p all
    → take (end - begin) (drop begin (cases_of choice lent (listed kept)))
    ≡ part_of p (cases_of choice kinds (listed counts))
part-is choice kinds lent counts kept p all begin end same alike whole from to =
    let cases = cases_of choice lent (listed kept) in
    let first : begin ≡ begin_of p (length cases) = from ∙ ap (begin_of p) whole in
    let last : end ≡ end_of p (length cases) = to ∙ ap (end_of p) whole in
    ap (λ n. take (end - n) (drop n cases)) first
    ∙ ap (λ n. take (n - begin_of p (length cases)) (drop (begin_of p (length cases)) cases)) last
    ∙ ap (λ ks. part_of p (cases_of choice ks (listed kept))) same
    ∙ ap (λ ns. part_of p (cases_of choice kinds (listed ns))) alike

-- the line above all, the lines of the cases, and what stands below them
pub swept : (settings operator : List ℕ) (w : Wanted) (counts : Axis → ℕ) (cases : List (List PlannedFault))
    (p q r s : Option (List ℕ)) → AreCounts settings operator w.service w.motions counts
    → cases ≡ part_of w.part (cases_of w.choice w.kinds (motions_by counts))
    → GrowsBy p q w.csv (head_of w.choice w.part) → TellsCases settings operator w cases q r → GrowsBy r s w.csv []
    → Sweeps settings operator w p s
swept settings operator w counts cases p q r s counted are head (runs, in_order, told, rows) below =
    let lines = flat_map (csv_line w.choice) runs in
    record {
      counts = counts;
      counted = counted;
      runs = runs;
      cases = in_order ∙ are;
      told = told;
      written = subst (GrowsBy p s w.csv) (append-nil (head_of w.choice w.part ++ lines))
          (by-then p r s w.csv _ [] (by-then p q r w.csv (head_of w.choice w.part) lines head rows) below);
    }

-- it grew by the part of a text that was written
pub grew-part : (old new : Option (List ℕ)) (text : List ℕ) → WritesPart old new text → Grows old new
grew-part old new text (n, inside, h) = (take n text, h)

-- what is known of a writer grew by some text
pub by-grows : (old new : Option (List ℕ)) (csv : Bool) (line : List ℕ) → GrowsBy old new csv line → Grows old new
by-grows old new csv line (text, h, same) = (text, h)

-- a run of the simulated cell by what three texts say is one by them
pub runs_to : (settings faults operator : List ℕ) (plan : Plan) (said : List PlannedFault) (script : List Line)
    (world : Simulated) (cell left : SimCell) (J : List Entry) (e : End)
    → AreSettings settings (plan_numbers plan) → AreFaults faults said → AreLines operator script
    → world ≡ opening_with plan.plates → cell ≡ sim_cell world said
    → IsSimulated (limits_of plan) plan cell [] script left J e → RunsTo settings faults operator plan J e
runs_to settings faults operator plan said script world cell left J e say mean want opened is run = (
  record { plan = plan; faults = said; script = script; durations = ones },
  (say, mean, want),
  refl,
  (
    left,
    subst (λ (old : SimCell). IsSimulated (limits_of plan) plan old [] script left J e)
        (is ∙ ap (λ (w : Simulated). sim_cell w said) opened) run,
  ),
)

-- the operator's script is refused, behind settings and faults that say something
pub lines_refused : (settings faults operator : List ℕ) (plan : Plan) (said : List PlannedFault) (e : LineError)
    → AreSettings settings (plan_numbers plan) → AreFaults faults said
    → Gives (Err e) (lines_of line_of (rows_of operator))
    → RefusesRun settings faults operator (input.Operator e)
lines_refused settings faults operator plan said e say mean gives = (plan_numbers plan, say, (said, mean, gives))

-- the script of faults is refused, behind settings that say something, whatever the operator's script
pub faults_refused : (settings operator faults : List ℕ) (service : Bool) (plan : Plan) (e : LineError)
    → AreSettings settings (plan_numbers plan)
    → Gives (Err e) (lines_of next_fault (rows_of faults))
    → RefusesServed settings operator service faults (input.Faults e)
faults_refused settings operator faults service plan e say gives =
    (operator, (λ off. refl), (plan_numbers plan, say, gives))

-- what holds of a refusal holds more weakly of the answer that hands it on
pub hands_on : {X : Type 0} (r : Result X NoRun) (P Q : InputError → Type 0) (why : NoRun)
    → ((e : InputError) → P e → Q e) → IsErrAnd r (λ e. e ≡ why) → IsNoRun P why → IfErr r (IsNoRun Q)
hands_on (Ok x) P Q why weaker is refused = absurd is
hands_on (Err none.OutOfMemory) P Q why weaker is refused = tt
hands_on (Err (none.Refused e)) P Q why weaker is refused =
    weaker e (subst (λ (w : NoRun). IsNoRun P w) (sym is) refused)

-- what refuses a run by a script that serves, or by the operator's, refuses what asks for the run
pub run_refused : {X : Type 0} (r : Result X NoRun) (settings operator faults script : List ℕ) (service : Bool)
    (why : NoRun) → IsScript service operator script → IsErrAnd r (λ e. e ≡ why)
    → IsNoRun (RefusesRun settings faults script) why
    → IfErr r (IsNoRun (RefusesServed settings operator service faults))
run_refused r settings operator faults script service why kept is refused =
    hands_on r (RefusesRun settings faults script) (RefusesServed settings operator service faults) why
    (λ e run. (script, kept, run)) is refused

-- what refuses the run with a script of some faults refuses a run of the sweep
pub some_refused : {X : Type 0} (r : Result X NoRun) (settings operator faults text : List ℕ) (choice : Choice)
    (service : Bool) (why : NoRun) → IsOfRun choice text → faults ≡ text → IsErrAnd r (λ e. e ≡ why)
    → IsNoRun (RefusesServed settings operator service faults) why
    → IfErr r (IsNoRun (RefusesSome settings operator choice service))
some_refused r settings operator faults text choice service why of_run same is refused =
    hands_on r (RefusesServed settings operator service faults) (RefusesSome settings operator choice service) why
    (λ e served. (faults, subst (IsOfRun choice) (sym same) of_run, served)) is refused

pub some_refused_by : (settings operator faults text : List ℕ) (choice : Choice) (service : Bool) (why : NoRun)
    → IsOfRun choice text → faults ≡ text → IsNoRun (RefusesServed settings operator service faults) why
    → IsNoRun (RefusesSome settings operator choice service) why
some_refused_by settings operator faults text choice service none.OutOfMemory of_run same refused = tt
some_refused_by settings operator faults text choice service (none.Refused e) of_run same refused =
    (faults, subst (IsOfRun choice) (sym same) of_run, refused)

-- whether the sweep is whole or breaks off, what was written before it only grew
pub swept-grows : (swept : Result Unit Stop) (settings operator : List ℕ) (w : Wanted) (old mid : Option (List ℕ))
    → OnOk swept (Sweeps settings operator w old mid) → (IsErr swept → Grows old mid) → Grows old mid
swept-grows (Ok done) settings operator w old mid told part = by-grows _ _ _ _ told.written
swept-grows (Err why) settings operator w old mid told part = part refl

-- where no text is refused, the sweep is whole, or it broke off and its status says so
pub sweeps-or-breaks : (swept : Result Unit Stop) (ended : Result ℕ WriteFault) (settings operator : List ℕ)
    (w : Wanted) (old mid new : Option (List ℕ)) (refused : Bool) (inputs : Inputs)
    → AreInputs settings [] operator (Ok inputs)
    → OnOk swept (Sweeps settings operator w old mid) → (IsErr swept → Grows old mid)
    → IfErr swept (StopsSo settings operator w.choice w.service refused)
    → IfOk ended (EndsSo mid new swept) → IfOk ended (λ status. SweepsTexts settings operator w old new status)
sweeps-or-breaks swept (Err fault) settings operator w old mid new refused inputs are told part stops ends = tt
sweeps-or-breaks (Ok done) (Ok status) settings operator w old mid new refused inputs are told part stops (ok, same) =
    (Ok inputs, are, inl (ok, subst (Sweeps settings operator w old) (sym same) told))
sweeps-or-breaks (Err (stop.NoRun (none.Refused e))) (Ok status) settings operator w old mid new refused inputs are told
    part stops ends =
    (Ok inputs, are, inr (inr (mid, part refl, (e, stops, ends))))
sweeps-or-breaks (Err (stop.NoRun none.OutOfMemory)) (Ok status) settings operator w old mid new refused inputs are told
    part stops (memory, same) =
    (Ok inputs, are, inr (inl (memory, subst (Grows old) (sym same) (part refl))))
sweeps-or-breaks (Err stop.WriteFault) (Ok status) settings operator w old mid new refused inputs are told part stops
    ends =
    absurd ends

-- the writer stops a sweep only where a write was refused
pub blamed : (swept : Result Unit Stop) (settings operator : List ℕ) (choice : Choice) (service refused : Bool)
    → IfErr swept (StopsSo settings operator choice service refused) → swept ≡ Err stop.WriteFault → refused ≡ true
blamed swept settings operator choice service refused stops is =
    subst (λ (r : Result Unit Stop). IfErr r (StopsSo settings operator choice service refused)) is stops

-- a run by the script of some faults and by a script that serves, or the operator's, is one of which a row with these
-- faults tells
pub served-of : (settings operator one other script text : List ℕ) (service : Bool) (faults : List PlannedFault)
    (t : Told) (plan : Plan) (J : List Entry) (e : End)
    → one ≡ script → other ≡ script → IsScript service operator script → t.faults ≡ faults → text ≡ text_of faults
    → RunsTo settings text one plan J e → (text ≡ text_of faults → IsToldOf t other plan J e)
    → TellsServed settings operator service t
served-of settings operator one other script text service faults t plan J e first second is same is_script runs told = (
  script,
  is,
  told-of settings script text faults t plan J e same is_script
      (subst (λ (s : List ℕ). RunsTo settings text s plan J e) first runs)
      (subst (λ (s : List ℕ). IsToldOf t s plan J e) second (told is_script)),
)

-- where no number is given the motions are counted in the run without faults
pub counted-by-run : (settings operator script : List ℕ) (service : Bool) (motions : Option ℕ) (counts : Axis
    → ℕ) (plan : Plan) (J : List Entry) (e : End)
    → ((n : ℕ) → motions ≢ Some n) → IsScript service operator script → RunsTo settings [] script plan J e
    → ((a : Axis) → counts a ≡ motions_of J a)
    → AreCounts settings operator service motions counts
counted-by-run settings operator script service (Some n) counts plan J e none is runs counted = absurd (none n refl)
counted-by-run settings operator script service None counts plan J e none is runs counted =
    (script, plan, J, e, is, runs, counted)
