-- A run in which machines may fail by faults that last books something as often as its motions let it
use Rattle.std.proofs.Common.{◌≡◌, ◌≤◌, ◌+◌, ◌*◌, ◌⊎◌, inl, inr, ℕ, suc, Bool, true, false, ◌&&◌, Option}
use Rattle.std.proofs.Common.{Some, None, List, [], ◌∷◌, ◌++◌, length, refl, sym, ap, ◌∙◌, subst, append-nil, arith}
use Rattle.std.proofs.Common.{length-append}
use Rattle.std.proofs.Math.Nat.{mul-suc}
use Rattle.std.specs.Prelude.{nat_le}
use Rattle.std.specs.List.{list_any}
use Rattle.cell_types.specs.declared.words.Axis.{Axis}
use Rattle.cell_types.specs.declared.words.Entry.{Entry}
use Rattle.cell_types.specs.declared.words.Machine.{Machine}
use Rattle.cell_types.specs.declared.words.Machine.TheVariants as machine
use Rattle.cell_types.specs.declared.words.Pose.{Pose}
use Rattle.cell_types.specs.Same.{same_machine}
use Rattle.cell_types.specs.Texts.{all_machine}
use Rattle.cell_rules.proofs.Safe.Facts.{machine_same}
use Rattle.cell_measures.specs.declared.durations.Durations.{Durations}
use Rattle.cell_ports.specs.declared.plan.Plan.{Plan}
use Rattle.cell_turns.specs.Minds.{Mind, first_mind}
use Rattle.cell_turns.specs.Six.{at, each, put}
use Rattle.cell_turns.specs.Turns.{IsDecided, mind_after}
use Rattle.cell_turns.specs.declared.six.Six.{Six}
use Rattle.operator_desk.specs.Next.{next_of}
use Rattle.operator_desk.specs.declared.line.Line.{Line}
use Rattle.cell_plant.specs.declared.keeper.Unkept.{Unkept}
use Rattle.cell_workers.specs.Ends.{is_idle}
use Rattle.cell_rounds.specs.Moves.{Leads, Terms}
use Rattle.cell_rounds.specs.Moves.Leads.{goes, stays}
use Rattle.cell_rounds.specs.Rest.{KeepsOn, are_idle}
use Rattle.cell_rounds.specs.Stands.{Answering, Between, Closing, Noted, Noting, Over, Point, Serving, Turning}
use Rattle.cell_rounds.specs.Stands.{Stand, Wanted, start}
use Rattle.cell_sim.specs.Readings.{shown}
use Rattle.cell_sim.specs.declared.fault.PlannedFault.{PlannedFault}
use Rattle.sim_plant.specs.Answers.{AnswersSo, SimCell}
use Rattle.cell_runs.specs.Cells.{AllKept}
use Rattle.cell_world.specs.OneRun.{Moment, moment_of, next_at, served, turned}
use Rattle.cell_world.specs.FailCell.{AllLast, CellWithFailing, has_fault}
use Rattle.cell_world.specs.FailRuns.{opened_with}
use Rattle.cell_world.specs.Starting.{further_in}
use Rattle.cell_world.specs.Switched.{with_mind}
use Rattle.cell_world.proofs.Moves.{each_at, mind_put}
use Rattle.cell_world.proofs.OneRun.{IsOrdinary, MayGoOn, decided_is, is_ordinary, move_follows, starts_ordinary}
use Rattle.cell_calm.proofs.Noting.{Quickens, due, due_within}
use Rattle.cell_calm.proofs.Quickens.{AreBrief, quickens, with_same}
use Rattle.cell_calm.proofs.Tame.{Tame}

abbrev pub is_among : Machine → List Machine → Bool
is_among m rest = list_any (λ n. same_machine n m) rest

module _ (most : ℕ) (p : Plan) where
  -- so many rounds a journal may take
  abbrev pub span : List Entry → ℕ
  span J = most * length J

  abbrev pub left : List Entry → Six Mind → Machine → ℕ
  left J minds m = due most J p m (at minds m)

  -- so many rounds were closed, and no machine has more due than the journal's span has left
  pub record Steady (rounds : ℕ) (J : List Entry) (minds : Six Mind) : Type 0 where
    pub enough : rounds ≤ span J
    pub ahead : (m : Machine) → rounds + left J minds m ≤ span J

  -- a machine that took its turn in a round in which nothing is booked: it is idle, or so is it with one round more
  abbrev pub Passed : ℕ → List Entry → Six Mind → Machine → Type 0
  Passed rounds J minds m =
      ((is_idle J m p (at minds m) ≡ true) × (left J minds m ≡ 0)) ⊎ (rounds + 1 + left J minds m ≤ span J)

  -- nothing was booked in this round, and these machines are still to take their turns
  pub record Waits (rest : List Machine) (rounds : ℕ) (begun J : List Entry) (minds : Six Mind) : Type 0 where
    pub same : J ≡ begun
    pub steady : Steady rounds J minds
    pub passed : (m : Machine) → is_among m rest ≡ false → Passed rounds J minds m

  -- or something was, and whatever is due, there are rounds enough
  abbrev pub Paced : List Machine → ℕ → List Entry → List Entry → Six Mind → Type 0
  Paced rest rounds begun J minds = (rounds + most ≤ span J) ⊎ Waits rest rounds begun J minds

  abbrev pub PacedAt : Point → ℕ → List Entry → List Entry → Six Mind → Type 0
  PacedAt Between rounds begun J minds = Steady rounds J minds
  PacedAt (Noting n) rounds begun J minds = (J ≡ begun) × Steady rounds J minds
  PacedAt (Turning rest) rounds begun J minds = Paced rest rounds begun J minds
  PacedAt (Serving n) rounds begun J minds = Paced [] rounds begun J minds
  PacedAt Closing rounds begun J minds = Paced [] rounds begun J minds
  PacedAt _ rounds begun J minds = Unit {0}

  abbrev pub IsPaced : Moment → Type 0
  IsPaced a = PacedAt a.place.point a.place.rounds a.place.begun a.now.journal a.now.minds

-- A TURN

longer : (J : List Entry) (x : Entry) → length (J ++ x ∷ []) ≡ suc (length J)
longer J x = let h = length-append J (x ∷ []) in omega (arith, h)

span_more : (most : ℕ) (p : Plan) (J : List Entry) (x : Entry) → span most p (J ++ x ∷ []) ≡ span most p J + most
span_more most p J x =
    ap (λ (n : ℕ). most * n) (longer J x) ∙ mul-suc most (length J)

-- an entry gives more rounds than may be due
booked_paced : (most : ℕ) (p : Plan) (rest after : List Machine) (rounds : ℕ) (begun J : List Entry) (x : Entry)
    (minds minds' : Six Mind) → Paced most p rest rounds begun J minds
    → Paced most p after rounds begun (J ++ x ∷ []) minds'
booked_paced most p rest after rounds begun J x minds minds' (inl h) =
    let more = span_more most p J x in inl (omega (arith, h, more))
booked_paced most p rest after rounds begun J x minds minds' (inr h) =
    let more = span_more most p J x in let few = h.steady.enough in inl (omega (arith, few, more))

-- what holds of a machine's new mind, and of the others as they were
each_put : (P : Machine → Mind → Type 0) (minds : Six Mind) (m n : Machine) (x : Mind) → P m x
    → (same_machine m n ≡ false → P n (at minds n)) → P n (at (put minds m x) n)
each_put P minds m n x h others =
    subst (P n) (mind_put minds m n x) (by (same_machine m n) refl)
  where
    by : (b : Bool) → same_machine m n ≡ b → P n (with_mind m x (at minds) n)
    by true is =
        subst (λ (k : Machine). P k (with_mind m x (at minds) k)) (machine_same m n is)
        (subst (P m) (sym (with_same m x (at minds))) h)
    by false is = rw is (others is)

quick_ahead : (most : ℕ) (p : Plan) (J : List Entry) (m : Machine) (s t : Mind) (rounds : ℕ)
    → Quickens most J p m s t → rounds ≤ span most p J → rounds + due most J p m s ≤ span most p J
    → rounds + due most J p m t ≤ span most p J
quick_ahead most p J m s t rounds (inl less) few h = omega (arith, less, h)
quick_ahead most p J m s t rounds (inr (idle, none)) few h = omega (arith, none, few)

quick_passed : (most : ℕ) (p : Plan) (J : List Entry) (m : Machine) (s t : Mind) (rounds : ℕ)
    → Quickens most J p m s t → rounds + due most J p m s ≤ span most p J
    → ((is_idle J m p t ≡ true) × (due most J p m t ≡ 0)) ⊎ (rounds + 1 + due most J p m t ≤ span most p J)
quick_passed most p J m s t rounds (inl less) h = inr (omega (arith, less, h))
quick_passed most p J m s t rounds (inr idle) h = inl idle

-- a turn that books nothing takes one of the rounds that are due
waits_on : (most : ℕ) (p : Plan) (m : Machine) (rest : List Machine) (rounds : ℕ) (begun J : List Entry)
    (minds : Six Mind) (x : Mind) → Quickens most J p m (at minds m) x → Waits most p (m ∷ rest) rounds begun J minds
    → Waits most p rest rounds begun J (put minds m x)
waits_on most p m rest rounds begun J minds x q h =
    record {
      same = h.same;
      steady = record {
        enough = h.steady.enough;
        ahead = λ n. each_put (λ (k : Machine) (y : Mind). rounds + due most J p k y ≤ span most p J) minds m n x
            (quick_ahead most p J m (at minds m) x rounds q h.steady.enough (h.steady.ahead m))
            (λ other. h.steady.ahead n);
      };
      passed = λ n out. each_put
          (λ (k : Machine) (y : Mind). ((is_idle J k p y ≡ true) × (due most J p k y ≡ 0))
          ⊎ (rounds + 1 + due most J p k y ≤ span most p J)) minds m n x
          (quick_passed most p J m (at minds m) x rounds q (h.steady.ahead m))
          (λ other. h.passed n (rw (other, out) refl));
    }

turn_paced : (most : ℕ) (p : Plan) (m : Machine) (rest : List Machine) (rounds : ℕ) (begun J : List Entry)
    (minds : Six Mind) (x : Mind) → Quickens most J p m (at minds m) x → Paced most p (m ∷ rest) rounds begun J minds
    → Paced most p rest rounds begun J (put minds m x)
turn_paced most p m rest rounds begun J minds x q (inl h) = inl h
turn_paced most p m rest rounds begun J minds x q (inr h) = inr (waits_on most p m rest rounds begun J minds x q h)

-- THE END OF A ROUND

-- where not all are idle, one isn't
some_busy : (Q : Type 0) (a b c d e f : Bool) → (a ≡ true) ⊎ Q → (b ≡ true) ⊎ Q → (c ≡ true) ⊎ Q → (d ≡ true) ⊎ Q
    → (e ≡ true) ⊎ Q → (f ≡ true) ⊎ Q → (a && (b && (c && (d && (e && f))))) ≡ false → Q
some_busy Q a b c d e f (inr q) x y z u v h = q
some_busy Q a b c d e f w (inr q) y z u v h = q
some_busy Q a b c d e f w x (inr q) z u v h = q
some_busy Q a b c d e f w x y (inr q) u v h = q
some_busy Q a b c d e f w x y z (inr q) v h = q
some_busy Q a b c d e f w x y z u (inr q) h = q
some_busy Q a b c d e f (inl i) (inl j) (inl k) (inl m) (inl n) (inl o) h =
    let all : (a && (b && (c && (d && (e && f))))) ≡ true = rw (i, j, k, m, n, o) refl in
    let no : true ≡ false = sym all ∙ h in
    cc no

busy : (most : ℕ) (p : Plan) (rounds : ℕ) (J : List Entry) (minds : Six Mind)
    → ((m : Machine) → Passed most p rounds J minds m) → are_idle J p minds ≡ false → rounds + 1 ≤ span most p J
busy most p rounds J minds h idle =
    some_busy (rounds + 1 ≤ span most p J) _ _ _ _ _ _ (one machine.Feed (h machine.Feed))
    (one machine.Table (h machine.Table)) (one machine.Robot (h machine.Robot)) (one machine.Press1 (h machine.Press1))
    (one machine.Press2 (h machine.Press2)) (one machine.Deposit (h machine.Deposit)) idle
  where
    one : (m : Machine) → Passed most p rounds J minds m
        → (is_idle J m p (at minds m) ≡ true) ⊎ (rounds + 1 ≤ span most p J)
    one m (inl x) = inl x.0
    one m (inr x) = inr (omega (arith, x))

not_idle : (b : Bool) (X : Type 0) → (b ≡ true → X) → (X → ⊥) → b ≡ false
not_idle true X h none = absurd (none (h refl))
not_idle false X h none = refl

next_ahead : (most : ℕ) (p : Plan) (rounds : ℕ) (J : List Entry) (minds : Six Mind) (m : Machine)
    → rounds + 1 ≤ span most p J → Passed most p rounds J minds m → rounds + 1 + left most p J minds m ≤ span most p J
next_ahead most p rounds J minds m few (inl x) = let none = x.1 in omega (arith, none, few)
next_ahead most p rounds J minds m few (inr x) = x

closed_paced : (most : ℕ) (p : Plan) (rounds : ℕ) (begun J : List Entry) (minds : Six Mind) → 3 ≤ most
    → (J ≡ begun → KeepsOn p false J minds) → Paced most p [] rounds begun J minds
    → Steady most p (rounds + 1) J minds
closed_paced most p rounds begun J minds three on (inl h) =
    record {
      enough = omega (arith, h, three);
      ahead = λ m. let few = due_within most J p m (at minds m) three in omega (arith, h, few);
    }
closed_paced most p rounds begun J minds three on (inr h) =
    let waking = not_idle (are_idle J p minds) _ (on h.same) (λ x. let no : false ≡ true = x.0 in cc no) in
    let few = busy most p rounds J minds (λ m. h.passed m refl) waking in
    record { enough = few; ahead = λ m. next_ahead most p rounds J minds m few (h.passed m refl) }

-- EACH MOMENT

-- what is known of a moment: no line of a script is left; the cell is as booked, but for the machines that fail; the
-- book has room; and no motion takes more than so many readings
pub record IsKnownAt (T : Terms) (faults : List PlannedFault) (most : ℕ) (a : Moment) : Type 0 where
  pub lines : a.desk.lines ≡ []
  pub booked : CellWithFailing faults T.limits a.now.journal T.plan (at a.now.minds) a.world
  pub tame : Tame (has_fault faults) T.limits T.plan.plates a.now.journal
  pub room : nat_le T.limits.entries (length a.now.journal) ≡ false
  pub short : (b : Axis) (to : Pose) → further_in a.world b to + 3 ≤ most

all_among : (m : Machine) → is_among m all_machine ≡ true
all_among machine.Feed = refl
all_among machine.Table = refl
all_among machine.Robot = refl
all_among machine.Press1 = refl
all_among machine.Press2 = refl
all_among machine.Deposit = refl

differ : true ≡ false → ⊥
differ h = cc h

module _ (T : Terms) (faults : List PlannedFault) (are : AllLast faults) (most : ℕ)
    (few : AreBrief faults T.plan most) (three : 3 ≤ most) (brief : T.waits ≡ false) where
  turn_by : (a : Moment) (m : Machine) (rest : List Machine) (e : Option Entry) → IsKnownAt T faults most a
      → IsDecided T.limits a.now.journal m T.plan (at a.now.minds m) (shown a.world m) e
      → Paced most T.plan (m ∷ rest) a.place.rounds a.place.begun a.now.journal a.now.minds
      → IsPaced most T.plan (turned T faults m rest (shown a.world m) e a)
  turn_by a m rest None g decides h =
      let J = a.now.journal in let minds = a.now.minds in let s = at minds m in
      rw append-nil
      (turn_paced most T.plan m rest a.place.rounds a.place.begun J minds
      (mind_after J m T.plan s (shown a.world m) None)
      (quickens faults T.limits J T.plan (at minds) a.world m most are few g.short g.booked decides g.tame g.room) h)
  turn_by a m rest (Some x) g decides h =
      booked_paced most T.plan (m ∷ rest) rest a.place.rounds a.place.begun a.now.journal x a.now.minds _ h

  paced_next : (a : Moment) (x : Point) → is_ordinary x ≡ true → IsKnownAt T faults most a → MayGoOn T x a
      → PacedAt most T.plan x a.place.rounds a.place.begun a.now.journal a.now.minds
      → IsPaced most T.plan (next_at T faults x a)
  paced_next a Between o g may h = (refl, h)
  paced_next a (Noting n) o g may h =
      inr (record { same = h.0; steady = h.1; passed = λ m out. absurd (differ (sym (all_among m) ∙ out)) })
  paced_next a (Turning []) o g may h =
      subst (λ (ls : List Line). IsPaced most T.plan
      (served a (next_of ls (record { limits = T.limits; entries = a.now.journal })))) (sym g.lines) h
  paced_next a (Turning (m ∷ rest)) o g (e, decides, allowed) h =
      subst (λ (o : Option Entry). IsPaced most T.plan (turned T faults m rest (shown a.world m) o a))
      (decided_is T.limits T.plan m (shown a.world m) a.now e decides) (turn_by a m rest e g decides h)
  paced_next a (Serving n) o g may h = h
  paced_next a Closing o g may h =
      closed_paced most T.plan a.place.rounds a.place.begun a.now.journal a.now.minds three
      (λ same. subst (λ (b : Bool). KeepsOn T.plan b a.now.journal a.now.minds) brief (may same)) h
  paced_next a (Noted n task) o g may h = cc o
  paced_next a (Wanted n wish) o g may h = cc o
  paced_next a (Answering n reply) o g may h = cc o
  paced_next a (Over halt) o g may h = cc o

  -- THE RUN

  starts_steady : (m : Machine) → due most [] T.plan m (first_mind [] m) ≡ 0
  starts_steady machine.Feed = refl
  starts_steady machine.Table = refl
  starts_steady machine.Robot = refl
  starts_steady machine.Press1 = refl
  starts_steady machine.Press2 = refl
  starts_steady machine.Deposit = refl

  starts_paced : Steady most T.plan 0 [] (each (λ m. first_mind [] m))
  starts_paced =
      record {
        enough = omega arith;
        ahead = λ m. let none = starts_steady m in
            let same = ap (due most [] T.plan m) (sym (each_at (λ n. first_mind [] n) m)) in
            omega (arith, none, same);
      }

  pub paces : (ds : Durations) (k : Unkept)
      → ((u : Stand SimCell Unkept) → Leads AnswersSo AllKept T (start (opened_with T.plan ds faults) k [] [] None) u
      → IsKnownAt T faults most (moment_of u))
      → (t : Stand SimCell Unkept) → Leads AnswersSo AllKept T (start (opened_with T.plan ds faults) k [] [] None) t
      → IsOrdinary faults t × IsPaced most T.plan (moment_of t)
  paces ds k known _ stays = (starts_ordinary (opened_with T.plan ds faults) k [] [], starts_paced)
  paces ds k known u (goes {t = t} before move) =
      let was = paces ds k known t before in
      let f = move_follows T faults t u was.0 move in (
        f.ordinary,
        subst (IsPaced most T.plan) (sym f.is)
            (paced_next (moment_of t) t.place.point was.0.point (known t before) f.may was.1),
      )
