-- A turn of a machine with switches
use Rattle.cell_sim.specs.Looks.{is_belt}
use Rattle.std.proofs.Common.{◌≡◌, ◌≢◌, ℕ, Bool, true, false, ◌&&◌, ◌||◌, ◌⊎◌, inl, inr, Option}
use Rattle.std.proofs.Common.{Some, None, List, [], ◌∷◌, ◌++◌, is_none, refl, sym, ap, ◌∙◌, subst, if◌then◌else◌}
use Rattle.std.proofs.Common.{IfSome}
use Rattle.std.proofs.lemmas.List.{append-nil}
use Rattle.std.specs.Option.{option_map}
use Rattle.std.specs.Prelude.{not, option_to_list, unwrap_or}
use Rattle.cell_types.specs.declared.words.Arm.{Arm}
use Rattle.cell_types.specs.declared.words.Arm.TheVariants as arm
use Rattle.cell_types.specs.declared.words.Axis.{Axis}
use Rattle.cell_types.specs.declared.words.Axis.TheVariants as axis
use Rattle.cell_types.specs.declared.words.Cause.TheVariants as cause
use Rattle.cell_types.specs.declared.words.Machine.{Machine}
use Rattle.cell_types.specs.declared.words.Machine.TheVariants as machine
use Rattle.cell_types.specs.declared.words.Pose.{Pose}
use Rattle.cell_types.specs.declared.words.Pose.TheVariants as pose
use Rattle.cell_types.specs.declared.words.Station.{Station}
use Rattle.cell_types.specs.declared.words.Station.TheVariants as station
use Rattle.cell_types.specs.declared.words.Entry.{Entry}
use Rattle.cell_types.specs.declared.words.Entry.TheVariants.{Claimed, Yielded, Started, Arrived as ArrivedAt, Forged}
use Rattle.cell_types.specs.declared.words.Entry.TheVariants.{Gripped, Dropped}
use Rattle.cell_types.specs.After.{Snapshot, after, opening, step}
use Rattle.cell_types.specs.Cell.{drops_at, grips_at, machine_of_axis, machine_of_station, press_axis}
use Rattle.cell_types.specs.Cell.{station_of_arm}
use Rattle.cell_types.specs.Same.{same_machine, same_pose}
use Rattle.cell_types.proofs.Left.{after_snoc}
use Rattle.cell_rules.specs.declared.limits.BookLimits.{BookLimits}
use Rattle.cell_rules.specs.declared.refusal.Refusal.{Refusal}
use Rattle.cell_rules.specs.Last.{when}
use Rattle.cell_rules.specs.Legal.{allowed, first_of, legal}
use Rattle.cell_rules.specs.Situations.{Situation, situation_of}
use Rattle.cell_rules.specs.Views.{asks, fails, going_of, is_asked, is_failed, is_occupied, plate_of, rests, sends}
use Rattle.cell_rules.proofs.Carried.{carrying_when_legal}
use Rattle.cell_rules.proofs.Safe.Bridge.{Good, good_cell, good_step, good_when_legal}
use Rattle.cell_rules.proofs.Safe.Facts.{and_both, is_some_tells, pose_same}
use Rattle.cell_rules.specs.Carrying.{carries_from}
use Rattle.cell_rules.proofs.Safe.Safety.{safe_state}
use Rattle.cell_rules.proofs.Safe.Views.{view_snoc}
use Rattle.cell_diagnosis.specs.RestRules.{rest}
use Rattle.cell_diagnosis.specs.declared.motion.Motion.{Motion}
use Rattle.cell_diagnosis.specs.declared.reading.Reading.{Reading}
use Rattle.cell_diagnosis.specs.declared.verdict.Verdict.{Verdict}
use Rattle.cell_diagnosis.specs.declared.verdict.Verdict.TheVariants.{Pending, Arrived as HasArrived}
use Rattle.cell_machines.specs.Room.{is_bookable}
use Rattle.cell_machines.specs.Candidates.{proposed}
use Rattle.cell_machines.specs.Useful.{is_useful, is_useful_now, wants}
use Rattle.cell_machines.proofs.Proposed.{some_proposed}
use Rattle.cell_ports.specs.declared.plan.Plan.{Plan}
use Rattle.cell_turns.specs.declared.turns.decide.Ruling.{Ruling}
use Rattle.cell_turns.specs.declared.turns.decide.Ruling.TheVariants.{Nothing, Proposes}
use Rattle.cell_turns.specs.Following.{Following}
use Rattle.cell_turns.specs.Minds.{Mind}
use Rattle.cell_turns.specs.Moving.{motion_of_machine}
use Rattle.cell_turns.specs.Observed.{axis_noted, axis_verdict, rest_noted}
use Rattle.cell_turns.specs.Rulings.{books, declares, end_found, ending, fault_found, first_ruling, ruling, signed}
use Rattle.cell_turns.specs.Signs.{shows_sign}
use Rattle.cell_turns.specs.Turns.{IsDecided, IsProposed, IsRuled, begins_anew, ends_motion, mind_after}
use Rattle.cell_turns.specs.Visits.{is_unvisited}
use Rattle.cell_sim.specs.declared.axis.AxisInWorld.{AxisInWorld}
use Rattle.cell_sim.specs.Parts.{axis_at, plate_at}
use Rattle.cell_sim.specs.Readings.{after_reading, shown}
use Rattle.cell_sim.specs.Simulated.{Simulated}
use Rattle.cell_world.specs.Agreeing.{has_belt}
use Rattle.cell_world.specs.Going.{IsPlain}
use Rattle.cell_world.specs.Handing.{HasBooked, IsHanded, MovesPlate}
use Rattle.cell_world.specs.Starting.{BringsTo, MachineRests, RobotMayStand, StandsAs, after_entry, one_more}
use Rattle.cell_world.specs.Tie.{IsTied, MachineCame, WentOn}
use Rattle.cell_world.specs.Tied.{motion_by}
use Rattle.cell_world.specs.Turning.{AsBooked, TurnBegins, TurnKeeps, TurnLeaves, after_turn, is_within}
use Rattle.cell_world.proofs.Any.{moves_as}
use Rattle.cell_world.proofs.Begins.{from_rest, some_not}
use Rattle.cell_world.proofs.Clear.{starts_stay_clear}
use Rattle.cell_world.proofs.Long.{entry_long, fair_then, reading_long}
use Rattle.cell_world.proofs.Ends.{SparesEnds, dropped_spares, gripped_spares, read_spares_ends, spares_same}
use Rattle.cell_world.proofs.Ends.{spares_then, started_part, started_spares}
use Rattle.cell_world.proofs.Entries.{at_before, going_before}
use Rattle.cell_world.proofs.Hands.{drops, drops_healthy, drops_there, grips, grips_healthy, grips_there}
use Rattle.cell_world.proofs.Machines.{rests_read}
use Rattle.cell_world.proofs.Machines.{machine_ends, machine_goes, machine_starts, no_belt, tied_stands}
use Rattle.cell_world.proofs.Plates.{Left, told_left}
use Rattle.cell_world.proofs.Read.{reading_spares}
use Rattle.cell_world.proofs.RestPending.{agrees_pending}
use Rattle.cell_world.proofs.Shows.{leaves_collisions, leaves_plates, reading_agrees}
use Rattle.cell_world.proofs.Spared.{some_same, spared_stays}
use Rattle.cell_world.proofs.Starts.{brings_same}

-- WHAT IS RULED

-- of the points before the last none applies, or the motion's end is the first that does
by_last : {a b c d v q e g : Option Ruling} → a ≡ None → b ≡ None → c ≡ None → d ≡ None → v ≡ None → q ≡ None
    → e ≡ None → g ≡ None
    → first_ruling (a ∷ b ∷ c ∷ d ∷ v ∷ q ∷ e ∷ g ∷ Some Proposes ∷ []) ≡ Proposes
by_last ha hb hc hd hv hq he hg = rw (ha, hb, hc, hd, hv, hq, he, hg) refl

by_sign : {a b c d v q e g : Option Ruling} (k : Ruling) → a ≡ None → b ≡ None → c ≡ None → d ≡ None → v ≡ None
    → q ≡ None → e ≡ None → g ≡ Some k
    → first_ruling (a ∷ b ∷ c ∷ d ∷ v ∷ q ∷ e ∷ g ∷ Some Proposes ∷ []) ≡ k
by_sign k ha hb hc hd hv hq he hg = rw (ha, hb, hc, hd, hv, hq, he, hg) refl

by_end : {a b c d v q e : Option Ruling} (g : Option Ruling) (k : Ruling) → a ≡ None → b ≡ None
    → c ≡ None → d ≡ None → v ≡ None
    → q ≡ None → e ≡ Some k
    → first_ruling (a ∷ b ∷ c ∷ d ∷ v ∷ q ∷ e ∷ g ∷ Some Proposes ∷ []) ≡ k
by_end g k ha hb hc hd hv hq he = rw (ha, hb, hc, hd, hv, hq, he) refl

pub when_no : {A : Type 0} (b : Bool) (x : A) → b ≡ false → when b x ≡ None
when_no b x h = rw h refl

pub end_pending : (J : List Entry) (o : Option Motion) (v : Verdict) → v ≡ Pending → end_found J o v ≡ None
end_pending J None v h = refl
end_pending J (Some n) v h = rw h refl

end_arrived : (J : List Entry) (o : Option Motion) (n : Motion) (v : Verdict) → o ≡ Some n → v ≡ HasArrived
    → end_found J o v ≡ Some (books (ending J n.axis n.to))
end_arrived J o n v h k = rw (h, k) refl

no_fault : (m : Machine) (v : Verdict) → (v ≡ Pending) ⊎ (v ≡ HasArrived) → fault_found m v ≡ None
no_fault m v (inl h) = rw h refl
no_fault m v (inr h) = rw h refl

pub and_false : (b : Bool) → (b && false) ≡ false
and_false true = refl
and_false false = refl

pub no_sign : (J : List Entry) (m : Machine) (r : Option Reading) → has_belt m ≡ false → shows_sign J m r ≡ false
no_sign J machine.Feed r b = cc b
no_sign J machine.Deposit r b = cc b
no_sign J m r b = refl

pub unsigned : (J : List Entry) (m : Machine) (s : Mind) (r : Option Reading) → has_belt m ≡ false
    → (s.memory.sign && shows_sign J m r) ≡ false
unsigned J m s r b = ap (λ (x : Bool). s.memory.sign && x) (no_sign J m r b) ∙ and_false s.memory.sign

-- what a turn found of the machine
abbrev pub Verdicts : List Entry → Plan → Machine → Mind → Option Reading → Verdict
Verdicts J p m s r = axis_verdict (axis_noted J m p s.axis r)

abbrev pub Agreed : List Entry → Machine → Mind → Option Reading → Type 0
Agreed J m s r = rest (rest_noted J m s.memory s.rest r) ≡ Pending

pub ruled_proposes : {T : Type 0} (J : List Entry) (p : Plan) (m : Machine) (s : Mind) (r : Option Reading)
    → AsBooked J m s T → (s.memory.sign && shows_sign J m r) ≡ false → Verdicts J p m s r ≡ Pending → Agreed J m s r
    → ruling J m p s r ≡ Proposes
unfolding ruling
ruled_proposes J p m s r t n v q =
    by_last (when_no (is_failed J m) Nothing t.healthy)
    (when_no s.memory.command_failed (declares m cause.CommandFault) t.was_obeyed)
    (when_no (is_asked J m) (declares m cause.OperatorStop) t.unasked)
    (when_no s.memory.failed Proposes t.was_healthy) (no_fault m (Verdicts J p m s r) (inl v))
    (no_fault m (rest (rest_noted J m s.memory s.rest r)) (inl q))
    (end_pending J (motion_of_machine J p m) (Verdicts J p m s r) v)
    (when_no (s.memory.sign && shows_sign J m r) (signed J m) n)

pub ruled_signed : {T : Type 0} (J : List Entry) (p : Plan) (m : Machine) (s : Mind) (r : Option Reading)
    → AsBooked J m s T → (s.memory.sign && shows_sign J m r) ≡ true → Verdicts J p m s r ≡ Pending → Agreed J m s r
    → ruling J m p s r ≡ signed J m
unfolding ruling
ruled_signed J p m s r t n v q =
    by_sign (signed J m) (when_no (is_failed J m) Nothing t.healthy)
    (when_no s.memory.command_failed (declares m cause.CommandFault) t.was_obeyed)
    (when_no (is_asked J m) (declares m cause.OperatorStop) t.unasked)
    (when_no s.memory.failed Proposes t.was_healthy) (no_fault m (Verdicts J p m s r) (inl v))
    (no_fault m (rest (rest_noted J m s.memory s.rest r)) (inl q))
    (end_pending J (motion_of_machine J p m) (Verdicts J p m s r) v)
    (ap (λ (x : Bool). when x (signed J m)) n)

pub ruled_end : {T : Type 0} (J : List Entry) (p : Plan) (m : Machine) (s : Mind) (r : Option Reading) (n : Motion)
    → AsBooked J m s T → motion_of_machine J p m ≡ Some n → Verdicts J p m s r ≡ HasArrived → Agreed J m s r
    → ruling J m p s r ≡ books (ending J n.axis n.to)
unfolding ruling
ruled_end J p m s r n t h v q =
    by_end (when (s.memory.sign && shows_sign J m r) (signed J m)) (books (ending J n.axis n.to))
    (when_no (is_failed J m) Nothing t.healthy)
    (when_no s.memory.command_failed (declares m cause.CommandFault) t.was_obeyed)
    (when_no (is_asked J m) (declares m cause.OperatorStop) t.unasked)
    (when_no s.memory.failed Proposes t.was_healthy) (no_fault m (Verdicts J p m s r) (inr v))
    (no_fault m (rest (rest_noted J m s.memory s.rest r)) (inl q))
    (end_arrived J (motion_of_machine J p m) n (Verdicts J p m s r) h v)

-- WHAT A MACHINE WITH SWITCHES WANTS

abbrev pub Kind : Machine → Entry → Type 0
Kind m (Started a to) = machine_of_axis a ≡ m
Kind m (Claimed n z) = Unit {0}
Kind m (Yielded n z) = Unit {0}
Kind m (Gripped x k s) = m ≡ machine.Robot
Kind m (Dropped x k s) = m ≡ machine.Robot
Kind m _ = ⊥

pub kind_of : (l : BookLimits) (c : Situation) (plan : ℕ) (m : Machine) (e : Entry) → has_belt m ≡ false
    → wants l c plan m e ≡ true → Kind m e
kind_of l c plan machine.Feed e b h = let x : false ≡ true = sym b in cc x
kind_of l c plan machine.Deposit e b h = let x : false ≡ true = sym b in cc x
kind_of l c plan machine.Table (Started axis.TableLift to) b h = refl
kind_of l c plan machine.Table (Started axis.TableTurn to) b h = refl
kind_of l c plan machine.Table (Claimed n z) b h = tt
kind_of l c plan machine.Table (Yielded n z) b h = tt
kind_of l c plan machine.Robot (Started axis.RobotTurn to) b h = refl
kind_of l c plan machine.Robot (Started axis.ArmOne to) b h = refl
kind_of l c plan machine.Robot (Started axis.ArmTwo to) b h = refl
kind_of l c plan machine.Robot (Claimed n z) b h = tt
kind_of l c plan machine.Robot (Yielded n z) b h = tt
kind_of l c plan machine.Robot (Gripped x k s) b h = refl
kind_of l c plan machine.Robot (Dropped x k s) b h = refl
kind_of l c plan machine.Press1 (Started axis.PressOne to) b h = refl
kind_of l c plan machine.Press1 (Claimed n z) b h = tt
kind_of l c plan machine.Press1 (Yielded n z) b h = tt
kind_of l c plan machine.Press2 (Started axis.PressTwo to) b h = refl
kind_of l c plan machine.Press2 (Claimed n z) b h = tt
kind_of l c plan machine.Press2 (Yielded n z) b h = tt
kind_of l c plan m e b h = cc h

-- WHAT A TURN LEAVES

abbrev pub Noted : List Entry → Plan → Machine → Mind → Simulated → Option Following
Noted J p m s w = axis_noted J m p s.axis (shown w m)

within_of : (t : Station) → has_belt (machine_of_station t) ≡ false → is_within t ≡ true
within_of station.FeedIn h = sym h
within_of station.DepEnd h = sym h
within_of t h = refl

agreed_then : (l : BookLimits) (J : List Entry) (p : Plan) (m : Machine) (s : Mind) (w : Simulated)
    → has_belt m ≡ false → TurnBegins l J p m s w → Agreed J m s (shown w m)
agreed_then l J p m s w b t =
    let c = t.as_booked in
    agrees_pending s.rest _ c.agreed (reading_agrees J p m s.axis w (is_unvisited J m s.memory) b c.tied
    (λ u e. t.plates u (within_of u (ap has_belt e ∙ b)) (ap (λ (n : Machine). is_failed J n) e ∙ c.healthy)))

pub as_booked_then : {T : Type 0} (J K : List Entry) (p : Plan) (m : Machine) (s : Mind) (r : Option Reading)
    (e : Option Entry) (Tie : Option Following → Type 0) → AsBooked J m s T → Agreed J m s r
    → K ≡ J ++ option_to_list e → is_failed K m ≡ false → is_asked K m ≡ false
    → Tie (if ends_motion e then None else axis_noted J m p s.axis r)
    → AsBooked K m (mind_after J m p s r e) (Tie (mind_after J m p s r e).axis)
unfolding mind_after
as_booked_then J K p m s r e Tie t q k h a i =
    let n : begins_anew J m s.memory ≡ false =
    ap (λ (x : Bool). x && (not (is_failed J m) && (not s.memory.command_failed && not (is_asked J m))))
    t.was_healthy in
    record {
      healthy = h;
      unasked = a;
      was_healthy = ap (λ (L : List Entry). is_failed L m) (sym k) ∙ h;
      was_obeyed = ap (λ (x : Bool). is_none e && x) t.was_obeyed ∙ and_false (is_none e);
      tied = subst (λ (x : Bool). Tie (if x || ends_motion e then None else axis_noted J m p s.axis r)) (sym n) i;
      agreed = ap (λ (x : Bool). rest (if x then [] else rest_noted J m s.memory s.rest r)) n ∙ q;
    }

none_leaves : (l : BookLimits) (J : List Entry) (p : Plan) (m : Machine) (s : Mind) (w : Simulated)
    → has_belt m ≡ false → TurnBegins l J p m s w → Agreed J m s (shown w m)
    → IsTied J p m (Noted J p m s w) (after_reading w m)
    → TurnLeaves J (J ++ []) p m (mind_after J m p s (shown w m) None) w (after_reading w m)
    × SparesEnds J w (after_reading w m)
none_leaves l J p m s w b t q i =
    let c = t.as_booked in (
      subst (λ (K : List Entry). TurnLeaves J K p m (mind_after J m p s (shown w m) None) w (after_reading w m))
          (sym (append-nil J))
          (record {
            as_booked = as_booked_then J J p m s (shown w m) None (λ f. IsTied J p m f (after_reading w m)) c q
                (sym (append-nil J)) c.healthy c.unasked i;
            plates = λ u h. leaves_plates J p m s.axis w b c.tied u ∙ h;
            collisions = leaves_collisions J p m s.axis w b c.tied;
          }),
      read_spares_ends J p m s.axis w b c.tied,
    )

-- an entry that declares nothing and stops nothing
pub record IsCalm (m : Machine) (x : Entry) : Type 0 where
  pub unfailed : fails m x ≡ None
  pub unasked : asks m x ≡ None

pub still_healthy : {T : Type 0} (J : List Entry) (m : Machine) (s : Mind) (x : Entry) → AsBooked J m s T → IsCalm m x
    → is_failed (one_more J x) m ≡ false
still_healthy J m s x t calm =
    view_snoc (fails m) false J x ∙ (ap (λ (o : Option Bool). unwrap_or o (is_failed J m)) calm.unfailed ∙ t.healthy)

pub still_unasked : {T : Type 0} (J : List Entry) (m : Machine) (s : Mind) (x : Entry) → AsBooked J m s T → IsCalm m x
    → is_asked (one_more J x) m ≡ false
still_unasked J m s x t calm =
    view_snoc (asks m) false J x ∙ (ap (λ (o : Option Bool). unwrap_or o (is_asked J m)) calm.unasked ∙ t.unasked)

some_leaves : (l : BookLimits) (J : List Entry) (p : Plan) (m : Machine) (s : Mind) (w : Simulated) (x : Entry)
    → has_belt m ≡ false → TurnBegins l J p m s w → Agreed J m s (shown w m) → IsCalm m x
    → ((u : Station) → HasBooked J (after_reading w m) u
    → HasBooked (one_more J x) (after_entry (after_reading w m) x) u)
    → (after_entry (after_reading w m) x).collisions ≡ (after_reading w m).collisions
    → IsTied (one_more J x) p m (if ends_motion (Some x) then None else Noted J p m s w)
    (after_entry (after_reading w m) x)
    → SparesEnds J (after_reading w m) (after_entry (after_reading w m) x)
    → TurnLeaves J (one_more J x) p m (mind_after J m p s (shown w m) (Some x)) w (after_entry (after_reading w m) x)
    × SparesEnds J w (after_entry (after_reading w m) x)
some_leaves l J p m s w x b t q calm plates n i spares =
    let c = t.as_booked in let v = after_entry (after_reading w m) x in (
      record {
        as_booked = as_booked_then J (one_more J x) p m s (shown w m) (Some x) (λ f. IsTied (one_more J x) p m f v) c q
            refl (still_healthy J m s x c calm) (still_unasked J m s x c calm) i;
        plates = λ u k. plates u (leaves_plates J p m s.axis w b c.tied u ∙ k);
        collisions = n ∙ leaves_collisions J p m s.axis w b c.tied;
      },
      spares_then J w (after_reading w m) v (read_spares_ends J p m s.axis w b c.tied) spares,
    )

-- where an entry moves no plate, and its command none
pub plates_as : (J : List Entry) (x : Entry) (w v : Simulated) (u : Station) → Good J → Good (one_more J x)
    → (step x (after J)).plate ≡ (after J).plate → plate_at v u ≡ plate_at w u → HasBooked J w u
    → HasBooked (one_more J x) v u
plates_as J x w v u g k st h i =
    h ∙ (i ∙ sym (told_left (one_more J x) u k ∙ (ap (λ (y : Snapshot). y.plate u) (after_snoc opening J x)
    ∙ (ap (λ (f : Station → Option ℕ). f u) st ∙ sym (told_left J u g)))))

pub tied_plain : (J : List Entry) (p : Plan) (m : Machine) (f : Option Following) (w : Simulated) → IsTied J p m f w
    → IsPlain w
tied_plain J p m f w (inl t) = t.plain
tied_plain J p m f w (inr t) = t.goes.plain

pub rests_then : (J : List Entry) (p : Plan) (m : Machine) (f : Option Following) (w : Simulated) → IsTied J p m f w
    → ((a : Axis) → machine_of_axis a ≡ m → going_of J a ≡ None) → MachineRests J m f w
rests_then J p m f w (inl t) h = t
rests_then J p m f w (inr t) h =
    absurd (some_not (going_of J t.mover) t.to t.goes.booked (h t.mover t.of))

-- the robot stands after the reading as booked
pub not_robot : (m : Machine) → same_machine m machine.Robot ≡ false → m ≢ machine.Robot
not_robot m h e = let c : true ≡ false = ap (λ (x : Machine). same_machine x machine.Robot) (sym e) ∙ h in cc c

pub stands_by : (J : List Entry) (w : Simulated) (m : Machine) → IsPlain w → m ≢ machine.Robot → RobotMayStand J w
    → RobotMayStand J (after_reading w m)
stands_by J w m t d r a e =
    subst (λ (x : AxisInWorld). StandsAs J a x.pose) (sym ((reading_spares J w machine.Robot m t d).axes a e)) (r a e)

stands_then : (J : List Entry) (p : Plan) (m : Machine) (f : Option Following) (w : Simulated) → IsPlain w
    → RobotMayStand J w → IsTied J p m f (after_reading w m) → RobotMayStand J (after_reading w m)
stands_then J p machine.Robot f w t r i =
    λ a e. inl (tied_stands J p machine.Robot f (after_reading w machine.Robot) i a e)
stands_then J p machine.Feed f w t r i = stands_by J w machine.Feed t (not_robot machine.Feed refl) r
stands_then J p machine.Table f w t r i = stands_by J w machine.Table t (not_robot machine.Table refl) r
stands_then J p machine.Press1 f w t r i = stands_by J w machine.Press1 t (not_robot machine.Press1 refl) r
stands_then J p machine.Press2 f w t r i = stands_by J w machine.Press2 t (not_robot machine.Press2 refl) r
stands_then J p machine.Deposit f w t r i = stands_by J w machine.Deposit t (not_robot machine.Deposit refl) r

-- the command of a Started moves no plate
pub started_plates : (a : Axis) (to : Pose) (w : Simulated) (u : Station) → IsPlain w
    → plate_at (after_entry w (Started a to)) u ≡ plate_at w u
started_plates a to w u t = started_part (λ (v : Simulated). plate_at v u) a to w t (λ b x y. refl) (λ y. refl)

-- what is told of a plate, and the machine, is in the world before the entry
record AtEntry (l : BookLimits) (J : List Entry) (p : Plan) (m : Machine) (s : Mind) (w : Simulated) : Type 0 where
  belt : has_belt m ≡ false
  begins : TurnBegins l J p m s w
  agreed : Agreed J m s (shown w m)
  tied : IsTied J p m (Noted J p m s w) (after_reading w m)

booked_then : (l : BookLimits) (J : List Entry) (p : Plan) (m : Machine) (s : Mind) (w : Simulated) (u : Station)
    → AtEntry l J p m s w → is_within u ≡ true → is_failed J (machine_of_station u) ≡ false
    → HasBooked J (after_reading w m) u
booked_then l J p m s w u t h f =
    leaves_plates J p m s.axis w t.belt t.begins.as_booked.tied u ∙ t.begins.plates u h f

abbrev LeftBy : List Entry → Plan → Machine → Mind → Simulated → Entry → Type 0
LeftBy J p m s w x =
    TurnLeaves J (one_more J x) p m (mind_after J m p s (shown w m) (Some x)) w (after_entry (after_reading w m) x)
    × SparesEnds J w (after_entry (after_reading w m) x)

started_leaves : (l : BookLimits) (J : List Entry) (p : Plan) (m : Machine) (s : Mind) (w : Simulated) (a : Axis)
    (to : Pose) → AtEntry l J p m s w → Good J → Good (one_more J (Started a to))
    → first_of l J (Started a to) ≡ None → machine_of_axis a ≡ m → LeftBy J p m s w (Started a to)
started_leaves l J p m s w a to t g k free e =
    let x = Started a to in let v = after_reading w m in let f = Noted J p m s w in
    let nb = no_belt a m e t.belt in
    let may = from_rest l J a to nb t.begins.legal free in
    let plain = tied_plain J p m f v t.tied in
    let stands = stands_then J p m f w (tied_plain J p m s.axis w t.begins.as_booked.tied) t.begins.robot t.tied in
    let rested = subst (λ (n : Machine). MachineRests J n f v) (sym e)
    (rests_then J p m f v t.tied (λ c i. may.rest c (i ∙ sym e))) in
    some_leaves l J p m s w x t.belt t.begins t.agreed (record { unfailed = refl; unasked = refl })
    (λ u h. plates_as J x v (after_entry v x) u g k refl (started_plates a to v u plain) h)
    (starts_stay_clear J a to v plain stands (may.rest a refl) (safe_state (one_more J x) k))
    (subst (λ (n : Machine). IsTied (one_more J x) p n f (after_entry v x)) e
    (machine_starts J p a to f v nb (fair_then p w v (reading_long w m) t.begins.fair) may.own_pose may.elsewhere
    rested)) (started_spares J a to v plain)

-- an entry that speaks of no axis, and whose command moves none
apart_leaves : (l : BookLimits) (J : List Entry) (p : Plan) (m : Machine) (s : Mind) (w : Simulated) (x : Entry)
    → AtEntry l J p m s w → IsCalm m x → ((a : Axis) → rests a x ≡ None) → ((a : Axis) → sends a x ≡ None)
    → ends_motion (Some x) ≡ false → MovesPlate J (after_reading w m) x
    → SparesEnds J (after_reading w m) (after_entry (after_reading w m) x) → LeftBy J p m s w x
apart_leaves l J p m s w x t calm r q e n spares =
    let v = after_reading w m in let f = Noted J p m s w in
    some_leaves l J p m s w x t.belt t.begins t.agreed calm n.plates n.collisions
    (subst (λ (y : Bool). IsTied (one_more J x) p m (if y then None else f) (after_entry v x)) (sym e)
    (spared_stays J (one_more J x) p m f v (after_entry v x)
    (record {
      plain = n.plain;
      long = entry_long v x;
      at = λ a i. at_before J x a (r a);
      going = λ a i. going_before J x a (q a);
      axes = λ a i. n.axes a;
    }) t.tied)) spares

-- a claim and a yield have no command
moves_none : (J : List Entry) (x : Entry) (v : Simulated) → Good J → Good (one_more J x) → IsPlain v
    → (step x (after J)).plate ≡ (after J).plate → after_entry v x ≡ v → MovesPlate J v x
moves_none J x v g k t st h =
    record {
      plain = subst (λ (y : Simulated). IsPlain y) (sym h) t;
      axes = λ a. ap (λ (y : Simulated). axis_at y a) h;
      plates = λ u i. plates_as J x v (after_entry v x) u g k st (ap (λ (y : Simulated). plate_at y u) h) i;
      collisions = ap (λ (y : Simulated). y.collisions) h;
    }

within_grips : (x : Arm) (u : Station) → grips_at x u ≡ true → is_within u ≡ true
within_grips arm.Arm1 station.FeedIn h = h
within_grips arm.Arm1 station.DepEnd h = h
within_grips arm.Arm2 station.FeedIn h = h
within_grips arm.Arm2 station.DepEnd h = h
within_grips x u h = refl

within_drops : (x : Arm) (u : Station) → drops_at x u ≡ true → is_within u ≡ true
within_drops arm.Arm1 station.FeedIn h = h
within_drops arm.Arm1 station.DepEnd h = h
within_drops arm.Arm2 station.FeedIn h = h
within_drops arm.Arm2 station.DepEnd h = h
within_drops x u h = refl

arm_healthy : {T : Type 0} (J : List Entry) (m : Machine) (s : Mind) (x : Arm) → m ≡ machine.Robot → AsBooked J m s T
    → is_failed J (machine_of_station (station_of_arm x)) ≡ false
arm_healthy J m s arm.Arm1 r t = ap (λ (n : Machine). is_failed J n) (sym r) ∙ t.healthy
arm_healthy J m s arm.Arm2 r t = ap (λ (n : Machine). is_failed J n) (sym r) ∙ t.healthy

within_arm : (x : Arm) → is_within (station_of_arm x) ≡ true
within_arm arm.Arm1 = refl
within_arm arm.Arm2 = refl

handed_ready : (l : BookLimits) (J : List Entry) (p : Plan) (m : Machine) (s : Mind) (w : Simulated) (x : Arm)
    (u : Station) (e : Entry) → AtEntry l J p m s w → m ≡ machine.Robot → first_of l J e ≡ None → is_within u ≡ true
    → is_failed J (machine_of_station u) ≡ false → IsHanded l J (after_reading w m) x u e
handed_ready l J p m s w x u e t r free h o =
    record {
      legal = t.begins.legal;
      allowed = free;
      plain = tied_plain J p m (Noted J p m s w) (after_reading w m) t.tied;
      stands = λ a i. tied_stands J p m (Noted J p m s w) (after_reading w m) t.tied a (i ∙ sym r);
      arm = booked_then l J p m s w (station_of_arm x) t (within_arm x)
          (arm_healthy J m s x r t.begins.as_booked);
      there = booked_then l J p m s w u t h o;
    }

kind_leaves : (l : BookLimits) (J : List Entry) (p : Plan) (m : Machine) (s : Mind) (w : Simulated) (x : Entry)
    → AtEntry l J p m s w → Good J → Good (one_more J x) → first_of l J x ≡ None → Kind m x → LeftBy J p m s w x
kind_leaves l J p m s w (Started a to) t g k free h = started_leaves l J p m s w a to t g k free h
kind_leaves l J p m s w (Claimed n z) t g k free h =
    let v = after_reading w m in
    apart_leaves l J p m s w (Claimed n z) t (record { unfailed = refl; unasked = refl }) (λ a. refl) (λ a. refl) refl
    (moves_none J (Claimed n z) v g k (tied_plain J p m (Noted J p m s w) v t.tied) refl refl) (spares_same J v v refl)
kind_leaves l J p m s w (Yielded n z) t g k free h =
    let v = after_reading w m in
    apart_leaves l J p m s w (Yielded n z) t (record { unfailed = refl; unasked = refl }) (λ a. refl) (λ a. refl) refl
    (moves_none J (Yielded n z) v g k (tied_plain J p m (Noted J p m s w) v t.tied) refl refl) (spares_same J v v refl)
kind_leaves l J p m s w (Gripped x j u) t g k free h =
    let i = within_grips x u (grips_there l J x j u g free) in
    let h = handed_ready l J p m s w x u (Gripped x j u) t h free i (grips_healthy l J x j u g free) in
    apart_leaves l J p m s w (Gripped x j u) t (record { unfailed = refl; unasked = refl }) (λ a. refl) (λ a. refl) refl
    (grips l J (after_reading w m) x j u h) (gripped_spares l J (after_reading w m) x j u g h)
kind_leaves l J p m s w (Dropped x j u) t g k free h =
    let i = within_drops x u (drops_there l J x j u g free) in
    let h = handed_ready l J p m s w x u (Dropped x j u) t h free i (drops_healthy l J x j u g free) in
    apart_leaves l J p m s w (Dropped x j u) t (record { unfailed = refl; unasked = refl }) (λ a. refl) (λ a. refl) refl
    (drops l J (after_reading w m) x j u h) (dropped_spares l J (after_reading w m) x j u g h)
kind_leaves l J p m s w x t g k free h = absurd h

-- THE END OF A MOTION

record Ending (J : List Entry) (m : Machine) (a : Axis) (to : Pose) : Type 0 where
  entry : Entry
  so : ending J a to ≡ Some entry
  brings : BringsTo a to entry
  calm : IsCalm m entry
  ends : ends_motion (Some entry) ≡ true
  plates : (step entry (after J)).plate ≡ (after J).plate

arrival : (J : List Entry) (m : Machine) (a : Axis) (to : Pose) → ending J a to ≡ Some (ArrivedAt a to)
    → Ending J m a to
arrival J m a to h =
    record {
      entry = ArrivedAt a to;
      so = h;
      brings = (refl, refl);
      calm = record { unfailed = refl; unasked = refl };
      ends = refl;
      plates = refl;
    }

-- a press that went to its top has a plate
full : (J : List Entry) (u : Station) → Good J → is_occupied J u ≡ true → (k : ℕ) × (plate_of J u ≡ Some k)
full J u g h =
    let c = ap (λ (x : Situation). x.occupied u) (good_cell J g) in
    let y = is_some_tells (Left J u) (sym c ∙ h) in (y.0, told_left J u g ∙ y.1)

forging : (J : List Entry) (m : Machine) (a : Axis) (to : Pose) (press : Machine) (k : ℕ) → press_axis press ≡ Some a
    → to ≡ pose.Top → ending J a to ≡ Some (Forged press k) → Ending J m a to
forging J m a to press k h e so =
    record {
      entry = Forged press k;
      so = so;
      brings = (h, e);
      calm = record { unfailed = refl; unasked = refl };
      ends = refl;
      plates = refl;
    }

press_one : (l : BookLimits) (J : List Entry) (m : Machine) (to : Pose) (b : Bool) → same_pose to pose.Top ≡ b
    → Good J → legal l J ≡ true → going_of J axis.PressOne ≡ Some to → is_failed J machine.Press1 ≡ false
    → Ending J m axis.PressOne to
press_one l J m to false e g law go ok =
    arrival J m axis.PressOne to (ap (λ (b : Bool). if b then option_map (λ k. Forged machine.Press1 k)
    (plate_of J station.Press1) else Some (ArrivedAt axis.PressOne to)) e)
press_one l J m to true e g law go ok =
    let top = pose_same to pose.Top e in
    let there : carries_from axis.PressOne to ≡ Some station.Press1 = ap (carries_from axis.PressOne) top in
    let f = full J station.Press1 g (carrying_when_legal l J law axis.PressOne to station.Press1 go there ok) in
    forging J m axis.PressOne to machine.Press1 f.0 refl top
    (ap (λ (b : Bool). if b then option_map (λ k. Forged machine.Press1 k) (plate_of J station.Press1)
    else Some (ArrivedAt axis.PressOne to)) e ∙ ap (λ (o : Option ℕ). option_map (λ k. Forged machine.Press1 k) o) f.1)

press_two : (l : BookLimits) (J : List Entry) (m : Machine) (to : Pose) (b : Bool) → same_pose to pose.Top ≡ b
    → Good J → legal l J ≡ true → going_of J axis.PressTwo ≡ Some to → is_failed J machine.Press2 ≡ false
    → Ending J m axis.PressTwo to
press_two l J m to false e g law go ok =
    arrival J m axis.PressTwo to (ap (λ (b : Bool). if b then option_map (λ k. Forged machine.Press2 k)
    (plate_of J station.Press2) else Some (ArrivedAt axis.PressTwo to)) e)
press_two l J m to true e g law go ok =
    let top = pose_same to pose.Top e in
    let there : carries_from axis.PressTwo to ≡ Some station.Press2 = ap (carries_from axis.PressTwo) top in
    let f = full J station.Press2 g (carrying_when_legal l J law axis.PressTwo to station.Press2 go there ok) in
    forging J m axis.PressTwo to machine.Press2 f.0 refl top
    (ap (λ (b : Bool). if b then option_map (λ k. Forged machine.Press2 k) (plate_of J station.Press2)
    else Some (ArrivedAt axis.PressTwo to)) e ∙ ap (λ (o : Option ℕ). option_map (λ k. Forged machine.Press2 k) o) f.1)

ending_of : (l : BookLimits) (J : List Entry) (m : Machine) (a : Axis) (to : Pose) → is_belt a ≡ false → Good J
    → legal l J ≡ true → going_of J a ≡ Some to → is_failed J (machine_of_axis a) ≡ false → Ending J m a to
ending_of l J m axis.FeedBelt to s g law go ok = let x : false ≡ true = sym s in cc x
ending_of l J m axis.DepositBelt to s g law go ok = let x : false ≡ true = sym s in cc x
ending_of l J m axis.PressOne to s g law go ok = press_one l J m to (same_pose to pose.Top) refl g law go ok
ending_of l J m axis.PressTwo to s g law go ok = press_two l J m to (same_pose to pose.Top) refl g law go ok
ending_of l J m a to s g law go ok = arrival J m a to refl

came_leaves : (l : BookLimits) (J : List Entry) (p : Plan) (m : Machine) (s : Mind) (w : Simulated)
    → has_belt m ≡ false → TurnBegins l J p m s w → Agreed J m s (shown w m) → Good J
    → (c : MachineCame J p m (Noted J p m s w) (after_reading w m)) → (n : Ending J m c.mover c.to)
    → Good (one_more J n.entry) → LeftBy J p m s w n.entry
came_leaves l J p m s w b t q g c n k =
    let x = n.entry in let v = after_reading w m in let f = Noted J p m s w in
    let same = brings_same c.mover c.to v x (no_belt c.mover m c.of b) c.came.plain n.brings in
    some_leaves l J p m s w x b t q n.calm
    (λ u h. plates_as J x v (after_entry v x) u g k n.plates (ap (λ (y : Simulated). plate_at y u) same) h)
    (ap (λ (y : Simulated). y.collisions) same)
    (subst (λ (y : Bool). IsTied (one_more J x) p m (if y then None else f) (after_entry v x)) (sym n.ends)
    (machine_ends J p m f v x b c n.brings)) (spares_same J v (after_entry v x) same)

-- A TURN

useful_wants : (l : BookLimits) (J : List Entry) (plan : ℕ) (m : Machine) (x : Entry)
    → is_useful l J plan m x ≡ true → wants l (situation_of J) plan m x ≡ true
unfolding is_useful_now
useful_wants l J plan m x h =
    (and_both (wants l (situation_of J) plan m x) (is_bookable l (situation_of J) x) h).0

-- what a machine does next it wants
pub proposed_wants : (l : BookLimits) (J : List Entry) (plan : ℕ) (m : Machine) (x : Entry)
    → Some x ≡ proposed l J plan m → wants l (situation_of J) plan m x ≡ true
proposed_wants l J plan m x h = useful_wants l J plan m x (some_proposed l J plan m (Some x) h)

pub good_then : (l : BookLimits) (J : List Entry) (x : Entry) → Good J → first_of l J x ≡ None → Good (one_more J x)
good_then l J x g free =
    let ok : allowed l J x ≡ true = ap (λ (o : Option Refusal). is_none o) free in good_step l J x g ok

abbrev pub Free : BookLimits → List Entry → Option Entry → Type 0
Free l J e = IfSome e (λ x. first_of l J x ≡ None)

abbrev pub Turned : List Entry → Plan → Machine → Mind → Simulated → Option Entry → Type 0
Turned J p m s w e =
    TurnLeaves J (J ++ option_to_list e) p m (mind_after J m p s (shown w m) e) w (after_turn w m e)
    × SparesEnds J w (after_turn w m e)

proposed_leaves : (l : BookLimits) (J : List Entry) (p : Plan) (m : Machine) (s : Mind) (w : Simulated)
    (e : Option Entry) → AtEntry l J p m s w → Good J → IsProposed l J m p.plates e → Free l J e → Turned J p m s w e
proposed_leaves l J p m s w None t g d free = none_leaves l J p m s w t.belt t.begins t.agreed t.tied
proposed_leaves l J p m s w (Some x) t g d free =
    kind_leaves l J p m s w x t g (good_then l J x g free) free
    (kind_of l (situation_of J) p.plates m x t.belt (proposed_wants l J p.plates m x d))

-- a machine that rests and proposes, whatever else it would decide
pub proposed_does : (l : BookLimits) (J : List Entry) (p : Plan) (m : Machine) (s : Mind) (w : Simulated)
    (e : Option Entry) → has_belt m ≡ false → TurnBegins l J p m s w → MachineRests J m s.axis w
    → IsProposed l J m p.plates e → Free l J e → Turned J p m s w e
proposed_does l J p m s w e b t r d free =
    proposed_leaves l J p m s w e (record {
      belt = b;
      begins = t;
      agreed = agreed_then l J p m s w b t;
      tied = inl (rests_read J p m s.axis w b r);
    }) (good_when_legal l J t.legal) d free

ended_leaves : (l : BookLimits) (J : List Entry) (p : Plan) (m : Machine) (s : Mind) (w : Simulated) (e : Option Entry)
    → has_belt m ≡ false → TurnBegins l J p m s w → Agreed J m s (shown w m) → Good J
    → (c : MachineCame J p m (Noted J p m s w) (after_reading w m)) → (n : Ending J m c.mover c.to)
    → e ≡ Some n.entry → Free l J e → Turned J p m s w e
ended_leaves l J p m s w None b t q g c n h free = cc h
ended_leaves l J p m s w (Some x) b t q g c n h free =
    let y = some_same x n.entry h in
    subst (λ (z : Entry). LeftBy J p m s w z) (sym y)
    (came_leaves l J p m s w b t q g c n
    (good_then l J n.entry g (subst (λ (z : Entry). first_of l J z ≡ None) y free)))

turn_by : (l : BookLimits) (J : List Entry) (p : Plan) (m : Machine) (s : Mind) (w : Simulated) (e : Option Entry)
    → has_belt m ≡ false → TurnBegins l J p m s w → Agreed J m s (shown w m) → Good J
    → WentOn J p m (Noted J p m s w) (after_reading w m) → IsDecided l J m p s (shown w m) e → Free l J e
    → Turned J p m s w e
turn_by l J p m s w e b t q g (inl i) d free =
    proposed_leaves l J p m s w e (record { belt = b; begins = t; agreed = q; tied = i.1 }) g
    (subst (λ (k : Ruling). IsRuled l J m p.plates k e)
    (ruled_proposes J p m s (shown w m) t.as_booked (unsigned J m s (shown w m) b) i.0 q) d) free
turn_by l J p m s w e b t q g (inr c) d free =
    let a = c.mover in let nb = no_belt a m c.of b in
    let ok = ap (λ (n : Machine). is_failed J n) c.of ∙ t.as_booked.healthy in
    let n = ending_of l J m a c.to nb g t.legal c.came.booked ok in
    let moves = subst (λ (x : Machine). motion_of_machine J p x ≡ Some (motion_by J p a c.to)) c.of
    (moves_as J p a c.to (after_reading w m) nb c.came.booked c.came.others) in
    let rules = ruled_end J p m s (shown w m) (motion_by J p a c.to) t.as_booked moves c.came.verdict q
    ∙ ap books n.so in
    ended_leaves l J p m s w e b t q g c n (subst (λ (k : Ruling). IsRuled l J m p.plates k e) rules d) free

pub turn_does : (l : BookLimits) (J : List Entry) (p : Plan) (m : Machine) (s : Mind) (w : Simulated)
    (e : Option Entry) → has_belt m ≡ false → TurnBegins l J p m s w → IsDecided l J m p s (shown w m) e → Free l J e
    → Turned J p m s w e
turn_does l J p m s w e b t d free =
    turn_by l J p m s w e b t (agreed_then l J p m s w b t) (good_when_legal l J t.legal)
    (machine_goes J p m s.axis w b t.as_booked.tied) d free

pub turn_keeps : TurnKeeps
turn_keeps l J p m s w e b t d free = (turn_does l J p m s w e b t d free).0
