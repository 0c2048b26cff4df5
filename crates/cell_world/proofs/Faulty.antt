-- A fault that keeps an axis from its end hides that end from the axis's watch
use Rattle.std.proofs.Common.{◌≡◌, ◌≤◌, ℕ, zero, suc, ◌+◌, ◌-◌, ◌==◌, ◌||◌, Bool, true, false, Option, Some, None}
use Rattle.std.proofs.Common.{refl, arith, sym, ap, ◌∙◌, if◌then◌else◌, subst}
use Rattle.std.proofs.lemmas.Bool.Decides.{nat_tests}
use Rattle.std.specs.List.{list_any}
use Rattle.cell_types.specs.Cell.{machine_of_axis}
use Rattle.cell_diagnosis.specs.declared.motion.Motion.{Motion}
use Rattle.cell_diagnosis.specs.declared.reading.Reading.{Reading}
use Rattle.cell_diagnosis.specs.AxisFacts.{shows_alone}
use Rattle.cell_diagnosis.specs.Readings.{Seen, seen}
use Rattle.cell_sim.specs.declared.fault.Fault.{Fault}
use Rattle.cell_sim.specs.declared.fault.Fault.TheVariants as fault
use Rattle.cell_sim.specs.declared.motion.Moving.{Moving}
use Rattle.cell_sim.specs.declared.motion.Phase.{Phase}
use Rattle.cell_sim.specs.declared.motion.Phase.TheVariants.{Begun, Seen as IsSeen, Between, Arrived}
use Rattle.cell_sim.specs.Looks.{is_belt}
use Rattle.cell_sim.specs.Moves.{arrived_at, moved_bits, next_phase, phase_after, shown_bits}
use Rattle.cell_sim.specs.Moves.{shown_by_fault, switch_bit}
use Rattle.cell_sim.specs.Readings.{after_reading, shown, shown_now, switches_of}
use Rattle.cell_sim.specs.Simulated.{Simulated}
use Rattle.cell_world.specs.Agreeing.{bits_at}
use Rattle.cell_world.specs.Faulty.{FaultHidesEnd, GoesBy, IsSwitched, IsWithin, ReadingHidesEnd, ReadingsHideEnd}
use Rattle.cell_world.specs.Faulty.{StaysHidden, before_end, blank_in_all, is_barred, read_once, readings_left}
use Rattle.cell_world.specs.Faulty.{seen_next}
use Rattle.cell_world.proofs.Any.{bits_shown}
use Rattle.cell_world.proofs.FaultBits.{all_alone, both_alone, from_alone, none_alone, none_kept, same_kept}
use Rattle.cell_world.proofs.FaultSteps.{Follows, follows_after, gone, others_after, shown_missing, shown_read, skip}
use Rattle.cell_world.proofs.FaultSteps.{switches_then}
use Rattle.cell_world.proofs.Steps.{either}

-- WHAT IS SHOWN IN A PHASE

-- by these switches the end isn't shown alone
abbrev Hidden : Motion → ℕ → Type 0
Hidden m byte = shows_alone m.to (Some (bits_at m.axis byte)) ≡ false

from_hides : (m : Motion) → IsSwitched m → Hidden m (switch_bit m.from)
from_hides m t = from_alone m.axis m.from m.to t.switches t.from_pose t.elsewhere

moved_hides : (m : Motion) (p : Phase) → IsSwitched m → arrived_at p ≡ false
    → Hidden m (moved_bits m.from m.to p)
moved_hides m Begun t e = from_hides m t
moved_hides m IsSeen t e = from_hides m t
moved_hides m (Between n) t e = none_alone m.axis m.to
moved_hides m Arrived t e = cc e

abbrev bits_in : Motion → Option Fault → Phase → ℕ
bits_in m f p = shown_by_fault m.axis m.from p f (moved_bits m.from m.to p)

-- a fault that is to keep the axis from its end hides it
barred_hides : (m : Motion) (f : Option Fault) (p : Phase) → IsSwitched m → is_barred f p ≡ true
    → Hidden m (bits_in m f p)
barred_hides m (Some fault.NoMotion) Begun t h = from_hides m t
barred_hides m (Some fault.NoMotion) IsSeen t h = from_hides m t
barred_hides m (Some fault.NoMotion) (Between n) t h = cc h
barred_hides m (Some fault.NoMotion) Arrived t h = cc h
barred_hides m (Some fault.KeepsOld) Begun t h =
    subst (λ (n : ℕ). Hidden m n) (sym (same_kept m.from)) (from_hides m t)
barred_hides m (Some fault.KeepsOld) IsSeen t h =
    subst (λ (n : ℕ). Hidden m n) (sym (same_kept m.from)) (from_hides m t)
barred_hides m (Some fault.KeepsOld) (Between n) t h =
    subst (λ (n : ℕ). Hidden m n) (sym (none_kept m.from)) (from_hides m t)
barred_hides m (Some fault.KeepsOld) Arrived t h =
    both_alone m.axis m.from m.to t.switches t.from_pose t.to_pose t.elsewhere
barred_hides m (Some fault.Both) Begun t h = from_hides m t
barred_hides m (Some fault.Both) IsSeen t h = from_hides m t
barred_hides m (Some fault.Both) (Between n) t h = all_alone m.axis m.to t.switches
barred_hides m (Some fault.Both) Arrived t h = all_alone m.axis m.to t.switches
barred_hides m (Some (fault.Slow n)) p t h = cc h
barred_hides m (Some (fault.Silent n)) p t h = cc h
barred_hides m (Some fault.LosePlate) p t h = cc h
barred_hides m (Some fault.RefuseCommand) p t h = cc h
barred_hides m None p t h = cc h

-- else it is hidden until the axis arrives
unbarred_hides : (m : Motion) (f : Option Fault) (p : Phase) → IsSwitched m → is_barred f p ≡ false
    → arrived_at p ≡ false → Hidden m (bits_in m f p)
unbarred_hides m (Some fault.NoMotion) p t h e = moved_hides m p t e
unbarred_hides m (Some fault.KeepsOld) p t h e = cc h
unbarred_hides m (Some fault.Both) p t h e = cc h
unbarred_hides m (Some (fault.Slow n)) p t h e = moved_hides m p t e
unbarred_hides m (Some (fault.Silent n)) p t h e = moved_hides m p t e
unbarred_hides m (Some fault.LosePlate) p t h e = moved_hides m p t e
unbarred_hides m (Some fault.RefuseCommand) p t h e = moved_hides m p t e
unbarred_hides m None p t h e = moved_hides m p t e

-- THE NEXT PHASE

pub barred_next : (f : Option Fault) (further : ℕ) (p : Phase) → is_barred f p ≡ true
    → is_barred f (phase_after f further p) ≡ true
barred_next (Some fault.NoMotion) further Begun h = refl
barred_next (Some fault.NoMotion) further IsSeen h = refl
barred_next (Some fault.NoMotion) further (Between n) h = cc h
barred_next (Some fault.NoMotion) further Arrived h = cc h
barred_next (Some fault.KeepsOld) further p h = refl
barred_next (Some fault.Both) further p h = refl
barred_next (Some (fault.Slow n)) further p h = cc h
barred_next (Some (fault.Silent n)) further p h = cc h
barred_next (Some fault.LosePlate) further p h = cc h
barred_next (Some fault.RefuseCommand) further p h = cc h
barred_next None further p h = cc h

unbarred_next : (f : Option Fault) (further : ℕ) (p : Phase) → is_barred f p ≡ false
    → is_barred f (phase_after f further p) ≡ false
unbarred_next (Some fault.NoMotion) further Begun h = cc h
unbarred_next (Some fault.NoMotion) further IsSeen h = cc h
unbarred_next (Some fault.NoMotion) further (Between zero) h = refl
unbarred_next (Some fault.NoMotion) further (Between (suc n)) h = refl
unbarred_next (Some fault.NoMotion) further Arrived h = refl
unbarred_next (Some fault.KeepsOld) further p h = cc h
unbarred_next (Some fault.Both) further p h = cc h
unbarred_next (Some (fault.Slow n)) further p h = refl
unbarred_next (Some (fault.Silent n)) further p h = refl
unbarred_next (Some fault.LosePlate) further p h = refl
unbarred_next (Some fault.RefuseCommand) further p h = refl
unbarred_next None further p h = refl

-- where the axis leaves, so many readings are blank
leaves_next : (f : Option Fault) (further : ℕ) → is_barred f IsSeen ≡ false
    → phase_after f further IsSeen ≡ Between (blank_in_all f further)
leaves_next (Some fault.NoMotion) further h = cc h
leaves_next (Some fault.KeepsOld) further h = cc h
leaves_next (Some fault.Both) further h = cc h
leaves_next (Some (fault.Slow n)) further h = refl
leaves_next (Some (fault.Silent n)) further h = refl
leaves_next (Some fault.LosePlate) further h = refl
leaves_next (Some fault.RefuseCommand) further h = refl
leaves_next None further h = refl

-- before a motion's end one reading less is left, and it isn't at its end yet
record IsBefore (k blank : ℕ) (p : Phase) : Type 0 where
  left : k ≤ before_end blank p
  on_way : arrived_at p ≡ false

next_before : (f : Option Fault) (further k : ℕ) (p : Phase) → is_barred f p ≡ false
    → suc k ≤ before_end (blank_in_all f further) p → IsBefore k (blank_in_all f further) (phase_after f further p)
next_before f further k Begun h l = record { left = omega (arith, l); on_way = refl }
next_before f further k IsSeen h l =
    subst (λ (p : Phase). IsBefore k (blank_in_all f further) p) (sym (leaves_next f further h))
    (record { left = omega (arith, l); on_way = refl })
next_before f further k (Between zero) h l = absurd (omega (arith, l))
next_before f further k (Between (suc n)) h l = record { left = omega (arith, l); on_way = refl }
next_before f further k Arrived h l = absurd (omega (arith, l))

-- ONE READING

abbrev left_in : ℕ → Option Fault → ℕ → Phase → Option ℕ
left_in i f further p = if is_barred f p then None else Some (i + before_end (blank_in_all f further) p)

-- what a motion shows that is read doesn't show its end alone
record Hides (k : ℕ) (m : Motion) (i : ℕ) (f : Option Fault) (further : ℕ) (p : Phase) : Type 0 where
  hidden : Hidden m (bits_in m f p)
  within : IsWithin k (left_in i f further p)

pub within_barred : (b : Bool) (k n : ℕ) → b ≡ true → IsWithin k (if b then None else Some n)
within_barred true k n h = tt
within_barred false k n h = cc h

within_unbarred : (b : Bool) (k n : ℕ) → b ≡ false → k ≤ n → IsWithin k (if b then None else Some n)
within_unbarred true k n h l = cc h
within_unbarred false k n h l = l

unbarred_within : (b : Bool) (k n : ℕ) → b ≡ false → IsWithin k (if b then None else Some n) → k ≤ n
unbarred_within true k n h l = cc h
unbarred_within false k n h l = l

hides_next : (b : Bool) (k : ℕ) (m : Motion) (i : ℕ) (f : Option Fault) (further : ℕ) (p : Phase) → IsSwitched m
    → is_barred f p ≡ b → (i == 0) ≡ true → IsWithin (suc k) (left_in i f further p)
    → Hides k m i f further (phase_after f further p)
hides_next true k m i f further p t h e l =
    let q = phase_after f further p in
    let n = barred_next f further p h in
    record {
      hidden = barred_hides m f q t n;
      within = within_barred (is_barred f q) k (i + before_end (blank_in_all f further) q) n;
    }
hides_next false k m i f further p t h e l =
    let q = phase_after f further p in
    let n = unbarred_next f further p h in
    let none : i ≡ 0 = grind (arith, nat_tests, e) in
    let x : suc k ≤ i + before_end (blank_in_all f further) p = unbarred_within (is_barred f p) (suc k) _ h l in
    let y : suc k ≤ before_end (blank_in_all f further) p = omega (arith, x, none) in
    let z = next_before f further k p h y in
    let s : k ≤ before_end (blank_in_all f further) q = z.left in
    record {
      hidden = unbarred_hides m f q t n z.on_way;
      within = within_unbarred (is_barred f q) k (i + before_end (blank_in_all f further) q) n (omega (arith, s));
    }

less_missing : (b : Bool) (i k n : ℕ) → (i == 0) ≡ false → IsWithin (suc k) (if b then None else Some (i + n))
    → IsWithin k (if b then None else Some (i - 1 + n))
less_missing true i k n h l = tt
less_missing false i k n h l = let x : 1 ≤ i = grind (arith, nat_tests, h) in omega (arith, x, l)

pub next_as : (v : Moving) → v.stopped ≡ false → next_phase v ≡ phase_after v.fault v.further v.phase
next_as v s = rw s refl

hides_gone : (k : ℕ) (m : Motion) (v : Moving) (w : Simulated) → GoesBy m v w → IsWithin (suc k) (readings_left v)
    → (v.missing == 0) ≡ true → Hides k m v.missing v.fault v.further (next_phase v)
hides_gone k m v w t l e =
    subst (λ (p : Phase). Hides k m v.missing v.fault v.further p) (sym (next_as v t.driven))
    (hides_next (is_barred v.fault v.phase) k m v.missing v.fault v.further v.phase t.switched refl e l)

pub follows_goes : (m : Motion) (v : Moving) (w : Simulated) → GoesBy m v w
    → Follows m.axis (Some (read_once v)) w (after_reading w (machine_of_axis m.axis))
follows_goes m v w t = follows_after m.axis v m.from m.to w t.switched.switches t.others t.motion t.path t.driven t.axes

pub once_gone : (v : Moving) → (v.missing == 0) ≡ true → read_once v ≡ gone v
once_gone v e = rw e refl

once_skipped : (v : Moving) → (v.missing == 0) ≡ false → read_once v ≡ skip v
once_skipped v e = rw e refl

once_path : (v : Moving) → (read_once v).path ≡ v.path
once_path v = either (λ (u : Moving). u.path) (v.missing == 0) _ _ v.path refl refl

once_driven : (v : Moving) → (read_once v).stopped ≡ v.stopped
once_driven v = either (λ (u : Moving). u.stopped) (v.missing == 0) _ _ v.stopped refl refl

goes_then : (m : Motion) (v : Moving) (w : Simulated) → GoesBy m v w
    → GoesBy m (read_once v) (after_reading w (machine_of_axis m.axis))
goes_then m v w t =
    let u = after_reading w (machine_of_axis m.axis) in
    let y = follows_goes m v w t in
    record {
      switched = t.switched;
      axes = y.all ∙ t.axes;
      motion = y.own;
      path = once_path v ∙ t.path;
      driven = once_driven v ∙ t.driven;
      others = others_after m.axis (Some (read_once v)) w u y t.others;
    }

seen_bits : (m : Motion) (u : Simulated) → is_belt m.axis ≡ false
    → seen m (Some (shown_now u (machine_of_axis m.axis))) ≡ Some (bits_at m.axis (switches_of u m.axis))
unfolding seen
seen_bits m u s = ap (λ x. Some x) (bits_shown m.axis m.to u s)

-- what the watch sees of a reading that isn't missing
seen_then : (m : Motion) (v : Moving) (w : Simulated) → GoesBy m v w → (v.missing == 0) ≡ true
    → seen m (shown w (machine_of_axis m.axis)) ≡ Some (bits_at m.axis (shown_bits (gone v) m.axis m.from m.to))
seen_then m v w t e =
    let u = after_reading w (machine_of_axis m.axis) in
    let own = (follows_goes m v w t).own ∙ ap (λ (x : Moving). Some x) (once_gone v e) in
    ap (λ (r : Option Reading). seen m r) (shown_read m.axis v w t.switched.switches t.others t.motion e)
    ∙ (seen_bits m u t.switched.switches
    ∙ ap (λ (n : ℕ). Some (bits_at m.axis n)) (switches_then m.axis (gone v) m.from m.to u own t.path))

nothing_seen : (m : Motion) → shows_alone m.to (seen m None) ≡ false
unfolding seen shows_alone
nothing_seen m = refl

keeps_by : (b : Bool) (k : ℕ) (m : Motion) (v : Moving) (w : Simulated) → (v.missing == 0) ≡ b → GoesBy m v w
    → IsWithin (suc k) (readings_left v) → StaysHidden k m v w
keeps_by true k m v w e t l =
    let y = hides_gone k m v w t l e in
    record {
      hidden = ap (λ (s : Seen). shows_alone m.to s) (seen_then m v w t e) ∙ y.hidden;
      goes = goes_then m v w t;
      within = subst (λ (u : Moving). IsWithin k (readings_left u)) (sym (once_gone v e)) y.within;
    }
keeps_by false k m v w e t l =
    record {
      hidden = ap (λ (r : Option Reading). shows_alone m.to (seen m r))
          (shown_missing m.axis v w t.switched.switches t.others t.motion e) ∙ nothing_seen m;
      goes = goes_then m v w t;
      within = subst (λ (u : Moving). IsWithin k (readings_left u)) (sym (once_skipped v e))
          (less_missing (is_barred v.fault v.phase) v.missing k _ e l);
    }

pub reading_hides : ReadingHidesEnd
reading_hides k m v w t l = keeps_by (v.missing == 0) k m v w refl t l

-- READINGS IN TURN

neither : (b c : Bool) → b ≡ false → c ≡ false → (b || c) ≡ false
neither true c h k = cc h
neither false c h k = k

pub readings_hide : ReadingsHideEnd
readings_hide zero m v w t l = refl
readings_hide (suc k) m v w t l =
    let y = reading_hides k m v w t l in
    let u = after_reading w (machine_of_axis m.axis) in
    neither (shows_alone m.to (seen m (shown w (machine_of_axis m.axis))))
    (list_any (shows_alone m.to) (seen_next k m u)) y.hidden (readings_hide k m (read_once v) u y.goes y.within)

pub fault_hides : FaultHidesEnd
fault_hides k m fault.NoMotion duration w t l = readings_hide k m _ w t l
fault_hides k m fault.KeepsOld duration w t l = readings_hide k m _ w t l
fault_hides k m fault.Both duration w t l = readings_hide k m _ w t l
fault_hides k m (fault.Slow n) duration w t l = readings_hide k m _ w t (omega (arith, l))
fault_hides k m (fault.Silent n) duration w t l = readings_hide k m _ w t (omega (arith, l))
fault_hides k m fault.LosePlate duration w t l = readings_hide k m _ w t (omega (arith, l))
fault_hides k m fault.RefuseCommand duration w t l = readings_hide k m _ w t (omega (arith, l))
