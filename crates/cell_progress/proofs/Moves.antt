-- What held before an entry, and what it leaves as it was
use Rattle.std.proofs.Common.{◌≡◌, ℕ, Bool, true, false, Some, None, refl, ap, ◌∙◌, arith, subst, ◌⊎◌, inl}
use Rattle.cell_types.specs.declared.words.Machine.{Machine}
use Rattle.cell_types.specs.declared.words.Station.{Station}
use Rattle.cell_types.specs.declared.words.Axis.{Axis}
use Rattle.cell_types.specs.declared.words.Pose.{Pose}
use Rattle.cell_types.specs.declared.words.Zone.{Zone}
use Rattle.cell_types.specs.declared.words.Entry.{Entry}
use Rattle.cell_types.specs.declared.words.Entry.TheVariants.{Claimed, Yielded, Started, Arrived, Repaired}
use Rattle.cell_types.specs.Same.{same_machine, same_zone}
use Rattle.cell_types.specs.Cell.{axis_of_arm, machine_of_axis, owner, visitor}
use Rattle.cell_types.specs.After.{Snapshot, is_machine, step}
use Rattle.cell_rules.specs.First.{any_visited, handing_tests}
use Rattle.cell_rules.proofs.Safe.Facts.{pose_same, machine_same, zone_same, axes_of, rest, Passed, passed_first}
use Rattle.cell_rules.proofs.Safe.Motion.{ArmSafe, Facing, Spot, spot_arm, spot_station}
use Rattle.cell_rules.proofs.Safe.Step.{hands, at_spot}
use Rattle.cell_progress.specs.Orders.{cell_of, unnumbered}
use Rattle.cell_progress.proofs.Machines.{Which, not_so, press}
use Rattle.cell_progress.proofs.Happening.{Happens, by_wish, Wanted}
use Rattle.cell_progress.proofs.Taken.{taken, occupied_after}
use Rattle.cell_progress.proofs.Passing.{Allowed}

pub record Handed (s : Snapshot) (y : Spot) (src dest : Station) (k : ℕ) : Type 0 where
  pub faced : Facing (axes_of s) s.holder y
  pub out : axes_of s (axis_of_arm (spot_arm y)) ≡ rest Pose.Out
  pub full : s.plate src ≡ Some k
  pub empty : s.plate dest ≡ None

-- the arm that hands a plate over is out at the spot
pub handed : (s : Snapshot) (y : Spot) (src dest : Station) (k : ℕ) → ArmSafe (axes_of s) s.holder (spot_arm y)
    → Passed (handing_tests (cell_of s) (spot_arm y) (spot_station y) src dest k) → Handed s y src dest k
handed s y src dest k v h =
    let w = hands (unnumbered s) (spot_arm y) (spot_station y) src dest k v h in
    record { faced = at_spot (unnumbered s) y src dest k w; out = w.out; full = w.full; empty = w.empty }

abbrev is_claim : Entry → Bool
is_claim (Claimed m z) = true
is_claim _ = false

abbrev is_start : Entry → Bool
is_start (Started a to) = true
is_start _ = false

-- who holds a zone held it before, unless he claims it now
pub was_held : (s : Snapshot) (e : Entry) (z : Zone) (m : Machine) → is_claim e ≡ false
    → (step e s).holder z ≡ Some m → s.holder z ≡ Some m
was_held s (Claimed n y) z m i g = cc
was_held s _ z m i g = grind arith

-- what moves moved before, unless it starts now
pub was_going : (s : Snapshot) (e : Entry) (a : Axis) (q : Pose) → is_start e ≡ false
    → (step e s).going a ≡ Some q → s.going a ≡ Some q
was_going s (Started b to) a q i g = cc
was_going s _ a q i g = grind arith

-- no visitor holds a zone of a machine that is cleared or repaired
pub not_visited : (s : Snapshot) (m : Machine) (z : Zone) → Passed (any_visited (cell_of s) m)
    → s.holder z ≡ Some (visitor z) → same_machine (owner z) m ≡ false
unfolding any_visited is_machine
not_visited s m z h e = grind (arith, machine_same)

-- an axis on which a visitor relies stays at rest
pub relied_on : (s : Snapshot) (e : Entry) (y : Axis) (z : Zone) (r : Pose) → Allowed s e
    → s.holder z ≡ Some (visitor z) → owner z ≡ machine_of_axis y → axes_of s y ≡ rest r → axes_of (step e s) y ≡ rest r
unfolding is_machine
relied_on s (Repaired m) y z r p h o g =
    let n : same_machine (machine_of_axis y) m ≡ false =
    rw (← o) (not_visited s m z (passed_first (any_visited (cell_of s) m) _ p.1.1) h) in
    rw n g
relied_on s _ y z r p h o g = grind (arith, pose_same)

-- whoever gives up a zone holds it
pub held_before : (s : Snapshot) (m : Machine) (z : Zone) → Allowed s (Yielded m z)
    → s.holder z ≡ Some m
unfolding is_machine
held_before s m z h = grind (arith, machine_same)

-- a machine keeps its zone unless it wants to give it up or is repaired
pub keeps_zone : (plan : ℕ) (may : Machine → Bool) (s : Snapshot) (e : Entry) (y : Zone) (w : Machine)
    → Happens plan may (cell_of s) e → Allowed s e
    → ((by : Machine) → Wanted plan (cell_of s) by (Yielded w y) → ⊥) → (e ≡ Repaired w → ⊥)
    → s.holder y ≡ Some w → (step e s).holder y ≡ Some w
unfolding is_machine
keeps_zone plan may s (Claimed m z) y w _ p _ _ d = grind (arith, pose_same)
keeps_zone plan may s (Yielded m z) y w h p u r d = rw (not_so (same_zone z y) gives) d
  where
    gives : same_zone z y ≡ true → ⊥
    gives i =
        let j : z ≡ y = zone_same z y i in
        let f : s.holder z ≡ Some m = held_before s m z p in
        let g : s.holder z ≡ Some w = ap s.holder j ∙ d in
        let k : Yielded m z ≡ Yielded w y = cc in
        by_wish plan may (cell_of s) (Yielded w y) (subst (Happens plan may (cell_of s)) k h) refl u
keeps_zone plan may s (Repaired m) y w h p u r d =
    let n : m ≡ w → ⊥ = λ i. r (ap (λ (n : Machine). Repaired n) i) in grind (arith, machine_same)
keeps_zone plan may s _ y w h p u r d = d

-- a press comes to Top by forging its plate
pub came_top : (s : Snapshot) (e : Entry) (x : Which) → Allowed s e
    → (step e s).at (press x).axis ≡ Pose.Top → (s.at (press x).axis ≡ Pose.Top)
    ⊎ ((s.going (press x).axis ≡ Some Pose.Top) × (occupied_after e (taken s) (press x).station ≡ true))
came_top s (Arrived a q) x p g = inl (grind (arith, pose_same))
came_top s _ x p g = grind (arith, pose_same)
