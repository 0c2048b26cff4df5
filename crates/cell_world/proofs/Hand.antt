-- What the operator does by hand counts no collision
use Rattle.std.proofs.Common.{◌≡◌, Option, Some, None, List, [], ◌∷◌, refl, ap, ◌∙◌}
use Rattle.cell_types.specs.declared.words.Axis.{Axis}
use Rattle.cell_types.specs.declared.words.Machine.{Machine}
use Rattle.cell_types.specs.declared.words.Station.{Station}
use Rattle.cell_types.specs.Cell.{axes_of, home}
use Rattle.cell_types.specs.Texts.{all_station}
use Rattle.cell_ports.specs.declared.port.Act.{Act}
use Rattle.cell_ports.specs.declared.port.Act.TheVariants.{Home, Remove}
use Rattle.std.proofs.Common.{ℕ}
use Rattle.cell_sim.specs.declared.axis.AxisInWorld.{AxisInWorld}
use Rattle.cell_sim.specs.Hands.{after_hand, after_home, after_remove, axis_homed, carried, count_removed, is_anywhere}
use Rattle.cell_sim.specs.Hands.{is_plate_at, taken_out, taken_where}
use Rattle.cell_sim.specs.Parts.{axis_at, has_plate, in_turn, with_axis, with_plate}
use Rattle.cell_sim.specs.Simulated.{Simulated}
use Rattle.cell_world.specs.Going.{IsPlain}
use Rattle.cell_world.proofs.Steps.{either, unlooked}

-- the world after an act of his, if he does one
abbrev pub done_by : Option Act → Simulated → Simulated
done_by None w = w
done_by (Some a) w = after_hand w a

-- a machine's axes are put at home
pub homed_part : {X : Type 0} (part : Simulated → X)
    → ((a : Axis) (x : AxisInWorld) (u : Simulated) → part (with_axis a x u) ≡ part u) → (xs : List Axis)
    (w : Simulated) → part (in_turn axis_homed xs w) ≡ part w
homed_part part h [] w = refl
homed_part part h (a ∷ xs) w =
    homed_part part h xs (axis_homed a w) ∙ h a (record (axis_at w a) { pose = home a; motion = None }) w

home_counts : (m : Machine) (w : Simulated) → IsPlain w → (after_home m w).collisions ≡ w.collisions
unfolding after_home
home_counts m w t =
    let v = in_turn axis_homed (axes_of m) w in
    ap (λ (u : Simulated). u.collisions)
    (unlooked None v (homed_part (λ (u : Simulated). u.watch.is_on) (λ a x u. refl) (axes_of m) w ∙ t.unwatched))
    ∙ homed_part (λ (u : Simulated). u.collisions) (λ a x u. refl) (axes_of m) w

-- a plate is taken out
taken_counts : (k : Option ℕ) (xs : List Station) (w : Simulated)
    → (in_turn (taken_where k) xs w).collisions ≡ w.collisions
taken_counts k [] w = refl
taken_counts k (s ∷ xs) w =
    taken_counts k xs (taken_where k s w)
    ∙ either (λ (u : Simulated). u.collisions) (is_plate_at w k s) (with_plate s None w) w w.collisions refl refl

remove_counts : (s : Station) (w : Simulated) → (after_remove s w).collisions ≡ w.collisions
unfolding after_remove taken_out
remove_counts s w =
    either (λ (u : Simulated). u.collisions) (has_plate w s) (count_removed s (with_plate s None w)) _ w.collisions refl
    (either (λ (u : Simulated). u.collisions) (is_anywhere w (carried w s))
    (count_removed s (in_turn (taken_where (carried w s)) all_station w)) w w.collisions
    (taken_counts (carried w s) all_station w) refl)

pub hand_counts : (o : Option Act) (w : Simulated) → IsPlain w → (done_by o w).collisions ≡ w.collisions
hand_counts None w t = refl
hand_counts (Some (Remove s)) w t = remove_counts s w
hand_counts (Some (Home m)) w t = home_counts m w t
