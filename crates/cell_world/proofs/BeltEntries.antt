-- What a Started and a Conveyed of a belt do, in the book and in the world
use Rattle.std.proofs.Common.{◌≡◌, ℕ, true, Option, Some, None, List, [], is_none, refl, sym, ap}
use Rattle.std.proofs.Common.{◌∙◌, ◌-◌, length-set, subst}
use Rattle.cell_types.specs.declared.words.Command.TheVariants.{Off}
use Rattle.cell_types.specs.declared.words.Entry.{Entry}
use Rattle.cell_types.specs.declared.words.Entry.TheVariants.{Started, Conveyed}
use Rattle.cell_types.specs.declared.words.Pose.TheVariants as pose
use Rattle.cell_types.specs.declared.words.Station.{Station}
use Rattle.cell_rules.specs.declared.refusal.Refusal.{Refusal}
use Rattle.cell_rules.specs.Legal.{allowed}
use Rattle.cell_rules.specs.Views.{rests, sends}
use Rattle.cell_rules.proofs.Safe.Bridge.{Good, good_step, good_when_legal}
use Rattle.cell_sim.specs.declared.axis.AxisInWorld.{AxisInWorld}
use Rattle.cell_sim.specs.declared.motion.Path.{Path}
use Rattle.cell_sim.specs.declared.motion.Path.TheVariants.{Stations}
use Rattle.cell_sim.specs.declared.world.Plate.{Plate}
use Rattle.cell_sim.specs.Commands.{after_command, fails, path_of, set_on, set_out, told}
use Rattle.cell_sim.specs.Parts.{axis_at, plate_at, plate_here, with_motion}
use Rattle.cell_sim.specs.Readings.{after_reading}
use Rattle.cell_sim.specs.Simulated.{Simulated}
use Rattle.cell_world.specs.Tied.{none, more, under_way}
use Rattle.cell_world.specs.Going.{IsPlain}
use Rattle.cell_world.specs.Belts.{BeltBrings, BeltEnds, BeltGoes, BeltRests, BeltStarts, Conveying, belt_of}
use Rattle.cell_world.specs.Belts.{dest_of, from_of, light_of, machine_of, name_of, path_with, to_deposit_end}
use Rattle.cell_world.specs.Belts.{to_feed_end, to_table}
use Rattle.cell_world.specs.Handing.{HasBooked}
use Rattle.cell_measures.specs.declared.durations.Durations.{Durations}
use Rattle.cell_measures.specs.Times.{duration}
use Rattle.cell_world.specs.Starting.{further_in, one_more}
use Rattle.cell_world.proofs.Belts.{after_belt, gone_plain, gone_to}
use Rattle.cell_world.proofs.Entries.{at_before, at_now, going_now, starts_it}
use Rattle.cell_world.proofs.Plates.{Left, handed, moved, number_of, told_left}
use Rattle.cell_world.proofs.Starts.{on_does, ready, ready_long, ready_part, ready_plain}
use Rattle.cell_world.proofs.Steps.{at_same, below_nine, same_axes, unlooked}

-- the belt sets out with the plate that lies at the motion's beginning
carries : (c : Conveying) (w : Simulated)
    → path_of w (belt_of c) (name_of c) ≡ Some (Stations (from_of c) (dest_of c) (plate_at w (from_of c)))
carries to_feed_end w = refl
carries to_table w = refl
carries to_deposit_end w = refl

sent_on : Conveying → Plate → Simulated → Simulated
sent_on c k w =
    with_motion (belt_of c) (Some (under_way (path_with c k) (none (further_in w (belt_of c) (name_of c))))) w

sets_out : (c : Conveying) (k : Plate) (w : Simulated) → plate_here w (from_of c) ≡ Some k
    → set_on (belt_of c) (name_of c) None w ≡ sent_on c k w
unfolding set_out sent_on
sets_out c k w h =
    ap (λ (o : Option Path). set_out (belt_of c) (name_of c) None o w) (carries c w)
    ∙ ap (λ (o : Option ℕ). with_motion (belt_of c) (Some (under_way (Stations (from_of c) (dest_of c) o)
    (none (further_in w (belt_of c) (name_of c))))) w) (ap number_of h)

sent_plain : (c : Conveying) (k : Plate) (w : Simulated) → IsPlain w → IsPlain (sent_on c k w)
unfolding sent_on
sent_plain c k w t =
    record { unwatched = t.unwatched; axes = length-set _ _ _ ∙ t.axes; stations = t.stations }

sent_motion : (c : Conveying) (k : Plate) (w : Simulated) → IsPlain w
    → (axis_at (sent_on c k w) (belt_of c)).motion
    ≡ Some (under_way (path_with c k) (none (further_in w (belt_of c) (name_of c))))
unfolding sent_on
sent_motion c k w t =
    ap (λ (x : AxisInWorld). x.motion) (at_same w (belt_of c) _ (below_nine (belt_of c) _ t.axes))

-- no plate and no light changes
sent_here : (c : Conveying) (k : Plate) (w : Simulated) (s : Station)
    → plate_here (sent_on c k (ready (belt_of c) w)) s ≡ plate_here w s
unfolding sent_on told
sent_here c k w s = ready_part (λ (v : Simulated). plate_here v s) (belt_of c) w refl

sent_light : (c : Conveying) (k : Plate) (w : Simulated)
    → light_of c (sent_on c k (ready (belt_of c) w)) ≡ light_of c w
unfolding sent_on told
sent_light to_feed_end k w = ready_part (λ (v : Simulated). v.feed_light) (belt_of to_feed_end) w refl
sent_light to_table k w = ready_part (λ (v : Simulated). v.feed_light) (belt_of to_table) w refl
sent_light to_deposit_end k w = ready_part (λ (v : Simulated). v.deposit_light) (belt_of to_deposit_end) w refl

ready_here : (c : Conveying) (w : Simulated) (s : Station) → plate_here (ready (belt_of c) w) s ≡ plate_here w s
unfolding told
ready_here c w s = ready_part (λ (v : Simulated). plate_here v s) (belt_of c) w refl

pub belt_starts : BeltStarts
belt_starts J p c k f w t red here empty =
    let a = belt_of c in let e = Started a (name_of c) in let r = ready a w in
    let plain = ready_plain a w t.plain in
    let so = on_does a (name_of c) w t.plain ∙ sets_out c k r (ready_here c w (from_of c) ∙ here) in
    let long = ready_long a w in
    subst (λ (v : Simulated). BeltGoes (one_more J e) p c k (none (further_in w a (name_of c))) f v) (sym so)
    (record {
      plain = sent_plain c k r plain;
      booked = going_now J e a (Some (name_of c)) (starts_it a (name_of c));
      home = at_before J e a refl ∙ t.home;
      red = sent_light c k w ∙ red;
      here = sent_here c k w (from_of c) ∙ here;
      empty = sent_here c k w (dest_of c) ∙ empty;
      goes = sent_motion c k r plain
          ∙ ap (λ (d : Durations). Some (under_way (path_with c k) (none (duration d (record {
            axis = a;
            to = name_of c;
          }) - 1)))) long;
      noted = t.unnoted;
    })

-- the command that ends the belt's motion
unfoldable pub stopped : Conveying → Simulated → Simulated
stopped c w = with_motion (belt_of c) None w

pub off_does : (c : Conveying) (w : Simulated) → IsPlain w → after_command [] w (Off (belt_of c)) ≡ stopped c w
unfolding after_command fails stopped
off_does to_feed_end w t = unlooked (Some (Off (belt_of to_feed_end))) (stopped to_feed_end w) t.unwatched
off_does to_table w t = unlooked (Some (Off (belt_of to_table))) (stopped to_table w) t.unwatched
off_does to_deposit_end w t = unlooked (Some (Off (belt_of to_deposit_end))) (stopped to_deposit_end w) t.unwatched

stopped_plain : (c : Conveying) (w : Simulated) → IsPlain w → IsPlain (stopped c w)
unfolding stopped
stopped_plain c w t =
    record { unwatched = t.unwatched; axes = length-set _ _ _ ∙ t.axes; stations = t.stations }

stopped_still : (c : Conveying) (w : Simulated) → IsPlain w → (axis_at (stopped c w) (belt_of c)).motion ≡ None
unfolding stopped
stopped_still c w t =
    ap (λ (x : AxisInWorld). x.motion) (at_same w (belt_of c) _ (below_nine (belt_of c) _ t.axes))

conveyed_at : (c : Conveying) (k : ℕ) → rests (belt_of c) (Conveyed (belt_of c) k (dest_of c)) ≡ Some pose.Rest
conveyed_at c k = let s = same_axes (belt_of c) in rw s refl

conveyed_sends : (c : Conveying) (k : ℕ) → sends (belt_of c) (Conveyed (belt_of c) k (dest_of c)) ≡ Some None
conveyed_sends c k = let s = same_axes (belt_of c) in rw s refl

pub belt_ends : BeltEnds
belt_ends J c k f w t =
    let a = belt_of c in let e = Conveyed a k.number (dest_of c) in
    subst (λ (v : Simulated). BeltRests (one_more J e) c None v) (sym (off_does c w t.plain))
    (record {
      plain = stopped_plain c w t.plain;
      booked = going_now J e a None (conveyed_sends c k.number);
      home = at_now J e a pose.Rest (conveyed_at c k.number);
      still = stopped_still c w t.plain;
      unnoted = refl;
    })

-- the plates then
pub brought_plates : (c : Conveying) (k : Plate) (n : ℕ) (w : Simulated) (s : Station)
    → plate_at (stopped c (gone_to c k (more n 0) w)) s ≡ plate_at (moved (from_of c) (dest_of c) w) s
unfolding stopped moved
brought_plates c k n w s = refl

number_here : (J : List Entry) (w : Simulated) (s : Station) (o : Option Plate) → Good J → HasBooked J w s
    → plate_here w s ≡ o → Left J s ≡ number_of o
number_here J w s o g b h = sym (told_left J s g) ∙ (sym b ∙ ap number_of h)

pub belt_brings : BeltBrings
belt_brings l J p c k n f w law free t b d s bs =
    let e = Conveyed (belt_of c) k.number (dest_of c) in
    let g = good_when_legal l J law in
    let ok : allowed l J e ≡ true = ap (λ (o : Option Refusal). is_none o) free in
    let v = after_reading w (machine_of c) in
    let read = after_belt J p c k (more n 0) f w t in
    let plain : IsPlain v = subst (λ (x : Simulated). IsPlain x) (sym read) (gone_plain c k (more n 0) w t.plain) in
    ap (λ (x : Simulated). plate_at x s) (off_does c v plain)
    ∙ (ap (λ (x : Simulated). plate_at (stopped c x) s) read
    ∙ (brought_plates c k n w s
    ∙ handed J w e k.number (from_of c) (dest_of c) s g (good_step l J e g ok) t.plain refl
    (number_here J w (from_of c) (Some k) g b t.here) (number_here J w (dest_of c) None g d t.empty) b bs))
