-- What one entry more changes in the book
use Rattle.std.proofs.Common.{◌≡◌, ◌≢◌, Option, Some, None, List, refl, sym, ap, ◌∙◌}
use Rattle.std.proofs.Common.{subst}
use Rattle.std.specs.Option.{option_map}
use Rattle.std.specs.Prelude.{unwrap_or}
use Rattle.cell_types.specs.declared.words.Axis.{Axis}
use Rattle.cell_types.specs.declared.words.Pose.{Pose}
use Rattle.cell_types.specs.declared.words.Pose.TheVariants as pose
use Rattle.cell_types.specs.declared.words.Entry.{Entry}
use Rattle.cell_types.specs.declared.words.Entry.TheVariants.{Started, Arrived as ArrivedAt, Forged}
use Rattle.cell_types.specs.declared.words.Command.TheVariants.{Off}
use Rattle.cell_types.specs.After.{is_axis_of}
use Rattle.cell_types.specs.Cell.{home, press_axis}
use Rattle.cell_types.specs.Entries.{command_of, off_command}
use Rattle.cell_types.specs.Same.{axis_number, same_axis}
use Rattle.cell_rules.specs.Last.{when}
use Rattle.cell_rules.specs.Views.{at_of, going_of, rests, sends}
use Rattle.cell_rules.proofs.Safe.Views.{view_snoc}
use Rattle.cell_sim.specs.Simulated.{Simulated}
use Rattle.cell_sim.specs.Parts.{axis_at}
use Rattle.cell_world.specs.Going.{IsAtRest}
use Rattle.cell_world.specs.Starting.{one_more, BringsTo}
use Rattle.cell_world.proofs.Steps.{other_axis, rests_as, same_axes}

-- an entry that says where an axis is or goes decides it, and another leaves it
pub at_now : (J : List Entry) (e : Entry) (a : Axis) (p : Pose) → rests a e ≡ Some p → at_of (one_more J e) a ≡ p
at_now J e a p h =
    view_snoc (rests a) (home a) J e ∙ ap (λ (o : Option Pose). unwrap_or o (at_of J a)) h

pub at_before : (J : List Entry) (e : Entry) (a : Axis) → rests a e ≡ None → at_of (one_more J e) a ≡ at_of J a
at_before J e a h =
    view_snoc (rests a) (home a) J e ∙ ap (λ (o : Option Pose). unwrap_or o (at_of J a)) h

pub going_now : (J : List Entry) (e : Entry) (a : Axis) (o : Option Pose) → sends a e ≡ Some o
    → going_of (one_more J e) a ≡ o
going_now J e a o h =
    view_snoc (sends a) None J e ∙ ap (λ (x : Option (Option Pose)). unwrap_or x (going_of J a)) h

pub going_before : (J : List Entry) (e : Entry) (a : Axis) → sends a e ≡ None
    → going_of (one_more J e) a ≡ going_of J a
going_before J e a h =
    view_snoc (sends a) None J e ∙ ap (λ (x : Option (Option Pose)). unwrap_or x (going_of J a)) h

-- an axis that an entry says nothing of, and that is in the world as before, is at rest as before
pub rests_more : (J : List Entry) (e : Entry) (v w : Simulated) (b : Axis) → rests b e ≡ None → sends b e ≡ None
    → axis_at v b ≡ axis_at w b → IsAtRest J w b → IsAtRest (one_more J e) v b
rests_more J e v w b r s h t = rests_as J (one_more J e) v w b (at_before J e b r) (going_before J e b s) h t

-- a Started speaks of its axis alone
pub starts_it : (a : Axis) (to : Pose) → sends a (Started a to) ≡ Some (Some to)
starts_it a to = let s = same_axes a in rw s refl

pub starts_no_other : (a b : Axis) (to : Pose) → axis_number b ≢ axis_number a → sends b (Started a to) ≡ None
starts_no_other a b to h = let s = other_axis a b h in rw s refl

-- so does an entry that brings an axis to rest, and its command turns that off
pub record Brought (a : Axis) (to : Pose) (e : Entry) : Type 0 where
  pub at : rests a e ≡ Some to
  pub still : sends a e ≡ Some None
  pub unsaid : (b : Axis) → axis_number b ≢ axis_number a → rests b e ≡ None
  pub unsent : (b : Axis) → axis_number b ≢ axis_number a → sends b e ≡ None
  pub off : command_of e ≡ Some (Off a)

when_other : (a b : Axis) (p : Pose) → axis_number b ≢ axis_number a → when (same_axis a b) p ≡ None
when_other a b p h = let s = other_axis a b h in rw s refl

when_it : (a : Axis) (p : Pose) → when (same_axis a a) p ≡ Some p
when_it a p = let s = same_axes a in rw s refl

by_arrived : (a b : Axis) (to at : Pose) → b ≡ a → at ≡ to → Brought a to (ArrivedAt b at)
by_arrived a b to at h k =
    subst (λ (c : Axis). Brought a to (ArrivedAt c at)) (sym h)
    (subst (λ (q : Pose). Brought a to (ArrivedAt a q)) (sym k)
    (record {
      at = when_it a to;
      still = ap (λ (o : Option Pose). option_map (λ _. None) o) (when_it a to);
      unsaid = λ c d. when_other a c to d;
      unsent = λ c d. ap (λ (o : Option Pose). option_map (λ _. None) o) (when_other a c to d);
      off = refl;
    }))

of_press : (a : Axis) → when (is_axis_of a (Some a)) pose.Top ≡ Some pose.Top
of_press a = when_it a pose.Top

of_no_other : (a b : Axis) → axis_number b ≢ axis_number a → when (is_axis_of b (Some a)) pose.Top ≡ None
of_no_other a b h = when_other a b pose.Top h

abbrev by : Axis → Option Axis → Option Pose
by a o = when (is_axis_of a o) pose.Top

by_forged : (a : Axis) (to : Pose) (e : Entry) (o : Option Axis) → o ≡ Some a → to ≡ pose.Top
    → ((b : Axis) → rests b e ≡ by b o) → ((b : Axis) → sends b e ≡ option_map (λ _. None) (by b o))
    → command_of e ≡ off_command o → Brought a to e
by_forged a to e o h k r s c =
    let it = r a ∙ (ap (λ (x : Option Axis). by a x) h ∙ of_press a) in
    record {
      at = it ∙ ap (λ (q : Pose). Some q) (sym k);
      still = s a ∙ (ap (λ (x : Option Axis). option_map (λ _. None) (by a x)) h
          ∙ ap (λ (x : Option Pose). option_map (λ _. None) x) (of_press a));
      unsaid = λ b d. r b ∙ (ap (λ (x : Option Axis). by b x) h ∙ of_no_other a b d);
      unsent = λ b d. s b ∙ (ap (λ (x : Option Axis). option_map (λ _. None) (by b x)) h
          ∙ ap (λ (x : Option Pose). option_map (λ _. None) x) (of_no_other a b d));
      off = c ∙ ap off_command h;
    }

pub brought : (a : Axis) (to : Pose) (e : Entry) → BringsTo a to e → Brought a to e
brought a to (ArrivedAt b at) h = by_arrived a b to at h.0 h.1
brought a to (Forged press k) h =
    by_forged a to (Forged press k) (press_axis press) h.0 h.1 (λ b. refl) (λ b. refl) refl
brought a to e h = absurd h
