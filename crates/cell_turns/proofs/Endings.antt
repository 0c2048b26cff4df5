-- The entry that ends a motion is the machine's own and passes its tests
use Rattle.std.proofs.Common.{◌≡◌, ℕ, Bool, true, false, ◌&&◌, not, Option, Some, None, List, refl, sym, ap, ◌∙◌, subst}
use Rattle.std.specs.Option.{option_map}
use Rattle.cell_types.specs.declared.words.Machine.TheVariants as machine
use Rattle.cell_types.specs.declared.words.Station.TheVariants as station
use Rattle.cell_types.specs.declared.words.Axis.{Axis}
use Rattle.cell_types.specs.declared.words.Axis.TheVariants as axis
use Rattle.cell_types.specs.declared.words.Pose.{Pose}
use Rattle.cell_types.specs.declared.words.Pose.TheVariants as pose
use Rattle.cell_types.specs.declared.words.Zone.TheVariants as zone
use Rattle.cell_types.specs.declared.cell.Press.{Press}
use Rattle.cell_types.specs.declared.words.Entry.{Entry}
use Rattle.cell_types.specs.declared.words.Entry.TheVariants.{Arrived as ArrivedAt, Conveyed, Forged}
use Rattle.cell_types.specs.declared.cell.BeltMotion.{BeltMotion}
use Rattle.cell_types.specs.Cell.{machine_of_axis, motion_to}
use Rattle.cell_rules.specs.Views.{going_of, plate_of, is_failed}
use Rattle.cell_rules.specs.Situations.{situation_of}
use Rattle.cell_rules.specs.declared.limits.BookLimits.{BookLimits}
use Rattle.cell_rules.specs.First.{first_true, ends_by_arrival, conveyed_tests}
use Rattle.cell_rules.specs.Bridged.{TellsWhatIsLeft}
use Rattle.cell_turns.specs.Rulings.{conveyed, forged, ending, books}
use Rattle.cell_turns.specs.Turns.{may_meet}
use Rattle.cell_turns.proofs.Own.{IsOwn, OwnRuling}
use Rattle.cell_turns.proofs.Tests.{full_then, skip, none_left, goes, holds}

-- the book asks that the machine is well, that the axis goes there and that its motion ends so
own_arrived : (l : BookLimits) (J : List Entry) (a : Axis) (to : Pose) → is_failed J (machine_of_axis a) ≡ false
    → going_of J a ≡ Some to → ends_by_arrival a to ≡ true → IsOwn l J (machine_of_axis a) (ArrivedAt a to)
own_arrived l J a to healthy going ends = record {
  by = refl;
  room = full_then _ (ArrivedAt a to) _ (skip _ _ (ArrivedAt a to) _ healthy
      (skip _ _ (ArrivedAt a to) _ (ap (λ (b : Bool). not (b && ends_by_arrival a to)) (goes J a to going)
      ∙ ap not ends) (none_left (ArrivedAt a to))));
  plain = refl;
}

-- the book finds the belt's motion by the station at its end, so it has to be this one
own_conveyed : (l : BookLimits) (J : List Entry) (a : Axis) (conveys : BeltMotion)
    → motion_to a conveys.dest ≡ Some conveys → is_failed J (machine_of_axis a) ≡ false → going_of J a ≡ Some conveys.to
    → TellsWhatIsLeft J → OwnRuling l J (machine_of_axis a) (books (conveyed J a conveys))
own_conveyed l J a conveys is healthy going told = go (plate_of J conveys.from) refl
  where
    go : (o : Option ℕ) → plate_of J conveys.from ≡ o
        → OwnRuling l J (machine_of_axis a) (books (option_map (λ k. Conveyed a k conveys.dest) o))
    go None at = tt
    go (Some k) at = record {
      by = refl;
      room = full_then _ (Conveyed a k conveys.dest) _ (skip _ _ (Conveyed a k conveys.dest) _ healthy
          (subst (λ (mo : Option BeltMotion). may_meet (Conveyed a k conveys.dest)
          (first_true (conveyed_tests (situation_of J) a k mo)) ≡ true) (sym is)
          (skip _ _ (Conveyed a k conveys.dest) _ (ap not (goes J a conveys.to going))
          (skip _ _ (Conveyed a k conveys.dest) _ (ap not (holds J conveys.from k told at))
          (none_left (Conveyed a k conveys.dest))))));
      plain = refl;
    }

-- the two presses, spelt out so that what the ruling looks up of them is known
abbrev first_press : Press
first_press = record { machine = machine.Press1; axis = axis.PressOne; zone = zone.Z3; station = station.Press1 }

abbrev second_press : Press
second_press = record { machine = machine.Press2; axis = axis.PressTwo; zone = zone.Z4; station = station.Press2 }

-- one lemma for each press: its axis and its station are known only where the press is
own_forged1 : (l : BookLimits) (J : List Entry) → is_failed J machine.Press1 ≡ false
    → going_of J axis.PressOne ≡ Some pose.Top → TellsWhatIsLeft J
    → OwnRuling l J machine.Press1 (books (forged J first_press))
own_forged1 l J healthy going told = go (plate_of J station.Press1) refl
  where
    go : (o : Option ℕ) → plate_of J station.Press1 ≡ o
        → OwnRuling l J machine.Press1 (books (option_map (λ k. Forged machine.Press1 k) o))
    go None at = tt
    go (Some k) at = record {
      by = refl;
      room = full_then _ (Forged machine.Press1 k) _ (skip _ _ (Forged machine.Press1 k) _ healthy
          (skip _ _ (Forged machine.Press1 k) _ (ap not (goes J axis.PressOne pose.Top going))
          (skip _ _ (Forged machine.Press1 k) _ (ap not (holds J station.Press1 k told at))
          (none_left (Forged machine.Press1 k)))));
      plain = refl;
    }

own_forged2 : (l : BookLimits) (J : List Entry) → is_failed J machine.Press2 ≡ false
    → going_of J axis.PressTwo ≡ Some pose.Top → TellsWhatIsLeft J
    → OwnRuling l J machine.Press2 (books (forged J second_press))
own_forged2 l J healthy going told = go (plate_of J station.Press2) refl
  where
    go : (o : Option ℕ) → plate_of J station.Press2 ≡ o
        → OwnRuling l J machine.Press2 (books (option_map (λ k. Forged machine.Press2 k) o))
    go None at = tt
    go (Some k) at = record {
      by = refl;
      room = full_then _ (Forged machine.Press2 k) _ (skip _ _ (Forged machine.Press2 k) _ healthy
          (skip _ _ (Forged machine.Press2 k) _ (ap not (goes J axis.PressTwo pose.Top going))
          (skip _ _ (Forged machine.Press2 k) _ (ap not (holds J station.Press2 k told at))
          (none_left (Forged machine.Press2 k)))));
      plain = refl;
    }

-- by cases as the ruling has them: belts convey, presses at Top forge, and other motions arrive
pub own_ending : (l : BookLimits) (J : List Entry) (a : Axis) (to : Pose) → is_failed J (machine_of_axis a) ≡ false
    → going_of J a ≡ Some to → TellsWhatIsLeft J → OwnRuling l J (machine_of_axis a) (books (ending J a to))
own_ending l J axis.FeedBelt pose.ToEnd healthy going told =
    own_conveyed l J axis.FeedBelt (record { to = pose.ToEnd; from = station.FeedIn; dest = station.FeedEnd }) refl
    healthy going told
own_ending l J axis.FeedBelt pose.ToTable healthy going told =
    own_conveyed l J axis.FeedBelt (record { to = pose.ToTable; from = station.FeedEnd; dest = station.Table }) refl
    healthy going told
own_ending l J axis.FeedBelt _ healthy going told = tt
own_ending l J axis.DepositBelt pose.ToEnd healthy going told =
    own_conveyed l J axis.DepositBelt (record { to = pose.ToEnd; from = station.DepIn; dest = station.DepEnd }) refl
    healthy going told
own_ending l J axis.DepositBelt _ healthy going told = tt
own_ending l J axis.PressOne pose.Top healthy going told = own_forged1 l J healthy going told
own_ending l J axis.PressTwo pose.Top healthy going told = own_forged2 l J healthy going told
own_ending l J a to healthy going told = own_arrived l J a to healthy going refl
