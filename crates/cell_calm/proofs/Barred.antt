-- A machine that has failed books nothing, and so nothing is useful for it
use Rattle.std.proofs.Common.{◌≡◌, ℕ, Bool, true, false, ◌&&◌, List, ◌∷◌, refl, ap, ◌∙◌}
use Rattle.cell_types.specs.declared.words.Machine.{Machine}
use Rattle.cell_types.specs.declared.words.Machine.TheVariants as machine
use Rattle.cell_types.specs.declared.words.Axis.TheVariants as axis
use Rattle.cell_types.specs.declared.words.Belt.TheVariants as belt
use Rattle.cell_types.specs.declared.words.Entry.{Entry}
use Rattle.cell_types.specs.declared.words.Entry.TheVariants.{Claimed, Dropped, Gripped, Lamp, Started, Yielded}
use Rattle.cell_types.specs.Room.{is_full}
use Rattle.cell_types.specs.After.{Snapshot}
use Rattle.cell_rules.specs.First.{first_true, kind_tests}
use Rattle.cell_rules.specs.declared.refusal.Refusal.{Refusal}
use Rattle.cell_rules.specs.declared.refusal.Refusal.TheVariants.{JournalFull, MachineFailed}
use Rattle.cell_machines.specs.Room.{is_bookable, is_none_or_full}
use Rattle.cell_machines.specs.Useful.{is_useful_now, wants}
use Rattle.cell_useful.specs.Cells.{ample}
use Rattle.cell_progress.specs.Orders.{cell_of}
use Rattle.cell_calm.proofs.Room.{past, room_left}

-- the first test of its kind is that the machine hasn't failed
pub barred : (s : Snapshot) (m : Machine) (e : Entry) (ts : List (Bool × Refusal))
    → kind_tests ample (cell_of s) e ≡ (s.failed m, MachineFailed m) ∷ ts → s.failed m ≡ true
    → is_bookable ample (cell_of s) e ≡ false
unfolding is_bookable first_true
barred s m e ts tests failed =
    ap is_none_or_full (past (is_full 1000000 0 e) JournalFull (kind_tests ample (cell_of s) e)
    (room_left 1000000 0 e refl)
    ∙ (ap first_true tests ∙ ap (λ (b : Bool). first_true ((b, MachineFailed m) ∷ ts)) failed))

module _ (plan : ℕ) (s : Snapshot) where
  -- an entry of the machine isn't useful for it
  useless : (m : Machine) (e : Entry) (ts : List (Bool × Refusal))
      → kind_tests ample (cell_of s) e ≡ (s.failed m, MachineFailed m) ∷ ts → s.failed m ≡ true
      → is_useful_now ample (cell_of s) plan m e ≡ false
  unfolding is_useful_now
  useless m e ts tests failed = both (wants ample (cell_of s) plan m e) _ (barred s m e ts tests failed)
    where
      both : (a b : Bool) → b ≡ false → (a && b) ≡ false
      both true b h = h
      both false b h = refl

  pub useless_failed : (m : Machine) (e : Entry) → s.failed m ≡ true
      → is_useful_now ample (cell_of s) plan m e ≡ false
  unfolding is_useful_now
  useless_failed machine.Feed (Lamp belt.Feed to) h = useless machine.Feed (Lamp belt.Feed to) _ refl h
  useless_failed machine.Feed (Claimed machine.Feed z) h =
      useless machine.Feed (Claimed machine.Feed z) _ refl h
  useless_failed machine.Feed (Yielded machine.Feed z) h =
      useless machine.Feed (Yielded machine.Feed z) _ refl h
  useless_failed machine.Feed (Started axis.FeedBelt to) h =
      useless machine.Feed (Started axis.FeedBelt to) _ refl h
  useless_failed machine.Feed _ h = refl
  useless_failed machine.Table (Claimed machine.Table z) h =
      useless machine.Table (Claimed machine.Table z) _ refl h
  useless_failed machine.Table (Yielded machine.Table z) h =
      useless machine.Table (Yielded machine.Table z) _ refl h
  useless_failed machine.Table (Started axis.TableLift to) h =
      useless machine.Table (Started axis.TableLift to) _ refl h
  useless_failed machine.Table (Started axis.TableTurn to) h =
      useless machine.Table (Started axis.TableTurn to) _ refl h
  useless_failed machine.Table _ h = refl
  useless_failed machine.Robot (Claimed machine.Robot z) h =
      useless machine.Robot (Claimed machine.Robot z) _ refl h
  useless_failed machine.Robot (Yielded machine.Robot z) h =
      useless machine.Robot (Yielded machine.Robot z) _ refl h
  useless_failed machine.Robot (Started axis.RobotTurn to) h =
      useless machine.Robot (Started axis.RobotTurn to) _ refl h
  useless_failed machine.Robot (Started axis.ArmOne to) h =
      useless machine.Robot (Started axis.ArmOne to) _ refl h
  useless_failed machine.Robot (Started axis.ArmTwo to) h =
      useless machine.Robot (Started axis.ArmTwo to) _ refl h
  useless_failed machine.Robot (Gripped x k t) h = useless machine.Robot (Gripped x k t) _ refl h
  useless_failed machine.Robot (Dropped x k t) h = useless machine.Robot (Dropped x k t) _ refl h
  useless_failed machine.Robot _ h = refl
  useless_failed machine.Press1 (Claimed machine.Press1 z) h =
      useless machine.Press1 (Claimed machine.Press1 z) _ refl h
  useless_failed machine.Press1 (Yielded machine.Press1 z) h =
      useless machine.Press1 (Yielded machine.Press1 z) _ refl h
  useless_failed machine.Press1 (Started axis.PressOne to) h =
      useless machine.Press1 (Started axis.PressOne to) _ refl h
  useless_failed machine.Press1 _ h = refl
  useless_failed machine.Press2 (Claimed machine.Press2 z) h =
      useless machine.Press2 (Claimed machine.Press2 z) _ refl h
  useless_failed machine.Press2 (Yielded machine.Press2 z) h =
      useless machine.Press2 (Yielded machine.Press2 z) _ refl h
  useless_failed machine.Press2 (Started axis.PressTwo to) h =
      useless machine.Press2 (Started axis.PressTwo to) _ refl h
  useless_failed machine.Press2 _ h = refl
  useless_failed machine.Deposit (Lamp belt.Deposit to) h =
      useless machine.Deposit (Lamp belt.Deposit to) _ refl h
  useless_failed machine.Deposit (Claimed machine.Deposit z) h =
      useless machine.Deposit (Claimed machine.Deposit z) _ refl h
  useless_failed machine.Deposit (Yielded machine.Deposit z) h =
      useless machine.Deposit (Yielded machine.Deposit z) _ refl h
  useless_failed machine.Deposit (Started axis.DepositBelt to) h =
      useless machine.Deposit (Started axis.DepositBelt to) _ refl h
  useless_failed machine.Deposit _ h = refl
