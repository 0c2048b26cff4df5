-- One thing for each machine
use Rattle.std.specs.Borrow.{Lends, MutBor, Fml, RattleType}
use Rattle.cell_types.specs.declared.words.Machine.{Machine}
use Rattle.cell_types.specs.declared.words.Machine.TheVariants as machine
use Rattle.cell_turns.specs.declared.six.Six.{Six}
use Rattle.cell_turns.specs.contracts.six.Six.{the_row}

abbrev pub at : {T : Type 0} → Six T → Machine → T
at s machine.Feed = s.feed
at s machine.Table = s.table
at s machine.Robot = s.robot
at s machine.Press1 = s.press1
at s machine.Press2 = s.press2
at s machine.Deposit = s.deposit

abbrev pub put : {T : Type 0} → Six T → Machine → T → Six T
put s machine.Feed w = record s { feed = w }
put s machine.Table w = record s { table = w }
put s machine.Robot w = record s { robot = w }
put s machine.Press1 w = record s { press1 = w }
put s machine.Press2 w = record s { press2 = w }
put s machine.Deposit w = record s { deposit = w }

module _ (T : RattleType) where
  -- the six are lent, and given back with another at m
  abbrev pub LendsAt : Machine → MutBor (Six T.Denot) → MutBor T.Denot → Fml
  LendsAt m s r = Lends (the_row T) T s r (put s.now m)

-- f of each
abbrev pub map_six : {A B : Type 0} → (A → B) → Six A → Six B
map_six f s =
    record {
      feed = f s.feed;
      table = f s.table;
      robot = f s.robot;
      press1 = f s.press1;
      press2 = f s.press2;
      deposit = f s.deposit;
    }

-- one made for each machine
abbrev pub each : {A : Type 0} → (Machine → A) → Six A
each f =
    record {
      feed = f machine.Feed;
      table = f machine.Table;
      robot = f machine.Robot;
      press1 = f machine.Press1;
      press2 = f machine.Press2;
      deposit = f machine.Deposit;
    }
