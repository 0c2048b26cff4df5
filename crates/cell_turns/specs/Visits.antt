-- Who visits a machine
use Rattle.std.specs.Prelude.{ℕ, Bool, false, not, ◌&&◌, ◌||◌, List}
use Rattle.cell_types.specs.declared.words.Machine.{Machine}
use Rattle.cell_types.specs.declared.words.Machine.TheVariants as machine
use Rattle.cell_types.specs.declared.words.Zone.{Zone}
use Rattle.cell_types.specs.declared.words.Zone.TheVariants as zone
use Rattle.cell_types.specs.declared.words.Entry.{Entry}
use Rattle.cell_types.specs.Cell.{visitor}
use Rattle.cell_types.specs.After.{is_machine}
use Rattle.cell_rules.specs.Views.{holder_of}
use Rattle.plate_book.specs.Claims.{claimed_since}
use Rattle.cell_turns.specs.declared.watch.Memory.{Memory}

-- a zone that the machine owns passes the test
abbrev pub any_zone_of : Machine → (Zone → Bool) → Bool
any_zone_of machine.Feed test = false
any_zone_of machine.Table test = test zone.Z1 || test zone.Z2
any_zone_of machine.Robot test = false
any_zone_of machine.Press1 test = test zone.Z3
any_zone_of machine.Press2 test = test zone.Z4
any_zone_of machine.Deposit test = test zone.Z5

-- a visitor holds a zone of the machine
abbrev pub is_visited : List Entry → Machine → Bool
is_visited J m = any_zone_of m (λ z. is_machine (visitor z) (holder_of J z))

-- a visitor claimed a zone of the machine at place i of the journal or later
abbrev pub was_claimed : List Entry → Machine → ℕ → Bool
was_claimed J m i = any_zone_of m (λ z. claimed_since J z i)

-- no visitor holds a zone of the machine, none held one at its last turn, and none claimed one since
abbrev pub is_unvisited : List Entry → Machine → Memory → Bool
is_unvisited J m kept = not (is_visited J m) && (not kept.visited && not (was_claimed J m kept.length))
