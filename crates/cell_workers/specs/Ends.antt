-- When a machine has nothing to do, and when a run is done
use Rattle.std.specs.Prelude.{◌≡◌, ◌&&◌, ◌||◌, ℕ, Bool, true, false, not, is_none, List}
use Rattle.cell_types.specs.declared.words.Entry.{Entry}
use Rattle.cell_types.specs.declared.words.Machine.{Machine}
use Rattle.cell_types.specs.declared.words.Machine.TheVariants as machine
use Rattle.cell_types.specs.declared.words.Station.TheVariants as station
use Rattle.cell_types.specs.declared.words.Belt.TheVariants as belt
use Rattle.cell_types.specs.declared.words.Colour.TheVariants as colour
use Rattle.cell_types.specs.Same.{same_colour}
use Rattle.cell_rules.specs.Views.{count_of, plate_of, lamp_of, is_failed}
use Rattle.cell_ports.specs.declared.plan.Plan.{Plan}
use Rattle.cell_turns.specs.Moving.{motion_of_machine}
use Rattle.cell_turns.specs.Minds.{Mind, is_quiet}

-- the machine's light is booked green
abbrev pub is_lit : List Entry → Machine → Bool
is_lit J machine.Feed = same_colour (lamp_of J belt.Feed) colour.Green
is_lit J machine.Deposit = same_colour (lamp_of J belt.Deposit) colour.Green
is_lit J _ = false

-- a machine whose turn booked nothing has nothing to do: it is booked failed, or none of its axes moves, its light
-- isn't green, its last reading was present and agreed, and no sign is open
abbrev pub is_idle : List Entry → Machine → Plan → Mind → Bool
is_idle J m p s = is_failed J m || (is_none (motion_of_machine J p m) && (not (is_lit J m) && is_quiet s))

-- no station has a plate
unfoldable pub is_vacant : List Entry → Bool
is_vacant J =
    is_none (plate_of J station.FeedIn) && (is_none (plate_of J station.FeedEnd) && (is_none (plate_of J station.Table)
    && (is_none (plate_of J station.Arm1) && (is_none (plate_of J station.Arm2) && (is_none (plate_of J station.Press1)
    && (is_none (plate_of J station.Press2)
    && (is_none (plate_of J station.DepIn) && is_none (plate_of J station.DepEnd))))))))

-- so many plates were admitted, and no station has a plate
pub record IsDone (plates : ℕ) (J : List Entry) : Type 0 where
  pub admitted : (count_of J).admitted ≡ plates
  pub vacant : is_vacant J ≡ true
