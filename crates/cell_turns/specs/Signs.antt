-- Signs of the operator: a plate laid in, or taken out
use Rattle.std.specs.Prelude.{Bool, false, not, ◌&&◌, Option, Some, List}
use Rattle.cell_types.specs.declared.words.Machine.{Machine}
use Rattle.cell_types.specs.declared.words.Machine.TheVariants as machine
use Rattle.cell_types.specs.declared.words.Belt.TheVariants as belt
use Rattle.cell_types.specs.declared.words.Colour.TheVariants as colour
use Rattle.cell_types.specs.declared.words.Entry.{Entry}
use Rattle.cell_types.specs.Same.{same_colour}
use Rattle.cell_rules.specs.Views.{lamp_of}
use Rattle.cell_diagnosis.specs.declared.reading.Reading.{Reading}
use Rattle.cell_diagnosis.specs.Readings.{bit}

-- a present reading that shows FeedIn under a green feed light, or doesn't show DepEnd under a green deposit light
abbrev pub shows_sign : List Entry → Machine → Option Reading → Bool
shows_sign J machine.Feed (Some r) = bit r.presence 0 && same_colour (lamp_of J belt.Feed) colour.Green
shows_sign J machine.Deposit (Some r) = not (bit r.presence 1) && same_colour (lamp_of J belt.Deposit) colour.Green
shows_sign J _ _ = false
