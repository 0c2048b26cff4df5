-- Where in a drawing of the cell a plate stands, and where an arm ends
use Rattle.std.specs.Prelude.{◌≡◌, ℕ, IfSome}
use Rattle.cell_types.specs.declared.words.Arm.{Arm}
use Rattle.cell_types.specs.declared.words.Pose.{Pose}
use Rattle.cell_types.specs.declared.words.Station.{Station}
use Rattle.cell_types.specs.declared.words.Station.TheVariants as station
use Rattle.cell_types.specs.Cell.{faced}
use Rattle.cell_drawing.specs.declared.ink.Spot.{Spot}

-- the place so far from the left and from the top
abbrev pub spot : ℕ → ℕ → Spot
spot x y = record { x = x; y = y }

-- where a plate stands at a station; an arm has it where it ends
abbrev pub plate_spot : Station → Spot
plate_spot station.FeedIn = spot 52 250
plate_spot station.FeedEnd = spot 168 250
plate_spot station.Table = spot 250 250
plate_spot station.Arm1 = spot 400 250
plate_spot station.Arm2 = spot 400 250
plate_spot station.Press1 = spot 400 100
plate_spot station.Press2 = spot 400 400
plate_spot station.DepIn = spot 550 250
plate_spot station.DepEnd = spot 666 250

-- an arm that is out ends on the place of the plate of the station that it faces, where it faces one
abbrev pub EndsOver : Arm → Pose → Spot → Type 0
EndsOver arm turn end = IfSome (faced arm turn) (λ f. end ≡ plate_spot f.station)
