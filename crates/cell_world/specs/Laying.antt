-- Where plates are laid in and taken out: lights and plates, as they are booked
use Rattle.std.specs.Prelude.{ℕ, ◌≡◌, ◌<◌, ◌+◌, false, Some, None, List, ◌⊎◌}
use Rattle.std.specs.List.{count_by}
use Rattle.cell_types.specs.declared.words.Belt.TheVariants as belt
use Rattle.cell_types.specs.declared.words.Colour.TheVariants as colour
use Rattle.cell_types.specs.declared.words.Station.TheVariants as station
use Rattle.cell_types.specs.declared.words.Entry.{Entry}
use Rattle.cell_rules.specs.Views.{expected_of, is_admitted, lamp_of}
use Rattle.cell_ports.specs.declared.plan.Plan.{Plan}
use Rattle.cell_sim.specs.Parts.{plate_at}
use Rattle.cell_sim.specs.Simulated.{Simulated}
use Rattle.cell_world.specs.Handing.{HasBooked}

abbrev pub admitted_in : List Entry → ℕ
admitted_in J = count_by is_admitted J

-- no plate was laid in that isn't booked
pub record NoneIsLaid (J : List Entry) (w : Simulated) : Type 0 where
  pub plate : HasBooked J w station.FeedIn
  pub count : w.laid ≡ admitted_in J

-- under the green light the next plate of the plan was laid in, and isn't booked yet
pub record OneIsLaid (J : List Entry) (p : Plan) (w : Simulated) : Type 0 where
  pub green : lamp_of J belt.Feed ≡ colour.Green
  pub plate : plate_at w station.FeedIn ≡ Some (admitted_in J + 1)
  pub count : w.laid ≡ admitted_in J + 1
  pub planned : admitted_in J < p.plates

-- while the light is green, plates of the plan aren't admitted yet
abbrev pub GreenIsWanted : List Entry → Plan → Type 0
GreenIsWanted J p = lamp_of J belt.Feed ≡ colour.Green → admitted_in J < p.plates

-- where plates are laid in the light is the book's, and a plate that isn't booked lies there only under the green one;
-- as many are planned as the plan says; none was cleared, or the light is green only while plates aren't admitted yet;
-- none is trusted to be laid onto another, and none is to be laid back
pub record LayingAsBooked (J : List Entry) (p : Plan) (w : Simulated) : Type 0 where
  pub light : w.feed_light ≡ lamp_of J belt.Feed
  pub laid : NoneIsLaid J w ⊎ OneIsLaid J p w
  pub planned : w.planned ≡ p.plates
  pub sparing : (w.cleared ≡ 0) ⊎ GreenIsWanted J p
  pub untrusting : w.is_trusting ≡ false
  pub unexpected : expected_of J ≡ None

-- under the green light the booked plate was taken out, and that isn't booked yet
pub record OneIsTaken (J : List Entry) (w : Simulated) : Type 0 where
  pub green : lamp_of J belt.Deposit ≡ colour.Green
  pub gone : plate_at w station.DepEnd ≡ None

-- where plates are taken out the light is the book's, and a booked plate is missing only under the green one
pub record TakingAsBooked (J : List Entry) (w : Simulated) : Type 0 where
  pub light : w.deposit_light ≡ lamp_of J belt.Deposit
  pub taken : HasBooked J w station.DepEnd ⊎ OneIsTaken J w
