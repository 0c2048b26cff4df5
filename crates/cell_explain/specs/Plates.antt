-- What is told of the plates that stand in the cell
use Rattle.std.specs.Prelude.{ℕ, ◌||◌, is_some, List, [], ◌∷◌, ◌++◌, Option, Some, None, codes, decimal, if◌then◌else◌}
use Rattle.std.specs.List.{flat_map}
use Rattle.cell_types.specs.declared.words.Arm.TheVariants as arm
use Rattle.cell_types.specs.declared.words.Axis.{Axis}
use Rattle.cell_types.specs.declared.words.Axis.TheVariants as axis
use Rattle.cell_types.specs.declared.words.AxisState.{AxisState}
use Rattle.cell_types.specs.declared.words.Entry.{Entry}
use Rattle.cell_types.specs.declared.words.Entry.TheVariants.{Started, Arrived, Conveyed, Forged, Gripped, Dropped}
use Rattle.cell_types.specs.declared.words.Entry.TheVariants.{Delivered}
use Rattle.cell_types.specs.declared.words.Machine.TheVariants as machine
use Rattle.cell_types.specs.declared.words.Pose.{Pose}
use Rattle.cell_types.specs.declared.words.Pose.TheVariants as pose
use Rattle.cell_types.specs.declared.words.Station.{Station}
use Rattle.cell_types.specs.declared.words.Station.TheVariants as station
use Rattle.cell_types.specs.Cell.{machine_of_axis}
use Rattle.cell_types.specs.Same.{same_pose}
use Rattle.cell_types.specs.Texts.{all_station}
use Rattle.cell_rules.specs.Views.{going_of, is_failed, plate_of, pose_of}
use Rattle.cell_rules.specs.declared.limits.BookLimits.{BookLimits}
use Rattle.cell_rules.specs.declared.refusal.Refusal.{Refusal}
use Rattle.cell_rules.specs.Legal.{first_of}
use Rattle.cell_sentences.specs.Names.{station_name}
use Rattle.cell_sentences.specs.Sentences.{entry_sentence, refusal_sentence}

-- the entry by which plate k on a belt goes on to dest: the belt sets out with it, or, once it moves so, brings it
-- there
abbrev pub belt_entry : Axis → ℕ → Pose → Station → Option Pose → Entry
belt_entry a k to dest None = Started a to
belt_entry a k to dest (Some going) = if same_pose going to then Conveyed a k dest else Started a to

-- the entry by which plate k in a press goes on: the press sets out for its top and forges it there, goes to its
-- bottom, and there the plate is gripped
abbrev pub press_entry : Axis → ℕ → Station → Pose → Option Pose → Entry
press_entry a k s at (Some pose.Top) = Forged (machine_of_axis a) k
press_entry a k s at (Some to) = Arrived a to
press_entry a k s pose.Middle None = Started a pose.Top
press_entry a k s pose.Top None = Started a pose.Bottom
press_entry a k s at None = Gripped arm.Arm2 k s

abbrev pub press_entry_at : Axis → ℕ → Station → AxisState → Entry
press_entry_at a k s state = press_entry a k s state.at state.going

-- the press at which arm 1 would lay its plate down: the first, unless it is failed or has a plate
abbrev pub press_for_arm : List Entry → Station
press_for_arm J = if is_failed J machine.Press1 || is_some (plate_of J station.Press1) then station.Press2
    else station.Press1

-- the entry by which plate k at a station goes on
abbrev pub next_entry : List Entry → Station → ℕ → Entry
next_entry J station.FeedIn k = belt_entry axis.FeedBelt k pose.ToEnd station.FeedEnd (going_of J axis.FeedBelt)
next_entry J station.FeedEnd k = belt_entry axis.FeedBelt k pose.ToTable station.Table (going_of J axis.FeedBelt)
next_entry J station.Table k = Gripped arm.Arm1 k station.Table
next_entry J station.Arm1 k = Dropped arm.Arm1 k (press_for_arm J)
next_entry J station.Arm2 k = Dropped arm.Arm2 k station.DepIn
next_entry J station.Press1 k = press_entry_at axis.PressOne k station.Press1 (pose_of J axis.PressOne)
next_entry J station.Press2 k = press_entry_at axis.PressTwo k station.Press2 (pose_of J axis.PressTwo)
next_entry J station.DepIn k = belt_entry axis.DepositBelt k pose.ToEnd station.DepEnd (going_of J axis.DepositBelt)
next_entry J station.DepEnd k = Delivered k

-- how the line of a plate ends: with what refuses the next entry, or that nothing does
abbrev pub line_end : Option Refusal → List ℕ
line_end None = codes "\", which nothing refuses\n"
line_end (Some why) = codes "\", but " ++ (refusal_sentence why ++ 10 ∷ [])

-- the line of plate k at a station, which goes on by this entry, that is refused or not
abbrev pub line_of_next : Station → ℕ → Entry → Option Refusal → List ℕ
line_of_next s k e why = codes "plate " ++ (decimal k
    ++ (codes " is at " ++ (station_name s ++ (codes "; next is \"" ++ (entry_sentence e ++ line_end why)))))

-- the line of plate k at a station, by the run's limits
abbrev pub plate_line : BookLimits → List Entry → Station → ℕ → List ℕ
plate_line l J s k = line_of_next s k (next_entry J s k) (first_of l J (next_entry J s k))

abbrev pub line_if_plate : BookLimits → List Entry → Station → Option ℕ → List ℕ
line_if_plate l J s None = []
line_if_plate l J s (Some k) = plate_line l J s k

-- what is told of a station: the line of its plate, where it has one
abbrev pub told_at : BookLimits → List Entry → Station → List ℕ
told_at l J s = line_if_plate l J s (plate_of J s)

-- what is told of the plates, in the order of the stations
abbrev pub plates_of : BookLimits → List Entry → List ℕ
plates_of l J = flat_map (told_at l J) all_station
