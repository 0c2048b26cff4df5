-- What a machine wants next, and what it waits for: the book's first refusal of that
use Rattle.std.specs.Prelude.{Bool, true, false, not, ◌&&◌, Option, Some, None, is_some, if◌then◌else◌}
use Rattle.std.specs.List.{find}
use Rattle.std.specs.Option.{option_map, option_or}
use Rattle.cell_types.specs.declared.words.Arm.TheVariants as arm
use Rattle.cell_types.specs.declared.words.Machine.{Machine}
use Rattle.cell_types.specs.declared.words.Machine.TheVariants as machine
use Rattle.cell_types.specs.declared.words.Station.TheVariants as station
use Rattle.cell_types.specs.declared.words.Axis.{Axis}
use Rattle.cell_types.specs.declared.words.Axis.TheVariants as axis
use Rattle.cell_types.specs.declared.words.Pose.{Pose}
use Rattle.cell_types.specs.declared.words.Pose.TheVariants as pose
use Rattle.cell_types.specs.declared.words.Entry.{Entry}
use Rattle.cell_types.specs.declared.words.Entry.TheVariants.{Claimed, Started, Gripped, Dropped}
use Rattle.cell_types.specs.After.{is_machine}
use Rattle.cell_rules.specs.Situations.{Situation}
use Rattle.cell_rules.specs.declared.limits.BookLimits.{BookLimits}
use Rattle.cell_rules.specs.First.{first}
use Rattle.cell_machines.specs.Useful.{is_lamp, is_useful_now}
use Rattle.cell_machines.specs.Candidates.{candidates}
use Rattle.cell_waits.specs.Ends.{end_of_motion}
use Rattle.cell_waits.specs.declared.sought.Sought.{Sought}
use Rattle.cell_waits.specs.declared.sought.Sought.TheVariants as sought
use Rattle.cell_waits.specs.declared.waiting.Waiting.{Waiting}

-- a claim of a zone that its machine doesn't hold
abbrev pub is_claim : Situation → Entry → Bool
is_claim c (Claimed m z) = not (is_machine m (c.holder z))
is_claim c _ = false

-- the feed belt moves only with a plate
abbrev pub has_load : Situation → Axis → Pose → Bool
has_load c axis.FeedBelt pose.ToEnd = c.occupied station.FeedIn
has_load c axis.FeedBelt pose.ToTable = c.occupied station.FeedEnd
has_load c a to = true

-- a motion, a grip or a drop
abbrev pub is_motion : Situation → Entry → Bool
is_motion c (Started a to) = has_load c a to
is_motion c (Gripped x k s) = true
is_motion c (Dropped x k s) = true
is_motion c _ = false

-- an entry is looked for: any but that of a light, a claim or a motion
abbrev pub is_sought : Situation → Sought → Entry → Bool
is_sought c sought.Any e = not (is_lamp e)
is_sought c sought.Claims e = is_claim c e
is_sought c sought.Motions e = is_motion c e

-- it is useful besides, by these limits; the number of plates that are to be admitted matters for lights alone
abbrev pub is_useful_and : BookLimits → Situation → Machine → Sought → Entry → Bool
is_useful_and l c m s e = is_useful_now l c 0 m e && is_sought c s e

-- the first of these entries, in the order of the machine's table
abbrev pub first_useful : BookLimits → Situation → Machine → Sought → Option Entry
first_useful l c m s = find (is_useful_and l c m s) (candidates c m)

-- a machine can go on by an entry that is useful
abbrev pub can_go_on : BookLimits → Situation → Machine → Bool
can_go_on l c m = is_some (first_useful l c m sought.Any)

-- limits by which a journal has no room; as want of room doesn't count against an entry, all that a machine wants is
-- useful by them
abbrev pub no_room : BookLimits
no_room = record { entries = 0; plates = 0 }

-- the drop of arm 1's plate at press 2, where both presses are failed
abbrev pub stranded : Situation → Option Entry
stranded c =
    if c.failed machine.Press1 && c.failed machine.Press2
    then option_map (λ k. Dropped arm.Arm1 k station.Press2) (c.plate station.Arm1) else None

-- the drop of a plate that no press is left for; only the robot has one
abbrev pub stranded_drop : Situation → Machine → Option Entry
stranded_drop c machine.Robot = stranded c
stranded_drop c m = None

-- what a machine wants next: the end of its motion, or else a zone that it doesn't hold, or else a motion, or else the
-- drop of a plate that no press is left for
abbrev pub next_wanted : Situation → Machine → Option Entry
next_wanted c m =
    option_or (end_of_motion c m)
    (option_or (first_useful no_room c m sought.Claims)
    (option_or (first_useful no_room c m sought.Motions) (stranded_drop c m)))

-- an entry with its first refusal, if it is refused
abbrev pub refused : BookLimits → Situation → Entry → Option Waiting
refused l c e = option_map (λ why. record { wanted = e; refusal = why }) (first l c e)

abbrev pub refused_if : BookLimits → Situation → Option Entry → Option Waiting
refused_if l c None = None
refused_if l c (Some e) = refused l c e

-- what a machine waits for: nothing where it can go on, and else what it wants next, with the first refusal of that
abbrev pub waiting_of : BookLimits → Situation → Machine → Option Waiting
waiting_of l c m = if can_go_on l c m then None else refused_if l c (next_wanted c m)
