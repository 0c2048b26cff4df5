-- For which entries before it an entry of a journal waits
use Rattle.std.specs.Prelude.{ℕ, ◌==◌, ◌&&◌, ◌||◌, Bool, false, Option, Some, None}
use Rattle.std.specs.List.{list_any}
use Rattle.cell_types.specs.declared.words.Machine.{Machine}
use Rattle.cell_types.specs.declared.words.Axis.{Axis}
use Rattle.cell_types.specs.declared.words.Zone.{Zone}
use Rattle.cell_types.specs.declared.words.Machine.TheVariants as machine
use Rattle.cell_types.specs.declared.words.Entry.{Entry}
use Rattle.cell_types.specs.declared.words.Entry.TheVariants.{Admitted, Claimed, Yielded, Started, Conveyed, Forged}
use Rattle.cell_types.specs.declared.words.Entry.TheVariants.{Gripped, Dropped, Delivered, StopAsked, Quarantined}
use Rattle.cell_types.specs.declared.words.Entry.TheVariants.{Repaired, Expected, Reinstated}
use Rattle.cell_types.specs.Same.{same_machine, same_axis, same_zone}
use Rattle.cell_types.specs.Cell.{machine_of_station, owner, visitor}
use Rattle.cell_types.specs.Entries.{machine_of_entry}
use Rattle.cell_types.specs.Texts.{all_zone}

-- the machine for which the operator books an entry: a plate is laid back at the feed belt
abbrev pub served : Entry → Machine
served (StopAsked m) = m
served (Quarantined k src) = machine_of_station src
served (Repaired m) = m
served _ = machine.Feed

abbrev pub or_served : Option Machine → Entry → Machine
or_served (Some m) e = m
or_served None e = served e

-- the machine of an entry: the one that books it, or the one for which the operator does
abbrev pub machine_of : Entry → Machine
machine_of e = or_served (machine_of_entry e) e

abbrev pub is_of : Machine → Entry → Bool
is_of m d = same_machine (machine_of d) m

-- the plate that an entry names
abbrev pub plate_of : Entry → Option ℕ
plate_of (Admitted k) = Some k
plate_of (Conveyed a k dest) = Some k
plate_of (Forged m k) = Some k
plate_of (Gripped arm k src) = Some k
plate_of (Dropped arm k dest) = Some k
plate_of (Delivered k) = Some k
plate_of (Quarantined k src) = Some k
plate_of (Expected k) = Some k
plate_of (Reinstated k) = Some k
plate_of _ = None

abbrev pub is_number : ℕ → Option ℕ → Bool
is_number k (Some j) = j == k
is_number k None = false

-- whether an entry names plate k
abbrev pub names : ℕ → Entry → Bool
names k d = is_number k (plate_of d)

abbrev pub names_that : Option ℕ → Entry → Bool
names_that (Some k) d = names k d
names_that None d = false

-- whether an entry sets zone z free: its holder yields it, or a machine that owns or visits it is repaired
abbrev pub frees : Zone → Entry → Bool
frees z (Yielded m y) = same_zone y z
frees z (Repaired m) = same_machine (owner z) m || same_machine (visitor z) m
frees z _ = false

-- whether an entry waits until zone z is free: it is claimed, or its owner is cleared or repaired
abbrev pub wants : Zone → Entry → Bool
wants z (Claimed m y) = same_zone y z
wants z (Quarantined k src) = same_machine (owner z) (machine_of_station src)
wants z (Repaired m) = same_machine (owner z) m
wants z _ = false

-- whether an entry waits for an earlier one: it is of the same machine or names the same plate, or wants a zone that
-- the earlier one sets free
abbrev pub waits_for : Entry → Entry → Bool
waits_for e d = is_of (machine_of e) d || (names_that (plate_of e) d || list_any (λ z. wants z e && frees z d) all_zone)

-- whether an entry starts a motion of axis a
abbrev pub starts : Axis → Entry → Bool
starts a (Started b to) = same_axis b a
starts a _ = false
