-- The motion of a machine that a journal shows
use Rattle.std.specs.Prelude.{ℕ, Option, List, slice_index_or}
use Rattle.std.specs.Option.{option_map, option_or, option_and_then}
use Rattle.std.specs.List.{slice_get}
use Rattle.cell_types.specs.declared.words.Machine.{Machine}
use Rattle.cell_types.specs.declared.words.Axis.{Axis}
use Rattle.cell_types.specs.declared.words.Entry.{Entry}
use Rattle.cell_types.specs.Cell.{axes_of}
use Rattle.cell_types.specs.Same.{axis_number}
use Rattle.cell_rules.specs.Views.{at_of, going_of}
use Rattle.cell_diagnosis.specs.Bounds.{Bounds}
use Rattle.cell_diagnosis.specs.declared.motion.Motion.{Motion}
use Rattle.cell_ports.specs.declared.plan.Plan.{Plan}

-- how many readings a motion of the axis may take
abbrev pub limits_of : Plan → Axis → Bounds
limits_of p a = slice_index_or p.limits (axis_number a) (record { leave = 2; limit = 3 })

abbrev pub motion_on : List Entry → Plan → Axis → Option Motion
motion_on J p a = option_map (λ to. record { axis = a; from = at_of J a; to = to; limits = limits_of p a })
    (going_of J a)

-- the same of the i-th axis of a machine, if it has so many
abbrev pub motion_of_axis : List Entry → Plan → Machine → ℕ → Option Motion
motion_of_axis J p m i = option_and_then (motion_on J p) (slice_get (axes_of m) i)

-- the first of the machine's axes that moves, of which there is one at most; a machine has at most three axes
abbrev pub motion_of_machine : List Entry → Plan → Machine → Option Motion
motion_of_machine J p m = option_or (option_or (motion_of_axis J p m 0) (motion_of_axis J p m 1))
    (motion_of_axis J p m 2)
