-- What the operator does by hand for his entries
use Rattle.std.specs.Prelude.{◌≡◌, ◌⊎◌, List, [], ◌∷◌, ◌++◌, Option, Some, None, option_to_list}
use Rattle.cell_types.specs.declared.words.Entry.{Entry}
use Rattle.cell_types.specs.declared.words.Entry.TheVariants.{Quarantined, Repaired}
use Rattle.cell_ports.specs.declared.port.Act.{Act}
use Rattle.cell_ports.specs.declared.port.Act.TheVariants.{Remove, Home}
use Rattle.cell_ports.specs.Logs.{ActLog}

-- he takes a plate out before it is booked, and sends a machine's axes home before its repair is
abbrev pub act_of : Entry → Option Act
act_of (Quarantined k src) = Some (Remove src)
act_of (Repaired m) = Some (Home m)
act_of _ = None

-- the acts of the entries, in order
abbrev pub hands : List Entry → List Act
hands [] = []
hands (e ∷ es) = option_to_list (act_of e) ++ hands es

pub record Did (before now : ActLog) (es : List Entry) : Type 0 where
  pub acts : now.acts ≡ before.acts ++ hands es

-- nothing was done, or this act where one is wanted
abbrev pub AtMost : Option Act → List Act → Type 0
AtMost wanted done = (done ≡ []) ⊎ (done ≡ option_to_list wanted)

-- at most this act was done, and none failed
pub record ActedAtMost (wanted : Option Act) (before now : ActLog) : Type 0 where
  pub done : List Act
  pub most : AtMost wanted done
  pub acts : now.acts ≡ before.acts ++ done
  pub failures : now.failures ≡ before.failures

-- the acts of the entries, and at most this act beyond them
pub record DidMore (wanted : Option Act) (before now : ActLog) (es : List Entry) : Type 0 where
  pub beyond : List Act
  pub most : AtMost wanted beyond
  pub acts : now.acts ≡ (before.acts ++ hands es) ++ beyond
