-- What the command line's words are refused by
use Rattle.std.specs.Prelude.{◌&&◌, ◌||◌, Bool, false, List, [], ◌∷◌, codes, if◌then◌else◌}
use Rattle.std.specs.Str.{bytes_eq}
use Rattle.clap.specs.Kinds.{Kinds}
use Rattle.clap.specs.Words.{Text, fault_of}
use Rattle.clap.specs.declared.error.kind.ErrorKind.TheVariants as kind
use Rattle.cell_command.specs.Shape.{cellctl}

-- the words ask `help` for its own help, as any command is asked for its own
abbrev pub wants_own_help : List Text → Bool
wants_own_help (program ∷ command ∷ wanted ∷ []) =
    bytes_eq command (codes "help") && (bytes_eq wanted (codes "--help") || bytes_eq wanted (codes "-h"))
wants_own_help words = false

-- the kinds of error that the words may give: those of the first fault that clap finds in them; where `help` is asked
-- for its own help, that help
abbrev pub refusals : List Text → Kinds
refusals words = if wants_own_help words then kind.DisplayHelp ∷ [] else fault_of cellctl words
