-- The command line that the program knows
use Rattle.std.specs.Prelude.{◌≡◌, false, true, Some, List, [], ◌∷◌, codes}
use Rattle.std.specs.List.{fold}
use Rattle.clap.specs.Words.{App, Rule, Shape, Text, app_of, new_app, new_rule, with_rule, with_subcommand}
use Rattle.clap.specs.declared.builder.ArgAction.TheVariants.{Append, SetTrue}
use Rattle.clap.specs.declared.builder.command.Command.{Command}
use Rattle.clap.specs.declared.builder.command.Command.TheViews.{out-Command}

-- a command has no argument that its subcommands have too
abbrev pub IsLocal : Command → Type 0
IsLocal command = (out-Command command).has_globals ≡ false

-- a command is as its definition says, and has no such argument
abbrev pub IsCommand : App → Command → Type 0
IsCommand app command = (app_of command ≡ app) × IsLocal command

-- the program's name alone asks for help, and `--version` for the version
abbrev pub for_people : Shape → Shape
for_people s = record s { subcommand_required = true; arg_required_else_help = true; has_version = true }

-- a word that may be given
unfoldable pub optional_rule : Text → Rule
optional_rule id = record (new_rule id) { value_names = 1 }

-- a command with the name of a file, which may be given
abbrev pub with_input : App → App
with_input a = with_rule a (optional_rule (codes "file"))

abbrev pub audit : App
audit = with_input (new_app (codes "audit"))

abbrev pub migrate : App
migrate = with_input (new_app (codes "migrate"))

-- a path that has to be given
unfoldable pub path_rule : Text → Rule
path_rule id = record (new_rule id) { required = true; value_names = 1 }

abbrev pub check : App
check = with_rule (new_app (codes "check")) (path_rule (codes "settings"))

-- a command with these rules more
abbrev pub with_rules : App → List Rule → App
with_rules a rules = fold with_rule a rules

-- a flag
unfoldable pub flag_rule : Text → Rule
flag_rule id = record (new_rule id) { long = Some id; action = Some SetTrue }

-- an option with a file
unfoldable pub file_rule : Text → Rule
file_rule id = record (new_rule id) { long = Some id; value_names = 1 }

-- the option with the file that has the durations of motions
abbrev pub times_rule : Rule
times_rule = file_rule (codes "times")

-- the option with the name of a journal's file, which has a short form, `-f`
unfoldable pub journal_rule : Rule
journal_rule = record (file_rule (codes "file")) { short = Some 102 }

-- the command that shows the cell, with the flags for a picture and a page
unfoldable pub pictured : App
pictured = with_rules (new_app (codes "show")) (flag_rule (codes "svg") ∷ flag_rule (codes "html") ∷ [])

-- the same with the flag for other signs and the options for the states of a page
unfoldable pub windowed : App
windowed = with_rules pictured (flag_rule (codes "unicode") ∷ file_rule (codes "from") ∷ file_rule (codes "count") ∷ [])

-- the same with the options for durations, for another journal, which is shown beside, and for one that plays
unfoldable pub accompanied : App
accompanied = with_rules windowed
    (times_rule ∷ file_rule (codes "beside") ∷ file_rule (codes "animate") ∷ [])

-- the same with the option for a file, and how many entries are shown, which may be given
unfoldable pub show : App
show = with_rules accompanied (journal_rule ∷ optional_rule (codes "entry") ∷ [])

-- words of which one at least has to be given
unfoldable pub several_rule : Text → Rule
several_rule id = record (new_rule id) { required = true; value_names = 1; action = Some Append }

-- an option that may be given several times
unfoldable pub repeated_rule : Text → Rule
repeated_rule id = record (file_rule id) { action = Some Append }

unfoldable pub explain : App
explain = with_input (with_rules (new_app (codes "explain"))
    (file_rule (codes "settings") ∷ file_rule (codes "faults") ∷ file_rule (codes "operator") ∷ []))

-- the command that measures journals: the option with the durations of motions, the flags of CSV and of a picture, and
-- the journals
unfoldable pub measure : App
measure = with_rules (new_app (codes "measure"))
    (times_rule ∷ flag_rule (codes "csv") ∷ flag_rule (codes "svg") ∷ several_rule (codes "journals") ∷ [])

-- the command that tells the entries of a journal: the option with the durations of motions, the flags of its three
-- forms, and the journal
unfoldable pub events : App
events = with_rules (new_app (codes "events"))
    (times_rule ∷ flag_rule (codes "csv") ∷ flag_rule (codes "trace") ∷ flag_rule (codes "vcd")
    ∷ path_rule (codes "journal") ∷ [])

-- a command with the flags of those that run the cell, and the option for durations
unfoldable pub flagged : App → App
flagged a = with_rules a (flag_rule (codes "journal") ∷ flag_rule (codes "explain") ∷ times_rule ∷ [])

-- a command with the paths of a run's two scripts
unfoldable pub scripted : App → App
scripted a = with_rules a (path_rule (codes "faults") ∷ path_rule (codes "operator") ∷ [])

-- a command with the paths of a run's three files
abbrev pub filed : App → App
filed a = scripted (with_rule a (path_rule (codes "settings")))

-- a command that runs the cell in rounds, with the options for the files of a journal that is followed and of one from
-- which the run goes on, and the flag for measures
unfoldable pub in_rounds : App → App
in_rounds a = with_rules a (file_rule (codes "follow") ∷ file_rule (codes "from") ∷ flag_rule (codes "measures") ∷ [])

-- the command that runs the cell on one thread
abbrev pub sim : App
sim = filed (in_rounds (flagged (new_app (codes "sim"))))

-- the option with the number of threads
abbrev pub threads_rule : Rule
threads_rule = file_rule (codes "threads")

-- a command with the words for what a sweep goes through: the options with the kinds and with how many motions, the
-- flag of pairs, and the options of faults that are drawn
unfoldable pub faulted : App → App
faulted a = with_rules a
    (file_rule (codes "kinds") ∷ file_rule (codes "motions") ∷ flag_rule (codes "pairs") ∷ file_rule (codes "random")
    ∷ file_rule (codes "seed") ∷ file_rule (codes "faults") ∷ [])

-- a command with the options for a part of the work and for the number of threads
unfoldable pub parted : App → App
parted a = with_rules a (file_rule (codes "part") ∷ threads_rule ∷ [])

-- the command that runs the cell once for each fault, with the flags of the service, of CSV and of a picture, and the
-- paths of the settings and of the operator's script
unfoldable pub sweep : App
sweep = with_rules (parted (faulted (new_app (codes "sweep"))))
    (flag_rule (codes "service") ∷ flag_rule (codes "csv") ∷ flag_rule (codes "svg") ∷ path_rule (codes "settings")
    ∷ path_rule (codes "operator") ∷ [])

-- the command that looks at every order of events: the machines that may fail, the flag of repairs, the limit, the flag
-- of the journal, and the numbers of threads and of plates
unfoldable pub explore : App
explore = with_rules (new_app (codes "explore"))
    (repeated_rule (codes "fail") ∷ flag_rule (codes "repair") ∷ file_rule (codes "limit") ∷ flag_rule (codes "journal")
    ∷ threads_rule ∷ path_rule (codes "plates") ∷ [])

-- the command by which a method drives the cell, with the flag for commands to the bare machines and the option for
-- the file of a journal from which the run goes on
abbrev pub drive : App
drive =
    filed (with_rule (flagged (with_rule (new_app (codes "drive")) (flag_rule (codes "raw"))))
    (file_rule (codes "from")))

-- the command that controls a cell at the other end of two pipes: the option with the journal's file, the flags of
-- going on, of the device, of waiting and of an explanation, and the paths of the settings and of the operator's script
unfoldable pub control : App
control = with_rules (new_app (codes "control"))
    (file_rule (codes "journal") ∷ flag_rule (codes "resume") ∷ flag_rule (codes "sync") ∷ flag_rule (codes "wait")
    ∷ flag_rule (codes "explain") ∷ path_rule (codes "settings") ∷ path_rule (codes "operator") ∷ [])

-- the command that runs the cell on threads, with the flag for measures
abbrev pub run : App
run = filed (with_rule (flagged (new_app (codes "run"))) (flag_rule (codes "measures")))

-- the program's commands, in the order of its help
unfoldable pub commands : List App
commands = audit ∷ migrate ∷ show ∷ explain ∷ measure ∷ events ∷ check ∷ sim ∷ sweep ∷ explore ∷ drive ∷ control ∷ run
    ∷ []

-- a program with a command more
abbrev pub with_command : App → App → App
with_command program command = with_subcommand program command.top

-- the program with its commands
abbrev pub program : App
program = fold with_command (new_app (codes "cellctl")) commands

abbrev pub cellctl : App
cellctl = record program { top = for_people program.top }
