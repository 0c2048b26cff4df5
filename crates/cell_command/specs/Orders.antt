-- What an order has of the words
use Rattle.std.specs.Prelude.{◌≡◌, ℕ, Bool, true, false, List, Option, Some, None, codes, map, option_map, []}
use Rattle.std.specs.Borrow.{Bor}
use Rattle.clap.specs.Words.{Row, Text, all_of, first_of, one_of, subcommand_of}
use Rattle.cell_command.specs.Shape.{cellctl}
use Rattle.cell_command.specs.declared.order.Continuing.{Continuing}
use Rattle.cell_command.specs.declared.order.Controlling.{Controlling}
use Rattle.cell_command.specs.declared.order.Driving.{Driving}
use Rattle.cell_command.specs.declared.order.Explaining.{Explaining}
use Rattle.cell_command.specs.declared.order.Exploring.{Exploring}
use Rattle.cell_command.specs.declared.order.Listing.{Listing}
use Rattle.cell_command.specs.declared.order.Measuring.{Measuring}
use Rattle.cell_command.specs.declared.order.Paths.{Paths}
use Rattle.cell_command.specs.declared.order.Running.{Running}
use Rattle.cell_command.specs.declared.order.Showing.{Showing}
use Rattle.cell_command.specs.declared.order.Sweeping.{Sweeping}
use Rattle.cell_command.specs.declared.order.Order.{Order}
use Rattle.cell_command.specs.declared.order.Order.TheVariants as order

-- the path that is matched at an id
abbrev pub HasPath : List Row → Text → Text → Type 0
HasPath rows id path = first_of id rows ≡ Some path

-- the value that is matched at an id, or none
abbrev pub HasValue : List Row → Text → Option (Bor (List ℕ)) → Type 0
HasValue rows id value = option_map (λ v. v.now) value ≡ first_of id rows

-- the values that are matched at an id
abbrev pub HasValues : List Row → Text → List (Bor (List ℕ)) → Type 0
HasValues rows id values = all_of id rows ≡ Some (map (λ v. v.now) values)

-- the values that are matched at an id, or none
abbrev pub values_or_none : Option (List Text) → List Text
values_or_none None = []
values_or_none (Some values) = values

abbrev pub HasAnyValues : List Row → Text → List (Bor (List ℕ)) → Type 0
HasAnyValues rows id values = map (λ v. v.now) values ≡ values_or_none (all_of id rows)

-- the flag is set where it is matched
abbrev pub HasFlag : List Row → Text → Bool → Type 0
HasFlag rows id flag = (one_of id rows ≡ Some (codes "true") → flag ≡ true)
    × (one_of id rows ≡ Some (codes "false") → flag ≡ false)
    × (one_of id rows ≡ None → flag ≡ false)

-- the paths of a run's three files
abbrev pub HasPaths : List Row → Paths → Type 0
HasPaths rows paths = HasPath rows (codes "settings") paths.settings.now
    × HasPath rows (codes "faults") paths.faults.now
    × HasPath rows (codes "operator") paths.operator.now

-- the flags of a run, the file with the durations of its motions, and its files
abbrev pub IsRun : List Row → Running → Type 0
IsRun rows r = HasFlag rows (codes "journal") r.journal × HasFlag rows (codes "explain") r.explain
    × HasValue rows (codes "times") r.times × HasPaths rows r.paths

-- the files of the journals from which a run goes on and that is to be followed, the flag for measures, and the flags
-- and files of a run
abbrev pub IsContinued : List Row → Continuing → Type 0
IsContinued rows c = HasPath rows (codes "from") c.from.now × HasValue rows (codes "follow") c.follow
    × HasFlag rows (codes "measures") c.measures × IsRun rows c.running

-- the flag for bare machines, the file of the journal from which the run goes on, and the flags and files of a run
abbrev pub IsDriven : List Row → Driving → Type 0
IsDriven rows d = HasFlag rows (codes "raw") d.raw × HasValue rows (codes "from") d.from × IsRun rows d.running

-- the journal's file, the flags and the two files of a run that controls a cell
abbrev pub IsControlled : List Row → Controlling → Type 0
IsControlled rows c = HasValue rows (codes "journal") c.journal
    × HasFlag rows (codes "resume") c.resume
    × HasFlag rows (codes "sync") c.sync
    × HasFlag rows (codes "wait") c.wait
    × HasFlag rows (codes "explain") c.explain
    × HasPath rows (codes "settings") c.settings.now
    × HasPath rows (codes "operator") c.operator.now

-- the flags of a picture, after how many entries a page begins and how many it shows, the files of durations, of the
-- journal beside, of the one that plays and of the journal, and how many entries it takes
abbrev pub IsShown : List Row → Showing → Type 0
IsShown rows s = HasFlag rows (codes "svg") s.svg
    × HasFlag rows (codes "html") s.html
    × HasFlag rows (codes "unicode") s.unicode
    × HasValue rows (codes "from") s.from
    × HasValue rows (codes "count") s.count
    × HasValue rows (codes "times") s.times
    × HasValue rows (codes "beside") s.beside
    × HasValue rows (codes "animate") s.animate
    × HasValue rows (codes "file") s.file
    × HasValue rows (codes "entry") s.entry

-- the files that are explained
abbrev pub IsExplained : List Row → Explaining → Type 0
IsExplained rows e = HasValue rows (codes "file") e.journal
    × HasValue rows (codes "settings") e.settings
    × HasValue rows (codes "faults") e.faults
    × HasValue rows (codes "operator") e.operator

-- the file with the durations of motions, the flags of CSV and of a picture, and the journals
abbrev pub IsMeasured : List Row → Measuring → Type 0
IsMeasured rows m = HasValue rows (codes "times") m.times
    × HasFlag rows (codes "csv") m.csv
    × HasFlag rows (codes "svg") m.svg
    × HasValues rows (codes "journals") m.journals.items

-- the file with the durations of motions, the flags of the three forms, and the journal
abbrev pub IsListed : List Row → Listing → Type 0
IsListed rows l = HasValue rows (codes "times") l.times
    × HasFlag rows (codes "csv") l.csv
    × HasFlag rows (codes "trace") l.trace
    × HasFlag rows (codes "vcd") l.vcd
    × HasPath rows (codes "journal") l.journal.now

-- the kinds, the number of motions, the flag of pairs, the numbers of faults that are drawn, the part, the number of
-- threads, the flags and the two files of a sweep
abbrev pub IsSwept : List Row → Sweeping → Type 0
IsSwept rows s = HasValue rows (codes "kinds") s.kinds
    × HasValue rows (codes "motions") s.motions
    × HasFlag rows (codes "pairs") s.pairs
    × HasValue rows (codes "random") s.random
    × HasValue rows (codes "seed") s.seed
    × HasValue rows (codes "faults") s.faults
    × HasValue rows (codes "part") s.part
    × HasValue rows (codes "threads") s.threads
    × HasFlag rows (codes "service") s.service
    × HasFlag rows (codes "csv") s.csv
    × HasFlag rows (codes "svg") s.svg
    × HasPath rows (codes "settings") s.settings.now
    × HasPath rows (codes "operator") s.operator.now

-- the machines that may fail, the flags, the limit, and the numbers of threads and of plates of a search
abbrev pub IsExplored : List Row → Exploring → Type 0
IsExplored rows e = HasAnyValues rows (codes "fail") e.failing.items
    × HasFlag rows (codes "repair") e.repairs
    × HasValue rows (codes "limit") e.limit
    × HasFlag rows (codes "journal") e.journal
    × HasValue rows (codes "threads") e.threads
    × HasPath rows (codes "plates") e.plates.now

-- the order of a command's name and what is matched below it
abbrev pub Fits : Text → List Row → Order → Type 0
Fits name rows (order.Audit file) = (name ≡ codes "audit") × HasValue rows (codes "file") file
Fits name rows (order.Migrate file) = (name ≡ codes "migrate") × HasValue rows (codes "file") file
Fits name rows (order.Show showing) = (name ≡ codes "show") × IsShown rows showing
Fits name rows (order.Explain explaining) = (name ≡ codes "explain") × IsExplained rows explaining
Fits name rows (order.Measure measuring) = (name ≡ codes "measure") × IsMeasured rows measuring
Fits name rows (order.Events listing) = (name ≡ codes "events") × IsListed rows listing
Fits name rows (order.Check path) = (name ≡ codes "check") × HasPath rows (codes "settings") path.now
Fits name rows (order.Sim running) = (name ≡ codes "sim") × HasValue rows (codes "from") None
    × HasValue rows (codes "follow") None × HasFlag rows (codes "measures") false × IsRun rows running
Fits name rows (order.SimMeasured running) = (name ≡ codes "sim") × HasValue rows (codes "from") None
    × HasValue rows (codes "follow") None × HasFlag rows (codes "measures") true × IsRun rows running
Fits name rows (order.Follow path running) = (name ≡ codes "sim") × HasValue rows (codes "from") None
    × HasValue rows (codes "follow") (Some path) × IsRun rows running
Fits name rows (order.SimFrom continuing) = (name ≡ codes "sim") × IsContinued rows continuing
Fits name rows (order.Sweep sweeping) = (name ≡ codes "sweep") × IsSwept rows sweeping
Fits name rows (order.Explore exploring) = (name ≡ codes "explore") × IsExplored rows exploring
Fits name rows (order.Drive driving) = (name ≡ codes "drive") × IsDriven rows driving
Fits name rows (order.Control controlling) = (name ≡ codes "control") × IsControlled rows controlling
Fits name rows (order.Run running) = (name ≡ codes "run") × HasFlag rows (codes "measures") false × IsRun rows running
Fits name rows (order.RunMeasured running) = (name ≡ codes "run") × HasFlag rows (codes "measures") true
    × IsRun rows running

-- the words have a command that clap matches in them, and the order is of it
abbrev pub IsOrdered : List Text → Order → Type 0
IsOrdered words o = (name : Text) × (rows : List Row) × (subcommand_of cellctl words ≡ Some (name, rows))
    × Fits name rows o
