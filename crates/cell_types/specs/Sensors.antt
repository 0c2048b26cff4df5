-- The words of what the sensors of a machine show
use Rattle.std.specs.Prelude.{ℕ, List, [], ◌∷◌, ◌++◌, map}
use Rattle.cell_types.specs.Cell.{poses, stations_of}
use Rattle.cell_types.specs.Texts.{pose_word, station_word}
use Rattle.cell_types.specs.declared.words.Axis.{Axis}
use Rattle.cell_types.specs.declared.words.Axis.TheVariants as axis
use Rattle.cell_types.specs.declared.words.Machine.{Machine}
use Rattle.cell_types.specs.declared.words.Machine.TheVariants as machine
use Rattle.cell_types.specs.declared.words.Station.TheVariants as station

-- the words of an axis's poses, each of which has a switch; a belt has no switches
abbrev pub switch_words : Axis → List (List ℕ)
switch_words axis.FeedBelt = []
switch_words axis.DepositBelt = []
switch_words a = map pose_word (poses a)

-- the words of a machine's stations; the feed belt has the table's sensor too
abbrev pub presence_words : Machine → List (List ℕ)
presence_words machine.Feed = map station_word (stations_of machine.Feed ++ station.Table ∷ [])
presence_words m = map station_word (stations_of m)
