-- What a cell at the end of two pipes tells of each call
use Rattle.std.specs.Prelude.{◌≡◌, ◌≤◌, ℕ, Bool, true, false, List, [], ◌∷◌, ◌++◌, length, take, Option, Some, None}
use Rattle.std.specs.Prelude.{Result, Ok, Err, is_some, option_map, ⊤, if◌then◌else◌}
use Rattle.std.specs.List.{list_any}
use Rattle.std.specs.Io.KnownBytes.{Appends}
use Rattle.cell_ports.specs.declared.port.Act.TheVariants as act
use Rattle.cell_turns.specs.Six.{at}
use Rattle.cell_plant.specs.Asked.{Acted, Asked, Closed, Handed, Opened, Ordered, Refused, Replied, Shown, Wished}
use Rattle.cell_plant.specs.declared.gone.Gone.{Gone}
use Rattle.cell_lines.specs.Known.{Picture, after_rows, first, hearing, next_wish, nothing, others, picture, seeing}
use Rattle.cell_lines.specs.Known.{wish_taken, without_readings}
use Rattle.line_reader.specs.Lines.{Row, lines_left, lines_of}
use Rattle.cell_lines.specs.Said.{answers, opens, said_of, syncs}
use Rattle.cell_lines.specs.Written.{line_of}
use Rattle.cell_lines.specs.declared.far_end.FarEnd.{FarEnd}
use Rattle.cell_lines.specs.declared.far_end.Loss.{Loss}
use Rattle.cell_lines.specs.declared.far_end.Loss.TheVariants as loss
use Rattle.cell_lines.specs.declared.said.Answer.{Answer}
use Rattle.cell_lines.specs.declared.said.Answer.TheVariants as answer
use Rattle.cell_lines.specs.declared.said.Said.{Said}
use Rattle.cell_lines.specs.declared.said.Said.TheVariants as said
use Rattle.cell_lines.specs.declared.written.Written.TheVariants as written

-- where a cell stands: the lines of it that are left and what was written to it, where that is known, what its lines
-- said, whether `stay` is still to be written, and why it can't be reached any more, if so
pub record Stand : Type 0 where
  pub left : Option (List (Option Row))
  pub text : Option (List ℕ)
  pub known : Picture
  pub due : Bool
  pub lost : Option Loss

abbrev pub stand_of : {R W E : Type 0} → (R → Option (List ℕ)) → (W → Option (List ℕ)) → FarEnd R W E → Stand
stand_of remaining contents far = record {
  left = lines_left remaining far.lines;
  text = contents far.writer;
  known = picture far.known;
  due = far.stay_is_due;
  lost = far.loss;
}

-- a cell of which no line was read, and to which nothing was written
abbrev pub first_stand : Option (List ℕ) → Option (List ℕ) → Stand
first_stand bytes text =
    record { left = option_map lines_of bytes; text = text; known = nothing; due = false; lost = None }

-- these lines were taken, where the lines are known
abbrev pub Reads : Option (List (Option Row)) → List (Option Row) → Option (List (Option Row)) → Type 0
Reads None rows left = ⊤
Reads (Some all) rows None = ⊥
Reads (Some all) rows (Some left) = all ≡ rows ++ left

-- a line was taken that says this, and nothing else happened
pub record TakesOne (s t : Stand) (one : Said) : Type 0 where
  pub row : Option Row
  pub read : Reads s.left (row ∷ []) t.left
  pub says : said_of row ≡ one
  pub rest : t ≡ record s { left = t.left }

-- lines were passed over, none of which stops: by a rule for each they changed what is known, and nothing else
pub record Passes (stops : Said → Bool) (rule : Said → Picture → Picture) (s t : Stand) : Type 0 where
  pub rows : List (Option Row)
  pub read : Reads s.left rows t.left
  pub none : list_any (λ row. stops (said_of row)) rows ≡ false
  pub rest : t ≡ record s { left = t.left; known = after_rows rule rows s.known }

-- lines were taken, up to the first that stops, which says this
pub record TakesTo (stops : Said → Bool) (rule : Said → Picture → Picture) (s t : Stand) (last : Said) : Type 0 where
  pub before : Stand
  pub passes : Passes stops rule s before
  pub takes : TakesOne before t last

-- a text was written, and nothing else happened
pub record Writes (text : List ℕ) (s t : Stand) : Type 0 where
  pub bytes : Appends s.text t.text text
  pub rest : t ≡ record s { text = t.text }

-- of a text a first part was written, or all of it
abbrev pub WritesSome : List ℕ → Option (List ℕ) → Option (List ℕ) → Type 0
WritesSome text old new = (n : ℕ) × (n ≤ length text) × Appends old new (take n text)

-- the cell is gone, for a reason: of a text a first part was written, or all of it
pub record Breaks (text : List ℕ) (s t : Stand) : Type 0 where
  pub bytes : WritesSome text s.text t.text
  pub lost : is_some t.lost ≡ true

-- a text was written, and lines were taken up to the first that answers
pub record Asks (text : List ℕ) (s t : Stand) (a : Answer) : Type 0 where
  pub sent : Stand
  pub writes : Writes text s sent
  pub takes : TakesTo answers hearing sent t (said.Answers a)

abbrev pub is_done : Answer → Bool
is_done answer.Done = true
is_done _ = false

-- a line that wants something done was written: its answer says whether it was; or the cell is gone, and at most the
-- line was written
abbrev pub Demands : List ℕ → Stand → Stand → Result Bool Gone → Type 0
Demands text s t (Ok done) = (a : Answer) × Asks text s t a × (done ≡ is_done a)
Demands text s t (Err gone) = Breaks text s t

-- `stay`, where it is due
abbrev pub stay_text : Bool → List ℕ
stay_text due = if due then line_of written.Stay else []

-- where `stay` is due it is written, and any answer is taken
abbrev pub Stays : Bool → Stand → Stand → Type 0
Stays true s t = (a : Answer) × Asks (line_of written.Stay) (record s { due = false }) t a
Stays false s t = t ≡ s

-- a round was opened: lines were taken up to the one that says so, and what they show is known; then `stay` was written
-- if it was due
pub record Opens (s t : Stand) : Type 0 where
  pub open_now : Stand
  pub takes : TakesTo opens seeing (record s { known = without_readings s.known }) open_now said.Round
  pub stays : Stays s.due open_now t

-- what a cell tells of each call. Where it is gone it tells how much was written
abbrev pub Told : Stand → Stand → Asked → Type 0
Told s t (Opened true) = Opens s t
Told s t (Opened false) = Breaks (stay_text s.due) s t
Told s t (Shown m r) = (r ≡ at s.known.readings m) × (t ≡ s)
Told s t (Ordered m c done) = Demands (line_of (written.Send c)) s t done
Told s t (Handed (act.Remove station) done) = Demands (line_of (written.Remove station)) s t done
Told s t (Handed (act.Home m) done) = Demands (line_of (written.Home m)) s t done
Told s t (Acted task) =
    (task ≡ first s.known.acts) × (t ≡ record s { known = record s.known { acts = others s.known.acts } })
Told s t (Refused task why) = t ≡ s
Told s t (Wished wish) =
    (wish ≡ next_wish s.known.wishes s.known.crowd)
    × (t ≡ record s { known = wish_taken s.known.wishes s.known })
Told s t (Replied r true) = Writes (line_of (written.Answer r)) s t
Told s t (Replied r false) = Breaks (line_of (written.Answer r)) s t
Told s t (Closed true) = Writes (line_of written.Done) s t
Told s t (Closed false) = Breaks (line_of written.Done) s t

-- the protocol begins: its first line was taken, and `stay` is due
abbrev pub Begins : Stand → Stand → Type 0
Begins s t = (plates : Option ℕ) × TakesOne (record s { due = true }) t (said.First 1 plates)

-- a run was found again: that was asked for, and lines were passed over up to the one that says so
pub record Syncs (n : ℕ) (s t : Stand) : Type 0 where
  pub sent : Stand
  pub writes : Writes (line_of (written.Sync n)) (record s { due = false }) sent
  pub takes : TakesTo (syncs n) (λ one p. p) sent t (said.Synced n)

-- what is written to find the run whose journal has so many entries
abbrev pub sync_text : ℕ → List ℕ
sync_text n = line_of (written.Sync n)

-- what is written at the end: all machines stop, and the run ends where the cell can still be reached
abbrev pub closing_text : Option Loss → List ℕ
closing_text None = line_of (written.Stop true)
closing_text (Some loss.End) = []
closing_text (Some loss.WriteFault) = []
closing_text (Some why) = line_of (written.Stop false)
