-- What the lines of a cell say is known of it
use Rattle.std.specs.Prelude.{ℕ, ◌+◌, ◌-◌, ◌^◌, ◌==◌, nat_lt, List, [], ◌∷◌, ◌++◌, length, map, min, Option, Some, None}
use Rattle.std.specs.Prelude.{if◌then◌else◌}
use Rattle.cell_types.specs.declared.words.Machine.{Machine}
use Rattle.cell_diagnosis.specs.declared.reading.Reading.{Reading}
use Rattle.operator_desk.specs.declared.line.Task.{Task}
use Rattle.cell_turns.specs.Six.{each, put}
use Rattle.cell_turns.specs.declared.six.Six.{Six}
use Rattle.cell_plant.specs.declared.desk.Wish.{Wish}
use Rattle.cell_plant.specs.declared.desk.Wish.TheVariants as wish
use Rattle.line_reader.specs.Lines.{Row}
use Rattle.cell_lines.specs.Said.{said_of}
use Rattle.cell_lines.specs.declared.known.Known.{Known}
use Rattle.cell_lines.specs.declared.said.Said.{Said}
use Rattle.cell_lines.specs.declared.said.Said.TheVariants as said

-- what is known of a cell: the readings of this round; what someone did there and what he wants, the oldest first, as
-- far as it isn't taken up yet; and how many wishes came for which there was no room
pub record Picture : Type 0 where
  pub readings : Six (Option Reading)
  pub acts : List Task
  pub wishes : List Wish
  pub crowd : ℕ

abbrev pub picture : Known → Picture
picture k = record {
  readings = k.readings;
  acts = map (λ act. act.0) k.acts.items;
  wishes = k.wishes.items;
  crowd = k.crowd;
}

abbrev pub no_readings : Six (Option Reading)
no_readings = each (λ m. None)

-- nothing is known
abbrev pub nothing : Picture
nothing = record { readings = no_readings; acts = []; wishes = []; crowd = 0 }

-- the readings of the round before aren't known any more
abbrev pub without_readings : Picture → Picture
without_readings p = record p { readings = no_readings }

-- a machine shows this, or its reading is missing
abbrev pub with_reading : Machine → Option Reading → Picture → Picture
with_reading m r p = record p { readings = put p.readings m r }

-- someone did this, where there is room for it: for 64
abbrev pub with_act : Task → Picture → Picture
with_act t p = if nat_lt (length p.acts) 64 then record p { acts = p.acts ++ t ∷ [] } else p

-- one wish more for which there is no room; at the greatest count it stays
abbrev pub one_more : ℕ → ℕ
one_more n = min (n + 1) (2 ^ 32 - 1)

-- what someone wants, if it can be read
abbrev pub wish_for : Option Task → Wish
wish_for (Some t) = wish.For t
wish_for None = wish.Unreadable

-- someone wants this; where there is no room for it, it is counted
abbrev pub with_wish : Wish → Picture → Picture
with_wish w p =
    if nat_lt (length p.wishes) 64 then record p { wishes = p.wishes ++ w ∷ [] } else record p
    { crowd = one_more p.crowd }

-- the first of a list, and the others
abbrev pub first : {A : Type 0} → List A → Option A
first [] = None
first (x ∷ xs) = Some x

abbrev pub others : {A : Type 0} → List A → List A
others [] = []
others (x ∷ xs) = xs

-- what is wanted next: after the wishes that were kept those for which there was no room
abbrev pub next_wish : List Wish → ℕ → Option Wish
next_wish (w ∷ ws) crowd = Some w
next_wish [] crowd = if crowd == 0 then None else Some wish.TooMuch

-- it was taken up
abbrev pub wish_taken : List Wish → Picture → Picture
wish_taken (w ∷ ws) p = record p { wishes = ws }
wish_taken [] p = record p { crowd = p.crowd - 1 }

-- what is known after a line in an open round: of what someone did and wants
abbrev pub hearing : Said → Picture → Picture
hearing (said.Did t) p = with_act t p
hearing (said.Wishes t) p = with_wish (wish_for (Some t)) p
hearing said.WishesUnread p = with_wish (wish_for None) p
hearing _ p = p

-- what is known after a line before a round is open: of its readings too
abbrev pub seeing : Said → Picture → Picture
seeing (said.Shows m r) p = with_reading m (Some r) p
seeing (said.Missing m) p = with_reading m None p
seeing (said.Garbled m) p = with_reading m None p
seeing s p = hearing s p

-- what is known after these lines, in order, by a rule for each
unfoldable pub after_rows : (Said → Picture → Picture) → List (Option Row) → Picture → Picture
after_rows rule [] p = p
after_rows rule (row ∷ rows) p = after_rows rule rows (rule (said_of row) p)
