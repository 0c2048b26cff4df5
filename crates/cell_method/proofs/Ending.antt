-- How a run comes to its end
use Rattle.std.proofs.Common.{◌≡◌, ◌∙◌, ◌⊎◌, ℕ, List, Option, Some, None, Bool, true, false, inl, inr, ap, sym}
use Rattle.std.proofs.Common.{refl, subst, arith, if◌then◌else◌}
use Rattle.cell_types.specs.declared.words.Entry.{Entry}
use Rattle.cell_ports.specs.declared.plan.Plan.{Plan}
use Rattle.cell_method.specs.Ends.{end_by, is_finished, is_full}
use Rattle.cell_method.specs.Lines.{Row}
use Rattle.cell_method.specs.Order.{Acting, HasQuit, IsDry, Over, Point, RoundEndsAt, Showing, Talking, between}
use Rattle.cell_method.specs.Rounds.{EndsAs, Reads, Stand}
use Rattle.cell_method.specs.declared.booking.Close.{Close}
use Rattle.cell_method.specs.declared.rounds.DriveEnd.{DriveEnd}
use Rattle.cell_method.specs.declared.rounds.DriveEnd.TheVariants as ends

-- if none of the lines is left later, none of those that were left earlier is
dry-earlier : (a b c : Option (List (Option Row))) (rows : List (Option Row)) → Reads a rows b → IsDry b c → IsDry a c
dry-earlier None b c rows read dry = tt
dry-earlier (Some a) None c rows read dry = absurd read
dry-earlier (Some a) (Some b) None rows read dry = tt
dry-earlier (Some a) (Some b) (Some c) rows read dry = dry

pub quit-earlier : (at : Point) (a b c : Option (List (Option Row))) (rows : List (Option Row)) → Reads a rows b
    → HasQuit at b c → HasQuit at a c
quit-earlier Over a b c rows read quit = tt
quit-earlier (Talking n) a b c rows read quit = dry-earlier a b c rows read quit
quit-earlier (Showing ms) a b c rows read quit = absurd quit
quit-earlier Acting a b c rows read quit = absurd quit

-- no journal sets the turn limit
no-limit : (done full : Bool) → Some ends.TurnLimit
    ≡ (if done then Some ends.Finished else if full then Some ends.Full else None) → ⊥
no-limit true full is = cc
no-limit false true is = cc
no-limit false false is = cc

no-quit : (done full : Bool) → Some ends.Quit
    ≡ (if done then Some ends.Finished else if full then Some ends.Full else None) → ⊥
no-quit true full is = cc
no-quit false true is = cc
no-quit false false is = cc

no-many : (done full : Bool) → Some ends.TooManyLines
    ≡ (if done then Some ends.Finished else if full then Some ends.Full else None) → ⊥
no-many true full is = cc
no-many false true is = cc
no-many false false is = cc

-- a round is closed, and the journal gives the run this end
pub journal-ends : (p : Plan) (s : Stand) (J : List Entry) (all left : Option (List (Option Row))) (e : DriveEnd)
    → J ≡ s.journal → Some e ≡ end_by p J → EndsAs p s between all left e
journal-ends p s J all left ends.Finished same is = (refl, is ∙ ap (end_by p) same)
journal-ends p s J all left ends.Full same is = (refl, is ∙ ap (end_by p) same)
journal-ends p s J all left ends.Memory same is = (refl, is ∙ ap (end_by p) same)
journal-ends p s J all left ends.TurnLimit same is = absurd (no-limit (is_finished p.plates J) (is_full p J) is)
journal-ends p s J all left ends.Quit same is = absurd (no-quit (is_finished p.plates J) (is_full p J) is)
journal-ends p s J all left ends.TooManyLines same is = absurd (no-many (is_finished p.plates J) (is_full p J) is)

-- the lines of the round closed so
pub round-is : (closed this : Close) (at : Point) (all left : Option (List (Option Row))) → closed ≡ this
    → RoundEndsAt closed at all left → RoundEndsAt this at all left
round-is closed this at all left is ended = subst (λ c. RoundEndsAt c at all left) is ended

-- there were as many rounds as there may be, and none of them set an end
pub turns-over : (p : Plan) (s : Stand) (all left : Option (List (Option Row))) (J : List Entry) (n : ℕ)
    → J ≡ s.journal → s.rounds ≡ n → n ≡ p.turns → (n ≡ 0) ⊎ (end_by p J ≡ None)
    → EndsAs p s between all left ends.TurnLimit
turns-over p s all left J n same rounds all-of (inl none) = absurd (omega (arith, all-of, none, p.turns_in_range.0))
turns-over p s all left J n same rounds all-of (inr going) =
    (refl, sym (ap (end_by p) same) ∙ going, rounds ∙ all-of)
