-- How lines are taken, one after the other
use Rattle.std.proofs.Common.{◌≡◌, ◌≢◌, ◌∙◌, ℕ, ◌||◌, List, [], ◌∷◌, ◌++◌, Option, Some, None, Bool, true}
use Rattle.std.proofs.Common.{false, ap, sym, refl, subst, append_assoc}
use Rattle.std.proofs.lemmas.Bool.{eqb-true}
use Rattle.std.proofs.lemmas.List.Folds.{list_any-append}
use Rattle.cell_lines.specs.Known.{Picture, after_rows}
use Rattle.line_reader.specs.Lines.{Row, TakesLine}
use Rattle.cell_lines.specs.Said.{answers, ends, opens, said_of, syncs}
use Rattle.cell_lines.specs.Stands.{Passes, Reads, Stand, TakesOne, TakesTo}
use Rattle.cell_lines.specs.declared.said.Answer.{Answer}
use Rattle.cell_lines.specs.declared.said.Said.{Said}
use Rattle.cell_lines.specs.declared.said.Said.TheVariants as said

-- where the lines aren't known, nothing is claimed of them
reads-more : (a b c : Option (List (Option Row))) (xs ys : List (Option Row)) → Reads a xs b → Reads b ys c
    → Reads a (xs ++ ys) c
reads-more None b c xs ys h k = tt
reads-more (Some a) None c xs ys h k = absurd h
reads-more (Some a) (Some b) None xs ys h k = absurd k
reads-more (Some a) (Some b) (Some c) xs ys h k = h ∙ ap (λ rows. xs ++ rows) k ∙ sym (append_assoc xs ys c)

reads-nil : (a : Option (List (Option Row))) → Reads a [] a
reads-nil None = tt
reads-nil (Some a) = refl

reads-one : (a b : Option (List (Option Row))) (row : Option Row) → TakesLine a b row true → Reads a (row ∷ []) b
reads-one None b row h = tt
reads-one (Some a) None row h = absurd h
reads-one (Some a) (Some b) row h = h

-- a read took a line
pub takes-one : (s t : Stand) (row : Option Row) (one : Said) (found : Bool) → found ≡ true
    → TakesLine s.left t.left row found → said_of row ≡ one → t ≡ record s { left = t.left } → TakesOne s t one
takes-one s t row one found is takes says rest = record {
  row = row;
  read = reads-one s.left t.left row (subst (TakesLine s.left t.left row) is takes);
  says = says;
  rest = rest;
}

stand-is : (s t : Stand) → s.left ≡ t.left → s.text ≡ t.text → s.known ≡ t.known → s.due ≡ t.due
    → s.lost ≡ t.lost → s ≡ t
stand-is s t left text known due lost =
    ap (λ x. record s { left = x }) left ∙ ap (λ x. record s { left = t.left; text = x }) text
    ∙ ap (λ x. record s { left = t.left; text = t.text; known = x }) known
    ∙ ap (λ x. record t { due = x; lost = s.lost }) due ∙ ap (λ x. record t { lost = x }) lost

-- no line was passed over yet
pub passes-none : (stops : Said → Bool) (rule : Said → Picture → Picture) (s t : Stand) → t ≡ s
    → Passes stops rule s t
unfolding after_rows
passes-none stops rule s t same = record {
  rows = [];
  read = subst (Reads s.left []) (sym (ap (λ x. x.left) same)) (reads-nil s.left);
  none = refl;
  rest = stand-is t (record s { left = t.left }) refl (ap (λ x. x.text) same) (ap (λ x. x.known) same)
      (ap (λ x. x.due) same) (ap (λ x. x.lost) same);
}

rows-more : (rule : Said → Picture → Picture) (xs : List (Option Row)) (row : Option Row) (p : Picture)
    → after_rows rule (xs ++ row ∷ []) p ≡ rule (said_of row) (after_rows rule xs p)
unfolding after_rows
rows-more rule [] row p = refl
rows-more rule (x ∷ xs) row p = rows-more rule xs row (rule (said_of x) p)

-- one more line that doesn't stop
pub passes-more : (stops : Said → Bool) (rule : Said → Picture → Picture) (s t u v : Stand) (one : Said)
    → Passes stops rule s t → TakesOne t u one → stops one ≡ false → v ≡ record u { known = rule one u.known }
    → Passes stops rule s v
passes-more stops rule s t u v one p takes goes is = record {
  rows = p.rows ++ takes.row ∷ [];
  read = reads-more s.left t.left v.left p.rows (takes.row ∷ []) p.read
      (subst (Reads t.left (takes.row ∷ [])) (sym (ap (λ x. x.left) is)) takes.read);
  none = list_any-append (λ row. stops (said_of row)) p.rows (takes.row ∷ [])
      ∙ ap (λ b. b || (stops (said_of takes.row) || false)) p.none
      ∙ ap (λ x. stops x || false) takes.says ∙ ap (λ b. b || false) goes;
  rest = stand-is v (record s { left = v.left; known = after_rows rule (p.rows ++ takes.row ∷ []) s.known }) refl
      (ap (λ x. x.text) is ∙ ap (λ x. x.text) takes.rest ∙ ap (λ x. x.text) p.rest)
      (ap (λ x. x.known) is ∙ ap (rule one) (ap (λ x. x.known) takes.rest ∙ ap (λ x. x.known) p.rest)
      ∙ ap (λ x. rule x (after_rows rule p.rows s.known)) (sym takes.says)
      ∙ sym (rows-more rule p.rows takes.row s.known))
      (ap (λ x. x.due) is ∙ ap (λ x. x.due) takes.rest ∙ ap (λ x. x.due) p.rest)
      (ap (λ x. x.lost) is ∙ ap (λ x. x.lost) takes.rest ∙ ap (λ x. x.lost) p.rest);
}

-- the line that is waited for
pub takes-to : (stops : Said → Bool) (rule : Said → Picture → Picture) (s t u : Stand) (last : Said)
    → Passes stops rule s t → TakesOne t u last → TakesTo stops rule s u last
takes-to stops rule s t u last p takes = record { before = t; passes = p; takes = takes }

-- it says the same
pub takes-is : (s t : Stand) (one last : Said) → one ≡ last → TakesOne s t one → TakesOne s t last
takes-is s t one last is takes = subst (TakesOne s t) is takes

-- a line that stops where it is waited for that a round is opened does that, or ends the run
pub opens-not : (one : Said) → (one ≢ said.Round) → ends one ≡ false → opens one ≡ false
opens-not said.Round other going = absurd (other refl)
opens-not said.Ends other going = going
opens-not _ other going = refl

-- the same where an answer is waited for
pub answers-not : (one : Said) → ((a : Answer) → one ≢ said.Answers a) → ends one ≡ false → answers one ≡ false
answers-not (said.Answers a) other going = absurd (other a refl)
answers-not said.Ends other going = going
answers-not _ other going = refl

pub syncs-is : (n : ℕ) (one : Said) → syncs n one ≡ true → one ≡ said.Synced n
syncs-is n (said.Synced m) is = ap said.Synced (eqb-true m n is)
syncs-is n (said.First version plates) is = cc
syncs-is n (said.Shows m r) is = cc
syncs-is n (said.Missing m) is = cc
syncs-is n said.Round is = cc
syncs-is n (said.Answers a) is = cc
syncs-is n (said.Wishes t) is = cc
syncs-is n said.WishesUnread is = cc
syncs-is n (said.Did t) is = cc
syncs-is n said.Ends is = cc
syncs-is n (said.Garbled m) is = cc
syncs-is n said.Nothing is = cc
