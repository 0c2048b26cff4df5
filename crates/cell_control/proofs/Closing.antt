-- A run from a cell's first stand on, and its end
use Rattle.std.proofs.Common.{◌≡◌, ℕ, Bool, List, Option, subst}
use Rattle.cell_types.specs.declared.words.Entry.{Entry}
use Rattle.cell_rules.specs.History.{History}
use Rattle.operator_desk.specs.declared.line.Line.{Line}
use Rattle.cell_lines.specs.Stands.{Stand, WritesSome, closing_text, first_stand}
use Rattle.cell_lines.specs.declared.far_end.Loss.{Loss}
use Rattle.cell_ports.specs.declared.plan.Plan.{Plan}
use Rattle.cell_rounds.specs.Moves.{Terms, terms_of}
use Rattle.cell_rounds.specs.declared.progress.Halt.{Halt}
use Rattle.cell_rounds.specs.declared.settle.LastCommand.{LastCommand}
use Rattle.cell_control.specs.Controlling.{Controls, Ran}

pub controls_of : {K : Type 0} (keeps : K → K → Entry → Bool → Type 0) (T : Terms) (resumes : Bool) (J : List Entry)
    (lines : List Line) (pending : Option LastCommand) (input old new : Option (List ℕ)) (k k' : K) (h : Halt)
    (J' : List Entry) (s t : Stand) (why : Option Loss) → s ≡ first_stand input old
    → Ran keeps T resumes J lines pending s t k k' h J' → WritesSome (closing_text why) t.text new
    → Controls keeps T resumes J lines pending input old new k k' h J'
controls_of keeps T resumes J lines pending input old new k k' h J' s t why first ran closes = record {
  last = t;
  ran = subst (λ (x : Stand). Ran keeps T resumes J lines pending x t k k' h J') first ran;
  closes = (why, closes);
}

-- the same of the book that a run was opened with, and of what was looked for, read and written
pub controls_as : {K : Type 0} (keeps : K → K → Entry → Bool → Type 0) (p : Plan) (waits resumes : Bool)
    (book book' : History) (lines : List Line) (pending pending' : Option LastCommand)
    (input input' old new new' : Option (List ℕ)) (k k' : K) (h : Halt) (J' : List Entry)
    → book ≡ book' → pending ≡ pending' → input ≡ input' → new ≡ new'
    → Controls keeps (terms_of book.limits p waits) resumes book.entries lines pending input old new k k' h J'
    → Controls keeps (terms_of book'.limits p waits) resumes book'.entries lines pending' input' old new' k k' h J'
controls_as keeps p waits resumes book book' lines pending pending' input input' old new new' k k' h J'
    same looked read written controls =
    let at : History → Option LastCommand → Option (List ℕ) → Option (List ℕ) → Type 0 =
    λ b o i n. Controls keeps (terms_of b.limits p waits) resumes b.entries lines o i old n k k' h J' in
    subst (λ b. at b pending' input' new') same
    (subst (λ o. at book o input' new') looked
    (subst (λ i. at book pending i new') read (subst (λ n. at book pending input n) written controls)))
