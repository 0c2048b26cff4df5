-- An entry that is the machine's own and that the book takes while there is room
use Rattle.std.proofs.Common.{◌≡◌, true, false, List}
use Rattle.cell_types.specs.declared.words.Machine.{Machine}
use Rattle.cell_types.specs.declared.words.Actor.TheVariants as actor
use Rattle.cell_types.specs.declared.words.Entry.{Entry}
use Rattle.cell_types.specs.Entries.{actor_of}
use Rattle.cell_rules.specs.Views.{is_quarantined}
use Rattle.cell_rules.specs.declared.limits.BookLimits.{BookLimits}
use Rattle.cell_rules.specs.Legal.{first_of}
use Rattle.cell_turns.specs.declared.turns.decide.Ruling.{Ruling}
use Rattle.cell_turns.specs.declared.turns.decide.Ruling.TheVariants.{Books}
use Rattle.cell_turns.specs.Turns.{may_meet}

pub record IsOwn (l : BookLimits) (J : List Entry) (m : Machine) (e : Entry) : Type 0 where
  pub by : actor_of e ≡ actor.Machine m
  pub room : may_meet e (first_of l J e) ≡ true
  pub plain : is_quarantined e ≡ false

abbrev pub OwnRuling : BookLimits → List Entry → Machine → Ruling → Type 0
OwnRuling l J m (Books e) = IsOwn l J m e
OwnRuling l J m _ = Unit {0}
