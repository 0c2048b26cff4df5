-- What is written where a text is explained, by the words of the command line
use Rattle.std.specs.Prelude.{◌⊎◌, ℕ, List, Option, Some, None, Ok, IfSome, MatchOption}
use Rattle.std.specs.Borrow.{Bor}
use Rattle.cell_command.specs.declared.order.Explaining.{Explaining}
use Rattle.cell_explain.specs.Explained.{EndsAsAudit, EndsAsCheck, EndsAsFaults, EndsAsScript}
use Rattle.cell_orders.specs.declared.explain.Text.{Text}
use Rattle.cell_orders.specs.Texts.{IsWrong, TellsTooLong}
use Rattle.cell_orders.specs.declared.explain.Text.TheVariants as explained

-- the text that is to be explained: a journal on the input, or that of the one file that is named for a journal, for
-- settings, for the script of faults or for the operator's
abbrev pub text_of : Option (Bor (List ℕ)) → Option (Bor (List ℕ)) → Option (Bor (List ℕ)) → Option (Bor (List ℕ))
    → Option Text
text_of None None None None = Some explained.Input
text_of (Some path) None None None = Some (explained.Journal path)
text_of None (Some path) None None = Some (explained.Settings path)
text_of None None (Some path) None = Some (explained.Faults path)
text_of None None None (Some path) = Some (explained.Operator path)
text_of _ _ _ _ = None

-- settings are explained, and the status is that of their check; or they are too long
abbrev pub ExplainsSettings : Option (List ℕ) → Option (List ℕ) → ℕ → Type 0
ExplainsSettings old new status = ((settings : List ℕ) × EndsAsCheck settings status) ⊎ TellsTooLong old new (Ok status)

-- a text is explained, and the status is that of what reads it
abbrev pub ExplainsText : Text → Option (List ℕ) → Option (List ℕ) → Option (List ℕ) → ℕ → Type 0
ExplainsText explained.Input input old new status = IfSome input (λ journal. EndsAsAudit journal status)
ExplainsText (explained.Journal path) input old new status = (journal : List ℕ) × EndsAsAudit journal status
ExplainsText (explained.Settings path) input old new status = ExplainsSettings old new status
ExplainsText (explained.Faults path) input old new status = (faults : List ℕ) × EndsAsFaults faults status
ExplainsText (explained.Operator path) input old new status = (operator : List ℕ) × EndsAsScript operator status

-- the text that is named is explained, or the words are wrong
abbrev pub Explains : Explaining → Option (List ℕ) → Option (List ℕ) → Option (List ℕ) → Option (List ℕ)
    → Option (List ℕ) → ℕ → Type 0
Explains explaining input old new old_errors new_errors status =
    MatchOption (text_of explaining.journal explaining.settings explaining.faults explaining.operator)
    (IsWrong old new old_errors new_errors status) (λ text. ExplainsText text input old new status)
