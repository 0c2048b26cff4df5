-- The points of a turn, from one of them on
use Rattle.std.proofs.Common.{Bool, Option, Some, List, [], ◌∷◌}
use Rattle.cell_types.specs.declared.words.Machine.{Machine}
use Rattle.cell_types.specs.declared.words.Cause.TheVariants as cause
use Rattle.cell_types.specs.declared.words.Entry.{Entry}
use Rattle.cell_diagnosis.specs.declared.motion.Motion.{Motion}
use Rattle.cell_diagnosis.specs.declared.verdict.Verdict.{Verdict}
use Rattle.cell_rules.specs.Last.{when}
use Rattle.cell_turns.specs.declared.turns.decide.Ruling.{Ruling}
use Rattle.cell_turns.specs.declared.turns.decide.Ruling.TheVariants.{Nothing, Proposes}
use Rattle.cell_turns.specs.Rulings.{signed, declares, fault_found, end_found, first_ruling}

-- from the eighth on
abbrev pub by_sign : List Entry → Machine → Bool → Ruling
by_sign J m sign = first_ruling (when sign (signed J m) ∷ Some Proposes ∷ [])

-- from the seventh on
abbrev pub by_end : List Entry → Machine → Bool → Option Motion → Verdict → Ruling
by_end J m sign motion at_axis = first_ruling (end_found J motion at_axis ∷ when sign (signed J m) ∷ Some Proposes ∷ [])

-- from the sixth on
abbrev pub by_rest : List Entry → Machine → Bool → Option Motion → Verdict → Verdict → Ruling
by_rest J m sign motion at_axis at_rest =
    first_ruling (fault_found m at_rest ∷ end_found J motion at_axis ∷ when sign (signed J m) ∷ Some Proposes ∷ [])

-- from the fifth on
abbrev pub by_axis : List Entry → Machine → Bool → Option Motion → Verdict → Verdict → Ruling
by_axis J m sign motion at_axis at_rest =
    first_ruling (fault_found m at_axis ∷ fault_found m at_rest ∷ end_found J motion at_axis ∷ when sign (signed J m)
    ∷ Some Proposes ∷ [])

-- all nine, by the conditions of the first four
abbrev pub by_all : List Entry → Machine → Bool → Bool → Bool → Bool → Bool → Option Motion → Verdict → Verdict → Ruling
by_all J m failed command_failed asked was_failed sign motion at_axis at_rest =
    first_ruling
    (when failed Nothing ∷ when command_failed (declares m cause.CommandFault)
    ∷ when asked (declares m cause.OperatorStop) ∷ when was_failed Proposes ∷ fault_found m at_axis
    ∷ fault_found m at_rest ∷ end_found J motion at_axis ∷ when sign (signed J m) ∷ Some Proposes ∷ [])
