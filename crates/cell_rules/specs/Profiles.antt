-- Profile 1, which hasn't the two entries by which a cleared plate is laid back, nor the refusals that come with them
use Rattle.std.specs.Prelude.{Bool, true, false, ◌&&◌, Option, is_none, List, [], ◌∷◌, ◌++◌}
use Rattle.cell_types.specs.declared.words.Machine.TheVariants as machine
use Rattle.cell_types.specs.declared.words.Belt.TheVariants as belt
use Rattle.cell_types.specs.declared.words.Entry.{Entry}
use Rattle.cell_types.specs.declared.words.Entry.TheVariants.{Admitted, Expected, Reinstated}
use Rattle.cell_rules.specs.Situations.{Situation, situation_of}
use Rattle.cell_rules.specs.declared.limits.BookLimits.{BookLimits}
use Rattle.cell_rules.specs.declared.refusal.Refusal.{Refusal}
use Rattle.cell_rules.specs.First.{first_true, journal_full, plate_limit, machine_failed, wrong_number, lamp_red}
use Rattle.cell_rules.specs.First.{tests}

-- whether profile 1 has an entry
abbrev pub is_of_one : Entry → Bool
is_of_one (Expected k) = false
is_of_one (Reinstated k) = false
is_of_one _ = true

-- the tests of profile 1: in it a plate may be admitted whether one is expected or not
abbrev pub tests_of_one : BookLimits → Situation → Entry → List (Bool × Refusal)
tests_of_one l c (Admitted k) =
    journal_full l c (Admitted k) ∷ plate_limit l c ∷ machine_failed c machine.Feed
    ∷ wrong_number c k ∷ lamp_red c belt.Feed ∷ []
tests_of_one l c e = tests l c e

-- the first refusal of an entry after a journal, in profile 1
abbrev pub first_in_one : BookLimits → List Entry → Entry → Option Refusal
first_in_one l J e = first_true (tests_of_one l (situation_of J) e)

abbrev pub legal_in_one_from : BookLimits → List Entry → List Entry → Bool
legal_in_one_from l done [] = true
legal_in_one_from l done (e ∷ es) =
    (is_of_one e && is_none (first_in_one l done e)) && legal_in_one_from l (done ++ e ∷ []) es

-- each entry is one of profile 1, and allowed in it after those before it
abbrev pub legal_in_one : BookLimits → List Entry → Bool
legal_in_one l J = legal_in_one_from l [] J
