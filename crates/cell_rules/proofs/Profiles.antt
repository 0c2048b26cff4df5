-- In a journal of profile 1 the tests of profile 1 refuse what all tests refuse
use Rattle.std.proofs.Common.{◌≡◌, Bool, true, false, ◌&&◌, List, [], ◌∷◌, ◌++◌, None, is_none, refl}
use Rattle.std.specs.List.{list_all}
use Rattle.cell_types.specs.declared.words.Entry.{Entry}
use Rattle.cell_types.specs.declared.words.Entry.TheVariants.{Admitted, Expected, Reinstated}
use Rattle.cell_rules.specs.Last.{last_some}
use Rattle.cell_rules.specs.Views.{expects, expected_of}
use Rattle.cell_rules.specs.declared.limits.BookLimits.{BookLimits}
use Rattle.cell_rules.specs.First.{first_true}
use Rattle.cell_rules.specs.Legal.{first_of, legal_from, legal}
use Rattle.cell_rules.specs.Profiles.{is_of_one, first_in_one, legal_in_one_from, legal_in_one}
use Rattle.cell_rules.proofs.Safe.Facts.{and_both}

abbrev AreOfOne : List Entry → Type 0
AreOfOne J = list_all is_of_one J ≡ true

-- entries of profile 1 expect no plate
none_of_one : (e : Entry) → is_of_one e ≡ true → expects e ≡ None
none_of_one (Expected k) h = cc
none_of_one (Reinstated k) h = cc
none_of_one _ h = refl

none_last : (J : List Entry) → AreOfOne J → last_some expects J ≡ None
none_last [] h = refl
none_last (e ∷ J) h = let b = and_both (is_of_one e) (list_all is_of_one J) h in rw (none_last J b.1, none_of_one e b.0)
    refl

pub none_expected : (J : List Entry) → AreOfOne J → expected_of J ≡ None
none_expected J h = rw (none_last J h) refl

-- only an admission is tested otherwise, as it looks for an expected plate, and none is expected
pub first_same : (l : BookLimits) (J : List Entry) (e : Entry) → AreOfOne J → first_in_one l J e ≡ first_of l J e
unfolding first_true
first_same l J (Admitted k) h = rw (none_last J h) refl
first_same l J _ h = refl

all_snoc : (J : List Entry) (e : Entry) → AreOfOne J → is_of_one e ≡ true → AreOfOne (J ++ e ∷ [])
all_snoc [] e h i = rw i refl
all_snoc (x ∷ J) e h i = let b = and_both (is_of_one x) (list_all is_of_one J) h in rw (b.0) (all_snoc J e b.1 i)

-- an entry of another profile makes both sides false
legal_same_from : (l : BookLimits) (done J : List Entry) → AreOfOne done
    → legal_in_one_from l done J ≡ (list_all is_of_one J && legal_from l done J)
legal_same_from l done [] h = refl
legal_same_from l done (e ∷ J) h = go (is_of_one e) refl
    (λ i. legal_same_from l (done ++ e ∷ []) J (all_snoc done e h i))
  where
    go : (b : Bool) → is_of_one e ≡ b → (is_of_one e ≡ true
        → legal_in_one_from l (done ++ e ∷ []) J ≡ (list_all is_of_one J && legal_from l (done ++ e ∷ []) J))
        → ((b && is_none (first_in_one l done e)) && legal_in_one_from l (done ++ e ∷ []) J)
        ≡ ((b && list_all is_of_one J) && (is_none (first_of l done e) && legal_from l (done ++ e ∷ []) J))
    go true i r = rw (first_same l done e h, r i)
        (swap (is_none (first_of l done e)) (list_all is_of_one J) (legal_from l (done ++ e ∷ []) J))
      where
        swap : (a b c : Bool) → (a && (b && c)) ≡ (b && (a && c))
        swap true b c = refl
        swap false true c = refl
        swap false false c = refl
    go false i r = refl

-- legal in profile 1 is legal, and of entries of profile 1
pub legal_same : (l : BookLimits) (J : List Entry) → legal_in_one l J ≡ (list_all is_of_one J && legal l J)
legal_same l J = legal_same_from l [] J refl
