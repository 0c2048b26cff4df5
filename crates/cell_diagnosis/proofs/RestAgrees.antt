-- What is known of a reading in which nothing disagrees
use Rattle.std.proofs.Common.{◌≡◌, Bool, true, false, ◌&&◌, ◌||◌, not, List, [], ◌∷◌, refl}
use Rattle.cell_diagnosis.specs.declared.rest_facts.RestFacts.{RestFacts}
use Rattle.cell_diagnosis.specs.RestFacts.{Noted, is_unread, agrees, disagrees, shows_several_at, is_lost, is_strange}
use Rattle.cell_diagnosis.specs.RestFacts.{of_three, rest_facts_of}

-- no presence bit is lost or strange
pub none_wrong : (a b c x y z : Bool) → not ((a || x) || ((b || y) || (c || z)))
    ≡ (not (a || (b || c)) && not (x || (y || z)))
none_wrong true b c x y z = refl
none_wrong false true c true y z = refl
none_wrong false true c false y z = refl
none_wrong false false true true y z = refl
none_wrong false false true false true z = refl
none_wrong false false true false false z = refl
none_wrong false false false true y z = refl
none_wrong false false false false true z = refl
none_wrong false false false false false z = refl

abbrev pub quiet : List Bool → RestFacts
quiet several = record {
  missing = false;
  agrees = true;
  disagrees = false ∷ false ∷ false ∷ [];
  several = several;
  lost = false ∷ false ∷ false ∷ [];
  strange = false ∷ false ∷ false ∷ [];
}

-- to agree settles every fact but which axes show several switches, as not every axis is looked at
pub agreeing_facts : (n : Noted) → agrees n ≡ true → quiet (of_three (λ j. shows_several_at j n)) ≡ rest_facts_of n
unfolding agrees
agreeing_facts n agreed =
    by (is_unread n) (disagrees 0 n) (disagrees 1 n) (disagrees 2 n) (is_lost 0 n) (is_lost 1 n) (is_lost 2 n)
    (is_strange 0 n) (is_strange 1 n) (is_strange 2 n) (of_three (λ j. shows_several_at j n)) agreed
  where
    by : (u a b c l m o x y z : Bool) (several : List Bool)
        → (not u && (not (a || (b || c)) && (not (l || (m || o)) && not (x || (y || z))))) ≡ true
        → quiet several ≡ record {
          missing = u;
          agrees =
              not u && (not (a || (b || c)) && (not (l || (m || o)) && not (x || (y || z))));
          disagrees =
              a ∷ b ∷ c ∷ [];
          several = several;
          lost = l ∷ m ∷ o ∷ [];
          strange = x ∷ y ∷ z ∷ [];
        }
    by true a b c l m o x y z several h = cc
    by false true b c l m o x y z several h = cc
    by false false true c l m o x y z several h = cc
    by false false false true l m o x y z several h = cc
    by false false false false true m o x y z several h = cc
    by false false false false false true o x y z several h = cc
    by false false false false false false true x y z several h = cc
    by false false false false false false false true y z several h = cc
    by false false false false false false false false true z several h = cc
    by false false false false false false false false false true several h = cc
    by false false false false false false false false false false several h = refl
