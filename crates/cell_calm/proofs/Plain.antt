-- What a journal leaves doesn't hang on the causes of its failures; journals in which only some machines fail
use Rattle.std.proofs.Common.{◌≡◌, Bool, true, false, not, ◌||◌, List, [], ◌∷◌, ◌++◌, length, refl, sym, ap, ap₂, ◌∙◌}
use Rattle.std.specs.List.{list_any}
use Rattle.std.proofs.lemmas.List.{length-map, map-append}
use Rattle.std.proofs.lemmas.List.Folds.{list_any-append}
use Rattle.cell_types.specs.declared.words.Machine.{Machine}
use Rattle.cell_types.specs.declared.words.Entry.{Entry}
use Rattle.cell_types.specs.declared.words.Entry.TheVariants.{Declared}
use Rattle.cell_types.specs.After.{Snapshot, after_from, step}
use Rattle.cell_progress.specs.Orders.{may_after, may_then}
use Rattle.cell_calm.specs.Calm.{disturbs, disturbs_but, fails_only, is_calm, plain, plain_entry}

step_plain : (s : Snapshot) (e : Entry) → step (plain_entry e) s ≡ step e s
step_plain s (Declared m why) = refl
step_plain s _ = refl

pub from_plain : (s : Snapshot) (J : List Entry) → after_from s (plain J) ≡ after_from s J
from_plain s [] = refl
from_plain s (e ∷ J) =
    ap (λ (t : Snapshot). after_from t (plain J)) (step_plain s e) ∙ from_plain (step e s) J

pub plain_long : (J : List Entry) → length (plain J) ≡ length J
plain_long J = length-map J plain_entry

pub plain_snoc : (J : List Entry) (e : Entry) → plain (J ++ e ∷ []) ≡ plain J ++ plain_entry e ∷ []
plain_snoc J e = map-append plain_entry J (e ∷ [])

-- those that may yet fail after one more entry
pub may_snoc : (es : List Entry) (e : Entry) (may : Machine → Bool)
    → may_then (es ++ e ∷ []) may ≡ may_after e (may_then es may)
may_snoc [] e may = refl
may_snoc (x ∷ es) e may = may_snoc es e (may_after x may)

pub neither : (a b : Bool) → (a || b) ≡ false → (a ≡ false) × (b ≡ false)
neither false b h = (refl, h)
neither true b h = cc

pub none_disturbs : (b : Bool) → not b ≡ true → b ≡ false
none_disturbs false h = refl
none_disturbs true h = cc

-- such a journal was such before its last entry, which doesn't disturb
pub tame_front : (may : Machine → Bool) (J : List Entry) (e : Entry) → fails_only may (J ++ e ∷ []) ≡ true
    → (fails_only may J ≡ true) × (disturbs_but may e ≡ false)
tame_front may J e h =
    let both = neither (list_any (disturbs_but may) J) (disturbs_but may e || false)
    (sym (list_any-append (disturbs_but may) J (e ∷ []))
    ∙ none_disturbs (list_any (disturbs_but may) (J ++ e ∷ [])) h) in
    (ap not both.0, (neither (disturbs_but may e) false both.1).0)

-- and one entry more that doesn't disturb leaves it such
pub tame_more : (may : Machine → Bool) (J : List Entry) (e : Entry) → fails_only may J ≡ true
    → disturbs_but may e ≡ false → fails_only may (J ++ e ∷ []) ≡ true
tame_more may J e h d =
    let before = none_disturbs (list_any (disturbs_but may) J) h in
    let both : list_any (disturbs_but may) (J ++ e ∷ [])
    ≡ (list_any (disturbs_but may) J || (disturbs_but may e || false)) =
    list_any-append (disturbs_but may) J (e ∷ []) in
    rw (both, before, d) refl

undeclared : (e : Entry) → disturbs e ≡ false → plain_entry e ≡ e
undeclared (Declared m why) h = cc
undeclared _ h = refl

-- a calm journal declares no failure
pub plain_calm : (J : List Entry) → is_calm J ≡ true → plain J ≡ J
plain_calm [] h = refl
plain_calm (e ∷ J) h =
    let b = neither (disturbs e) (list_any disturbs J) (none_disturbs (list_any disturbs (e ∷ J)) h) in
    ap₂ (λ x xs. x ∷ xs) (undeclared e b.0) (plain_calm J (ap not b.1))
