-- What is told of the elements of a list, one after the other
use Rattle.std.proofs.Common.{ℕ, ◌+◌, ◌<◌, List, [], ◌++◌, Option, Result, Ok, Err, OnOk, take, get_or, length, sym, ap}
use Rattle.std.proofs.Common.{subst, ◌∙◌}
use Rattle.std.specs.Io.KnownBytes.{Appends}
use Rattle.std.specs.List.{flat_map}
use Rattle.std.proofs.KnownBytes.{Appends-trans}
use Rattle.std.proofs.lemmas.List.{flat_map_more, take_more}

-- what is told of one more element comes after what is told so far
pub told-more : {X : Type 0} (f : X → List ℕ) (old mid new : Option (List ℕ)) (xs : List X) (i : ℕ) (d : X)
    → i < length xs
    → Appends old mid (flat_map f (take i xs)) → Appends mid new (f (get_or xs i d))
    → Appends old new (flat_map f (take (i + 1) xs))
told-more f old mid new xs i d inside so_far next =
    subst (Appends old new) (flat_map_more f [] (take i xs) (get_or xs i d)
    ∙ ap (flat_map f) (sym (take_more xs i d inside))) (Appends-trans old mid new _ _ so_far next)

-- a text, and then one that is told where it was written
pub told-then : {A B : Type 0} (r : Result A B) (old mid new : Option (List ℕ)) (a b : List ℕ)
    → Appends old mid a → OnOk r (Appends mid new b) → OnOk r (Appends old new (a ++ b))
told-then (Ok x) old mid new a b h i = Appends-trans old mid new a b h i
told-then (Err e) old mid new a b h i = tt
