-- What keeps the feed belt from going to the table
use Rattle.std.proofs.Common.{◌≡◌, Bool, true, false, ◌||◌, Option, Some, is_some, List, [], ◌∷◌, refl}
use Rattle.std.specs.Prelude.{if◌then◌else◌}
use Rattle.std.specs.List.{list_any}
use Rattle.cell_types.specs.declared.words.Axis.TheVariants as axis
use Rattle.cell_types.specs.declared.words.Pose.TheVariants as pose
use Rattle.cell_types.specs.declared.words.Entry.TheVariants.{Started}
use Rattle.cell_rules.specs.Situations.{Situation}
use Rattle.cell_rules.specs.declared.limits.BookLimits.{BookLimits}
use Rattle.cell_rules.specs.declared.refusal.Refusal.{Refusal}
use Rattle.cell_rules.specs.First.{first_true, kind_tests}
use Rattle.cell_machines.specs.Room.{is_refused_otherwise}

some_if : (b d : Bool) (r : Refusal) (o : Option Refusal) → is_some o ≡ d
    → is_some (if b then Some r else o) ≡ (b || d)
some_if true d r o h = refl
some_if false d r o h = h

-- a test holds where a first one is found
any_first : (ts : List (Bool × Refusal)) → is_some (first_true ts) ≡ list_any (λ (t : Bool × Refusal). t.0) ts
unfolding first_true
any_first [] = refl
any_first (t ∷ ts) = some_if t.0 _ t.1 (first_true ts) (any_first ts)

-- none of these tests is of the journal's room
pub shut_law : (l : BookLimits) (c : Situation)
    → is_some (first_true (kind_tests l c (Started axis.FeedBelt pose.ToTable)))
    ≡ is_refused_otherwise l c (Started axis.FeedBelt pose.ToTable)
unfolding is_refused_otherwise
shut_law l c = any_first (kind_tests l c (Started axis.FeedBelt pose.ToTable))
