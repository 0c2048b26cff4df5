-- Tests of an entry that pass one after another, and what the cell shows to those tests
use Rattle.std.proofs.Common.{◌≡◌, ℕ, Bool, true, false, ◌&&◌, not, Option, Some, List, [], ◌∷◌, is_some, refl, sym, ap}
use Rattle.std.proofs.Common.{◌∙◌, eq-eqb}
use Rattle.cell_types.specs.declared.words.Station.{Station}
use Rattle.cell_types.specs.declared.words.Axis.{Axis}
use Rattle.cell_types.specs.declared.words.Pose.{Pose}
use Rattle.cell_types.specs.declared.words.Entry.{Entry}
use Rattle.cell_types.specs.declared.words.Entry.TheVariants.{Admitted}
use Rattle.cell_types.specs.Same.{same_pose, pose_number}
use Rattle.cell_types.specs.After.{is_plate}
use Rattle.cell_rules.specs.Views.{going_of, plate_of, is_at, has_other}
use Rattle.cell_rules.specs.Situations.{Situation}
use Rattle.cell_rules.specs.declared.refusal.Refusal.{Refusal}
use Rattle.cell_rules.specs.declared.refusal.Refusal.TheVariants.{JournalFull, PlateLimit}
use Rattle.cell_rules.specs.First.{first_true, is_pose}
use Rattle.cell_rules.specs.Bridged.{TellsWhatIsLeft}
use Rattle.cell_turns.specs.Turns.{may_meet}

-- any entry may meet a full journal, so that test may refuse it
pub full_then : (b : Bool) (e : Entry) (rest : List (Bool × Refusal)) → may_meet e (first_true rest) ≡ true
    → may_meet e (first_true ((b, JournalFull) ∷ rest)) ≡ true
unfolding first_true
full_then true e rest h = refl
full_then false e rest h = h

-- the condition of this refusal doesn't hold, so the first that holds is among the rest
pub skip : (b : Bool) (x : Refusal) (e : Entry) (rest : List (Bool × Refusal)) → b ≡ false
    → may_meet e (first_true rest) ≡ true → may_meet e (first_true ((b, x) ∷ rest)) ≡ true
unfolding first_true
skip true x e rest is h = cc
skip false x e rest is h = h

-- an Admitted alone may meet the plate limit
pub limit_then : (k : ℕ) (b : Bool) (rest : List (Bool × Refusal)) → may_meet (Admitted k) (first_true rest) ≡ true
    → may_meet (Admitted k) (first_true ((b, PlateLimit) ∷ rest)) ≡ true
unfolding first_true
limit_then k true rest h = refl
limit_then k false rest h = h

pub none_left : (e : Entry) → may_meet e (first_true []) ≡ true
unfolding first_true
none_left e = refl

-- what the cell shows

same_self : (p : Pose) → same_pose p p ≡ true
same_self p = eq-eqb (pose_number p) (pose_number p) refl

-- what the book says of the axis, as the test of the pose asks it
pub goes : (J : List Entry) (a : Axis) (to : Pose) → going_of J a ≡ Some to → is_pose to (going_of J a) ≡ true
goes J a to is = ap (is_pose to) is ∙ same_self to

-- what the journal tells is what it leaves, and there a station holds one plate: its own
pub holds : (J : List Entry) (s : Station) (k : ℕ) → TellsWhatIsLeft J → plate_of J s ≡ Some k → is_at J s k ≡ true
holds J s k told is = ap (λ (c : Situation). c.holds s k) told.cell
    ∙ ap (is_plate k) (sym (ap (λ (c : Situation). c.plate s) told.cell) ∙ is) ∙ eq-eqb k k refl

-- likewise, so no other plate can stand beside it
pub alone : (J : List Entry) (s : Station) (k : ℕ) → TellsWhatIsLeft J → plate_of J s ≡ Some k → has_other J s k ≡ false
alone J s k told is =
    ap (λ (c : Situation). c.other s k) told.cell
    ∙ ap (λ (o : Option ℕ). is_some o && not (is_plate k o)) (sym (ap (λ (c : Situation). c.plate s) told.cell) ∙ is)
    ∙ ap not (eq-eqb k k refl)
