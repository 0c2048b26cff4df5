-- Where a healthy machine moves and the motion has ended, there is an entry to book
use Rattle.std.proofs.Common.{◌≡◌, ℕ, Bool, true, false, ◌||◌, Option, Some, None, List, [], ◌∷◌, ◌++◌, is_some, cond}
use Rattle.std.proofs.Common.{refl, ap, ◌∙◌, subst}
use Rattle.std.specs.Prelude.{unwrap_or}
use Rattle.std.specs.Option.{option_map, option_or}
use Rattle.std.specs.List.{list_any, find}
use Rattle.cell_types.specs.declared.words.Machine.{Machine}
use Rattle.cell_types.specs.declared.words.Machine.TheVariants as machine
use Rattle.cell_types.specs.declared.words.Station.{Station}
use Rattle.cell_types.specs.declared.words.Station.TheVariants as station
use Rattle.cell_types.specs.declared.words.Axis.{Axis}
use Rattle.cell_types.specs.declared.words.Axis.TheVariants as axis
use Rattle.cell_types.specs.declared.words.Pose.{Pose}
use Rattle.cell_types.specs.declared.words.Pose.TheVariants as pose
use Rattle.cell_types.specs.declared.words.Cause.{Cause}
use Rattle.cell_types.specs.declared.words.Entry.{Entry}
use Rattle.cell_types.specs.declared.words.Entry.TheVariants.{Started, Conveyed, Forged, Declared}
use Rattle.cell_types.specs.Cell.{machine_of_axis}
use Rattle.cell_types.specs.Same.{same_axis, same_machine}
use Rattle.cell_rules.specs.Last.{last_some, when}
use Rattle.cell_rules.specs.Views.{sends, rests, going_of, is_failed, fails, is_at, placed, is_occupied, plate_of}
use Rattle.cell_rules.specs.Safety.{IsSafe, SafeEntry, IsSafeMove}
use Rattle.cell_rules.specs.Carrying.{IsCarrying}
use Rattle.cell_rules.proofs.Safe.Facts.{axis_same}
use Rattle.cell_rules.proofs.Safe.Views.{view_snoc}
use Rattle.cell_turns.specs.Rulings.{ending}
use Rattle.cell_turns.specs.Turns.{ends_motion}

-- each motion of a healthy machine can end with an entry
abbrev pub HasEndings : List Entry → Type 0
HasEndings J = (a : Axis) (to : Pose) → going_of J a ≡ Some to → is_failed J (machine_of_axis a) ≡ false
    → is_some (ending J a to) ≡ true

-- the entry that answers last
pub record Answers {A : Type 0} (f : Entry → Option A) (J : List Entry) (x : A) : Type 0 where
  pub before : List Entry
  pub entry : Entry
  pub after : List Entry
  pub cut : before ++ (entry ∷ after) ≡ J
  pub answer : f entry ≡ Some x

answers : {A : Type 0} (f : Entry → Option A) (J : List Entry) (x : A) → last_some f J ≡ Some x → Answers f J x
answers f [] x h = cc
answers f (e ∷ es) x h = go (last_some f es) (answers f es x) h
  where
    go : (o : Option _) → (o ≡ Some x → Answers f es x) → option_or o (f e) ≡ Some x → Answers f (e ∷ es) x
    go None rec h = record { before = []; entry = e; after = es; cut = refl; answer = h }
    go (Some y) rec h = let a = rec h in record {
      before = e ∷ a.before;
      entry = a.entry;
      after = a.after;
      cut =
          ap (λ l. e ∷ l) a.cut;
      answer = a.answer;
    }

-- an axis that was sent nowhere goes nowhere
going_sent : (o : Option (Option Pose)) (to : Pose) → unwrap_or o None ≡ Some to → o ≡ Some (Some to)
going_sent None to h = cc
going_sent (Some o) to h = ap (λ (x : Option Pose). Some x) h

-- what brings an axis to rest sends it nowhere
started_only : (o : Option Pose) (to : Pose) → option_map (λ (x : Pose). None) o ≡ Some (Some to) → ⊥
started_only None to h = cc
started_only (Some x) to h = cc

started_at : (b : Bool) (x to : Pose) → when b (Some x) ≡ Some (Some to) → (b ≡ true) × (x ≡ to)
started_at true x to h = (refl, cc)
started_at false x to h = cc

-- where an axis goes there, a start sent it
sent_by : (a : Axis) (e : Entry) (to : Pose) → sends a e ≡ Some (Some to) → e ≡ Started a to
sent_by a (Started b x) to h =
    let s = started_at (same_axis b a) x to h in
    ap (λ (y : Axis). Started y x) (axis_same b a s.0) ∙ ap (λ (y : Pose). Started a y) s.1
sent_by a e to h = absurd (started_only (rests a e) to h)

-- the axis was started, and at that moment the move was safe
pub record Moves (a : Axis) (to : Pose) : Type 0 where
  pub before : List Entry
  pub safe : IsSafeMove before a to

-- the axis goes there because of a start, and a safe journal has none that isn't safe
moves : (J : List Entry) (a : Axis) (to : Pose) → IsSafe J → going_of J a ≡ Some to → Moves a to
moves J a to safe going =
    let w = answers (sends a) J (Some to) (going_sent (last_some (sends a) J) to going) in
    let entry : SafeEntry w.before (Started a to) =
    subst (λ (e : Entry). SafeEntry w.before e) (sent_by a w.entry to w.answer)
    (safe.entries w.before w.entry w.after w.cut) in
    record { before = w.before; safe = entry.kind.1 }

-- a plate that stands there is found
found_step : (p : ℕ → Bool) (k : ℕ) (ks : List ℕ) (b : Bool) → (list_any p ks ≡ true → is_some (find p ks) ≡ true)
    → (b || list_any p ks) ≡ true → is_some (cond b (Some k) (find p ks)) ≡ true
found_step p k ks true rec h = refl
found_step p k ks false rec h = rec h

found : (p : ℕ → Bool) (ks : List ℕ) → list_any p ks ≡ true → is_some (find p ks) ≡ true
found p [] h = h
found p (k ∷ ks) h = found_step p k ks (p k) (found p ks) h

occupied : (J : List Entry) (s : Station) → is_occupied J s ≡ true → is_some (plate_of J s) ≡ true
unfolding plate_of
occupied J s h = found (is_at J s) (placed J) h

mapped : (f : ℕ → Entry) (o : Option ℕ) → is_some o ≡ true → is_some (option_map f o) ≡ true
mapped f None h = h
mapped f (Some k) h = refl

-- a belt, or a press on its way to Top, carries the plate that its entry names; other motions need none
pub has_endings : (J : List Entry) → IsSafe J → IsCarrying J → HasEndings J
has_endings J safe carrying axis.FeedBelt pose.ToEnd going healthy =
    mapped (λ k. Conveyed axis.FeedBelt k station.FeedEnd) (plate_of J station.FeedIn)
    (occupied J station.FeedIn (carrying axis.FeedBelt pose.ToEnd station.FeedIn going refl healthy))
has_endings J safe carrying axis.FeedBelt pose.ToTable going healthy =
    mapped (λ k. Conveyed axis.FeedBelt k station.Table) (plate_of J station.FeedEnd)
    (occupied J station.FeedEnd (carrying axis.FeedBelt pose.ToTable station.FeedEnd going refl healthy))
has_endings J safe carrying axis.FeedBelt to going healthy = absurd (moves J axis.FeedBelt to safe going).safe
has_endings J safe carrying axis.DepositBelt pose.ToEnd going healthy =
    mapped (λ k. Conveyed axis.DepositBelt k station.DepEnd) (plate_of J station.DepIn)
    (occupied J station.DepIn (carrying axis.DepositBelt pose.ToEnd station.DepIn going refl healthy))
has_endings J safe carrying axis.DepositBelt to going healthy = absurd (moves J axis.DepositBelt to safe going).safe
has_endings J safe carrying axis.PressOne pose.Top going healthy =
    mapped (λ k. Forged machine.Press1 k) (plate_of J station.Press1)
    (occupied J station.Press1 (carrying axis.PressOne pose.Top station.Press1 going refl healthy))
has_endings J safe carrying axis.PressTwo pose.Top going healthy =
    mapped (λ k. Forged machine.Press2 k) (plate_of J station.Press2)
    (occupied J station.Press2 (carrying axis.PressTwo pose.Top station.Press2 going refl healthy))
has_endings J safe carrying a to going healthy = refl

-- such an entry ends a motion
ends_some : (f : ℕ → Entry) (o : Option ℕ) → ((k : ℕ) → ends_motion (Some (f k)) ≡ true)
    → ends_motion (option_map f o) ≡ is_some (option_map f o)
ends_some f None h = refl
ends_some f (Some k) h = h k

pub ending_ends : (J : List Entry) (a : Axis) (to : Pose) → ends_motion (ending J a to) ≡ is_some (ending J a to)
ending_ends J axis.FeedBelt pose.ToEnd = ends_some (λ k. Conveyed axis.FeedBelt k station.FeedEnd)
    (plate_of J station.FeedIn) (λ k. refl)
ending_ends J axis.FeedBelt pose.ToTable =
    ends_some (λ k. Conveyed axis.FeedBelt k station.Table) (plate_of J station.FeedEnd) (λ k. refl)
ending_ends J axis.DepositBelt pose.ToEnd = ends_some (λ k. Conveyed axis.DepositBelt k station.DepEnd)
    (plate_of J station.DepIn) (λ k. refl)
ending_ends J axis.PressOne pose.Top = ends_some (λ k. Forged machine.Press1 k) (plate_of J station.Press1) (λ k. refl)
ending_ends J axis.PressTwo pose.Top = ends_some (λ k. Forged machine.Press2 k) (plate_of J station.Press2) (λ k. refl)
ending_ends J a to = refl

machine_self : (m : Machine) → same_machine m m ≡ true
machine_self machine.Feed = refl
machine_self _ = refl

-- a machine that was declared failed is so
pub declared_fails : (J : List Entry) (m : Machine) (c : Cause) → is_failed (J ++ Declared m c ∷ []) m ≡ true
declared_fails J m c = view_snoc (fails m) false J (Declared m c) ∙ ap (λ b. unwrap_or (when b true) (is_failed J m))
    (machine_self m)
