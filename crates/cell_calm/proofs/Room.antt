-- Where the journal has room, what is useful depends neither on the limits nor on the number of entries
use Rattle.std.proofs.Common.{◌≡◌, ℕ, Bool, false, ◌&&◌, ◌||◌, not, List, [], ◌∷◌, refl, sym, ap, ap₂, ◌∙◌, arith}
use Rattle.std.specs.Prelude.{nat_le}
use Rattle.std.specs.List.{list_any}
use Rattle.std.proofs.lemmas.Bool.Decides.{nat_tests}
use Rattle.cell_types.specs.declared.words.Machine.{Machine}
use Rattle.cell_types.specs.declared.words.Machine.TheVariants as machine
use Rattle.cell_types.specs.declared.words.Axis.TheVariants as axis
use Rattle.cell_types.specs.declared.words.Pose.TheVariants as pose
use Rattle.cell_types.specs.declared.words.Arm.{Arm}
use Rattle.cell_types.specs.declared.words.Arm.TheVariants as arm
use Rattle.cell_types.specs.declared.words.Entry.{Entry}
use Rattle.cell_types.specs.declared.words.Entry.TheVariants.{Admitted, Declared, Started}
use Rattle.cell_types.specs.Room.{is_full}
use Rattle.cell_rules.specs.Situations.{Situation}
use Rattle.cell_rules.specs.Views.{is_admitted}
use Rattle.cell_rules.specs.declared.limits.BookLimits.{BookLimits}
use Rattle.cell_rules.specs.declared.refusal.Refusal.{Refusal}
use Rattle.cell_rules.specs.declared.refusal.Refusal.TheVariants.{JournalFull}
use Rattle.cell_rules.specs.First.{any_still_there, any_visited, first_true, kind_tests}
use Rattle.cell_machines.specs.Jobs.{has_job, has_job_in, holds_zone_at, is_to_enter}
use Rattle.cell_machines.specs.Lights.{deposit_light, feed_light}
use Rattle.cell_machines.specs.Robot.{handings, has_handing, holds_a_zone, is_at_job, is_drawn_in, is_out, is_out_at}
use Rattle.cell_machines.specs.Robot.{robot_wants, wants_handing}
use Rattle.cell_machines.specs.Room.{is_bookable, is_none_or_full, is_refused_otherwise}
use Rattle.cell_machines.specs.Router.{press_chosen}
use Rattle.cell_machines.specs.Useful.{is_useful_now, wants}
use Rattle.cell_useful.specs.Cells.{ample}

-- the same cell with a journal of n entries
abbrev pub with_entries : ℕ → Situation → Situation
with_entries n c = record c { entries = n }

-- no test of a kind reads how many entries there are
pub kinds_same : (l : BookLimits) (n : ℕ) (c : Situation) (e : Entry)
    → kind_tests l (with_entries n c) e ≡ kind_tests l (with_entries 0 c) e
unfolding any_visited any_still_there
kinds_same l n c e = refl

-- and only that of the next plate reads a limit
limits_same : (l : BookLimits) (c : Situation) (e : Entry) → is_admitted e ≡ false
    → kind_tests l c e ≡ kind_tests ample c e
limits_same l c (Admitted k) h = cc
limits_same l c _ h = refl

pub room_left : (limit n : ℕ) (e : Entry) → nat_le limit n ≡ false → is_full limit n e ≡ false
room_left limit n (Declared m cause) h = grind (arith, nat_tests)
room_left limit n _ h = h

-- with room it is the tests of its kind that refuse an entry
pub past : (b : Bool) (r : Refusal) (ts : List (Bool × Refusal)) → b ≡ false → first_true ((b, r) ∷ ts) ≡ first_true ts
unfolding first_true
past b r ts h = rw h

pub bookable_same : (l : BookLimits) (n : ℕ) (c : Situation) (e : Entry) → nat_le l.entries n ≡ false
    → is_admitted e ≡ false → is_bookable l (with_entries n c) e ≡ is_bookable ample (with_entries 0 c) e
unfolding is_bookable
bookable_same l n c e h other =
    let x = kind_tests l (with_entries n c) e in
    let y = kind_tests ample (with_entries 0 c) e in
    ap is_none_or_full (past (is_full l.entries n e) JournalFull x (room_left l.entries n e h)
    ∙ ap first_true (kinds_same l n c e ∙ limits_same l (with_entries 0 c) e other)
    ∙ sym (past (is_full 1000000 0 e) JournalFull y (room_left 1000000 0 e refl)))

-- a grip or a drop that is wanted and may be booked
abbrev handed : BookLimits → Situation → Entry → Bool
handed l c e = wants_handing c e && is_bookable l c e

handed_same : (l : BookLimits) (n : ℕ) (c : Situation) (e : Entry) → nat_le l.entries n ≡ false
    → handed l (with_entries n c) e ≡ handed ample (with_entries 0 c) e
unfolding is_out is_out_at
handed_same l n c (Admitted k) h = refl
handed_same l n c e h = ap (λ b. wants_handing c e && b) (bookable_same l n c e h refl)

any_same : (p q : Entry → Bool) (es : List Entry) → ((e : Entry) → p e ≡ q e) → list_any p es ≡ list_any q es
any_same p q [] h = refl
any_same p q (e ∷ es) h = ap₂ (λ a b. a || b) (h e) (any_same p q es h)

handing_same : (l : BookLimits) (n : ℕ) (c : Situation) (x : Arm) → nat_le l.entries n ≡ false
    → has_handing l (with_entries n c) x ≡ has_handing ample (with_entries 0 c) x
unfolding has_handing handings
handing_same l n c x h = any_same (handed l (with_entries n c)) (handed ample (with_entries 0 c)) (handings c x)
    (λ e. handed_same l n c e h)

robot_same : (l : BookLimits) (n : ℕ) (c : Situation) (e : Entry) → nat_le l.entries n ≡ false
    → robot_wants l (with_entries n c) e ≡ robot_wants ample (with_entries 0 c) e
unfolding has_job has_job_in holds_zone_at is_to_enter press_chosen is_drawn_in holds_a_zone is_out is_out_at is_at_job
robot_same l n c (Started axis.ArmOne pose.In) h =
    ap (λ b. is_out c arm.Arm1 && not b) (handing_same l n c arm.Arm1 h)
robot_same l n c (Started axis.ArmTwo pose.In) h =
    ap (λ b. is_out c arm.Arm2 && not b) (handing_same l n c arm.Arm2 h)
robot_same l n c e h = refl

wants_same : (l : BookLimits) (n : ℕ) (c : Situation) (plan : ℕ) (m : Machine) (e : Entry) → nat_le l.entries n ≡ false
    → wants l (with_entries n c) plan m e ≡ wants ample (with_entries 0 c) plan m e
unfolding feed_light deposit_light is_refused_otherwise
wants_same l n c plan machine.Robot e h = robot_same l n c e h
wants_same l n c plan m e h = refl

-- no machine wants to admit a plate
unwanted : (l : BookLimits) (c : Situation) (plan : ℕ) (m : Machine) (k : ℕ) → wants l c plan m (Admitted k) ≡ false
unwanted l c plan machine.Feed k = refl
unwanted l c plan machine.Table k = refl
unwanted l c plan machine.Robot k = refl
unwanted l c plan machine.Press1 k = refl
unwanted l c plan machine.Press2 k = refl
unwanted l c plan machine.Deposit k = refl

pub useful_same : (l : BookLimits) (n : ℕ) (c : Situation) (plan : ℕ) (m : Machine) (e : Entry)
    → nat_le l.entries n ≡ false
    → is_useful_now l (with_entries n c) plan m e ≡ is_useful_now ample (with_entries 0 c) plan m e
unfolding is_useful_now
useful_same l n c plan m (Admitted k) h =
    rw (unwanted l (with_entries n c) plan m k, unwanted ample (with_entries 0 c) plan m k) refl
useful_same l n c plan m e h = ap₂ (λ a b. a && b) (wants_same l n c plan m e h) (bookable_same l n c e h refl)
