-- All that holds of a state that can be reached
use Rattle.std.proofs.Common.{ℕ, Bool, List, [], ◌∷◌, refl, arith, inl}
use Rattle.cell_types.specs.declared.words.Machine.{Machine}
use Rattle.cell_types.specs.declared.words.Entry.{Entry}
use Rattle.cell_types.specs.After.{Snapshot, opening, after_from, step}
use Rattle.cell_types.specs.declared.words.Place.{Place}
use Rattle.cell_types.specs.declared.words.Entry.TheVariants.{Lamp}
use Rattle.cell_rules.proofs.Safe.Step.{Inv, inv_step, then_place, then_marks}
use Rattle.cell_rules.proofs.Safe.Bridge.{good_start, marks_of}
use Rattle.cell_rules.specs.Views.{place_of}
use Rattle.cell_rules.proofs.Carried.{Carried, carried_step}
use Rattle.cell_useful.specs.Cells.{ample}
use Rattle.cell_progress.specs.Orders.{cell_of, may_after, may_then, IsPossible, unnumbered}
use Rattle.cell_progress.proofs.Passing.{passes, Allowed}
use Rattle.cell_progress.proofs.Happening.{Happens, happens, may_be_booked}
use Rattle.cell_progress.proofs.Own.{Few, few_step, Own, own_step}
use Rattle.cell_progress.proofs.Taken.{taken}
use Rattle.cell_progress.proofs.More.{More, more_step}
use Rattle.cell_progress.proofs.Counted.{Counted, count_step}

-- what holds of every legal journal's state, and who holds which zone
pub record Reached (s : Snapshot) : Type 0 where
  pub place : ℕ → Place
  pub marks : ℕ → ℕ
  pub inv : Inv s place marks
  pub carried : Carried s
  pub own : Own s

-- the number of entries is in nothing of this
inv_same : (s : Snapshot) (e : Entry) (place : ℕ → Place) (marks : ℕ → ℕ)
    → Inv (step e (unnumbered s)) place marks → Inv (step e s) place marks
inv_same s (Lamp b to) place marks v = v
inv_same s _ place marks v = v

carried_same : (s : Snapshot) (e : Entry) → Carried (step e (unnumbered s)) → Carried (step e s)
carried_same s (Lamp b to) v = v
carried_same s _ v = v

reached_step : (plan : ℕ) (may : Machine → Bool) (s : Snapshot) (e : Entry) → Reached s
    → Happens plan may (cell_of s) e → Reached (step e s)
reached_step plan may s e r h =
    let p : Allowed s e = passes s e (may_be_booked plan may (cell_of s) e h) in
    record {
      place = then_place e r.place;
      marks = then_marks e r.marks;
      inv = inv_same s e (then_place e r.place) (then_marks e r.marks)
          (inv_step ample (unnumbered s) r.place r.marks e r.inv p);
      carried = carried_same s e (carried_step ample (unnumbered s) r.place r.marks e r.inv p r.carried);
      own = own_step plan may s e r.inv.motion h p r.own;
    }

reached_start : Reached opening
reached_start =
    record {
      place = place_of [];
      marks = marks_of [];
      inv = good_start.safe;
      carried = λ a q t g e f. cc;
      own = record { near = λ z. inl refl; top_one = λ e. cc; top_two = λ e. cc; expected = refl };
    }

pub record Whole (plan : ℕ) (s : Snapshot) : Type 0 where
  pub reached : Reached s
  pub more : More plan s (taken s)
  pub counted : Counted plan s (taken s)

pub whole_start : (plan : ℕ) → Whole plan opening
whole_start plan =
    record {
      reached = reached_start;
      more = record {
        green = λ e. cc;
        feed_low = λ e. cc;
        feed_turn = λ e. cc;
        feed_full = λ e f. cc;
        one_zone = λ y z e g. cc;
        deposit = λ e. cc;
        lift = λ q f e. cc;
        turn = λ q f e. cc;
        robot = λ q e. cc;
        top_one = λ f e. cc;
        top_two = λ f e. cc;
      };
      counted = record { sum = refl; most = omega arith };
    }

pub whole_step : (plan : ℕ) (may : Machine → Bool) (s : Snapshot) (e : Entry) → Whole plan s
    → Happens plan may (cell_of s) e → Whole plan (step e s)
whole_step plan may s e w h =
    let r = w.reached in
    let p : Allowed s e = passes s e (may_be_booked plan may (cell_of s) e h) in
    record {
      reached = reached_step plan may s e r h;
      more = more_step plan may s r.place r.marks e r.inv r.own.expected h p w.more;
      counted = count_step plan may s r.place r.marks e r.inv h p w.more w.counted;
    }

pub whole_from : (plan : ℕ) (serves : Bool) (may : Machine → Bool) (s : Snapshot) (es : List Entry) → Whole plan s
    → IsPossible plan serves may s es → Whole plan (after_from s es)
whole_from plan serves may s [] w h = w
whole_from plan serves may s (e ∷ es) w h =
    whole_from plan serves (may_after e may) (step e s) es
    (whole_step plan may s e w (happens plan serves may (cell_of s) e h.0)) h.1

-- those that may fail or have failed stay few
pub few_from : (plan : ℕ) (serves : Bool) (first may : Machine → Bool) (s : Snapshot) (es : List Entry)
    → Few first may s.failed → IsPossible plan serves may s es → Few first (may_then es may) (after_from s es).failed
few_from plan serves first may s [] f h = f
few_from plan serves first may s (e ∷ es) f h =
    few_from plan serves first (may_after e may) (step e s) es
    (few_step plan first may s e (happens plan serves may (cell_of s) e h.0) f) h.1
