-- The machines with switches together, through the turns of each
use Rattle.std.proofs.Common.{◌≡◌, ◌≢◌, Bool, true, false, inl, inr, Option, Some, None, List, [], ◌++◌}
use Rattle.std.proofs.Common.{is_none, refl, sym, ap, ◌∙◌, subst, arith, IfSome, if◌then◌else◌}
use Rattle.std.proofs.lemmas.Bool.Decides.{nat_tests}
use Rattle.std.proofs.lemmas.List.{append-nil}
use Rattle.std.specs.Prelude.{option_to_list, unwrap_or}
use Rattle.cell_types.specs.declared.words.Axis.{Axis}
use Rattle.cell_types.specs.declared.words.Entry.{Entry}
use Rattle.cell_types.specs.declared.words.Entry.TheVariants.{Declared, Repaired, StopAsked}
use Rattle.cell_types.specs.declared.words.Machine.{Machine}
use Rattle.cell_types.specs.declared.words.Pose.{Pose}
use Rattle.cell_types.specs.Cell.{machine_of_axis}
use Rattle.cell_types.specs.Entries.{machine_of_entry}
use Rattle.cell_types.specs.Same.{same_machine}
use Rattle.cell_rules.specs.declared.limits.BookLimits.{BookLimits}
use Rattle.cell_rules.specs.declared.refusal.Refusal.{Refusal}
use Rattle.cell_rules.specs.Legal.{allowed, first_of, legal}
use Rattle.cell_rules.specs.Views.{asks, at_of, fails, going_of, is_asked, is_failed}
use Rattle.cell_rules.proofs.Safe.Bridge.{legal_snoc}
use Rattle.cell_rules.proofs.Safe.Facts.{machine_same}
use Rattle.cell_rules.proofs.Safe.Views.{view_snoc}
use Rattle.cell_ports.specs.declared.plan.Plan.{Plan}
use Rattle.cell_turns.specs.Minds.{Mind}
use Rattle.cell_sim.specs.Parts.{axis_at}
use Rattle.cell_sim.specs.Readings.{after_reading}
use Rattle.cell_sim.specs.Simulated.{Simulated}
use Rattle.cell_turns.specs.Following.{Following}
use Rattle.cell_world.specs.Going.{AxisGoes, IsAtRest, IsPlain}
use Rattle.cell_world.specs.Tie.{IsTied}
use Rattle.cell_world.specs.Sparing.{IsSpared}
use Rattle.cell_world.specs.Switched.{AxisAsBooked, BookIsWorld, OthersKept}
use Rattle.cell_world.specs.Tied.{Given, Goes}
use Rattle.cell_world.specs.Turning.{AsBooked, after_turn}
use Rattle.cell_world.proofs.Begins.{some_not}
use Rattle.cell_world.proofs.Read.{reading_spares}
use Rattle.cell_world.proofs.Spared.{entry_spares, some_same, spared_stays}
use Rattle.cell_world.proofs.Steps.{each_axis, not_true}

-- a machine's entry fails no other machine, and asks none to stop
other_no : (k m n : Machine) → Some k ≡ Some m → m ≢ n → same_machine k n ≡ false
other_no k m n h d = not_true (same_machine k n) (λ e. d (sym (some_same k m h) ∙ machine_same k n e))

no_failure : (x : Entry) (m n : Machine) → machine_of_entry x ≡ Some m → m ≢ n → fails n x ≡ None
no_failure (Declared k why) m n h d = let e = other_no k m n h d in rw e refl
no_failure (Repaired k) m n h d = cc h
no_failure x m n h d = refl

no_asking : (x : Entry) (m n : Machine) → machine_of_entry x ≡ Some m → m ≢ n → asks n x ≡ None
no_asking (Declared k why) m n h d = let e = other_no k m n h d in rw e refl
no_asking (StopAsked k) m n h d = cc h
no_asking (Repaired k) m n h d = cc h
no_asking x m n h d = refl

-- what a turn of one machine leaves of another
pub turn_spared : (J : List Entry) (w : Simulated) (m n : Machine) (e : Option Entry) → IsPlain w → m ≢ n
    → IfSome e (λ x. machine_of_entry x ≡ Some m) → IsSpared n J (J ++ option_to_list e) w (after_turn w m e)
turn_spared J w m n None t d h =
    subst (λ (K : List Entry). IsSpared n J K w (after_reading w m)) (sym (append-nil J)) (reading_spares J w n m t d)
turn_spared J w m n (Some x) t d h =
    let r = reading_spares J w n m t d in let s = entry_spares J (after_reading w m) x n m r.plain h d in
    record {
      plain = s.plain;
      long = s.long ∙ r.long;
      at = s.at;
      going = s.going;
      axes = λ a i. s.axes a i ∙ r.axes a i;
    }

pub turn_healthy : (J : List Entry) (m n : Machine) (e : Option Entry) → m ≢ n
    → IfSome e (λ x. machine_of_entry x ≡ Some m) → is_failed (J ++ option_to_list e) n ≡ is_failed J n
turn_healthy J m n None d h = ap (λ (K : List Entry). is_failed K n) (append-nil J)
turn_healthy J m n (Some x) d h =
    view_snoc (fails n) false J x ∙ ap (λ (o : Option Bool). unwrap_or o (is_failed J n)) (no_failure x m n h d)

pub turn_unasked : (J : List Entry) (m n : Machine) (e : Option Entry) → m ≢ n
    → IfSome e (λ x. machine_of_entry x ≡ Some m) → is_asked (J ++ option_to_list e) n ≡ is_asked J n
turn_unasked J m n None d h = ap (λ (K : List Entry). is_asked K n) (append-nil J)
turn_unasked J m n (Some x) d h =
    view_snoc (asks n) false J x ∙ ap (λ (o : Option Bool). unwrap_or o (is_asked J n)) (no_asking x m n h d)

pub kept_as : {T U : Type 0} (J K : List Entry) (n : Machine) (s : Mind) → is_failed K n ≡ is_failed J n
    → is_asked K n ≡ is_asked J n → (T → U) → AsBooked J n s T → AsBooked K n s U
kept_as J K n s f a u t =
    record {
      healthy = f ∙ t.healthy;
      unasked = a ∙ t.unasked;
      was_healthy = t.was_healthy;
      was_obeyed = t.was_obeyed;
      tied = u t.tied;
      agreed = t.agreed;
    }

pub others_kept : OthersKept
others_kept J p m n s w e t d h i =
    let K = J ++ option_to_list e in let v = after_turn w m e in
    kept_as J K n s (turn_healthy J m n e d h) (turn_unasked J m n e d h)
    (λ k. spared_stays J K p n s.axis w v (turn_spared J w m n e t d h) k) i

-- the turn's own machine, and each other one
pub same_machines : (m : Machine) → same_machine m m ≡ true
same_machines m = grind (arith, nat_tests)

pub apart : (m n : Machine) → same_machine m n ≡ false → m ≢ n
apart m n h e =
    let c : true ≡ false = sym (same_machines m) ∙ (ap (λ (x : Machine). same_machine m x) e ∙ h) in cc c

pub each_mind : (P : Machine → Mind → Type 0) (m n : Machine) (s : Mind) (minds : Machine → Mind) (b : Bool)
    → same_machine m n ≡ b → (m ≡ n → P n s) → (m ≢ n → P n (minds n)) → P n (if b then s else minds n)
each_mind P m n s minds true h i o = i (machine_same m n h)
each_mind P m n s minds false h i o = o (apart m n h)

pub legal_then : (l : BookLimits) (J : List Entry) (e : Option Entry) → legal l J ≡ true
    → IfSome e (λ x. first_of l J x ≡ None) → legal l (J ++ option_to_list e) ≡ true
legal_then l J None h free = ap (λ (K : List Entry). legal l K) (append-nil J) ∙ h
legal_then l J (Some x) h free =
    let ok : allowed l J x ≡ true = ap (λ (o : Option Refusal). is_none o) free in legal_snoc l [] J x h ok

-- the axes of a machine that is tied
pub some_one : {A : Type 0} (o : Option A) (x y : A) → o ≡ Some x → o ≡ Some y → x ≡ y
some_one o x y h k = some_same x y (sym h ∙ k)

pub rests_as_booked : (J : List Entry) (w : Simulated) (a : Axis) → IsAtRest J w a → AxisAsBooked J w a
rests_as_booked J w a t =
    record { rests = λ h. t.rests; goes = λ to h. absurd (some_not (going_of J a) to h t.booked) }

goes_as_booked : (J : List Entry) (p : Plan) (w : Simulated) (a : Axis) (to : Pose) (g : Given) (f : Option Following)
    → AxisGoes J p a to g f w → AxisAsBooked J w a
goes_as_booked J p w a to g f t =
    record {
      rests = λ h. absurd (some_not (going_of J a) to t.booked h);
      goes = λ q h. (
        g,
        subst (λ (x : Pose). Goes (at_of J a) x g (axis_at w a)) (some_one (going_of J a) to q t.booked h)
            t.goes,
      );
    }

pub tied_as_booked : (J : List Entry) (p : Plan) (m : Machine) (f : Option Following) (w : Simulated) → IsTied J p m f w
    → (a : Axis) → machine_of_axis a ≡ m → AxisAsBooked J w a
tied_as_booked J p m f w (inl t) a e = rests_as_booked J w a (t.rest a e)
tied_as_booked J p m f w (inr t) a e =
    each_axis (AxisAsBooked J w) t.mover a (goes_as_booked J p w t.mover t.to t.given f t.goes)
    (λ d. rests_as_booked J w a (t.goes.others a (e ∙ sym t.of) d))

pub book_is_world : BookIsWorld
book_is_world J p m s w t a e = tied_as_booked J p m s.axis w t.tied a e
