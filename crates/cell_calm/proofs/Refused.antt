-- No turn is refused where the limits leave room for the plan
use Rattle.std.proofs.Common.{◌≡◌, ◌≢◌, ◌≤◌, ◌<◌, ℕ, ◌*◌, ◌+◌, Bool, true, false, inl, inr, List, [], ◌∷◌, ◌++◌, Option}
use Rattle.std.proofs.Common.{Some, None, length, refl, sym, subst, ◌∙◌, append-nil, arith}
use Rattle.std.specs.Prelude.{nat_le, nat_lt, option_to_list}
use Rattle.std.proofs.lemmas.Bool.Decides.{nat_tests}
use Rattle.cell_types.specs.declared.words.Machine.{Machine}
use Rattle.cell_types.specs.declared.words.Entry.{Entry}
use Rattle.cell_types.specs.declared.words.Entry.TheVariants.{Admitted}
use Rattle.cell_types.specs.After.{after}
use Rattle.cell_rules.specs.First.{first, first_true, kind_tests}
use Rattle.cell_rules.specs.Legal.{first_of}
use Rattle.cell_rules.specs.Situations.{Situation, situation_of}
use Rattle.cell_rules.specs.declared.limits.BookLimits.{BookLimits}
use Rattle.cell_rules.specs.declared.refusal.Refusal.{Refusal}
use Rattle.cell_rules.specs.declared.refusal.Refusal.TheVariants.{JournalFull, PlateLimit}
use Rattle.cell_rules.proofs.Order.{not_full}
use Rattle.cell_rules.proofs.Safe.Told.{told_when_legal}
use Rattle.cell_diagnosis.specs.declared.reading.Reading.{Reading}
use Rattle.cell_ports.specs.declared.plan.Plan.{Plan}
use Rattle.cell_progress.specs.Orders.{IsOnePress}
use Rattle.cell_progress.specs.Rank.{most_failures}
use Rattle.cell_turns.specs.declared.schedule.Step.{Step}
use Rattle.cell_turns.specs.Minds.{Mind}
use Rattle.cell_turns.specs.Schedules.{Leads, Now}
use Rattle.cell_turns.specs.Schedules.Leads.{fails, hands, refuses, spares, stays, turns}
use Rattle.cell_turns.specs.Six.{at}
use Rattle.cell_turns.specs.Turns.{IsDecided, IsTurnedAway, may_meet}
use Rattle.cell_calm.specs.Calm.{HasRoom, HasRoomFor, HasRoomToFail, fails_only}
use Rattle.cell_calm.proofs.Decided.{decided_goes, turn_fits}
use Rattle.cell_calm.proofs.Ends.{Fits}
use Rattle.cell_calm.proofs.Orders.{any_short, failing_short, order_short}
use Rattle.cell_calm.proofs.Plain.{tame_front}
use Rattle.cell_calm.proofs.Possible.{tame_led}
use Rattle.cell_calm.proofs.Room.{past, room_left}
use Rattle.cell_calm.proofs.Tame.{Calm, Tame, may_yet}

-- a test that holds would refuse for another reason
other : (b : Bool) (r w : Refusal) (ts : List (Bool × Refusal)) → r ≢ w → first_true ((b, r) ∷ ts) ≡ Some w
    → first_true ts ≡ Some w
unfolding first_true
other true r w ts n h = let same : r ≡ w = cc in absurd (n same)
other false r w ts n h = h

none_left : (w : Refusal) → first_true [] ≡ Some w → ⊥
unfolding first_true
none_left w h = cc

full_never : (l : BookLimits) (c : Situation) (e : Entry) → nat_le l.entries c.entries ≡ false
    → first l c e ≡ Some JournalFull → ⊥
full_never l c e room h =
    not_full l c e (sym (past _ JournalFull (kind_tests l c e) (room_left l.entries c.entries e room)) ∙ h)

-- of the tests of a plate that is to be admitted only the one of the limit refuses for it
limit_never : (l : BookLimits) (c : Situation) (k : ℕ) → nat_le l.entries c.entries ≡ false
    → nat_le l.plates c.admitted ≡ false → first l c (Admitted k) ≡ Some PlateLimit → ⊥
limit_never l c k room more h =
    let w = PlateLimit in
    none_left w (other _ _ w _ (λ e. cc) (other _ _ w _ (λ e. cc) (other _ _ w _ (λ e. cc) (other _ _ w _ (λ e. cc)
    (sym (past _ w _ more) ∙ other _ _ w _ (λ e. cc) h)))))

-- the journal ends below the limit
below : (a b n : ℕ) → b ≤ n → n < a → nat_le a b ≡ false
below a b n h g = grind (arith, nat_tests)

module _ (l : BookLimits) (p : Plan) (room : HasRoom l p.plates) where
  pub calm_length : (J : List Entry) → Calm l p.plates J → length J ≤ 76 * p.plates
  calm_length J c = order_short p.plates J p.plates_in_range.1 c.possible

  pub calm_room : (J : List Entry) → Calm l p.plates J → nat_le l.entries (length J) ≡ false
  calm_room J c = below l.entries (length J) (76 * p.plates) (calm_length J c) room.entries

-- and where one press may fail
pub failing_room : (may : Machine → Bool) (l : BookLimits) (p : Plan) → IsOnePress may → HasRoomToFail l p.plates
    → (J : List Entry) → Tame may l p.plates J → nat_le l.entries (length J) ≡ false
failing_room may l p one room J c =
    below l.entries (length J) (76 * p.plates + 10)
    (failing_short may one p.plates J p.plates_in_range.1 c.possible) room.entries

-- and where any may
pub any_room : (may : Machine → Bool) (l : BookLimits) (p : Plan) → HasRoomFor may l p.plates
    → (J : List Entry) → Tame may l p.plates J → nat_le l.entries (length J) ≡ false
any_room may l p room J c =
    below l.entries (length J) (76 * p.plates + most_failures may)
    (any_short may p.plates J p.plates_in_range.1 c.possible) room.entries

module _ (may : Machine → Bool) (l : BookLimits) (p : Plan)
    (room : (J : List Entry) → Tame may l p.plates J → nat_le l.entries (length J) ≡ false)
    (plates : p.plates ≤ l.plates) where
  -- an entry that is decided on isn't refused for want of room
  refused : (J : List Entry) (m : Machine) (mind : Mind) (r : Option Reading) (e : Entry) (why : Refusal)
      → Tame may l p.plates J → may_meet e (Some why) ≡ true → first_of l J e ≡ Some why
      → IsDecided l J m p mind r (Some e) → ⊥
  refused J m mind r e JournalFull c meet h decided = full_never l (situation_of J) e (room J c) h
  refused J m mind r (Admitted k) PlateLimit c meet h decided =
      let told = told_when_legal l J c.legal in
      let goes = decided_goes may l p J c m mind r (Admitted k) (λ sound. room J c) decided refl in
      limit_never l (situation_of J) k (room J c)
      (subst (λ (c : Situation). nat_le l.plates c.admitted ≡ false) (sym told.cell)
      (more (after J).admitted p.plates l.plates goes.keeps plates)) h
    where
      more : (a b n : ℕ) → nat_lt a b ≡ true → b ≤ n → nat_le n a ≡ false
      more a b n h g = grind (arith, nat_tests)
  refused J m mind r e PlateLimit c meet h decided = cc
  refused J m mind r e _ c meet h decided = cc

  -- neither the journal nor the plates' numbers have run out
  away_never : (J : List Entry) (m : Machine) (mind : Mind) (r : Option Reading) (why : Refusal)
      → Tame may l p.plates J → IsTurnedAway l J m p mind r why → ⊥
  away_never J m mind r why c (inl past) =
      absurd (subst (Fits may (may_yet may J) p.plates (after J) m) past.0 (turn_fits may l p J c m mind r))
  away_never J m mind r why c (inr h) = refused J m mind r h.entry why c h.expected h.first h.decided

  turn_front : (J : List Entry) (booked : Option Entry) → fails_only may (J ++ option_to_list booked) ≡ true
      → fails_only may J ≡ true
  turn_front J None h = rw append-nil at h
  turn_front J (Some e) h = (tame_front may J e h).0

  pub never_refused : (s : Now) (steps : List Step) (refused failed : ℕ) (t : Now)
      → s.journal ≡ [] → Leads l p s steps refused failed t → fails_only may t.journal ≡ true → refused ≡ 0
  never_refused s _ _ _ _ start stays tame = refl
  never_refused s _ _ _ u start (turns {t = t} {steps = xs} {refused = i} {failed = j} m r b d) tame =
      never_refused s xs i j t start b (turn_front t.journal d.booked
      (subst (λ (K : List Entry). fails_only may K ≡ true) d.journal tame))
  never_refused s _ _ _ t start (refuses {steps = xs} {refused = i} {failed = j} m r why b d) tame =
      absurd (away_never t.journal m (at t.minds m) r why (tame_led may l p s xs i j t start b tame) d)
  never_refused s _ _ _ _ start (hands {t = t} {steps = xs} {refused = i} {failed = j} e b d) tame =
      never_refused s xs i j t start b (tame_front may t.journal e tame).0
  never_refused s _ _ _ t start (spares {steps = xs} {refused = i} {failed = j} e b d) tame =
      never_refused s xs i j t start b tame
  never_refused s _ _ _ t start (fails {steps = xs} {refused = i} {failed = j} e b d w) tame =
      never_refused s xs i j t start b tame
