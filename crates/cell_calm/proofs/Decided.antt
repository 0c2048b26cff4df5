-- What a turn decides on can happen, and where it decides on nothing, nothing is useful
use Rattle.std.proofs.Common.{◌≡◌, ◌≤◌, ℕ, Bool, true, false, ◌&&◌, List, Option, Some, None, length, refl, sym, ap}
use Rattle.std.proofs.Common.{subst, ◌∙◌}
use Rattle.std.specs.Prelude.{nat_le}
use Rattle.std.specs.List.{Contains}
use Rattle.cell_types.specs.declared.words.Machine.{Machine}
use Rattle.cell_types.specs.declared.words.Cause.{Cause}
use Rattle.cell_types.specs.declared.words.Cause.TheVariants as cause
use Rattle.cell_types.specs.declared.words.Entry.{Entry}
use Rattle.cell_types.specs.declared.words.Entry.TheVariants.{Declared}
use Rattle.cell_types.specs.After.{Snapshot, after}
use Rattle.cell_rules.specs.Bridged.{TellsWhatIsLeft}
use Rattle.cell_rules.specs.Situations.{Situation, situation_of}
use Rattle.cell_rules.specs.SituationIn.{situation_in}
use Rattle.cell_rules.specs.Views.{is_asked, is_failed}
use Rattle.cell_rules.specs.declared.limits.BookLimits.{BookLimits}
use Rattle.cell_rules.proofs.Safe.Told.{told_when_legal}
use Rattle.cell_diagnosis.specs.declared.motion.Motion.{Motion}
use Rattle.cell_diagnosis.specs.declared.reading.Reading.{Reading}
use Rattle.cell_diagnosis.specs.declared.verdict.Verdict.{Verdict}
use Rattle.cell_diagnosis.specs.declared.verdict.Verdict.TheVariants.{Arrived, Fault, Pending}
use Rattle.cell_machines.specs.Useful.{is_useful, is_useful_now}
use Rattle.cell_machines.proofs.Proposed.{none_proposed, some_proposed}
use Rattle.cell_ports.specs.declared.plan.Plan.{Plan}
use Rattle.cell_useful.specs.Cells.{ample}
use Rattle.cell_progress.specs.Orders.{cell_of}
use Rattle.cell_turns.specs.declared.turns.decide.Ruling.{Ruling}
use Rattle.cell_turns.specs.declared.turns.decide.Ruling.TheVariants.{Books, Nothing, PastLast, Proposes}
use Rattle.cell_turns.specs.Minds.{Mind}
use Rattle.cell_turns.specs.Observed.{findings}
use Rattle.cell_turns.specs.Rulings.{ruling}
use Rattle.cell_turns.specs.Turns.{IsDecided, IsRuled}
use Rattle.cell_turns.proofs.Points.{by_all, by_axis, by_end, by_rest, by_sign}
use Rattle.cell_turns.proofs.Shown.{AreShown, shown}
use Rattle.cell_turns.proofs.Signed.{IsLit, lit}
use Rattle.cell_calm.specs.Calm.{disturbs_but, plain_entry}
use Rattle.cell_calm.proofs.Barred.{useless_failed}
use Rattle.cell_calm.proofs.Ends.{Fits, Goes, declared_fits, ending_fits, signed_fits}
use Rattle.cell_calm.proofs.Entering.{unserved, useful_in}
use Rattle.cell_calm.proofs.Room.{useful_same}
use Rattle.cell_calm.proofs.Still.{AreLeft, Still, is_of_failure, useful_keeps, wanted_fits}
use Rattle.cell_calm.proofs.Tame.{Tame, may_yet}

-- a wanted entry is in orders of events as it is
as_it_is : (e : Entry) → is_of_failure e ≡ false → plain_entry e ≡ e
as_it_is (Declared m why) h = cc
as_it_is _ h = refl

module _ (may now : Machine → Bool) (plan : ℕ) (J : List Entry) (told : TellsWhatIsLeft J)
    (still : Still may plan (after J)) (left : AreLeft may now (after J)) (most : plan ≤ 100000) where
  abbrev s : Snapshot
  s = after J

  module _ (m : Machine) (healthy : (after J).failed m ≡ false) where
    abbrev MayBook : Ruling → Type 0
    MayBook k = Fits may now plan (after J) m k

    -- the points of a turn, the last ones first

    sign_fits : (sign : Bool) → (sign ≡ true → IsLit J m) → MayBook (by_sign J m sign)
    sign_fits true lit = signed_fits may now plan J told still left m healthy most (lit refl)
    sign_fits false lit = tt

    end_fits : (sign : Bool) (o : Option Motion) (v : Verdict) → (sign ≡ true → IsLit J m) → AreShown J m o
        → MayBook (by_end J m sign o v)
    end_fits sign (Some mo) Arrived lit seen =
        ending_fits may now plan J told still left m healthy mo.axis mo.to seen.own seen.going
    end_fits sign (Some mo) Pending lit seen = sign_fits sign lit
    end_fits sign (Some mo) (Fault why) lit seen = sign_fits sign lit
    end_fits sign None v lit seen = sign_fits sign lit

    fault_fits : (why : Cause) → MayBook (Books (Declared m why))
    fault_fits why = declared_fits may now plan J told still left m healthy why

    rest_fits : (sign : Bool) (o : Option Motion) (v u : Verdict) → (sign ≡ true → IsLit J m) → AreShown J m o
        → MayBook (by_rest J m sign o v u)
    rest_fits sign o v (Fault why) lit seen = fault_fits why
    rest_fits sign o v Arrived lit seen = end_fits sign o v lit seen
    rest_fits sign o v Pending lit seen = end_fits sign o v lit seen

    axis_fits : (sign : Bool) (o : Option Motion) (v u : Verdict) → (sign ≡ true → IsLit J m) → AreShown J m o
        → MayBook (by_axis J m sign o v u)
    axis_fits sign o (Fault why) u lit seen = fault_fits why
    axis_fits sign o Arrived u lit seen = rest_fits sign o Arrived u lit seen
    axis_fits sign o Pending u lit seen = rest_fits sign o Pending u lit seen

  points_fit : (m : Machine) (failed a b c sign : Bool) (o : Option Motion) (v u : Verdict) → s.failed m ≡ failed
      → (sign ≡ true → IsLit J m) → AreShown J m o → Fits may now plan s m (by_all J m failed a b c sign o v u)
  points_fit m true a b c sign o v u h lit seen = h
  points_fit m false true b c sign o v u h lit seen = fault_fits m h cause.CommandFault
  points_fit m false false true c sign o v u h lit seen = fault_fits m h cause.OperatorStop
  points_fit m false false false true sign o v u h lit seen = tt
  points_fit m false false false false sign o v u h lit seen = axis_fits m h sign o v u lit seen

  ruling_fits : (m : Machine) (p : Plan) (mind : Mind) (r : Option Reading)
      → Fits may now plan s m (ruling J m p mind r)
  unfolding ruling
  ruling_fits m p mind r =
      let found = findings J m p mind r in
      points_fit m (is_failed J m) mind.memory.command_failed (is_asked J m) mind.memory.failed
      (mind.memory.sign && found.sign) found.motion found.at_axis found.at_rest
      (sym (ap (λ (c : Situation). c.failed m) told.cell)) (lit J m r mind.memory.sign) (shown J p m)

  -- what is useful by these limits is so by any
  useful_is : (l : BookLimits) (m : Machine) (e : Entry) → nat_le l.entries (length J) ≡ false
      → is_useful l J plan m e ≡ is_useful_now ample (cell_of s) plan m e
  useful_is l m e room =
      ap (λ (c : Situation). is_useful_now l c plan m e) told.cell
      ∙ useful_same l s.entries (situation_in s) plan m e
      (subst (λ (c : Situation). nat_le l.entries c.entries ≡ false) told.cell room)

  ruled_goes : (l : BookLimits) (m : Machine) (k : Ruling) (e : Entry)
      → (is_of_failure e ≡ false → nat_le l.entries (length J) ≡ false) → Fits may now plan s m k
      → IsRuled l J m plan k (Some e) → disturbs_but may e ≡ false → Goes may now plan s e
  ruled_goes l m Nothing e room fits h tame = cc
  ruled_goes l m PastLast e room fits h tame = absurd fits
  ruled_goes l m (Books x) e room fits h tame =
      let same : e ≡ x = cc in
      subst (Goes may now plan s) (sym same) (fits (ap (disturbs_but may) (sym same) ∙ tame))
  ruled_goes l m Proposes e room fits h tame =
      let wanted : is_useful l J plan m e ≡ true = some_proposed l J plan m (Some e) h in
      let sound = wanted_fits l (situation_of J) plan m e wanted in
      let useful : is_useful_now ample (cell_of s) plan m e ≡ true = sym (useful_is l m e (room sound)) ∙ wanted in
      record {
        possible = subst (Contains (unserved now plan (cell_of s))) (sym (as_it_is e sound))
            (useful_in now plan (cell_of s) e m useful);
        keeps = useful_keeps may plan s m e still useful;
      }

  ruled_none : (l : BookLimits) (m : Machine) (k : Ruling) (e : Entry) → nat_le l.entries (length J) ≡ false
      → Fits may now plan s m k → IsRuled l J m plan k None → is_useful_now ample (cell_of s) plan m e ≡ false
  ruled_none l m Nothing e room fits h = useless_failed plan s m e fits
  ruled_none l m PastLast e room fits h = absurd fits
  ruled_none l m (Books x) e room fits h = cc
  ruled_none l m Proposes e room fits h = sym (useful_is l m e room)
      ∙ none_proposed l J plan m None h e

module _ (may : Machine → Bool) (l : BookLimits) (p : Plan) (J : List Entry) (c : Tame may l p.plates J) (m : Machine)
    (mind : Mind) (r : Option Reading) where
  abbrev yet : Machine → Bool
  yet = may_yet may J

  told : TellsWhatIsLeft J
  told = told_when_legal l J c.legal

  pub turn_fits : Fits may yet p.plates (after J) m (ruling J m p mind r)
  turn_fits = ruling_fits may yet p.plates J told c.still c.left p.plates_in_range.1 m p mind r

  -- an entry that a turn decides on can happen, and no other machine fails by it, unless it disturbs
  pub decided_goes : (e : Entry) → (is_of_failure e ≡ false → nat_le l.entries (length J) ≡ false)
      → IsDecided l J m p mind r (Some e) → disturbs_but may e ≡ false → Goes may yet p.plates (after J) e
  decided_goes e room h tame =
      ruled_goes may yet p.plates J told c.still c.left p.plates_in_range.1 l m (ruling J m p mind r) e room turn_fits h
      tame

  -- where a turn decides on nothing, nothing is useful for its machine
  pub none_useful : (e : Entry) → nat_le l.entries (length J) ≡ false → IsDecided l J m p mind r None
      → is_useful_now ample (cell_of (after J)) p.plates m e ≡ false
  none_useful e room h =
      ruled_none may yet p.plates J told c.still c.left p.plates_in_range.1 l m (ruling J m p mind r) e room turn_fits h
