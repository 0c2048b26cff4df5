-- A run that has come to rest is finished, and done where it has delivered all plates
use Rattle.std.proofs.Common.{◌≡◌, ◌≤◌, ℕ, Bool, true, false, ◌&&◌, List, Option, Some, None, is_some}
use Rattle.std.proofs.Common.{refl, sym, ap, subst, ◌+◌, ◌∙◌, arith}
use Rattle.std.specs.Prelude.{is_none}
use Rattle.cell_types.specs.declared.words.Machine.{Machine}
use Rattle.cell_types.specs.declared.words.Station.{Station}
use Rattle.cell_types.specs.declared.words.Station.TheVariants as station
use Rattle.cell_types.specs.declared.words.Entry.{Entry}
use Rattle.cell_types.specs.After.{Snapshot, after}
use Rattle.cell_rules.specs.Situations.{Situation}
use Rattle.cell_rules.specs.Views.{count_of, plate_of}
use Rattle.cell_rules.specs.declared.limits.BookLimits.{BookLimits}
use Rattle.cell_rules.proofs.Safe.Told.{told_when_legal}
use Rattle.cell_useful.specs.Moves.{acts_of, is_finished, is_left, is_nil}
use Rattle.cell_progress.specs.Orders.{IsOnePress, cell_of}
use Rattle.cell_progress.specs.Rank.{weight}
use Rattle.cell_progress.proofs.Counted.{plates_at}
use Rattle.cell_progress.proofs.Onward.{whole_after}
use Rattle.cell_progress.proofs.Taken.{taken}
use Rattle.cell_workers.specs.Ends.{IsDone, is_vacant}
use Rattle.cell_calm.specs.Calm.{plain}
use Rattle.cell_calm.proofs.Nothing.{Rests, nothing_happens}
use Rattle.cell_calm.proofs.Orders.{left_same, order_free}
use Rattle.cell_calm.proofs.Tame.{Tame}

not_left : (a b : Bool) → (a && b) ≡ false → b ≡ true → a ≡ false
not_left a b h g = grind arith

module _ (may : Machine → Bool) (one : IsOnePress may) (l : BookLimits) (plan : ℕ) (J : List Entry)
    (most : plan ≤ 100000) (c : Tame may l plan J) (rests : Rests plan (after J)) where
  nothing_left : is_left plan (cell_of (after J)) ≡ false
  nothing_left =
      not_left (is_left plan (cell_of (after J))) (is_nil (acts_of plan false (cell_of (after J))))
      (order_free may one plan J most c.possible) (nothing_happens plan (after J) rests)

  pub finished : is_finished plan false (cell_of (after J)) ≡ true
  finished = rw (nothing_left, nothing_happens plan (after J) rests) refl

-- how many stations have a plate, and which

unweighted : (b : Bool) → weight 1 b ≡ 0 → b ≡ false
unweighted true h = cc
unweighted false h = refl

none_taken : (o : Station → Bool) → plates_at o ≡ 0 → (t : Station) → o t ≡ false
none_taken o h station.FeedIn = unweighted (o station.FeedIn) (omega (arith, h))
none_taken o h station.FeedEnd = unweighted (o station.FeedEnd) (omega (arith, h))
none_taken o h station.Table = unweighted (o station.Table) (omega (arith, h))
none_taken o h station.Arm1 = unweighted (o station.Arm1) (omega (arith, h))
none_taken o h station.Arm2 = unweighted (o station.Arm2) (omega (arith, h))
none_taken o h station.Press1 = unweighted (o station.Press1) (omega (arith, h))
none_taken o h station.Press2 = unweighted (o station.Press2) (omega (arith, h))
none_taken o h station.DepIn = unweighted (o station.DepIn) (omega (arith, h))
none_taken o h station.DepEnd = unweighted (o station.DepEnd) (omega (arith, h))

none_summed : (o : Station → Bool) → ((t : Station) → o t ≡ false) → plates_at o ≡ 0
none_summed o h =
    rw (
      h station.FeedIn,
      h station.FeedEnd,
      h station.Table,
      h station.Arm1,
      h station.Arm2,
      h station.Press1,
      h station.Press2,
      h station.DepIn,
      h station.DepEnd,
    ) refl

no_plate : (o : Option ℕ) → is_some o ≡ false → o ≡ None
no_plate None h = refl
no_plate (Some k) h = cc

untaken : (o : Option ℕ) → is_none o ≡ true → is_some o ≡ false
untaken None h = refl
untaken (Some k) h = cc

vacant : (J : List Entry) → ((t : Station) → plate_of J t ≡ None) → is_vacant J ≡ true
unfolding is_vacant
vacant J h =
    rw (
      h station.FeedIn,
      h station.FeedEnd,
      h station.Table,
      h station.Arm1,
      h station.Arm2,
      h station.Press1,
      h station.Press2,
      h station.DepIn,
      h station.DepEnd,
    ) refl

-- of a cell without a plate
pub none_of : (J : List Entry) (s : Station) → is_vacant J ≡ true → is_none (plate_of J s) ≡ true
unfolding is_vacant
none_of J station.FeedIn h = grind arith
none_of J station.FeedEnd h = grind arith
none_of J station.Table h = grind arith
none_of J station.Arm1 h = grind arith
none_of J station.Arm2 h = grind arith
none_of J station.Press1 h = grind arith
none_of J station.Press2 h = grind arith
none_of J station.DepIn h = grind arith
none_of J station.DepEnd h = grind arith

module _ (may : Machine → Bool) (l : BookLimits) (plan : ℕ) (J : List Entry) (c : Tame may l plan J) where
  -- each plate that was admitted is delivered or at a station
  shared : (after J).admitted ≡ (after J).delivered + plates_at (taken (after J))
  shared =
      sums (after J).admitted (after J).delivered (after J).quarantined (plates_at (taken (after J)))
      (subst (λ (s : Snapshot). s.admitted ≡ (s.delivered + s.quarantined) + plates_at (taken s)) (left_same J)
      (whole_after plan false may (plain J) c.possible).counted.sum) c.still.uncleared
    where
      sums : (a d q n : ℕ) → a ≡ (d + q) + n → q ≡ 0 → a ≡ d + n
      sums a d q n h g = omega arith

  told_plate : (t : Station) → plate_of J t ≡ (after J).plate t
  told_plate t = ap (λ (s : Situation). s.plate t) (told_when_legal l J c.legal).cell

  told_admitted : (count_of J).admitted ≡ (after J).admitted
  told_admitted = ap (λ (s : Situation). s.admitted) (told_when_legal l J c.legal).cell

  -- a run that is done has delivered all plates
  pub done_delivered : IsDone plan J → (after J).delivered ≡ plan
  done_delivered done =
      all (after J).delivered (plates_at (taken (after J))) (sym shared ∙ (sym told_admitted ∙ done.admitted))
      (none_summed (taken (after J))
      (λ t. ap is_some (sym (told_plate t)) ∙ untaken (plate_of J t) (none_of J t done.vacant)))
    where
      all : (d n : ℕ) → d + n ≡ plan → n ≡ 0 → d ≡ plan
      all d n h g = omega arith

  -- and one that has delivered all plates is done
  pub delivered_done : (after J).delivered ≡ plan → IsDone plan J
  delivered_done h =
      let none = none_taken (taken (after J)) (no_more (after J).admitted (after J).delivered _ shared c.still.few h) in
      record {
        admitted = told_admitted ∙ as_many (after J).admitted (after J).delivered _ shared c.still.few h;
        vacant = vacant J (λ t. told_plate t ∙ no_plate ((after J).plate t) (none t));
      }
    where
      no_more : (a d n : ℕ) → a ≡ d + n → a ≤ plan → d ≡ plan → n ≡ 0
      no_more a d n h few g = omega arith

      as_many : (a d n : ℕ) → a ≡ d + n → a ≤ plan → d ≡ plan → a ≡ plan
      as_many a d n h few g = omega arith
