-- What is known of the orders of events in which nobody serves
use Rattle.std.proofs.Common.{◌≡◌, ◌≤◌, ℕ, ◌*◌, ◌+◌, Bool, true, false, inl, List, length, refl, subst, sym}
use Rattle.cell_types.specs.declared.words.Machine.{Machine}
use Rattle.cell_types.specs.declared.words.Machine.TheVariants as machine
use Rattle.cell_types.specs.declared.words.Entry.{Entry}
use Rattle.cell_types.specs.After.{Snapshot, after, opening}
use Rattle.cell_useful.specs.Moves.{is_finished, is_stuck}
use Rattle.cell_progress.specs.Orders.{IsOnePress, IsPossible, cell_of}
use Rattle.cell_progress.specs.Rank.{most_failures}
use Rattle.cell_progress.proofs.Finished.{all_delivered_law, delivered_law}
use Rattle.cell_progress.proofs.Onward.{stuck_never}
use Rattle.cell_progress.proofs.Shortest.{calm_law, short, short_law}
use Rattle.cell_calm.specs.Calm.{none_may, plain}
use Rattle.cell_calm.proofs.Plain.{from_plain, plain_long}

-- the journal is such an order, whatever the causes of its failures
abbrev pub IsOrder : (Machine → Bool) → ℕ → List Entry → Type 0
IsOrder may plan J = IsPossible plan false may opening (plain J)

pub none_one : IsOnePress none_may
none_one = (machine.Press1, inl refl, λ m e. cc)

pub left_same : (J : List Entry) → after (plain J) ≡ after J
left_same J = from_plain opening J

pub order_short : (plan : ℕ) (J : List Entry) → plan ≤ 100000 → IsOrder none_may plan J → length J ≤ 76 * plan
order_short plan J most h =
    subst (λ (n : ℕ). n ≤ 76 * plan) (plain_long J) (calm_law plan false none_may (plain J) most (λ m. refl) h)

pub order_delivered : (plan : ℕ) (J : List Entry) → plan ≤ 100000 → IsOrder none_may plan J
    → is_finished plan false (cell_of (after J)) ≡ true → (after J).delivered ≡ plan
order_delivered plan J most h f =
    subst (λ (s : Snapshot). s.delivered ≡ plan) (left_same J)
    (all_delivered_law plan none_may (plain J) most (λ m. refl) h
    (subst (λ (s : Snapshot). is_finished plan false (cell_of s) ≡ true) (sym (left_same J)) f))

pub any_short : (may : Machine → Bool) (plan : ℕ) (J : List Entry) → plan ≤ 100000 → IsOrder may plan J
    → length J ≤ 76 * plan + most_failures may
any_short may plan J most h =
    subst (λ (n : ℕ). n ≤ 76 * plan + most_failures may) (plain_long J) (short plan false may (plain J) most h)

module _ (may : Machine → Bool) (one : IsOnePress may) (plan : ℕ) (J : List Entry) (most : plan ≤ 100000)
    (h : IsOrder may plan J) where
  pub failing_short : length J ≤ 76 * plan + 10
  failing_short =
      subst (λ (n : ℕ). n ≤ 76 * plan + 10) (plain_long J) (short_law plan false may (plain J) most one h)

  pub order_free : is_stuck plan false (cell_of (after J)) ≡ false
  order_free =
      subst (λ (s : Snapshot). is_stuck plan false (cell_of s) ≡ false) (left_same J)
      (stuck_never plan may (plain J) most one h)

  -- all plates but one at most
  pub failing_delivered : is_finished plan false (cell_of (after J)) ≡ true
      → (plan ≤ (after J).delivered + 1) × ((after J).delivered ≤ plan)
  failing_delivered f =
      subst (λ (s : Snapshot). (plan ≤ s.delivered + 1) × (s.delivered ≤ plan)) (left_same J)
      (delivered_law plan may (plain J) most one h
      (subst (λ (s : Snapshot). is_finished plan false (cell_of s) ≡ true) (sym (left_same J)) f))
