-- What is left of a book's first entries is what they tell
use Rattle.std.proofs.Common.{◌≡◌, ◌+◌, ◌<◌, ◌≤◌, ◌^◌, ℕ, true, List, length, take, drop, take-append-drop, sym, ap}
use Rattle.std.proofs.Common.{◌∙◌, arith, [], ◌∷◌, ◌++◌, Option, Some, None}
use Rattle.std.proofs.Math.Nat.{min-le_left}
use Rattle.std.proofs.lemmas.List.{length-take}
use Rattle.std.specs.Prelude.{if◌then◌else◌, slice_get, unwrap_or}
use Rattle.cell_types.specs.declared.words.Machine.{Machine}
use Rattle.cell_types.specs.declared.words.Entry.{Entry}
use Rattle.cell_types.specs.After.{Snapshot as State, after, after_from, opening, step}
use Rattle.cell_rules.specs.declared.limits.BookLimits.{BookLimits}
use Rattle.cell_rules.specs.Bridged.{TellsWhatIsLeft}
use Rattle.cell_rules.specs.Legal.{legal}
use Rattle.cell_rules.specs.Situations.{Situation, situation_of}
use Rattle.cell_rules.specs.SituationIn.{situation_in}
use Rattle.cell_rules.specs.Views.{clears_from, is_forged_by, waits_of}
use Rattle.cell_journal.specs.Snapshots.{HasRoom, IsCounted, seen}
use Rattle.cell_journal.proofs.JournalLaws.{counted_step, take_get}
use Rattle.cell_types.proofs.Left.{after_snoc}
use Rattle.cell_rules.proofs.Safe.Bridge.{legal_front}
use Rattle.cell_rules.proofs.Safe.Told.{told_when_legal}
use Rattle.cell_rules.proofs.Safe.Views.{step_forged_by_of, view_snoc}

-- a state of which the forgings and the quarantine are put back
put_back : (s : State) (J : List Entry) (forged : Machine → ℕ) → TellsWhatIsLeft J → s ≡ seen (after J)
    → ((m : Machine) → forged m ≡ (after J).forged_by m)
    → situation_in (record s { forged_by = forged; waits = waits_of J }) ≡ situation_of J
put_back s J forged told left counts =
    let waits : waits_of J ≡ (after J).waits = ap (λ (c : Situation). c.waits) told.cell in
    ap (λ (t : State). situation_in (record t { forged_by = forged; waits = waits_of J })) left
    ∙ (λ i. situation_in (record (after J) { forged_by = λ m. counts m i; waits = waits i })) ∙ sym told.cell

-- the first entries of a legal journal tell what they leave
pub told_law : (l : BookLimits) (J : List Entry) (i : ℕ) (s : State) (forged : Machine → ℕ) → legal l J ≡ true
    → s ≡ seen (after (take i J)) → ((m : Machine) → forged m ≡ (after (take i J)).forged_by m)
    → situation_in (record s { forged_by = forged; waits = waits_of (take i J) }) ≡ situation_of (take i J)
told_law l J i s forged h left counts =
    let first : legal l (take i J) ≡ true = legal_front l [] (take i J) (drop i J) (rw (take-append-drop i J) h) in
    put_back s (take i J) forged (told_when_legal l (take i J) first) left counts

-- no count of a machine's is above that of the entries
counted_from : (s : State) (es : List Entry) → IsCounted s → IsCounted (after_from s es)
counted_from s [] h = h
counted_from s (e ∷ es) h = counted_from (step e s) es (counted_step e s h)

opening_counted : IsCounted opening
opening_counted = record {
  admitted = omega arith;
  forged = omega arith;
  quarantined = omega arith;
  delivered = omega arith;
  reinstated = omega arith;
  forged_by = λ m. omega arith;
}

entries_from : (s : State) (es : List Entry) → (after_from s es).entries ≡ s.entries + length es
entries_from s [] = omega arith
entries_from s (e ∷ es) =
    let more : (after_from (step e s) es).entries ≡ (s.entries + 1) + length es = entries_from (step e s) es in
    omega arith

below : (n m l : ℕ) → n ≤ m → m ≡ 0 + l → l + 1 < 2 ^ 32 → n + 1 < 2 ^ 32
below n m l a b c = omega arith

-- while a journal goes on, each count has room for one more
pub room_law : (J : List Entry) (s : State) → s ≡ seen (after J) → length J + 1 < 2 ^ 32 → HasRoom s
room_law J s is few =
    let h : IsCounted (after J) = counted_from opening J opening_counted in
    let e : (after J).entries ≡ 0 + length J = entries_from opening J in
    rw is (record {
      entries = below (after J).entries (after J).entries (length J) (omega arith) e few;
      admitted = below _ _ _ h.admitted e few;
      forged = below _ _ _ h.forged e few;
      quarantined = below _ _ _ h.quarantined e few;
      delivered = below _ _ _ h.delivered e few;
      reinstated = below _ _ _ h.reinstated e few;
    })

pub counts_law : (J : List Entry) (n : ℕ) (m : Machine) → n ≡ (after J).forged_by m → length J + 1 < 2 ^ 32
    → n + 1 < 2 ^ 32
counts_law J n m is few =
    let h : IsCounted (after J) = counted_from opening J opening_counted in
    let e : (after J).entries ≡ 0 + length J = entries_from opening J in
    rw is (below _ _ _ (h.forged_by m) e few)

-- so many of the first entries as a number of 32 bits counts, and one more
pub taken_few : (J : List Entry) (i n : ℕ) → i < n → n < 2 ^ 32 → length (take i J) + 1 < 2 ^ 32
taken_few J i n more few =
    let le : length (take i J) ≤ i = rw (length-take i J) (min-le_left i (length J)) in omega arith

-- a count after one entry more
pub counts_more : (J : List Entry) (i : ℕ) (e : Entry) (m : Machine) (old new : ℕ) → slice_get J i ≡ Some e
    → old ≡ (after (take i J)).forged_by m → new ≡ (if is_forged_by m e then old + 1 else old)
    → new ≡ (after (take (i + 1) J)).forged_by m
counts_more J i e m old new at before is =
    is ∙ ap (λ n. if is_forged_by m e then n + 1 else n) before ∙ step_forged_by_of (after (take i J)) e m
    ∙ sym (ap (λ (K : List Entry). (after K).forged_by m) (take_get J i e at)
    ∙ ap (λ (t : State). t.forged_by m) (after_snoc opening (take i J) e))

-- from where a plate was cleared, after one entry more
pub waits_more : (J : List Entry) (i : ℕ) (e : Entry) (k : ℕ) → slice_get J i ≡ Some e
    → unwrap_or (clears_from k e) (waits_of (take i J) k) ≡ waits_of (take (i + 1) J) k
waits_more J i e k at =
    sym (ap (λ (K : List Entry). waits_of K k) (take_get J i e at) ∙ view_snoc (clears_from k) None (take i J) e)
