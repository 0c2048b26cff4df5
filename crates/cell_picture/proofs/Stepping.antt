-- There is room for one more entry in the counts of what fewer entries left than 32 bits count
use Rattle.std.proofs.Common.{◌≡◌, ◌<◌, ◌≤◌, ◌+◌, ℕ, List, [], ◌∷◌, length, take, arith}
use Rattle.std.specs.Prelude.{◌^◌}
use Rattle.std.proofs.lemmas.List.{length-take}
use Rattle.cell_types.specs.declared.words.Entry.{Entry}
use Rattle.cell_types.specs.After.{Snapshot as State, after, after_from, opening, step}
use Rattle.cell_journal.specs.Snapshots.{HasRoom, IsCounted, seen}

-- no count rises by more than one at an entry, and the number of entries always rises by one
counted_step : (e : Entry) (s : State) → IsCounted s → IsCounted (step e s)
counted_step e s h = grind arith

counted_from : (s : State) (es : List Entry) → IsCounted s → IsCounted (after_from s es)
counted_from s [] h = h
counted_from s (e ∷ es) h = counted_from (step e s) es (counted_step e s h)

entries_from : (s : State) (es : List Entry) → (after_from s es).entries ≡ s.entries + length es
entries_from s [] = omega arith
entries_from s (e ∷ es) = let more : (after_from (step e s) es).entries ≡ (s.entries + 1) + length es =
    entries_from (step e s) es in omega arith

opening_counted : IsCounted opening
opening_counted = record {
  admitted = omega arith;
  forged = omega arith;
  quarantined = omega arith;
  delivered =
      omega arith;
  reinstated = omega arith;
  forged_by = λ m. omega arith;
}

below : (n m l : ℕ) → n ≤ m → m ≡ 0 + l → l + 1 < 2 ^ 32 → n + 1 < 2 ^ 32
below n m l a b c = omega arith

-- what some entries leave
room_after : (J : List Entry) → length J + 1 < 2 ^ 32 → HasRoom (seen (after J))
room_after J few =
    let h : IsCounted (after J) = counted_from opening J opening_counted in
    let e : (after J).entries ≡ 0 + length J = entries_from opening J in
    record {
      entries = below (after J).entries (after J).entries (length J) (omega arith) e few;
      admitted = below _ _ _ h.admitted e few;
      forged = below _ _ _ h.forged e few;
      quarantined = below _ _ _ h.quarantined e few;
      delivered = below _ _ _ h.delivered e few;
      reinstated = below _ _ _ h.reinstated e few;
    }

-- what the first of some entries leave
pub room_left : (s : State) (J : List Entry) (i : ℕ) → s ≡ seen (after (take i J)) → i < length J
    → length J < 2 ^ 32 → HasRoom s
room_left s J i is next few = rw is (room_after (take i J) (omega (arith, length-take i J, next, few)))
