-- A part of a journal's events, and what is kept of the entries so far
use Rattle.std.proofs.Common.{◌≡◌, ◌<◌, ◌≤◌, ◌+◌, ◌∙◌, ℕ, Option, Some, List, [], ◌∷◌, ◌++◌, ap, sym, arith, drop}
use Rattle.std.proofs.Common.{drop-cons}
use Rattle.std.proofs.Common.{add-one, append_assoc, get_or, length, refl}
use Rattle.std.specs.Prelude.{◌^◌, slice_get}
use Rattle.std.proofs.Math.ListN.{drop_of_length-le}
use Rattle.std.proofs.lemmas.List.{append-nil}
use Rattle.std.proofs.lemmas.Option.{slice_get_within, get_or_from_slice_get}
use Rattle.cell_types.specs.declared.words.Entry.{Entry}
use Rattle.cell_types.specs.After.{Snapshot as State, opening, step}
use Rattle.cell_journal.specs.Snapshots.{HasRoom, IsCounted, seen, state_of}
use Rattle.cell_journal.proofs.JournalLaws.{counted_step}
use Rattle.cell_measures.specs.declared.durations.Durations.{Durations}
use Rattle.cell_measures.specs.Times.{Ended, ends, motion_of, times, times_after}
use Rattle.cell_events.specs.declared.event.Event.{Event}
use Rattle.cell_events.specs.declared.event.Site.{Site}
use Rattle.cell_events.specs.declared.past.Past.{Past}
use Rattle.cell_events.specs.Events.{begin_of, event_at, events, events_after}
use Rattle.cell_events.specs.Places.{place_told, plate_told}
use Rattle.cell_events.specs.Pasts.{Keeps}

-- the events of the first i entries were found, and what they left is kept; the ends that are left are those of the
-- entries that are left
pub record IsPart (ds : Durations) (J : List Entry) (at : List ℕ) (p : Past) (done : List Event) (i : ℕ) : Type 0 where
  pub past : List Ended
  pub state : State
  pub keeps : Keeps p past state
  pub long : length past ≡ i
  pub counted : IsCounted state
  pub count : state.entries ≡ i
  pub due : drop i at ≡ times_after ds past (drop i J)
  pub left : done ++ events_after ds past state (drop i J) ≡ events ds J

opening_counted : IsCounted opening
opening_counted = record {
  admitted = omega arith;
  forged = omega arith;
  quarantined = omega arith;
  delivered = omega arith;
  reinstated = omega arith;
  forged_by = λ m. omega arith;
}

pub part_first : (ds : Durations) (J : List Entry) (at : List ℕ) (p : Past) (done : List Event) → Keeps p [] opening
    → at ≡ times ds J → done ≡ [] → IsPart ds J at p done 0
part_first ds J at p done keeps is none = record {
  past = [];
  state = opening;
  keeps = keeps;
  long = refl;
  counted = opening_counted;
  count = refl;
  due = is;
  left = ap (λ (l : List Event). l ++ events ds J) none;
}

-- there is room for one entry more in the counts, as there is in the number of an entry
pub part_room : (ds : Durations) (J : List Entry) (at : List ℕ) (p : Past) (done : List Event) (i : ℕ)
    → IsPart ds J at p done i → i + 1 < 2 ^ 32 → HasRoom (state_of p.snapshot)
part_room ds J at p done i part few =
    let s : State = part.state in
    let h : IsCounted s = part.counted in
    let n : s.entries ≡ i = part.count in
    let room : HasRoom (seen s) = record {
      entries = omega (arith, n, few);
      admitted = omega (arith, n, few, h.admitted);
      forged = omega (arith, n, few, h.forged);
      quarantined = omega (arith, n, few, h.quarantined);
      delivered = omega (arith, n, few, h.delivered);
      reinstated = omega (arith, n, few, h.reinstated);
    } in
    rw part.keeps.state room

-- the first of some ends, and the others
first_end : (at more : List ℕ) (i t end : ℕ) → drop i at ≡ end ∷ more → i < length at → t ≡ get_or at i t
    → (t ≡ end) × (drop (i + 1) at ≡ more)
first_end at more i t end e h is =
    let cut : drop i at ≡ get_or at i t ∷ drop (i + 1) at = rw add-one (drop-cons at i t h) in
    let same : get_or at i t ∷ drop (i + 1) at ≡ end ∷ more = sym cut ∙ e in
    (cc, cc)

pub part_more : (ds : Durations) (J : List Entry) (at : List ℕ) (p next : Past) (done more : List Event) (i : ℕ)
    (e : Entry) (t b : ℕ) (k : Option ℕ) (w : Option Site) → IsPart ds J at p done i → slice_get J i ≡ Some e
    → i < length at → t ≡ get_or at i t
    → ((past : List Ended) (s : State) → Keeps p past s → b ≡ begin_of past (motion_of e) t)
    → ((past : List Ended) (s : State) → Keeps p past s → k ≡ plate_told s.plate e)
    → ((past : List Ended) (s : State) → Keeps p past s → w ≡ place_told s.plate e)
    → ((past : List Ended) (s : State) → Keeps p past s
    → Keeps next (record { entry = e; at = t } ∷ past) (step e s))
    → more ≡ done ++ record { number = i + 1; begin = b; end = t; entry = e; plate = k; place = w } ∷ []
    → IsPart ds J at next more (i + 1)
part_more ds J at p next done more i e t b k w part here within is began plate place passed pushed =
    let past : List Ended = part.past in
    let s : State = part.state in
    let rest : List Entry = drop (i + 1) J in
    let cut : drop i J ≡ e ∷ rest = rw add-one (drop-cons J i e (slice_get_within J i e here))
    ∙ ap (λ (x : Entry). x ∷ rest) (get_or_from_slice_get J i e e here) in
    let due : drop i at ≡ times_after ds past (e ∷ rest) = part.due ∙ ap (times_after ds past) cut in
    let first = first_end at (times_after ds (record { entry = e; at = ends ds past e } ∷ past) rest) i t
    (ends ds past e) due within is in
    let long : length past ≡ i = part.long in
    let n : i + 1 ≡ length past + 1 = omega (arith, long) in
    let v : Event = record { number = i + 1; begin = b; end = t; entry = e; plate = k; place = w } in
    let told : v ≡ event_at t past s e = cc (
      n,
      began past s part.keeps,
      plate past s part.keeps,
      place past s part.keeps,
    ) in
    let later : Event → ℕ → List Event = λ w u. w ∷ events_after ds (record { entry = e; at = u } ∷ past) (step e s)
    rest in
    let same : later v t ≡ events_after ds past s (e ∷ rest) =
    ap (λ (w : Event). later w t) told
    ∙ ap (λ (u : ℕ). later (event_at u past s e) u) first.0 in
    record {
      past = record { entry = e; at = t } ∷ past;
      state = step e s;
      keeps = passed past s part.keeps;
      long = omega (arith, long);
      counted = counted_step e s part.counted;
      count = ap (λ (k : ℕ). k + 1) part.count;
      due = first.1 ∙ ap (λ (u : ℕ). times_after ds (record { entry = e; at = u } ∷ past) rest) (sym first.0);
      left =
          ap (λ (l : List Event). l ++ events_after ds (record { entry = e; at = t } ∷ past) (step e s) rest) pushed
          ∙ append_assoc done (v ∷ []) (events_after ds (record { entry = e; at = t } ∷ past) (step e s) rest)
          ∙ ap (λ (l : List Event). done ++ l) same
          ∙ ap (λ (l : List Entry). done ++ events_after ds past s l) (sym cut) ∙ part.left;
    }

pub part_last : (ds : Durations) (J : List Entry) (at : List ℕ) (p : Past) (done : List Event) (i : ℕ)
    → IsPart ds J at p done i → length J ≤ i → done ≡ events ds J
part_last ds J at p done i part h =
    sym (append-nil done)
    ∙ ap (λ (l : List Entry). done ++ events_after ds part.past part.state l) (sym (drop_of_length-le J h))
    ∙ part.left
