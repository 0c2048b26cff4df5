-- Since when a fact holds, entry by entry
use Rattle.std.proofs.Common.{◌≡◌, ◌≤◌, ◌+◌, ◌⊎◌, ◌<◌, ◌∙◌, ℕ, Bool, true, false, ap, inl, inr, List, Option, Some}
use Rattle.std.proofs.Common.{length}
use Rattle.std.proofs.Common.{take, refl, sym, subst, arith}
use Rattle.std.specs.Prelude.{slice_get}
use Rattle.std.proofs.lemmas.Bool.{cases_lt}
use Rattle.std.proofs.lemmas.List.{take_all}
use Rattle.cell_types.specs.declared.words.Entry.{Entry}
use Rattle.cell_types.specs.After.{Snapshot as State, after}
use Rattle.cell_journal.specs.Snapshots.{seen}
use Rattle.cell_explain.specs.declared.facts.Fact.{Fact}
use Rattle.cell_explain.specs.declared.telling.Since.{Since}
use Rattle.cell_explain.specs.declared.telling.Since.TheVariants as since
use Rattle.cell_explain.specs.Facts.{Holds, HoldsBetween, IsLastOf, IsSinceOf, NamesPlate, NoneNames, fact_of}
use Rattle.cell_explain.specs.Facts.{IsSince, IsSinceFact, wrong_plate}
use Rattle.cell_types.specs.declared.words.Entry.TheVariants.{Admitted, Reinstated}
use Rattle.cell_rules.specs.declared.refusal.Refusal.{Refusal}
use Rattle.cell_rules.specs.declared.refusal.Refusal.TheVariants as refusal

-- no fact tells of what a snapshot doesn't keep
pub holds-seen : (f : Fact) (s : State) → Holds f (seen s) → Holds f s
holds-seen f s h = grind arith

pub seen-holds : (f : Fact) (s : State) → Holds f s → Holds f (seen s)
seen-holds f s h = grind arith

-- no fact differs by what a snapshot doesn't keep, in what refuses an entry
wrong-seen : (e : Entry) (s : State) → wrong_plate e (seen s) ≡ wrong_plate e s
wrong-seen (Admitted k) s = refl
wrong-seen (Reinstated k) s = refl
wrong-seen _ s = refl

pub fact-seen : (why : Refusal) (e : Entry) (s : State) → fact_of why e (seen s) ≡ fact_of why e s
fact-seen refusal.WrongPlate e s = wrong-seen e s
fact-seen _ e s = refl

-- at one place
pub holds-here : (J : List Entry) (f : Fact) (n : ℕ) → Holds f (after (take n J)) → HoldsBetween J f n n
holds-here J f n h m low high = subst (λ k. Holds f (after (take k J))) (omega arith) h

up-to : (m n : ℕ) → m ≤ n + 1 → (m ≤ n) ⊎ (m ≡ n + 1)
up-to m n h = elim (cases_lt n m) [
  | inl less ↦ inr (omega (arith, h, less))
  | inr least ↦ inl least
]

-- one place more
pub holds-more : (J : List Entry) (f : Fact) (low n : ℕ) → HoldsBetween J f low n → Holds f (after (take (n + 1) J))
    → HoldsBetween J f low (n + 1)
holds-more J f low n h last m a b = elim (up-to m n b) [
  | inl before ↦ h m a before
  | inr is ↦ subst (λ k. Holds f (after (take k J))) (sym is) last
]

-- the fact went on to hold
pub since-more : (J : List Entry) (n : ℕ) (f : Fact) (s : Since) → IsSinceOf J n f s → Holds f (after (take (n + 1) J))
    → IsSinceOf J (n + 1) f s
since-more J n f since.Opening h last = holds-more J f 0 n h last
since-more J n f (since.Entry k e) (place, is, within, at, fails, h) last =
    (place, is, omega arith, at, fails, holds-more J f k n h last)
since-more J n f since.Always h last = absurd h

-- what is known of a fact in a state is known of it after the entries that leave the state
pub since-fact : (J : List Entry) (f : Fact) (n : ℕ) (b : Bool) (s : State) → s ≡ seen (after (take n J))
    → (b ≡ true → Holds f s) → (b ≡ false → Holds f s → ⊥)
    → (b ≡ true → Holds f (after (take n J))) × (b ≡ false → Holds f (after (take n J)) → ⊥)
since-fact J f n b s is so not = (
  (λ h. holds-seen f (after (take n J)) (subst (Holds f) is (so h))),
  (λ h k. not h (subst (Holds f) (sym is) (seen-holds f (after (take n J)) k))),
)

-- none of no entries names a plate
pub none-here : (J : List Entry) (k n : ℕ) → NoneNames J k n n
none-here J k n place e low high at names = absurd (omega arith)

none-at : (J : List Entry) (k n place : ℕ) (e f : Entry) → place ≡ n → slice_get J n ≡ Some e
    → slice_get J place ≡ Some f → (NamesPlate k e → ⊥) → NamesPlate k f → ⊥
none-at J k n place e f is at there not names =
    let same : Some e ≡ Some f = sym at ∙ (ap (slice_get J) (sym is) ∙ there) in
    let equal : e ≡ f = cc in
    not (subst (NamesPlate k) (sym equal) names)

before-or-at : (m n : ℕ) → m < n + 1 → (m < n) ⊎ (m ≡ n)
before-or-at m n h = elim (cases_lt m n) [
  | inl less ↦ inl less
  | inr least ↦ inr (omega (arith, h, least))
]

-- nor does one more that doesn't
pub none-more : (J : List Entry) (k low n : ℕ) (e : Entry) → NoneNames J k low n → slice_get J n ≡ Some e
    → (NamesPlate k e → ⊥) → NoneNames J k low (n + 1)
none-more J k low n e none at not place f a b there names = elim (before-or-at place n b) [
  | inl before ↦ none place f a before there names
  | inr is ↦ none-at J k n place e f is at there not names
]

pub last-more : (J : List Entry) (n k : ℕ) (e : Entry) (s : Since) → IsLastOf J n k s → slice_get J n ≡ Some e
    → (NamesPlate k e → ⊥) → IsLastOf J (n + 1) k s
last-more J n k e since.Opening h at not = absurd h
last-more J n k e (since.Entry m f) (place, is, there, names, none) at not =
    (place, is, there, names, none-more J k m n e none at not)
last-more J n k e since.Always none at not = none-more J k 0 n e none at not

-- since when a fact holds that holds after the whole journal
pub since-whole : (J : List Entry) (f : Fact) (n : ℕ) (b : Bool) (s : Since) → n ≡ length J
    → (b ≡ true → IsSinceOf J n f s) → (b ≡ false → Holds f (after (take n J)) → ⊥) → Holds f (after J)
    → IsSinceOf J (length J) f s
since-whole J f n true s is so not h = subst (λ m. IsSinceOf J m f s) is (so refl)
since-whole J f n false s is so not h = absurd (not refl (rw (take_all n J (omega arith)) h))

-- what is known of the fact for which an entry is refused is what is asked
pub since-told : (J : List Entry) (e : Entry) (why : Refusal) (s : Since) (f : Fact) → fact_of why e (after J) ≡ Some f
    → (Holds f (after J) → IsSinceOf J (length J) f s) → IsSince J e why s
since-told J e why s f is h = subst (λ (o : Option Fact). IsSinceFact J e why o s) (sym is) h
