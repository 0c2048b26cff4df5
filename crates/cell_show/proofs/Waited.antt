-- What the machines wait for, state after state
use Rattle.std.proofs.Common.{◌≡◌, ◌+◌, ℕ, Bool, true, false, List, [], ◌∷◌, ◌++◌, Option, None, length, get_or, refl}
use Rattle.std.proofs.Common.{sym, ap₂, ◌∙◌, subst, arith, append_assoc}
use Rattle.std.specs.Prelude.{codes}
use Rattle.std.specs.Io.KnownBytes.{Appends}
use Rattle.std.proofs.KnownBytes.{Appends-trans}
use Rattle.cell_types.specs.declared.words.Entry.{Entry}
use Rattle.cell_waits.specs.declared.waiting.Waiting.{Waiting}
use Rattle.cell_show.specs.Rows.{bracketed, with_commas}
use Rattle.cell_show.specs.Waits.{AreNext, IsNext, TellsWaits, WritesNext, WritesWaits, next_cell, nobody, wait_cell}
use Rattle.cell_show.specs.Waits.{waits_after}
use Rattle.cell_show.specs.declared.page.waits.Next.{Next}

-- the cell that is written tells what the machine waits for
pub next_told : (before now : Option Waiting) (next : Next) → (next.is_as_before ≡ true → now ≡ before)
    → next.waiting ≡ now
    → IsNext before now (next_cell next)
next_told before now next same is = go next.is_as_before refl
  where
    go : (b : Bool) → next.is_as_before ≡ b → IsNext before now (next_cell next)
    go true e = rw e (IsNext.as_before (same e))
    go false e = rw e (subst (λ w. IsNext before now (wait_cell w)) (sym is) IsNext.anew)

-- the same of a list's places
pub next_at : (before now before' now' : Option Waiting) (t : List ℕ) → before ≡ before' → now ≡ now'
    → IsNext before now t → IsNext before' now' t
next_at before now before' now' t b n is =
    subst (λ x. IsNext x now' t) b (subst (λ y. IsNext before y t) n is)

-- a list of six machines
six : {X : Type 0} (d : X) (xs : List X) → length xs ≡ 6
    → xs ≡ get_or xs 0 d ∷ get_or xs 1 d ∷ get_or xs 2 d ∷ get_or xs 3 d ∷ get_or xs 4 d ∷ get_or xs 5 d ∷ []
six d [] h = absurd (omega arith)
six d (a ∷ []) h = absurd (omega arith)
six d (a ∷ b ∷ []) h = absurd (omega arith)
six d (a ∷ b ∷ c ∷ []) h = absurd (omega arith)
six d (a ∷ b ∷ c ∷ e ∷ []) h = absurd (omega arith)
six d (a ∷ b ∷ c ∷ e ∷ f ∷ []) h = absurd (omega arith)
six d (a ∷ b ∷ c ∷ e ∷ f ∷ g ∷ []) h = refl
six d (a ∷ b ∷ c ∷ e ∷ f ∷ g ∷ x ∷ xs) h = absurd (omega arith)

-- the cells of six machines, one by one
pub six_next : (b w : List (Option Waiting)) (t0 t1 t2 t3 t4 t5 : List ℕ) → length b ≡ 6 → length w ≡ 6
    → IsNext (get_or b 0 None) (get_or w 0 None) t0 → IsNext (get_or b 1 None) (get_or w 1 None) t1
    → IsNext (get_or b 2 None) (get_or w 2 None) t2 → IsNext (get_or b 3 None) (get_or w 3 None) t3
    → IsNext (get_or b 4 None) (get_or w 4 None) t4 → IsNext (get_or b 5 None) (get_or w 5 None) t5
    → AreNext b w (t0 ∷ t1 ∷ t2 ∷ t3 ∷ t4 ∷ t5 ∷ [])
six_next b w t0 t1 t2 t3 t4 t5 hb hw n0 n1 n2 n3 n4 n5 =
    let ts = t0 ∷ t1 ∷ t2 ∷ t3 ∷ t4 ∷ t5 ∷ [] in
    let bs = six None b hb in
    let ws = six None w hw in
    subst (λ v. AreNext v w ts) (sym bs)
    (subst (λ v. AreNext (get_or b 0 None ∷ get_or b 1 None ∷ get_or b 2 None ∷ get_or b 3 None ∷ get_or b 4 None
    ∷ get_or b 5 None ∷ []) v ts) (sym ws) (n0, (n1, (n2, (n3, (n4, (n5, tt)))))))

-- what is waited for, where the entries and their number are known
pub waits_at : (J K : List Entry) (i j : ℕ) (now : List (Option Waiting)) → now ≡ waits_after J i → J ≡ K → i ≡ j
    → now ≡ waits_after K j
waits_at J K i j now is same at = is ∙ ap₂ waits_after same at

-- the lists so far were written
pub record SoFar (old new : Option (List ℕ)) (J : List Entry) (from count : ℕ) : Type 0 where
  pub lists : List ℕ
  pub told : TellsWaits J from count lists
  pub whole : Appends old new (codes "\"waits\":[\n" ++ lists)

-- the first list
pub first_list : (J : List Entry) (from : ℕ) (c0 c1 c2 : Option (List ℕ)) (now : List (Option Waiting))
    → now ≡ waits_after J from → Appends c0 c1 (codes "\"waits\":[\n") → WritesNext c1 c2 nobody now
    → SoFar c0 c2 J from 0
first_list J from c0 c1 c2 now is start list =
    record {
      lists = bracketed (with_commas list.cells);
      told = TellsWaits.first list.cells (subst (λ w. AreNext nobody w list.cells) is list.next);
      whole = Appends-trans c0 c1 c2 _ _ start list.whole;
    }

-- one more list
pub list_more : (J : List Entry) (from n : ℕ) (c0 c1 c2 c3 : Option (List ℕ)) (before now : List (Option Waiting))
    → before ≡ waits_after J (from + n) → now ≡ waits_after J (from + n + 1) → SoFar c0 c1 J from n
    → Appends c1 c2 (codes ",\n") → WritesNext c2 c3 before now → SoFar c0 c3 J from (n + 1)
list_more J from n c0 c1 c2 c3 before now was is so_far comma list =
    let cells = list.cells in
    let next : AreNext (waits_after J (from + n)) (waits_after J (from + n + 1)) cells =
    subst (λ w. AreNext w (waits_after J (from + n + 1)) cells) was
    (subst (λ w. AreNext before w cells) is list.next) in
    let line = codes ",\n" ++ bracketed (with_commas cells) in
    let both : Appends c1 c3 line = Appends-trans c1 c2 c3 _ _ comma list.whole in
    let all : Appends c0 c3 ((codes "\"waits\":[\n" ++ so_far.lists) ++ line) =
    Appends-trans c0 c1 c3 _ _ so_far.whole both in
    record {
      lists = so_far.lists ++ line;
      told = TellsWaits.more n so_far.lists cells so_far.told next;
      whole = subst (Appends c0 c3) (append_assoc (codes "\"waits\":[\n") so_far.lists line) all;
    }

-- all lists
pub lists_whole : (J : List Entry) (from n : ℕ) (c0 c1 c2 : Option (List ℕ)) → SoFar c0 c1 J from n
    → Appends c1 c2 (codes "\n],\n") → WritesWaits c0 c2 J from n
lists_whole J from n c0 c1 c2 so_far end =
    let all : Appends c0 c2 ((codes "\"waits\":[\n" ++ so_far.lists) ++ codes "\n],\n") =
    Appends-trans c0 c1 c2 _ _ so_far.whole end in
    record {
      lists = so_far.lists;
      told = so_far.told;
      whole = subst (Appends c0 c2) (append_assoc (codes "\"waits\":[\n") so_far.lists (codes "\n],\n")) all;
    }
