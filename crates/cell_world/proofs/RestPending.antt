-- A reading that agrees gives no verdict
use Rattle.std.proofs.Common.{◌≡◌, ℕ, Bool, true, false, ◌&&◌, List, [], ◌∷◌, ◌++◌, refl, sym, ap, ◌∙◌, get_or}
use Rattle.cell_diagnosis.specs.declared.rest_facts.RestFacts.{RestFacts}
use Rattle.cell_diagnosis.specs.declared.verdict.Verdict.TheVariants.{Pending}
use Rattle.cell_diagnosis.specs.Ends.{last_are}
use Rattle.cell_diagnosis.specs.RestFacts.{Noted, is_unread, agrees, disagrees, shows_several_at, is_lost, is_strange}
use Rattle.cell_diagnosis.specs.RestFacts.{of_three, rest_facts_of}
use Rattle.cell_diagnosis.specs.RestRules.{is_silent_at_rest, axis_fault, is_plate_lost, is_plate_strange}
use Rattle.cell_diagnosis.specs.RestRules.{plate_fault, judged_at_rest, rest}
use Rattle.cell_diagnosis.proofs.EndLaws.{two_snoc, three_snoc}
use Rattle.cell_diagnosis.proofs.VerdictLaws.{after_snoc}
use Rattle.cell_diagnosis.proofs.RestAgrees.{quiet, agreeing_facts}
use Rattle.cell_world.specs.Tied.{AgreesIsPending}

and_false : (b : Bool) → (b && false) ≡ false
and_false true = refl
and_false false = refl

two_end : (p : Noted → Bool) (L : List Noted) (n : Noted) → p n ≡ false → last_are 2 p (L ++ n ∷ []) ≡ false
two_end p L n h = two_snoc p L n ∙ (ap (λ b. last_are 1 p L && b) h ∙ and_false _)

three_end : (p : Noted → Bool) (L : List Noted) (n : Noted) → p n ≡ false → last_are 3 p (L ++ n ∷ []) ≡ false
three_end p L n h = three_snoc p L n ∙ (ap (λ b. last_are 2 p L && b) h ∙ and_false _)

fact : {X : Type 0} (of : RestFacts → X) (n : Noted) → agrees n ≡ true
    → of (rest_facts_of n) ≡ of (quiet (of_three (λ j. shows_several_at j n)))
fact of n a = sym (ap of (agreeing_facts n a))

axis_end : (j : ℕ) (L : List Noted) (n : Noted) → disagrees j n ≡ false → axis_fault j (L ++ n ∷ []) ≡ Pending
unfolding axis_fault
axis_end j L n h = let e = two_end (disagrees j) L n h in rw e refl

plate_end : (L : List Noted) (n : Noted) → is_lost 0 n ≡ false → is_lost 1 n ≡ false → is_lost 2 n ≡ false
    → is_strange 0 n ≡ false → is_strange 1 n ≡ false → is_strange 2 n ≡ false → plate_fault (L ++ n ∷ []) ≡ Pending
unfolding plate_fault is_plate_lost is_plate_strange
plate_end L n a b c d e f =
    let a' = two_end (is_lost 0) L n a in let b' = two_end (is_lost 1) L n b in let c' = two_end (is_lost 2) L n c in
    let d' = two_end (is_strange 0) L n d in let e' = two_end (is_strange 1) L n e in
    let f' = two_end (is_strange 2) L n f in
    rw (a', b', c', d', e', f') refl

judged_end : (L : List Noted) (n : Noted) → agrees n ≡ true → judged_at_rest (L ++ n ∷ []) ≡ Pending
unfolding judged_at_rest is_silent_at_rest
judged_end L n a =
    let u = three_end is_unread L n (fact (λ f. f.missing) n a) in
    let x = axis_end 0 L n (fact (λ f. get_or f.disagrees 0 false) n a) in
    let y = axis_end 1 L n (fact (λ f. get_or f.disagrees 1 false) n a) in
    let z = axis_end 2 L n (fact (λ f. get_or f.disagrees 2 false) n a) in
    let v = plate_end L n (fact (λ f. get_or f.lost 0 false) n a) (fact (λ f. get_or f.lost 1 false) n a)
    (fact (λ f. get_or f.lost 2 false) n a) (fact (λ f. get_or f.strange 0 false) n a)
    (fact (λ f. get_or f.strange 1 false) n a) (fact (λ f. get_or f.strange 2 false) n a) in
    rw (u, x, y, z, v) refl

pub agrees_pending : AgreesIsPending
unfolding rest
agrees_pending L n h a = after_snoc judged_at_rest [] L n ∙ (let j = judged_end L n a in rw (h, j) refl)
