-- What the lines of a text give, line by line
use Rattle.std.proofs.Common.{◌≡◌, ◌∙◌, ◌≤◌, ◌<◌, ◌==◌, ◌&&◌, ◌^◌, ◌-◌, ◌+◌, ◌⊎◌, ℕ, inl, inr, List, [], ◌∷◌, ◌++◌}
use Rattle.std.proofs.Common.{length, Bool, true, false, not, Option, Some, None, if◌then◌else◌, ap, sym, refl, subst}
use Rattle.std.proofs.Common.{arith, rules, tests, append_assoc, append-nil}
use Rattle.std.specs.Prelude.{option_map, ⊤}
use Rattle.std.specs.List.{list_all}
use Rattle.std.specs.Io.KnownBytes.{Consumes}
use Rattle.std.proofs.lemmas.Bool.{ltb-true, ltb-false}
use Rattle.std.proofs.KnownBytes.{Consumes-nil, Consumes-trans}
use Rattle.std.proofs.lemmas.List.{take_all, length-append}
use Rattle.line_reader.specs.Split.{record_of}
use Rattle.line_reader.specs.Lines.{EndsLine, HoldsLine, IsEndless, Row, TakesLine, given, is_blank, is_within}
use Rattle.line_reader.specs.Lines.{lines_after, lines_of, row_of, without_return}
use Rattle.line_reader.proofs.Holding.{return-length}

-- lines that are known stay as they were
abbrev pub KeepsLines : Option (List (Option Row)) → Option (List (Option Row)) → Type 0
KeepsLines None new = ⊤
KeepsLines (Some xs) None = ⊥
KeepsLines (Some xs) (Some ys) = ys ≡ xs

-- a byte within a line is no line feed
within-first : (b : ℕ) (line : List ℕ) → list_all is_within (b ∷ line) ≡ true
    → ((b == 10) ≡ false) × (list_all is_within line ≡ true)
within-first b line = elim (b == 10) as (λ v. ((if v then false else true) && list_all is_within line) ≡ true
    → (v ≡ false) × (list_all is_within line ≡ true)) [ true ↦ λ h. search (rules, tests) | false ↦ λ h. (refl, h) ]

lines-byte : (line : List ℕ) (b : ℕ) (rest : List ℕ) → (b == 10) ≡ false
    → lines_after line (b ∷ rest) ≡ lines_after (line ++ b ∷ []) rest
unfolding lines_after
lines-byte line b rest e = rw e refl

lines-feed : (line rest : List ℕ) → lines_after line (10 ∷ rest) ≡ given line ++ lines_after [] rest
unfolding lines_after
lines-feed line rest = refl

lines-last : (line : List ℕ) → lines_after line [] ≡ given line
unfolding lines_after
lines-last line = refl

-- a line and its line feed
pub lines-ended : (before line rest : List ℕ) → list_all is_within line ≡ true
    → lines_after before (line ++ 10 ∷ rest) ≡ given (before ++ line) ++ lines_after [] rest
lines-ended before [] rest w = lines-feed before rest
    ∙ ap (λ xs. given xs ++ lines_after [] rest) (sym (append-nil before))
lines-ended before (b ∷ line) rest w =
    let (other, more) = within-first b line w in
    lines-byte before b (line ++ 10 ∷ rest) other ∙ lines-ended (before ++ b ∷ []) line rest more
    ∙ ap (λ xs. given xs ++ lines_after [] rest) (append_assoc before (b ∷ []) line)

-- a line at the end of a text
pub lines-end : (before line : List ℕ) → list_all is_within line ≡ true
    → lines_after before line ≡ given (before ++ line)
lines-end before [] w = lines-last before ∙ ap given (sym (append-nil before))
lines-end before (b ∷ line) w =
    let (other, more) = within-first b line w in
    lines-byte before b line other ∙ lines-end (before ++ b ∷ []) line more
    ∙ ap given (append_assoc before (b ∷ []) line)

given-record : (line : List ℕ) → is_blank line ≡ false → given line ≡ row_of line ∷ []
given-record line e = rw e refl

given-nothing : (line : List ℕ) → is_blank line ≡ true → given line ≡ []
given-nothing line e = rw e refl

-- a text that was read up to the end of its first line
first-line : (old new line : List ℕ) (ended : Bool) → list_all is_within line ≡ true
    → EndsLine (Some old) (Some new) line ended → lines_of old ≡ given line ++ lines_of new
first-line old new line true w (taken, done) =
    ap lines_of (taken ∙ ap (λ xs. line ++ xs) done ∙ append-nil line) ∙ lines-end [] line w
    ∙ sym (append-nil (given line)) ∙ ap (λ xs. given line ++ xs) (sym (lines-last []))
    ∙ ap (λ xs. given line ++ lines_of xs) (sym done)
first-line old new line false w taken = ap lines_of (taken ∙ append_assoc line (10 ∷ []) new)
    ∙ lines-ended [] line new w

-- the line isn't blank, so it is the first of those that are left
pub line-found : (old new : Option (List ℕ)) (line : List ℕ) (ended : Bool) (record_now : Option Row)
    → list_all is_within line ≡ true → EndsLine old new line ended
    → is_blank line ≡ false → record_now ≡ row_of line
    → TakesLine (option_map lines_of old) (option_map lines_of new) record_now true
line-found None new line ended r w ends full is = tt
line-found (Some old) None line true r w ends full is = absurd ends.0
line-found (Some old) None line false r w ends full is = absurd ends
line-found (Some old) (Some new) line ended r w ends full is =
    first-line old new line ended w ends ∙ ap (λ xs. xs ++ lines_of new) (given-record line full)
    ∙ ap (λ x. x ∷ lines_of new) (sym is)

-- a blank line gives none, so those that are left are the same
pub line-passed : (all old new : Option (List ℕ)) (line : List ℕ) → list_all is_within line ≡ true
    → EndsLine old new line false → is_blank line ≡ true
    → KeepsLines (option_map lines_of all) (option_map lines_of old)
    → KeepsLines (option_map lines_of all) (option_map lines_of new)
line-passed None old new line w ends blank kept = tt
line-passed (Some all) None new line w ends blank kept = absurd kept
line-passed (Some all) (Some old) None line w ends blank kept = absurd ends
line-passed (Some all) (Some old) (Some new) line w ends blank kept =
    sym (first-line old new line false w ends ∙ ap (λ xs. xs ++ lines_of new) (given-nothing line blank)) ∙ kept

-- the text ended with a blank line, which gives none
pub none-left : (all old new : Option (List ℕ)) (line : List ℕ) (record_now : Option Row)
    → list_all is_within line ≡ true → EndsLine old new line true → is_blank line ≡ true
    → KeepsLines (option_map lines_of all) (option_map lines_of old)
    → TakesLine (option_map lines_of all) (option_map lines_of new) record_now false
none-left None old new line r w ends blank kept = tt
none-left (Some all) None new line r w ends blank kept = absurd kept
none-left (Some all) (Some old) None line r w ends blank kept = absurd ends.0
none-left (Some all) (Some old) (Some new) line r w ends blank kept =
    let left = ap lines_of ends.1 ∙ lines-last [] in (
      sym kept ∙ first-line old new line true w ends ∙ ap (λ xs. xs ++ lines_of new) (given-nothing line blank)
          ∙ left,
      left,
    )

-- only blank lines were passed, so the line is the first of the earlier ones too
pub taken-after : (all old new : Option (List (Option Row))) (record_now : Option Row) → KeepsLines all old
    → TakesLine old new record_now true → TakesLine all new record_now true
taken-after None old new r kept takes = tt
taken-after (Some all) None new r kept takes = absurd kept
taken-after (Some all) (Some old) None r kept takes = absurd takes
taken-after (Some all) (Some old) (Some new) r kept takes = sym kept ∙ takes

pub keeps-itself : (all : Option (List (Option Row))) → KeepsLines all all
keeps-itself None = tt
keeps-itself (Some all) = refl

-- the record of a line whose first bytes are held
pub held-record : (items : List ℕ) (long : Bool) (line : List ℕ) → HoldsLine items long line
    → (if long then None else record_of (without_return items)) ≡ row_of line
held-record items true line h = ap (λ v. if v then None else record_of (without_return line)) h.long
held-record items false line h =
    let few : length line ≤ 128 = ltb-false 128 (length line) (sym h.long) in
    ap (λ xs. record_of (without_return xs)) (h.first ∙ take_all 128 line few)
    ∙ ap (λ v. if v then None else record_of (without_return line)) h.long

-- whether such a line is blank
pub held-blank : (items : List ℕ) (long : Bool) (line : List ℕ) → HoldsLine items long line
    → (not long && is_blank items) ≡ is_blank line
held-blank items true line h =
    let many : 128 < length line = ltb-true 128 (length line) (sym h.long) in
    let some : 0 < length (without_return line) = omega (arith, return-length line, many) in
    search (rules, tests)
held-blank items false line h =
    let few : length line ≤ 128 = ltb-false 128 (length line) (sym h.long) in
    ap is_blank (h.first ∙ take_all 128 line few)

pub taken-same : (a b c : Option (List ℕ)) (bs : List ℕ) → c ≡ b → Consumes a b bs → Consumes a c bs
taken-same a b c bs e h = subst (λ x. Consumes a x bs) (sym e) h

-- a line with one more byte
pub one-longer : (line : List ℕ) (b n : ℕ) → length line ≡ n → length (line ++ b ∷ []) ≡ n + 1
one-longer line b n h = length-append line (b ∷ []) ∙ omega (arith, h)

-- bytes of which there are as many as these were read
pub record ReadsSome (old new : Option (List ℕ)) (count : ℕ) : Type 0 where
  pub text : List ℕ
  pub taken : Consumes old new text
  pub many : count ≤ length text

pub none-read : (a : Option (List ℕ)) → ReadsSome a a 0
none-read a = record { text = []; taken = Consumes-nil a; many = omega arith }

-- one more line, and its line feed
pub read-more : (a b c : Option (List ℕ)) (count : ℕ) (line : List ℕ) → ReadsSome a b count → EndsLine b c line false
    → ReadsSome a c (count + 1)
read-more a b c count line r ends = record {
  text = r.text ++ (line ++ 10 ∷ []);
  taken = Consumes-trans a b c _ _ r.taken ends;
  many = omega (arith, r.many, length-append r.text (line ++ 10 ∷ []), length-append line (10 ∷ []));
}

endless-after : (a b c : Option (List ℕ)) (count : ℕ) → ReadsSome a b count → IsEndless b c → IsEndless a c
endless-after a b c count r (text, taken, many) =
    (r.text ++ text, Consumes-trans a b c _ _ r.taken taken, omega (arith, many, length-append r.text text))

-- a text longer than any count can tell is taken to be endless
pub endless-read : (a b : Option (List ℕ)) (count : ℕ) → 2 ^ 64 - 1 ≤ count → ReadsSome a b count → IsEndless a b
endless-read a b count much r = (r.text, r.taken, omega (arith, much, r.many))

-- a fault after these bytes
pub fault-after : {F : Type 0} (a b c : Option (List ℕ)) (count : ℕ) → ReadsSome a b count → F ⊎ IsEndless b c
    → F ⊎ IsEndless a c
fault-after a b c count r (inl failed) = inl failed
fault-after a b c count r (inr endless) = inr (endless-after a b c count r endless)
