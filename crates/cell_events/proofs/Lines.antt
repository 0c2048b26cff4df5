-- The text of events' rows, one line after the other, and a first part of it
use Rattle.std.proofs.Common.{◌≡◌, ◌<◌, ◌+◌, ◌∙◌, ℕ, List, [], ◌∷◌, ◌++◌, Option, ap, arith, length, length-append, map}
use Rattle.std.proofs.Common.{append_assoc, drop, get_or, refl, subst, sym, take}
use Rattle.std.specs.Prelude.{IfErr, Result, Ok, Err}
use Rattle.std.specs.List.{concat}
use Rattle.std.specs.Io.KnownBytes.{Appends}
use Rattle.std.proofs.Math.Seq.{take-append_seam}
use Rattle.std.proofs.KnownBytes.{Appends-nil, Appends-trans}
use Rattle.std.proofs.lemmas.List.{take-append-le}
use Rattle.cell_rows.specs.Texts.{Row}
use Rattle.cell_rows.specs.Lines.{line, lines_of, rest_of_line}
use Rattle.cell_output.specs.Watched.{WritesPart}
use Rattle.cell_output.proofs.Pieces.{part-after, piece-after, pieces-split}
use Rattle.cell_events.specs.declared.event.Event.{Event}
use Rattle.cell_events.specs.declared.write.EventsError.{EventsError}
use Rattle.cell_events.specs.declared.write.EventsError.TheVariants as error
use Rattle.cell_events.specs.Rows.{header, row}

-- a field and the byte that ends it come behind what there was
pub more : (text old field tail : List ℕ) (end : ℕ) → text ≡ old ++ (field ++ end ∷ [])
    → text ++ tail ≡ old ++ (field ++ end ∷ tail)
more text old field tail end is =
    ap (λ (t : List ℕ). t ++ tail) is ∙ append_assoc old (field ++ end ∷ []) tail
    ∙ ap (λ (t : List ℕ). old ++ t) (append_assoc field (end ∷ []) tail)

-- the line of an event
abbrev pub line_of : Event → List ℕ
line_of v = line (row v)

lines-concat : (vs : List Event) → lines_of (map row vs) ≡ concat (map line_of vs)
unfolding lines_of
lines-concat [] = refl
lines-concat (v ∷ vs) = ap (λ (t : List ℕ). line_of v ++ t) (lines-concat vs)

-- the whole text is the first line, and then the lines of the events
pub text-whole : (vs : List Event) → lines_of (header ∷ map row vs) ≡ line header ++ concat (map line_of vs)
unfolding lines_of
text-whole vs = ap (λ (t : List ℕ). line header ++ t) (lines-concat vs)

pub written-whole : (a b c : Option (List ℕ)) (vs : List Event) → Appends a b (line header)
    → Appends b c (concat (map line_of vs)) → Appends a c (lines_of (header ∷ map row vs))
written-whole a b c vs x y = rw (text-whole vs) (Appends-trans a b c (line header) (concat (map line_of vs)) x y)

-- a part of the first line is a part of the text
pub part-header : (a b : Option (List ℕ)) (vs : List Event) → WritesPart a b (line header)
    → WritesPart a b (lines_of (header ∷ map row vs))
part-header a b vs (n, short, x) = (
  n,
  rw (text-whole vs) (omega (arith, short, length-append (line header) (concat (map line_of vs)))),
  rw (
    text-whole vs,
    take-append-le n (line header) (concat (map line_of vs)) (omega (arith, short)),
  ) x,
)

-- a line has a byte
rest-some : (fields : Row) → 0 < length (rest_of_line fields)
rest-some [] = omega arith
rest-some (f ∷ fs) = omega arith

line-some : (r : Row) → 0 < length (line r)
line-some [] = omega arith
line-some (f ∷ fs) = omega (arith, rest-some fs, length-append f (rest_of_line fs))

-- nothing of the text
pub part-nothing : (a : Option (List ℕ)) (vs : List Event) → WritesPart a a (lines_of (header ∷ map row vs))
part-nothing a vs = (
  0,
  rw (text-whole vs) (omega (arith, length-append (line header) (concat (map line_of vs)))),
  Appends-nil a,
)

-- nothing of what comes next
part-before : (a b : Option (List ℕ)) (done next rest whole : List ℕ) → whole ≡ done ++ (next ++ rest)
    → 0 < length next → Appends a b done → WritesPart a b whole
part-before a b done next rest whole is some x = (
  length done,
  rw is (omega (arith, some, length-append done (next ++ rest), length-append next rest)),
  rw (is, take-append_seam done (next ++ rest)) x,
)

-- the lines before an event's, its own and those after it
text-split : (vs : List Event) (i : ℕ) (v : Event) → i < length vs → v ≡ get_or vs i v
    → lines_of (header ∷ map row vs) ≡ (line header ++ concat (map line_of (take i vs)))
    ++ (line_of v ++ concat (map line_of (drop (i + 1) vs)))
text-split vs i v h is =
    text-whole vs ∙ ap (λ (t : List ℕ). line header ++ t) (pieces-split line_of vs i v h)
    ∙ sym (append_assoc (line header) (concat (map line_of (take i vs))) _)
    ∙ ap (λ (w : Event). (line header ++ concat (map line_of (take i vs)))
    ++ (line_of w ++ concat (map line_of (drop (i + 1) vs)))) (sym is)

-- one event's line more
pub row-more : (a b c : Option (List ℕ)) (vs : List Event) (i : ℕ) (v : Event) → i < length vs → v ≡ get_or vs i v
    → Appends a b (concat (map line_of (take i vs))) → Appends b c (line_of v)
    → Appends a c (concat (map line_of (take (i + 1) vs)))
row-more a b c vs i v h is x y = piece-after a b c line_of vs i v h x (subst (λ (w : Event). Appends b c (line_of w)) is
    y)

-- an error at an event's line: a part of it was written, or nothing where memory was refused
pub part-failed : (a b c d : Option (List ℕ)) (vs : List Event) (i : ℕ) (v : Event) (r : Result (Unit {0}) EventsError)
    (e : EventsError) → r ≡ Err e → i < length vs → v ≡ get_or vs i v → Appends a b (line header)
    → Appends b c (concat (map line_of (take i vs)))
    → (r ≡ Err error.WriteFault → WritesPart c d (line_of v)) → (r ≡ Err error.OutOfMemory → d ≡ c)
    → WritesPart a d (lines_of (header ∷ map row vs))
part-failed a b c d vs i v r error.WriteFault failed h is x y part nothing =
    part-after a c d (line header ++ concat (map line_of (take i vs))) (line_of v) _ _
    (text-split vs i v h is) (Appends-trans a b c _ _ x y) (part failed)
part-failed a b c d vs i v r error.OutOfMemory failed h is x y part nothing =
    rw (nothing failed) (part-before a c (line header ++ concat (map line_of (take i vs))) (line_of v) _ _
    (text-split vs i v h is) (line-some (row v)) (Appends-trans a b c _ _ x y))

-- what holds anyway holds of an error
pub if_err-any : {T E : Type 0} (r : Result T E) (P : Type 0) → P → IfErr r (λ e. P)
if_err-any (Ok x) P p = tt
if_err-any (Err e) P p = p
