-- The records of a script, read one after the other, and what the answer says of them
use Rattle.std.proofs.Common.{inl, inr, ◌⊎◌, ℕ, ◌≡◌, ◌≢◌, ◌<◌, ◌≤◌, ◌+◌, ◌∙◌, List, [], ◌∷◌, ◌++◌, length, Option, Some}
use Rattle.std.proofs.Common.{None, Result, Ok, Err, Bool, true, false, refl, ap, arith, append_assoc, append-nil}
use Rattle.std.proofs.Common.{length-append}
use Rattle.std.specs.Prelude.{nat_lt, if◌then◌else◌, IfSome, IsErrOf, IsSome}
use Rattle.cell_rows.specs.Fitting.{BeginsUnfit, Fits}
use borrow.Author.Tests.{lt-ltb, le-ltb, ltb-true, ltb-false}
use Rattle.cell_rows.specs.Rows.{Row, TakesRow}
use Rattle.cell_rows.specs.Scripts.{AreLines, FitLines, Gives, Means, Reading, line_of_row, lines_after, lines_of}
use Rattle.cell_rows.specs.Scripts.{with_line}
use Rattle.cell_rows.specs.declared.script.LineError.{LineError}
use Rattle.cell_rows.specs.declared.script.LineError.TheVariants as error
use Rattle.cell_rows.specs.declared.rows.RowError.{RowError}
use Rattle.cell_rows.specs.declared.rows.RowError.TheVariants as stop

-- a record of other than four fields
pub other-row : {L : Type 0} (read : Reading L) (lines : List L) (r : Row) → length r ≢ 4
    → line_of_row read lines r ≡ None
other-row read lines [] h = refl
other-row read lines (a ∷ []) h = refl
other-row read lines (a ∷ b ∷ []) h = refl
other-row read lines (a ∷ b ∷ c ∷ []) h = refl
other-row read lines (a ∷ b ∷ c ∷ d ∷ []) h = absurd (h refl)
other-row read lines (a ∷ b ∷ c ∷ d ∷ e ∷ r) h = refl

-- what is due for the records that a reader had is what is due after these lines for those that it has left
abbrev pub StillDue : {L : Type 0} → Reading L → Option (List Row) → Option (List Row) → List L → Type 0
StillDue read None now lines = Unit {0}
StillDue read (Some all) None lines = ⊥
StillDue read (Some all) (Some rest) lines = lines_of read all ≡ lines_after read lines rest

-- no record left
pub due-end : {L : Type 0} (read : Reading L) (all : List Row) (old new : Option (List Row)) (row : Row)
    (lines : List L) → StillDue read (Some all) old lines → (found : Bool) → found ≡ false → TakesRow old new row found
    → lines_of read all ≡ Ok lines
unfolding lines_after
due-end read all None new row lines d b p t = absurd d
due-end read all (Some rest) None row lines d b p t = absurd t
due-end read all (Some rest) (Some left) row lines d b p t = let u = rw p at t in d ∙ rw u refl

-- one line more
pub due-more : {L : Type 0} (read : Reading L) (all : List Row) (old new : Option (List Row)) (row : Row)
    (lines : List L) (line : L) → StillDue read (Some all) old lines → (found : Bool) → found ≡ true
    → TakesRow old new row found → length lines < 1000 → line_of_row read lines row ≡ Some line
    → StillDue read (Some all) new (lines ++ line ∷ [])
unfolding lines_after
due-more read all None new row lines line d b p t n r = absurd d
due-more read all (Some rest) None row lines line d b p t n r = absurd t
due-more read all (Some rest) (Some left) row lines line d b p t n r = let u =
    rw p at t in let k : nat_lt (length lines) 1000 ≡ true = lt-ltb _ _ n in d ∙ rw (u, k, r) refl

-- a record that is no line
pub due-unread : {L : Type 0} (read : Reading L) (all : List Row) (old new : Option (List Row)) (row : Row)
    (lines : List L) → StillDue read (Some all) old lines → (found : Bool) → found ≡ true
    → TakesRow old new row found → length lines < 1000 → line_of_row read lines row ≡ None
    → lines_of read all ≡ Err (error.Unreadable (length lines + 1))
unfolding lines_after
due-unread read all None new row lines d b p t n r = absurd d
due-unread read all (Some rest) None row lines d b p t n r = absurd t
due-unread read all (Some rest) (Some left) row lines d b p t n r = let u =
    rw p at t in let k : nat_lt (length lines) 1000 ≡ true = lt-ltb _ _ n in d ∙ rw (u, k, r) refl

-- a record beyond the most
pub due-many : {L : Type 0} (read : Reading L) (all : List Row) (old new : Option (List Row)) (row : Row)
    (lines : List L) → StillDue read (Some all) old lines → (found : Bool) → found ≡ true
    → TakesRow old new row found → 1000 ≤ length lines → lines_of read all ≡ Err error.TooManyLines
unfolding lines_after
due-many read all None new row lines d b p t n = absurd d
due-many read all (Some rest) None row lines d b p t n = absurd t
due-many read all (Some rest) (Some left) row lines d b p t n = let u = rw p at t in let k : nat_lt (length lines) 1000
    ≡ false = le-ltb _ _ n in d ∙ rw (u, k) refl

-- a record that doesn't fit is no line
unfit_unread : {L : Type 0} (read : Reading L) (lines : List L) (row : Row) → FitLines read → ¬ (Fits row)
    → line_of_row read lines row ≡ None
unfit_unread read lines [] law bad = refl
unfit_unread read lines (a ∷ []) law bad = refl
unfit_unread read lines (a ∷ b ∷ []) law bad = refl
unfit_unread read lines (a ∷ b ∷ c ∷ []) law bad = refl
unfit_unread {L} read lines (a ∷ b ∷ c ∷ d ∷ []) law bad = by (read lines a b c d) (law lines a b c d)
  where
    by : (o : Option L) → (IsSome o → Fits (a ∷ b ∷ c ∷ d ∷ [])) → o ≡ None
    by None h = refl
    by (Some line) h = absurd (bad (h refl))
unfit_unread read lines (a ∷ b ∷ c ∷ d ∷ e ∷ r) law bad = refl

-- a record that is given up early gets the answer that it would get if it were read whole
pub due-unfit : {L : Type 0} (read : Reading L) (all : List Row) (old : Option (List Row)) (lines : List L)
    → FitLines read → StillDue read (Some all) old lines
    → IfSome old BeginsUnfit → length lines < 1000 → lines_of read all ≡ Err (error.Unreadable (length lines + 1))
due-unfit read all None lines law d u n = absurd d
due-unfit read all (Some rest) lines law d (row, left, is, bad) n =
    due-unread read all (Some rest) (Some left) row lines d true refl is n (unfit_unread read lines row law bad)

-- once there are the most lines, any record more gets the same answer, whether it fits or not
pub due-unfit-many : {L : Type 0} (read : Reading L) (all : List Row) (old : Option (List Row)) (lines : List L)
    → StillDue read (Some all) old lines
    → IfSome old BeginsUnfit → 1000 ≤ length lines → lines_of read all ≡ Err error.TooManyLines
due-unfit-many read all None lines d u n = absurd d
due-unfit-many read all (Some rest) lines d (row, left, is, bad) n =
    due-many read all (Some rest) (Some left) row lines d true refl is n

-- the answer where no record came
pub due-stopped : {L : Type 0} (read : Reading L) (all : List Row) (old : Option (List Row)) (lines : List L)
    (place : ℕ) (why : RowError) (answer : LineError)
    → FitLines read → StillDue read (Some all) old lines
    → (IsErrOf {T = Bool} (Err why) stop.Unfit → IfSome old BeginsUnfit) → length lines ≡ place → place ≤ 1000
    → (why ≡ stop.Unfit → place < 1000 → answer ≡ error.Unreadable (place + 1))
    → (why ≡ stop.Unfit → place ≡ 1000 → answer ≡ error.TooManyLines)
    → (why ≢ stop.Unfit → answer ≡ error.OutOfMemory) → (answer ≡ error.OutOfMemory) ⊎ (lines_of read all ≡ Err answer)
due-stopped read all old lines place stop.ReadFault answer law d u count few unread many memory =
    inl (memory (λ e. cc e))
due-stopped read all old lines place stop.OutOfMemory answer law d u count few unread many memory =
    inl (memory (λ e. cc e))
due-stopped read all old lines place stop.Unfit answer law d u count few unread many memory =
    inr (by (nat_lt place 1000) refl)
  where
    by : (b : Bool) → nat_lt place 1000 ≡ b → lines_of read all ≡ Err answer
    by true t =
        let short : place < 1000 = ltb-true _ _ t in
        rw (unread refl short, ← count) (due-unfit read all old lines law d (u refl) (rw count short))
    by false t =
        let most : 1000 ≤ place = ltb-false _ _ t in
        rw (many refl (omega (arith, most, few))) (due-unfit-many read all old lines d (u refl) (rw count most))

-- an answer that is due, or want of memory
pub gives-stopped : {X : Type 0} (due : Result X LineError) (answer : LineError) → (answer ≡ error.OutOfMemory)
    ⊎ (due ≡ Err answer) → Gives {X = X} (Err answer) due
gives-stopped due answer (inl e) = rw e tt
gives-stopped due (error.Unreadable place) (inr e) = e
gives-stopped due error.TooManyLines (inr e) = e
gives-stopped due error.OutOfMemory (inr e) = tt

-- what the answer after some lines says of the records that are left
abbrev AfterMeans : {L : Type 0} → Reading L → List L → List Row → Result (List L) LineError → Type 0
AfterMeans {L} read done rows (Ok lines) = (more : List L) × AreLines read done rows more × (done ++ more ≡ lines)
    × (length lines ≤ 1000)
AfterMeans {L} read done rows (Err (error.Unreadable place)) = (before : List Row) × (row : Row) × (rest : List Row)
    × (more : List L)
    × (rows ≡ before ++ row ∷ rest) × AreLines read done before more × (line_of_row read (done ++ more) row ≡ None)
    × (length (done ++ more) + 1 ≡ place) × (place ≤ 1000)
AfterMeans {L} read done rows (Err error.TooManyLines) = (before : List Row) × (row : Row) × (rest : List Row)
    × (more : List L)
    × (rows ≡ before ++ row ∷ rest) × AreLines read done before more × (length (done ++ more) ≡ 1000)
AfterMeans read done rows (Err error.OutOfMemory) = Unit {0}

-- one line before the rest
before : {L : Type 0} (read : Reading L) (done : List L) (row : Row) (line : L) (rows : List Row)
    (r : Result (List L) LineError) → line_of_row read done row ≡ Some line
    → AfterMeans read (done ++ line ∷ []) rows r → AfterMeans read done (row ∷ rows) r
before read done row line rows (Ok lines) h (more, are, all, few) = (line ∷ more, (h, are), rw append_assoc at all, few)
before read done row line rows (Err (error.Unreadable place)) h (first, x, rest, more, is, are, none, at, few) =
    (row ∷ first, x, rest, line ∷ more, rw is refl, (h, are), rw append_assoc at none, rw append_assoc at at, few)
before read done row line rows (Err error.TooManyLines) h (first, x, rest, more, is, are, many) =
    (row ∷ first, x, rest, line ∷ more, rw is refl, (h, are), rw append_assoc at many)
before read done row line rows (Err error.OutOfMemory) h k = tt

-- the answer is found record by record, and each line is put before what is said of the rest
after-means : {L : Type 0} (read : Reading L) (done : List L) (rows : List Row) → length done ≤ 1000
    → AfterMeans read done rows (lines_after read done rows)
unfolding lines_after
after-means read done [] few = ([], tt, append-nil done, few)
after-means {L} read done (row ∷ rest) few = at_test (λ line short. after-means read (done ++ line ∷ []) rest short)
    (nat_lt (length done) 1000) refl
  where
    at_line : ((line : L) → length (done ++ line ∷ []) ≤ 1000
        → AfterMeans read (done ++ line ∷ []) rest (lines_after read (done ++ line ∷ []) rest)) → length done < 1000
        → (o : Option L) → line_of_row read done row ≡ o
        → AfterMeans read done (row ∷ rest) (with_line (length done + 1) o
        (λ line. lines_after read (done ++ line ∷ []) rest))
    at_line go less None none = (
      [],
      row,
      rest,
      [],
      refl,
      tt,
      rw append-nil none,
      ap (λ (x : List L). length x + 1)
          (append-nil done),
      omega (arith, less),
    )
    at_line go less (Some line) some =
        before read done row line rest (lines_after read (done ++ line ∷ []) rest) some
        (go line (omega (arith, less, length-append done (line ∷ []))))

    at_test : ((line : L) → length (done ++ line ∷ []) ≤ 1000
        → AfterMeans read (done ++ line ∷ []) rest (lines_after read (done ++ line ∷ []) rest)) → (b : Bool)
        → nat_lt (length done) 1000 ≡ b
        → AfterMeans read done (row ∷ rest) (if b then with_line (length done + 1) (line_of_row read done row)
        (λ line. lines_after read (done ++ line ∷ []) rest) else Err error.TooManyLines)
    at_test go true t = at_line go (ltb-true _ _ t) (line_of_row read done row) refl
    at_test go false t =
        let more : 1000 ≤ length done = ltb-false _ _ t in
        let all : length done ≡ 1000 = omega (arith, more, few) in
        ([], row, rest, [], refl, tt, ap length (append-nil done) ∙ all)

means-start : {L : Type 0} (read : Reading L) (rows : List Row) (r : Result (List L) LineError)
    → AfterMeans read [] rows r → Means read rows r
means-start read rows (Ok lines) (more, are, all, few) = (rw (← all) are, few)
means-start read rows (Err (error.Unreadable place)) h = h
means-start read rows (Err error.TooManyLines) h = h
means-start read rows (Err error.OutOfMemory) h = tt

-- an answer that is due says what it means
pub due-means : {L : Type 0} (read : Reading L) (rows : List Row) (r : Result (List L) LineError)
    → lines_of read rows ≡ r → Means read rows r
due-means read rows r h = rw h at (means-start read rows (lines_of read rows) (after-means read [] rows (omega arith)))

-- want of memory says nothing of the records, and any other answer is the one that is due
pub means-stopped : {L : Type 0} (read : Reading L) (rows : List Row) (answer : LineError)
    → (answer ≡ error.OutOfMemory) ⊎ (lines_of read rows ≡ Err answer) → Means read rows (Err answer)
means-stopped read rows answer (inl e) = rw e tt
means-stopped read rows answer (inr e) = due-means read rows (Err answer) e
