-- A healthy machine can always be declared failed
use Rattle.std.proofs.Common.{◌≡◌, ℕ, ◌+◌, ◌≤◌, ◌<◌, Bool, true, false, cond, List, [], ◌∷◌, ◌++◌, length, None, refl}
use Rattle.std.proofs.Common.{◌∙◌, arith, length-append}
use Rattle.std.specs.Prelude.{Result, Ok, Err, OnErr, nat_le, unwrap_or, if◌then◌else◌}
use Rattle.std.specs.Result.{IsOk}
use Rattle.cell_rules.specs.Last.{when}
use Rattle.std.proofs.lemmas.Bool.Decides.{nat_tests}
use Rattle.cell_types.specs.declared.words.Machine.{Machine}
use Rattle.cell_types.specs.declared.words.Cause.{Cause}
use Rattle.cell_types.specs.declared.words.Entry.{Entry}
use Rattle.cell_types.specs.declared.words.Entry.TheVariants.{Declared}
use Rattle.cell_types.specs.Same.{same_machine}
use Rattle.cell_rules.specs.Views.{fails, is_failed, is_quarantined}
use Rattle.cell_rules.specs.Situations.{situation_of}
use Rattle.cell_rules.specs.declared.limits.BookLimits.{BookLimits}
use Rattle.cell_rules.specs.First.{first, first_true, tests}
use Rattle.cell_rules.specs.Legal.{legal, DeclaresHealthy, first_of}
use Rattle.cell_rules.proofs.Safe.Facts.{none_refused, is_none_tells}
use Rattle.cell_rules.proofs.Safe.Views.{view_snoc}
use Rattle.cell_rules.proofs.Safe.Bridge.{along}
use Rattle.cell_rules.proofs.Places.{full_not}

-- how many machines a test holds of
abbrev machines_that : (Machine → Bool) → ℕ
machines_that f = cond (f Machine.Feed) 1 0 + cond (f Machine.Table) 1 0 + cond (f Machine.Robot) 1 0 + cond
    (f Machine.Press1) 1 0 + cond (f Machine.Press2) 1 0 + cond (f Machine.Deposit) 1 0

-- one more machine
one_more : (f g : Machine → Bool) (m : Machine) → f m ≡ false
    → ((n : Machine) → g n ≡ (if same_machine m n then true else f n)) → machines_that g ≡ machines_that f + 1
one_more f g Machine.Feed e h = rw (
  h Machine.Feed,
  h Machine.Table,
  h Machine.Robot,
  h Machine.Press1,
  h Machine.Press2,
  h Machine.Deposit,
  e,
) (omega arith)
one_more f g Machine.Table e h = rw (
  h Machine.Feed,
  h Machine.Table,
  h Machine.Robot,
  h Machine.Press1,
  h Machine.Press2,
  h Machine.Deposit,
  e,
) (omega arith)
one_more f g Machine.Robot e h = rw (
  h Machine.Feed,
  h Machine.Table,
  h Machine.Robot,
  h Machine.Press1,
  h Machine.Press2,
  h Machine.Deposit,
  e,
) (omega arith)
one_more f g Machine.Press1 e h = rw (
  h Machine.Feed,
  h Machine.Table,
  h Machine.Robot,
  h Machine.Press1,
  h Machine.Press2,
  h Machine.Deposit,
  e,
) (omega arith)
one_more f g Machine.Press2 e h = rw (
  h Machine.Feed,
  h Machine.Table,
  h Machine.Robot,
  h Machine.Press1,
  h Machine.Press2,
  h Machine.Deposit,
  e,
) (omega arith)
one_more f g Machine.Deposit e h = rw (
  h Machine.Feed,
  h Machine.Table,
  h Machine.Robot,
  h Machine.Press1,
  h Machine.Press2,
  h Machine.Deposit,
  e,
) (omega arith)

-- each machine counts for one at most
bit : (b : Bool) → cond b 1 0 ≤ 1
bit true = omega arith
bit false = omega arith

-- not all six machines, where one isn't
some_left : (f : Machine → Bool) (m : Machine) → f m ≡ false → machines_that f ≤ 5
some_left f Machine.Feed e = rw e (omega (
  arith,
  bit (f Machine.Table),
  bit (f Machine.Robot),
  bit (f Machine.Press1),
  bit (f Machine.Press2),
  bit (f Machine.Deposit),
))
some_left f Machine.Table e = rw e (omega (
  arith,
  bit (f Machine.Feed),
  bit (f Machine.Robot),
  bit (f Machine.Press1),
  bit (f Machine.Press2),
  bit (f Machine.Deposit),
))
some_left f Machine.Robot e = rw e (omega (
  arith,
  bit (f Machine.Feed),
  bit (f Machine.Table),
  bit (f Machine.Press1),
  bit (f Machine.Press2),
  bit (f Machine.Deposit),
))
some_left f Machine.Press1 e = rw e (omega (
  arith,
  bit (f Machine.Feed),
  bit (f Machine.Table),
  bit (f Machine.Robot),
  bit (f Machine.Press2),
  bit (f Machine.Deposit),
))
some_left f Machine.Press2 e = rw e (omega (
  arith,
  bit (f Machine.Feed),
  bit (f Machine.Table),
  bit (f Machine.Robot),
  bit (f Machine.Press1),
  bit (f Machine.Deposit),
))
some_left f Machine.Deposit e = rw e (omega (
  arith,
  bit (f Machine.Feed),
  bit (f Machine.Table),
  bit (f Machine.Robot),
  bit (f Machine.Press1),
  bit (f Machine.Press2),
))

-- a legal journal is longer than its limit by at most the machines that failed
abbrev IsSpared : BookLimits → List Entry → Type 0
IsSpared l J = length J ≤ l.entries + machines_that (is_failed J)

declared_fails : (J : List Entry) (m : Machine) (cause : Cause) (n : Machine)
    → is_failed (J ++ Declared m cause ∷ []) n ≡ (if same_machine m n then true else is_failed J n)
declared_fails J m cause n = view_snoc (fails n) false J (Declared m cause) ∙ when_or (same_machine m n)
  where
    when_or : (b : Bool) → unwrap_or (when b true) (is_failed J n) ≡ (if b then true else is_failed J n)
    when_or true = refl
    when_or false = refl

-- any entry but a declaration is allowed only below the limit
longer : (J : List Entry) (e : Entry) (n k : ℕ) → length J < n → length (J ++ e ∷ []) ≤ n + k
longer J e n k h = omega (arith, length-append J (e ∷ []))

-- a declaration adds one entry and one failed machine, and other entries stay below the limit
spared_step : (l : BookLimits) (J : List Entry) (e : Entry) → IsSpared l J → first l (situation_of J) e ≡ None
    → IsSpared l (J ++ e ∷ [])
spared_step l J (Declared m cause) s h =
    let p = none_refused (tests l (situation_of J) (Declared m cause)) h in
    let more : machines_that (is_failed (J ++ Declared m cause ∷ [])) ≡ machines_that (is_failed J) + 1 =
    one_more (is_failed J) (is_failed (J ++ Declared m cause ∷ [])) m p.1.0 (declared_fails J m cause) in
    let longer_by : length (J ++ Declared m cause ∷ []) ≡ length J + 1 = length-append J (Declared m cause ∷ []) in
    rw (more, longer_by) (omega arith)
spared_step l J e s h = longer J e l.entries _ (full_not _ _ (none_refused (tests l (situation_of J) e) h).0)

spared : (l : BookLimits) (J : List Entry) → legal l J ≡ true → IsSpared l J
spared l = along l (IsSpared l) (omega arith)
    (λ J e g s a. spared_step l J e s (is_none_tells (first l (situation_of J) e) a))

not_le : (n m : ℕ) → m < n → nat_le n m ≡ false
not_le n m h = grind (arith, nat_tests)

-- this machine is healthy, so at most five others have used the room beyond the limit
pub healthy_is_declared : (l : BookLimits) (J : List Entry) (m : Machine) (cause : Cause) → legal l J ≡ true
    → is_failed J m ≡ false → first_of l J (Declared m cause) ≡ None
unfolding first_true
healthy_is_declared l J m cause h f =
    let s : length J ≤ l.entries + machines_that (is_failed J) = spared l J h in
    let few : machines_that (is_failed J) ≤ 5 = some_left (is_failed J) m f in
    let room : nat_le (l.entries + 6) (length J) ≡ false = not_le (l.entries + 6) (length J) (omega (arith, s, few)) in
    rw (room, f) refl

pub declaring_is_allowed : (l : BookLimits) (J : List Entry) (e : Entry) → legal l J ≡ true → DeclaresHealthy J e
    → first_of l J e ≡ None
declaring_is_allowed l J (Declared m cause) h f = healthy_is_declared l J m cause h f
declaring_is_allowed l J _ h f = absurd f

pub declaring_clears_nothing : (J : List Entry) (e : Entry) → DeclaresHealthy J e → is_quarantined e ≡ false
declaring_clears_nothing J (Declared m cause) f = refl
declaring_clears_nothing J _ f = absurd f

-- what fails only where an entry clears a station doesn't fail where it declares
pub ok_where_declared : {T E : Type 0} (r : Result T E) (J : List Entry) (e : Entry) → OnErr r (is_quarantined e ≡ true)
    → DeclaresHealthy J e → IsOk r
ok_where_declared (Ok x) J e o f = refl
ok_where_declared (Err why) J e o f = let n = declaring_clears_nothing J e f in cc
