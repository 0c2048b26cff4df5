-- Settings that are read let each motion be as short as it can be
use Rattle.std.proofs.Common.{◌≡◌, ◌≤◌, ◌+◌, ◌&&◌, ℕ, zero, suc, Bool, true, false, ℤ, List, [], ◌∷◌, Option, Some}
use Rattle.std.proofs.Common.{None}
use Rattle.std.proofs.Common.{Result, Ok, Err, ◌-◌, refl, sym, ap, ◌∙◌, subst, arith, get_or, if◌then◌else◌}
use Rattle.std.proofs.lemmas.Bool.{leb-true}
use Rattle.std.proofs.lemmas.Str.{IsUtf8-from_is_utf8, is_utf8-from_IsUtf8}
use Rattle.std.specs.Prelude.{codes, pos, negsuc, int_le, replicate, slice_index, slice_index_or}
use Rattle.std.specs.Str.{is_utf8}
use Rattle.cell_types.specs.declared.words.Axis.{Axis}
use Rattle.cell_types.specs.declared.words.Axis.TheVariants as axis
use Rattle.cell_types.specs.declared.words.Pose.{Pose}
use Rattle.cell_types.specs.declared.words.Pose.TheVariants as pose
use Rattle.cell_types.specs.Same.{axis_number, pose_number}
use Rattle.cell_types.specs.Texts.{all_axis, axis_word}
use Rattle.cell_diagnosis.specs.Bounds.{Bounds}
use Rattle.cell_measures.specs.Times.{duration}
use Rattle.cell_sim.specs.Simulated.{one_each}
use Rattle.toml.specs.Data.{Data, Members, as_integer}
use Rattle.toml.specs.Parse.{parse_document}
use Rattle.cell_settings.specs.Keys.{stray}
use Rattle.cell_settings.specs.Settings.{AnswersText, Numbers, axes_due, axis_due, axis_table, in_range, integer_due}
use Rattle.cell_settings.specs.Settings.{limit_due, member_due, number_due, numbers_due, plan_numbers, settings_due}
use Rattle.cell_settings.specs.Settings.{text_due, unless_stray, ◌>>=◌}
use Rattle.cell_settings.specs.declared.error.SettingsError.{SettingsError}
use Rattle.cell_settings.specs.declared.error.SettingsError.TheVariants as error
use Rattle.cell_world.specs.Simulating.{SettingsAreFair}

both : (a b : Bool) → (a && b) ≡ true → (a ≡ true) × (b ≡ true)
both true b h = (refl, h)
both false b h = cc h

pub same_read : {A F : Type 0} (r : Result A F) (x y : A) → r ≡ Ok x → r ≡ Ok y → x ≡ y
same_read r x y h k = cc

abbrev read : {A : Type 0} → A → Result A SettingsError
read x = Ok x

read_so : {A : Type 0} (x y : A) → read x ≡ Ok y → x ≡ y
read_so x y h = same_read (read x) x y refl h

through : (b : Bool) (n k : ℕ) (e : SettingsError) → (if b then Ok n else Err e) ≡ Ok k → (b ≡ true) × (n ≡ k)
through true n k e h = (refl, read_so n k h)
through false n k e h = cc h

-- a number that is read isn't below its range
in_low : (path : List ℕ) (z : ℤ) (low high n : ℕ) → in_range path z low high ≡ Ok n → low ≤ n
in_low path (pos k) low high n h =
    let t = through (int_le (pos low) (pos k) && int_le (pos k) (pos high)) k n (error.OutOfRange path) h in
    subst (λ (x : ℕ). low ≤ x) t.1 (leb-true low k (both (int_le (pos low) (pos k)) (int_le (pos k) (pos high)) t.0).0)
in_low path (negsuc k) low high n h = cc h

integer_low : (path : List ℕ) (z : Option ℤ) (low high n : ℕ) → integer_due path z low high ≡ Ok n → low ≤ n
integer_low path None low high n h = cc h
integer_low path (Some z) low high n h = in_low path z low high n h

number_low : (path : List ℕ) (d : Option Data) (default : Option ℕ) (low high n : ℕ)
    → number_due path d default low high ≡ Ok n → low ≤ n
unfolding number_due
number_low path None None low high n h = cc h
number_low path None (Some k) low high n h = in_low path (pos k) low high n h
number_low path (Some d) default low high n h = integer_low path (as_integer d) low high n h

limit_low : (axis key : List ℕ) (table : Option Members) (default low high n : ℕ)
    → limit_due axis key table default low high ≡ Ok n → low ≤ n
unfolding limit_due
limit_low axis key table default low high n h = number_low _ _ (Some default) low high n h

-- what is read after a step is read where the step was
then_read : {A B : Type 0} (r : Result A SettingsError) (f : A → Result B SettingsError) (y : B)
    → (r >>= f) ≡ Ok y → (x : A) × (r ≡ Ok x) × (f x ≡ Ok y)
then_read (Ok x) f y h = (x, refl, h)
then_read (Err e) f y h = cc h

abbrev bounds : ℕ → ℕ → Bounds
bounds leave limit = record { leave = leave; limit = limit }

abbrev AreFair : Bounds → Type 0
AreFair b = (2 ≤ b.leave) × (3 ≤ b.limit)

abbrev leave_due : Members → Axis → Result ℕ SettingsError
leave_due ms a = limit_due (axis_word a) (codes "leave") (axis_table (axis_word a) ms) 3 2 999

abbrev late_due : Members → Axis → ℕ → Result ℕ SettingsError
late_due ms a leave = limit_due (axis_word a) (codes "limit") (axis_table (axis_word a) ms) 20 (leave + 1) 1000

axis_fair : (ms : Members) (a : Axis) (b : Bounds) → axis_due ms a ≡ Ok b → AreFair b
unfolding axis_due
axis_fair ms a b h =
    let x = then_read (leave_due ms a) (λ (n : ℕ). late_due ms a n >>= (λ (k : ℕ). Ok (bounds n k))) b h in
    let y = then_read (late_due ms a x.0) (λ (k : ℕ). Ok (bounds x.0 k)) b x.2 in
    let low = limit_low (axis_word a) (codes "leave") (axis_table (axis_word a) ms) 3 2 999 x.0 x.1 in
    let late = limit_low (axis_word a) (codes "limit") (axis_table (axis_word a) ms) 20 (x.0 + 1) 1000 y.0 y.1 in
    subst AreFair (read_so (bounds x.0 y.0) b y.2)
    (low, omega (arith, low, late))

-- so are the limits of each axis, and those that stand for none
at_each : (b : Bounds) (bs : List Bounds) (i : ℕ) → AreFair b → ((j : ℕ) → AreFair (get_or bs j (bounds 2 3)))
    → AreFair (get_or (b ∷ bs) i (bounds 2 3))
at_each b bs zero h k = h
at_each b bs (suc j) h k = k j

axes_fair : (ms : Members) (rest : List Axis) (bs : List Bounds) → axes_due ms rest ≡ Ok bs → (i : ℕ)
    → AreFair (get_or bs i (bounds 2 3))
axes_fair ms [] bs h i =
    subst (λ (xs : List Bounds). AreFair (get_or xs i (bounds 2 3)))
    (read_so [] bs h) (omega arith, omega arith)
axes_fair ms (a ∷ rest) bs h i =
    let x = then_read (axis_due ms a) (λ (b : Bounds). axes_due ms rest
    >>= (λ (more : List Bounds). Ok (b ∷ more))) bs h
    in
    let y = then_read (axes_due ms rest) (λ (more : List Bounds). Ok (x.0 ∷ more)) bs x.2 in
    subst (λ (xs : List Bounds). AreFair (get_or xs i (bounds 2 3)))
    (read_so (x.0 ∷ y.0) bs y.2)
    (at_each x.0 y.0 i (axis_fair ms a x.0 x.1) (axes_fair ms rest y.0 y.1))

abbrev AllFair : Numbers → Type 0
AllFair n = (i : ℕ) → AreFair (get_or n.limits i (bounds 2 3))

abbrev numbers : ℕ → ℕ → ℕ → List Bounds → Numbers
numbers p j t bs = record { plates = p; journal_limit = j; turns = t; limits = bs }

numbers_fair : (ms : Members) (n : Numbers) → numbers_due ms ≡ Ok n → AllFair n
unfolding numbers_due
numbers_fair ms n h =
    let plates = member_due (codes "plates") ms None 1 100000 in
    let entries = member_due (codes "journal_limit") ms (Some 100000) 1 1000000 in
    let turns = member_due (codes "turns") ms (Some 100000) 1 10000000 in
    let axes = axes_due ms all_axis in
    let a = then_read plates (λ (p : ℕ). entries >>= (λ (j : ℕ). turns >>= (λ (t : ℕ). axes
    >>= (λ (bs : List Bounds). Ok (numbers p j t bs))))) n h in
    let b = then_read entries (λ (j : ℕ). turns >>= (λ (t : ℕ). axes
    >>= (λ (bs : List Bounds). Ok (numbers a.0 j t bs)))) n a.2 in
    let c = then_read turns (λ (t : ℕ). axes >>= (λ (bs : List Bounds). Ok (numbers a.0 b.0 t bs))) n b.2 in
    let d = then_read axes (λ (bs : List Bounds). Ok (numbers a.0 b.0 c.0 bs)) n c.2 in
    subst AllFair (read_so (numbers a.0 b.0 c.0 d.0) n d.2)
    (axes_fair ms all_axis d.0 d.1)

-- the text
unstrayed : (o : Option (List ℕ)) (r : Result Numbers SettingsError) (n : Numbers) → unless_stray o r ≡ Ok n → r ≡ Ok n
unstrayed None r n h = h
unstrayed (Some path) r n h = cc h

text_fair : (o : Option Members) (n : Numbers) → text_due o ≡ Ok n → AllFair n
unfolding settings_due
text_fair None n h = cc h
text_fair (Some ms) n h = numbers_fair ms n (unstrayed (stray ms) (numbers_due ms) n h)

answered : (text : List ℕ) (n : Numbers) (b : Bool) → is_utf8 text ≡ b → AnswersText text (Ok n) → AllFair n
answered text n true e h = text_fair (parse_document text) n (h.due (IsUtf8-from_is_utf8 text e))
answered text n false e h =
    let c = h.bytes (λ u. let x : true ≡ false = sym (is_utf8-from_IsUtf8 text u) ∙ e in cc x) in cc c

-- all motions are as short as they can be
row_of_ones : (a : Axis)
    → slice_index_or (replicate 9 (replicate {A = ℕ} 18 1)) (axis_number a) [] ≡ replicate {A = ℕ} 18 1
row_of_ones axis.FeedBelt = refl
row_of_ones _ = refl

one_of_row : (to : Pose) → slice_index (replicate {A = ℕ} 18 1) (pose_number to) - 1 ≡ 0
one_of_row pose.Rest = refl
one_of_row _ = refl

pub one_long : (a : Axis) (to : Pose) → duration one_each (record { axis = a; to = to }) - 1 ≡ 0
one_long a to = ap (λ (r : List ℕ). slice_index r (pose_number to) - 1) (row_of_ones a) ∙ one_of_row to

pub settings_are_fair : SettingsAreFair
settings_are_fair text p h a to =
    let b = answered text (plan_numbers p) (is_utf8 text) refl h (axis_number a) in let one = one_long a to in
    (b.0, omega (arith, one, b.1))
