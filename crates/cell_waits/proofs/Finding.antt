-- The first useful entry that is sought, by the parts of a machine's table
use Rattle.std.proofs.Common.{◌≡◌, ◌+◌, ◌<◌, ◌≤◌, ℕ, Bool, true, false, ◌&&◌, Option, Some, None, List, [], ◌∷◌, ◌++◌}
use Rattle.std.proofs.Common.{length, drop, get_or, refl, sym, ap, ap₂, ◌∙◌}
use Rattle.std.proofs.lemmas.List.{at_drop_all, at_drop_more}
use Rattle.std.specs.Prelude.{map, if◌then◌else◌}
use Rattle.std.specs.List.{find}
use Rattle.std.specs.Option.{option_or}
use Rattle.std.proofs.lemmas.List.Folds.{find-append}
use Rattle.cell_types.specs.declared.words.Machine.{Machine}
use Rattle.cell_types.specs.declared.words.Machine.TheVariants as machine
use Rattle.cell_types.specs.declared.words.Station.TheVariants as station
use Rattle.cell_types.specs.declared.words.Arm.TheVariants as arm
use Rattle.cell_types.specs.declared.words.Entry.{Entry}
use Rattle.cell_types.specs.declared.words.Entry.TheVariants.{Gripped, Dropped}
use Rattle.cell_rules.specs.Situations.{Situation}
use Rattle.cell_rules.specs.declared.limits.BookLimits.{BookLimits}
use Rattle.cell_machines.specs.Room.{is_bookable}
use Rattle.cell_machines.specs.Robot.{handings, of_plate, robot_wants, wants_handing}
use Rattle.cell_machines.specs.Useful.{is_useful_now}
use Rattle.cell_machines.specs.Candidates.{arms_in, arms_out, candidates, claims, first_bookable, handing_row, turns}
use Rattle.cell_machines.specs.Candidates.{useful_row, useful_rows, yields}
use Rattle.cell_waits.specs.declared.sought.Sought.{Sought}
use Rattle.cell_waits.specs.Waits.{first_useful, is_sought, is_useful_and}
use Rattle.cell_waits.specs.Rows.{first_sought, kept}

-- to look through rows is to look through their entries
pub sought_law : (l : BookLimits) (c : Situation) (m : Machine) (s : Sought) (es : List Entry)
    → first_sought c s (map (useful_row l c 0 m) es) ≡ find (is_useful_and l c m s) es
unfolding first_sought
sought_law l c m s [] = refl
sought_law l c m s (e ∷ es) =
    ap (λ (o : Option Entry). if is_useful_now l c 0 m e && is_sought c s e then Some e else o)
    (sought_law l c m s es)

-- the rows that are left at a place: its row, and those behind it
at_row : (c : Situation) (s : Sought) (rows : List (Bool × Entry)) (i : ℕ) (r : Bool × Entry) → i < length rows
    → r ≡ get_or rows i r → first_sought c s (drop i rows)
    ≡ (if r.0 && is_sought c s r.1 then Some r.1 else first_sought c s (drop (i + 1) rows))
unfolding first_sought
at_row c s rows i r below is =
    at_drop_more (first_sought c s) rows i r below
    ∙ ap (λ (x : Bool × Entry). if x.0 && is_sought c s x.1 then Some x.1 else first_sought c s (drop (i + 1) rows))
    (sym is)

pub found : (c : Situation) (s : Sought) (rows : List (Bool × Entry)) (i : ℕ) (r : Bool × Entry) → i < length rows
    → r ≡ get_or rows i r → (r.0 && is_sought c s r.1) ≡ true → Some r.1 ≡ first_sought c s (drop i rows)
found c s rows i r below is true_of =
    sym (at_row c s rows i r below is
    ∙ ap (λ (b : Bool). if b then Some r.1 else first_sought c s (drop (i + 1) rows)) true_of)

pub passed : (c : Situation) (s : Sought) (rows : List (Bool × Entry)) (i : ℕ) (r : Bool × Entry) → i < length rows
    → r ≡ get_or rows i r → (r.0 && is_sought c s r.1) ≡ false
    → first_sought c s (drop (i + 1) rows) ≡ first_sought c s (drop i rows)
passed c s rows i r below is false_of =
    sym (at_row c s rows i r below is
    ∙ ap (λ (b : Bool). if b then Some r.1 else first_sought c s (drop (i + 1) rows)) false_of)

pub none_left : (c : Situation) (s : Sought) (rows : List (Bool × Entry)) (i : ℕ) → length rows ≤ i
    → None ≡ first_sought c s (drop i rows)
unfolding first_sought
none_left c s rows i h = sym (at_drop_all (first_sought c s) rows i h)

-- the same of a machine's whole table
pub table_law : (l : BookLimits) (c : Situation) (m : Machine) (s : Sought) (t : List (Bool × Entry))
    → t ≡ useful_rows l c 0 m → first_sought c s t ≡ first_useful l c m s
unfolding useful_rows
table_law l c m s t e = ap (first_sought c s) e ∙ sought_law l c m s (candidates c m)

kept_if : (c : Situation) (s : Sought) (e : Entry) (b : Bool)
    → kept c s (if b then Some e else None) ≡ (if b && is_sought c s e then Some e else None)
kept_if c s e true = refl
kept_if c s e false = refl

-- a grip or a drop that is wanted and bookable is useful
pub handing_law : (l : BookLimits) (c : Situation) (s : Sought) (f : ℕ → Entry) (o : Option ℕ)
    → ((k : ℕ) → wants_handing c (f k) ≡ robot_wants l c (f k))
    → kept c s (first_bookable l c (map (handing_row c) (of_plate f o)))
    ≡ find (is_useful_and l c machine.Robot s) (of_plate f o)
unfolding first_bookable is_useful_now
handing_law l c s f None same = refl
handing_law l c s f (Some k) same =
    kept_if c s (f k) (wants_handing c (f k) && is_bookable l c (f k))
    ∙ ap (λ b. if (b && is_bookable l c (f k)) && is_sought c s (f k) then Some (f k) else None) (same k)

-- the first of two lists, each by its own answer
joined : (p : Entry → Bool) (xs ys : List Entry) (a b : Option Entry) → a ≡ find p xs → b ≡ find p ys
    → option_or a b ≡ find p (xs ++ ys)
joined p xs ys a b ea eb = ap₂ option_or ea eb ∙ sym (find-append p xs ys)

-- an arm's grips and drops, one by one
pub arm1_law : (l : BookLimits) (c : Situation) (s : Sought) (o p q : Option Entry)
    → o ≡ first_bookable l c (map (handing_row c)
    (of_plate (λ k. Gripped arm.Arm1 k station.Table) (c.plate station.Table)))
    → p ≡ first_bookable l c (map (handing_row c)
    (of_plate (λ k. Dropped arm.Arm1 k station.Press1) (c.plate station.Arm1)))
    → q ≡ first_bookable l c (map (handing_row c)
    (of_plate (λ k. Dropped arm.Arm1 k station.Press2) (c.plate station.Arm1)))
    → option_or (kept c s o) (option_or (kept c s p) (kept c s q))
    ≡ find (is_useful_and l c machine.Robot s) (handings c arm.Arm1)
unfolding handings
arm1_law l c s o p q eo ep eq =
    let t = is_useful_and l c machine.Robot s in
    joined t _ _ _ _ (ap (kept c s) eo ∙ handing_law l c s _ (c.plate station.Table) (λ k. refl))
    (joined t _ _ _ _ (ap (kept c s) ep ∙ handing_law l c s _ (c.plate station.Arm1) (λ k. refl))
    (ap (kept c s) eq ∙ handing_law l c s _ (c.plate station.Arm1) (λ k. refl)))

pub arm2_law : (l : BookLimits) (c : Situation) (s : Sought) (o p q : Option Entry)
    → o ≡ first_bookable l c (map (handing_row c)
    (of_plate (λ k. Gripped arm.Arm2 k station.Press1) (c.plate station.Press1)))
    → p ≡ first_bookable l c (map (handing_row c)
    (of_plate (λ k. Gripped arm.Arm2 k station.Press2) (c.plate station.Press2)))
    → q ≡ first_bookable l c (map (handing_row c)
    (of_plate (λ k. Dropped arm.Arm2 k station.DepIn) (c.plate station.Arm2)))
    → option_or (kept c s o) (option_or (kept c s p) (kept c s q))
    ≡ find (is_useful_and l c machine.Robot s) (handings c arm.Arm2)
unfolding handings
arm2_law l c s o p q eo ep eq =
    let t = is_useful_and l c machine.Robot s in
    joined t _ _ _ _ (ap (kept c s) eo ∙ handing_law l c s _ (c.plate station.Press1) (λ k. refl))
    (joined t _ _ _ _ (ap (kept c s) ep ∙ handing_law l c s _ (c.plate station.Press2) (λ k. refl))
    (ap (kept c s) eq ∙ handing_law l c s _ (c.plate station.Arm2) (λ k. refl)))

-- the robot's table by its parts
pub robot_law : (l : BookLimits) (c : Situation) (s : Sought)
    (one two inward yielding outward turning claiming : Option Entry)
    → one ≡ find (is_useful_and l c machine.Robot s) (handings c arm.Arm1)
    → two ≡ find (is_useful_and l c machine.Robot s) (handings c arm.Arm2)
    → inward ≡ find (is_useful_and l c machine.Robot s) arms_in
    → yielding ≡ find (is_useful_and l c machine.Robot s) yields
    → outward ≡ find (is_useful_and l c machine.Robot s) arms_out
    → turning ≡ find (is_useful_and l c machine.Robot s) turns
    → claiming ≡ find (is_useful_and l c machine.Robot s) claims
    → option_or one (option_or two (option_or inward
    (option_or yielding (option_or outward (option_or turning claiming)))))
    ≡ first_useful l c machine.Robot s
unfolding candidates
robot_law l c s one two inward yielding outward turning claiming e1 e2 e3 e4 e5 e6 e7 =
    let t = is_useful_and l c machine.Robot s in
    let from_turns = turns ++ claims in
    let from_out = arms_out ++ from_turns in
    let from_yields = yields ++ from_out in
    joined t (handings c arm.Arm1) (handings c arm.Arm2 ++ (arms_in ++ from_yields)) _ _ e1
    (joined t (handings c arm.Arm2) (arms_in ++ from_yields) _ _ e2 (joined t arms_in from_yields _ _ e3
    (joined t yields from_out _ _ e4 (joined t arms_out from_turns _ _ e5 (joined t turns claims _ _ e6 e7)))))
