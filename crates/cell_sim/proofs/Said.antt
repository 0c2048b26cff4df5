-- The script of one fault is read back as that fault
use Rattle.std.proofs.Common.{◌≡◌, ◌≢◌, ◌∙◌, ◌<◌, ◌≤◌, ◌^◌, ℕ, Bool, true, false, not, ◌&&◌, List, [], ◌∷◌, ◌++◌}
use Rattle.std.proofs.Common.{length, get_or, Option, Some, None, Ok, append-nil, arith, refl, subst, sym, ap}
use Rattle.std.specs.Prelude.{All, IfSome, if◌then◌else◌, nat_le, ◌==◌}
use Rattle.std.specs.Fmt.{decimal}
use Rattle.std.specs.Char.{is_ascii_digit}
use Rattle.std.specs.Str.{all_ascii_digits}
use Rattle.std.specs.Str.Parse.{digits_value}
use Rattle.std.proofs.lemmas.Bool.Decides.{nat_tests}
use Rattle.std.proofs.lemmas.List.Elements.{All-cons, All-nil}
use Rattle.std.proofs.lemmas.Str.Parse.{IsNumeralModel, numerals_by_value, tells_all_ascii_digits}
use Rattle.std.proofs.lemmas.Fmt.{decimal_nonempty, digits_decimal, digits_value-decimal, first_decimal}
use Rattle.std.proofs.lemmas.Fmt.{length-decimal-le}
use Rattle.csv.specs.Reading.{strip_bom}
use Rattle.csv.specs.Writing.{default_writer, needs_byte, needs_quotes}
use Rattle.cell_rows.specs.Rows.{Row, rows_of}
use Rattle.cell_rows.specs.Lines.{IsPlain, line, lines_of, rest_of_line}
use Rattle.cell_rows.specs.Scripts.{lines_after, lines_of as script_lines}
use Rattle.cell_rows.proofs.Lines.{read-back}
use Rattle.cell_types.specs.Numbers.{is_number, number_to}
use Rattle.cell_types.specs.Texts.{axis_word}
use Rattle.cell_types.specs.declared.words.Axis.{Axis}
use Rattle.cell_types.specs.declared.words.Axis.TheVariants as axis
use Rattle.cell_types.proofs.WordLaws.{axis_found}
use Rattle.cell_sim.specs.Faults.{fault_of, plain_fault, planned_by}
use Rattle.cell_sim.specs.Script.{next_fault}
use Rattle.cell_sim.specs.Spelled.{IsSaid, number_or_nothing, readings_of, record_of, script_of, word_of}
use Rattle.cell_sim.specs.declared.fault.Fault.{Fault}
use Rattle.cell_sim.specs.declared.fault.Fault.TheVariants as fault
use Rattle.cell_sim.specs.declared.fault.PlannedFault.{PlannedFault}

-- a field that needs no quotes
abbrev Plain : List ℕ → Type 0
Plain field = needs_quotes default_writer field ≡ false

-- a number's digits
own : IsNumeralModel (λ ds. all_ascii_digits ds ≡ true) (digits_value 10)
own = numerals_by_value _ tells_all_ascii_digits

-- what needs quotes is a comma, a quote or a line end, and none of these is a digit
digit-plain : (c : ℕ) → is_ascii_digit c ≡ true → needs_byte default_writer c ≡ false
digit-plain c h = grind (arith, nat_tests)

both : (a b : Bool) → (a && b) ≡ true → (a ≡ true) × (b ≡ true)
both true true h = (refl, refl)
both true false h = cc h
both false b h = cc h

digits-plain : (cs : List ℕ) → all_ascii_digits cs ≡ true → Plain cs
digits-plain [] h = refl
digits-plain (c ∷ cs) h = let (first, rest) = both _ _ h in rw (digit-plain c first) (digits-plain cs rest)

number-plain : (n : ℕ) → n ≤ 1000000 → Plain (decimal n)
number-plain n high = digits-plain (decimal n) (digits_decimal own n (omega (arith, high)))

axis-plain : (a : Axis) → Plain (axis_word a)
axis-plain a = grind arith

word-plain : (k : Fault) → Plain (word_of k)
word-plain fault.NoMotion = refl
word-plain fault.KeepsOld = refl
word-plain fault.Both = refl
word-plain (fault.Slow n) = refl
word-plain fault.LosePlate = refl
word-plain (fault.Silent n) = refl
word-plain fault.RefuseCommand = refl

readings-plain : (readings : Option ℕ) → IfSome readings (λ n. (1 ≤ n) × (n ≤ 1000))
    → Plain (number_or_nothing readings)
readings-plain None fit = refl
readings-plain (Some n) fit = number-plain n (omega (arith, fit.1))

-- no field of a fault's record needs quotes
record-plain : (f : PlannedFault) → IsSaid f → IsPlain (record_of f)
record-plain f said =
    let number : List ℕ = number_or_nothing (readings_of f.fault) in
    let last : All Plain (number ∷ []) =
    All-cons Plain number [] (readings-plain (readings_of f.fault) said.2) (All-nil Plain) in
    let words : All Plain (word_of f.fault ∷ number ∷ []) =
    All-cons Plain (word_of f.fault) (number ∷ []) (word-plain f.fault) last in
    let motion : All Plain (decimal f.motion ∷ word_of f.fault ∷ number ∷ []) =
    All-cons Plain (decimal f.motion) (word_of f.fault ∷ number ∷ []) (number-plain f.motion said.1) words in
    let all : All Plain (record_of f) = All-cons Plain (axis_word f.axis)
    (decimal f.motion ∷ word_of f.fault ∷ number ∷ []) (axis-plain f.axis) motion in
    let two : 2 ≤ 4 = omega arith in
    (two, all)

-- a text that begins with an axis's word has no byte order mark to take off
no-mark : (a : Axis) (rest : List ℕ) → strip_bom (axis_word a ++ rest) ≡ axis_word a ++ rest
unfolding strip_bom
no-mark axis.FeedBelt rest = refl
no-mark axis.TableLift rest = refl
no-mark axis.TableTurn rest = refl
no-mark axis.RobotTurn rest = refl
no-mark axis.ArmOne rest = refl
no-mark axis.ArmTwo rest = refl
no-mark axis.PressOne rest = refl
no-mark axis.PressTwo rest = refl
no-mark axis.DepositBelt rest = refl

-- the lines of one record are its line
one-line : (row : Row) → lines_of (row ∷ []) ≡ line row
unfolding lines_of
one-line row = append-nil (line row)

-- the script of one fault has its record
one-row : (f : PlannedFault) → IsSaid f → rows_of (script_of f) ≡ record_of f ∷ []
one-row f said =
    let row = record_of f in
    let whole : strip_bom (line row) ≡ line row = no-mark f.axis (rest_of_line (decimal f.motion ∷ word_of f.fault
    ∷ number_or_nothing (readings_of f.fault) ∷ [])) in
    let same : strip_bom (lines_of (row ∷ [])) ≡ lines_of (row ∷ []) = subst (λ (t : List ℕ). strip_bom t ≡ t)
    (sym (one-line row)) whole in
    subst (λ (t : List ℕ). rows_of t ≡ row ∷ []) (one-line row)
    (read-back (row ∷ []) (All-cons IsPlain row [] (record-plain f said) (All-nil IsPlain)) same)

-- a number in range is read from its digits
is_number_at : (count first : ℕ) (digits : Bool) → 0 < count → count ≤ 7 → first ≢ 48 → digits ≡ true
    → (not (count == 0) && (nat_le count 7 && (not (first == 48) && digits))) ≡ true
is_number_at count first digits some short nonzero all = grind (arith, nat_tests)

value_at : (number : Bool) (most k : ℕ) → number ≡ true → 1 ≤ k → k ≤ most
    → (if number && (nat_le 1 k && nat_le k most) then Some k else None) ≡ Some k
value_at number most k is low high = grind (arith, nat_tests)

number_found : (most k : ℕ) → most ≤ 1000000 → 1 ≤ k → k ≤ most → number_to most (decimal k) ≡ Some k
number_found most k bound low high =
    let wide : k < 2 ^ 64 = omega (arith, bound, high) in
    let value : digits_value 10 (decimal k) ≡ k = digits_value-decimal own k wide in
    let some : 0 < length (decimal k) = decimal_nonempty k wide in
    let short : length (decimal k) ≤ 7 = length-decimal-le 7 k (omega arith) (omega (arith, bound, high)) wide in
    let first : 48 < get_or (decimal k) 0 0 = first_decimal k low wide in
    let nonzero : get_or (decimal k) 0 0 ≢ 48 = omega (arith, first) in
    let number : is_number (decimal k) ≡ true = is_number_at _ _ _ some short nonzero (digits_decimal own k wide) in
    rw value (value_at (is_number (decimal k)) most k number low high)

-- a kind is read from its word and its number of readings
fault_found : (k : Fault) → IfSome (readings_of k) (λ n. (1 ≤ n) × (n ≤ 1000))
    → fault_of (word_of k) (number_or_nothing (readings_of k)) ≡ Some k
unfolding fault_of plain_fault
fault_found fault.NoMotion fit = refl
fault_found fault.KeepsOld fit = refl
fault_found fault.Both fit = refl
fault_found (fault.Slow n) fit = rw (number_found 1000 n (omega arith) fit.0 fit.1) refl
fault_found fault.LosePlate fit = refl
fault_found (fault.Silent n) fit = rw (number_found 1000 n (omega arith) fit.0 fit.1) refl
fault_found fault.RefuseCommand fit = refl

-- the record of a fault is that fault's
record_read : (f : PlannedFault) → IsSaid f → planned_by (axis_word f.axis) (decimal f.motion) (word_of f.fault)
    (number_or_nothing (readings_of f.fault)) ≡ Some f
record_read f said =
    rw (axis_found f.axis, number_found 1000000 f.motion (omega arith) said.0 said.1, fault_found f.fault said.2)
    refl

-- so the script of one fault is read as that fault alone
pub said_back : (f : PlannedFault) → IsSaid f → script_lines next_fault (rows_of (script_of f)) ≡ Ok (f ∷ [])
unfolding lines_after next_fault
said_back f said = rw (one-row f said) (rw (record_read f said) refl)

-- the same of the faults that are that one
pub read_one : (f : PlannedFault) (faults : List PlannedFault) → IsSaid f → faults ≡ f ∷ []
    → script_lines next_fault (rows_of (script_of f)) ≡ Ok faults
read_one f faults said is = said_back f said ∙ ap (λ (fs : List PlannedFault). Ok fs) (sym is)
