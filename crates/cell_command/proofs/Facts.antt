-- The subcommand that clap's matches name, and what is matched below it.
use Rattle.std.proofs.Common.{◌≡◌, ℕ, Bor, List, Option, Some, None, ap, map, option_map, refl, sym, ◌∙◌}
use Rattle.std.specs.Prelude.{IfSome, true}
use Rattle.std.proofs.lemmas.Bool.{and_parts}
use Rattle.clap.specs.Faults.{is_free_app}
use Rattle.clap.specs.Words.{all_of, built, is_simple, is_simple_and_free, matched_of, raw_values, rows_of}
use Rattle.clap.specs.declared.parser.matches.Found.{Found}
use Rattle.clap.proofs.WalkLemmas.{raw_values-rows}
use Rattle.cell_command.specs.Shape.{accompanied, cellctl, commands, control, events, explain, explore, faulted}
use Rattle.cell_command.specs.Shape.{file_rule, flag_rule, flagged, in_rounds, journal_rule, measure, optional_rule}
use Rattle.cell_command.specs.Shape.{parted, path_rule, pictured, repeated_rule, scripted, several_rule, show, sweep}
use Rattle.cell_command.specs.Shape.{windowed}

abbrev pub both : {X A B : Type 0} → (X → A) → (X → B) → X → A × B
both f g x = (f x, g x)

-- two parts of one value
pub joined : {X A B : Type 0} (o : Option X) (f : X → A) (g : X → B) (a : A) (b : B)
    → Some a ≡ option_map f o → Some b ≡ option_map (λ (p : A × B). p.1) (option_map (both f g) o)
    → option_map (both f g) o ≡ Some (a, b)
joined None f g a b h k = cc h
joined (Some x) f g a b h k = let p : a ≡ f x = cc h in let q : b ≡ g x = cc k in rw (p, q) refl

-- a text that was found
pub same-value : (o : Option (Bor (List ℕ))) (found : Option (List ℕ)) → option_map (λ s. s.now) o ≡ found
    → IfSome o (λ p. found ≡ Some p.now)
same-value None found h = tt
same-value (Some p) found h = sym h

-- the values that were found, as a list has them
pub same-values : (found : Found) (id : List ℕ) (texts values : List (Bor (List ℕ)))
    → Some (map (λ v. v.now) texts) ≡ option_map raw_values (matched_of found id)
    → values ≡ texts → all_of id (rows_of found) ≡ Some (map (λ v. v.now) values)
same-values found id texts values h same =
    sym (raw_values-rows found id) ∙ sym h ∙ ap (λ (l : List (Bor (List ℕ))). Some (map (λ v. v.now) l)) (sym same)

-- the program's command line is one of which clap's definitions tell the faults and the matches
pub cellctl-free : is_simple_and_free cellctl ≡ true
unfolding accompanied commands control events explain explore faulted file_rule flag_rule flagged in_rounds journal_rule
    measure optional_rule parted path_rule pictured repeated_rule scripted several_rule show sweep windowed
cellctl-free = refl

pub cellctl-simple : is_simple cellctl ≡ true
cellctl-simple = (and_parts (is_simple cellctl) (is_free_app (built cellctl)) cellctl-free).0
