-- A leading plus is left off first, and then each character is tested
use Rattle.std.proofs.Common.{◌≡◌, ◌<◌, length, ap, rules, sym, ◌∙◌}
use Rattle.std.specs.Char.{is_ascii_digit}
use Rattle.std.specs.List.{list_all}
use Rattle.std.specs.Str.Parse.{without_leading_plus}
use Rattle.cell_command.proofs.Digits.{digits-tested, digits-valued}
use Rattle.cell_command.proofs.count.has_digits.Goals as goal

pub returns-then-not-is_empty : goal.returns-then-not-is_empty
returns-then-not-is_empty c =
    let same : c.without_plus-digits.result.now ≡ without_leading_plus c.args.word.now =
    c.without_plus-digits.ensures ∙ ap without_leading_plus c.as_bytes.ensures.value in
    let test : c.are_digits.result ≡ list_all is_ascii_digit (without_leading_plus c.args.word.now) =
    c.are_digits.ensures ∙ ap (list_all is_ascii_digit) same in
    let some : 0 < length c.without_plus-digits.result.now = search rules in
    (λ are. (rw same at some, digits-valued _ (sym test ∙ are)), λ has. test ∙ digits-tested _ has.1)
