-- Without a word all entries are shown, and a word that is no number is a wrong argument
use Rattle.std.proofs.Common.{◌∷◌, ◌++◌, [], None, Some, refl, inl, inr, append_assoc, rules}
use Rattle.std.specs.Prelude.{codes}
use Rattle.cell_command.specs.Escaped.{escaped}
use Rattle.std.proofs.lemmas.Result.{IfOk-weaker}
use Rattle.cell_orders.proofs.Showing.{shown-for}
use Rattle.cell_orders.proofs.show.show_entry.Goals as goal

pub returns-in_default : goal.returns-in_default
returns-in_default g c =
    IfOk-weaker c.show_files.result _ _ (λ s shows. inl (None, rw c.in_default.is refl, shows))
    (c.show_files.ensures None refl)

pub returns-in_default-read_count : goal.returns-in_default-read_count
returns-in_default-read_count g c =
    let word = escaped c.in-Some.word.now in
    inr (
      (
        refl,
        refl,
        codes "ENTRY is a whole number, and not '" ++ (word ++ codes "'"),
        rw (append_assoc word (codes "'") (10 ∷ [])) c.in_ok-writeln.ensures.bytes,
      ),
      search rules,
    )

pub returns : goal.returns
returns g c =
    shown-for c.show_files-2.result c.in-Some.word.now c.in-Some-read_count.count _ _
    c.in-Some-read_count.ensures.number c.show_files-2.ensures
    (λ n s is shows. inl (Some n, rw c.in-Some.is (n, refl, is), shows))
