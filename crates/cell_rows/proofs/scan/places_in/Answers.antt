-- A field that spoils its line does so behind any fields before it
use Rattle.std.proofs.Common.{rules, inl, inr, refl, [], ◌∷◌, ◌+◌}
use Rattle.std.specs.Prelude.{slice_range}
use Rattle.csv.specs.declared.parser.State.TheVariants as st
use Rattle.cell_rows.specs.Texts.{Row}
use Rattle.cell_rows.proofs.Unfit.{spoiled_by_comma, spoiled_by_length, spoiled_later, spoiled_line}
use Rattle.cell_rows.proofs.scan.places_in.Goals as goal

pub returns-in_err-first-clause-unfit : goal.returns-in_err-first-clause-unfit
returns-in_err-first-clause-unfit c =
    let text = c.args.text.now in
    λ e tail. spoiled_line (slice_range text c.args.start c.args.to) tail
    (spoiled_by_length st.StartRecord [] text c.args.start c.args.to (inl refl)
    (c.in_err-first.ensures.long (search rules)))

pub returns-in_err-second-clause-unfit : goal.returns-in_err-second-clause-unfit
returns-in_err-second-clause-unfit c =
    let text = c.args.text.now in
    let to = c.args.to in
    let first = c.in_ok-first.first in
    λ e tail. spoiled_line (slice_range text c.args.start to) tail
    (spoiled_later st.StartRecord [] text c.args.start to first (inl refl) c.in_ok-first.ensures.end
    (spoiled_by_length st.StartField _ text (first + 1) to (inr refl) (c.in_err-second.ensures.long (search rules))))

pub returns-in_err-third-clause-unfit : goal.returns-in_err-third-clause-unfit
returns-in_err-third-clause-unfit c =
    let text = c.args.text.now in
    let to = c.args.to in
    let first = c.in_ok-first.first in
    let second = c.in_ok-second.second in
    λ e tail. spoiled_line (slice_range text c.args.start to) tail
    (spoiled_later st.StartRecord [] text c.args.start to first (inl refl) c.in_ok-first.ensures.end
    (spoiled_later st.StartField _ text (first + 1) to second (inr refl) c.in_ok-second.ensures.end
    (spoiled_by_length st.StartField _ text (second + 1) to (inr refl) (c.in_err-third.ensures.long (search rules)))))

pub returns-in_err-fourth-clause-unfit : goal.returns-in_err-fourth-clause-unfit
returns-in_err-fourth-clause-unfit c =
    let text = c.args.text.now in
    let to = c.args.to in
    let first = c.in_ok-first.first in
    let second = c.in_ok-second.second in
    let third = c.in_ok-third.third in
    let before : Row = slice_range text c.args.start first ∷ slice_range text (first + 1) second ∷ slice_range text
    (second + 1) third ∷ [] in
    λ e tail. spoiled_line (slice_range text c.args.start to) tail
    (spoiled_later st.StartRecord [] text c.args.start to first (inl refl) c.in_ok-first.ensures.end
    (spoiled_later st.StartField _ text (first + 1) to second (inr refl) c.in_ok-second.ensures.end
    (spoiled_later st.StartField _ text (second + 1) to third (inr refl) c.in_ok-third.ensures.end
    (elim (c.in_err-fourth.ensures.unfit (search rules)) [
      | inl long ↦ spoiled_by_length st.StartField before text (third + 1) to (inr refl) long
      | inr comma ↦ spoiled_by_comma st.StartField before text (third + 1) to (inr refl) refl comma
    ]))))
