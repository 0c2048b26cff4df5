-- A text that is put into an empty room
use Rattle.std.proofs.Common.{◌≡◌, ◌++◌, ℕ, List, [], Option, None, Some, IfSome, ap, ◌∙◌}
use Rattle.std.proofs.lemmas.Fmt.{contents_after_writes}
use Rattle.std.specs.Fmt.{WritesText}
use Rattle.arrayvec.specs.ArrayString.{ArrayString}

-- the room then has this text alone
pub put_alone : (old new : ArrayString) (text : Option (List ℕ)) → old.bytes ≡ []
    → WritesText (λ s bytes t. t.bytes ≡ s.bytes ++ bytes) old text new → IfSome text (λ bytes. new.bytes ≡ bytes)
put_alone old new None empty written = tt
put_alone old new (Some bytes) empty written =
    contents_after_writes _ (λ s. s.bytes) (λ _ _ _ added. added) old bytes new written
    ∙ ap (λ front. front ++ bytes) empty
