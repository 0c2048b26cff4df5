-- The fields of a method's record
use Rattle.std.specs.Prelude.{ℕ, ◌==◌, ◌&&◌, Bool, nat_le, not, List, length, Option, Some, None, if◌then◌else◌}
use Rattle.std.specs.List.{list_all, list_any}

-- at most 20 bytes, and no quote
abbrev pub is_field : List ℕ → Bool
is_field bytes = nat_le (length bytes) 20 && not (list_any (λ b. b == 34) bytes)

-- a record whose fields are so
abbrev pub record_of : Option (List (List ℕ)) → Option (List (List ℕ))
record_of None = None
record_of (Some fields) = if list_all is_field fields then Some fields else None
