-- Words that stand in the singular at 1
use Rattle.std.specs.Prelude.{ℕ, ◌==◌, List, codes, if◌then◌else◌}

abbrev pub plates : ℕ → List ℕ
plates n = if n == 1 then codes " plate" else codes " plates"

abbrev pub are : ℕ → List ℕ
are n = if n == 1 then codes " is" else codes " are"

abbrev pub were : ℕ → List ℕ
were n = if n == 1 then codes " was" else codes " were"

abbrev pub times : ℕ → List ℕ
times n = if n == 1 then codes " time" else codes " times"
