-- Which states of a journal a page shows
use Rattle.std.specs.Prelude.{◌+◌, ◌-◌, ◌==◌, ◌&&◌, ℕ, Bool, min, Option, None, List, [], ◌++◌, codes, decimal}
use Rattle.std.specs.Prelude.{if◌then◌else◌}
use Rattle.cell_audit.specs.declared.error.AuditError.{AuditError}
use Rattle.cell_show.specs.declared.page.window.Window.{Window}

-- the states of a page that is asked for no others
abbrev pub first_window : Window
first_window = record { from = 0; count = 20000 }

-- how many of so many entries a page shows behind its first state: at most 20,000
abbrev pub shown_of : Window → ℕ → ℕ
shown_of w entries = min (min w.count 20000) (entries - w.from)

-- after how many of so many entries its last state is
abbrev pub end_of : Window → ℕ → ℕ
end_of w entries = w.from + shown_of w entries

-- an answer, where a page shows the last of so many entries
abbrev pub answer_at : Window → ℕ → Option AuditError → Option AuditError
answer_at w entries answer = if end_of w entries == entries then answer else None

-- what is told of the states that are shown
abbrev pub window_text : Window → ℕ → List ℕ
window_text w entries =
    codes "<p class=\"shown\">This page shows the states after "
    ++ (decimal w.from ++ (codes " to "
    ++ (decimal (end_of w entries) ++ (codes " entries of the journal, which has "
    ++ (decimal entries ++ codes ". The options --from and --count choose others.</p>\n")))))

-- all states of so many entries are shown
abbrev pub shows_all : Window → ℕ → Bool
shows_all w entries = w.from == 0 && end_of w entries == entries

-- the line that tells it, where not all states are shown
abbrev pub window_line : Window → ℕ → List ℕ
window_line w entries = if shows_all w entries then [] else window_text w entries

-- the line of the data with the number of entries before the first state, and of all
abbrev pub window_data : Window → ℕ → List ℕ
window_data w entries =
    codes "\"first\":" ++ (decimal w.from ++ (codes ",\"entries\":" ++ (decimal entries ++ codes ",\n")))
