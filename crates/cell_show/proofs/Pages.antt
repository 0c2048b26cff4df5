-- The rows of a page, one more at a time
use Rattle.std.proofs.Common.{◌≡◌, ◌+◌, ◌-◌, ◌<◌, ◌≤◌, ◌++◌, ℕ, zero, suc, List, [], ◌∷◌, Option, None, Some, Result}
use Rattle.std.proofs.Common.{Bool, true, false}
use Rattle.std.proofs.Common.{Ok, Err, length, take, refl, sym, ap, ap₂, ◌∙◌, arith, append_assoc, subst}
use Rattle.std.specs.Prelude.{OnOk, codes, decimal, if◌then◌else◌, slice_get}
use Rattle.std.specs.Borrow.{Bor}
use Rattle.std.specs.Io.KnownBytes.{Appends}
use Rattle.std.proofs.KnownBytes.{Appends-trans}
use Rattle.std.proofs.lemmas.List.{length-take}
use Rattle.cell_types.specs.declared.words.Entry.{Entry}
use Rattle.cell_audit.specs.declared.error.AuditError.{AuditError}
use Rattle.cell_picture.specs.Told.{last_of}
use Rattle.cell_show.specs.Beside.{WritesBeside, escaped, name_text}
use Rattle.cell_show.specs.Refused.{refused_line}
use Rattle.cell_show.specs.Page.{AppendsSome, ShowsChart, WritesData, WritesPage, answer_line, chart_section}
use Rattle.cell_show.specs.Page.{chart_start, data_text, last_text, no_scripts_text, row_of, rows_on, rows_text}
use Rattle.cell_show.specs.Waits.{WritesWaits}
use Rattle.cell_show.specs.Window.{answer_at, end_of, shown_of, shows_all, window_data, window_line, window_text}
use Rattle.cell_show.specs.declared.page.window.Window.{Window}

-- the first entries of a journal keep their places
get-taken : (J : List Entry) (i : ℕ) → slice_get (take (suc i) J) i ≡ slice_get J i
get-taken [] i = refl
get-taken (e ∷ J) zero = refl
get-taken (e ∷ J) (suc i) = get-taken J i

-- the last of the first i entries
pub last_taken : (J : List Entry) (i : ℕ) (last : Option Entry) → i ≤ length J → (i ≡ 0 → last ≡ None)
    → (0 < i → last ≡ slice_get J (i - 1)) → last ≡ last_of (take i J)
last_taken J zero last h none some = none refl
last_taken J (suc i) last h none some =
    let same : suc i - 1 ≡ i = omega arith in
    let long : length (take (suc i) J) - 1 ≡ i = omega (arith, length-take (suc i) J) in
    some (omega arith) ∙ ap (slice_get J) same ∙ sym (get-taken J i) ∙ ap (slice_get (take (suc i) J)) (sym long)

-- the first row
pub first_row : (J : List Entry) (from more : ℕ) (old new : Option (List ℕ)) (text : List ℕ) → more ≡ 0
    → text ≡ row_of (take from J) → Appends old new text → Appends old new (rows_on J from more)
unfolding rows_on
first_row J from more old new text none is wrote =
    rw none (subst (Appends old new) is wrote)

-- one more row
next_row : (J : List Entry) (from more : ℕ) (old so_far new : Option (List ℕ)) (text : List ℕ)
    → text ≡ codes ",\n" ++ row_of (take (from + suc more) J)
    → Appends old so_far (rows_on J from more) → Appends so_far new text → Appends old new (rows_on J from (suc more))
unfolding rows_on
next_row J from more old so_far new text is before wrote =
    subst (λ t. Appends old new (rows_on J from more ++ t)) is
    (Appends-trans old so_far new (rows_on J from more) text before wrote)

-- the same after so many entries
pub row_more : (J : List Entry) (from i : ℕ) (old so_far new : Option (List ℕ)) (text : List ℕ) → from ≤ i
    → text ≡ codes ",\n" ++ row_of (take (i + 1) J)
    → Appends old so_far (rows_on J from (i - from)) → Appends so_far new text
    → Appends old new (rows_on J from (i + 1 - from))
row_more J from i old so_far new text past is before wrote =
    let place : from + suc (i - from) ≡ i + 1 = omega (arith, past) in
    let more : i + 1 - from ≡ suc (i - from) = omega (arith, past) in
    let row = is ∙ ap (λ (k : ℕ). codes ",\n" ++ row_of (take k J)) (sym place) in
    subst (λ (k : ℕ). Appends old new (rows_on J from k)) (sym more)
    (next_row J from (i - from) old so_far new text row before wrote)

-- the rows of a window
pub window_rows : (w : Window) (J : List Entry) (from until entries : ℕ) (old new : Option (List ℕ)) → from ≡ w.from
    → until ≡ end_of w entries → entries ≡ length J
    → Appends old new (rows_on J from (until - from)) → Appends old new (rows_text w J)
window_rows w J from until entries old new first last count wrote =
    let shown : until - from ≡ shown_of w (length J) = omega (arith, first, last, count) in
    subst (λ (k : ℕ). Appends old new (rows_on J w.from k)) shown
    (subst (λ (k : ℕ). Appends old new (rows_on J k (until - from))) first wrote)

-- the line that tells which states are shown, where they aren't all
else_told : (all : Bool) (text : List ℕ) → all ≡ false → (if all then [] else text) ≡ text
else_told false text partly = refl
else_told true text partly = cc partly

pub window_told : (w : Window) (until entries count : ℕ) (all : Bool) → all ≡ false → all ≡ shows_all w entries
    → until ≡ end_of w entries → entries ≡ count
    → codes "<p class=\"shown\">This page shows the states after "
    ++ (decimal w.from ++ (codes " to " ++ (decimal until ++ (codes " entries of the journal, which has "
    ++ (decimal entries ++ codes ". The options --from and --count choose others.</p>\n")))))
    ≡ window_line w count
window_told w until entries count all partly is last same =
    let text : List ℕ = window_text w entries in
    let until_told = ap (λ (k : ℕ). codes "<p class=\"shown\">This page shows the states after "
    ++ (decimal w.from ++ (codes " to " ++ (decimal k ++ (codes " entries of the journal, which has "
    ++ (decimal entries ++ codes ". The options --from and --count choose others.</p>\n")))))) last in
    let line : window_line w entries ≡ text = else_told (shows_all w entries) text (sym is ∙ partly) in
    until_told ∙ sym line ∙ ap (λ (k : ℕ). window_line w k) same

-- what is shown where partly scripts run, of the first entries
pub no_scripts : (J : List Entry) (n : ℕ) (last : Option Entry) → n ≤ length J → last ≡ last_of (take n J)
    → codes "<noscript><p class=\"answer\">This page needs scripts to show the states after "
    ++ (decimal n ++ (codes " entries. " ++ (last_text last ++ codes "</p></noscript>\n")))
    ≡ no_scripts_text (take n J)
no_scripts J n last within is =
    let count : n ≡ length (take n J) = omega (arith, length-take n J, within) in
    ap₂ (λ (k : ℕ) (e : Option Entry).
    codes "<noscript><p class=\"answer\">This page needs scripts to show the states after "
    ++ (decimal k ++ (codes " entries. " ++ (last_text e ++ codes "</p></noscript>\n")))) count is

-- more text after some
pub some_more : (a b c : Option (List ℕ)) (text : List ℕ) → AppendsSome a b → Appends b c text → AppendsSome a c
some_more a b c text before wrote = record {
  text = before.text ++ text;
  whole =
      Appends-trans a b c before.text text before.whole wrote;
}

-- some text after some
pub some_after : (a b c : Option (List ℕ)) → AppendsSome a b → AppendsSome b c → AppendsSome a c
some_after a b c before after = some_more a b c after.text before after.whole

-- where the last write fails nothing is said of the text
pub some_on : {X E : Type 0} (r : Result X E) (a b c : Option (List ℕ)) → AppendsSome a b → OnOk r (AppendsSome b c)
    → OnOk r (AppendsSome a c)
some_on (Ok x) a b c before after = some_after a b c before after
some_on (Err e) a b c before after = tt

-- a chart's section, piece by piece
pub chart_written : (chart : Bor (List ℕ)) (c0 c1 c2 c3 : Option (List ℕ)) → Appends c0 c1 chart_start
    → Appends c1 c2 chart.now → Appends c2 c3 (codes "</div>\n</section>\n")
    → Appends c0 c3 (chart_section (Some chart))
chart_written chart c0 c1 c2 c3 h0 h1 h2 = Appends-trans c0 c1 c3 _ _ h0 (Appends-trans c1 c2 c3 _ _ h1 h2)

-- the data of a page, piece by piece
pub data_whole : (w : Window) (J : List Entry) (answer at_end : Option AuditError) (refused : Option Entry) (more : ℕ)
    (c0 c1 c2 c3 c4 c5 : Option (List ℕ)) → at_end ≡ answer_at w (length J) answer → more ≡ shown_of w (length J)
    → Appends c0 c1 (window_data w (length J)) → Appends c1 c2 (refused_line at_end refused)
    → WritesWaits c2 c3 J w.from more → Appends c3 c4 (codes "\"rows\":[\n") → Appends c4 c5 (rows_text w J)
    → WritesData c0 c5 w J answer refused
data_whole w J answer at_end refused more c0 c1 c2 c3 c4 c5 is all h0 h1 wrote h3 h4 =
    let step : Appends c1 c2 (refused_line (answer_at w (length J) answer) refused) =
    subst (λ (a : Option AuditError). Appends c1 c2 (refused_line a refused)) is h1 in
    let lists : WritesWaits c2 c3 J w.from (shown_of w (length J)) =
    subst (λ (n : ℕ). WritesWaits c2 c3 J w.from n) all wrote in
    record {
      waits = lists.lists;
      waiting = lists.told;
      whole = Appends-trans c0 c1 c5 _ _ h0 (Appends-trans c1 c2 c5 _ _ step
          (Appends-trans c2 c3 c5 _ _ lists.whole (Appends-trans c3 c4 c5 _ _ h3 h4)));
    }

-- a page, piece by piece
pub page_whole : (w : Window) (J : List Entry) (answer : Option AuditError) (refused : Option Entry)
    (chart : Option (Bor (List ℕ)))
    (c0 c1 c2 still c3 c4 line c5 c6 c7 c8 end c11 c12 : Option (List ℕ))
    (head parts lists middle script more : List ℕ)
    → Appends c0 c1 head → Appends c1 c2 (no_scripts_text (take (end_of w (length J)) J)) → AppendsSome c2 still
    → Appends still c3 parts → Appends c3 c4 (answer_line answer) → Appends c4 line (window_line w (length J))
    → Appends line c5 lists → Appends c5 c6 (chart_section chart) → Appends c6 c7 middle
    → AppendsSome c7 c8 → WritesData c8 end w J answer refused → Appends end c11 script
    → Appends c11 c12 more → WritesPage c0 c12 w J answer refused chart
page_whole w J answer refused chart c0 c1 c2 still c3 c4 line c5 c6 c7 c8 end c11 c12 head parts lists middle script
    more h0 h1 picture h2 h3 shown h4 h5 h6 some facts h8 h9 =
    let drawing = some_more c2 still c3 parts picture h2 in
    record {
      head = head;
      drawing = drawing.text;
      lists = lists;
      middle = middle;
      words = some.text;
      waits = facts.waits;
      waiting = facts.waiting;
      scripts = script ++ more;
      whole =
          Appends-trans c0 c1 c12 _ _ h0 (Appends-trans c1 c2 c12 _ _ h1
          (Appends-trans c2 c3 c12 _ _ drawing.whole (Appends-trans c3 c4 c12 _ _ h3
          (Appends-trans c4 line c12 _ _ shown (Appends-trans line c5 c12 _ _ h4
          (Appends-trans c5 c6 c12 _ _ h5 (Appends-trans c6 c7 c12 _ _ h6
          (Appends-trans c7 c8 c12 _ _ some.whole (Appends-trans c8 end c12 _ _ facts.whole
          (Appends-trans end c11 c12 _ _ h8 h9))))))))));
    }

-- a text that stands in the middle of others
in_the_middle : (a b c d e f s text t u : List ℕ)
    → a ++ (b ++ (c ++ (d ++ (e ++ (f ++ ((s ++ (text ++ t)) ++ u)))))) ≡ (a ++ (b ++ (c ++ (d ++ (e ++ (f ++ s))))))
    ++ (text ++ (t ++ u))
in_the_middle a b c d e f s text t u = simp append_assoc

-- a page's chart stands in it
pub shows_chart : (w : Window) (J : List Entry) (answer : Option AuditError) (refused : Option Entry)
    (chart : Option (Bor (List ℕ))) (old new : Option (List ℕ)) → WritesPage old new w J answer refused chart
    → ShowsChart old new chart
shows_chart w J answer refused None old new page = tt
shows_chart w J answer refused (Some chart) old new page =
    let end = codes "</div>\n</section>\n" in
    let rest = page.middle ++ (page.words ++ (data_text page.waits w J answer refused ++ page.scripts)) in
    let moved = in_the_middle page.head (no_scripts_text (take (end_of w (length J)) J)) page.drawing
    (answer_line answer) (window_line w (length J)) page.lists chart_start chart.now end rest in
    record { before = _; after = _; whole = subst (Appends old new) moved page.whole }

-- two pages in one, piece by piece
pub beside_whole : (first_name second_name first second : List ℕ) (c0 c1 c2 c3 c4 c5 c6 c7 c8 c9 : Option (List ℕ))
    (head frame middle other end : List ℕ)
    → Appends c0 c1 head → Appends c1 c2 (name_text first_name) → Appends c2 c3 frame → Appends c3 c4 (escaped first)
    → Appends c4 c5 middle → Appends c5 c6 (name_text second_name) → Appends c6 c7 other
    → Appends c7 c8 (escaped second) → Appends c8 c9 end → WritesBeside c0 c9 first_name second_name first second
beside_whole first_name second_name first second c0 c1 c2 c3 c4 c5 c6 c7 c8 c9 head frame middle other end h0 h1 h2 h3
    h4 h5 h6 h7 h8 =
    record {
      head = head;
      frame = frame;
      middle = middle;
      other = other;
      end = end;
      whole =
          Appends-trans c0 c1 c9 _ _ h0 (Appends-trans c1 c2 c9 _ _ h1 (Appends-trans c2 c3 c9 _ _ h2
          (Appends-trans c3 c4 c9 _ _ h3 (Appends-trans c4 c5 c9 _ _ h4 (Appends-trans c5 c6 c9 _ _ h5
          (Appends-trans c6 c7 c9 _ _ h6 (Appends-trans c7 c8 c9 _ _ h7 h8)))))));
    }
