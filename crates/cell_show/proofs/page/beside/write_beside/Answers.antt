-- The two pages are written behind their names, with a text before, between and behind them
use Rattle.std.proofs.Common.{List, ℕ, subst}
use Rattle.std.specs.Io.KnownBytes.{Appends}
use Rattle.cell_show.specs.Beside.{name_text}
use Rattle.cell_show.proofs.Pages.{beside_whole}
use Rattle.cell_show.proofs.page.beside.write_beside.Goals as goal

pub returns-clause-pages : goal.returns-clause-pages
returns-clause-pages g c =
    let contents = g.W.Write.contents in
    let one = subst (λ (name : List ℕ). Appends (contents c.write_all.new.self) (contents c.write_name.new.writer)
    (name_text name)) c.as_bytes-2.ensures.value c.in_ok-write_name.ensures.text in
    let two = subst (λ (name : List ℕ). Appends (contents c.write_all-3.new.self) (contents c.write_name-2.new.writer)
    (name_text name)) c.as_bytes-5.ensures.value c.in_ok-write_name-2.ensures.text in
    beside_whole c.args.first_name.now c.args.second_name.now c.args.first.now c.args.second.now
    _ _ _ _ _ _ _ _ _ _ _ _ _ _ _ c.in_ok-write_all.ensures.bytes one c.in_ok-write_all-2.ensures.bytes
    c.in_ok-write_escaped.ensures.text c.in_ok-write_all-3.ensures.bytes two c.in_ok-write_all-4.ensures.bytes
    c.in_ok-write_escaped-2.ensures.text c.in_ok-write_all-5.ensures.bytes
