-- What is told of a plate is whether the entry that would be its next is allowed, or why it isn't
use Rattle.std.proofs.Common.{◌≡◌, None, Some, sym}
use Rattle.cell_rules.specs.Legal.{first_of}
use Rattle.cell_explain.specs.Plates.{next_entry}
use Rattle.cell_explain.proofs.endings.plates.write_plate.Goals as goal

pub returns-in-Ok : goal.returns-in-Ok
returns-in-Ok g c =
    let l = c.args.book.now.limits in
    let J = c.args.book.now.entries in
    let free : first_of l J (next_entry J c.args.station c.args.plate) ≡ None =
    rw (sym c.next_entry-entry.ensures) c.in-Ok.ensures.first in
    rw free (rw (c.number-number.ensures.value, c.station_name-at.ensures, c.next_entry-entry.ensures) at
    c.writeln.ensures.bytes)

pub returns-in-Err : goal.returns-in-Err
returns-in-Err g c =
    let l = c.args.book.now.limits in
    let J = c.args.book.now.entries in
    let refused : first_of l J (next_entry J c.args.station c.args.plate) ≡ Some c.in-Err.why =
    rw (sym c.next_entry-entry.ensures) c.in-Err.ensures.first in
    rw refused (rw (c.number-number.ensures.value, c.station_name-at.ensures, c.next_entry-entry.ensures) at
    c.writeln-in-Err.ensures.bytes)
