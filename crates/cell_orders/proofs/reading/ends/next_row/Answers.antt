-- What csv says of a read, told in records
use Rattle.csv.specs.Records.{fields_of}
use Rattle.cell_rows.proofs.RowFacts.{takes}
use Rattle.cell_orders.proofs.reading.ends.next_row.Goals as goal

pub returns-clause-takes : goal.returns-clause-takes
returns-clause-takes g c =
    takes g.R.Read.remaining c.args.reader.now c.read_byte_record.new.self c.in-Ok.found
    (fields_of c.read_byte_record.new.row) c.requires.2
    (c.in-Ok.ensures.reads c.requires.0 c.requires.1)
