-- What csv says of a read, told in records
use Rattle.csv.specs.Records.{fields_of}
use Rattle.cell_rows.specs.Sights.{bytes_left}
use Rattle.cell_rows.proofs.RowFacts.{takes}
use Rattle.cell_rows.proofs.rows.read_next.Goals as goal

pub returns-in-Ok-clause-takes : goal.returns-in-Ok-clause-takes
returns-in-Ok-clause-takes g c =
    takes (bytes_left g.R.Read.remaining) c.args.reader.now c.read_byte_record.new.self c.in-Ok.found
    (fields_of c.read_byte_record.new.row)
    c.requires.2 (c.in-Ok.ensures.reads c.requires.0 c.requires.1)
