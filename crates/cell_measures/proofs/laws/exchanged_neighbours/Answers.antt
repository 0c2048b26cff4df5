-- The times of a whole journal are those after no entries
use Rattle.std.proofs.Common.{[]}
use Rattle.cell_measures.proofs.Exchange.{exchanged}
use Rattle.cell_measures.proofs.Sums.{exchanged_last}
use Rattle.cell_measures.proofs.laws.exchanged_neighbours.Goals as goal

pub returns : goal.returns
returns c = record {
  ends = λ ds J K a b ab ba. exchanged ds [] J K a b ab ba;
  time = λ ds J K a b ab ba. exchanged_last _ _ _ (exchanged ds [] J K a b ab ba);
}
