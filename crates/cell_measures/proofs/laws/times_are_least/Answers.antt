-- The times of a whole journal are those after no entries
use Rattle.cell_measures.proofs.Least.{keep_law, least_law, last_law}
use Rattle.cell_measures.proofs.laws.times_are_least.Goals as goal

pub returns : goal.returns
returns c = record {
  keep = keep_law;
  least = least_law;
  time = last_law;
}
