-- New ledgers, for a run
use Rattle.std.specs.Prelude.{ℕ, ◌≡◌}
use Rattle.cell_ledger.specs.declared.run.Run.{Ghosts}
use Rattle.cell_ledger.specs.declared.blanks.Blanks.{Blanks}

-- each of the six ledgers has so many parts
pub record HaveParts (parts : ℕ) (b : Blanks) : Type 0 where
  pub entries : b.entries.parts ≡ parts
  pub admitted : b.admitted.parts ≡ parts
  pub forged : b.forged.parts ≡ parts
  pub quarantined : b.quarantined.parts ≡ parts
  pub delivered : b.delivered.parts ≡ parts
  pub reinstated : b.reinstated.parts ≡ parts

-- the six ledgers are those of this run: they have its names, and its parts
pub record AreBlank {T : Type 0} (run : Ghosts T) (b : Blanks) : Type 0 where
  pub entries : b.entries.name ≡ run.entries_name
  pub admitted : b.admitted.name ≡ run.admitted_name
  pub forged : b.forged.name ≡ run.forged_name
  pub quarantined : b.quarantined.name ≡ run.quarantined_name
  pub delivered : b.delivered.name ≡ run.delivered_name
  pub reinstated : b.reinstated.name ≡ run.reinstated_name
  pub parts : HaveParts run.parts b
