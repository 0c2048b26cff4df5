-- Sums of totals
use Rattle.std.specs.Prelude.{◌<◌, ◌≤◌, ◌+◌, ◌^◌, [], ◌∷◌}
use Rattle.cell_types.specs.declared.words.Totals.{Totals}
use Rattle.cell_types.specs.declared.words.Entry.{Entry}
use Rattle.cell_rules.specs.Views.{count_of}

abbrev pub nothing : Totals
nothing = record { entries = 0; admitted = 0; forged = 0; quarantined = 0; delivered = 0; reinstated = 0 }

abbrev pub plus : Totals → Totals → Totals
plus a b =
    record {
      entries = a.entries + b.entries;
      admitted = a.admitted + b.admitted;
      forged = a.forged + b.forged;
      quarantined = a.quarantined + b.quarantined;
      delivered = a.delivered + b.delivered;
      reinstated = a.reinstated + b.reinstated;
    }

-- what one entry counts
abbrev pub count_one : Entry → Totals
count_one e = count_of (e ∷ [])

-- no count passes the largest u32
pub record AreCounts (t : Totals) : Type 0 where
  pub entries : t.entries < 2 ^ 32
  pub admitted : t.admitted < 2 ^ 32
  pub forged : t.forged < 2 ^ 32
  pub quarantined : t.quarantined < 2 ^ 32
  pub delivered : t.delivered < 2 ^ 32
  pub reinstated : t.reinstated < 2 ^ 32

-- no count of a passes that of b
pub record AreWithin (a b : Totals) : Type 0 where
  pub entries : a.entries ≤ b.entries
  pub admitted : a.admitted ≤ b.admitted
  pub forged : a.forged ≤ b.forged
  pub quarantined : a.quarantined ≤ b.quarantined
  pub delivered : a.delivered ≤ b.delivered
  pub reinstated : a.reinstated ≤ b.reinstated
