-- The loop over the zones
use Rattle.std.proofs.Common.{◌≡◌, drop, max}
use Rattle.cell_types.specs.Texts.{all_zone}
use Rattle.cell_measures.specs.Clocks.{greatest, zone_time}
use Rattle.cell_measures.proofs.clock.Clock.zones_end.Given as goal

-- the later of what was found and of what is left is the latest of all
abbrev pub invariant-loop-zone : goal.invariant-loop-zone
invariant-loop-zone l = max l.end (greatest (zone_time l.self.zones l.entry) (drop l.zone-index all_zone))
    ≡ greatest (zone_time l.self.zones l.entry) all_zone
