-- All zones are gone through, and what is begun with, 0, is later than none
use Rattle.std.proofs.Common.{◌≡◌, ◌∙◌, ap, arith, drop, max, sym}
use Rattle.std.specs.Prelude.{ℕ}
use Rattle.std.proofs.Math.Nat.{max-zero}
use Rattle.cell_types.specs.Texts.{all_zone}
use Rattle.cell_measures.specs.Clocks.{greatest, zone_time}
use Rattle.cell_measures.proofs.Latest.{greatest_more}
use Rattle.cell_measures.proofs.clock.Clock.zones_end.Goals as goal

pub loop-zone-preserved : goal.loop-zone-preserved
loop-zone-preserved c = greatest_more (zone_time c.args.self.now.zones c.args.entry.now) all_zone c.loop-zone.zone-index
    _ _ _ _ (omega arith) c.loop-zone.invariant (c.later-end.ensures
    ∙ ap (λ (n : ℕ). max c.loop-zone.end n) c.zone_end.ensures)

pub returns : goal.returns
returns c =
    let last : c.loop-zone.zone-index ≡ 5 = omega (arith, c.loop-zone-test.false, c.loop-zone.auto.zone-index-end) in
    let done : max c.loop-zone.end (greatest (zone_time c.args.self.now.zones c.args.entry.now) (drop 5 all_zone))
    ≡ greatest (zone_time c.args.self.now.zones c.args.entry.now) all_zone = rw last at c.loop-zone.invariant in
    sym (max-zero c.loop-zone.end) ∙ done
