-- An entry begins when the last of its machine, its plate and its zones have ended
use Rattle.std.proofs.Common.{◌∙◌, ap, ℕ, Option}
use Rattle.cell_types.specs.declared.words.Machine.{Machine}
use Rattle.cell_types.specs.Same.{machine_number}
use Rattle.cell_measures.specs.Clocks.{plate_time}
use Rattle.cell_measures.proofs.Latest.{begins_law}
use Rattle.cell_measures.proofs.clock.Clock.begins.Goals as goal

pub returns : goal.returns
returns c =
    λ past k. begins_law c.args.self.now past c.args.entry.now _ _ _ _ _ k
    (c.machine_number.ensures.value ∙ ap (λ (m : Machine). machine_number m) c.machine_of.ensures)
    (c.plate_end-plate.ensures ∙ ap (λ (o : Option ℕ). plate_time c.args.self.now.plates.items o) c.plate_of.ensures)
    c.zones_end-zones.ensures c.later.ensures c.later-2.ensures
