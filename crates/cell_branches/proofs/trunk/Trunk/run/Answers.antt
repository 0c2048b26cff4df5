-- The run without faults goes on from stop to stop
use Rattle.std.proofs.Common.{◌∙◌, All, List, ap, refl, rules, sym, subst}
use Rattle.std.proofs.lemmas.List.Elements.{All-nil}
use Rattle.cell_ports.specs.declared.plan.Plan.{Plan}
use Rattle.cell_sim.specs.Simulated.{Simulated}
use Rattle.sim_plant.specs.Faultless.{faultless_cell}
use Rattle.operator_desk.specs.declared.line.Line.{Line}
use Rattle.cell_branches.specs.Trunks.{IsOnWay, IsStop}
use Rattle.cell_branches.proofs.Branching.{on_way_at_first}
use Rattle.cell_branches.proofs.trunk.Trunk.run.Goals as goal

pub loop-stop-init : goal.loop-stop-init
loop-stop-init c =
    let p = c.args.plan.now in
    let P = IsStop p c.args.script in
    record {
      plan = refl;
      script = refl;
      stops = subst (All P) (sym c.new-2.ensures.items) (All-nil P);
      way = on_way_at_first p c.args.script c.in_ok-copy.field-0 c.in_ok-empty_book.field-0.limits
          c.in_ok-empty_book.field-0.entries c.new-cell.result c.start-pause.result c.start-pause.ensures
          (search rules) (search rules) c.in_ok-copy.ensures
          (c.new-cell.ensures ∙ ap (λ (w : Simulated). faultless_cell w _) c.new.ensures);
    }

pub keep-requires : goal.keep-requires
keep-requires c =
    let so = c.loop-stop in
    subst (λ (p : Plan). IsOnWay p so.trunk.script so.cell so.pause) (sym so.invariant.plan)
    (subst (λ (s : List Line). IsOnWay c.args.plan.now s so.cell so.pause) (sym so.invariant.script) so.invariant.way)

pub returns-in_default-clause-on_way : goal.returns-in_default-clause-on_way
returns-in_default-clause-on_way c = c.in_ok-keep.ensures.on_way c.loop-stop.invariant.stops

pub loop-stop-preserved : goal.loop-stop-preserved
loop-stop-preserved c =
    let so = c.loop-stop in
    record {
      plan = c.in_ok-keep.ensures.plan ∙ so.invariant.plan;
      script = c.in_ok-keep.ensures.script ∙ so.invariant.script;
      stops = c.in_ok-keep.ensures.on_way so.invariant.stops;
      way = c.in-Some.ensures c.args.script so.invariant.way;
    }
