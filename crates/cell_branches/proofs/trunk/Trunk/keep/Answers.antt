-- Where the run is paused is one more stop on its way
use Rattle.std.proofs.Common.{[], ◌∷◌, All, sym, subst}
use Rattle.std.proofs.lemmas.List.Elements.{All-append, All-cons, All-nil}
use Rattle.sim_plant.specs.Faultless.{FaultlessCell}
use Rattle.cell_rounds.specs.Pauses.{Paused}
use Rattle.cell_branches.specs.Trunks.{IsOnWay, IsStop, IsTrunk, TrunkOf}
use Rattle.cell_branches.specs.declared.trunk.Stop.{Stop}
use Rattle.cell_branches.proofs.trunk.Trunk.keep.Goals as goal

pub returns-in_err-push-clause-on_way : goal.returns-in_err-push-clause-on_way
returns-in_err-push-clause-on_way c = λ trunk.
    subst (All (IsStop c.self.inside.plan c.self.inside.script)) (sym c.in_err-push.ensures.items)
    (subst IsTrunk (sym c.self.view_is) trunk)

pub returns-clause-on_way : goal.returns-clause-on_way
returns-clause-on_way c = λ trunk.
    let p = c.self.inside.plan in
    let script = c.self.inside.script in
    let P = IsStop p script in
    let stop : Stop = record { pause = c.copy-2.result; cell = c.copy-3.result } in
    let here = subst (λ (t : TrunkOf). IsOnWay t.plan t.script c.args.cell.now c.args.pause.now) (sym c.self.view_is)
    c.requires in
    let way : P stop = subst (λ (q : Paused). IsOnWay p script c.copy-3.result q) (sym c.copy-2.ensures)
    (subst (λ (x : FaultlessCell). IsOnWay p script x c.args.pause.now) (sym c.copy-3.ensures) here) in
    subst (All P) (sym c.in_ok-push.ensures.items)
    (All-append P c.self.inside.stops.items (stop ∷ []) (subst IsTrunk (sym c.self.view_is) trunk)
    (All-cons P stop [] way (All-nil P)))
