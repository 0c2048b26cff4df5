-- The last command is settled, and then the machine takes its turn, or doesn't
use Rattle.std.proofs.Common.{◌∷◌, ◌∙◌, ap, subst}
use Rattle.std.specs.Prelude.{Bool, Result, Ok, true, false}
use Rattle.cell_rules.specs.History.{History}
use Rattle.cell_rounds.specs.Calls.{Settles, halted}
use Rattle.cell_rounds.specs.Stands.{Turning, desk, last_of, state}
use Rattle.cell_rounds.specs.declared.progress.Halt.{Halt}
use Rattle.cell_rounds.proofs.Moving.{goes_halted, goes_then}
use Rattle.cell_rounds.proofs.Turns.{goes_settled, settled}
use Rattle.cell_rounds.proofs.turning.take_part.Goals as goal

pub returns-in_err-is_settled-clause-led : goal.returns-in_err-is_settled-clause-led
returns-in_err-is_settled-clause-led g c = λ rest.
    let told = g.C.Plant.told in
    let keeps = g.K.Keeper.keeps in
    let cell = c.args.cell.now in
    let next = c.is_settled.new.cell in
    let l = cell.kept.limits in
    let p = c.args.plan.now in
    rw (c.is_settled.ensures.same.0, c.is_settled.ensures.same.1, c.is_settled.ensures.same.2)
    (goes_halted told keeps l p _ _ c.is_settled.result _ c.in_err-is_settled.field-0.0 (Turning
    (c.args.machine ∷ rest))
    (settled c.is_settled.result c.args.machine rest) (Turning rest)
    (state c.args.plant.now c.args.keeper.now cell.kept.entries cell.watches cell.pending cell.script cell.lost)
    (state c.is_settled.new.plant c.args.keeper.now cell.kept.entries next.watches next.pending cell.script cell.lost)
    c.from_residual.ensures.1 c.in_err-is_settled.was
    (goes_settled told keeps l p c.args.machine rest c.is_settled.result c.args.plant.now c.is_settled.new.plant
    c.args.keeper.now cell.kept.entries cell.watches next.watches (last_of cell.pending) (last_of next.pending)
    (desk cell.script cell.lost) c.is_settled.ensures.settles))

pub returns-then-not-branch-clause-led : goal.returns-then-not-branch-clause-led
returns-then-not-branch-clause-led g c = λ rest.
    let told = g.C.Plant.told in
    let keeps = g.K.Keeper.keeps in
    let cell = c.args.cell.now in
    let next = c.is_settled.new.cell in
    let l = cell.kept.limits in
    let p = c.args.plan.now in
    let settles = subst (λ (r : Result Bool Halt). Settles told c.args.machine r (last_of cell.pending) c.args.plant.now
    c.is_settled.new.plant cell.watches next.watches (last_of next.pending)) (c.in_ok-is_settled.was ∙ ap (λ
    (b : Bool). Ok b) c.if-not-branch.true)
    c.is_settled.ensures.settles in
    rw (c.is_settled.ensures.same.0, c.is_settled.ensures.same.1, c.is_settled.ensures.same.2)
    (goes_settled told keeps l p c.args.machine rest (Ok false) c.args.plant.now c.is_settled.new.plant
    c.args.keeper.now cell.kept.entries cell.watches next.watches (last_of cell.pending) (last_of next.pending)
    (desk cell.script cell.lost) settles)

pub returns-clause-led : goal.returns-clause-led
returns-clause-led g c = λ rest.
    let told = g.C.Plant.told in
    let keeps = g.K.Keeper.keeps in
    let cell = c.args.cell.now in
    let next = c.is_settled.new.cell in
    let last = c.take_turn.new.cell in
    let l = cell.kept.limits in
    let p = c.args.plan.now in
    let m = c.args.machine in
    let same = c.is_settled.ensures.same in
    let settles = subst (λ (r : Result Bool Halt). Settles told m r (last_of cell.pending) c.args.plant.now
    c.is_settled.new.plant cell.watches next.watches (last_of next.pending)) (c.in_ok-is_settled.was ∙ ap (λ
    (b : Bool). Ok b) c.if-not-branch.false)
    c.is_settled.ensures.settles in
    goes_then told keeps l p next.kept.limits (halted c.take_turn.result) (Turning (m ∷ rest)) (Turning (m ∷ rest))
    (Turning rest)
    (state c.args.plant.now c.args.keeper.now cell.kept.entries cell.watches cell.pending cell.script cell.lost)
    (state c.is_settled.new.plant c.args.keeper.now next.kept.entries next.watches next.pending next.script next.lost)
    (state c.take_turn.new.plant c.take_turn.new.keeper last.kept.entries last.watches last.pending last.script
    last.lost)
    (ap (λ (h : History). h.limits) same.0)
    (rw (same.0, same.1, same.2)
    (goes_settled told keeps l p m rest (Ok true) c.args.plant.now c.is_settled.new.plant c.args.keeper.now
    cell.kept.entries cell.watches next.watches (last_of cell.pending) (last_of next.pending)
    (desk cell.script cell.lost) settles))
    (c.take_turn.ensures.led rest)
