-- Each machine's part is one more of the round's
use Rattle.std.proofs.Common.{rules, tests, ◌≡◌, ◌<◌, ◌+◌, ◌∙◌, ◌∷◌, [], ℕ, add-one, ap, drop, drop-cons, get_or}
use Rattle.std.proofs.Common.{length, refl}
use Rattle.std.proofs.Common.{subst, sym, List}
use Rattle.std.specs.Prelude.{None}
use Rattle.cell_types.specs.Texts.{all_machine}
use Rattle.cell_types.specs.declared.words.Machine.{Machine}
use Rattle.cell_types.specs.declared.words.Machine.TheVariants as machine
use Rattle.cell_rounds.specs.Calls.{halted}
use Rattle.cell_rounds.specs.Runs.{Goes}
use Rattle.cell_rounds.specs.Stands.{Turning, state}
use Rattle.cell_rounds.proofs.Moving.{goes_as, goes_halted, goes_nothing, goes_then}
use Rattle.cell_rounds.proofs.turning.take_turns.Goals as goal

-- the machines that are left begin with the one whose turn it is
turn_of : (i : ℕ) → i < length all_machine
    → drop i all_machine ≡ get_or all_machine i machine.Feed ∷ drop (i + 1) all_machine
turn_of i below = drop-cons all_machine i machine.Feed below
    ∙ ap (λ k. get_or all_machine i machine.Feed ∷ drop k all_machine) (sym (add-one i))

pub loop-machine-init : goal.loop-machine-init
loop-machine-init g c =
    let cell = c.args.cell.now in
    record {
      machines = c.requires;
      limits = refl;
      led = goes_nothing g.C.Plant.told g.K.Keeper.keeps cell.kept.limits c.args.plan.now (Turning all_machine)
          (state c.args.plant.now c.args.keeper.now cell.kept.entries cell.watches cell.pending cell.script cell.lost);
    }

pub returns-in_err-take_part-clause-led : goal.returns-in_err-take_part-clause-led
returns-in_err-take_part-clause-led g c =
    let was = c.args.cell.now in
    let so = c.loop-machine in
    let next = c.take_part.new.cell in
    let told = g.C.Plant.told in
    let keeps = g.K.Keeper.keeps in
    let l = was.kept.limits in
    let p = c.args.plan.now in
    let i = so.machine-index in
    let below : i < length all_machine = search rules in
    let rest = drop (i + 1) all_machine in
    let x = state c.args.plant.now c.args.keeper.now was.kept.entries was.watches was.pending was.script was.lost in
    let y = state so.plant so.keeper so.cell.kept.entries so.cell.watches so.cell.pending so.cell.script so.cell.lost in
    let z = state c.take_part.new.plant c.take_part.new.keeper next.kept.entries next.watches next.pending next.script
    next.lost in
    goes_halted told keeps l p _ _ c.take_part.result _ c.in_err-take_part.field-0.0 (Turning all_machine)
    (Turning rest)
    (Turning []) x z c.from_residual.ensures.1 c.in_err-take_part.was
    (goes_then told keeps l p so.cell.kept.limits (halted c.take_part.result) (Turning all_machine)
    (Turning (get_or all_machine i machine.Feed ∷ rest)) (Turning rest) x y z so.invariant.limits
    (subst (λ (ms : List Machine). Goes told keeps l p None (Turning all_machine) (Turning ms) x y) (turn_of i below)
    so.invariant.led) (c.take_part.ensures.led rest))

pub loop-machine-preserved : goal.loop-machine-preserved
loop-machine-preserved g c =
    let was = c.args.cell.now in
    let so = c.loop-machine in
    let next = c.take_part.new.cell in
    let told = g.C.Plant.told in
    let keeps = g.K.Keeper.keeps in
    let l = was.kept.limits in
    let p = c.args.plan.now in
    let i = so.machine-index in
    let below : i < length all_machine = search rules in
    let rest = drop (i + 1) all_machine in
    let x = state c.args.plant.now c.args.keeper.now was.kept.entries was.watches was.pending was.script was.lost in
    let y = state so.plant so.keeper so.cell.kept.entries so.cell.watches so.cell.pending so.cell.script so.cell.lost in
    let z = state c.take_part.new.plant c.take_part.new.keeper next.kept.entries next.watches next.pending next.script
    next.lost in
    record {
      machines = c.take_part.ensures.machines;
      limits = c.take_part.ensures.limits ∙ so.invariant.limits;
      led = goes_then told keeps l p so.cell.kept.limits None (Turning all_machine)
          (Turning (get_or all_machine i machine.Feed ∷ rest)) (Turning rest) x y z so.invariant.limits
          (subst (λ (ms : List Machine). Goes told keeps l p None (Turning all_machine) (Turning ms) x y)
          (turn_of i below) so.invariant.led)
          (goes_as told keeps so.cell.kept.limits p (halted c.take_part.result) None
          (Turning (get_or all_machine i machine.Feed ∷ rest)) (Turning rest) y z (ap halted c.in_ok-take_part.was)
          (c.take_part.ensures.led rest));
    }

-- all machines had their turns
pub returns-clause-led : goal.returns-clause-led
returns-clause-led g c =
    let was = c.args.cell.now in
    let so = c.loop-machine in
    let all : so.machine-index ≡ 6 = search (rules, tests) in
    subst (λ i. Goes g.C.Plant.told g.K.Keeper.keeps was.kept.limits c.args.plan.now None (Turning all_machine)
    (Turning (drop i all_machine))
    (state c.args.plant.now c.args.keeper.now was.kept.entries was.watches was.pending was.script was.lost)
    (state so.plant so.keeper so.cell.kept.entries so.cell.watches so.cell.pending so.cell.script so.cell.lost)) all
    so.invariant.led
