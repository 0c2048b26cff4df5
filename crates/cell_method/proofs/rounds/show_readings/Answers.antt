use Rattle.std.proofs.Common.{rules, tests, ◌≡◌, ◌<◌, ◌∙◌, ◌+◌, ◌∷◌, length, drop, drop-cons, add-one, get_or, ap}
use Rattle.std.proofs.Common.{subst, sym}
use Rattle.cell_types.specs.Texts.{all_machine}
use Rattle.cell_types.specs.declared.words.Machine.TheVariants as machine
use Rattle.cell_method.specs.Order.{Showing, between}
use Rattle.cell_method.specs.Rounds.{Goes, SameDesk}
use Rattle.cell_method.proofs.Runs.{broke-shown, goes-nothing, goes-shown}
use Rattle.cell_method.proofs.rounds.show_readings.Goals as goal

pub loop-machine-init : goal.loop-machine-init
loop-machine-init g c = λ l s J all fits. goes-nothing g.P.Port.tells g.P.Port.log l s between all J c.args.ports.now
    (g.W.Write.contents c.args.writer.now) fits

pub returns-in_err-show-clause-broke : goal.returns-in_err-show-clause-broke
returns-in_err-show-clause-broke g c = λ _ l s J all fits.
    let i = c.loop-machine.machine-index in
    let below : i < length all_machine = search rules in
    let turn : drop i all_machine ≡ get_or all_machine i machine.Feed ∷ drop (i + 1) all_machine =
    drop-cons all_machine i machine.Feed below
    ∙ ap (λ k. get_or all_machine i machine.Feed ∷ drop k all_machine) (sym (add-one i)) in
    broke-shown _ _ _ _ _ _ _ _ _ _ _ _ _ _ c.read-reading.result c.pick.result.now c.read-reading.new.self
    turn (c.loop-machine.invariant l s J all fits) c.pick.ensures.value c.read-reading.ensures.still
    c.read-reading.ensures.told

pub loop-machine-preserved : goal.loop-machine-preserved
loop-machine-preserved g c = λ l s J all fits.
    let i = c.loop-machine.machine-index in
    let below : i < length all_machine = search rules in
    let turn : drop i all_machine ≡ get_or all_machine i machine.Feed ∷ drop (i + 1) all_machine =
    drop-cons all_machine i machine.Feed below
    ∙ ap (λ k. get_or all_machine i machine.Feed ∷ drop k all_machine) (sym (add-one i)) in
    goes-shown _ _ _ _ _ _ _ _ _ _ _ _ _ _ _ c.read-reading.result c.pick.result.now c.read-reading.new.self
    turn (c.loop-machine.invariant l s J all fits) c.pick.ensures.value c.read-reading.ensures.still
    c.read-reading.ensures.told c.in_ok-show.ensures.told

-- all machines were shown
pub returns-clause-goes : goal.returns-clause-goes
returns-clause-goes g c = λ l s J all fits.
    let all-of : c.loop-machine.machine-index ≡ 6 = search (rules, tests) in
    subst (λ i. Goes g.P.Port.tells g.P.Port.log l s between (Showing (drop i all_machine)) all all J
    c.loop-machine.ports (SameDesk s) (g.W.Write.contents c.args.writer.now)
    (g.W.Write.contents c.loop-machine.writer)) all-of (c.loop-machine.invariant l s J all fits)
