-- The parts of a round follow one another
use Rattle.std.proofs.Common.{◌∙◌, [], ap}
use Rattle.std.specs.Prelude.{None}
use Rattle.cell_types.specs.Texts.{all_machine}
use Rattle.cell_rounds.specs.Calls.{halted}
use Rattle.cell_rounds.specs.Stands.{Closing, Noting, Serving, Turning, state}
use Rattle.cell_rounds.proofs.Moving.{goes_as, goes_halted, goes_then}
use Rattle.cell_rounds.proofs.run.act.Goals as goal

pub returns-in_err-book_acts-clause-led : goal.returns-in_err-book_acts-clause-led
returns-in_err-book_acts-clause-led g c =
    let told = g.C.Plant.told in
    let keeps = g.K.Keeper.keeps in
    let p = c.args.plan.now in
    let was = c.args.cell.now in
    let l = was.kept.limits in
    let x = state c.args.plant.now c.args.keeper.now was.kept.entries was.watches was.pending was.script was.lost in
    let one = c.book_acts.new.cell in
    let ones = state c.book_acts.new.plant c.book_acts.new.keeper one.kept.entries one.watches one.pending one.script
    one.lost in
    goes_halted told keeps l p _ _ c.book_acts.result _ c.in_err-book_acts.field-0.0 (Noting 0)
    (Turning all_machine) Closing x ones
    c.from_residual.ensures.1 c.in_err-book_acts.was
    (c.book_acts.ensures.led p)

pub returns-in_err-take_turns-clause-led : goal.returns-in_err-take_turns-clause-led
returns-in_err-take_turns-clause-led g c =
    let told = g.C.Plant.told in
    let keeps = g.K.Keeper.keeps in
    let p = c.args.plan.now in
    let was = c.args.cell.now in
    let l = was.kept.limits in
    let x = state c.args.plant.now c.args.keeper.now was.kept.entries was.watches was.pending was.script was.lost in
    let one = c.book_acts.new.cell in
    let ones = state c.book_acts.new.plant c.book_acts.new.keeper one.kept.entries one.watches one.pending one.script
    one.lost in
    let two = c.take_turns.new.cell in
    let twos = state c.take_turns.new.plant c.take_turns.new.keeper two.kept.entries two.watches two.pending two.script
    two.lost in
    let acts = goes_as told keeps l p (halted c.book_acts.result) None (Noting 0) (Turning all_machine) x ones
    (ap halted c.in_ok-book_acts.was) (c.book_acts.ensures.led p) in
    goes_halted told keeps l p _ _ c.take_turns.result _ c.in_err-take_turns.field-0.0 (Noting 0)
    (Turning []) Closing x twos
    c.from_residual-in_err-take_turns.ensures.1 c.in_err-take_turns.was
    (goes_then told keeps l p one.kept.limits (halted c.take_turns.result) (Noting 0) (Turning all_machine) (Turning [])
    x ones twos c.book_acts.ensures.limits acts c.take_turns.ensures.led)

pub returns-in_err-operate-clause-led : goal.returns-in_err-operate-clause-led
returns-in_err-operate-clause-led g c =
    let told = g.C.Plant.told in
    let keeps = g.K.Keeper.keeps in
    let p = c.args.plan.now in
    let was = c.args.cell.now in
    let l = was.kept.limits in
    let x = state c.args.plant.now c.args.keeper.now was.kept.entries was.watches was.pending was.script was.lost in
    let one = c.book_acts.new.cell in
    let ones = state c.book_acts.new.plant c.book_acts.new.keeper one.kept.entries one.watches one.pending one.script
    one.lost in
    let two = c.take_turns.new.cell in
    let twos = state c.take_turns.new.plant c.take_turns.new.keeper two.kept.entries two.watches two.pending two.script
    two.lost in
    let three = c.operate.new.cell in
    let threes = state c.operate.new.plant c.operate.new.keeper three.kept.entries three.watches three.pending
    three.script three.lost in
    let acts = goes_as told keeps l p (halted c.book_acts.result) None (Noting 0) (Turning all_machine) x ones
    (ap halted c.in_ok-book_acts.was) (c.book_acts.ensures.led p) in
    let turns = goes_then told keeps l p one.kept.limits None (Noting 0) (Turning all_machine) (Turning []) x ones twos
    c.book_acts.ensures.limits acts
    (goes_as told keeps one.kept.limits p (halted c.take_turns.result) None (Turning all_machine) (Turning []) ones twos
    (ap halted c.in_ok-take_turns.was) c.take_turns.ensures.led) in
    let same = c.take_turns.ensures.limits ∙ c.book_acts.ensures.limits in
    goes_halted told keeps l p _ _ c.operate.result _ c.in_err-operate.field-0.0 (Noting 0) (Serving 0) Closing x threes
    c.from_residual-in_err-operate.ensures.1 c.in_err-operate.was
    (goes_then told keeps l p two.kept.limits (halted c.operate.result) (Noting 0) (Turning [])
    (Serving 0) x twos threes
    same turns (c.operate.ensures.led p))

pub returns-clause-led : goal.returns-clause-led
returns-clause-led g c =
    let told = g.C.Plant.told in
    let keeps = g.K.Keeper.keeps in
    let p = c.args.plan.now in
    let was = c.args.cell.now in
    let l = was.kept.limits in
    let x = state c.args.plant.now c.args.keeper.now was.kept.entries was.watches was.pending was.script was.lost in
    let one = c.book_acts.new.cell in
    let ones = state c.book_acts.new.plant c.book_acts.new.keeper one.kept.entries one.watches one.pending one.script
    one.lost in
    let two = c.take_turns.new.cell in
    let twos = state c.take_turns.new.plant c.take_turns.new.keeper two.kept.entries two.watches two.pending two.script
    two.lost in
    let three = c.operate.new.cell in
    let threes = state c.operate.new.plant c.operate.new.keeper three.kept.entries three.watches three.pending
    three.script three.lost in
    let four = c.serve.new.cell in
    let fours = state c.serve.new.plant c.serve.new.keeper four.kept.entries four.watches four.pending four.script
    four.lost in
    let acts = goes_as told keeps l p (halted c.book_acts.result) None (Noting 0) (Turning all_machine) x ones
    (ap halted c.in_ok-book_acts.was) (c.book_acts.ensures.led p) in
    let turns = goes_then told keeps l p one.kept.limits None (Noting 0) (Turning all_machine) (Turning []) x ones twos
    c.book_acts.ensures.limits acts
    (goes_as told keeps one.kept.limits p (halted c.take_turns.result) None (Turning all_machine) (Turning []) ones twos
    (ap halted c.in_ok-take_turns.was) c.take_turns.ensures.led) in
    let same = c.take_turns.ensures.limits ∙ c.book_acts.ensures.limits in
    let script = goes_then told keeps l p two.kept.limits None (Noting 0) (Turning [])
    (Serving 0) x twos threes same turns
    (goes_as told keeps two.kept.limits p (halted c.operate.result) None (Turning []) (Serving 0) twos threes
    (ap halted c.in_ok-operate.was) (c.operate.ensures.led p)) in
    goes_then told keeps l p three.kept.limits (halted c.serve.result) (Noting 0) (Serving 0) Closing x threes fours
    (c.operate.ensures.limits ∙ same) script (c.serve.ensures.led p)
