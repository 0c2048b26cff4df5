-- The machine was read, and what it booked was kept or not
use Rattle.std.proofs.Common.{◌∷◌, ap, refl, subst, sym, Option}
use Rattle.std.specs.Prelude.{Bool, Some, is_ok}
use Rattle.cell_types.specs.Entries.{command_of}
use Rattle.cell_types.specs.declared.words.Entry.{Entry}
use Rattle.cell_rounds.specs.Calls.{Turned, halted}
use Rattle.cell_rounds.specs.Stands.{Turning, state}
use Rattle.cell_rounds.specs.declared.progress.Halt.TheVariants as halt
use Rattle.cell_rounds.proofs.Moving.{goes_as, halted_is}
use Rattle.cell_rounds.proofs.Turns.{goes_away, goes_idly, goes_turn, goes_unkept}
use Rattle.cell_rounds.proofs.turning.take_turn.Goals as goal

pub returns-in_err-entry-clause-led : goal.returns-in_err-entry-clause-led
returns-in_err-entry-clause-led g c = λ rest.
    let told = g.C.Plant.told in
    let keeps = g.K.Keeper.keeps in
    let cell = c.args.cell.now in
    let l = cell.kept.limits in
    let p = c.args.plan.now in
    let same = c.in_err-entry.ensures.unchanged in
    rw (same.0, same.1, c.turn.ensures.same.0, c.turn.ensures.same.1, c.turn.ensures.same.2)
    (goes_as told keeps l p (Some c.in_err-entry.field-0.0) (halted c.from_residual.result) (Turning
    (c.args.machine ∷ rest))
    (Turning rest)
    (state c.args.plant.now c.args.keeper.now cell.kept.entries cell.watches cell.pending cell.script cell.lost)
    (state c.read-reading.new.self c.args.keeper.now cell.kept.entries cell.watches cell.pending cell.script cell.lost)
    (sym (halted_is c.from_residual.result c.in_err-entry.field-0.0 c.from_residual.ensures.1))
    (goes_away told keeps l p c.args.machine rest c.read-reading.result c.in_err-entry.field-0.0 (Turning rest)
    (state c.args.plant.now c.args.keeper.now cell.kept.entries cell.watches cell.pending cell.script cell.lost)
    c.read-reading.new.self c.read-reading.ensures.told c.in_err-entry.ensures.halts))

pub returns-in_default-clause-led : goal.returns-in_default-clause-led
returns-in_default-clause-led g c = λ rest.
    let cell = c.args.cell.now in
    let next = c.turn.new.cell in
    let m = c.args.machine in
    let r = c.read-reading.result in
    let turned = subst (λ (b : Option Entry). Turned cell.kept.limits c.args.plan.now m r b cell.kept.entries
    cell.watches next.kept.entries next.watches) c.in_default.is c.in_ok-entry.ensures.turned in
    rw (c.turn.ensures.same.0, c.turn.ensures.same.1, c.turn.ensures.same.2)
    (goes_idly g.C.Plant.told g.K.Keeper.keeps cell.kept.limits c.args.plan.now m rest r
    (state c.args.plant.now c.args.keeper.now cell.kept.entries cell.watches cell.pending cell.script cell.lost)
    c.read-reading.new.self next.kept.entries next.watches c.read-reading.ensures.told turned)

pub returns-in_err-keep-clause-led : goal.returns-in_err-keep-clause-led
returns-in_err-keep-clause-led g c = λ rest.
    let told = g.C.Plant.told in
    let keeps = g.K.Keeper.keeps in
    let cell = c.args.cell.now in
    let l = cell.kept.limits in
    let p = c.args.plan.now in
    let next = c.turn.new.cell in
    let m = c.args.machine in
    let r = c.read-reading.result in
    let e = c.in-Some.entry in
    let turned = subst (λ (b : Option Entry). Turned l p m r b cell.kept.entries
    cell.watches next.kept.entries next.watches) c.in-Some.is c.in_ok-entry.ensures.turned in
    let kept = subst (λ (b : Bool). keeps c.args.keeper.now c.keep.new.self e b)
    (ap is_ok c.in_err-keep.was) c.keep.ensures.kept in
    rw (c.turn.ensures.same.0, c.turn.ensures.same.1, c.turn.ensures.same.2)
    (goes_as told keeps l p (Some halt.Unkept) (halted c.from_residual-in_err-keep.result)
    (Turning (c.args.machine ∷ rest)) (Turning rest)
    (state c.args.plant.now c.args.keeper.now cell.kept.entries cell.watches cell.pending cell.script cell.lost)
    (state c.read-reading.new.self c.keep.new.self next.kept.entries next.watches cell.pending cell.script cell.lost)
    (sym (halted_is c.from_residual-in_err-keep.result halt.Unkept c.from_residual-in_err-keep.ensures.1))
    (goes_unkept told keeps l p m rest r e (Turning rest)
    (state c.args.plant.now c.args.keeper.now cell.kept.entries cell.watches cell.pending cell.script cell.lost)
    c.read-reading.new.self c.keep.new.self next.kept.entries next.watches c.read-reading.ensures.told turned kept))

pub returns-clause-led : goal.returns-clause-led
returns-clause-led g c = λ rest.
    let told = g.C.Plant.told in
    let keeps = g.K.Keeper.keeps in
    let cell = c.args.cell.now in
    let l = cell.kept.limits in
    let p = c.args.plan.now in
    let next = c.turn.new.cell in
    let m = c.args.machine in
    let r = c.read-reading.result in
    let e = c.in-Some.entry in
    let turned = subst (λ (b : Option Entry). Turned l p m r b cell.kept.entries
    cell.watches next.kept.entries next.watches) c.in-Some.is c.in_ok-entry.ensures.turned in
    let kept = subst (λ (b : Bool). keeps c.args.keeper.now c.keep.new.self e b)
    (ap is_ok c.in_ok-keep.was) c.keep.ensures.kept in
    rw (
      c.send.ensures.same.0,
      c.send.ensures.same.1,
      c.send.ensures.same.2,
      c.send.ensures.same.3,
      c.turn.ensures.same.0,
      c.turn.ensures.same.1,
      c.turn.ensures.same.2,
    )
    (goes_turn told keeps l p m rest r e (command_of e) (halted c.send.result)
    (state c.args.plant.now c.args.keeper.now cell.kept.entries cell.watches cell.pending cell.script cell.lost)
    c.read-reading.new.self c.send.new.plant c.keep.new.self next.kept.entries next.watches c.send.new.cell.watches
    c.read-reading.ensures.told turned kept refl c.send.ensures.sent)
