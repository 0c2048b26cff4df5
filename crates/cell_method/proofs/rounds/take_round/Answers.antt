use Rattle.std.proofs.Common.{refl, rules}
use Rattle.cell_method.specs.Order.{between}
use Rattle.cell_method.specs.declared.booking.Close.TheVariants as close
use Rattle.cell_method.proofs.Runs.{broke-here, broke-operated, goes-operated, lines-broke, lines-done}
use Rattle.cell_method.proofs.Runs.{lines-taken, readings-broke}
use Rattle.cell_method.proofs.Turns.{err-of}
use Rattle.cell_method.proofs.rounds.take_round.Goals as goal

pub returns-in_err-show_readings-clause-broke : goal.returns-in_err-show_readings-clause-broke
returns-in_err-show_readings-clause-broke g c = err-of _ _ _ c.from_residual.ensures.1 (λ s rounds next fits desk.
    readings-broke _ _ _ _ _ _ _ _ _ _ _ _ _ _ _ desk c.in_err-show_readings.ensures.memory
    (c.in_err-show_readings.ensures.broke refl _ s _ _ fits))

pub returns-in_err-open_round-clause-broke : goal.returns-in_err-open_round-clause-broke
returns-in_err-open_round-clause-broke g c = err-of _ _ _ c.from_residual-in_err-open_round.ensures.1
    (λ s rounds next fits desk.
    readings-broke _ _ _ _ _ _ _ _ _ _ _ _ _ _ _ desk c.in_err-open_round.ensures.memory
    (broke-here _ _ _ _ _ _ _ _ _ _ _ _ _ (c.in_ok-show_readings.ensures.goes _ s _ _ fits)))

pub returns-in_err-take_lines-clause-broke : goal.returns-in_err-take_lines-clause-broke
returns-in_err-take_lines-clause-broke g c = err-of _ _ _ c.from_residual-in_err-take_lines.ensures.1
    (λ s rounds next fits desk.
    lines-broke _ _ _ _ _ _ _ _ _ _ _ _ _ _ _ _ _ _ _ _ desk next (c.in_ok-show_readings.ensures.goes _ s _ _ fits)
    c.in_ok-open_round.ensures.told c.in_err-take_lines.ensures.memory (c.in_err-take_lines.ensures.broke refl))

pub returns-in-Quit-clause-goes : goal.returns-in-Quit-clause-goes
returns-in-Quit-clause-goes g c = λ s rounds next fits desk.
    lines-taken _ _ _ _ _ _ _ _ _ _ _ _ _ _ _ _ _ _ _ _ _ c.in_ok-take_lines.field-0 close.Quit desk next
    (c.in_ok-show_readings.ensures.goes _ s _ _ fits) c.in_ok-open_round.ensures.told (search rules)
    c.in_ok-take_lines.ensures.goes

pub returns-in-Long-clause-goes : goal.returns-in-Long-clause-goes
returns-in-Long-clause-goes g c = λ s rounds next fits desk.
    lines-taken _ _ _ _ _ _ _ _ _ _ _ _ _ _ _ _ _ _ _ _ _ c.in_ok-take_lines.field-0 close.Long desk next
    (c.in_ok-show_readings.ensures.goes _ s _ _ fits) c.in_ok-open_round.ensures.told (search rules)
    c.in_ok-take_lines.ensures.goes

pub returns-in_err-operate-clause-broke : goal.returns-in_err-operate-clause-broke
returns-in_err-operate-clause-broke g c = err-of _ _ _ c.from_residual-in_err-operate.ensures.1
    (λ s rounds next fits desk.
    let taken = lines-taken _ _ _ _ _ _ _ _ _ _ _ _ _ _ _ _ _ _ _ _ _ c.in_ok-take_lines.field-0 close.Done desk
    next (c.in_ok-show_readings.ensures.goes _ s _ _ fits) c.in_ok-open_round.ensures.told (search rules)
    c.in_ok-take_lines.ensures.goes in
    broke-operated _ _ _ _ _ _ _ _ _ _ _ _ _ _ _ _ _ _ _ _ _ c.in_ok-take_lines.ensures.limits
    (lines-done _ _ _ _ _ _ _ _ _ _ _ taken) c.in_err-operate.ensures.broke)

pub returns-clause-goes : goal.returns-clause-goes
returns-clause-goes g c = λ s rounds next fits desk.
    let (failed, operates) = c.in_ok-operate.ensures.operates in
    let taken = lines-taken _ _ _ _ _ _ _ _ _ _ _ _ _ _ _ _ _ _ _ _ _ c.in_ok-take_lines.field-0 close.Done desk
    next (c.in_ok-show_readings.ensures.goes _ s _ _ fits) c.in_ok-open_round.ensures.told (search rules)
    c.in_ok-take_lines.ensures.goes in (
      between,
      refl,
      goes-operated _ _ _ _ _ _ _ _ _ _ _ _ _ _ _ _ _ _ _ _ _ _ _ failed c.in_ok-take_lines.ensures.limits
          (lines-done _ _ _ _ _ _ _ _ _ _ _ taken) operates,
    )
