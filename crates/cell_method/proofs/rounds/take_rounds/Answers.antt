use Rattle.std.proofs.Common.{rules, tests, ◌≡◌, ◌∙◌, None, inl, inr, refl, sym}
use Rattle.cell_method.specs.Lines.{lines_left}
use Rattle.cell_method.specs.Order.{between}
use Rattle.cell_method.specs.Rounds.{FitsDesk, start}
use Rattle.cell_method.specs.declared.booking.Close.TheVariants as close
use Rattle.cell_method.proofs.Ending.{journal-ends, quit-earlier, round-is, turns-over}
use Rattle.cell_method.proofs.Runs.{broke-later, broke-limits, driven, goes-at, goes-limits, goes-start, goes-then}
use Rattle.cell_method.proofs.Runs.{start-fits}
use Rattle.cell_method.proofs.Turns.{err-of}
use Rattle.cell_method.proofs.rounds.take_rounds.Goals as goal

pub loop-round-init : goal.loop-round-init
loop-round-init g c =
    let acts = g.O.OperatorPort.log c.args.cell.now.hands in
    let s = start g.P.Port.log c.args.book.now.entries c.args.cell.now.ports acts c.args.desk.now.script in
    record {
      writer = refl;
      limits = refl;
      ends = inl refl;
      goes = goes-start g.P.Port.tells g.P.Port.log c.args.book.now.limits s between
          (lines_left g.R.Read.remaining c.args.method.now.lines) c.args.book.now.entries c.args.cell.now.ports
          (FitsDesk g.O.OperatorPort.tells g.O.OperatorPort.log c.args.desk.now.script c.args.desk.now.lost
          c.args.cell.now.hands 0) (g.W.Write.contents c.args.method.now.writer.now)
          (start-fits g.P.Port.tells g.P.Port.log c.args.book.now.entries c.args.cell.now.ports acts
          c.args.desk.now.script)
          (record { lines = refl; lost = c.requires; hands = λ told. refl; rounds = refl });
    }

pub returns-in_err-take_round-clause-broke : goal.returns-in_err-take_round-clause-broke
returns-in_err-take_round-clause-broke g c =
    let was = c.loop-round.invariant in
    err-of _ _ _ c.from_residual.ensures.1
    (broke-later _ _ _ _ _ _ _ _ _ _ _ _ _ _ _ _ was.goes
    (broke-limits _ _ g.O.OperatorPort.tells g.O.OperatorPort.log _ _ _ _ _ _ _ c.take_round.new.cell.hands _
    was.limits (c.in_err-take_round.ensures.broke was.goes.after c.loop-round.round refl was.goes.fits
    was.goes.desk)))

pub returns-in-Quit-clause-run : goal.returns-in-Quit-clause-run
returns-in-Quit-clause-run g c =
    let was = c.loop-round.invariant in
    let all = lines_left g.R.Read.remaining c.args.method.now.lines in
    let here = lines_left g.R.Read.remaining c.loop-round.method.lines in
    let left = lines_left g.R.Read.remaining c.take_round.new.method.lines in
    let (to, ended, more) = c.in_ok-take_round.ensures.goes was.goes.after c.loop-round.round refl was.goes.fits
    was.goes.desk in
    let goes = goes-then _ _ _ _ _ _ _ _ _ _ _ _ _ _ _ _ _ _ _ was.goes
    (goes-limits _ _ _ _ _ _ _ _ _ _ _ _ _ _ was.limits more) in
    driven _ _ _ _ c.args.plan.now _ _ _ _ _ _ _ _ _ _ _ _ _ _ refl goes
    (quit-earlier to all here left _ was.goes.leads.read
    (round-is c.in_ok-take_round.field-0 close.Quit to here left (search rules) ended))

pub returns-in-Long-clause-run : goal.returns-in-Long-clause-run
returns-in-Long-clause-run g c =
    let was = c.loop-round.invariant in
    let here = lines_left g.R.Read.remaining c.loop-round.method.lines in
    let left = lines_left g.R.Read.remaining c.take_round.new.method.lines in
    let (to, ended, more) = c.in_ok-take_round.ensures.goes was.goes.after c.loop-round.round refl was.goes.fits
    was.goes.desk in
    let goes = goes-then _ _ _ _ _ _ _ _ _ _ _ _ _ _ _ _ _ _ _ was.goes
    (goes-limits _ _ _ _ _ _ _ _ _ _ _ _ _ _ was.limits more) in
    driven _ _ _ _ c.args.plan.now _ _ _ _ _ _ _ _ _ _ _ _ _ _ refl goes
    (round-is c.in_ok-take_round.field-0 close.Long to here left (search rules) ended)

-- the round is closed, and the journal ends the run
pub returns-in-Some-clause-run : goal.returns-in-Some-clause-run
returns-in-Some-clause-run g c =
    let was = c.loop-round.invariant in
    let plan = c.args.plan.now in
    let here = lines_left g.R.Read.remaining c.loop-round.method.lines in
    let left = lines_left g.R.Read.remaining c.take_round.new.method.lines in
    let (to, ended, more) = c.in_ok-take_round.ensures.goes was.goes.after c.loop-round.round refl was.goes.fits
    was.goes.desk in
    let closed = round-is c.in_ok-take_round.field-0 close.Done to here left (search rules) ended in
    let goes = goes-then _ _ _ _ _ _ _ _ _ _ _ _ _ _ _ _ _ _ _ was.goes
    (goes-limits _ _ _ _ _ _ _ _ _ _ _ _ _ _ was.limits
    (goes-at _ _ _ _ _ _ _ _ _ _ _ _ _ _ closed more)) in
    driven _ _ _ _ plan _ _ _ _ _ _ _ _ _ _ _ _ _ _ refl goes
    (journal-ends plan goes.after c.take_round.new.book.entries
    (lines_left g.R.Read.remaining c.args.method.now.lines) left c.in-Some.end goes.fits.journal
    c.in-Some.ensures)

-- none of the rounds set an end, and there were as many as there may be
pub returns-clause-run : goal.returns-clause-run
returns-clause-run g c =
    let was = c.loop-round.invariant in
    let all : c.loop-round.round ≡ c.args.plan.now.turns = search (rules, tests) in
    driven _ _ _ _ c.args.plan.now _ _ _ _ _ _ _ _ _ _ _ _ _ _ refl was.goes
    (turns-over c.args.plan.now was.goes.after (lines_left g.R.Read.remaining c.args.method.now.lines)
    (lines_left g.R.Read.remaining c.loop-round.method.lines) _ _ was.goes.fits.journal
    (sym was.goes.desk.rounds) all was.ends)

pub loop-round-preserved : goal.loop-round-preserved
loop-round-preserved g c =
    let was = c.loop-round.invariant in
    let here = lines_left g.R.Read.remaining c.loop-round.method.lines in
    let left = lines_left g.R.Read.remaining c.take_round.new.method.lines in
    let (to, ended, more) = c.in_ok-take_round.ensures.goes was.goes.after c.loop-round.round refl was.goes.fits
    was.goes.desk in
    let closed = round-is c.in_ok-take_round.field-0 close.Done to here left (search rules) ended in
    let none : c.end_at.result ≡ None = search rules in
    record {
      writer = c.in_ok-take_round.ensures.writer ∙ was.writer;
      limits = c.in_ok-take_round.ensures.limits ∙ was.limits;
      ends = inr (sym c.end_at.ensures ∙ none);
      goes = goes-then _ _ _ _ _ _ _ _ _ _ _ _ _ _ _ _ _ _ _ was.goes
          (goes-limits _ _ _ _ _ _ _ _ _ _ _ _ _ _ was.limits
          (goes-at _ _ _ _ _ _ _ _ _ _ _ _ _ _ closed more));
    }
