use Rattle.std.proofs.Common.{rules, tests, ◌≡◌, ◌∙◌, inl, inr, refl, subst, sym}
use Rattle.cell_method.specs.Lines.{lines_left}
use Rattle.cell_drive.specs.Commanded.{Between, IsFinished, stand_of}
use Rattle.cell_drive.specs.declared.by_commands.Close.TheVariants as close
use Rattle.cell_drive.proofs.Commanding.{goes-at, goes-more, goes-none, quit-ends, round-earlier}
use Rattle.cell_drive.proofs.by_commands.take_rounds.Goals as goal

pub loop-round-init : goal.loop-round-init
loop-round-init g c = record {
  writer = refl;
  rounds = c.requires;
  on = inl c.requires;
  goes = goes-none c.args.inputs.now.faults (stand_of c.args.run.now) Between
      (lines_left g.I.Read.remaining c.args.method.now.lines) (g.W.Write.contents c.args.method.now.writer.now);
}

pub returns-in-Quit-clause-run : goal.returns-in-Quit-clause-run
returns-in-Quit-clause-run g c =
    let was = c.loop-round.invariant in
    let all = lines_left g.I.Read.remaining c.args.method.now.lines in
    let here = lines_left g.I.Read.remaining c.loop-round.method.lines in
    let left = lines_left g.I.Read.remaining c.take_round.new.method.lines in
    let (to, ended, more) = c.in_ok-take_round.ensures.goes was.on in
    record {
      to = to;
      goes = goes-more was.goes more;
      ends = quit-ends c.args.inputs.now.plan (stand_of c.take_round.new.run) to all left c.quit_end.result
          (round-earlier c.in_ok-take_round.field-0 close.Quit to all here left _ was.goes.leads.read (search rules)
          ended)
          c.quit_end.ensures;
    }

pub returns-in-Long-clause-run : goal.returns-in-Long-clause-run
returns-in-Long-clause-run g c =
    let was = c.loop-round.invariant in
    let all = lines_left g.I.Read.remaining c.args.method.now.lines in
    let here = lines_left g.I.Read.remaining c.loop-round.method.lines in
    let left = lines_left g.I.Read.remaining c.take_round.new.method.lines in
    let (to, ended, more) = c.in_ok-take_round.ensures.goes was.on in
    record {
      to = to;
      goes = goes-more was.goes more;
      ends = round-earlier c.in_ok-take_round.field-0 close.Long to all here left _ was.goes.leads.read (search rules)
          ended;
    }

-- the round is over, and the cell is done
pub returns-then-is_finished-clause-run : goal.returns-then-is_finished-clause-run
returns-then-is_finished-clause-run g c =
    let was = c.loop-round.invariant in
    let all = lines_left g.I.Read.remaining c.args.method.now.lines in
    let here = lines_left g.I.Read.remaining c.loop-round.method.lines in
    let left = lines_left g.I.Read.remaining c.take_round.new.method.lines in
    let (to, ended, more) = c.in_ok-take_round.ensures.goes was.on in
    record {
      to = to;
      goes = goes-more was.goes more;
      ends = inl (
        round-earlier c.in_ok-take_round.field-0 close.Done to all here left _ was.goes.leads.read (search rules) ended,
        subst (IsFinished (stand_of c.take_round.new.run)) c.if-is_finished.true c.is_finished.ensures,
      );
    }

-- none of the rounds ended the run, and there were as many as there may be
pub returns-clause-run : goal.returns-clause-run
returns-clause-run g c =
    let was = c.loop-round.invariant in
    let all : c.loop-round.round ≡ c.args.inputs.now.plan.turns = search (rules, tests) in
    record { to = Between; goes = was.goes; ends = (refl, was.rounds ∙ all, was.on) }

pub loop-round-preserved : goal.loop-round-preserved
loop-round-preserved g c =
    let was = c.loop-round.invariant in
    let all = lines_left g.I.Read.remaining c.args.method.now.lines in
    let here = lines_left g.I.Read.remaining c.loop-round.method.lines in
    let left = lines_left g.I.Read.remaining c.take_round.new.method.lines in
    let (to, ended, more) = c.in_ok-take_round.ensures.goes was.on in
    record {
      writer = c.in_ok-take_round.ensures.writer ∙ was.writer;
      rounds = c.in_ok-take_round.ensures.rounds;
      on = inr (subst (IsFinished (stand_of c.take_round.new.run)) c.if-is_finished.false c.is_finished.ensures);
      goes = goes-at Between (round-earlier c.in_ok-take_round.field-0 close.Done to all here left _
          was.goes.leads.read (search rules) ended) (goes-more was.goes more);
    }
