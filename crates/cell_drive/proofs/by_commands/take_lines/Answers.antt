use Rattle.std.proofs.Common.{rules, tests, ◌≡◌, ◌<◌, ◌∙◌, ◌+◌, None, Some, true, false, ap, refl, subst, sym}
use Rattle.cell_method.specs.Lines.{TakesLine, current, lines_left}
use Rattle.cell_method.proofs.Runs.{dry-end}
use Rattle.cell_drive.specs.Commanded.{Goes, Stand, Talking, after_line, closed_by, stand_of}
use Rattle.cell_drive.proofs.Commanding.{goes-closed, goes-end, goes-line, goes-more, goes-none, wish-rounds}
use Rattle.cell_drive.proofs.by_commands.take_lines.Goals as goal

pub loop-count-init : goal.loop-count-init
loop-count-init g c = record {
  writer = refl;
  rounds = refl;
  goes = goes-none c.args.faults.now (stand_of c.args.run.now) (Talking 0)
      (lines_left g.I.Read.remaining c.args.method.now.lines) (g.W.Write.contents c.args.method.now.writer.now);
}

pub returns-then-not-branch-clause-goes : goal.returns-then-not-branch-clause-goes
returns-then-not-branch-clause-goes g c =
    let found : c.in_ok-advance.field-0 ≡ false = search rules in
    let goes = c.loop-count.invariant.goes in
    let takes : TakesLine (lines_left g.I.Read.remaining c.loop-count.method.lines)
    (lines_left g.I.Read.remaining c.advance.new.self) (current c.advance.new.self) false =
    (subst (TakesLine (lines_left g.I.Read.remaining c.loop-count.method.lines)
    (lines_left g.I.Read.remaining c.advance.new.self)
    (current c.advance.new.self)) found c.in_ok-advance.ensures.line) in (
      Talking c.loop-count.count,
      dry-end _ _ _ _ (current c.advance.new.self) goes.leads.read takes,
      goes-more goes (goes-end c.args.faults.now (stand_of c.loop-count.run) (Talking c.loop-count.count) _ _
          (current c.advance.new.self) _ takes),
    )

-- such a line does nothing else
pub returns-in-Some-clause-goes : goal.returns-in-Some-clause-goes
returns-in-Some-clause-goes g c =
    let found : c.in_ok-advance.field-0 ≡ true = search rules in
    let few : c.loop-count.count < 10000 = search (rules, tests) in
    let takes : TakesLine (lines_left g.I.Read.remaining c.loop-count.method.lines)
    (lines_left g.I.Read.remaining c.advance.new.self) (current c.advance.new.self) true =
    (subst (TakesLine (lines_left g.I.Read.remaining c.loop-count.method.lines)
    (lines_left g.I.Read.remaining c.advance.new.self)
    (current c.advance.new.self)) found c.in_ok-advance.ensures.line) in
    let closing = goes-closed c.args.faults.now (stand_of c.loop-count.run) (current c.advance.new.self)
    c.wish_of-wish.result c.in-Some.close c.loop-count.count
    (lines_left g.I.Read.remaining c.args.method.now.lines) _ _
    (g.W.Write.contents c.loop-count.method.writer.now) takes few c.wish_of-wish.ensures
    (sym c.in-Some.ensures) in (
      after_line (Some c.in-Some.close) c.loop-count.count,
      closing.0,
      goes-more c.loop-count.invariant.goes closing.1,
    )

pub loop-count-preserved : goal.loop-count-preserved
loop-count-preserved g c =
    let found : c.in_ok-advance.field-0 ≡ true = search rules in
    let few : c.loop-count.count < 10000 = search (rules, tests) in
    let more : closed_by c.wish_of-wish.result ≡ None = search rules in
    let takes : TakesLine (lines_left g.I.Read.remaining c.loop-count.method.lines)
    (lines_left g.I.Read.remaining c.advance.new.self) (current c.advance.new.self) true =
    (subst (TakesLine (lines_left g.I.Read.remaining c.loop-count.method.lines)
    (lines_left g.I.Read.remaining c.advance.new.self)
    (current c.advance.new.self)) found c.in_ok-advance.ensures.line) in
    let same = c.keep_unread.ensures in
    record {
      writer = c.loop-count.invariant.writer;
      rounds = ap (λ (s : Stand). s.rounds) c.in_ok-answer.ensures.stand
          ∙ wish-rounds c.args.faults.now (stand_of c.keep_unread.new.run) c.wish_of-wish.result
          ∙ ap (λ (s : Stand). s.rounds) same ∙ c.loop-count.invariant.rounds;
      goes = goes-more c.loop-count.invariant.goes
          (subst (λ s. Goes c.args.faults.now s (stand_of c.answer.new.run) (Talking c.loop-count.count)
          (Talking (c.loop-count.count + 1)) (lines_left g.I.Read.remaining c.loop-count.method.lines)
          (lines_left g.I.Read.remaining c.advance.new.self) (g.W.Write.contents c.loop-count.method.writer.now)
          (g.W.Write.contents c.answer.new.writer)) same
          (goes-line c.args.faults.now (stand_of c.keep_unread.new.run) (stand_of c.answer.new.run)
          (current c.advance.new.self) c.wish_of-wish.result c.loop-count.count _ _ _ _ takes few
          c.wish_of-wish.ensures more c.in_ok-answer.ensures.stand c.in_ok-answer.ensures.told));
    }

-- as many lines came as may
pub returns-clause-goes : goal.returns-clause-goes
returns-clause-goes g c =
    let all : c.loop-count.count ≡ 10000 = search (rules, tests) in
    (Talking c.loop-count.count, ap Talking all, c.loop-count.invariant.goes)
