-- The command that is built is the one that is described, so what is matched is what its words say
use Rattle.std.proofs.Common.{◌≡◌, ◌∙◌, Err, Some, ap, map, rules, subst, sym}
use Rattle.clap.specs.Kinds.{HasKind}
use Rattle.clap.specs.Words.{App, fault_of, found_of, is_simple, is_simple_and_free, rows_of, subcommand_of}
use Rattle.clap.specs.Words.{subcommand_rows_of}
use Rattle.cell_command.proofs.Facts.{cellctl-free, cellctl-simple, joined}
use Rattle.cell_command.proofs.order.read_command.Goals as goal

pub returns-in-Some-order_of-clause-order : goal.returns-in-Some-order_of-clause-order
returns-in-Some-order_of-clause-order c =
    let app = c.in_ok-command.ensures.0 in
    let parsed = (c.in_ok-matches.ensures.matches (ap is_simple app ∙ cellctl-simple)).1 in
    let here : subcommand_rows_of c.in_ok-matches.matches
    ≡ Some (c.in-Some.name.now, rows_of (found_of c.in-Some.inner.now)) =
    joined _ _ _ _ _ c.in-Some.ensures.name c.in-Some.ensures.rows in (
      c.in-Some.name.now,
      rows_of (found_of c.in-Some.inner.now),
      sym (parsed ∙ ap (λ (a : App). subcommand_of a (map (λ w. w.now) c.args.words.now)) app)
          ∙ here,
      c.in-Some-order_of.ensures,
    )

pub returns-in-Some-order_of-clause-fault : goal.returns-in-Some-order_of-clause-fault
returns-in-Some-order_of-clause-fault c =
    let app = c.in_ok-command.ensures.0 in
    sym (ap (λ (a : App). fault_of a (map (λ w. w.now) c.args.words.now)) app)
    ∙ c.in_ok-matches.ensures.kinds (ap is_simple_and_free app ∙ cellctl-free)

pub returns-in_err-matches-clause-fault : goal.returns-in_err-matches-clause-fault
returns-in_err-matches-clause-fault c =
    let app = c.in_ok-command.ensures.0 in
    let why = c.in_err-matches.field-0.0 in
    let is : c.from_residual-in_err-matches.result ≡ Err why = search rules in
    rw is (subst (λ kinds. HasKind kinds why) (ap (λ (a : App). fault_of a (map (λ w. w.now) c.args.words.now)) app)
    (c.in_err-matches.ensures.kinds (ap is_simple_and_free app ∙ cellctl-free)))
