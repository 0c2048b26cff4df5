-- Each of the words may be wrong, and has a line of its own for that
use Rattle.std.proofs.Common.{◌∙◌, ap, inl, inr, refl, subst}
use Rattle.std.specs.Prelude.{◌≡◌, Ok, codes}
use Rattle.cell_explore.specs.declared.question.Question.{Question}
use Rattle.cell_orders.specs.Asked.{AreMachines, Asks, HasNoMachine, named}
use Rattle.cell_orders.specs.Explores.{IsNeverStuck}
use Rattle.cell_orders.proofs.explore.explore_words.Goals as goal

pub returns-in_default : goal.returns-in_default
returns-in_default g c =
    inr (
      inl c.in_default.ensures.wrong,
      (
        c.in_ok-wrong.field-0,
        refl,
        (
          c.in_ok-wrong.ensures.status,
          refl,
          codes "PLATES is a whole number from 0 to 15",
          c.in_ok-wrong.ensures.line,
        ),
      ),
    )

pub returns-in_default-limit_of : goal.returns-in_default-limit_of
returns-in_default-limit_of g c =
    inr (
      inr (inl c.in_default-limit_of.ensures.wrong),
      (
        c.in_ok-wrong-2.field-0,
        refl,
        (
          c.in_ok-wrong-2.ensures.status,
          refl,
          codes "STATES is a whole number from 1 to 4294967295",
          c.in_ok-wrong-2.ensures.line,
        ),
      ),
    )

pub returns-in_default-threads_of : goal.returns-in_default-threads_of
returns-in_default-threads_of g c =
    inr (
      inr (inr (inl c.in_default-threads_of.ensures.wrong)),
      (
        c.in_ok-wrong-3.field-0,
        refl,
        (
          c.in_ok-wrong-3.ensures.status,
          refl,
          codes "--threads is a whole number from 1 to 64",
          c.in_ok-wrong-3.ensures.line,
        ),
      ),
    )

pub returns-in-Some-stranger : goal.returns-in-Some-stranger
returns-in-Some-stranger g c =
    inr (
      inr (inr (inr (subst HasNoMachine c.as_slice-failing.ensures.value c.in-Some-stranger.ensures.some))),
      (
        c.in_ok-wrong-4.field-0,
        refl,
        (c.in_ok-wrong-4.ensures.status, refl, c.as_str.result.now, c.in_ok-wrong-4.ensures.line),
      ),
    )

pub returns : goal.returns
returns g c =
    let same = c.as_slice-failing.ensures.value in
    let question : Question =
    record { plan = c.in-Some.plan; may_fail = c.named.result; repairs = c.args.exploring.now.repairs } in
    let asks : Asks c.args.exploring.now question c.in-Some-limit_of.limit =
    record {
      plates = c.in-Some.ensures.known;
      machines = subst AreMachines same c.in_default-stranger.ensures.none;
      failing = c.named.ensures ∙ ap named same;
      repairs = refl;
      limited = c.in-Some-limit_of.ensures.known;
      threaded = (c.in-Some-threads_of.threads, c.in-Some-threads_of.ensures.known);
    } in
    let never_stuck : c.explore_lines.result ≡ Ok 0 → IsNeverStuck question =
    λ good es possible. c.explore_lines.ensures.none_stuck good c.in-Some.ensures.known.2 es possible in
    rw c.told.ensures
    (inl (question, c.in-Some-limit_of.limit, asks, (c.explore_lines.ensures.lines, never_stuck)))
