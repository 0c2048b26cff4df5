-- Schedules, one after another
use Rattle.std.specs.Prelude.{ℕ, ◌≡◌, ◌+◌, Bool, true, List, ◌++◌}
use Rattle.cell_rules.specs.declared.limits.BookLimits.{BookLimits}
use Rattle.cell_rules.specs.History.{History}
use Rattle.cell_ports.specs.declared.plan.Plan.{Plan}
use Rattle.cell_turns.specs.declared.schedule.Step.{Step}
use Rattle.cell_turns.specs.declared.six.Six.{Six}
use Rattle.cell_turns.specs.declared.watch.Watch.{Watch}
use Rattle.cell_ports.specs.Logs.{ActLog}
use Rattle.cell_turns.specs.Schedules.{Now, Leads, Scheduled}

-- steps that lead from one state to a second, and steps that lead from there to a third, lead together from the first
-- to the third, with the refused turns and the failed acts of both
abbrev pub LeadsJoin : Type 0
LeadsJoin =
    (l : BookLimits) (p : Plan) (s t u : Now) (xs ys : List Step) (refused refused' failed failed' : ℕ)
    → Leads l p s xs refused failed t → Leads l p t ys refused' failed' u
    → Leads l p s (xs ++ ys) (refused + refused') (failed + failed') u

-- so do two schedules, where hands that tell what they did in the second told it in the first
abbrev pub ScheduledJoin : Type 0
ScheduledJoin =
    (p : Plan) (xs ys : List Step) (refused refused' : ℕ) (first second third : History) (ws ws' ws'' : Six Watch)
    (told told' : Bool) (acts acts' acts'' : ActLog)
    → (told' ≡ true → told ≡ true) → Scheduled p xs refused first second ws ws' told acts acts'
    → Scheduled p ys refused' second third ws' ws'' told' acts' acts''
    → Scheduled p (xs ++ ys) (refused + refused') first third ws ws'' told' acts acts''
