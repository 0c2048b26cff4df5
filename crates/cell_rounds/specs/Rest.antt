-- When a run is at rest
use Rattle.std.specs.Prelude.{◌≡◌, ◌⊎◌, ◌&&◌, Bool, true, false, List}
use Rattle.cell_types.specs.declared.words.Entry.{Entry}
use Rattle.cell_types.specs.declared.words.Machine.TheVariants as machine
use Rattle.cell_ports.specs.declared.plan.Plan.{Plan}
use Rattle.cell_turns.specs.Minds.{Mind}
use Rattle.cell_turns.specs.declared.six.Six.{Six}
use Rattle.cell_workers.specs.Ends.{IsDone, is_idle}
use Rattle.cell_workers.specs.declared.ends.End.{End}
use Rattle.cell_workers.specs.declared.ends.End.TheVariants as end

-- all six are idle
abbrev pub are_idle : List Entry → Plan → Six Mind → Bool
are_idle J p minds = is_idle J machine.Feed p minds.feed && (is_idle J machine.Table p minds.table
    && (is_idle J machine.Robot p minds.robot && (is_idle J machine.Press1 p minds.press1
    && (is_idle J machine.Press2 p minds.press2 && is_idle J machine.Deposit p minds.deposit))))

-- all machines are idle; the run is finished if the plan's plates are done, and else stalled, for which it doesn't wait
pub record IsAtRest (p : Plan) (waits : Bool) (J : List Entry) (minds : Six Mind) (e : End) : Type 0 where
  pub idle : are_idle J p minds ≡ true
  pub finished : e ≡ end.Finished → IsDone p.plates J
  pub stalled : IsDone p.plates J → e ≡ end.Finished
  pub either : (e ≡ end.Finished) ⊎ ((e ≡ end.Stalled) × (waits ≡ false))

-- a machine isn't idle, or a stalled run waits
abbrev pub KeepsOn : Plan → Bool → List Entry → Six Mind → Type 0
KeepsOn p waits J minds = are_idle J p minds ≡ true → (waits ≡ true) × (IsDone p.plates J → ⊥)
