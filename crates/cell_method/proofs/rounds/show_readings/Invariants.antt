use Rattle.std.proofs.Common.{List, Option, drop}
use Rattle.cell_types.specs.Texts.{all_machine}
use Rattle.cell_types.specs.declared.words.Entry.{Entry}
use Rattle.cell_rules.specs.declared.limits.BookLimits.{BookLimits}
use Rattle.cell_method.specs.Lines.{Row}
use Rattle.cell_method.specs.Order.{Showing, between}
use Rattle.cell_method.specs.Rounds.{Fits, Goes, SameDesk, Stand}
use Rattle.cell_method.proofs.rounds.show_readings.Given as goal

-- the machines so far were read, and what they show was told
abbrev pub invariant-loop-machine : goal.invariant-loop-machine
invariant-loop-machine g l =
    (lim : BookLimits) (s : Stand) (J : List Entry) (all : Option (List (Option Row)))
    → Fits g.P.Port.tells g.P.Port.log J l.fn.ports s
    → Goes g.P.Port.tells g.P.Port.log lim s between (Showing (drop l.machine-index all_machine)) all all J l.ports
    (SameDesk s) (g.W.Write.contents l.fn.writer)
    (g.W.Write.contents l.writer)
