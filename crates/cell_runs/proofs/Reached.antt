-- The simulated cell is always reached, and nobody does or wants anything there
use Rattle.std.proofs.Common.{Some, None, Ok, Err, refl}
use Rattle.cell_plant.specs.Asked.{Acted, Closed, Handed, Opened, Ordered, Refused, Replied, Shown, Wished}
use Rattle.sim_plant.specs.Answers.{AnswersSo}
use Rattle.cell_runs.specs.Cells.{IsReached}

pub reached : IsReached AnswersSo
reached old new (Opened ok) told = told.1.0
reached old new (Shown m r) told = refl
reached old new (Ordered m c (Ok done)) told = refl
reached old new (Ordered m c (Err gone)) told = cc
reached old new (Handed a (Ok done)) told = refl
reached old new (Handed a (Err gone)) told = cc
reached old new (Acted None) told = refl
reached old new (Acted (Some task)) told = cc
reached old new (Refused task why) told = refl
reached old new (Wished None) told = refl
reached old new (Wished (Some wish)) told = cc
reached old new (Replied reply ok) told = told.1.0
reached old new (Closed ok) told = told.1.0
