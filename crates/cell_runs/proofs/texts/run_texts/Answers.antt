-- What is told is told of these texts, whose motions take one reading each
use Rattle.std.proofs.Common.{List, Option, refl, rules, ℕ}
use Rattle.cell_sim.specs.Simulated.{one_each}
use Rattle.cell_runs.specs.Runs.{TellsPart, TellsRun, kept_of, mode_of}
use Rattle.cell_runs.proofs.Simulating.{part-of-texts, told-of-texts}
use Rattle.cell_runs.proofs.Telling.{as-held}
use Rattle.cell_runs.proofs.texts.run_texts.Goals as goal

pub returns-in_err-status-clause-part : goal.returns-in_err-status-clause-part
returns-in_err-status-clause-part g c = λ failed. as-held
    (λ (old new : Option (List ℕ)). TellsPart one_each c.args.settings.now c.args.faults.now c.args.operator.now
    (mode_of c.args.threads) c.args.journal old new) _ _ _ _ (search rules) (search rules)
    (part-of-texts _ _ _ _ _ _ _ _ _ _ _ _ _ c.new-texts.ensures.short c.new-texts.ensures.settings
    c.new-texts.ensures.faults c.new-texts.ensures.operator c.mode_of.ensures (c.in_err-status.ensures.part refl))

pub returns-clause-whole : goal.returns-clause-whole
returns-clause-whole g c = as-held
    (λ (old new : Option (List ℕ)). TellsRun one_each c.args.settings.now c.args.faults.now c.args.operator.now
    (mode_of c.args.threads) c.args.journal old new c.in_ok-status.status) _ _ _ _ (search rules) (search rules)
    (told-of-texts _ _ _ _ _ _ _ _ _ _ _ _ _ _ (kept_of c.in_ok-status._left) c.new-texts.ensures.short
    c.new-texts.ensures.settings c.new-texts.ensures.faults c.new-texts.ensures.operator c.mode_of.ensures
    c.in_ok-status.ensures.whole)
