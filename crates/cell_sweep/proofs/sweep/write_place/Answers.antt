-- What is written is of the run at the place
use Rattle.cell_sweep.specs.Cases.{cases_of, motions_of}
use Rattle.cell_sweep.specs.Sweeps.{wanted_by}
use Rattle.cell_sweep.proofs.sweep.write_place.Goals as goal

pub returns-in-Some-clause-told : goal.returns-in-Some-clause-told
returns-in-Some-clause-told g c =
    let places = c.args.places.now in
    let task = c.args.task.now in
    let cases = cases_of task.sweep.choice places.kinds.now (motions_of places.counts) in
    c.write_made.ensures.told task.settings.now.text.now task.operator.now cases c.args.place
    (c.in-Some.ensures.made task.settings.now.text.now task.operator.now (wanted_by task.sweep) cases c.requires.made)
    c.in-Some.ensures.place

pub returns-clause-told : goal.returns-clause-told
returns-clause-told g c =
    let places = c.args.places.now in
    let task = c.args.task.now in
    let cases = cases_of task.sweep.choice places.kinds.now (motions_of places.counts) in
    c.write_made-2.ensures.told task.settings.now.text.now task.operator.now cases c.args.place
    c.in_ok-made.ensures.made c.in_ok-made.ensures.place
