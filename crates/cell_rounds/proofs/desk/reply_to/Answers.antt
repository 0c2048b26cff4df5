-- What can't be read is only answered, and so is what there is no room for
use Rattle.std.proofs.Common.{refl}
use Rattle.cell_plant.specs.declared.desk.Denial.TheVariants as denial
use Rattle.cell_plant.specs.declared.desk.Reply.TheVariants as reply
use Rattle.cell_plant.specs.declared.desk.Wish.TheVariants as wish
use Rattle.cell_rounds.specs.Stands.{state}
use Rattle.cell_rounds.proofs.Hearing.{goes_denies}
use Rattle.cell_rounds.proofs.desk.reply_to.Goals as goal

pub returns-in-Unreadable-clause-led : goal.returns-in-Unreadable-clause-led
returns-in-Unreadable-clause-led g c = λ p n.
    let cell = c.args.cell.now in
    rw c.in-Unreadable.is
    (goes_denies g.C.Plant.told g.K.Keeper.keeps cell.kept.limits p n wish.Unreadable (reply.Denied denial.Unreadable)
    (state c.args.plant.now c.args.keeper.now cell.kept.entries cell.watches cell.pending cell.script cell.lost) refl)

pub returns-in-TooMuch-clause-led : goal.returns-in-TooMuch-clause-led
returns-in-TooMuch-clause-led g c = λ p n.
    let cell = c.args.cell.now in
    rw c.in-TooMuch.is
    (goes_denies g.C.Plant.told g.K.Keeper.keeps cell.kept.limits p n wish.TooMuch (reply.Denied denial.TooMany)
    (state c.args.plant.now c.args.keeper.now cell.kept.entries cell.watches cell.pending cell.script cell.lost) refl)
