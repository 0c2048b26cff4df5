-- The cells of the six machines, one by one
use Rattle.std.proofs.Common.{◌≡◌, None, length, arith, rules}
use Rattle.std.proofs.lemmas.List.{get_or_default}
use Rattle.cell_show.proofs.Waited.{next_at, six_next}
use Rattle.cell_show.proofs.page.waits.all_next.Goals as goal

pub returns : goal.returns
returns c =
    let before : length c.args.before.now ≡ 6 = search rules in
    let now : length c.args.now.now ≡ 6 = search rules in
    six_next c.args.before.now c.args.now.now _ _ _ _ _ _ before now
    (next_at _ _ _ _ _ (get_or_default c.args.before.now 0 _ None (omega (arith, before)))
    (get_or_default c.args.now.now 0 _ None (omega (arith, now))) c.next_of.ensures)
    (next_at _ _ _ _ _ (get_or_default c.args.before.now 1 _ None (omega (arith, before)))
    (get_or_default c.args.now.now 1 _ None (omega (arith, now))) c.next_of-2.ensures)
    (next_at _ _ _ _ _ (get_or_default c.args.before.now 2 _ None (omega (arith, before)))
    (get_or_default c.args.now.now 2 _ None (omega (arith, now))) c.next_of-3.ensures)
    (next_at _ _ _ _ _ (get_or_default c.args.before.now 3 _ None (omega (arith, before)))
    (get_or_default c.args.now.now 3 _ None (omega (arith, now))) c.next_of-4.ensures)
    (next_at _ _ _ _ _ (get_or_default c.args.before.now 4 _ None (omega (arith, before)))
    (get_or_default c.args.now.now 4 _ None (omega (arith, now))) c.next_of-5.ensures)
    (next_at _ _ _ _ _ (get_or_default c.args.before.now 5 _ None (omega (arith, before)))
    (get_or_default c.args.now.now 5 _ None (omega (arith, now))) c.next_of-6.ensures)
