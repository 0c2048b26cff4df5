-- The first list, one list more after each entry, and the end
use Rattle.std.proofs.Common.{◌≡◌, ◌+◌, ◌<◌, length, ap, subst, ◌∙◌, arith}
use Rattle.cell_waits.specs.Past.{entries_of, taken_of}
use Rattle.cell_show.specs.Waits.{WritesWaits}
use Rattle.cell_show.proofs.Waited.{first_list, list_more, lists_whole, waits_at}
use Rattle.cell_show.proofs.page.waits.write_waits.Goals as goal

pub loop-count-init : goal.loop-count-init
loop-count-init g c =
    let J = c.args.book.now.entries in
    let same = c.after-past.ensures.entries in
    let taken = c.after-past.ensures.taken in
    record {
      entries = same;
      taken = omega (arith, taken);
      waits = waits_at _ J _ (c.args.first + 0) _ c.waits_after-waits.ensures same (omega (arith, taken));
      told = first_list J c.args.first _ _ _ _ (waits_at _ J _ c.args.first _ c.waits_after-waits.ensures same taken)
          c.in_ok-write_all.ensures.bytes c.in_ok-write_list.ensures.list;
    }

pub loop-count-preserved : goal.loop-count-preserved
loop-count-preserved g c =
    let J = c.args.book.now.entries in
    let was = c.loop-count.invariant in
    let n = c.loop-count._count in
    let count : length (entries_of c.loop-count.past) ≡ length J = ap length was.entries in
    let more : taken_of c.loop-count.past < length (entries_of c.loop-count.past) =
    omega (arith, was.taken, count, c.requires, c.loop-count-test.true) in
    let same = c.step.ensures.entries ∙ was.entries in
    let taken : taken_of c.step.new.self ≡ c.args.first + n + 1 =
    omega (arith, c.step.ensures.taken more, was.taken) in
    let now = waits_at _ J _ (c.args.first + n + 1) _ c.waits_after-waits-in-loop-count.ensures same taken in
    record {
      entries = same;
      taken = omega (arith, taken);
      waits = waits_at _ J _ (c.args.first + (n + 1)) _ c.waits_after-waits-in-loop-count.ensures same
          (omega (arith, taken));
      told = list_more J c.args.first n _ _ _ _ _ _ was.waits now was.told c.in_ok-write_all-2.ensures.bytes
          c.in_ok-write_list-2.ensures.list;
    }

pub returns-clause-waits : goal.returns-clause-waits
returns-clause-waits g c =
    let done : c.loop-count._count ≡ c.args.more = omega arith in
    subst (λ n. WritesWaits (g.W.Write.contents c.args.writer.now) (g.W.Write.contents c.write_all-2.new.self)
    c.args.book.now.entries c.args.first n) done
    (lists_whole c.args.book.now.entries c.args.first c.loop-count._count _ _ _ c.loop-count.invariant.told
    c.in_ok-write_all-3.ensures.bytes)
