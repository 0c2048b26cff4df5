use Rattle.std.proofs.Common.{rules, tests, ◌≡◌, ◌<◌, ◌∙◌, ◌+◌, ◌∷◌, ◌++◌, [], ℕ, List, length, drop, drop-cons}
use Rattle.std.proofs.Common.{add-one, append-nil, get_or, ap, refl, subst, sym}
use Rattle.std.specs.Io.KnownBytes.{Appends}
use Rattle.std.proofs.KnownBytes.{Appends-nil, Appends-trans}
use Rattle.cell_types.specs.Texts.{all_machine}
use Rattle.cell_types.specs.declared.words.Machine.TheVariants as machine
use Rattle.cell_sim.specs.Readings.{shown}
use Rattle.cell_sim.specs.Simulated.{Simulated}
use Rattle.cell_method.specs.Shown.{reading_line}
use Rattle.cell_drive.specs.Commanded.{after_readings, readings_told}
use Rattle.cell_drive.proofs.Commanding.{one-told, read-more, read-none, told-none}
use Rattle.cell_drive.proofs.by_commands.show_readings.Goals as goal

pub loop-machine-init : goal.loop-machine-init
loop-machine-init g c = record {
  world = refl;
  told = ([], Appends-nil (g.W.Write.contents c.args.writer.now), refl);
}

pub loop-machine-preserved : goal.loop-machine-preserved
loop-machine-preserved g c =
    let i = c.loop-machine.machine-index in
    let m = get_or all_machine i machine.Feed in
    let below : i < length all_machine = search rules in
    let turn : drop i all_machine ≡ m ∷ drop (i + 1) all_machine =
    drop-cons all_machine i machine.Feed below
    ∙ ap (λ k. m ∷ drop k all_machine) (sym (add-one i)) in
    let (first, written, so) = c.loop-machine.invariant.told in
    let before = c.loop-machine.world in
    let after = c.read-reading.new.self in
    let is = c.read-reading.ensures.world in
    record {
      world = c.loop-machine.invariant.world
          ∙ read-more (drop i all_machine) (drop (i + 1) all_machine) m before turn
          ∙ ap (λ (w : Simulated). after_readings (drop (i + 1) all_machine) w) (sym is);
      told = (
        first ++ reading_line m c.read-reading.result,
        Appends-trans _ _ _ first (reading_line m c.read-reading.result) written c.in_ok-write_line.ensures,
        one-told (drop i all_machine) (drop (i + 1) all_machine) m first c.args.world.now before turn so
            ∙ ap (λ (w : Simulated). (first ++ reading_line m (shown before m))
            ++ readings_told (drop (i + 1) all_machine) w) (sym is)
            ∙ ap (λ r. (first ++ reading_line m r) ++ readings_told (drop (i + 1) all_machine) after)
            (sym c.read-reading.ensures.shown),
      );
    }

-- all machines were told
pub returns-clause-told : goal.returns-clause-told
returns-clause-told g c =
    let all-of : c.loop-machine.machine-index ≡ 6 = search (rules, tests) in
    let (first, written, so) = c.loop-machine.invariant.told in
    let whole : readings_told all_machine c.args.world.now ≡ first =
    so ∙ ap (λ i. first ++ readings_told (drop i all_machine) c.loop-machine.world) all-of
    ∙ ap (λ text. first ++ text) (told-none c.loop-machine.world) ∙ append-nil first in
    subst (λ text. Appends (g.W.Write.contents c.args.writer.now) (g.W.Write.contents c.loop-machine.writer) text)
    (sym whole) written

pub returns-clause-world : goal.returns-clause-world
returns-clause-world g c =
    let all-of : c.loop-machine.machine-index ≡ 6 = search (rules, tests) in
    sym (c.loop-machine.invariant.world
    ∙ ap (λ i. after_readings (drop i all_machine) c.loop-machine.world) all-of ∙ read-none c.loop-machine.world)
