use Rattle.std.proofs.Common.{◌≡◌, Vec, List, true, refl, ap, ◌∙◌}
use Rattle.cell_types.specs.declared.words.Machine.{Machine}
use Rattle.cell_types.specs.declared.words.Entry.{Entry}
use Rattle.cell_turns.specs.declared.watch.Watch.{Watch}
use Rattle.cell_turns.specs.Six.{put, at, map_six}
use Rattle.cell_turns.specs.Sent.{SendsUnread}
use Rattle.cell_turns.specs.Minds.{machine_of_watch, has_failed_command}
use Rattle.cell_turns.proofs.Sixes.{put_at, map_put, map_at, all_put, all_picked}
use Rattle.cell_turns.proofs.Schedules.{scheduled_turn, scheduled_hand, grown_turn, did_hand}
use Rattle.cell_turns.proofs.scheduling.add_step.Goals as goal

-- only the watch of this machine is put back, and it is still the watch of this machine
pub returns-in-Err-clause-machines : goal.returns-in-Err-clause-machines
returns-in-Err-clause-machines g c =
    let watches = c.args.state.now.watches.now in
    let watch = c.take_turn.new.watch in
    all_put (λ n (w : Watch) (u : Watch) (v : Watch). machine_of_watch w ≡ n) c.in-Turn.machine watches watches watches
    watch watch watch c.requires.machines c.take_turn.ensures.machine

pub returns-in-Ok-clause-machines : goal.returns-in-Ok-clause-machines
returns-in-Ok-clause-machines g c =
    let watches = c.args.state.now.watches.now in
    let watch = c.take_turn.new.watch in
    all_put (λ n (w : Watch) (u : Watch) (v : Watch). machine_of_watch w ≡ n) c.in-Turn.machine watches watches watches
    watch watch watch c.requires.machines c.take_turn.ensures.machine

-- what was picked out is put back as it was, so all six are as they were
pub returns-in-Err-clause-unchanged : goal.returns-in-Err-clause-unchanged
returns-in-Err-clause-unchanged g c =
    let same = c.in-Err.ensures.unchanged in
    let m = c.in-Turn.machine in (
      same.1,
      same.2,
      ap (put c.args.state.now.watches.now m) (same.3 ∙ c.pick-watch.ensures.value)
          ∙ put_at c.args.state.now.watches.now m,
      ap (put c.args.ports.now m) (same.0 ∙ c.pick-port.ensures.value)
          ∙ put_at c.args.ports.now m,
    )

pub returns-in-Ok-clause-grown : goal.returns-in-Ok-clause-grown
returns-in-Ok-clause-grown g c = λ before h grown.
    let m = c.in-Turn.machine in
    let machines = c.args.ran.now.machines in
    let items = λ (v : Vec Entry _). v.items in
    rw (map_put items machines m c.take_turn.new.entries)
    (grown_turn before c.args.state.now.kept.now c.take_turn.new.kept h c.args.state.now.shares.now
    c.take_turn.new.shares
    (map_six items machines) c.args.ran.now.operator.items m
    c.pick-entries.result.now.items c.take_turn.new.entries.items (ap items c.pick-entries.ensures.value
    ∙ map_at items machines m) c.in-Ok.ensures.grew grown)

-- this machine's port alone was used, so what the others were sent stays as it was
pub returns-in-Ok-clause-sent : goal.returns-in-Ok-clause-sent
returns-in-Ok-clause-sent g c = λ before ws sent.
    let m = c.in-Turn.machine in
    let ports = c.args.ports.now in
    let watches = c.args.state.now.watches.now in
    let machines = c.args.ran.now.machines in
    let items = λ (v : Vec Entry _). v.items in
    let tells = g.P.Port.tells in
    let log = g.P.Port.log in
    let Q = λ (n : Machine) (p : g.row.P.Denot) (es : List Entry) (w : Watch). tells p ≡ true
    → SendsUnread (log (at before n)) (has_failed_command (at ws n)) (log p) es (has_failed_command w) in
    let was = all_picked Q m ports (map_six items machines) watches c.pick-port.result.now
    c.pick-entries.result.now.items c.pick-watch.result.now
    c.pick-port.ensures.value (ap items c.pick-entries.ensures.value ∙ map_at items machines m)
    c.pick-watch.ensures.value sent in
    rw (map_put items machines m c.take_turn.new.entries)
    (all_put Q m ports (map_six items machines) watches c.take_turn.new.port c.take_turn.new.entries.items
    c.take_turn.new.watch sent
    (λ told. record {
      sends = c.take_turn.ensures.sends told (log (at before m)) (has_failed_command (at ws m))
          (was (c.take_turn.ensures.still told)).sends;
      unread = c.take_turn.ensures.unread told ∙ (was (c.take_turn.ensures.still told)).unread;
    }))

pub returns-in-Ok-clause-scheduled : goal.returns-in-Ok-clause-scheduled
returns-in-Ok-clause-scheduled g c = λ steps before ws acts s.
    let operator = c.args.operator.now in
    rw c.in-Turn.is
    (scheduled_turn c.args.plan.now steps c.args.ran.now.refused _ before c.args.state.now.kept.now
    c.take_turn.new.kept ws
    c.args.state.now.watches.now (g.O.OperatorPort.tells operator) acts (g.O.OperatorPort.log operator)
    c.in-Turn.machine c.in-Turn.reading c.in-Ok.refused c.pick-watch.result.now c.take_turn.new.watch
    c.pick-watch.ensures.value c.in-Ok.ensures.turned c.in-Ok.ensures.refused refl s)

pub returns-in-Ok-hand-clause-did : goal.returns-in-Ok-hand-clause-did
returns-in-Ok-hand-clause-did g c = λ acts tells did.
    did_hand acts (g.O.OperatorPort.log c.args.operator.now) (g.O.OperatorPort.log c.hand.new.operator)
    c.args.ran.now.operator.items c.hand.new.entries.items c.in-Hand.entry c.in-Ok-hand.field-0
    (c.in-Ok-hand.ensures.told tells) c.in-Ok-hand.ensures.entries did

pub returns-in-Ok-hand-clause-scheduled : goal.returns-in-Ok-hand-clause-scheduled
returns-in-Ok-hand-clause-scheduled g c = λ steps before ws acts s.
    let operator = c.args.operator.now in
    rw c.in-Hand.is
    (scheduled_hand c.args.plan.now steps c.args.ran.now.refused before c.args.state.now.kept.now c.hand.new.kept ws
    c.args.state.now.watches.now (g.O.OperatorPort.tells operator) (g.O.OperatorPort.tells c.hand.new.operator) acts
    (g.O.OperatorPort.log operator) (g.O.OperatorPort.log c.hand.new.operator)
    c.in-Hand.entry c.in-Ok-hand.field-0 c.in-Ok-hand.ensures.handed c.in-Ok-hand.ensures.kept c.hand.ensures.still
    c.in-Ok-hand.ensures.told s)
