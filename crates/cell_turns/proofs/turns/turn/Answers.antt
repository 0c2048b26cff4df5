use Rattle.std.proofs.Common.{ap, ◌∙◌, sym}
use Rattle.std.specs.Option.{option_and_then}
use Rattle.cell_types.specs.Entries.{command_of}
use Rattle.cell_turns.proofs.turns.turn.Goals as goal

pub returns-in-Some-clause-turned : goal.returns-in-Some-clause-turned
returns-in-Some-clause-turned g c =
    let did = c.in_ok-entry.ensures.booked in
    record {
      booked = c.in_ok-entry.field-0;
      decided = did.decided;
      actor = did.actor;
      allowed = did.allowed;
      command = c.command_of.ensures ∙ ap (option_and_then command_of) (sym c.in-Some.is);
      journal = did.journal;
      list = did.list;
      shares = did.shares;
      fits = did.fits;
    }
