-- A conversation with a method
use Rattle.std.specs.Prelude.{◌≡◌}
use Rattle.cell_method.specs.declared.conversation.Conversation.{Conversation}

-- the method is still told by the same writer
abbrev pub KeepsWriter : {R W : Type 0} → Conversation R W → Conversation R W → Type 0
KeepsWriter old new = new.writer.ghost_name ≡ old.writer.ghost_name
