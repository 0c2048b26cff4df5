-- The text stands alone in the room
use Rattle.std.proofs.lemmas.Result.{on_ok_weaker}
use Rattle.line_writer.proofs.Putting.{put_alone}
use Rattle.line_writer.proofs.put.Goals as goal

pub returns : goal.returns
returns g c = on_ok_weaker _ (put_alone _ _ _ c.clear.ensures) c.write.ensures.writes
