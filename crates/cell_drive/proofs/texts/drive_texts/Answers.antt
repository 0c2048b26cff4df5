-- Nothing of the input was read before the method's lines, so all of it is theirs
use Rattle.std.proofs.Common.{List, Ok, Option, option_map, refl, rules, subst, ℕ}
use Rattle.std.proofs.lemmas.Result.{IfOk-weaker}
use Rattle.cell_method.specs.Lines.{lines_of}
use Rattle.cell_output.specs.Watched.{bytes_held}
use Rattle.cell_runs.proofs.Telling.{as-held}
use Rattle.cell_drive.specs.Drives.{DrivesBy}
use Rattle.cell_drive.proofs.Drove.{of-status}
use Rattle.cell_drive.proofs.texts.drive_texts.Goals as goal

pub returns : goal.returns
returns g c =
    let held = bytes_held g.W.Write.contents in
    IfOk-weaker c.ended.result _ _ (λ status same. (
      Ok c.in-Ok.inputs,
      c.in-Ok.ensures.inputs,
      λ few.
          let from = option_map (λ j. j.now.entries) c.args.driving.from in
          as-held (λ (old new : Option (List ℕ)). DrivesBy c.args.driving.raw c.in-Ok.inputs from
          (option_map lines_of (g.I.Read.remaining c.args.input)) old new status) _ _ _ _ refl (search rules)
          (subst (λ all. DrivesBy c.args.driving.raw c.in-Ok.inputs from all
          (held c.args.output.now) (held c.drive_by-ran.new.method.writer.now) status)
          c.new-lines.ensures (of-status _ c.drive_by-ran.result status same c.drive_by-ran.ensures.run few)),
    )) c.ended.ensures
