-- Whether a flag is given is told by the one text that its rows have
use Rattle.std.proofs.Common.{◌∙◌}
use Rattle.clap.specs.Words.{found_of}
use Rattle.clap.proofs.WalkLemmas.{one_text-rows}
use Rattle.cell_command.proofs.order.flag.Goals as goal

pub returns : goal.returns
returns c =
    let same = one_text-rows (found_of c.args.matches.now) c.args.id.now in (
      λ e. c.get_flag.ensures.value (same ∙ e),
      λ e. c.get_flag.ensures.other (same ∙ e),
      λ e. c.get_flag.ensures.none
          (same ∙ e),
    )
