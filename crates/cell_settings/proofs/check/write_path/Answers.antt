-- Where a write is refused, the parts of the line before are written whole
use Rattle.std.proofs.Common.{refl}
use Rattle.cell_settings.proofs.Paths.{end-part, path-part}
use Rattle.cell_settings.proofs.check.write_path.Goals as goal

pub returns-in_err-write_escaped-clause-part : goal.returns-in_err-write_escaped-clause-part
returns-in_err-write_escaped-clause-part g c = λ failed.
    path-part _ _ _ _ _ c.args.path.now c.as_bytes.ensures.value c.in_ok-write_bytes.ensures.whole
    (c.in_err-write_escaped.ensures.part refl)

pub returns-clause-part : goal.returns-clause-part
returns-clause-part g c = λ failed.
    end-part _ _ _ _ _ _ c.args.path.now c.as_bytes.ensures.value c.in_ok-write_bytes.ensures.whole
    c.in_ok-write_escaped.ensures.whole (c.write_bytes-2.ensures.part failed)
