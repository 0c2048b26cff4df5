-- What is told where the program ends by a device that failed or for want of memory
use Rattle.std.specs.Prelude.{◌==◌, ℕ, List, [], ◌∷◌, ◌++◌, Option, Some, None, if◌then◌else◌, codes}
use Rattle.std.specs.declared.io.Error.{Error}
use Rattle.cell_command.specs.Failures.{failure_line}
use Rattle.cell_command.specs.declared.failure.Resource.{Resource}
use Rattle.cell_command.specs.declared.failure.Resource.TheVariants as at
use Rattle.cellctl.specs.declared.end.Failed.{Failed}
use Rattle.cellctl.specs.declared.end.Faults.{Faults}

-- a stream that failed by an error, or else what failed beside it
abbrev pub or_failed : Resource → Option Error → Option Failed → Option Failed
or_failed stream (Some e) other = Some (record { resource = stream; error = Some e })
or_failed stream None other = other

-- where no stream has an error, one of standard output's writes took nothing
abbrev pub unknown_failed : ℕ → Option Failed
unknown_failed status = if status == 3 then Some (record { resource = at.Output; error = None }) else None

-- the stream that failed
abbrev pub stream_failed : Faults → ℕ → Option Failed
stream_failed faults status =
    or_failed at.Input faults.input (or_failed at.Output faults.output
    (or_failed at.Errors faults.errors (unknown_failed status)))

-- the line of a file or a stream that failed
abbrev pub failed_line : Option Failed → List ℕ
failed_line None = []
failed_line (Some failed) = failure_line failed.resource failed.error

-- a line, and below it that of what failed
abbrev pub lines_below : List ℕ → Option Failed → List ℕ
lines_below line failed = (line ++ 10 ∷ []) ++ failed_line failed

-- both lines, of a status for which there are some
abbrev pub end_lines : ℕ → Option Failed → List ℕ
end_lines status failed = if status == 3 then lines_below (codes "read fault") failed else if status == 4
    then lines_below (codes "out of memory") failed else []
