-- What is told of a read or a write that failed, or of a thread that could not be started
use Rattle.std.specs.Prelude.{◌==◌, ◌||◌, ℕ, List, [], ◌∷◌, ◌++◌, Option, Some, None, option_map, unwrap_or}
use Rattle.std.specs.Prelude.{if◌then◌else◌, codes, decimal, unsigned_abs}
use Rattle.std.specs.IoError.{error_kind, raw_os_error}
use Rattle.std.specs.declared.io.Error.{Error}
use Rattle.std.specs.declared.io.ErrorKind.{ErrorKind}
use Rattle.std.specs.declared.io.ErrorKind.TheVariants as kind
use Rattle.cell_command.specs.Escaped.{escaped}
use Rattle.cell_command.specs.declared.failure.Cause.{Cause}
use Rattle.cell_command.specs.declared.failure.Cause.TheVariants as cause
use Rattle.cell_command.specs.declared.failure.Resource.{Resource}
use Rattle.cell_command.specs.declared.failure.Resource.TheVariants as resource

-- what a resource is called
abbrev pub resource_name : Resource → List ℕ
resource_name (resource.File path) = path.now
resource_name resource.Input = codes "standard input"
resource_name resource.Output = codes "standard output"
resource_name resource.Errors = codes "standard error"
resource_name resource.Threads = codes "run"

-- what failed of it
abbrev pub refusal : Resource → List ℕ
refusal (resource.File path) = codes "can't be read"
refusal resource.Input = codes "can't be read"
refusal resource.Output = codes "can't be written"
refusal resource.Errors = codes "can't be written"
refusal resource.Threads = codes "no thread could be started"

-- of a resource that isn't open for that
abbrev pub not_open : Resource → List ℕ
not_open (resource.File path) = codes "not open for reading"
not_open resource.Input = codes "not open for reading"
not_open resource.Output = codes "not open for writing"
not_open resource.Errors = codes "not open for writing"
not_open resource.Threads = codes "no thread could be started"

-- the words for a kind of error
abbrev pub kind_words : ErrorKind → Option (List ℕ)
kind_words kind.NotFound = Some (codes "no such file")
kind_words kind.PermissionDenied = Some (codes "permission denied")
kind_words kind.NotADirectory = Some (codes "its path goes through a file")
kind_words kind.IsADirectory = Some (codes "is a folder")
kind_words kind.FilesystemLoop = Some (codes "its links go in a circle")
kind_words kind.InvalidFilename = Some (codes "its name is too long")
kind_words kind.FileTooLarge = Some (codes "too large")
kind_words kind.StorageFull = Some (codes "no space left")
kind_words kind.QuotaExceeded = Some (codes "no space left in the quota")
kind_words kind.ReadOnlyFilesystem = Some (codes "can't be written, as all of its file system")
kind_words kind.BrokenPipe = Some (codes "nobody reads it any more")
kind_words kind.WouldBlock = Some (codes "it would have to be waited for")
kind_words kind.TimedOut = Some (codes "timed out")
kind_words kind.StaleNetworkFileHandle = Some (codes "gone from its server")
kind_words kind.ResourceBusy = Some (codes "in use")
kind_words kind.ExecutableFileBusy = Some (codes "in use")
kind_words kind.WriteZero = Some (codes "takes no more")
kind_words kind.Interrupted = Some (codes "interrupted too often")
kind_words kind.OutOfMemory = Some (codes "no memory for it")
kind_words _ = None

-- the words for an error of Linux that has no kind, by its number
abbrev pub number_words : Resource → ℕ → Option (List ℕ)
number_words at n =
    if n == 5 then Some (codes "the device failed")
    else if n == 6 || n == 19 then Some (codes "no such device")
    else if n == 9 then Some (not_open at)
    else if n == 23 || n == 24 then Some (codes "too many files are open")
    else None

-- what is printed of a cause
abbrev pub cause_text : Cause → List ℕ
cause_text (cause.Words words) = words.now
cause_text (cause.Number words n) = words.now ++ (codes " (error " ++ (decimal n ++ codes " of the system)"))

-- what is told of an error by its number
abbrev pub number_text : Resource → ℕ → List ℕ
number_text at n = unwrap_or (number_words at n)
    (refusal at ++ (codes " (error " ++ (decimal n ++ codes " of the system)")))

-- why a read or a write failed, where an error may be known
abbrev pub reason : Resource → Option Error → List ℕ
reason at None = refusal at
reason at (Some e) = unwrap_or (kind_words (error_kind e))
    (unwrap_or (option_map (λ code. number_text at (unsigned_abs code)) (raw_os_error e)) (refusal at))

-- the line that tells it
abbrev pub failure_line : Resource → Option Error → List ℕ
failure_line at e = codes "cellctl: " ++ (escaped (resource_name at) ++ (codes ": " ++ (reason at e ++ 10 ∷ [])))
