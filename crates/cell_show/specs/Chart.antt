-- What an error of a chart is called
use Rattle.std.specs.Prelude.{ℕ, List, codes}
use Rattle.cell_show.specs.declared.chart.error.ChartError.{ChartError}
use Rattle.cell_show.specs.declared.chart.error.ChartError.TheVariants as error

-- an error as it is told
abbrev pub error_text : ChartError → List ℕ
error_text error.TooManyEntries = codes "TooManyEntries"
error_text error.OutOfMemory = codes "OutOfMemory"
error_text error.WriteFault = codes "WriteFault"
