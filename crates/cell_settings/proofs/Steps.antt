-- A step that stops the reading of settings
use Rattle.std.proofs.Common.{◌≡◌, Result, Ok, Err, refl}
use Rattle.std.specs.Result.{IsErrAnd}
use Rattle.cell_settings.specs.Settings.{Gives, GivesNumbers, Numbers, ◌>>=◌}
use Rattle.cell_ports.specs.declared.plan.Plan.{Plan}
use Rattle.cell_settings.specs.declared.error.SettingsError.{SettingsError}
use Rattle.cell_settings.specs.declared.error.SettingsError.TheVariants as error

-- an error ends the reading, whatever would be read next; want of memory says nothing of the text
stops_at : {A B : Type 0} (e : SettingsError) (due : Result A SettingsError) (f : A → Result B SettingsError)
    → Gives {X = A} (Err e) due → Gives {X = B} (Err e) (due >>= f)
stops_at error.NotToml due f h = rw h refl
stops_at (error.UnknownKey path) due f h = rw h refl
stops_at (error.Missing path) due f h = rw h refl
stops_at (error.NotNumber path) due f h = rw h refl
stops_at (error.OutOfRange path) due f h = rw h refl
stops_at error.OutOfMemory due f h = tt

-- the error of a step is the answer that is due
pub stops : {A : Type 0} (r : Result Plan SettingsError) (e : SettingsError) (due : Result A SettingsError) (f : A
    → Result Numbers SettingsError)
    → IsErrAnd r (λ x. x ≡ e) → Gives {X = A} (Err e) due → GivesNumbers r (due >>= f)
stops (Ok x) e due f is h = absurd is
stops (Err x) e due f is h = rw is (stops_at e due f h)
