-- Faults in later motions do nothing yet
use Rattle.std.proofs.Common.{◌≡◌, ◌≤◌, ◌&&◌, ◌==◌, ℕ, true, false, List, [], ◌∷◌, refl}
use Rattle.std.proofs.Common.{arith}
use Rattle.std.specs.Prelude.{None}
use Rattle.std.proofs.lemmas.Bool.{and_parts}
use Rattle.std.proofs.lemmas.Bool.Decides.{nat_tests}
use Rattle.cell_types.specs.declared.words.Axis.{Axis}
use Rattle.cell_types.specs.declared.words.Command.{Command}
use Rattle.cell_types.specs.declared.words.Command.TheVariants.{Lamp, On, Off, MagnetOn, MagnetOff, AllOff}
use Rattle.cell_types.specs.Same.{same_axis}
use Rattle.cell_sim.specs.Commands.{IsWithin, after_command, fails, motion_number, started}
use Rattle.cell_sim.specs.Script.{are_later, fault_in, is_later, latest_of}
use Rattle.cell_sim.specs.Simulated.{Simulated}
use Rattle.cell_sim.specs.declared.fault.PlannedFault.{PlannedFault}

-- a later fault is in no motion up to the latest
not_yet : (latest : List ℕ) (f : PlannedFault) (a : Axis) (n : ℕ) → is_later latest f ≡ true → n ≤ latest_of latest a
    → (same_axis f.axis a && (f.motion == n)) ≡ false
not_yet latest f a n later within = grind (arith, nat_tests)

-- a motion up to the latest has none of the faults
pub none_yet : (latest : List ℕ) (a : Axis) (n : ℕ) (faults : List PlannedFault) → are_later latest faults ≡ true
    → n ≤ latest_of latest a → fault_in a n faults ≡ None
none_yet latest a n [] later within = refl
none_yet latest a n (f ∷ faults) later within = rw (not_yet latest f a n (and_parts _ _ later).0 within)
    (none_yet latest a n faults (and_parts _ _ later).1 within)

pub same_world : (latest : List ℕ) (faults : List PlannedFault) (w : Simulated) (c : Command)
    → are_later latest faults ≡ true → IsWithin latest w c → after_command faults w c ≡ after_command [] w c
unfolding after_command fails started
same_world latest faults w (Lamp b c) later within = refl
same_world latest faults w (On a to) later within = rw (none_yet latest a (motion_number w a) faults later within) refl
same_world latest faults w (Off a) later within = refl
same_world latest faults w (MagnetOn a) later within = refl
same_world latest faults w (MagnetOff a) later within = refl
same_world latest faults w (AllOff m) later within = refl

pub same_failure : (latest : List ℕ) (faults : List PlannedFault) (w : Simulated) (c : Command)
    → are_later latest faults ≡ true → IsWithin latest w c → fails faults w c ≡ fails [] w c
unfolding fails
same_failure latest faults w (Lamp b c) later within = refl
same_failure latest faults w (On a to) later within = rw (none_yet latest a (motion_number w a) faults later within)
    refl
same_failure latest faults w (Off a) later within = refl
same_failure latest faults w (MagnetOn a) later within = refl
same_failure latest faults w (MagnetOff a) later within = refl
same_failure latest faults w (AllOff m) later within = refl
