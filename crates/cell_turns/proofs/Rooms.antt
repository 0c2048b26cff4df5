-- What each point of a turn decides is the machine's own, and is refused only for want of room
use Rattle.std.proofs.Common.{◌≡◌, Bool, true, false, ◌&&◌, Option, Some, None, List, refl, subst}
use Rattle.cell_types.specs.declared.words.Machine.{Machine}
use Rattle.cell_types.specs.declared.words.Cause.{Cause}
use Rattle.cell_types.specs.declared.words.Cause.TheVariants as cause
use Rattle.cell_types.specs.declared.words.Entry.{Entry}
use Rattle.cell_types.specs.declared.words.Entry.TheVariants.{Declared}
use Rattle.cell_rules.specs.Views.{is_failed, is_asked}
use Rattle.cell_rules.specs.declared.limits.BookLimits.{BookLimits}
use Rattle.cell_rules.specs.Bridged.{TellsWhatIsLeft}
use Rattle.cell_diagnosis.specs.declared.motion.Motion.{Motion}
use Rattle.cell_diagnosis.specs.declared.verdict.Verdict.{Verdict}
use Rattle.cell_diagnosis.specs.declared.verdict.Verdict.TheVariants.{Pending, Arrived, Fault}
use Rattle.cell_turns.specs.Rulings.{ending, books, ruling_by}
use Rattle.cell_turns.specs.declared.watch.Memory.{Memory}
use Rattle.cell_turns.specs.declared.turns.decide.Findings.{Findings}
use Rattle.cell_turns.proofs.Points.{by_sign, by_end, by_rest, by_axis, by_all}
use Rattle.cell_turns.proofs.Own.{IsOwn, OwnRuling}
use Rattle.cell_turns.proofs.Tests.{full_then, skip, none_left}
pub use Rattle.cell_turns.proofs.Shown.{own_axis}
use Rattle.cell_turns.proofs.Shown.{AreShown}
use Rattle.cell_turns.proofs.Endings.{own_ending}
use Rattle.cell_turns.proofs.Signed.{IsLit, own_signed}

-- but for room the book refuses a declaration only of a machine that has failed already
own_declared : (l : BookLimits) (J : List Entry) (m : Machine) (c : Cause) → is_failed J m ≡ false
    → IsOwn l J m (Declared m c)
own_declared l J m c healthy = record {
  by = refl;
  room = full_then _ (Declared m c) _ (skip _ _ (Declared m c) _ healthy (none_left (Declared m c)));
  plain = refl;
}

-- the points

own_by_sign : (l : BookLimits) (J : List Entry) (m : Machine) (sign : Bool) → is_failed J m ≡ false
    → (sign ≡ true → IsLit J m) → TellsWhatIsLeft J → OwnRuling l J m (by_sign J m sign)
own_by_sign l J m true healthy lit told = own_signed l J m healthy (lit refl) told
own_by_sign l J m false healthy lit told = tt

own_by_end : (l : BookLimits) (J : List Entry) (m : Machine) (sign : Bool) (o : Option Motion) (v : Verdict)
    → is_failed J m ≡ false → (sign ≡ true → IsLit J m) → TellsWhatIsLeft J → AreShown J m o
    → OwnRuling l J m (by_end J m sign o v)
own_by_end l J m sign None v healthy lit told seen = own_by_sign l J m sign healthy lit told
own_by_end l J m sign (Some mo) Pending healthy lit told seen = own_by_sign l J m sign healthy lit told
own_by_end l J m sign (Some mo) (Fault c) healthy lit told seen = own_by_sign l J m sign healthy lit told
own_by_end l J m sign (Some mo) Arrived healthy lit told seen =
    subst (λ (n : Machine). OwnRuling l J n (books (ending J mo.axis mo.to))) seen.own
    (own_ending l J mo.axis mo.to (rw seen.own healthy) seen.going told)

own_by_rest : (l : BookLimits) (J : List Entry) (m : Machine) (sign : Bool) (o : Option Motion) (v u : Verdict)
    → is_failed J m ≡ false → (sign ≡ true → IsLit J m) → TellsWhatIsLeft J → AreShown J m o
    → OwnRuling l J m (by_rest J m sign o v u)
own_by_rest l J m sign o v (Fault c) healthy lit told seen = own_declared l J m c healthy
own_by_rest l J m sign o v Arrived healthy lit told seen = own_by_end l J m sign o v healthy lit told seen
own_by_rest l J m sign o v Pending healthy lit told seen = own_by_end l J m sign o v healthy lit told seen

own_by_axis : (l : BookLimits) (J : List Entry) (m : Machine) (sign : Bool) (o : Option Motion) (v u : Verdict)
    → is_failed J m ≡ false → (sign ≡ true → IsLit J m) → TellsWhatIsLeft J → AreShown J m o
    → OwnRuling l J m (by_axis J m sign o v u)
own_by_axis l J m sign o (Fault c) u healthy lit told seen = own_declared l J m c healthy
own_by_axis l J m sign o Arrived u healthy lit told seen = own_by_rest l J m sign o Arrived u healthy lit told seen
own_by_axis l J m sign o Pending u healthy lit told seen = own_by_rest l J m sign o Pending u healthy lit told seen

-- the first point ends the turn of a failed machine, so at all others the machine is well
pub own_ruling : (l : BookLimits) (J : List Entry) (m : Machine) (kept : Memory) (found : Findings)
    → ((kept.sign && found.sign) ≡ true → IsLit J m) → TellsWhatIsLeft J → AreShown J m found.motion
    → OwnRuling l J m (ruling_by J m kept found)
own_ruling l J m kept found lit told seen = go (is_failed J m) refl kept.command_failed (is_asked J m) kept.failed
  where
    go : (failed : Bool) → is_failed J m ≡ failed → (a b c : Bool)
        → OwnRuling l J m (by_all J m failed a b c (kept.sign && found.sign) found.motion found.at_axis found.at_rest)
    go true is a b c = tt
    go false is true b c = own_declared l J m cause.CommandFault is
    go false is false true c = own_declared l J m cause.OperatorStop is
    go false is false false true = tt
    go false is false false false = own_by_axis l J m (kept.sign && found.sign) found.motion found.at_axis found.at_rest
        is lit told seen
