-- What a turn does to the readings that a watch fits
use Rattle.std.proofs.Common.{◌≡◌, ◌&&◌, ◌||◌, Bool, not, Option, None, List, [], ◌++◌, option_to_list, if◌then◌else◌}
use Rattle.std.proofs.Common.{refl, ap, ◌∙◌, subst}
use Rattle.std.proofs.Math.Logic.{∥∥₁_map, ∥∥₁_elim}
use mathlib.Core.Bool.{Bool-set}
use Rattle.std.specs.Prelude.{is_none}
use Rattle.cell_types.specs.declared.words.Machine.{Machine}
use Rattle.cell_types.specs.declared.words.Entry.{Entry}
use Rattle.cell_rules.specs.declared.limits.BookLimits.{BookLimits}
use Rattle.cell_diagnosis.specs.declared.reading.Reading.{Reading}
use Rattle.cell_diagnosis.specs.declared.axis_watch.AxisWatch.{AxisWatch}
use Rattle.cell_diagnosis.specs.declared.rest_watch.RestWatch.{RestWatch}
use Rattle.cell_diagnosis.specs.RestFacts.{Noted}
use Rattle.cell_diagnosis.specs.RestRules.{rest}
use Rattle.cell_diagnosis.specs.RestWatches.{RestFits}
use Rattle.cell_turns.specs.declared.watch.Memory.{Memory}
use Rattle.cell_ports.specs.declared.plan.Plan.{Plan}
use Rattle.cell_turns.specs.declared.turns.decide.Findings.{Findings}
use Rattle.cell_turns.specs.declared.turns.decide.Ruling.{Ruling}
use Rattle.cell_turns.specs.declared.watch.Watch.{Watch}
use Rattle.cell_turns.specs.Moving.{motion_of_machine}
use Rattle.cell_turns.specs.Signs.{shows_sign}
use Rattle.cell_turns.specs.Following.{Following, FitsAxis, IsFitted}
use Rattle.cell_turns.specs.Minds.{Mind, FitsMind, remembered}
use Rattle.cell_turns.specs.Observed.{axis_noted, axis_verdict, rest_noted, findings}
use Rattle.cell_turns.specs.Rulings.{ruling_by, ruling}
use Rattle.cell_turns.specs.Turns.{IsRuled, IsDecided, begins_anew, ends_motion, memory_after, mind_after}

-- what a watch found is what its readings with this one show
found_is : (w : Watch) (J : List Entry) (p : Plan) (s : Mind) (r : Option Reading) (found : Findings)
    → found.motion ≡ motion_of_machine J p w.machine
    → found.sign ≡ shows_sign J w.machine r
    → FitsMind w s
    → ((f : Option Following) → FitsAxis w.axis f → found.at_axis ≡ axis_verdict (axis_noted J w.machine p f r))
    → ((L : List Noted) → RestFits w.rest L → found.at_rest ≡ rest (rest_noted J w.machine w.memory L r))
    → found ≡ findings J w.machine p s r
found_is w J p s r found motion_is sign_is fit axis_is rest_is = λ i. record {
  motion = motion_is i;
  at_axis = axis_is s.axis fit.axis i;
  at_rest = (rest_is s.rest fit.rest ∙ ap (λ (k : Memory). rest (rest_noted J w.machine k s.rest r)) fit.memory) i;
  sign = sign_is i;
}

-- a mind that fits has the memory of its watch, so one may stand for the other
pub fits_after : (w : Watch) (J : List Entry) (m : Machine) (p : Plan) (s : Mind) (r : Option Reading)
    (e : Option Entry) (w' : Watch) (noted_axis : Option AxisWatch) (noted_rest : RestWatch)
    → FitsMind w s
    → ((f : Option Following) → FitsAxis w.axis f → FitsAxis noted_axis (axis_noted J m p f r))
    → ((L : List Noted) → RestFits w.rest L → RestFits noted_rest (rest_noted J m w.memory L r))
    → ((f : Option Following) → FitsAxis noted_axis f
    → FitsAxis w'.axis (if begins_anew J m w.memory || ends_motion e then None else f))
    → ((L : List Noted) → RestFits noted_rest L → RestFits w'.rest (if begins_anew J m w.memory then [] else L))
    → w'.memory ≡ memory_after J (J ++ option_to_list e) m w.memory r e
    → FitsMind w' (mind_after J m p s r e)
unfolding mind_after
fits_after w J m p s r e w' noted_axis noted_rest fit axis_fits rest_fits axis_next rest_next memory_is = record {
  axis = subst (λ (k : Memory). FitsAxis w'.axis (if begins_anew J m k || ends_motion e then None else axis_noted J m p
      s.axis r)) fit.memory (axis_next (axis_noted J m p s.axis r) (axis_fits s.axis fit.axis));
  rest = subst (λ (k : Memory). RestFits w'.rest (if begins_anew J m k then [] else rest_noted J m k s.rest r))
      fit.memory (rest_next (rest_noted J m w.memory s.rest r) (rest_fits s.rest fit.rest));
  memory = memory_is ∙ ap (λ (k : Memory). memory_after J (J ++ option_to_list e) m k r e) fit.memory;
}

-- a turn, as the code has it

pub ruling_is : (w : Watch) (J : List Entry) (p : Plan) (s : Mind) (r : Option Reading) (k : Ruling) (found : Findings)
    → found.motion ≡ motion_of_machine J p w.machine
    → found.sign ≡ shows_sign J w.machine r
    → k ≡ ruling_by J w.machine w.memory found
    → FitsMind w s
    → ((f : Option Following) → FitsAxis w.axis f → found.at_axis ≡ axis_verdict (axis_noted J w.machine p f r))
    → ((L : List Noted) → RestFits w.rest L → found.at_rest ≡ rest (rest_noted J w.machine w.memory L r))
    → k ≡ ruling J w.machine p s r
unfolding ruling
ruling_is w J p s r k found motion_is sign_is k_is fit axis_is rest_is =
    k_is
    ∙ ap (λ (f : Findings). ruling_by J w.machine w.memory f)
    (found_is w J p s r found motion_is sign_is fit axis_is rest_is)
    ∙ ap (λ (m : Memory). ruling_by J w.machine m (findings J w.machine p s r)) fit.memory

pub decided : (l : BookLimits) (w : Watch) (J : List Entry) (p : Plan) (s : Mind) (r : Option Reading) (k : Ruling)
    (e : Option Entry) (found : Findings)
    → found.motion ≡ motion_of_machine J p w.machine
    → found.sign ≡ shows_sign J w.machine r
    → k ≡ ruling_by J w.machine w.memory found
    → FitsMind w s
    → ((f : Option Following) → FitsAxis w.axis f → found.at_axis ≡ axis_verdict (axis_noted J w.machine p f r))
    → ((L : List Noted) → RestFits w.rest L → found.at_rest ≡ rest (rest_noted J w.machine w.memory L r))
    → IsRuled l J w.machine p.plates k e
    → IsDecided l J w.machine p s r e
decided l w J p s r k e found motion_is sign_is k_is fit axis_is rest_is h =
    subst (λ (x : Ruling). IsRuled l J w.machine p.plates x e)
    (ruling_is w J p s r k found motion_is sign_is k_is fit axis_is rest_is) h

-- the code works out by itself whether to begin anew and whether a sign shows
pub fits_turned : (w : Watch) (J J' : List Entry) (p : Plan) (s : Mind) (r : Option Reading) (e : Option Entry)
    (w' : Watch) (noted_axis : Option AxisWatch) (noted_rest : RestWatch) (anew sign : Bool)
    → anew ≡ begins_anew J w.machine w.memory
    → sign ≡ shows_sign J w.machine r
    → J' ≡ J ++ option_to_list e
    → FitsMind w s
    → ((f : Option Following) → FitsAxis w.axis f → FitsAxis noted_axis (axis_noted J w.machine p f r))
    → ((L : List Noted) → RestFits w.rest L → RestFits noted_rest (rest_noted J w.machine w.memory L r))
    → ((f : Option Following) → FitsAxis noted_axis f → FitsAxis w'.axis (if anew || ends_motion e then None else f))
    → ((L : List Noted) → RestFits noted_rest L → RestFits w'.rest (if anew then [] else L))
    → w'.memory ≡ remembered J' w.machine (is_none e && w.memory.command_failed)
    (not anew && (not w.memory.sign && sign))
    → FitsMind w' (mind_after J w.machine p s r e)
fits_turned w J J' p s r e w' noted_axis noted_rest anew sign anew_is sign_is journal_is fit axis_fits rest_fits
    axis_next rest_next memory_is =
    fits_after w J w.machine p s r e w' noted_axis noted_rest fit axis_fits rest_fits
    (λ f h. subst (λ (b : Bool). FitsAxis w'.axis (if b || ends_motion e then None else f)) anew_is (axis_next f h))
    (λ L h. subst (λ (b : Bool). RestFits w'.rest (if b then [] else L)) anew_is (rest_next L h))
    (memory_is
    ∙ ap (λ (K : List Entry). remembered K w.machine (is_none e && w.memory.command_failed)
    (not anew && (not w.memory.sign && sign))) journal_is
    ∙ ap (λ (b : Bool). remembered (J ++ option_to_list e) w.machine (is_none e && w.memory.command_failed)
    (not b && (not w.memory.sign && sign))) anew_is
    ∙ ap (λ (b : Bool). remembered (J ++ option_to_list e) w.machine (is_none e && w.memory.command_failed)
    (not (begins_anew J w.machine w.memory) && (not w.memory.sign && b))) sign_is)

-- some readings fit the watches again after each noted one more, or began anew
pub fitted_again : (axis axis' : Option AxisWatch) (rest rest' : RestWatch) (F : Option Following
    → Option Following) (N : List Noted → List Noted)
    → ((f : Option Following) → FitsAxis axis f → FitsAxis axis' (F f))
    → ((L : List Noted) → RestFits rest L → RestFits rest' (N L))
    → ∥ IsFitted axis rest ∥₁ → ∥ IsFitted axis' rest' ∥₁
fitted_again axis axis' rest rest' F N a r h =
    ∥∥₁_map h (λ (x : IsFitted axis rest). record {
      following = F x.following;
      noted = N x.noted;
      axis_fits =
          a x.following x.axis_fits;
      rest_fits = r x.noted x.rest_fits;
    })

-- some readings fit a watch, so what all that fit it have is so
pub of_some : (w : Watch) (a b : Bool) → ((s : Mind) → FitsMind w s → a ≡ b) → a ≡ b
of_some w a b h = ∥∥₁_elim w.fitted (Bool-set a b)
    (λ (x : IsFitted w.axis w.rest). h (record { axis = x.following; rest = x.noted; memory = w.memory })
    (record { axis = x.axis_fits; rest = x.rest_fits; memory = refl }))
