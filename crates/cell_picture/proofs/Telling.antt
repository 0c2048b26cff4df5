-- Facts that show what a journal tells, and have a place for each word, are those that the journal tells
use Rattle.std.proofs.Common.{◌≡◌, ◌↔◌, ◌<◌, ◌-◌, ℕ, Bool, true, false, List, Option, Some, None, refl, ap, ◌∙◌, arith}
use Rattle.std.specs.Prelude.{nat_lt}
use Rattle.std.specs.List.{count_by}
use Rattle.std.specs.Option.{option_map}
use Rattle.cell_types.specs.declared.words.Colour.TheVariants as colour
use Rattle.cell_types.specs.declared.words.Entry.{Entry}
use Rattle.cell_types.specs.Same.{axis_number, station_number, zone_number, machine_number, belt_number}
use Rattle.cell_types.specs.Texts.{all_station, all_axis, all_zone, all_machine, all_belt}
use Rattle.cell_rules.specs.Views.{plate_of, pose_of, holder_of, is_failed, is_asked, lamp_of}
use Rattle.cell_journal.specs.Snapshots.{no_axis}
use Rattle.cell_rules.specs.Safety.{is_forged_as}
use Rattle.cell_picture.specs.declared.facts.ShownPlate.{ShownPlate}
use Rattle.cell_picture.specs.declared.facts.Facts.{Facts}
use Rattle.cell_picture.specs.Parts.{IsWhole, plate_shown}
use Rattle.cell_picture.specs.Seen.{MarksForged, ShowsViews}
use Rattle.cell_picture.specs.Told.{facts_told, told_at}
use Rattle.cell_picture.proofs.Listed.{listed}

-- a test that says whether a count is above 0
test_same : (b : Bool) (n : ℕ) → (b ≡ true) ↔ (0 < n) → b ≡ nat_lt 0 n
test_same true n h = grind arith
test_same false n h = grind arith

-- a plate that is shown, where its number and its mark are those that the journal tells
plate_told : (J : List Entry) (o : Option ShownPlate) (told : Option ℕ)
    → option_map (λ (p : ShownPlate). p.plate) o ≡ told
    → ((p : ShownPlate) → o ≡ Some p → (p.forged ≡ true) ↔ (0 < count_by (is_forged_as p.plate) J))
    → o ≡ option_map (λ k. record { plate = k; forged = nat_lt 0 (count_by (is_forged_as k) J) }) told
plate_told J None told e marks = rw (← e) refl
plate_told J (Some p) told e marks =
    rw (← e) (ap (λ b. Some (record { plate = p.plate; forged = b }))
    (test_same p.forged (count_by (is_forged_as p.plate) J) (marks p refl)))

-- facts of the same parts are the same
same_parts : (f g : Facts) → f.plates ≡ g.plates → f.axes ≡ g.axes → f.holders ≡ g.holders → f.failed ≡ g.failed
    → f.asked ≡ g.asked
    → f.lamps ≡ g.lamps → f.expected ≡ g.expected → f.quarantine ≡ g.quarantine → f.totals ≡ g.totals → f ≡ g
same_parts f g a b c d e h i j k =
    ap (λ x. record f { plates = x }) a ∙ ap (λ x. record f { plates = g.plates; axes = x }) b
    ∙ ap (λ x. record f { plates = g.plates; axes = g.axes; holders = x }) c
    ∙ ap (λ x. record f { plates = g.plates; axes = g.axes; holders = g.holders; failed = x }) d
    ∙ ap (λ x. record g {
      asked = x;
      lamps = f.lamps;
      expected = f.expected;
      quarantine = f.quarantine;
      totals =
          f.totals;
    }) e
    ∙ ap (λ x. record g { lamps = x; expected = f.expected; quarantine = f.quarantine; totals = f.totals }) h
    ∙ ap (λ x. record g { expected = x; quarantine = f.quarantine; totals = f.totals }) i
    ∙ ap (λ x. record g { quarantine = x; totals = f.totals }) j ∙ ap (λ x. record g { totals = x }) k

-- each part is one value, or a list with a place for each word, so nothing else is left in which they could differ
pub facts_are_told : (f : Facts) (J : List Entry) → IsWhole f → ShowsViews f J → MarksForged f J → f ≡ facts_told J
unfolding facts_told
facts_are_told f J whole views marks =
    same_parts f (facts_told J)
    (listed station_number (told_at J) f.plates None all_station
    (refl, (refl, (refl, (refl, (refl, (refl, (refl, (refl, (refl, tt)))))))))
    (λ t. plate_told J (plate_shown f t) (plate_of J t) (views.plates t) (marks t)) whole.plates)
    (listed axis_number (pose_of J) f.axes no_axis all_axis
    (refl, (refl, (refl, (refl, (refl, (refl, (refl, (refl, (refl, tt))))))))) views.axes whole.axes)
    (listed zone_number (holder_of J) f.holders None all_zone (refl, (refl, (refl, (refl, (refl, tt))))) views.holders
    whole.holders)
    (listed machine_number (is_failed J) f.failed false all_machine (refl, (refl, (refl, (refl, (refl, (refl, tt))))))
    views.failed whole.failed)
    (listed machine_number (is_asked J) f.asked false all_machine (refl, (refl, (refl, (refl, (refl, (refl, tt))))))
    views.asked whole.asked)
    (listed belt_number (lamp_of J) f.lamps colour.Red all_belt (refl, (refl, tt)) views.lamps whole.lamps)
    views.expected views.quarantine views.totals
