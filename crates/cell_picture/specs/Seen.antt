-- What a picture shows is what a journal tells
use Rattle.std.specs.Prelude.{◌≡◌, ◌-◌, ◌↔◌, ◌<◌, true, Some, List}
use Rattle.std.specs.List.{count_by}
use Rattle.std.specs.Option.{option_map}
use Rattle.cell_types.specs.declared.words.Machine.{Machine}
use Rattle.cell_types.specs.declared.words.Station.{Station}
use Rattle.cell_types.specs.declared.words.Axis.{Axis}
use Rattle.cell_types.specs.declared.words.Zone.{Zone}
use Rattle.cell_types.specs.declared.words.Belt.{Belt}
use Rattle.cell_types.specs.declared.words.Entry.{Entry}
use Rattle.cell_rules.specs.Views.{plate_of, pose_of, holder_of, is_failed, is_asked, lamp_of, expected_of, count_of}
use Rattle.cell_rules.specs.Safety.{is_forged_as}
use Rattle.cell_picture.specs.declared.facts.ShownPlate.{ShownPlate}
use Rattle.cell_picture.specs.declared.facts.Facts.{Facts}
use Rattle.cell_picture.specs.Parts.{plate_shown, axis_shown, holder_shown, failed_shown, asked_shown, lamp_shown}

-- each part that is shown is the view of the journal
pub record ShowsViews (f : Facts) (J : List Entry) : Type 0 where
  pub plates : (t : Station) → option_map (λ (p : ShownPlate). p.plate) (plate_shown f t) ≡ plate_of J t
  pub axes : (a : Axis) → axis_shown f a ≡ pose_of J a
  pub holders : (z : Zone) → holder_shown f z ≡ holder_of J z
  pub failed : (m : Machine) → failed_shown f m ≡ is_failed J m
  pub asked : (m : Machine) → asked_shown f m ≡ is_asked J m
  pub lamps : (b : Belt) → lamp_shown f b ≡ lamp_of J b
  pub expected : f.expected ≡ expected_of J
  pub totals : f.totals ≡ count_of J
  pub quarantine : f.quarantine ≡ (count_of J).quarantined - (count_of J).reinstated

-- a plate that is shown is marked as forged where the journal books that it was forged, and only there
abbrev pub MarksForged : Facts → List Entry → Type 0
MarksForged f J = (t : Station) (p : ShownPlate) → plate_shown f t ≡ Some p
    → (p.forged ≡ true) ↔ (0 < count_by (is_forged_as p.plate) J)
