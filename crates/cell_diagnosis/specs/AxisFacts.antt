-- What the rules of an axis watch ask of one reading
use Rattle.std.specs.Prelude.{ℕ, Bool, true, false, not, ◌&&◌, ◌==◌, nat_le, Option, Some, None, List, get_or, count_by}
use Rattle.std.specs.List.{position}
use Rattle.cell_types.specs.declared.words.Pose.{Pose}
use Rattle.cell_diagnosis.specs.declared.motion.Motion.{Motion}
use Rattle.cell_diagnosis.specs.Readings.{Seen, place_in_axis}
use Rattle.cell_diagnosis.specs.Motions.{is_on_way}

-- the pose is among those shown
abbrev pub is_shown : Pose → List Bool → Bool
is_shown p bits = get_or bits (place_in_axis p) false

-- how many poses are shown
abbrev pub count_shown : List Bool → ℕ
count_shown bits = count_by (λ b. b) bits

-- there is a place, and it isn't on the way
abbrev pub is_off_way : Motion → Option ℕ → Bool
is_off_way m None = false
is_off_way m (Some i) = not (is_on_way m i)

-- the reading isn't missing, and what it shows passes the test
abbrev pub on_present : (List Bool → Bool) → Seen → Bool
on_present test None = false
on_present test (Some bits) = test bits

unfoldable pub is_missing : Seen → Bool
is_missing None = true
is_missing (Some bits) = false

unfoldable pub shows : Pose → Seen → Bool
shows p r = on_present (is_shown p) r

unfoldable pub lacks : Pose → Seen → Bool
lacks p r = on_present (λ bits. not (is_shown p bits)) r

unfoldable pub shows_alone : Pose → Seen → Bool
shows_alone p r = on_present (λ bits. is_shown p bits && count_shown bits == 1) r

-- exactly these two are shown
unfoldable pub shows_exactly : Pose → Pose → Seen → Bool
shows_exactly p q r = on_present (λ bits. is_shown p bits && (is_shown q bits && count_shown bits == 2)) r

-- two switches or more are shown
unfoldable pub shows_several : Seen → Bool
shows_several r = on_present (λ bits. nat_le 2 (count_shown bits)) r

-- a single switch is shown, and it is neither that of `from`, nor of `to`, nor of a passing pose
unfoldable pub shows_stray : Motion → Seen → Bool
shows_stray m r = on_present (λ bits. count_shown bits == 1 && is_off_way m (position (λ b. b) bits)) r
