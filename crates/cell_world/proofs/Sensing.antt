-- What a belt's machine shows agrees with the book
use Rattle.std.proofs.Common.{◌≡◌, ℕ, ◌+◌, Bool, true, false, not, ◌&&◌, ◌||◌, Some, List, refl, sym, ◌∙◌}
use Rattle.std.proofs.Common.{if◌then◌else◌, is_some}
use Rattle.cell_types.specs.declared.words.Axis.TheVariants as axis
use Rattle.cell_types.specs.declared.words.Belt.TheVariants as belt
use Rattle.cell_types.specs.declared.words.Colour.TheVariants as colour
use Rattle.cell_types.specs.declared.words.Machine.TheVariants as machine
use Rattle.cell_types.specs.declared.words.Station.TheVariants as station
use Rattle.cell_types.specs.declared.words.Entry.{Entry}
use Rattle.cell_types.specs.Same.{same_colour}
use Rattle.cell_rules.specs.Views.{going_of, lamp_of, plate_of}
use Rattle.cell_rules.proofs.Safe.Facts.{or_neither}
use Rattle.cell_diagnosis.specs.Readings.{bit}
use Rattle.cell_diagnosis.specs.RestFacts.{agrees, disagrees, is_lost, is_strange, is_unread, noted}
use Rattle.cell_turns.specs.Expected.{bit_where, expected_of}
use Rattle.cell_sim.specs.Readings.{senses, shown_now}
use Rattle.cell_sim.specs.Simulated.{Simulated}
use Rattle.cell_world.specs.Sensing.{SensedAgrees, SensesBooked}
use Rattle.cell_world.proofs.Agreeing.{all_agree, first_bit, second_bit}
use Rattle.cell_world.proofs.Belts.{bits_of_three}

-- a bit that is looked at must be set as it is set
lost_no : (b m c : Bool) → (m ≡ false → b ≡ c) → (b && (not m && not c)) ≡ false
lost_no true true c h = refl
lost_no true false true h = refl
lost_no true false false h = let e : true ≡ false = h refl in cc e
lost_no false m c h = refl

strange_no : (b m c : Bool) → (m ≡ false → b ≡ c) → (not b && (not m && c)) ≡ false
strange_no true m c h = refl
strange_no false true c h = refl
strange_no false false true h = let e : false ≡ true = h refl in cc e
strange_no false false false h = refl

no_third : (b c : Bool) → bit (bit_where b 1 + bit_where c 2) 2 ≡ false
unfolding bit
no_third true true = refl
no_third true false = refl
no_third false true = refl
no_third false false = refl

lost_by : (ma mu pr b x : Bool) → mu ≡ b → pr ≡ x → (ma ≡ false → x ≡ b) → (mu && (not ma && not pr)) ≡ false
lost_by ma mu pr b x p q h = lost_no mu ma pr (λ k. p ∙ (sym (h k) ∙ sym q))

strange_by : (ma mu pr b x : Bool) → mu ≡ b → pr ≡ x → (ma ≡ false → x ≡ b) → (not mu && (not ma && pr)) ≡ false
strange_by ma mu pr b x p q h = strange_no mu ma pr (λ k. p ∙ (sym (h k) ∙ sym q))

clash : (m x b : Bool) → m ≡ true → m ≡ false → x ≡ b
clash m x b h k = let e : true ≡ false = sym h ∙ k in cc e

-- which bits aren't looked at: where somebody visits, the belt goes, or a light is green
abbrev feed_may : Bool → Bool → Bool → ℕ
feed_may u g l = if u then 4 + (if g then 3 else bit_where l 1) else 7

abbrev deposit_may : Bool → Bool → Bool → ℕ
deposit_may u g l = if u then (if g then 3 else bit_where l 2) else 7

feed_bits : (u g l : Bool) → (bit (feed_may u g l) 0 ≡ (not u || (g || l)))
    × (bit (feed_may u g l) 1 ≡ (not u || g))
    × (bit (feed_may u g l) 2 ≡ true)
unfolding bit
feed_bits true true true = (refl, refl, refl)
feed_bits true true false = (refl, refl, refl)
feed_bits true false true = (refl, refl, refl)
feed_bits true false false = (refl, refl, refl)
feed_bits false true true = (refl, refl, refl)
feed_bits false true false = (refl, refl, refl)
feed_bits false false true = (refl, refl, refl)
feed_bits false false false = (refl, refl, refl)

deposit_bits : (u g l : Bool) → (bit (deposit_may u g l) 0 ≡ (not u || g))
    × (bit (deposit_may u g l) 1 ≡ (not u || (g || l)))
unfolding bit
deposit_bits true true true = (refl, refl)
deposit_bits true true false = (refl, refl)
deposit_bits true false true = (refl, refl)
deposit_bits true false false = (refl, refl)
deposit_bits false true true = (refl, refl)
deposit_bits false true false = (refl, refl)
deposit_bits false false true = (refl, refl)
deposit_bits false false false = (refl, refl)

-- a bit that is looked at is one of a resting belt, and not under a green light
looked : (u g l m : Bool) → m ≡ (not u || (g || l)) → m ≡ false → (not g && not l) ≡ true
looked u g l m h k =
    let a = or_neither (not u) (g || l) (sym h ∙ k) in let b = or_neither g l a.1 in rw (b.0, b.1) refl

looked_still : (u g m : Bool) → m ≡ (not u || g) → m ≡ false → not g ≡ true
looked_still u g m h k = let a = or_neither (not u) g (sym h ∙ k) in rw a.1 refl

feed_agrees : (J : List Entry) (u : Bool) (w : Simulated) → SensesBooked J machine.Feed w
    → agrees (noted machine.Feed (expected_of J machine.Feed u) (Some (shown_now w machine.Feed))) ≡ true
unfolding agrees is_unread disagrees is_lost is_strange noted
feed_agrees J u w t =
    let g = is_some (going_of J axis.FeedBelt) in let l = same_colour (lamp_of J belt.Feed) colour.Green in
    let b = is_some (plate_of J station.FeedIn) in let c = is_some (plate_of J station.FeedEnd) in
    let x = senses w axis.FeedBelt station.FeedIn in let y = senses w axis.FeedBelt station.FeedEnd in
    let z = senses w axis.FeedBelt station.Table in
    let i = bit (feed_may u g l) 0 in let j = bit (feed_may u g l) 1 in let k = bit (feed_may u g l) 2 in
    let p = bits_of_three x y z in let m = feed_bits u g l in
    let hx : i ≡ false → x ≡ b = λ n. t station.FeedIn refl (looked u g l i m.0 n) in
    let hy : j ≡ false → y ≡ c = λ n. t station.FeedEnd refl (looked_still u g j m.1 n) in
    let hz : k ≡ false → z ≡ false = λ n. clash k z false m.2 n in
    all_agree _ _ _ _ _ _ _ _ _ _ refl refl refl refl (lost_by i _ _ b x (first_bit b c) p.0 hx)
    (lost_by j _ _ c y (second_bit b c) p.1 hy) (lost_by k _ _ false z (no_third b c) p.2 hz)
    (strange_by i _ _ b x (first_bit b c) p.0 hx) (strange_by j _ _ c y (second_bit b c) p.1 hy)
    (strange_by k _ _ false z (no_third b c) p.2 hz)

deposit_agrees : (J : List Entry) (u : Bool) (w : Simulated) → SensesBooked J machine.Deposit w
    → agrees (noted machine.Deposit (expected_of J machine.Deposit u) (Some (shown_now w machine.Deposit))) ≡ true
unfolding agrees is_unread disagrees is_lost is_strange noted
deposit_agrees J u w t =
    let g = is_some (going_of J axis.DepositBelt) in let l = same_colour (lamp_of J belt.Deposit) colour.Green in
    let b = is_some (plate_of J station.DepIn) in let c = is_some (plate_of J station.DepEnd) in
    let x = senses w axis.DepositBelt station.DepIn in let y = senses w axis.DepositBelt station.DepEnd in
    let i = bit (deposit_may u g l) 0 in let j = bit (deposit_may u g l) 1 in
    let m = deposit_bits u g l in
    let hx : i ≡ false → x ≡ b = λ n. t station.DepIn refl (looked_still u g i m.0 n) in
    let hy : j ≡ false → y ≡ c = λ n. t station.DepEnd refl (looked u g l j m.1 n) in
    all_agree _ _ _ _ _ _ _ _ _ _ refl refl refl refl (lost_by i _ _ b x (first_bit b c) (first_bit x y) hx)
    (lost_by j _ _ c y (second_bit b c) (second_bit x y) hy) refl
    (strange_by i _ _ b x (first_bit b c) (first_bit x y) hx)
    (strange_by j _ _ c y (second_bit b c) (second_bit x y) hy) refl

pub sensed_agrees : SensedAgrees
sensed_agrees J machine.Feed u w b t = feed_agrees J u w t
sensed_agrees J machine.Deposit u w b t = deposit_agrees J u w t
sensed_agrees J m u w b t = cc b
