-- A record that is found stands where it was found, and else the text has none
use Rattle.std.proofs.Common.{inl, inr, refl}
use Rattle.cell_explain.proofs.places.record_of.Goals as goal

pub returns-in-Some : goal.returns-in-Some
returns-in-Some c = inl (
  c.in-Some.place.start,
  c.in-Some.place.end,
  c.in-Some.ensures.some.0,
  refl,
  c.in-Some.ensures.some.1,
)

pub returns-in-None : goal.returns-in-None
returns-in-None c = inr (c.in-None.ensures.none refl, refl, refl)
