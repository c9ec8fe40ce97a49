use Rattle.image_laws.proofs.Encoding.Forms.{short_places}
use Rattle.image_laws.proofs.laws.encoding.places_are_short.Goals as goal

pub returns : goal.returns
returns c = λ m mapped. short_places m mapped (c.regions_stand_in_order.ensures.low m mapped)
