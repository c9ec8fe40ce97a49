use Rattle.typing_laws.proofs.Places.Placed.{block_items_placed, statement_placed}
use Rattle.typing_laws.proofs.laws.places.statements_stand_where_they_may.Goals as goal

pub returns : goal.returns
returns c = record { statement = statement_placed; items = block_items_placed }
