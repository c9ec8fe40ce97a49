use Rattle.typing_laws.proofs.Scopes.Declarations.{declaration_leads}
use Rattle.typing_laws.proofs.Scopes.Initializers.{initialized_extends}
use Rattle.typing_laws.proofs.Scopes.Statements.{items_lead, statement_leads}
use Rattle.typing_laws.proofs.laws.scopes.typing_leaves_scopes.Goals as goal

pub returns : goal.returns
returns c = record {
  initializer = initialized_extends;
  declaration = declaration_leads;
  statement = statement_leads;
  items = items_lead;
}
