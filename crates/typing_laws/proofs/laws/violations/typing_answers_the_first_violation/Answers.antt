use Rattle.typing_laws.proofs.Violations.Agreeing.{first_is}
use Rattle.typing_laws.proofs.Violations.Constructs.{first_bears}
use Rattle.typing_laws.proofs.Violations.Declarations.{declaration_agrees}
use Rattle.typing_laws.proofs.Violations.Expressions.{operand_agrees, shape_agrees, specification_agrees}
use Rattle.typing_laws.proofs.Violations.Expressions.{type_name_agrees}
use Rattle.typing_laws.proofs.Violations.Files.{unit_first}
use Rattle.typing_laws.proofs.Violations.Initializers.{initializer_agrees}
use Rattle.typing_laws.proofs.Violations.Statements.{items_agree_in, statement_agrees}
use Rattle.typing_laws.proofs.laws.violations.typing_answers_the_first_violation.Goals as goal

pub returns : goal.returns
returns c = record {
  expression = λ is e s. first_is (operand_agrees is e s);
  type_name = λ x s. first_is (type_name_agrees x s);
  declarator = λ is d s. first_is (shape_agrees is d s);
  specifiers = λ is x s. first_is (specification_agrees is x s);
  initializer = λ x i s. first_is (initializer_agrees x i s);
  declaration = λ is d f. first_is (declaration_agrees is d f);
  statement = λ a ls s f. first_bears (statement_agrees a ls s ls.own f);
  items = λ a xs f. first_is (items_agree_in a xs f);
  source = unit_first;
}
