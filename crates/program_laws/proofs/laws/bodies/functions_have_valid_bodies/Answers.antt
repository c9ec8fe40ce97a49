use Rattle.program_laws.proofs.Bodies.Bodies.{function_body, function_declares, function_parameters}
use Rattle.program_laws.proofs.Bodies.Bodies.{function_variables}
use Rattle.program_laws.proofs.laws.bodies.functions_have_valid_bodies.Goals as goal

pub returns : goal.returns
returns c = record {
  body = function_body;
  declares = function_declares;
  variables = function_variables;
  parameters = function_parameters;
}
