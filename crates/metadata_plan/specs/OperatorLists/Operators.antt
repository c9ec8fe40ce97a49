-- The code of the operators on integers that flat code of a program has.
use Rattle.metadata_plan.specs.Operators.{OperatorCode}
use Rattle.flat_operators.specs.Operators.{constant_code, conversion_code, unary_code, binary_code}

abbrev pub operators : OperatorCode
operators = record {
  constant = λ x w s. constant_code x w;
  unary = λ op t x y s. unary_code op t x y s;
  binary = λ op t x y z s line. binary_code op t line x y z s;
  convert = λ t x y s. conversion_code t x y;
}
