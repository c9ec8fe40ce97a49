-- How many words of machine code stand for each kind of instruction of three-address code at most, with its jumps,
-- where the program has integers alone.
use Rattle.std.proofs.Common.{ℕ, ◌+◌, ◌*◌, List, length, refl}
use Rattle.c_tree.specs.declared.program.Variable.{Variable}
use Rattle.program_lowering.specs.ExpressionCode.Weights.{Weights, IsEven}

-- A node of the text may have 256. A call ends the run where its activation record does not fit, and saves registers;
-- a division ends it at a zero divisor, and so does a node that is reserved for a turn and not filled. Three words reach
-- the home of a register, since propagation may put any in the place of another.
abbrev pub words : (other : ℕ) → Weights
words other = record {
  skip = other;
  constant = 43;
  function_pointer = other;
  get_plain = 9;
  set_plain = λ x. 9;
  update_plain = λ x k. 92;
  home_pointer = other;
  static_pointer = other;
  zero_of = λ kind. 7;
  convert = λ kind. 20;
  unary = 35;
  binary = 44;
  offset = other;
  difference = other;
  narrow = other;
  member = other;
  take = λ kind. other;
  take_first = λ kind. other;
  read = λ kind mode. other;
  write = λ kind mode. other;
  update = λ k mode. other;
  check = other;
  zero = other;
  store_part = λ kind. other;
  store_text = λ bytes. other;
  branch = 13;
  case = 54;
  turn = 4;
  library = λ r. 29;
  print = λ format. other;
  call = λ f n. 129 + 13 * n;
  call_through = λ type n. other;
  enter_block = other;
  leave_block = other;
  return = 6;
}

pub even_words : (other : ℕ) → IsEven (words other)
even_words other = record { by = λ kind. refl }

-- and for a function beside its instructions: its return address is kept, its first instruction is jumped to, and a
-- word stands at its end; each parameter is taken, and each other variable is 0 at first
abbrev pub frame_words : (parameters variables : List Variable) → ℕ
frame_words parameters variables = 4 + 30 * length parameters + 25 * length variables
