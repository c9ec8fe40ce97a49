-- The block of a function, before and with its parameters.
use Rattle.std.specs.Prelude.{ℕ, List, [], ◌∷◌, Option, Some, None}
use Rattle.c_tree.specs.declared.program.Variable.{Variable}
use Rattle.c_scope.specs.declared.meaning.Meaning.{Meaning}
use Rattle.c_typing_state.specs.State.{State}
use Rattle.c_unit_typing.specs.Files.{File}
use Rattle.c_unit_typing.specs.Units.{marks_in, parameter_in}

abbrev pub parameter_if : Option Variable → List Variable
parameter_if None = []
parameter_if (Some v) = v ∷ []

-- the parameter that a name is, if there is a name
abbrev pub parameter_of : State → Option Meaning → List Variable
parameter_of s None = []
parameter_of s (Some m) = parameter_in s m

-- before its parameters
abbrev pub begun : (number : ℕ) → File → File
begun n f = record f {
  state = record f.state {
    objects = marks_in f.objects n;
    taken = [];
    function = Some n;
  };
  variables = [];
}
