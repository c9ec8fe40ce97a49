-- The state of a file without where it lies in memory, and what a call gives in it.
use Rattle.std.specs.Prelude.{◌≡◌, ℕ, Bool, List, [], map, Option, None, Result, Ok, Err}
use Rattle.c_tree.specs.Programs.{StaticObject}
use Rattle.c_tree.specs.Statements.{Part, statements_in}
use Rattle.c_tree.specs.View.{part_of, statement_of, static_of}
use Rattle.c_faults.specs.declared.fault.Refusal.{Refusal}
use Rattle.c_faults.specs.Answer.{Answer, Fails}
use Rattle.c_scope.specs.Environment.{Environment}
use Rattle.c_typing_state.specs.State.{state_of}
use Rattle.c_programs.specs.declared.state.Definition as code_definition
use Rattle.c_programs.specs.declared.state.FileTyper as code
use Rattle.c_programs.specs.declared.state.LinkedInitializer as code_initializer
use Rattle.c_programs.specs.declared.state.LocalStatic as code_static
use Rattle.c_unit_typing.specs.Files.{Definition, File}

abbrev pub definition_of : code_definition.Definition → Definition
definition_of d = record {
  line = d.line;
  type = d.c_type;
  parameters = d.parameters;
  variables = d.variables;
  body = statements_in (map statement_of d.body);
}

abbrev pub local_static_of : code_static.LocalStatic → ℕ × StaticObject
local_static_of o = (o.number, static_of o.object)

abbrev pub linked_initializer_of : code_initializer.LinkedInitializer → ℕ × List Part
linked_initializer_of i = (i.number, map part_of i.parts)

abbrev pub file_of : code.FileTyper → File
file_of f = record {
  state = state_of f.typer;
  variables = f.variables.items;
  statics = map local_static_of f.statics.items;
  initializers = map linked_initializer_of f.initializers.items;
  definitions = map definition_of f.definitions.items;
  objects = f.objects;
  taken = f.taken.items;
}

-- nothing but an environment, and which variables of each function are objects, where that is known
abbrev pub at_start : Environment → (objects : Option (List (List Bool))) → File
at_start environment objects = record {
  state = record {
    environment = environment;
    function_types = [];
    objects = None;
    taken = [];
    undefined = None;
    literals = [];
    function = None;
  };
  variables = [];
  statics = [];
  initializers = [];
  definitions = [];
  objects = objects;
  taken = [];
}

-- what a call gives, seen by a view, and the file that it leaves; for want of memory nothing is claimed
abbrev pub FileTypes : {A B : Type 0} → (view : A → B) → (new : File) → Result A Refusal → Answer (File × B) → Type 0
FileTypes view new (Ok x) defined = defined ≡ Ok (new, view x)
FileTypes view new (Err e) defined = Fails e defined
