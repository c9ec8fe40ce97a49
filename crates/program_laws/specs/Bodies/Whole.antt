-- Files whose functions have valid bodies (C99 6.9).
use Rattle.std.specs.Prelude.{◌≡◌, ℕ, List, [], ◌∷◌, Ok, Err}
use Rattle.c_tree.specs.Programs.{StaticObject}
use Rattle.c_faults.specs.Answer.{Answer}
use Rattle.c_unit_typing.specs.Files.{Definition, File}
use Rattle.c_unit_typing.specs.Units.{entered, parameters_in}
use Rattle.typing_laws.specs.Scopes.Leaving.{Grows}
use Rattle.program_laws.specs.Bodies.Defined.{Defines}
use Rattle.program_laws.specs.Bodies.Parameters.{IsOutside}
use Rattle.program_laws.specs.Bodies.Standing.{EntitiesLead}

abbrev pub definition_made : (f behind : File) → Defines f behind → Definition
definition_made f behind d = record {
  line = d.line;
  type = d.type;
  parameters = parameters_in (entered d.number d.type d.parameters d.before).state d.parameters.names;
  variables = d.end.variables;
  body = d.body;
}

-- a definition of a file, and what the file adds behind it
pub record IsDefinition (end : File) (definition : Definition) : Type 0 where
  pub before : File
  pub behind : File
  pub defines : Defines before behind
  pub is : definition ≡ definition_made before behind defines
  pub grows : Grows behind end
  pub entities : EntitiesLead behind.state.environment end.state.environment

abbrev pub AreDefinitions : File → List Definition → Type 0
AreDefinitions end [] = Unit {0}
AreDefinitions end (d ∷ ds) = IsDefinition end d × AreDefinitions end ds

-- definitions one behind the other: between the static objects without linkage before the first and those behind the
-- last, each adds those of its block

pub record BeginsWith (end : File) (definition : Definition) (before : List (ℕ × StaticObject)) : Type 0 where
  pub is : IsDefinition end definition
  pub statics : is.defines.before.statics ≡ before

abbrev pub AreInTurn : File → List Definition → (before behind : List (ℕ × StaticObject)) → Type 0
AreInTurn end [] before behind = behind ≡ before
AreInTurn end (d ∷ ds) before behind =
    (h : BeginsWith end d before) × AreInTurn end ds h.is.defines.end.statics behind

-- a file that is accepted

abbrev pub IfInTurn : Answer File → Type 0
IfInTurn (Ok f) = IsOutside f.state × AreInTurn f f.definitions [] f.statics
IfInTurn (Err e) = Unit {0}

abbrev pub IfWhole : Answer File → Type 0
IfWhole (Ok f) = IsOutside f.state × AreDefinitions f f.definitions
IfWhole (Err e) = Unit {0}
