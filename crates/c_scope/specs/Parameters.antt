-- The scope of the parameters of a function declarator (C99 6.2.1 paragraph 4): it is left where the declarator ends,
-- and that of a function which is defined there is entered again for its block, which opens no scope of its own.
use Rattle.std.specs.Prelude.{ℕ}
use Rattle.c_scope.specs.declared.meaning.Meaning.{Meaning}
use Rattle.c_scope.specs.declared.meaning.Tag.{Tag}
use Rattle.c_scope.specs.declared.parameters.ParameterScope as code
use Rattle.c_scope.specs.Environment.{Environment}
use Rattle.c_scope.specs.Names.{Names, entered, left, names_of}

-- the names and tags that it declares, and how many variables the function has with its parameters
pub record ParameterScope : Type 0 where
  pub names : Names Meaning
  pub tags : Names Tag
  pub variables : ℕ

abbrev pub scope_of : code.ParameterScope → ParameterScope
scope_of p = record { names = names_of p.names; tags = names_of p.tags; variables = p.variables }

abbrev pub parameters_in : Environment → ParameterScope
parameters_in env = record { names = env.names.current; tags = env.tags.current; variables = env.variables }

-- the function around has as many variables as before
abbrev pub without_parameters : (before : ℕ) → Environment → Environment
without_parameters before env = record env { names = left env.names; tags = left env.tags; variables = before }

abbrev pub with_parameters : ParameterScope → Environment → Environment
with_parameters p env = record env {
  names = entered p.names env.names;
  tags = entered p.tags env.tags;
  variables = p.variables;
}
