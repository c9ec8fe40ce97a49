-- What is typed adds at most so many variables to the innermost scope (C99 6.2.1).
use Rattle.std.proofs.Common.{◌≡◌, ℕ, ◌+◌, ◌≤◌, refl, ap, ◌∙◌, Option, Some, None, arith}
use Rattle.c_scope.specs.declared.meaning.Tag.{Tag}
use Rattle.c_scope.specs.declared.meaning.Tag.TheVariants as tag
use Rattle.c_scope.specs.declared.tags.TagKind.{TagKind}
use Rattle.c_scope.specs.declared.tags.TagKind.TheVariants as kind
use Rattle.c_scope.specs.Environment.{Environment}
use Rattle.c_scope.specs.Names.{Name, around, innermost}
use Rattle.c_scope.specs.Tags.{added, marked, next_tag, with_declaration, with_tag}
use Rattle.c_declarator_typing.specs.Members.{with_structure}
use Rattle.c_operand_typing.specs.Primaries.{with_literal}
use Rattle.c_typing_state.specs.State.{State}
use Rattle.typing_laws.specs.Scopes.Variables.{variables_among}
use Rattle.typing_laws.proofs.Declarators.Parameters.{around_last, innermost_last, within}
use Rattle.typing_laws.proofs.Walks.States.{Leaves, StateWalk}

-- the scopes around are the same, and the innermost one has at most so many variables more
pub record Adds (n : ℕ) (s behind : State) : Type 0 where
  pub outer : behind.environment.names.outer ≡ s.environment.names.outer
  pub variables : variables_among behind.environment.names.current ≤ n + variables_among s.environment.names.current

adds_on : (m n k : ℕ) → m + n ≤ k → (s t u : State) → Adds m s t → Adds n t u → Adds k s u
adds_on m n k low s t u h g = record {
  outer = g.outer ∙ h.outer;
  variables = let one = h.variables in let other = g.variables in omega arith;
}

same_names : (s t : State) → t.environment.names ≡ s.environment.names → Adds 0 s t
same_names s t e = record { outer = ap (λ x. x.outer) e; variables = few (ap (λ x. variables_among x.current) e) }
  where
    few : {m n : ℕ} → m ≡ n → m ≤ 0 + n
    few e = omega arith

-- tags are no variables

declaration_names : (k : TagKind) (name : Option Name) (env : Environment)
    → (with_declaration k name env).names ≡ env.names
declaration_names kind.Structure name env = refl
declaration_names kind.Union name env = refl
declaration_names kind.Enumeration name env = refl

tag_names : (name : Option Name) (t : Tag) (env : Environment) → (with_tag name t env).names ≡ env.names
tag_names None t env = refl
tag_names (Some name) t env = refl

added_names : (k : TagKind) (name : Option Name) (env : Environment) → (added k name env).names ≡ env.names
added_names k name env =
    tag_names name (next_tag k env) (with_declaration k name env) ∙ declaration_names k name env

marked_names : (t : Tag) (env : Environment) → (marked t env).names ≡ env.names
marked_names (tag.Structure n) env = refl
marked_names (tag.Union n) env = refl
marked_names (tag.Enumeration n) env = refl

-- a scope that is left

left_adds : (n : ℕ) (s t u : State) → Adds n (within s) t → Leaves t u → Adds 0 s u
left_adds n s t u h left =
    let names = s.environment.names in
    let here =
    left.current_names ∙ ap (innermost left.file_names) h.outer
    ∙ innermost_last left.file_names names.outer names.current in
    record {
      outer = left.outer ∙ ap around h.outer ∙ around_last names.outer names.current;
      variables = let same = ap variables_among here in omega arith;
    }

pub adds_walk : StateWalk Adds
adds_walk = record {
  on = adds_on;
  stands = λ n s t h. record { outer = h.outer; variables = h.variables };
  literal = λ bytes some s. same_names s (with_literal bytes s) refl;
  declares = λ k name s fresh.
      same_names s (record s { environment = added k name s.environment }) (added_names k name s.environment);
  begins = λ t s. same_names s (record s { environment = marked t s.environment }) (marked_names t s.environment);
  completes = λ is_union n es s. same_names s (with_structure is_union n es s) refl;
  scope = λ n s t u h left same_literals same_function. left_adds n s t u h left;
}
