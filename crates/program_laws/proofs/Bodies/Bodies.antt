-- The bodies of functions are valid (C99 6.9.1).
use Rattle.std.proofs.Common.{◌≡◌, ℕ, ◌+◌, true, refl, sym, ap, ◌∙◌, subst, List}
use Rattle.std.proofs.Common.{length, Some, arith}
use Rattle.std.specs.Prelude.{Ok, Err, slice_get}
use Rattle.std.specs.List.{list_all}
use Rattle.std.proofs.lemmas.Option.{slice_get_within}
use Rattle.c_syntax.specs.Statements as t
use Rattle.c_tree.specs.Blocks.{all_of, block_variables, each_variables}
use Rattle.c_tree.specs.declared.program.Variable.{Variable}
use Rattle.c_tree.specs.declared.expression.Kind.{Kind}
use Rattle.c_tree.specs.TypesAgree.{agrees}
use Rattle.c_tree.specs.Programs.{Function}
use Rattle.typing_laws.proofs.Validity.Sound.{more_more}
use Rattle.c_tree.specs.Statements.{Statements}
use Rattle.c_tree.specs.Valid.{Scope}
use Rattle.c_tree.specs.ValidProgram.{are_parameters, are_statements, count_from, declares_all, is_variable}
use Rattle.c_faults.specs.Answer.{Answer}
use Rattle.c_call_rules.specs.FunctionTypes.{result_type}
use Rattle.c_typing_state.specs.State.{extents}
use Rattle.c_unit_typing.specs.Constructs.{Around}
use Rattle.c_unit_typing.specs.Files.{File}
use Rattle.c_unit_typing.specs.Statements.{block_items}
use Rattle.c_unit_typing.specs.Units.{entered}
use Rattle.typing_laws.proofs.Validity.Sound.{more_more}
use Rattle.typing_laws.specs.Validity.Steps.{Structures}
use Rattle.typing_laws.specs.Scopes.Regular.{are_regular_block_items}
use Rattle.typing_laws.specs.Places.Placed.{IfGives, are_placed}
use Rattle.typing_laws.proofs.Places.Labels.{all_append}
use Rattle.typing_laws.proofs.Places.Placed.{block_items_placed}
use Rattle.program_laws.specs.Bodies.Defined.{AreValid, Defines, IsScopeOf, no_jumps}
use Rattle.program_laws.specs.Bodies.Standing.{AreOpen, AreVariables, Ends, IsReady}
use Rattle.program_laws.specs.Bodies.Standing.{Stands}
use Rattle.program_laws.specs.Bodies.Typed.{IfTyped}
use Rattle.program_laws.proofs.Bodies.Chained.{typed_as}
use Rattle.program_laws.proofs.Bodies.Entered.{parameters_there, entered_count, entered_stands, entered_valid}
use Rattle.program_laws.proofs.Bodies.Functions.{all_by, all_declared, body_open, function_lengths}
use Rattle.program_laws.proofs.Bodies.Functions.{variable_placed}
use Rattle.program_laws.proofs.Bodies.Constructs.{AllParts}
use Rattle.program_laws.proofs.Bodies.Opened.{count_among}
use Rattle.program_laws.proofs.Bodies.Statements.{items_typed}
use Rattle.program_laws.proofs.Bodies.Takes.{parameters_fit}
use Rattle.program_laws.proofs.Bodies.Together.{statements_valid}

-- the items of a block

-- what stands where it may and has valid parts is valid
placed_typed : (a : Around) (f : File) (x : Answer (File × Statements))
    → IfTyped a.result each_variables block_variables AllParts f x
    → IfGives (λ ss. are_placed a.inside ss ≡ true) x
    → IfTyped a.result each_variables block_variables (λ scope ss. are_statements scope a.inside ss ≡ true) f x
placed_typed a f (Ok r) h placed =
    typed_as a.result each_variables block_variables AllParts each_variables block_variables
    (λ scope ss. are_statements scope a.inside ss ≡ true) f r.0 r.1 r.1 h refl (λ n is. is)
    (λ scope parts. statements_valid scope a.inside r.1 placed parts)
placed_typed a f (Err e) h placed = tt

pub items_valid : (a : Around) (xs : t.BlockItems) → are_regular_block_items xs ≡ true → (f : File)
    → IsReady f.state
    → IfTyped a.result each_variables block_variables (λ scope ss. are_statements scope a.inside ss ≡ true) f
    (block_items a xs f)
items_valid a xs c f ready =
    placed_typed a f (block_items a xs f) (items_typed a xs c f ready) (block_items_placed a xs f)

-- the function of the program that is made of a definition

module _ (scope : Scope) (last : Structures) (g : Function) (f behind : File) (d : Defines f behind)
    (is : IsScopeOf scope last g f behind d) where
  abbrev begun : File
  begun = entered d.number d.type d.parameters d.before

  parameters_counted : begun.state.environment.variables ≡ length g.parameters
  parameters_counted =
      entered_count d.number d.type d.parameters d.before d.leads.state.formed d.scope d.names d.numbered
      ∙ sym (ap length is.parameters)

  pub names_stand : Stands scope last begun.state
  names_stand =
      entered_stands d.number d.type d.parameters d.before d.leads.state.formed d.scope d.names d.numbered scope last g
      is.all is.variables is.parameters is.knows
      (more_more (extents begun.state) (extents d.end.state) last d.typed.leads.state.more is.has.covers.more)

  made_variables : length (each_variables d.body) ≡ length d.end.variables
  made_variables = let all = d.typed.numbers.made in omega (arith, all)

  pub function_ends : Ends scope last (result_type 0 d.type) d.end
  function_ends = record {
    covers = is.has.covers;
    gives = is.gives;
    lengths = function_lengths scope g is.all is.variables;
    first = length g.parameters;
    count =
        let made = d.typed.numbers.made in let count = d.typed.numbers.count in
        let parameters = parameters_counted in omega (arith, made, count, parameters);
    variables = λ k v e.
        variable_placed scope g is.all is.variables k v (ap (λ vs. slice_get vs k) is.declared ∙ e);
    statics = is.has.statics;
    linked = is.has.linked;
  }

  body_sound :
      AreValid scope d.body × (Stands scope last d.end.state × AreVariables scope (each_variables d.body))
  body_sound =
      d.typed.sound scope last names_stand function_ends
      (subst (λ ss. AreOpen scope (block_variables ss)) is.body (body_open scope g is.all is.variables))

  pub function_body : are_statements scope no_jumps g.body ≡ true
  function_body = subst (λ ss. are_statements scope no_jumps ss ≡ true) (sym is.body) body_sound.0

  pub function_declares : declares_all g ≡ true
  function_declares =
      all_declared g
      (subst (λ ss. count_from (length g.parameters) (each_variables ss) ≡ true) (sym is.body)
      (ap (λ n. count_from n (each_variables d.body)) (sym parameters_counted) ∙ d.typed.numbers.counted))
      (ap (λ ss. length (each_variables ss)) is.body ∙ made_variables ∙ sym (ap length is.declared))

  declared_valid : (k : ℕ) (v : Variable) → slice_get g.variables k ≡ Some v → is_variable v ≡ true
  declared_valid k v e =
      let low = slice_get_within g.variables k v e in
      let made = made_variables in
      let same = ap length is.declared in
      let among = count_among (length g.parameters) (each_variables d.body) k
      (ap (λ n. count_from n (each_variables d.body)) (sym parameters_counted) ∙ d.typed.numbers.counted)
      (omega (arith, low, made, same)) in
      ap is_variable (sym (variable_placed scope g is.all is.variables k v e))
      ∙ body_sound.1.1 (length g.parameters + k) among

  pub function_variables : list_all is_variable (all_of g) ≡ true
  function_variables =
      all_append is_variable g.parameters g.variables
      (ap (list_all is_variable) is.parameters
      ∙ entered_valid d.number d.type d.parameters d.before d.leads.state.formed d.scope d.names d.numbered)
      (all_by is_variable g.variables declared_valid)

  -- the kinds of the parameters are those of a signature that the type of the function spells
  pub function_parameters : (ks : List Kind) (k : Kind) → agrees last d.type ks k ≡ true
      → are_parameters g.parameters ks ≡ true
  function_parameters ks k e =
      subst (λ vs. are_parameters vs ks ≡ true) (sym is.parameters)
      (parameters_fit begun.state last
      (more_more (extents begun.state) (extents d.end.state) last d.typed.leads.state.more is.has.covers.more)
      d.parameters.variables d.parameters.names 0
      (parameters_there d.number d.type d.parameters d.before d.leads.state.formed d.scope d.names d.numbered) d.types
      d.of ks (d.takes last ks k e))
