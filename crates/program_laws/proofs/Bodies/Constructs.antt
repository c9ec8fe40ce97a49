-- Statements whose parts are typed to what is valid are valid (C99 6.8.2 to 6.8.6).
use Rattle.std.proofs.Common.{◌≡◌, ℕ, Bool, true, false, ◌&&◌, refl, sym, List, []}
use Rattle.std.proofs.Common.{Option, Some, None, if◌then◌else◌}
use Rattle.std.specs.Prelude.{Ok, Err}
use Rattle.std.proofs.lemmas.Bool.{and_from}
use Rattle.std.proofs.lemmas.List.{append-nil}
use Rattle.c_syntax.specs.Tree.{Expression}
use Rattle.c_tree.specs.declared.c_type.TypeWord.{TypeWord}
use Rattle.c_tree.specs.Blocks.{all_variables, declared_by, first_variables}
use Rattle.c_tree.specs.Kinds.{is_promoted}
use Rattle.c_tree.specs.Statements.{First, Statement, Statements, SwitchItems}
use Rattle.c_tree.specs.Statements as tree
use Rattle.c_tree.specs.Tree.{kind_of}
use Rattle.c_tree.specs.Tree as typed_tree
use Rattle.c_tree.specs.Valid.{Scope, is_condition, is_valid}
use Rattle.c_tree.specs.ValidProgram.{is_condition_if, is_expression_if, is_first}
use Rattle.c_faults.specs.declared.fault.Fault.{Fault}
use Rattle.c_faults.specs.declared.fault.Rule.TheVariants.{MistakenReturn}
use Rattle.c_faults.specs.Answer.{Answer, violates, ◌>>=◌}
use Rattle.c_rules.specs.Conversions.{assigned}
use Rattle.c_rules.specs.Values.{Value}
use Rattle.c_typing_state.specs.State.{State, Typing, done, extents, judged}
use Rattle.c_expression_typing.specs.Constructs.{valued}
use Rattle.c_expression_typing.specs.Typed.{typed}
use Rattle.c_unit_typing.specs.Constructs.{Head, Labelled, Labels, controlled}
use Rattle.c_unit_typing.specs.Constructs.{controlling, controls}
use Rattle.c_unit_typing.specs.Constructs.{do_behind, do_typed, evaluated, expression_typed, fault_before, fault_or}
use Rattle.c_unit_typing.specs.Constructs.{gives_void, if_else_typed, if_typed}
use Rattle.c_unit_typing.specs.Constructs.{jump, labelled, returned}
use Rattle.c_unit_typing.specs.Constructs.{returned_value, while_typed}
use Rattle.c_unit_typing.specs.Constructs.{without_labels}
use Rattle.c_unit_typing.specs.Files.{File, FileTyping, finished, in_state, ◌~>◌}
use Rattle.typing_laws.specs.Validity.Regular.{is_regular}
use Rattle.typing_laws.specs.Validity.Steps.{nothing}
use Rattle.typing_laws.proofs.Validity.Sound.{IfAnswer, sound_judged}
use Rattle.typing_laws.specs.Declarators.Extending.{Extending}
use Rattle.typing_laws.specs.Declarators.Given.{anything}
use Rattle.typing_laws.specs.Scopes.Regular.{is_regular_if}
use Rattle.typing_laws.proofs.Scopes.Extended.{step_extends}
use Rattle.typing_laws.proofs.Scopes.Extended.{controlling_extends, expression_extends}
use Rattle.typing_laws.proofs.Scopes.Extended.{returned_extends}
use Rattle.typing_laws.specs.Layouts.Listed.{IfLaidOut}
use Rattle.program_laws.specs.Bodies.Parts.{has_valid_parts, have_valid_parts, is_valid_head}
use Rattle.program_laws.specs.Bodies.Parts.{items_have_valid_parts}
use Rattle.program_laws.specs.Bodies.Standing.{IsReady}
use Rattle.program_laws.specs.Bodies.Typed.{IfTyped, none}
use Rattle.program_laws.proofs.Bodies.Chained.{StateSound, after_typed}
use Rattle.program_laws.proofs.Bodies.Chained.{one_typed, scoped_typed, state_typed, two_typed, typed_as}
use Rattle.program_laws.proofs.Bodies.Evaluated.{controlling_sound, expression_sound}
use Rattle.program_laws.proofs.Bodies.Evaluated.{returned_sound}
use Rattle.program_laws.proofs.Bodies.Laid.{controlling_laid, expression_laid, returned_laid, step_laid}

-- what constructs are typed to

abbrev pub Parts : Scope → Statement → Type 0
Parts scope s = has_valid_parts scope s ≡ true

abbrev pub ItemParts : Scope → Labelled → Type 0
ItemParts scope l = has_valid_parts scope l.statement ≡ true

abbrev pub made_by : Labelled → List ℕ
made_by l = all_variables l.statement

abbrev pub opened_by : Labelled → List ℕ
opened_by l = declared_by l.statement

abbrev pub AllParts : Scope → Statements → Type 0
AllParts scope ss = have_valid_parts scope ss ≡ true

abbrev pub SwitchParts : Scope → SwitchItems → Type 0
SwitchParts scope is = items_have_valid_parts scope is ≡ true

abbrev pub Controls : Scope → typed_tree.Expression → Type 0
Controls scope e = is_condition scope e ≡ true

abbrev pub Switches : Scope → Value → Type 0
Switches scope v = (is_valid scope v.tree && is_promoted (kind_of v.tree)) ≡ true

abbrev pub IsFirst : Scope → First → Type 0
IsFirst scope x = is_first scope x ≡ true

abbrev pub HeadParts : Scope → Head → Type 0
HeadParts scope h = (is_condition_if scope h.condition && is_expression_if scope h.step) ≡ true

abbrev pub IsHead : Scope → Head → Type 0
IsHead scope h = is_valid_head scope h.first h.condition h.step ≡ true

abbrev pub head_made : Head → List ℕ
head_made h = first_variables h.first

-- statements without variables

abbrev IfBare : Answer (State × Statement) → Type 0
IfBare (Ok r) = all_variables r.1 ≡ []
IfBare (Err e) = Unit {0}

then_bare : {A : Type 0} (a : Answer (State × A)) (next : A → Typing Statement)
    → ((x : A) (u : State) → IfBare (next x u)) → IfBare (a >>= λ r. next r.1 r.0)
then_bare (Ok r) next h = h r.1 r.0
then_bare (Err e) next h = tt

expression_bare : (e : Option Expression) (s : State) → IfBare (expression_typed e s)
expression_bare None s = refl
expression_bare (Some e) s =
    then_bare (evaluated e s) (λ e. done (tree.expression_statement e)) (λ x u. refl)

jump_bare : (may : Bool) (line : ℕ) (st : Statement) (s : State) → all_variables st ≡ []
    → IfBare (judged (jump may line st) s)
jump_bare true line st s e = e
jump_bare false line st s e = tt

nothing_bare : (b : Bool) (line : ℕ) (s : State)
    → IfBare ((if b then Ok (tree.return None) else violates MistakenReturn line) >>= λ x. Ok (s, x))
nothing_bare true line s = refl
nothing_bare false line s = tt

made_bare : (a : Answer typed_tree.Expression) (s : State)
    → IfBare (a >>= (λ e. Ok (tree.return (Some e))) >>= λ x. Ok (s, x))
made_bare (Ok e) s = refl
made_bare (Err f) s = tt

value_bare : (b : Bool) (line : ℕ) (a : Answer typed_tree.Expression) (s : State)
    → IfBare ((if b then violates MistakenReturn line else (a >>= λ e. Ok (tree.return (Some e)))) >>= λ x. Ok (s, x))
value_bare true line a s = tt
value_bare false line a s = made_bare a s

returned_bare : (line : ℕ) (result : List TypeWord) (e : Option Expression) (s : State)
    → IfBare (returned line result e s)
returned_bare line result None s = nothing_bare (gives_void result) line s
returned_bare line result (Some e) s =
    then_bare (valued (typed true e) s) (λ v. judged (returned_value line result v))
    (λ v u. value_bare (gives_void result) line (assigned (extents u) line result v) u)

jump_parts : (may : Bool) (line : ℕ) (st : Statement) (scope : Scope) → Parts scope st → (s : State)
    → IfAnswer (λ x. Parts scope x) (jump may line st s)
jump_parts true line st scope e s = e
jump_parts false line st scope e s = tt

module _ (result : List TypeWord) where
  -- a construct that is typed to a statement from whatever file inside a block
  abbrev pub TypesStatement : FileTyping Statement → Type 0
  TypesStatement typing = (f : File) → IsReady f.state → IfTyped result all_variables none Parts f (typing f)

  bare_by : (f : File) (a : Answer (State × Statement)) → IfBare a
      → IfTyped result none none Parts f (a >>= λ r. Ok (record f { state = r.0 }, r.1))
      → IfTyped result all_variables none Parts f (a >>= λ r. Ok (record f { state = r.0 }, r.1))
  bare_by f (Ok r) e h =
      typed_as result none none Parts all_variables none Parts f (record f { state = r.0 }) r.1 r.1 h e (λ n is. is)
      (λ scope is. is)
  bare_by f (Err x) e h = tt

  bare_typed : (typing : Typing Statement)
      → ((s : State) → IsReady s → Extending false s anything (typing s))
      → ((s : State) → IsReady s → IfLaidOut anything (typing s))
      → ((s : State) → StateSound result Parts s (typing s)) → ((s : State) → IfBare (typing s))
      → TypesStatement (in_state typing)
  bare_typed typing extends laid sound bare f ready =
      bare_by f (typing f.state) (bare f.state)
      (state_typed result anything Parts f ready (typing f.state) (extends f.state ready) (laid f.state ready)
      (sound f.state))

  pub expression_statement_typed : (e : Option Expression) → is_regular_if e ≡ true
      → TypesStatement (in_state (expression_typed e))
  expression_statement_typed e c =
      bare_typed (expression_typed e) (λ s ready. expression_extends e c s ready.formed)
      (λ s ready. expression_laid e c s ready.formed ready.laid)
      (λ s. λ scope last is. expression_sound scope last e c s) (expression_bare e)

  pub returned_typed : (line : ℕ) (e : Option Expression) → is_regular_if e ≡ true
      → TypesStatement (in_state (returned line result e))
  returned_typed line e c =
      bare_typed (returned line result e) (λ s ready. returned_extends line result e c s ready.formed)
      (λ s ready. returned_laid line result e c s ready.formed ready.laid)
      (λ s. λ scope last is. returned_sound scope last result is line e c s) (returned_bare line result e)

  pub jump_typed : (may : Bool) (line : ℕ) (st : Statement) → all_variables st ≡ [] → ((scope : Scope) → Parts scope st)
      → TypesStatement (in_state (judged (jump may line st)))
  jump_typed may line st e parts =
      bare_typed (judged (jump may line st)) (λ s ready. step_extends s ready.formed (jump may line st))
      (λ s ready. step_laid s ready.laid (jump may line st s))
      (λ s. λ scope last is. sound_judged scope last s nothing (λ es x. Parts scope x) (jump may line st s)
      (λ knows g covers. jump_parts may line st scope (parts scope) s))
      (λ s. jump_bare may line st s e)

  pub controlling_typed : (line : ℕ) (e : Expression) → is_regular e ≡ true → (f : File) → IsReady f.state
      → IfTyped result none none Controls f (in_state (controlling line e) f)
  controlling_typed line e c f ready =
      state_typed result anything Controls f ready (controlling line e f.state)
      (controlling_extends line e c f.state ready.formed)
      (controlling_laid line e c f.state ready.formed ready.laid)
      (λ scope last is. controlling_sound scope last line e c f.state)

  -- labels

  pub labelled_typed : (ls : Labels) (opens : Statement → List ℕ) (typing : FileTyping Statement) (f : File)
      → IfTyped result all_variables opens Parts f (typing f)
      → IfTyped result made_by (λ l. opens l.statement) ItemParts f (labelled ls typing f)
  labelled_typed ls opens typing f h =
      one_typed result all_variables opens Parts made_by (λ l. opens l.statement) ItemParts f (typing f)
      (λ s. record { labels = ls.own; statement = s }) h (λ x. refl) (λ x n is. is) (λ scope x is. is)

  pub unlabelled_typed : (typing : FileTyping Labelled) (f : File)
      → IfTyped result made_by none ItemParts f (typing f)
      → IfTyped result all_variables none Parts f (without_labels typing f)
  unlabelled_typed typing f h =
      one_typed result made_by none ItemParts all_variables none Parts f (typing f) (λ l. l.statement) h (λ x. refl)
      (λ x n is. is) (λ scope x is. is)

  pub controlled_typed : (typing : FileTyping Labelled)
      → ((f : File) → IsReady f.state → IfTyped result made_by none ItemParts f (typing f))
      → TypesStatement (controlled typing)
  controlled_typed typing h f ready =
      scoped_typed result all_variables Parts f ready (without_labels typing)
      (λ g k. unlabelled_typed typing g (h g k))

  -- selection and iteration

  pub if_then_typed : (line : ℕ) (e : Expression) → is_regular e ≡ true → (body : FileTyping Statement)
      → TypesStatement body → TypesStatement (if_typed line e body)
  if_then_typed line e c body h f ready =
      scoped_typed result all_variables Parts f ready
      (in_state (controlling line e) ~> λ c. body ~> λ s. finished (tree.if_then c s))
      (λ g k. two_typed result none none Controls all_variables none Parts all_variables none Parts
      (λ c s. tree.if_then c s) (λ x s. refl) (λ x s. refl) (λ scope x s p q. and_from _ _ p q) g k
      (in_state (controlling line e) g) (λ x. body) (controlling_typed line e c g k) (λ x j i. h j i))

  pub if_otherwise_typed : (line : ℕ) (e : Expression) → is_regular e ≡ true → (body other : FileTyping Statement)
      → TypesStatement body → TypesStatement other → TypesStatement (if_else_typed line e body other)
  if_otherwise_typed line e c body other h g f ready =
      scoped_typed result all_variables Parts f ready
      (in_state (controlling line e) ~> λ c. body ~> λ s. other ~> λ other. finished (tree.if_else c s other))
      (λ j k. after_typed result Controls all_variables none Parts j k (in_state (controlling line e) j)
      (λ c. body ~> λ s. other ~> λ other. finished (tree.if_else c s other)) (controlling_typed line e c j k)
      (λ x i l. two_typed result all_variables none Parts all_variables none Parts all_variables none
      (λ scope y. Controls scope x → Parts scope y) (λ s o. tree.if_else x s o) (λ s o. refl) (λ s o. refl)
      (λ scope s o p q is. and_from _ _ is (and_from _ _ p q)) i l (body i) (λ s. other) (h i l) (λ s m n. g m n)))

  pub loop_typed : (line : ℕ) (e : Expression) → is_regular e ≡ true → (body : FileTyping Statement)
      → TypesStatement body → TypesStatement (while_typed line e body)
  loop_typed line e c body h f ready =
      scoped_typed result all_variables Parts f ready
      (in_state (controlling line e) ~> λ c. body ~> λ s. finished (tree.while_do c s))
      (λ g k. two_typed result none none Controls all_variables none Parts all_variables none Parts
      (λ c s. tree.while_do c s) (λ x s. refl) (λ x s. refl) (λ scope x s p q. and_from _ _ p q) g k
      (in_state (controlling line e) g) (λ x. body) (controlling_typed line e c g k) (λ x j i. h j i))

  no_file : {B : Type 0} (f : File) (e : Fault) (a : Answer B)
      → IfTyped {A = Statement} result all_variables none Parts f (fault_or e a)
  no_file f e (Ok x) = tt
  no_file f e (Err g) = tt

  fault_typed : (f : File) (line : ℕ) (e : Fault) (a : Answer (State × Value))
      → IfTyped {A = Statement} result all_variables none Parts f (fault_before line e a)
  fault_typed f line e (Ok r) = no_file f e (controls line r.1 r.0)
  fault_typed f line e (Err g) = tt

  do_by : (line : ℕ) (e : Expression) → is_regular e ≡ true → (f : File) → IsReady f.state
      → (a : Answer (File × Statement)) → IfTyped result all_variables none Parts f a
      → IfTyped result all_variables none Parts f (do_behind line e f a)
  do_by line e c f ready (Ok r) h =
      two_typed result all_variables none Parts none none Controls all_variables none Parts
      (λ s c. tree.do_while s c) (λ s x. sym (append-nil (all_variables s))) (λ s x. refl)
      (λ scope s x p q. and_from _ _ p q) f ready (Ok r) (λ s. in_state (controlling line e)) h
      (λ s g k. controlling_typed line e c g k)
  do_by line e c f ready (Err g) h = fault_typed f line g (valued (typed true e) f.state)

  pub do_loop_typed : (line : ℕ) (e : Expression) → is_regular e ≡ true → (body : FileTyping Statement)
      → TypesStatement body → TypesStatement (do_typed line body e)
  do_loop_typed line e c body h f ready =
      scoped_typed result all_variables Parts f ready (λ f. do_behind line e f (body f))
      (λ g k. do_by line e c g k (body g) (h g k))
