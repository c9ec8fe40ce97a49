-- Calls (C99 6.5.2.2, 6.9.1). Three-address code has the same runs up to `lay_out`, and `back_to`.
use Rattle.std.specs.Prelude.{ℕ, zero, suc, ◌+◌, false, nat_le, if◌then◌else◌, List, [], ◌∷◌, ◌++◌, map, get_or, Option}
use Rattle.std.specs.Prelude.{Some, None}
use Rattle.sb_base.specs.declared.ending.Ending.TheVariants.{Stack, BadCall}
use Rattle.obj_memory.specs.declared.value.Value.{Value}
use Rattle.c_tree.specs.declared.expression.Kind.{Kind}
use Rattle.c_tree.specs.declared.expression.Kind.TheVariants.{Void}
use Rattle.c_tree.specs.declared.program.Variable.{Variable}
use Rattle.c_tree.specs.Programs.{Function}
use Rattle.c_tree.specs.Blocks.{all_of, body_variables}
use Rattle.source_meaning.specs.State.{State, Rvalue, Home, NoObject, InObject, Run, ◌>>=◌, ◌>>◌, done, stop, pause}
use Rattle.source_meaning.specs.State.{read_state, change, skip, tally, Header, Setting, Env}
use Rattle.source_meaning.specs.Actions.{integer, begin_turn, home_value}
use Rattle.source_meaning.specs.Structures.{rvalue, write_rvalue, make_zero}
use Rattle.source_meaning.specs.Expressions.{counted}
use Rattle.source_meaning.specs.Statements.{Completion, Normal, Broken, Continued, Returned, in_order, each_of}
use Rattle.source_meaning.specs.Blocks.{pass_or_stop, test_space, test_keys, place_variables, without_homes}

abbrev pub header_of : Function → Header
header_of f = record {
  line = f.line;
  type_number = f.type_number;
  parameters = f.parameters;
  variables = f.variables;
  entered = body_variables f;
  room = f.room;
}

-- all variables of a function in the order of their numbers, of which only those are objects that belong to the block
-- of its body, objects among the parameters too
abbrev pub body_objects : Header → List Variable
body_objects f = f.parameters ++ f.entered

-- the tests of a call, in this order

-- the charge of all calls is within the budget
abbrev pub test_charge : Setting → Header → (line : ℕ) → Run (Unit {0})
test_charge g f line = do
  charged ← read_state (λ s. s.charged)
  pass_or_stop (nat_le (charged + f.room) g.sizes.budgets.calls) (Stack line)

abbrev pub call_tests : Setting → Header → (line : ℕ) → Run (Unit {0})
call_tests g f line = do
  test_charge g f line
  test_space g (body_objects f) line
  test_keys g (body_objects f) line

-- what a call lays out

abbrev pub first_of : List Rvalue → Rvalue
first_of [] = rvalue (integer 0)
first_of (v ∷ vs) = v

abbrev pub rest_of : List Rvalue → List Rvalue
rest_of [] = []
rest_of (v ∷ vs) = vs

-- the plain values of parameters; one that is an object has none
abbrev pub parameter_values : List Variable → (arguments : List Rvalue) → List Value
parameter_values [] vs = []
parameter_values (p ∷ ps) vs = (if p.is_object then integer 0 else (first_of vs).value)
    ∷ parameter_values ps (rest_of vs)

-- every other plain value is 0 with no tag
abbrev pub plain_values : Header → (arguments : List Rvalue) → List Value
plain_values f vs = parameter_values f.parameters vs ++ map (λ _. integer 0) f.variables

abbrev pub plain_count : List Variable → ℕ
plain_count [] = 0
plain_count (v ∷ vs) = (if v.is_object then 0 else 1) + plain_count vs

abbrev pub parameter_count : List Variable → ℕ
parameter_count [] = 0
parameter_count (p ∷ ps) = 1 + parameter_count ps

-- each parameter, an object too, and each other plain variable is work
abbrev pub set_plain_values : Header → (arguments : List Rvalue) → Run (Unit {0})
set_plain_values f vs = do
  tally (parameter_count f.parameters + plain_count f.variables)
  change (λ s. record s { plain = plain_values f vs })

-- a parameter that is an object is written, by a direct access; a structure is moved there
abbrev pub write_parameter : Kind → Home → (line : ℕ) → Rvalue → Run (Unit {0})
write_parameter kind NoObject line v = skip
write_parameter kind (InObject o) line v = do
  p ← read_state (λ s. home_value (InObject o) s.objects)
  write_rvalue kind false p line v
  skip

abbrev pub write_parameters : List Variable → List Home → (line : ℕ) → (arguments : List Rvalue) → Run (Unit {0})
write_parameters [] homes line vs = skip
write_parameters (p ∷ ps) [] line vs = skip
write_parameters (p ∷ ps) (home ∷ homes) line vs = do
  write_parameter p.kind home line (first_of vs)
  write_parameters ps homes line (rest_of vs)

abbrev pub lay_out : Header → (arguments : List Rvalue) → (line : ℕ) → Run (Unit {0})
lay_out f vs line = do
  change (λ s. record s { charged = s.charged + f.room })
  set_plain_values f vs
  homes ← place_variables (body_objects f)
  change (λ s. record s { frame = homes })
  write_parameters f.parameters homes line vs

-- A call is work once its turn has begun. Then come its tests, and what it lays out.
abbrev pub set_up : Setting → Header → (arguments : List Rvalue) → (line : ℕ) → Run (Unit {0})
set_up g f vs line = do
  tally 1
  call_tests g f line
  lay_out f vs line

-- what a caller gets back
pub record Caller : Type 0 where
  pub frame : List Home
  pub plain : List Value
  pub charged : ℕ
  pub stacked : ℕ

abbrev pub caller : State → Caller
caller s = record { frame = s.frame; plain = s.plain; charged = s.charged; stacked = s.stacked }

-- at the return the objects that are still entered die, and the top of the object stack and the charge go back
abbrev pub back_to : Caller → State → State
back_to c s = record s {
  objects = without_homes s.frame s.objects;
  frame = c.frame;
  plain = c.plain;
  charged = c.charged;
  stacked = c.stacked;
}

-- a function that reaches its end gives 0 with no tag, which is made there
abbrev pub returned_by : (result : Kind) → Completion → Run Rvalue
returned_by result Normal = make_zero result
returned_by result Broken = make_zero result
returned_by result Continued = make_zero result
returned_by result (Returned v) = done v

-- what the functions of a type give
abbrev pub result_of : Setting → (type_number : ℕ) → Kind
result_of g n = get_or g.results n Void

-- a call of a function, once its turn has begun; its body is a statement that is reached
abbrev pub enter_begun : Env → Function → (arguments : List Rvalue) → (line : ℕ) → Run Rvalue
enter_begun env f vs line = do
  c ← read_state caller
  set_up env.setting (header_of f) vs line
  completion ← counted (in_order (each_of env f.body))
  v ← returned_by (result_of env.setting f.type_number) completion
  change (back_to c)
  done v

abbrev pub enter : Env → Function → (arguments : List Rvalue) → (line : ℕ) → Run Rvalue
enter env f vs line = do
  begin_turn env.limit
  enter_begun env f vs line

-- a call of a function that is there, as in every valid program, over its variables
abbrev pub enter_found : Env → Option Function → (arguments : List Rvalue) → (line : ℕ) → Run Rvalue
enter_found env None vs line = stop (BadCall line)
enter_found env (Some f) vs line = enter (record env { variables = all_of f }) f vs line

abbrev pub function_at : List Function → ℕ → Option Function
function_at [] f = None
function_at (x ∷ xs) zero = Some x
function_at (x ∷ xs) (suc f) = function_at xs f

-- a call of a function by its number; calls are nested at most n deep
abbrev pub calls : List Function → Setting → (limit n : ℕ) → (function : ℕ) → (arguments : List Rvalue) → (line : ℕ)
    → Run Rvalue
calls functions g limit zero = λ f vs line. pause
calls functions g limit (suc n) = λ f vs line.
    enter_found
    (record { setting = g; variables = []; limit = limit; depth = suc n; call = calls functions g limit n })
    (function_at functions f) vs line

-- what every part of a function with these variables may look at, where calls in it are nested at most n deep
abbrev pub env_of : List Function → Setting → (limit n : ℕ) → List Variable → Env
env_of functions g limit n variables =
    record { setting = g; variables = variables; limit = limit; depth = suc n; call = calls functions g limit n }
