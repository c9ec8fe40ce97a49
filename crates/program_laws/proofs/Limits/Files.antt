-- No function that a file defines has more parameters than a limit that each list of parameters of the file keeps (C99
-- 5.2.4.1, 6.9.1).
use Rattle.std.proofs.Common.{◌≡◌, ℕ, suc, ◌≤◌, Bool, true, false, refl, sym, subst, List, [], ◌∷◌}
use Rattle.std.proofs.Common.{◌++◌, Option, Some, None, if◌then◌else◌, arith, length, nat_le}
use Rattle.std.specs.Prelude.{Ok, Err, codes}
use Rattle.std.specs.List.{list_all}
use Rattle.std.proofs.lemmas.Bool.{and_from, le-leb}
use Rattle.std.proofs.lemmas.List.{length-append}
use Rattle.c_syntax.specs.Statements as t
use Rattle.c_syntax.specs.Tree.{Declarator, Specifiers}
use Rattle.c_tree.specs.declared.c_type.TypeWord.{TypeWord}
use Rattle.c_tree.specs.declared.program.Variable.{Variable}
use Rattle.c_tree.specs.Programs.{Program, StaticObject}
use Rattle.c_tree.specs.Statements.{Statements}
use Rattle.c_faults.specs.declared.fault.Rule.TheVariants.{NoMain}
use Rattle.c_faults.specs.Answer.{Answer, violates, ◌>>=◌}
use Rattle.c_counts.specs.Counts.{Count, counts_of}
use Rattle.c_counts.specs.Counts as counts
use Rattle.c_counts.specs.Excess.{most_parameters}
use Rattle.c_facts.specs.Facts.{facts_in}
use Rattle.c_scope.specs.declared.meaning.Designated.TheVariants as what
use Rattle.c_scope.specs.declared.meaning.Meaning.{Meaning}
use Rattle.c_scope.specs.declared.meaning.Meaning.TheVariants as meaning
use Rattle.c_scope.specs.Names.{Name, Names, declared}
use Rattle.c_scope.specs.Parameters.{ParameterScope}
use Rattle.c_declarator_typing.specs.Declarators.{Shape}
use Rattle.c_declarator_typing.specs.Specifications.{Specification}
use Rattle.c_typing_state.specs.State.{State, judged, ◌>>>◌}
use Rattle.c_expression_typing.specs.Typed.{shape, specification}
use Rattle.c_unit_typing.specs.Declarations.{declaration, stored_once}
use Rattle.c_unit_typing.specs.Files.{Definition, File, in_state, ◌~>◌}
use Rattle.c_unit_typing.specs.Programs.{functions_from, program_of, static_objects}
use Rattle.c_unit_typing.specs.Typed.{a_program, typed_as, typed_unit}
use Rattle.c_unit_typing.specs.Units.{all_defined, around_body, body, body_of, defined_as, defined_by, definition}
use Rattle.c_unit_typing.specs.Units.{ended, entered, external, externals, file_before, file_in, file_with, is_main}
use Rattle.c_unit_typing.specs.Units.{left, parameter_in, parameters_in, scope_or_none, with_body}
use Rattle.c_unit_typing.proofs.Within.{given_within}
use Rattle.typing_laws.specs.Scopes.Variables.{variable_count, variables_among}
use Rattle.program_laws.proofs.Limits.Counted.{AreWithin, external_within, specifiers_within}
use Rattle.program_laws.proofs.Limits.Kept.{IfKept, Keeping, declaration_keeps, items_keep, state_keeps}
use Rattle.program_laws.proofs.Limits.Shapes.{HasFew, IfFew, shape_few}

-- each function has at most so many parameters
abbrev AreBounded : (most : ℕ) → List Definition → Type 0
AreBounded most [] = Unit {0}
AreBounded most (d ∷ ds) = (length d.parameters ≤ most) × AreBounded most ds

abbrev IfBounded : {A : Type 0} → (most : ℕ) → Answer (File × A) → Type 0
IfBounded most (Ok r) = AreBounded most r.0.definitions
IfBounded most (Err e) = Unit {0}

bounded_last : (m : ℕ) (ds : List Definition) (d : Definition) → AreBounded m ds → length d.parameters ≤ m
    → AreBounded m (ds ++ d ∷ [])
bounded_last m [] d h low = (low, tt)
bounded_last m (x ∷ ds) d h low = (h.0, bounded_last m ds d h.1 low)

still_bounded : (m : ℕ) (f g : File) → g.definitions ≡ f.definitions → AreBounded m f.definitions
    → AreBounded m g.definitions
still_bounded m f g e h = subst (AreBounded m) (sym e) h

-- behind a construct that defines no function
then_bounded : {A B : Type 0} (m : ℕ) (f : File) → AreBounded m f.definitions → (a : Answer (File × A))
    → Keeping f a → (next : File × A → Answer (File × B))
    → ((r : File × A) → AreBounded m r.0.definitions → IfBounded m (next r)) → IfBounded m (a >>= next)
then_bounded m f h (Ok r) g next go = go r (still_bounded m f r.0 g.by h)
then_bounded m f h (Err e) g next go = tt

-- behind one that may define some
next_bounded : {A B : Type 0} (m : ℕ) (a : Answer (File × A)) → IfBounded m a
    → (next : File × A → Answer (File × B))
    → ((r : File × A) → AreBounded m r.0.definitions → IfBounded m (next r)) → IfBounded m (a >>= next)
next_bounded m (Ok r) h next go = go r h
next_bounded m (Err e) h next go = tt

-- the parameters are the variables of their scope

parameter_length : (s : State) (m : Meaning) → length (parameter_in s m) ≡ variable_count m
parameter_length s (meaning.Named (what.Variable n) type) = refl
parameter_length s (meaning.Named (what.Object n) type) = refl
parameter_length s (meaning.Named (what.Function n) type) = refl
parameter_length s (meaning.Named (what.Library f) type) = refl
parameter_length s (meaning.Named (what.Static n) type) = refl
parameter_length s (meaning.Typedef type) = refl
parameter_length s (meaning.Constant w) = refl

parameters_length : (s : State) (es : Names Meaning) → length (parameters_in s es) ≡ variables_among es
parameters_length s [] = refl
parameters_length s (e ∷ es) =
    omega (
      arith,
      length-append (parameter_in s e.1) (parameters_in s es),
      parameter_length s e.1,
      parameters_length s es,
    )

-- function definitions

left_bounded : (m line : ℕ) (type : List TypeWord) (ps : List Variable) → length ps ≤ m → (f : File)
    → AreBounded m f.definitions → (a : Answer (File × Statements)) → IfKept f a
    → IfBounded {A = Unit {0}} m (a >>= λ r. Ok (left line type ps r, tt))
left_bounded m line type ps low f h (Ok r) g =
    bounded_last m r.0.definitions (record {
      line = line;
      type = type;
      parameters = ps;
      variables = r.0.variables;
      body = r.1;
    }) (still_bounded m f r.0 g h) low
left_bounded m line type ps low f h (Err e) g = tt

body_bounded : (m line : ℕ) (type : List TypeWord) (scope : ParameterScope) → variables_among scope.names ≤ m
    → (b : t.Block) (f : File) → AreBounded m f.definitions → IfBounded m (body_of line type scope b f)
body_bounded m line type scope low (t.block l xs r) f h =
    left_bounded m line type (parameters_in f.state scope.names)
    (omega (arith, parameters_length f.state scope.names)) f h (body (around_body type) (t.block l xs r) f)
    (items_keep (around_body type) xs f).by

few_or_none : (m : ℕ) (o : Option ParameterScope) → HasFew m o → variables_among (scope_or_none o).names ≤ m
few_or_none m None h = omega arith
few_or_none m (Some scope) h = h

with_body_bounded : (m line : ℕ) (scope : Option ParameterScope) → HasFew m scope → (b : t.Block)
    (x : Option Meaning) (f : File) → AreBounded m f.definitions → IfBounded m (with_body line scope b x f)
with_body_bounded m line scope few b (Some (meaning.Named (what.Function n) type)) f h =
    body_bounded m line type (scope_or_none scope) (few_or_none m scope few) b
    (entered n type (scope_or_none scope) f) h
with_body_bounded m line scope few b _ f h = h

defined_bounded : (m : ℕ) (spec : Specification) (sh : Shape) → HasFew m sh.parameters → (b : t.Block)
    (name : Option (Name × ℕ)) (f : File) → AreBounded m f.definitions → IfBounded m (defined_by spec sh b name f)
defined_bounded m spec sh few b None f h = h
defined_bounded m spec sh few b (Some name) f h =
    then_bounded m f h (in_state (defined_as spec sh name) f) (state_keeps (defined_as spec sh name) f)
    (λ r. with_body name.1 sh.parameters b r.1 r.0)
    (λ r g. with_body_bounded m name.1 sh.parameters few b r.1 r.0 g)

shape_bounded : {B : Type 0} (m : ℕ) (f : File) (a : Answer (State × Shape)) → IfFew m a
    → (next : File × Shape → Answer (File × B))
    → ((s : State) (sh : Shape) → HasFew m sh.parameters → IfBounded m (next (record f { state = s }, sh)))
    → IfBounded m ((a >>= λ r. Ok (record f { state = r.0 }, r.1)) >>= next)
shape_bounded m f (Ok r) h next go = go r.0 r.1 h
shape_bounded m f (Err e) h next go = tt

definition_bounded : (m : ℕ) (specs : Specifiers) (d : Declarator) (b : t.Block) (cs : List Count)
    → AreWithin m (counts.declarator d cs) → (f : File) → AreBounded m f.definitions
    → IfBounded m (definition specs d b f)
definition_bounded m specs d b cs w f h =
    let specified = specification false specs >>> λ spec. judged (stored_once spec) in
    then_bounded m f h (in_state specified f) (state_keeps specified f)
    (λ spec. (in_state (shape true d) ~> λ sh. defined_by spec.1 sh b sh.name) spec.0) (λ spec g.
    shape_bounded m spec.0 (shape true d spec.0.state) (shape_few m true d cs w spec.0.state)
    (λ sh. defined_by spec.1 sh.1 b sh.1.name sh.0)
    (λ s sh few. defined_bounded m spec.1 sh few b sh.name (record spec.0 { state = s }) g))

-- files

external_bounded : (m : ℕ) (x : t.External) (cs : List Count) → AreWithin m (counts.external x cs) → (f : File)
    → AreBounded m f.definitions → IfBounded m (external x f)
external_bounded m (t.definition specs d b) cs w f h =
    definition_bounded m specs d b (counts.block b cs) (specifiers_within m specs _ w) f h
external_bounded m (t.declaration d) cs w f h =
    then_bounded m f h (declaration false d f) (declaration_keeps false d f) (λ r. Ok (r.0, tt)) (λ r g. g)

externals_bounded : (m : ℕ) (xs : List t.External) (cs : List Count) → AreWithin m (counts.externals xs cs)
    → (f : File) → AreBounded m f.definitions → IfBounded m (externals xs f)
externals_bounded m [] cs w f h = h
externals_bounded m (x ∷ xs) cs w f h =
    next_bounded m (external x f) (external_bounded m x (counts.externals xs cs) w f h) (λ r. externals xs r.0)
    (λ r g. externals_bounded m xs cs (external_within m x _ w) r.0 g)

abbrev IfFile : (most : ℕ) → Answer File → Type 0
IfFile most (Ok f) = AreBounded most f.definitions
IfFile most (Err e) = Unit {0}

all_bounded : (m : ℕ) (line : Option ℕ) (f : File) → AreBounded m f.definitions → IfFile m (all_defined line f)
all_bounded m None f h = h
all_bounded m (Some line) f h = tt

ended_by : (m : ℕ) (b : Bool) (end : ℕ) (f : File) → AreBounded m f.definitions
    → IfFile m (if b then all_defined f.state.undefined f else violates NoMain end)
ended_by m true end f h = all_bounded m f.state.undefined f h
ended_by m false end f h = tt

ended_bounded : {A : Type 0} (m end : ℕ) (a : Answer (File × A)) → IfBounded m a
    → IfFile m (a >>= λ r. ended end r.0)
ended_bounded m end (Ok r) h =
    ended_by m (is_main (declared (codes "main") r.0.state.environment.entities)) end r.0 h
ended_bounded m end (Err e) h = tt

with_bounded : (m : ℕ) (objects : Option (List (List Bool))) (end : ℕ) (xs : List t.External)
    → AreWithin m (counts_of xs) → IfFile m (file_with objects end xs)
with_bounded m objects end xs w =
    let before = file_before objects (facts_in xs) in
    ended_bounded m end (externals xs before) (externals_bounded m xs [] w before tt)

again_bounded : (m : ℕ) (a : Answer File) (next : File → Answer File) → ((f : File) → IfFile m (next f))
    → IfFile m (a >>= next)
again_bounded m (Ok f) next go = go f
again_bounded m (Err e) next go = tt

file_bounded : (m end : ℕ) (xs : List t.External) → AreWithin m (counts_of xs) → IfFile m (file_in end xs)
file_bounded m end xs w =
    again_bounded m (file_with None end xs) (λ f. file_with (Some f.taken) end xs)
    (λ f. with_bounded m (Some f.taken) end xs w)

-- the functions of a program

abbrev HasAtMost : (most : ℕ) → Program → Type 0
HasAtMost most p = list_all (λ f. nat_le (length f.parameters) most) p.functions ≡ true

functions_bounded : (m : ℕ) (f : File) (os : List StaticObject) (n : ℕ) (ds : List Definition) → AreBounded m ds
    → list_all (λ x. nat_le (length x.parameters) m) (functions_from f os n ds) ≡ true
functions_bounded m f os n [] h = refl
functions_bounded m f os n (d ∷ ds) h =
    and_from _ _ (le-leb (length d.parameters) m h.0) (functions_bounded m f os (suc n) ds h.1)

-- within the limits

typed_bounded : (xs : List t.External) (a : Answer File) (p : Program)
    → (AreWithin most_parameters (counts_of xs) → IfFile most_parameters a) → typed_as xs a ≡ a_program p
    → HasAtMost most_parameters p
typed_bounded xs (Ok f) p bounded e =
    let within = given_within xs (program_of f) p e in
    subst (HasAtMost most_parameters) within.same
    (functions_bounded most_parameters f (static_objects f) 0 f.definitions (bounded within.parameters))
typed_bounded xs (Err x) p bounded e = absurd cc

pub unit_bounded : (end : ℕ) (u : t.Unit) (p : Program) → typed_unit end u ≡ a_program p
    → list_all (λ f. nat_le (length f.parameters) most_parameters) p.functions ≡ true
unfolding typed_unit
unit_bounded end u p e =
    typed_bounded u.externals (file_in end u.externals) p (file_bounded most_parameters end u.externals) e
