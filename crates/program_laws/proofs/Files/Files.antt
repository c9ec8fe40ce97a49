-- Definitions and declarations of a file number its static objects.
use Rattle.std.proofs.Common.{◌≡◌, ℕ, ◌+◌, Bool, true, false, ◌&&◌, ◌||◌, refl, ap, ◌∙◌, List, [], ◌∷◌}
use Rattle.std.proofs.Common.{Option, Some, None, if◌then◌else◌, arith}
use Rattle.std.specs.Prelude.{Ok, Err, not}
use Rattle.c_syntax.specs.Statements as t
use Rattle.c_tree.specs.declared.c_type.TypeWord.{TypeWord}
use Rattle.c_tree.specs.Statements.{DeclaredVariable, Statements}
use Rattle.c_faults.specs.declared.fault.Rule.TheVariants.{MisplacedStorage}
use Rattle.c_faults.specs.Answer.{Answer, violates, ◌>>=◌}
use Rattle.c_scope.specs.declared.meaning.Designated.TheVariants as what
use Rattle.c_scope.specs.declared.meaning.Meaning.{Meaning}
use Rattle.c_scope.specs.declared.meaning.Meaning.TheVariants as meaning
use Rattle.c_scope.specs.Declaring.{Declaration, is_extern, is_function, is_typedef, judged as judged_declarator}
use Rattle.c_scope.specs.Environment.{in_file, surroundings}
use Rattle.c_scope.specs.Names.{Name, is_empty}
use Rattle.c_scope.specs.Parameters.{ParameterScope}
use Rattle.c_declarator_typing.specs.Declarators.{Shape, built_in}
use Rattle.c_declarator_typing.specs.Specifications.{Specification}
use Rattle.c_typing_state.specs.State.{State, extents, judged, ◌>>>◌}
use Rattle.c_expression_typing.specs.Typed.{shape, specification}
use Rattle.c_unit_typing.specs.Declarations.{declaration, stored_once}
use Rattle.c_unit_typing.specs.Files.{File, FileTyping, in_state, ◌~>◌}
use Rattle.c_unit_typing.specs.Statements.{block_items}
use Rattle.c_unit_typing.specs.Units.{around_body, body_of, defined_as, defined_by, definition_of, entered, external}
use Rattle.c_unit_typing.specs.Units.{externals, left, parameters_in, scope_or_none, with_body}
use Rattle.typing_laws.specs.Validity.Sound.{IsFormed, is_sized_array}
use Rattle.typing_laws.proofs.Validity.Common.{first, second}
use Rattle.typing_laws.specs.Declarators.Extending.{Extending, Extends}
use Rattle.typing_laws.specs.Declarators.Given.{AreCounted, HasScope, IsParameterScope, IsShapeOf, IsSpecified}
use Rattle.typing_laws.proofs.Declarators.Marks.{type_extends}
use Rattle.typing_laws.proofs.Declarators.Recursion.{scope_kept, shape_extends}
use Rattle.typing_laws.specs.Declarations.Binding.{IfDeclared, bound_meaning}
use Rattle.typing_laws.proofs.Declarations.Judged.{answered}
use Rattle.typing_laws.specs.Scopes.Leaving.{FileLeads, Growing, Leading}
use Rattle.typing_laws.specs.Scopes.Regular.{are_regular_externals, is_regular_block, is_regular_external}
use Rattle.typing_laws.proofs.Scopes.Declarations.{declaration_leads}
use Rattle.typing_laws.proofs.Scopes.Files.{defined_as_declares, entered_leads, external_grows, inside}
use Rattle.typing_laws.proofs.Scopes.Files.{inside_formed}
use Rattle.typing_laws.proofs.Scopes.Files.{scope_is, stored_extends}
use Rattle.typing_laws.proofs.Scopes.Initializers.{values_walk}
use Rattle.typing_laws.proofs.Scopes.Leading.{bound_leads, closed_leads, file_on, file_same, leads_by}
use Rattle.typing_laws.proofs.Scopes.Leading.{leads_on}
use Rattle.typing_laws.proofs.Scopes.Leading.{outer_is, state_leads}
use Rattle.typing_laws.proofs.Scopes.Statements.{IfFileBehind, Walk, items_walk}
use Rattle.program_laws.specs.Files.Numbers.{statics_at}
use Rattle.program_laws.proofs.Files.Declarations.{AddsFor, AreLinked, IfAdds, adds_on, adds_same}
use Rattle.program_laws.proofs.Files.Declarations.{declaration_adds, state_adds}
use Rattle.program_laws.proofs.Files.Numbers.{Counts, counts_by, linked_counts}
use Rattle.typing_laws.proofs.Common.{filed}

-- blocks

record Adds (f g : File) : Type 0 where
  leads : FileLeads f g
  adds : AreLinked f.state → AddsFor None f g

declared_by : {A : Type 0} (f : File) (a : Answer (File × A)) → Leading f a → (AreLinked f.state → IfAdds f a)
    → IfFileBehind Adds f a
declared_by f (Ok r) l h = record { leads = l; adds = h }
declared_by f (Err e) l h = tt

adds_walk : Walk (Extends false) Adds
adds_walk = record {
  values = values_walk;
  file_same = λ f formed. record { leads = file_same f formed; adds = λ l. adds_same f l };
  file_on = λ f g h a b. record {
    leads = file_on f g h a.leads b.leads;
    adds = λ l. (let first = a.adds l in adds_on None f g h first (b.adds first.linked));
  };
  file_formed = λ f g h. h.leads.state.formed;
  in_file = λ f t h. record {
    leads = state_leads f t (leads_by f.state t h);
    adds = λ l. state_adds f t (counts_by false f.state t h l);
  };
  scope = λ f g formed h. record {
    leads = closed_leads f g formed h.leads;
    adds = λ l. (let a = h.adds l in record { linked = a.linked; numbers = a.numbers });
  };
  declared = λ in_head d c f formed.
      declared_by f (declaration in_head d f) (declaration_leads in_head d c f formed)
      (declaration_adds in_head d c f formed);
}

-- the block of a function, behind which the scope is that of the file

pub record AddsOutside (f g : File) : Type 0 where
  pub adds : AddsFor None f g
  pub outer : g.state.environment.names.outer ≡ f.state.environment.names.outer

abbrev pub IfAddsOutside : {A : Type 0} → File → Answer (File × A) → Type 0
IfAddsOutside f (Ok r) = AddsOutside f r.0
IfAddsOutside f (Err e) = Unit {0}

outside_on : (f g h : File) → AddsOutside f g → AddsOutside g h → AddsOutside f h
outside_on f g h a b = record { adds = adds_on None f g h a.adds b.adds; outer = b.outer ∙ a.outer }

from_outside : {A : Type 0} (f g : File) → AddsOutside f g → (a : Answer (File × A)) → IfAddsOutside g a
    → IfAddsOutside f a
from_outside f g h (Ok r) is = outside_on f g r.0 h is
from_outside f g h (Err e) is = tt

entered_numbers : (f : File) → IsFormed f.state → (n : ℕ) (p : ParameterScope) → IsParameterScope f.state p
    → (type : List TypeWord) → AreLinked f.state → Counts None (inside n p f) (entered n type p f).state
entered_numbers f formed n p is type linked =
    counts_by false (inside n p f) (entered n type p f).state
    (type_extends false type (inside n p f) (inside_formed f formed n p is)) linked

entered_up : (xs x st ys y k os before middle behind : ℕ) → xs + x + 0 + before ≡ ys + y + middle
    → os + middle ≡ xs + k + x + 0 + behind → os + before ≡ ys + k + y + 0 + behind
entered_up xs x st ys y k os before middle behind e g = omega (arith, e, g)

left_adds : (f : File) (formed : IsFormed f.state) (n : ℕ) (p : ParameterScope) (is : IsParameterScope f.state p)
    (type : List TypeWord) (line : ℕ) → AreLinked f.state → (g : File) (ss : Statements)
    → Adds (entered n type p f) g
    → AddsOutside f (left line type (parameters_in (entered n type p f).state p.names) (g, ss))
left_adds f formed n p is type line linked g ss h =
    let start = entered_numbers f formed n p is type linked in
    let body = h.adds start.linked in
    let all = leads_on (inside n p f) (entered n type p f).state g.state (entered_leads f formed n p is type line)
    h.leads.state in
    record {
      adds = record {
        linked = body.linked;
        numbers = λ k. entered_up _ _ 0 _ _ (statics_at k f.statics) _ _ _ _ (start.numbers k) (body.numbers k);
      };
      outer = outer_is f.state g.state all.outer all.outer_tags;
    }

left_by : (f : File) (formed : IsFormed f.state) (n : ℕ) (p : ParameterScope) (is : IsParameterScope f.state p)
    (type : List TypeWord) (line : ℕ) → AreLinked f.state → (a : Answer (File × Statements))
    → IfFileBehind Adds (entered n type p f) a
    → IfAddsOutside f (a >>= λ r. Ok (left line type (parameters_in (entered n type p f).state p.names) r, tt {0}))
left_by f formed n p is type line linked (Ok r) h = left_adds f formed n p is type line linked r.0 r.1 h
left_by f formed n p is type line linked (Err e) h = tt

body_by : (f : File) (formed : IsFormed f.state) (n : ℕ) (p : ParameterScope) (is : IsParameterScope f.state p)
    (type : List TypeWord) (line : ℕ) → AreLinked f.state → (b : t.Block) → is_regular_block b ≡ true
    → IfAddsOutside f (body_of line type p b (entered n type p f))
body_by f formed n p is type line linked (t.block l xs r) c =
    left_by f formed n p is type line linked (block_items (around_body type) xs (entered n type p f))
    (items_walk (Extends false) Adds adds_walk (around_body type) xs c (entered n type p f)
    (entered_leads f formed n p is type line).formed)

same_outside : (f : File) → AreLinked f.state → AddsOutside f f
same_outside f linked = record { adds = adds_same f linked; outer = refl }

body_adds : (line : ℕ) (o : Option ParameterScope) (b : t.Block) → is_regular_block b ≡ true → (m : Option Meaning)
    (f : File) → IsFormed f.state → AreLinked f.state → HasScope f.state o → IfAddsOutside f (with_body line o b m f)
body_adds line o b c (Some (meaning.Named (what.Function n) type)) f formed linked has =
    body_by f formed n (scope_or_none o) (scope_is f.state o has) type line linked b c
body_adds line o b c None f formed linked has = same_outside f linked
body_adds line o b c (Some (meaning.Typedef type)) f formed linked has = same_outside f linked
body_adds line o b c (Some (meaning.Constant w)) f formed linked has = same_outside f linked
body_adds line o b c (Some (meaning.Named (what.Object n) type)) f formed linked has = same_outside f linked
body_adds line o b c (Some (meaning.Named (what.Static n) type)) f formed linked has = same_outside f linked
body_adds line o b c (Some (meaning.Named (what.Library r) type)) f formed linked has = same_outside f linked
body_adds line o b c (Some (meaning.Named (what.Variable n) type)) f formed linked has = same_outside f linked

-- a definition; at file scope what it declares has linkage, unless it is a typedef name

abbrev pub IfDeclaredOutside : State → Answer (State × Option Meaning) → Type 0
IfDeclaredOutside s (Ok r) = Counts None s r.0
IfDeclaredOutside s (Err e) = Unit {0}

pub linkage_by : (typedef file function has_extern : Bool) → typedef ≡ false → file ≡ true
    → (not typedef && (file || function || has_extern)) ≡ true
linkage_by true file f x e g = absurd cc
linkage_by false true f x e g = refl
linkage_by false false f x e g = absurd cc

answered_by : (s : State) (d : Declaration) (name : Name × ℕ) → AreLinked s → in_file s.environment ≡ true
    → is_typedef d.storage ≡ false → (a : Answer (Unit {0})) → IfDeclaredOutside s (answered d s name a)
answered_by s d name linked file plain (Ok x) =
    linked_counts s d linked
    (linkage_by (is_typedef d.storage) (in_file s.environment) (is_function d.type) (is_extern d.storage) plain file)
answered_by s d name linked file plain (Err e) = tt

defined_as_counts : (s : State) (spec : Specification) (sh : Shape) (name : Name × ℕ) → AreLinked s
    → in_file s.environment ≡ true → (b : Bool) → is_typedef spec.storage ≡ b
    → IfDeclaredOutside s
    (if b then violates MisplacedStorage spec.line
    else answered (definition_of (extents s) spec (built_in s spec sh) name) s name
    (judged_declarator (surroundings s.environment (definition_of (extents s) spec (built_in s spec sh) name))
    (definition_of (extents s) spec (built_in s spec sh) name)))
defined_as_counts s spec sh name linked file true e = tt
defined_as_counts s spec sh name linked file false e =
    let d = definition_of (extents s) spec (built_in s spec sh) name in
    answered_by s d name linked file e (judged_declarator (surroundings s.environment d) d)

named_outside : (f : File) (d : Declaration) (name : Name) (o : Option ParameterScope) (line : ℕ) (b : t.Block)
    → is_regular_block b ≡ true → HasScope f.state o → (a : Answer (State × Option Meaning)) → IfDeclared d f.state a
    → IfDeclaredOutside f.state a → IfAddsOutside f (a >>= filed f >>= λ r. with_body line o b r.1 r.0)
named_outside f d name o line b c has (Ok r) h counts =
    let g = record f { state = r.0 } in
    let m = bound_meaning f.state.environment d in
    let leads = bound_leads d.name m f.state r.0 h.0.binds h.0.formed in
    from_outside f g (record { adds = state_adds f r.0 counts; outer = h.0.binds.outer }) (with_body line o b r.1 g)
    (body_adds line o b c r.1 g h.0.formed counts.linked (scope_kept f.state r.0 leads.longer o has))
named_outside f d name o line b c has (Err e) h counts = tt

-- files at whose end no block is open
pub record IsOutside (f : File) : Type 0 where
  pub formed : IsFormed f.state
  pub linked : AreLinked f.state
  pub file : in_file f.state.environment ≡ true

defined_adds : (spec : Specification) → is_sized_array spec.type ≡ true → (sh : Shape) → AreCounted sh.derivations
    → (b : t.Block) → is_regular_block b ≡ true → (name : Option (Name × ℕ)) (f : File) → IsOutside f
    → HasScope f.state sh.parameters → IfAddsOutside f (defined_by spec sh b name f)
defined_adds spec sized sh counted b c None f is has = same_outside f is.linked
defined_adds spec sized sh counted b c (Some name) f is has =
    named_outside f (definition_of (extents f.state) spec (built_in f.state spec sh) name) name.0 sh.parameters name.1
    b c has (defined_as spec sh name f.state)
    (defined_as_declares f.state is.formed spec sized sh counted name (is_typedef spec.storage))
    (defined_as_counts f.state spec sh name is.linked is.file (is_typedef spec.storage) refl)

pub outside_by : (f : File) → IsOutside f → (t : State) → Extends false f.state t
    → AddsOutside f (record f { state = t }) × IsOutside (record f { state = t })
outside_by f is t h =
    let counts = counts_by false f.state t h is.linked in (
      record { adds = state_adds f t counts; outer = h.outer },
      record { formed = h.formed; linked = counts.linked; file = ap is_empty h.outer ∙ is.file },
    )

state_then : {A B : Type 0} (f : File) → IsOutside f → (p : State → A → Type 0) (a : Answer (State × A))
    (next : A → FileTyping B) → Extending false f.state p a
    → ((x : A) (g : File) → IsOutside g → p g.state x → IfAddsOutside g (next x g))
    → IfAddsOutside f (a >>= filed f >>= λ r. next r.1 r.0)
state_then f is p (Ok r) next h k =
    let g = record f { state = r.0 } in
    let o = outside_by f is r.0 h.0 in
    from_outside f g o.0 (next r.1 g) (k r.1 g o.1 h.1)
state_then f is p (Err e) next h k = tt

declared_outside : {A : Type 0} (f : File) (x : A) (a : Answer (File × List DeclaredVariable)) → Leading f a
    → IfAdds f a → IfAddsOutside f (a >>= λ r. Ok (r.0, x))
declared_outside f x (Ok r) l h = record { adds = h; outer = l.state.outer }
declared_outside f x (Err e) l h = tt

pub external_adds : (e : t.External) → is_regular_external e ≡ true → (f : File) → IsOutside f
    → IfAddsOutside f (external e f)
external_adds (t.definition specs d b) c f is =
    state_then f is IsSpecified ((specification false specs >>> λ spec. judged (stored_once spec)) f.state)
    (λ spec. in_state (shape true d) ~> λ sh. defined_by spec sh b sh.name)
    (stored_extends specs (first _ _ (first _ _ c)) f.state is.formed)
    (λ spec g h sized. state_then g h (λ u sh. IsShapeOf u d sh) (shape true d g.state)
    (λ sh. defined_by spec sh b sh.name) (shape_extends true d (second _ _ (first _ _ c)) g.state h.formed)
    (λ sh k j has. defined_adds spec sized sh has.counted b (second _ _ c) sh.name k j has.scope))
external_adds (t.declaration d) c f is =
    declared_outside f tt (declaration false d f) (declaration_leads false d c f is.formed)
    (declaration_adds false d c f is.formed is.linked)

then_outside : {B : Type 0} (f : File) → IsOutside f → (a : Answer (File × Unit {0})) (next : Unit {0} → FileTyping B)
    → Growing f a → IfAddsOutside f a → ((g : File) → IsOutside g → IfAddsOutside g (next tt g))
    → IfAddsOutside f (a >>= λ r. next r.1 r.0)
then_outside f is (Ok r) next grows h k =
    from_outside f r.0 h (next r.1 r.0)
    (k r.0 (record { formed = grows.formed; linked = h.adds.linked; file = ap is_empty h.outer ∙ is.file }))
then_outside f is (Err e) next grows h k = tt

pub externals_add : (es : List t.External) → are_regular_externals es ≡ true → (f : File) → IsOutside f
    → IfAddsOutside f (externals es f)
externals_add [] c f is = same_outside f is.linked
externals_add (e ∷ es) c f is =
    then_outside f is (external e f) (λ done. externals es) (external_grows e (first _ _ c) f is.formed)
    (external_adds e (first _ _ c) f is) (λ g h. externals_add es (second _ _ c) g h)
