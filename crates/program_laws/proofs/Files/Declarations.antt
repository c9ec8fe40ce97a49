-- Declarations number the static objects that they declare.
use Rattle.std.proofs.Common.{◌≡◌, ℕ, ◌+◌, ◌==◌, Bool, true, false, refl, sym, ap, ◌∙◌, subst, List, [], ◌∷◌, ◌++◌}
use Rattle.std.proofs.Common.{Option, Some, None, if◌then◌else◌, arith}
use Rattle.std.specs.Prelude.{Ok, Err, not, is_none, is_some, option_map}
use Rattle.std.specs.List.{list_all}
use Rattle.c_syntax.specs.declared.position.Position.{Position}
use Rattle.c_syntax.specs.Statements as t
use Rattle.c_syntax.specs.Tree.{Initializer}
use Rattle.c_tree.specs.declared.c_type.TypeWord.{TypeWord}
use Rattle.c_tree.specs.declared.c_type.TypeWord.TheVariants as word
use Rattle.c_tree.specs.Extents.{extent_of}
use Rattle.c_tree.specs.Programs.{StaticObject}
use Rattle.c_tree.specs.Statements.{DeclaredVariable, Part}
use Rattle.c_faults.specs.declared.fault.Rule.TheVariants.{MisplacedStorage, Redeclared}
use Rattle.c_faults.specs.Answer.{Answer, violates, ◌>>=◌}
use Rattle.c_declarators.specs.Derivations.{array_of, is_large}
use Rattle.c_initializer_rules.specs.Initializing.{begun}
use Rattle.c_initializer_rules.specs.Placed.{count_of, parts_in}
use Rattle.c_scope.specs.declared.meaning.Designated.{Designated}
use Rattle.c_scope.specs.declared.meaning.Designated.TheVariants as what
use Rattle.c_scope.specs.declared.meaning.Meaning.{Meaning}
use Rattle.c_scope.specs.declared.meaning.Meaning.TheVariants as meaning
use Rattle.c_scope.specs.Declaring.{Declaration, judged as judged_declarator}
use Rattle.c_scope.specs.Environment.{surroundings, with_declarator as with_declared}
use Rattle.c_scope.specs.Names.{Name, declared}
use Rattle.c_declarator_typing.specs.Declarators.{Shape, built_in}
use Rattle.c_declarator_typing.specs.Specifications.{Specification}
use Rattle.c_typing_state.specs.State.{State, Typing, done, extents, judged, ◌>>>◌}
use Rattle.c_expression_typing.specs.Typed.{shape}
use Rattle.c_unit_typing.specs.Declarations.{alone_in, completed, declaration, declaration_of, declared_as}
use Rattle.c_unit_typing.specs.Declarations.{declared_with, has_place, initialized_if, is_same_object, named_by}
use Rattle.c_unit_typing.specs.Declarations.{specified, with_declarator, with_declarators, with_others, with_parts}
use Rattle.c_unit_typing.specs.Declarations.{with_static, with_variable}
use Rattle.c_unit_typing.specs.Files.{File, FileTyping}
use Rattle.c_unit_typing.specs.Initializers.{initialized}
use Rattle.c_unit_typing.specs.Lines.{initializer_line}
use Rattle.typing_laws.specs.Validity.Sound.{IsFormed, is_sized_array}
use Rattle.typing_laws.proofs.Validity.Common.{first, second}
use Rattle.typing_laws.specs.Declarators.Extending.{Extending, below, one_if}
use Rattle.typing_laws.specs.Declarators.Given.{AreCounted, IsShapeOf, IsSpecified, anything}
use Rattle.typing_laws.proofs.Declarators.Chained.{judged_extends}
use Rattle.typing_laws.proofs.Declarators.Recursion.{shape_extends}
use Rattle.typing_laws.proofs.Declarators.Steps.{whatever}
use Rattle.typing_laws.specs.Declarations.Binding.{IfDeclared}
use Rattle.typing_laws.proofs.Declarations.Bound.{declarator_binds}
use Rattle.typing_laws.proofs.Declarations.Judged.{answered, declared_as_declares}
use Rattle.typing_laws.specs.Scopes.Leaving.{Leading}
use Rattle.typing_laws.specs.Scopes.Regular.{are_regular_declarators, initializer_of, is_regular_declaration}
use Rattle.typing_laws.specs.Scopes.Regular.{is_regular_initializer_if, is_regular_object}
use Rattle.typing_laws.proofs.Scopes.Declarations.{declarator_leads, specified_extends}
use Rattle.typing_laws.proofs.Scopes.Initializers.{initialized_extends}
use Rattle.program_laws.specs.Files.Numbers.{are_linked, owners, statics_at, waiting}
use Rattle.program_laws.proofs.Files.Numbers.{Counts, counts_by, counts_on, counts_same, declarator_counts}
use Rattle.program_laws.proofs.Files.Numbers.{size_counts}
use Rattle.typing_laws.proofs.Common.{filed, unless_large}

abbrev pub AreLinked : State → Type 0
AreLinked s = are_linked s.environment.entities ≡ true

-- behind a construct; a name that was bound before it may wait for its entry
pub record AddsFor (m : Option Meaning) (f g : File) : Type 0 where
  pub linked : AreLinked g.state
  pub numbers : (n : ℕ) → owners n g + below n f.state.environment.statics
      ≡ owners n f + waiting n m + below n g.state.environment.statics

abbrev pub IfAddsFor : {A : Type 0} → Option Meaning → File → Answer (File × A) → Type 0
IfAddsFor m f (Ok r) = AddsFor m f r.0
IfAddsFor m f (Err e) = Unit {0}

abbrev pub IfAdds : {A : Type 0} → File → Answer (File × A) → Type 0
IfAdds f a = IfAddsFor None f a

pub adds_same : (f : File) → AreLinked f.state → AddsFor None f f
adds_same f linked = record { linked = linked; numbers = λ n. omega arith }

pub adds_on : (m : Option Meaning) (f g h : File) → AddsFor m f g → AddsFor None g h → AddsFor m f h
adds_on m f g h a b =
    record { linked = b.linked; numbers = λ n. (let first = a.numbers n in let second = b.numbers n in omega arith) }

pub state_adds : (f : File) (t : State) → Counts None f.state t → AddsFor None f (record f { state = t })
state_adds f t h = record {
  linked = h.linked;
  numbers = λ n. added_up _ _ _ _ _ _ (statics_at n f.statics) (h.numbers n);
}
  where
    added_up : (ls os before ms ps behind k : ℕ) → ls + os + 0 + before ≡ ms + ps + behind
        → ls + k + os + before ≡ ms + k + ps + 0 + behind
    added_up ls os before ms ps behind k e = omega (arith, e)

from_added : {A : Type 0} (m : Option Meaning) (f g : File) → AddsFor m f g → (a : Answer (File × A))
    → IfAddsFor None g a → IfAddsFor m f a
from_added m f g h (Ok r) is = adds_on m f g r.0 h is
from_added m f g h (Err e) is = tt

pub then_adds : {A B : Type 0} (m : Option Meaning) (f : File) (a : Answer (File × A)) (next : A → FileTyping B)
    → Leading f a → IfAddsFor m f a
    → ((x : A) (g : File) → IsFormed g.state → AreLinked g.state → IfAdds g (next x g))
    → IfAddsFor m f (a >>= λ r. next r.1 r.0)
then_adds m f (Ok r) next l h g = from_added m f r.0 h (next r.1 r.0) (g r.1 r.0 l.state.formed h.linked)
then_adds m f (Err e) next l h g = tt

-- what is typed in the state, and gives something on which what follows depends
pub extending_adds : {A B : Type 0} (f : File) (p : State → A → Type 0) (a : Answer (State × A))
    (next : A → FileTyping B) → AreLinked f.state → Extending false f.state p a
    → ((x : A) (g : File) → IsFormed g.state → AreLinked g.state → p g.state x → IfAdds g (next x g))
    → IfAdds f (a >>= filed f >>= λ r. next r.1 r.0)
extending_adds f p (Ok r) next linked is h =
    let counts = counts_by false f.state r.0 is.0 linked in
    let g = record f { state = r.0 } in
    from_added None f g (state_adds f r.0 counts) (next r.1 g) (h r.1 g is.0.formed counts.linked is.1)
extending_adds f p (Err e) next linked is h = tt

-- an object gets its size

abbrev IfCounts : {A : Type 0} → State → Answer (State × A) → Type 0
IfCounts s (Ok r) = Counts None s r.0
IfCounts s (Err e) = Unit {0}

from_counted : {A : Type 0} (s t : State) → Counts None s t → (a : Answer (State × A)) → IfCounts t a → IfCounts s a
from_counted s t h (Ok r) is = counts_on None s t r.0 h is
from_counted s t h (Err e) is = tt

then_counts : {A B : Type 0} (s : State) (a : Answer (State × A)) (next : A → Typing B) → IfCounts s a
    → ((x : A) (u : State) → AreLinked u → IfCounts u (next x u)) → IfCounts s (a >>= λ r. next r.1 r.0)
then_counts s (Ok r) next h g = from_counted s r.0 h (next r.1 r.0) (g r.1 r.0 h.linked)
then_counts s (Err e) next h g = tt

extending_counts : {A : Type 0} (s : State) (p : State → A → Type 0) (a : Answer (State × A)) → AreLinked s
    → Extending false s p a → IfCounts s a
extending_counts s p (Ok r) linked is = counts_by false s r.0 is.0 linked
extending_counts s p (Err e) linked is = tt

large_by : (s : State) → AreLinked s → (d : Designated) (name : Name) (array : TypeWord) (element : List TypeWord)
    (line : ℕ) (large : Bool) → IfCounts s (unless_large s d name array element line large)
large_by s linked d name array element line true = tt
large_by s linked d name array element line false = size_counts s d name (array ∷ element) linked

sized_by : (s : State) → AreLinked s → (d : Designated) (name : Name) (array : TypeWord) (element : List TypeWord)
    (line : ℕ) (b : Bool)
    → IfCounts s (if not b then violates Redeclared line
    else unless_large s d name array element line (is_large array))
sized_by s linked d name array element line false = tt
sized_by s linked d name array element line true = large_by s linked d name array element line (is_large array)

completed_counts : (s : State) → AreLinked s → (d : Designated) (name : Name × ℕ) (type : List TypeWord) (n : ℕ)
    → IfCounts s (completed d name type n s)
completed_counts s linked d name (word.OpenArray ∷ element) n =
    sized_by s linked d name.0 (array_of n (extent_of (extents s) element)) element name.1
    (is_same_object d name.0 (array_of n (extent_of (extents s) element) ∷ element) s.environment)
completed_counts s linked d name [] n = counts_same s linked
completed_counts s linked d name (word.Void ∷ ws) n = counts_same s linked
completed_counts s linked d name (word.Integer t ∷ ws) n = counts_same s linked
completed_counts s linked d name (word.Enumeration k ∷ ws) n = counts_same s linked
completed_counts s linked d name (word.Pointer ∷ ws) n = counts_same s linked
completed_counts s linked d name (word.Array c b ∷ ws) n = counts_same s linked
completed_counts s linked d name (word.Structure k ∷ ws) n = counts_same s linked
completed_counts s linked d name (word.Const ∷ ws) n = counts_same s linked
completed_counts s linked d name (word.Takes ∷ ws) n = counts_same s linked
completed_counts s linked d name (word.Gives ∷ ws) n = counts_same s linked

initialized_counts : (s : State) → IsFormed s → AreLinked s → (d : Designated) (name : Name × ℕ)
    (type : List TypeWord) (x : Option Initializer) → is_regular_initializer_if x ≡ true
    → IfCounts s (initialized_if d name type x s)
initialized_counts s formed linked d name type None c = counts_same s linked
initialized_counts s formed linked d name type (Some x) c =
    then_counts s (initialized x (begun type) s)
    (λ i. completed d name type (count_of i.parts) >>> λ type. done (type, parts_in i.parts))
    (extending_counts s anything (initialized x (begun type) s) linked (initialized_extends x c (begun type) s formed))
    (λ i u g. then_counts u (completed d name type (count_of i.parts) u) (λ type. done (type, parts_in i.parts))
    (completed_counts u g d name type (count_of i.parts)) (λ type v h. counts_same v h))

-- what is declared

statics_added : (n : ℕ) (os : List (ℕ × StaticObject)) (o : ℕ × StaticObject)
    → statics_at n (os ++ o ∷ []) ≡ statics_at n os + one_if (n == o.0)
statics_added n [] o = omega arith
statics_added n (x ∷ os) o = let more = statics_added n os o in omega arith

static_up : (ls os before ms ps behind k more x : ℕ) → ls + os + 0 + before ≡ ms + ps + behind → more ≡ k + x
    → ls + more + os + before ≡ ms + k + ps + x + behind
static_up ls os before ms ps behind k more x e g = omega (arith, e, g)

variable_by : (n k : ℕ) (type : List TypeWord) (b : Bool) (f : File) (a : Answer (State × (List TypeWord × List Part)))
    → IfCounts f.state a
    → IfAddsFor (Some (meaning.Named (what.Variable k) type)) f (a >>= filed f >>= λ r. with_variable n b r.1 r.0)
variable_by n k type b f (Ok r) h =
    let g = state_adds f r.0 h in record { linked = g.linked; numbers = g.numbers }
variable_by n k type b f (Err e) h = tt

static_by : (k : ℕ) (type : List TypeWord) (f : File) (a : Answer (State × (List TypeWord × List Part)))
    → IfCounts f.state a
    → IfAddsFor (Some (meaning.Named (what.Static k) type)) f (a >>= filed f >>= λ r. with_static k r.1 r.0)
static_by k type f (Ok r) h = record {
  linked = h.linked;
  numbers = λ n. static_up _ _ _ _ _ _ (statics_at n f.statics) _ _ (h.numbers n) (statics_added n f.statics _);
}
static_by k type f (Err e) h = tt

parts_if : (m : Option Meaning) (k : ℕ) (b : Bool) (r : List TypeWord × List Part) (f g : File) → AddsFor m f g
    → AddsFor m f (if b then record g { initializers = g.initializers ++ (k, r.1) ∷ [] } else g)
parts_if m k true r f g h = record { linked = h.linked; numbers = h.numbers }
parts_if m k false r f g h = h

object_by : (k : ℕ) (type : List TypeWord) (b : Bool) (f : File) (a : Answer (State × (List TypeWord × List Part)))
    → IfCounts f.state a
    → IfAddsFor (Some (meaning.Named (what.Object k) type)) f (a >>= filed f >>= λ r. with_parts k b r.1 r.0)
object_by k type b f (Ok r) h =
    let g = state_adds f r.0 h in
    parts_if (Some (meaning.Named (what.Object k) type)) k b r.1 f (record f { state = r.0 })
    (record { linked = g.linked; numbers = g.numbers })
object_by k type b f (Err e) h = tt

plainly : (m : Option Meaning) → ((n : ℕ) → waiting n m ≡ 0) → (f : File) → AreLinked f.state → AddsFor m f f
plainly m none f linked = record { linked = linked; numbers = λ n. (let e = none n in omega arith) }

declared_adds : (name : Name × ℕ) (x : Option Initializer) → is_regular_initializer_if x ≡ true
    → (m : Option Meaning) (f : File) → IsFormed f.state → AreLinked f.state
    → IfAddsFor m f (declared_with name x m f)
declared_adds name x c (Some (meaning.Named (what.Variable n) type)) f formed linked =
    variable_by n n type (is_some x) f (initialized_if (what.Variable n) name type x f.state)
    (initialized_counts f.state formed linked (what.Variable n) name type x c)
declared_adds name x c (Some (meaning.Named (what.Static n) type)) f formed linked =
    static_by n type f (initialized_if (what.Static n) name type x f.state)
    (initialized_counts f.state formed linked (what.Static n) name type x c)
declared_adds name x c (Some (meaning.Named (what.Object n) type)) f formed linked =
    object_by n type (is_some x) f (initialized_if (what.Object n) name type x f.state)
    (initialized_counts f.state formed linked (what.Object n) name type x c)
declared_adds name x c None f formed linked = plainly None (λ n. refl) f linked
declared_adds name x c (Some (meaning.Typedef type)) f formed linked =
    plainly (Some (meaning.Typedef type)) (λ n. refl) f linked
declared_adds name x c (Some (meaning.Constant w)) f formed linked =
    plainly (Some (meaning.Constant w)) (λ n. refl) f linked
declared_adds name x c (Some (meaning.Named (what.Function n) type)) f formed linked =
    plainly (Some (meaning.Named (what.Function n) type)) (λ n. refl) f linked
declared_adds name x c (Some (meaning.Named (what.Library r) type)) f formed linked =
    plainly (Some (meaning.Named (what.Library r) type)) (λ n. refl) f linked

-- declarators

abbrev pub IfBound : State → Answer (State × Option Meaning) → Type 0
IfBound s (Ok r) = Counts r.1 s r.0
IfBound s (Err e) = Unit {0}

pub bound_by : (s : State) → AreLinked s → (d : Declaration) (name : Name × ℕ) → d.name ≡ name.0
    → (a : Answer (Unit {0})) → IfBound s (answered d s name a)
bound_by s linked d name is (Ok x) =
    let t = record s { environment = with_declared s.environment d } in
    let here = ap (λ z. declared z t.environment.names.current) (sym is) ∙ (declarator_binds s d).here in
    subst (λ z. Counts z s t) (sym here) (declarator_counts s d linked)
bound_by s linked d name is (Err e) = tt

placed_by : (s : State) → AreLinked s → (d : Declaration) (name : Name × ℕ) → d.name ≡ name.0 → (line : ℕ) (b : Bool)
    → IfBound s (if b then answered d s name (judged_declarator (surroundings s.environment d) d)
    else violates MisplacedStorage line)
placed_by s linked d name is line true =
    bound_by s linked d name is (judged_declarator (surroundings s.environment d) d)
placed_by s linked d name is line false = tt

waiting_up : (ls os w before ms ps behind k : ℕ) → ls + os + w + before ≡ ms + ps + behind
    → ls + k + os + w + before ≡ ms + k + ps + 0 + behind
waiting_up ls os w before ms ps behind k e = omega (arith, e)

-- what was bound gets its entry
entered_adds : (m : Option Meaning) (f g h : File) → Counts m f.state g.state → g.statics ≡ f.statics
    → AddsFor m g h → AddsFor None f h
entered_adds m f g h a same b = record {
  linked = b.linked;
  numbers = λ n.
      (let first = waiting_up _ _ _ _ _ _ _ (statics_at n f.statics) (a.numbers n) in
      let second = b.numbers n in
      let statics = ap (statics_at n) same in omega arith);
}

named_then : (name : Name × ℕ) (x : Option Initializer) → is_regular_initializer_if x ≡ true → (f : File)
    (d : Declaration) (a : Answer (State × Option Meaning)) → IfDeclared d f.state a → IfBound f.state a
    → IfAdds f (a >>= filed f >>= λ r. declared_with name x r.1 r.0)
named_then name x c f d (Ok r) is h =
    let g = record f { state = r.0 } in
    by (declared_with name x r.1 g) (declared_adds name x c r.1 g is.0.formed h.linked)
  where
    by : (b : Answer (File × List DeclaredVariable)) → IfAddsFor r.1 (record f { state = r.0 }) b → IfAdds f b
    by (Ok v) k = entered_adds r.1 f (record f { state = r.0 }) v.0 h refl k
    by (Err e) k = tt
named_then name x c f d (Err e) is h = tt

named_adds : (in_head : Bool) (spec : Specification) → is_sized_array spec.type ≡ true → (x : Option Initializer)
    → is_regular_initializer_if x ≡ true → (sh : Shape) → AreCounted sh.derivations → (name : Option (Name × ℕ))
    (f : File) → IsFormed f.state → AreLinked f.state → IfAdds f (named_by in_head spec x sh name f)
named_adds in_head spec sized x c sh counted None f formed linked = adds_same f linked
named_adds in_head spec sized x c sh counted (Some name) f formed linked =
    let d = declaration_of spec (built_in f.state spec sh) name (option_map initializer_line x) in
    named_then name x c f d (declared_as in_head spec sh (option_map initializer_line x) name f.state)
    (declared_as_declares in_head f.state formed spec sized sh counted (option_map initializer_line x) name)
    (placed_by f.state linked d name refl spec.line (has_place in_head spec (built_in f.state spec sh).type))

declarator_adds : (in_head : Bool) (spec : Specification) → is_sized_array spec.type ≡ true → (d : t.InitDeclarator)
    → is_regular_object d (initializer_of d) ≡ true → (f : File) → IsFormed f.state → AreLinked f.state
    → IfAdds f (with_declarator in_head spec d f)
declarator_adds in_head spec sized d c f formed linked =
    extending_adds f (λ u sh. IsShapeOf u d.declarator sh) (shape false d.declarator f.state)
    (λ sh. named_by in_head spec (initializer_of d) sh sh.name) linked
    (shape_extends false d.declarator (first _ _ c) f.state formed)
    (λ sh g h l is. named_adds in_head spec sized (initializer_of d) (second _ _ c) sh is.counted sh.name g h l)

others_add : (in_head : Bool) (spec : Specification) → is_sized_array spec.type ≡ true
    → (ds : List (Position × t.InitDeclarator)) → list_all (λ d. is_regular_object d.1 (initializer_of d.1)) ds ≡ true
    → (vs : List DeclaredVariable) (f : File) → IsFormed f.state → AreLinked f.state
    → IfAdds f (with_others in_head spec ds vs f)
others_add in_head spec sized [] c vs f formed linked = adds_same f linked
others_add in_head spec sized (d ∷ ds) c vs f formed linked =
    then_adds None f (with_declarator in_head spec d.1 f) (λ us. with_others in_head spec ds (vs ++ us))
    (declarator_leads in_head spec sized d.1 (first _ _ c) f formed)
    (declarator_adds in_head spec sized d.1 (first _ _ c) f formed linked)
    (λ us g h l. others_add in_head spec sized ds (second _ _ c) (vs ++ us) g h l)

declarators_add : (in_head : Bool) (spec : Specification) → is_sized_array spec.type ≡ true
    → (ds : Option t.InitDeclarators) → are_regular_declarators ds ≡ true → (f : File) → IsFormed f.state
    → AreLinked f.state → IfAdds f (with_declarators in_head spec ds f)
declarators_add in_head spec sized None c f formed linked =
    by (judged (alone_in in_head spec) f.state)
    (extending_counts f.state anything (judged (alone_in in_head spec) f.state) linked
    (judged_extends false f.state anything (alone_in in_head spec f.state) formed
    (whatever f.state (alone_in in_head spec f.state))))
  where
    by : (a : Answer (State × List DeclaredVariable)) → IfCounts f.state a → IfAdds f (a >>= filed f)
    by (Ok r) h = state_adds f r.0 h
    by (Err e) h = tt
declarators_add in_head spec sized (Some ds) c f formed linked =
    then_adds None f (with_declarator in_head spec ds.first f) (λ vs. with_others in_head spec ds.others vs)
    (declarator_leads in_head spec sized ds.first (first _ _ c) f formed)
    (declarator_adds in_head spec sized ds.first (first _ _ c) f formed linked)
    (λ vs g h l. others_add in_head spec sized ds.others (second _ _ c) vs g h l)

pub declaration_adds : (in_head : Bool) (d : t.Declaration) → is_regular_declaration d ≡ true → (f : File)
    → IsFormed f.state → AreLinked f.state → IfAdds f (declaration in_head d f)
declaration_adds in_head d c f formed linked =
    extending_adds f IsSpecified (specified (is_none d.declarators) d f.state)
    (λ spec. with_declarators in_head spec d.declarators) linked
    (specified_extends (is_none d.declarators) d c f.state formed)
    (λ spec g h l is. declarators_add in_head spec is d.declarators (second _ _ c) g h l)
