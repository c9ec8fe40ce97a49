-- Constructs that are typed one behind the other.
use Rattle.std.proofs.Common.{◌≡◌, ℕ, Bool, Result, Ok, Err, refl, sym, ap, ◌∙◌, subst, false}
use Rattle.c_syntax.specs.declared.position.Position.{Position}
use Rattle.c_syntax.specs.Tree.{Declarator, Expression, MoreDeclarators, Specifier, Specifiers, member_declaration}
use Rattle.c_faults.specs.declared.fault.Refusal.{Refusal}
use Rattle.c_faults.specs.declared.fault.Refusal.TheVariants.{Memory, Fault}
use Rattle.c_faults.specs.Answer.{Answer, Fails, Gives, ◌>>=◌}
use Rattle.c_place_rules.specs.declared.operand.Operand as code_operand
use Rattle.c_place_rules.specs.Operands.{operand_of}
use Rattle.c_declarator_typing.specs.declared.members.Entries as code_entries
use Rattle.c_declarator_typing.specs.declared.shape.Shape as code_shape
use Rattle.c_declarator_typing.specs.declared.specification.Gathered as code_gathered
use Rattle.c_declarator_typing.specs.declared.specification.Specification as code_specification
use Rattle.c_declarator_typing.specs.Declarators.{Shape, shape_of}
use Rattle.c_declarator_typing.specs.Members.{Entries, entries_of, member_added, member_specified}
use Rattle.c_declarator_typing.specs.Specifications.{Gathered, Specification, gathered_of, specification_of}
use Rattle.c_typing_state.specs.State.{State, Types, Typing, judged, ◌>>>◌}
use Rattle.c_expression_typing.specs.Constructs.{with_shape}
use Rattle.c_expression_typing.specs.Typed.{shape, specification, typed, with_member, with_more_declared}
use Rattle.c_expression_typing.specs.Typed.{with_specifier}

-- ---- of equal trees the same is typed

pub expression_typed : (x y : Expression) (is_evaluated : Bool) (s new : State)
    (result : Result code_operand.Operand Refusal) → x ≡ y → Types operand_of new result (typed is_evaluated x s)
    → Types operand_of new result (typed is_evaluated y s)
expression_typed x y is_evaluated s new result same types =
    subst (λ z. Types operand_of new result (typed is_evaluated z s)) same types

pub declarator_typed : (x y : Declarator) (in_definition : Bool) (s new : State)
    (result : Result code_shape.Shape Refusal) → x ≡ y → Types shape_of new result (shape in_definition x s)
    → Types shape_of new result (shape in_definition y s)
declarator_typed x y in_definition s new result same types =
    subst (λ z. Types shape_of new result (shape in_definition z s)) same types

pub specifiers_typed : (x y : Specifiers) (is_alone : Bool) (s new : State)
    (result : Result code_specification.Specification Refusal) → x ≡ y
    → Types specification_of new result (specification is_alone x s)
    → Types specification_of new result (specification is_alone y s)
specifiers_typed x y is_alone s new result same types =
    subst (λ z. Types specification_of new result (specification is_alone z s)) same types

pub specifier_typed : (x y : Specifier) (is_alone : Bool) (line : ℕ) (before : Gathered) (s new : State)
    (result : Result code_gathered.Gathered Refusal) → x ≡ y
    → Types gathered_of new result (with_specifier is_alone line x before s)
    → Types gathered_of new result (with_specifier is_alone line y before s)
specifier_typed x y is_alone line before s new result same types =
    subst (λ z. Types gathered_of new result (with_specifier is_alone line z before s)) same types

-- ---- one behind the other

-- what fails does so with all that stands behind it
pub fails_on : {A B : Type 0} (f : Refusal) (a : Answer A) (next : A → Answer B) → Fails f a → Fails f (a >>= next)
fails_on Memory a next fails = tt
fails_on (Fault f) a next fails = ap (λ r. r >>= next) fails

one_behind : {A B C : Type 0} (a : Answer A) (f : A → Answer B) (g : B → Answer C)
    → ((a >>= f) >>= g) ≡ (a >>= λ x. f x >>= g)
one_behind (Ok x) f g = refl
one_behind (Err e) f g = refl

-- ---- members

pub shape_added : (spec : Specification) (es : Entries) (sh : Shape) (s s1 : State) (typing : Typing Shape)
    (result : Result code_entries.Entries Refusal) → typing s ≡ Ok (s1, sh)
    → Gives entries_of result (member_added spec sh es s1) → Types entries_of s1 result (with_shape spec es typing s)
shape_added spec es sh s s1 typing result e gives = by result gives
  where
    is : with_shape spec es typing s ≡ (member_added spec sh es s1 >>= λ x. Ok (s1, x))
    is = ap (λ r. r >>= λ p. judged (member_added spec p.1 es) p.0) e

    by : (result : Result code_entries.Entries Refusal) → Gives entries_of result (member_added spec sh es s1)
        → Types entries_of s1 result (with_shape spec es typing s)
    by (Ok x) g = is ∙ ap (λ r. r >>= λ y. Ok (s1, y)) g
    by (Err f) g = subst (Fails f) (sym is) (fails_on f (member_added spec sh es s1) (λ y. Ok (s1, y)) g)

-- what specifiers of members say
abbrev pub member_specification : Specifiers → Typing Specification
member_specification specs = specification false specs >>> λ spec. judged (λ s. member_specified spec)

abbrev declared_behind : Declarator → MoreDeclarators → (before : Entries) → Specification → Typing Entries
declared_behind d more es spec = with_shape spec es (shape false d) >>> λ es. with_more_declared spec more es

member_steps : (specs : Specifiers) (d : Declarator) (more : MoreDeclarators) (at : Position) (es : Entries)
    (s s1 : State) (spec : Specification) → member_specification specs s ≡ Ok (s1, spec)
    → with_member (member_declaration specs d more at) es s ≡ declared_behind d more es spec s1
member_steps specs d more at es s s1 spec e =
    sym (one_behind (specification false specs s) (λ r. judged (λ s. member_specified r.1) r.0)
    (λ r. declared_behind d more es r.1 r.0))
    ∙ ap (λ t. t >>= λ r. declared_behind d more es r.1 r.0) e

pub member_failed : (specs : Specifiers) (d : Declarator) (more : MoreDeclarators) (at : Position) (es : Entries)
    (s s1 : State) (spec : Specification) (f : Refusal) → member_specification specs s ≡ Ok (s1, spec)
    → Fails f (with_shape spec es (shape false d) s1)
    → Fails f (with_member (member_declaration specs d more at) es s)
member_failed specs d more at es s s1 spec f e fails =
    subst (Fails f) (sym (member_steps specs d more at es s s1 spec e))
    (fails_on f (with_shape spec es (shape false d) s1) (λ r. with_more_declared spec more r.1 r.0) fails)

pub member_done : (specs : Specifiers) (d : Declarator) (more : MoreDeclarators) (at : Position) (es added : Entries)
    (s s1 s2 : State) (spec : Specification) → member_specification specs s ≡ Ok (s1, spec)
    → with_shape spec es (shape false d) s1 ≡ Ok (s2, added)
    → with_member (member_declaration specs d more at) es s ≡ with_more_declared spec more added s2
member_done specs d more at es added s s1 s2 spec e declared =
    member_steps specs d more at es s s1 spec e ∙ ap (λ t. t >>= λ r. with_more_declared spec more r.1 r.0) declared
