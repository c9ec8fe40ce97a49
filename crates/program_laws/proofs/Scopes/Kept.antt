-- What is valid in one scope is valid in another that lets the same be named.
use Rattle.std.proofs.Common.{◌≡◌, ◌⊎◌, inl, inr, ℕ, ◌+◌, nat_le, Bool, true, false, ◌&&◌, ◌||◌, ◌==◌, not, refl}
use Rattle.std.proofs.Common.{sym, ap, ◌∙◌, List, [], ◌∷◌, get_or}
use Rattle.obj_memory.specs.declared.int_type.IntType.TheVariants.{Int, Long}
use Rattle.c_tree.specs.declared.expression.Kind.{Kind}
use Rattle.c_tree.specs.declared.expression.Kind.TheVariants as kind
use Rattle.c_tree.specs.declared.program.Variable.{Variable}
use Rattle.c_tree.specs.Tree.{Expression, expression, Expressions, no_expressions, expressions, Lvalue, lvalue, Node}
use Rattle.c_tree.specs.Tree.{constant, function, plain, read, decay, address, parenthesized, deref_function}
use Rattle.c_tree.specs.Tree.{address_function, cast, convert, unary, binary, offset_by, difference, logical_and}
use Rattle.c_tree.specs.Tree.{logical_or, comma, conditional, assign, assign_plain, compound, change_plain, step}
use Rattle.c_tree.specs.Tree.{step_plain, call, call_through, library, printf, LvalueNode, automatic, static, deref}
use Rattle.c_tree.specs.Tree.{index, member, arrow, member_of_value, parenthesized_lvalue, kind_of, lvalue_kind}
use Rattle.c_tree.specs.Tree.{kinds_of}
use Rattle.c_tree.specs.Walk.{any_of, walk_lvalue, walk_operands, walk_lvalue_operands, walk_each, names_made}
use Rattle.c_tree.specs.Walk.{names_itself, names_variable, visited, visited_lvalue}
use Rattle.c_tree.specs.Blocks.{no_variable}
use Rattle.c_tree.specs.Format.{pieces}
use Rattle.c_tree.specs.Kinds.{integer, pointer, is_kind, is_value, is_scalar, is_size, is_array, has_size, has_member}
use Rattle.c_tree.specs.Kinds.{size_of_kind, class_of, are_operands, are_offset, is_minus, routine_signature}
use Rattle.c_tree.specs.Valid.{Scope, at_number, is_plain, is_automatic, is_named_as, is_operand}
use Rattle.c_tree.specs.Valid.{is_conversion, is_converted, is_index, is_update, is_step, is_call, has_number}
use Rattle.c_tree.specs.Valid.{no_signature, are_printed, is_lvalue, is_member, is_valid, is_node, are_valid}
use Rattle.c_tree.specs.Valid.{is_valid_lvalue, is_valid_lvalue_node}
use Rattle.c_tree.specs.Statements.{Content, value_content, literal_content, Part}
use Rattle.c_tree.specs.ValidProgram.{content_names_variable, content_size, name_variables, is_content, is_part}
use Rattle.c_tree.specs.ValidProgram.{are_parts}
use Rattle.program_laws.specs.Scopes.Scopes.{AreAmong}

-- tests that hold

also : {p q : Bool} (r : Bool) → (p ≡ true → q ≡ true) → (p && r) ≡ true → (q && r) ≡ true
also {p = true} r h e = ap (λ z. z && r) (h refl) ∙ e
also {p = false} r h e = absurd cc

both : {p q r s : Bool} → (p ≡ true → q ≡ true) → (r ≡ true → s ≡ true) → (p && r) ≡ true → (q && s) ≡ true
both {p = true} {s = s} h g e = ap (λ z. z && s) (h refl) ∙ g e
both {p = false} h g e = absurd cc

-- variables

none_plain : (k : Kind) → (is_kind kind.Void k && is_scalar k) ≡ false
none_plain kind.Void = refl
none_plain (kind.Scalar s) = refl
none_plain (kind.Structure n) = refl
none_plain (kind.Array n) = refl

plain_by : (v w : Variable) (k : Kind) → (v ≡ w) ⊎ (v ≡ no_variable)
    → (not v.is_object && is_kind v.kind k && is_scalar k) ≡ true
    → (not w.is_object && is_kind w.kind k && is_scalar k) ≡ true
plain_by v w k (inl same) e = ap (λ x. not x.is_object && is_kind x.kind k && is_scalar k) (sym same) ∙ e
plain_by v w k (inr none) e =
    let never = sym e ∙ ap (λ x. not x.is_object && is_kind x.kind k && is_scalar k) none ∙ none_plain k in cc

automatic_by : (v w : Variable) (k : Kind) → (v ≡ w) ⊎ (v ≡ no_variable)
    → (v.is_object && is_named_as v.kind k) ≡ true → (w.is_object && is_named_as w.kind k) ≡ true
automatic_by v w k (inl same) e = ap (λ x. x.is_object && is_named_as x.kind k) (sym same) ∙ e
automatic_by v w k (inr none) e =
    let never = sym e ∙ ap (λ x. x.is_object && is_named_as x.kind k) none in cc

-- what is known of the variables if any is named
pub record Known (vs ws : List Variable) (named : Bool) : Type 0 where
  pub by : named ≡ true → AreAmong vs ws

or_left : (p q : Bool) → p ≡ true → (p || q) ≡ true
or_left p q e = ap (λ z. z || q) e

or_right : (p q : Bool) → q ≡ true → (p || q) ≡ true
or_right true q e = refl
or_right false q e = e

first : {vs ws : List Variable} {p : Bool} (q : Bool) → Known vs ws (p || q) → Known vs ws p
first {p = p} q known = record { by = λ e. known.by (or_left p q e) }

rest : {vs ws : List Variable} (p : Bool) {q : Bool} → Known vs ws (p || q) → Known vs ws q
rest p {q = q} known = record { by = λ e. known.by (or_right p q e) }

two : {vs ws : List Variable} {x y p q r s : Bool} → (Known vs ws x → p ≡ true → q ≡ true)
    → (Known vs ws y → r ≡ true → s ≡ true) → Known vs ws (x || (y || false)) → (p && r) ≡ true → (q && s) ≡ true
two h g known = both (h (first _ known)) (g (first _ (rest _ known)))

-- a scope of the same program
abbrev pub with : Scope → (all variables : List Variable) → (result : Kind) → Scope
with a all variables result = record a { all = all; variables = variables; result = result }

module _ (a : Scope) (all vs : List Variable) (result : Kind) where
  plain_kept : (x : ℕ) (k : Kind) → AreAmong a.variables vs → is_plain a x k ≡ true
      → is_plain (with a all vs result) x k ≡ true
  plain_kept x k are e = plain_by (at_number a.variables x) (at_number vs x) k (are.each x) e

  automatic_kept : (x : ℕ) (k : Kind) → AreAmong a.variables vs → is_automatic a x k ≡ true
      → is_automatic (with a all vs result) x k ≡ true
  automatic_kept x k are e = automatic_by (at_number a.variables x) (at_number vs x) k (are.each x) e

  mutual
    pub valid_kept : (e : Expression) → Known a.variables vs (names_variable e) → is_valid a e ≡ true
        → is_valid (with a all vs result) e ≡ true
    valid_kept (expression k line n) known = node_kept k n known

    node_kept : (k : Kind) (n : Node)
        → Known a.variables vs (names_itself (visited k n) || any_of (walk_operands names_made n))
        → is_node a n k ≡ true → is_node (with a all vs result) n k ≡ true
    node_kept k (constant w) known = λ e. e
    node_kept k (function f) known = λ e. e
    node_kept k (plain x) known = plain_kept x k (known.by refl)
    node_kept k (read p) known = also (is_value k) (also (is_kind k (lvalue_kind p)) (lvalue_kept p (first _ known)))
    node_kept k (decay p) known =
        also (is_kind k pointer) (also (is_array (lvalue_kind p)) (also (is_lvalue p) (lvalue_kept p (first _ known))))
    node_kept k (address p) known = also (is_kind k pointer) (also (is_lvalue p) (lvalue_kept p (first _ known)))
    node_kept k (parenthesized e) known = also (is_kind k (kind_of e)) (valid_kept e (first _ known))
    node_kept k (deref_function e) known =
        also (is_kind k pointer) (also (is_kind (kind_of e) pointer) (valid_kept e (first _ known)))
    node_kept k (address_function e) known =
        also (is_kind k pointer) (also (is_kind (kind_of e) pointer) (valid_kept e (first _ known)))
    node_kept k (cast e) known = also (is_conversion (kind_of e) k) (valid_kept e (first _ known))
    node_kept k (convert e) known =
        also (not (is_converted e)) (also (is_conversion (kind_of e) k) (valid_kept e (first _ known)))
    node_kept k (unary op e) known = also (is_operand op (kind_of e) k) (valid_kept e (first _ known))
    node_kept k (binary op l r) known =
        also (are_operands (class_of op) (kind_of l) (kind_of r) k) (two (valid_kept l) (valid_kept r) known)
    node_kept k (offset_by form size l r) known =
        also (is_kind k pointer) (also (is_size size)
        (also (is_index form l r) (also (are_offset form (kind_of l) (kind_of r))
        (two (valid_kept l) (valid_kept r) known))))
    node_kept k (difference size l r) known =
        also (is_kind k (integer Long)) (also (is_size size)
        (also (is_kind (kind_of r) pointer) (also (is_kind (kind_of l) pointer)
        (two (valid_kept l) (valid_kept r) known))))
    node_kept k (logical_and l r) known =
        also (is_kind k (integer Int)) (also (is_scalar (kind_of r)) (also (is_scalar (kind_of l))
        (two (valid_kept l) (valid_kept r) known)))
    node_kept k (logical_or l r) known =
        also (is_kind k (integer Int)) (also (is_scalar (kind_of r)) (also (is_scalar (kind_of l))
        (two (valid_kept l) (valid_kept r) known)))
    node_kept k (comma l r) known = also (is_kind k (kind_of r)) (two (valid_kept l) (valid_kept r) known)
    node_kept k (conditional c l r) known =
        also (is_kind k (kind_of r)) (also (is_kind k (kind_of l))
        (both (both (also (is_scalar (kind_of c)) (valid_kept c (first _ known)))
        (valid_kept l (first _ (rest _ known)))) (valid_kept r (first _ (rest _ (rest _ known))))))
    node_kept k (assign p e) known =
        also (is_value k) (also (is_kind k (lvalue_kind p)) (also (is_kind (lvalue_kind p) (kind_of e))
        (both (also (is_lvalue p) (lvalue_kept p (first _ known))) (valid_kept e (first _ (rest _ known))))))
    node_kept k (assign_plain x e) known =
        also (is_kind k (kind_of e))
        (both (valid_kept e (record { by = λ named. known.by refl }))
        (plain_kept x.variable (kind_of e) (known.by refl)))
    node_kept k (compound u p e) known =
        also (is_kind k (lvalue_kind p)) (also (is_update u (lvalue_kind p) (kind_of e))
        (both (also (is_lvalue p) (lvalue_kept p (first _ known))) (valid_kept e (first _ (rest _ known)))))
    node_kept k (change_plain u x e) known =
        also (is_update u k (kind_of e))
        (both (valid_kept e (record { by = λ named. known.by refl })) (plain_kept x.variable k (known.by refl)))
    node_kept k (step u fixity p) known =
        also (is_kind k (lvalue_kind p)) (also (is_step u (lvalue_kind p))
        (also (is_lvalue p) (lvalue_kept p (first _ known))))
    node_kept k (step_plain u fixity x) known = also (is_step u k) (plain_kept x.variable k (known.by refl))
    node_kept k (call f es) known =
        also (is_call (get_or a.functions f no_signature) (kinds_of es) k) (also (has_number a.functions f)
        (each_kept es known))
    node_kept k (call_through type e es) known =
        also (is_call (get_or a.types type no_signature) (kinds_of es) k) (also (has_number a.types type)
        (both (also (is_kind (kind_of e) pointer) (valid_kept e (first _ known))) (each_kept es (rest _ known))))
    node_kept k (library routine es) known =
        also (is_call (routine_signature routine) (kinds_of es) k) (each_kept es known)
    node_kept k (printf format es) known =
        also (is_kind k (integer Int)) (also (are_printed (pieces format) (kinds_of es)) (each_kept es known))

    pub each_kept : (es : Expressions) → Known a.variables vs (any_of (walk_each names_made es)) → are_valid a es ≡ true
        → are_valid (with a all vs result) es ≡ true
    each_kept no_expressions known = λ e. e
    each_kept (expressions e es) known = both (valid_kept e (first _ known)) (each_kept es (rest _ known))

    pub lvalue_kept : (p : Lvalue) → Known a.variables vs (walk_lvalue names_made p) → is_valid_lvalue a p ≡ true
        → is_valid_lvalue (with a all vs result) p ≡ true
    lvalue_kept (lvalue k line n) known = lvalue_node_kept k n known

    lvalue_node_kept : (k : Kind) (n : LvalueNode)
        → Known a.variables vs (names_itself (visited_lvalue k n) || any_of (walk_lvalue_operands names_made n))
        → is_valid_lvalue_node a n k ≡ true → is_valid_lvalue_node (with a all vs result) n k ≡ true
    lvalue_node_kept k (automatic x) known = automatic_kept x k (known.by refl)
    lvalue_node_kept k (static n) known = λ e. e
    lvalue_node_kept k (deref e) known =
        also (has_size k) (also (is_kind (kind_of e) pointer) (valid_kept e (first _ known)))
    lvalue_node_kept k (index form size l r) known =
        also (is_size size) (also (size_of_kind k == size) (also (not (is_minus form))
        (also (is_index form l r) (also (are_offset form (kind_of l) (kind_of r))
        (two (valid_kept l) (valid_kept r) known)))))
    lvalue_node_kept k (member p at size) known =
        also (is_member k at size) (also (has_member (lvalue_kind p) at size) (lvalue_kept p (first _ known)))
    lvalue_node_kept k (arrow e at size) known =
        also (is_member k at size) (also (is_kind (kind_of e) pointer) (valid_kept e (first _ known)))
    lvalue_node_kept k (member_of_value e at size) known =
        also (is_member k at size) (also (has_member (kind_of e) at size) (valid_kept e (first _ known)))
    lvalue_node_kept k (parenthesized_lvalue p) known =
        also (is_kind k (lvalue_kind p)) (lvalue_kept p (first _ known))

  -- contents and parts of initializers

  pub content_kept : (c : Content) → Known a.variables vs (content_names_variable c) → is_content a c ≡ true
      → is_content (with a all vs result) c ≡ true
  content_kept (value_content e) known = also (is_value (kind_of e)) (valid_kept e known)
  content_kept (literal_content bytes) known = λ e. e

  pub part_kept : (size : ℕ) (p : Part) → Known a.variables vs (content_names_variable p.content)
      → is_part a size p ≡ true → is_part (with a all vs result) size p ≡ true
  part_kept size p known = also (nat_le (p.offset + content_size p.content) size) (content_kept p.content known)

  pub parts_kept : (size : ℕ) (ps : List Part) → Known a.variables vs (name_variables ps)
      → are_parts a size ps ≡ true → are_parts (with a all vs result) size ps ≡ true
  parts_kept size [] known = λ e. e
  parts_kept size (p ∷ ps) known = both (part_kept size p (first _ known)) (parts_kept size ps (rest _ known))
