-- What the structures that a text makes weigh: no more than its room counts for them.
use Rattle.std.proofs.Common.{◌≡◌, ℕ, ◌+◌, ◌-◌, ◌≤◌, Bool, true, false, List, [], ◌∷◌, ◌++◌, map, Option}
use Rattle.std.proofs.Common.{Some, None, not, refl, sym, ap, ◌∙◌, arith}
use Rattle.std.specs.Prelude.{get_or}
use Rattle.std.specs.List.{list_all}
use Rattle.std.proofs.lemmas.Bool.{and_parts}
use Rattle.c_tree.specs.declared.expression.Kind.{Kind}
use Rattle.c_tree.specs.declared.expression.Kind.TheVariants.{Void, Scalar as OfScalar, Structure, Array}
use Rattle.c_tree.specs.declared.expression.Routine.{Routine}
use Rattle.c_tree.specs.declared.expression.Routine.TheVariants as routine
use Rattle.c_tree.specs.declared.format.Directive.{Directive}
use Rattle.c_tree.specs.declared.format.Directive.TheVariants as directive
use Rattle.c_tree.specs.declared.format.Piece.{Piece}
use Rattle.c_tree.specs.declared.program.Variable.{Variable}
use Rattle.c_tree.specs.declared.statement.CaseLabel.{CaseLabel}
use Rattle.c_tree.specs.declared.statement.CaseLabel.TheVariants.{Case, Default}
use Rattle.c_tree.specs.Blocks.{block_objects, block_variables, switch_variables, first_variables, if_any}
use Rattle.c_tree.specs.Blocks.{initializer_contents, declared_contents, first_contents, contents_of, each_contents}
use Rattle.c_tree.specs.Blocks.{items_contents}
use Rattle.c_tree.specs.Format.{pieces, directives}
use Rattle.c_tree.specs.Kinds.{Signature, pointer, is_scalar, is_promoted, routine_signature, fits_directive}
use Rattle.c_tree.specs.Kinds.{fit_directives, is_kind, are_kinds, is_value}
use Rattle.c_tree.specs.Room.{structure_bytes, bytes_of_call, content_bytes}
use Rattle.c_tree.specs.Statements.{Content, value_content, literal_content, Part, Initializer, of_plain, of_object}
use Rattle.c_tree.specs.Statements.{DeclaredVariable, First, nothing, first_expression, first_declaration, Statement}
use Rattle.c_tree.specs.Statements.{expression_statement, empty, declaration, block, if_then, if_else, while_do}
use Rattle.c_tree.specs.Statements.{do_while, for, switch, break, continue, return, Statements, no_statements}
use Rattle.c_tree.specs.Statements.{statements, SwitchItems, no_items, items}
use Rattle.c_tree.specs.Tree.{Expression, expression, Expressions, no_expressions, expressions, Lvalue, lvalue, Node}
use Rattle.c_tree.specs.Tree.{constant, function, plain, read, decay, address, parenthesized, deref_function}
use Rattle.c_tree.specs.Tree.{address_function, cast, convert, unary, binary, offset_by, difference, logical_and}
use Rattle.c_tree.specs.Tree.{logical_or, comma, conditional, assign, assign_plain, compound, change_plain, step}
use Rattle.c_tree.specs.Tree.{step_plain, call, call_through, library, printf, LvalueNode, automatic, static, deref}
use Rattle.c_tree.specs.Tree.{index, member, arrow, member_of_value, parenthesized_lvalue, kind_of, kinds_of}
use Rattle.c_tree.specs.Tree.{lvalue_kind}
use Rattle.c_tree.specs.Valid.{Scope, within, no_signature, is_valid, is_node, are_valid, is_valid_lvalue, are_printed}
use Rattle.c_tree.specs.Valid.{is_valid_lvalue_node, is_condition, is_call, is_lvalue, is_update, has_number}
use Rattle.c_tree.specs.ValidProgram.{Inside, in_loop, in_switch, is_content, are_parts, is_initializer}
use Rattle.c_tree.specs.ValidProgram.{are_declared, is_first, is_condition_if, is_expression_if, is_return}
use Rattle.c_tree.specs.ValidProgram.{is_statement, are_statements, are_items, is_declaration, is_label, labels_of}
use Rattle.c_tree.specs.ValidProgram.{are_different}
use Rattle.c_tree.specs.Walk.{Visited, walk, walk_lvalue, walk_each, sum_of}
use Rattle.source_meaning.specs.Blocks.{has_objects}
use Rattle.source_meaning.proofs.ValidNames.{same_kind, same_kinds, three, four, five, six}
use Rattle.c_lower.specs.Conversions.{keeps}
use Rattle.program_lowering.proofs.ExpressionCode.Conversions.{no_conversion}
use Rattle.program_lowering.specs.ExpressionCode.Weights.{Weights, SparesFirst, weight_made, taking_weight}
use Rattle.program_lowering.specs.ExpressionCode.Weights.{takings_weight, returning_weight}
use Rattle.program_lowering.specs.StatementParts.Weights.{content_weight, parts_weight, initializer_weight}
use Rattle.program_lowering.specs.StatementParts.Weights.{declared_weight, first_weight, condition_weight, part_weight}
use Rattle.program_lowering.specs.StatementParts.Weights.{weight_where, block_weight}
use Rattle.program_lowering.specs.StatementCode.Weights.{labels_weight, statement_weight, each_weight, items_weight}

-- What an instruction puts into a temporary as a structure, where functions and types have these results. Of contents
-- that are taken into the first only what goes beyond so many bytes counts.
abbrev pub structures : (given of_type : ℕ → Kind) → (spared : ℕ) → Weights
structures given of_type spared = record {
  skip = 0;
  constant = 0;
  function_pointer = 0;
  get_plain = 0;
  set_plain = λ x. 0;
  update_plain = λ x k. 0;
  home_pointer = 0;
  static_pointer = 0;
  zero_of = λ kind. structure_bytes kind;
  convert = λ kind. 0;
  unary = 0;
  binary = 0;
  offset = 0;
  difference = 0;
  narrow = 0;
  member = 0;
  take = λ kind. structure_bytes kind;
  take_first = λ kind. structure_bytes kind - spared;
  read = λ kind mode. 0;
  write = λ kind mode. 0;
  update = λ k mode. 0;
  check = 0;
  zero = 0;
  store_part = λ kind. 0;
  store_text = λ bytes. 0;
  branch = 0;
  case = 0;
  turn = 0;
  library = λ r. 0;
  print = λ format. 0;
  call = λ f n. structure_bytes (given f);
  call_through = λ type n. structure_bytes (of_type type);
  enter_block = 0;
  leave_block = 0;
  return = 0;
}

pub spares : (given of_type : ℕ → Kind) (spared : ℕ) → SparesFirst (structures given of_type spared)
spares given of_type spared = record { by = λ kind. omega arith }

-- what calls give in a scope
pub record Gives (scope : Scope) (given of_type : ℕ → Kind) (spared : ℕ) : Type 0 where
  pub functions : (f : ℕ) → (get_or scope.functions f no_signature).result ≡ given f
  pub types : (n : ℕ) → (get_or scope.types n no_signature).result ≡ of_type n
  pub result : structure_bytes scope.result ≤ spared

-- arguments of the library and of printf are no structures

none_of_routine : (r : Routine) → sum_of (map structure_bytes (routine_signature r).parameters) ≡ 0
none_of_routine routine.Malloc = refl
none_of_routine routine.Calloc = refl
none_of_routine routine.Free = refl
none_of_routine routine.Realloc = refl
none_of_routine routine.Memcpy = refl
none_of_routine routine.Memmove = refl
none_of_routine routine.Memset = refl
none_of_routine routine.Memcmp = refl
none_of_routine routine.Strlen = refl
none_of_routine routine.Strcmp = refl
none_of_routine routine.Strcpy = refl
none_of_routine routine.Strncpy = refl
none_of_routine routine.Strcat = refl
none_of_routine routine.Strchr = refl
none_of_routine routine.Putchar = refl
none_of_routine routine.Getchar = refl
none_of_routine routine.Puts = refl
none_of_routine routine.Exit = refl
none_of_routine routine.Abort = refl

none_printed : (d : Directive) (k : Kind) → fits_directive d k ≡ true → structure_bytes k ≡ 0
none_printed d Void h = refl
none_printed d (OfScalar s) h = refl
none_printed d (Array n) h = refl
none_printed directive.Int (Structure n) h = cc
none_printed directive.UnsignedInt (Structure n) h = cc
none_printed directive.Hexadecimal (Structure n) h = cc
none_printed directive.Character (Structure n) h = cc
none_printed directive.Long (Structure n) h = cc
none_printed directive.UnsignedLong (Structure n) h = cc
none_printed directive.String (Structure n) h = cc

none_of_directives : (ds : List Directive) (ks : List Kind) → fit_directives ds ks ≡ true
    → sum_of (map structure_bytes ks) ≡ 0
none_of_directives [] [] h = refl
none_of_directives [] (k ∷ ks) h = cc
none_of_directives (d ∷ ds) [] h = cc
none_of_directives (d ∷ ds) (k ∷ ks) h =
    let q = and_parts (fits_directive d k) (fit_directives ds ks) h in
    omega (arith, none_printed d k q.0, none_of_directives ds ks q.1)

none_of_format : (o : Option (List Piece)) (ks : List Kind) → are_printed o ks ≡ true
    → sum_of (map structure_bytes ks) ≡ 0
none_of_format None ks h = cc
none_of_format (Some ps) ks h = none_of_directives (directives ps) ks h

module _ (given of_type : ℕ → Kind) (spared : ℕ) where
  abbrev own : Weights
  own = structures given of_type spared

  taken : (kind : Kind) → taking_weight kind own ≡ structure_bytes kind
  taken Void = refl
  taken (OfScalar k) = refl
  taken (Structure size) = refl
  taken (Array size) = refl

  returned : (kind : Kind) → structure_bytes kind ≤ spared → returning_weight kind own ≡ 0
  returned Void h = refl
  returned (OfScalar k) h = refl
  returned (Structure size) h = omega (arith, h)
  returned (Array size) h = refl

  all_taken : (es : Expressions) → takings_weight es own ≡ sum_of (map structure_bytes (kinds_of es))
  all_taken no_expressions = refl
  all_taken (expressions e es) = omega (arith, taken (kind_of e), all_taken es)

  abbrev counts : Visited → List ℕ → ℕ
  counts v ns = bytes_of_call v + sum_of ns

  -- a call, by what its arguments and its result are
  called : (s : Signature) (kind result : Kind) (es : Expressions) → is_call s (kinds_of es) kind ≡ true
      → s.result ≡ result → structure_bytes result ≡ structure_bytes kind
  called s kind result es h e =
      let q = and_parts (are_kinds (kinds_of es) s.parameters) (is_kind kind s.result) h in
      sym (ap structure_bytes (same_kind kind s.result q.1 ∙ e))

  mutual
    light : {scope : Scope} → Gives scope given of_type spared → (e : Expression) → is_valid scope e ≡ true
        → walk (weight_made own) e ≤ walk counts e
    light g (expression kind line node) v = node_light g kind node v

    lvalue_light : {scope : Scope} → Gives scope given of_type spared → (p : Lvalue) → is_valid_lvalue scope p ≡ true
        → walk_lvalue (weight_made own) p ≤ walk_lvalue counts p
    lvalue_light g (lvalue kind line node) v = place_light g kind node v

    node_light : {scope : Scope} → Gives scope given of_type spared → (kind : Kind) (node : Node)
        → is_node scope node kind ≡ true
        → walk (weight_made own) (expression kind 0 node) ≤ walk counts (expression kind 0 node)
    node_light g kind (constant n) v = omega arith
    node_light g kind (function f) v = omega arith
    node_light g kind (plain x) v = omega arith
    node_light g kind (read p) v = omega (arith, lvalue_light g p (three _ _ _ v).0)
    node_light g kind (decay p) v = omega (arith, lvalue_light g p (four _ _ _ _ v).0)
    node_light g kind (address p) v = omega (arith, lvalue_light g p (three _ _ _ v).0)
    node_light g kind (parenthesized a) v = omega (arith, light g a (and_parts _ _ v).0)
    node_light g kind (deref_function a) v = omega (arith, light g a (three _ _ _ v).0)
    node_light g kind (address_function a) v = omega (arith, light g a (three _ _ _ v).0)
    node_light g kind (cast a) v =
        omega (arith, light g a (and_parts _ _ v).0, no_conversion (keeps (kind_of a) kind) kind own refl)
    node_light g kind (convert a) v =
        omega (arith, light g a (three _ _ _ v).0, no_conversion (keeps (kind_of a) kind) kind own refl)
    node_light g kind (unary op a) v = omega (arith, light g a (and_parts _ _ v).0)
    node_light g kind (binary op a b) v =
        omega (arith, light g a (three _ _ _ v).0, light g b (three _ _ _ v).1)
    node_light g kind (offset_by form size a b) v =
        omega (arith, light g a (six _ _ _ _ _ _ v).0, light g b (six _ _ _ _ _ _ v).1)
    node_light g kind (difference size a b) v =
        omega (arith, light g a (six _ _ _ _ _ _ v).0, light g b (six _ _ _ _ _ _ v).1)
    node_light g kind (logical_and a b) v =
        omega (arith, light g a (five _ _ _ _ _ v).0, light g b (five _ _ _ _ _ v).1)
    node_light g kind (logical_or a b) v =
        omega (arith, light g a (five _ _ _ _ _ v).0, light g b (five _ _ _ _ _ v).1)
    node_light g kind (comma a b) v =
        omega (arith, light g a (three _ _ _ v).0, light g b (three _ _ _ v).1)
    node_light {scope = scope} g kind (conditional c a b) v =
        let q = six (is_valid scope c) (is_scalar (kind_of c)) (is_valid scope a) (is_valid scope b)
        (is_kind kind (kind_of a)) (is_kind kind (kind_of b)) v in
        omega (arith, light g c q.0, light g a q.2, light g b q.3)
    node_light {scope = scope} g kind (assign p a) v =
        let q = six (is_valid_lvalue scope p) (is_lvalue p) (is_valid scope a) (is_kind (lvalue_kind p) (kind_of a))
        (is_kind kind (lvalue_kind p)) (is_value kind) v in
        omega (arith, lvalue_light g p q.0, light g a q.2)
    node_light g kind (assign_plain x a) v = omega (arith, light g a (three _ _ _ v).0)
    node_light {scope = scope} g kind (compound u p a) v =
        let q = five (is_valid_lvalue scope p) (is_lvalue p) (is_valid scope a)
        (is_update u (lvalue_kind p) (kind_of a)) (is_kind kind (lvalue_kind p)) v in
        omega (arith, lvalue_light g p q.0, light g a q.2)
    node_light g kind (change_plain u x a) v = omega (arith, light g a (three _ _ _ v).0)
    node_light g kind (step u fixity p) v = omega (arith, lvalue_light g p (four _ _ _ _ v).0)
    node_light g kind (step_plain u fixity x) v = omega arith
    node_light {scope = scope} g kind (call f es) v =
        let s = get_or scope.functions f no_signature in
        let q = three (are_valid scope es) (has_number scope.functions f) (is_call s (kinds_of es) kind) v in
        omega (arith, all_light g es q.0, all_taken es, called s kind (given f) es q.2 (g.functions f))
    node_light {scope = scope} g kind (call_through type a es) v =
        let s = get_or scope.types type no_signature in
        let q = five (is_valid scope a) (is_kind (kind_of a) pointer) (are_valid scope es)
        (has_number scope.types type) (is_call s (kinds_of es) kind) v in
        omega (
          arith,
          light g a q.0,
          all_light g es q.2,
          all_taken es,
          called s kind (of_type type) es q.4 (g.types type),
        )
    node_light {scope = scope} g kind (library r es) v =
        let s = routine_signature r in
        let q = and_parts (are_valid scope es) (is_call s (kinds_of es) kind) v in
        let arguments = and_parts (are_kinds (kinds_of es) s.parameters) (is_kind kind s.result) q.1 in
        let none = ap (λ ks. sum_of (map structure_bytes ks)) (same_kinds (kinds_of es) s.parameters arguments.0) in
        omega (arith, all_light g es q.0, all_taken es, none, none_of_routine r)
    node_light g kind (printf format es) v =
        omega (
          arith,
          all_light g es (three _ _ _ v).0,
          all_taken es,
          none_of_format (pieces format) (kinds_of es) (three _ _ _ v).1,
        )

    place_light : {scope : Scope} → Gives scope given of_type spared → (kind : Kind) (node : LvalueNode)
        → is_valid_lvalue_node scope node kind ≡ true
        → walk_lvalue (weight_made own) (lvalue kind 0 node) ≤ walk_lvalue counts (lvalue kind 0 node)
    place_light g kind (automatic x) v = omega arith
    place_light g kind (static n) v = omega arith
    place_light g kind (deref a) v = omega (arith, light g a (three _ _ _ v).0)
    place_light {scope = scope} g kind (index form size a b) v =
        let parts = six (is_valid scope a) (is_valid scope b) _ _ _ _ (and_parts _ _ v).0 in
        omega (arith, light g a parts.0, light g b parts.1)
    place_light g kind (member p offset size) v = omega (arith, lvalue_light g p (three _ _ _ v).0)
    place_light g kind (arrow a offset size) v = omega (arith, light g a (three _ _ _ v).0)
    place_light g kind (member_of_value a offset size) v = omega (arith, light g a (three _ _ _ v).0)
    place_light g kind (parenthesized_lvalue p) v = omega (arith, lvalue_light g p (and_parts _ _ v).0)

    all_light : {scope : Scope} → Gives scope given of_type spared → (es : Expressions) → are_valid scope es ≡ true
        → sum_of (walk_each (weight_made own) es) ≤ sum_of (walk_each counts es)
    all_light g no_expressions v = omega arith
    all_light g (expressions e es) v =
        omega (arith, light g e (and_parts _ _ v).0, all_light g es (and_parts _ _ v).1)

  -- what is evaluated

  abbrev bytes : List Content → ℕ
  bytes contents = sum_of (map content_bytes contents)

  together : (xs ys : List Content) → bytes (xs ++ ys) ≡ bytes xs + bytes ys
  together [] ys = omega arith
  together (x ∷ xs) ys = omega (arith, together xs ys)

  content_light : {scope : Scope} → Gives scope given of_type spared → (c : Content) → is_content scope c ≡ true
      → content_weight c own ≤ content_bytes c
  content_light g (value_content e) v = omega (arith, light g e (and_parts _ _ v).0)
  content_light g (literal_content text) v = omega arith

  parts_light : {scope : Scope} → Gives scope given of_type spared → (size : ℕ) (qs : List Part)
      → are_parts scope size qs ≡ true → parts_weight qs own ≤ bytes (map (λ (q : Part). q.content) qs)
  parts_light g size [] v = omega arith
  parts_light g size (q ∷ qs) v =
      omega (
        arith,
        content_light g q.content (and_parts _ _ (and_parts _ _ v).0).0,
        parts_light g size qs (and_parts _ _ v).1,
      )

  initializer_light : {scope : Scope} → Gives scope given of_type spared → (x : ℕ) (o : Option Initializer)
      → is_initializer scope x o ≡ true → initializer_weight x o own ≤ bytes (initializer_contents o)
  initializer_light g x None v = omega arith
  initializer_light g x (Some (of_plain e)) v = omega (arith, light g e (and_parts _ _ v).0)
  initializer_light g x (Some (of_object parts)) v = omega (arith, parts_light g _ parts (and_parts _ _ v).1)

  declared_light : {scope : Scope} → Gives scope given of_type spared → (ds : List DeclaredVariable)
      → are_declared scope ds ≡ true → declared_weight ds own ≤ bytes (declared_contents ds)
  declared_light g [] v = omega arith
  declared_light g (d ∷ ds) v =
      omega (
        arith,
        initializer_light g d.variable d.initializer (and_parts _ _ v).0,
        declared_light g ds (and_parts _ _ v).1,
        together (initializer_contents d.initializer) (declared_contents ds),
      )

  first_light : {scope : Scope} → Gives scope given of_type spared → (first : First) → is_first scope first ≡ true
      → first_weight first own ≤ bytes (first_contents first)
  first_light g nothing v = omega arith
  first_light g (first_expression e) v = omega (arith, light g e v)
  first_light g (first_declaration ds) v = declared_light g ds v

  condition_light : {scope : Scope} → Gives scope given of_type spared → (o : Option Expression)
      → is_condition_if scope o ≡ true → condition_weight o own ≤ bytes (if_any o)
  condition_light g None v = omega arith
  condition_light g (Some e) v = omega (arith, light g e (and_parts _ _ v).0)

  part_light : {scope : Scope} → Gives scope given of_type spared → (o : Option Expression)
      → is_expression_if scope o ≡ true → part_weight o own ≤ bytes (if_any o)
  part_light g None v = omega arith
  part_light g (Some e) v = omega (arith, light g e v)

  nothing_where : (b : Bool) → weight_where b 0 ≡ 0
  nothing_where true = refl
  nothing_where false = refl

  none_of_block : (vs : List Variable) (numbers : List ℕ) → block_weight vs numbers own ≡ 0
  none_of_block vs numbers = let none = nothing_where (has_objects (block_objects vs numbers)) in omega (arith, none)

  none_of_labels : (ls : List CaseLabel) → labels_weight ls own ≡ 0
  none_of_labels [] = refl
  none_of_labels (Case n ∷ ls) = omega (arith, none_of_labels ls)
  none_of_labels (Default ∷ ls) = omega (arith, none_of_labels ls)

  -- names of objects that are entered give nothing else
  inner : {scope : Scope} (numbers : List ℕ) → Gives scope given of_type spared
      → Gives (within scope numbers) given of_type spared
  inner numbers g = record { functions = g.functions; types = g.types; result = g.result }

  return_light : {scope : Scope} → Gives scope given of_type spared → (vs : List Variable) (o : Option Expression)
      → is_return scope o ≡ true → statement_weight vs (return o) own ≤ bytes (if_any o)
  return_light g vs None v = omega arith
  return_light {scope = scope} g vs (Some e) v =
      let q = three (is_valid scope e) (is_kind (kind_of e) scope.result) (is_value (kind_of e)) v in
      let same = ap structure_bytes (same_kind (kind_of e) scope.result q.1) in
      let small = g.result in
      let none = returned (kind_of e) (omega (arith, same, small)) in
      omega (arith, light g e q.0, none)

  mutual
    statement_light : {scope : Scope} → Gives scope given of_type spared → (inside : Inside) (vs : List Variable)
        (s : Statement) → is_statement scope inside s ≡ true → statement_weight vs s own ≤ bytes (contents_of s)
    statement_light g inside vs (expression_statement e) v = omega (arith, light g e v)
    statement_light g inside vs empty v = omega arith
    statement_light g inside vs (declaration ds) v = declared_light g ds v
    statement_light g inside vs (block line body) v =
        let numbers = block_variables body in
        omega (arith, none_of_block vs numbers, statements_light (inner numbers g) inside vs body v)
    statement_light {scope = scope} g inside vs (if_then e s) v =
        let q = three (is_condition scope e) (is_statement scope inside s) (not (is_declaration s)) v in
        omega (arith, condition_light g (Some e) q.0, statement_light g inside vs s q.1)
    statement_light {scope = scope} g inside vs (if_else e s other) v =
        let q = five (is_condition scope e) (is_statement scope inside s) (not (is_declaration s))
        (is_statement scope inside other) (not (is_declaration other)) v in
        omega (
          arith,
          condition_light g (Some e) q.0,
          statement_light g inside vs s q.1,
          statement_light g inside vs other q.3,
          together (contents_of s) (contents_of other),
        )
    statement_light {scope = scope} g inside vs (while_do e s) v =
        let q = three (is_condition scope e) (is_statement scope in_loop s) (not (is_declaration s)) v in
        omega (arith, condition_light g (Some e) q.0, statement_light g in_loop vs s q.1)
    statement_light {scope = scope} g inside vs (do_while s e) v =
        let q = three (is_statement scope in_loop s) (not (is_declaration s)) (is_condition scope e) v in
        omega (
          arith,
          condition_light g (Some e) q.2,
          statement_light g in_loop vs s q.0,
          together (contents_of s) (value_content e ∷ []),
        )
    statement_light {scope = scope} g inside vs (for line first test next s) v =
        let numbers = first_variables first in
        let all = within scope numbers in
        let q = five (is_first all first) (is_condition_if all test) (is_expression_if all next)
        (is_statement all in_loop s) (not (is_declaration s)) v in
        let k = inner numbers g in
        omega (
          arith,
          none_of_block vs numbers,
          first_light k first q.0,
          condition_light k test q.1,
          part_light k next q.2,
          statement_light k in_loop vs s q.3,
          together (first_contents first) (if_any test ++ (if_any next ++ contents_of s)),
          together (if_any test) (if_any next ++ contents_of s),
          together (if_any next) (contents_of s),
        )
    statement_light {scope = scope} g inside vs (switch e line is) v =
        let numbers = switch_variables is in
        let q = five (is_valid scope e) (is_promoted (kind_of e)) (list_all (is_label (kind_of e)) (labels_of is))
        (are_different (labels_of is)) (are_items (within scope numbers) (in_switch inside) is) v in
        omega (
          arith,
          light g e q.0,
          none_of_block vs numbers,
          items_light (inner numbers g) (in_switch inside) vs is q.4,
        )
    statement_light g inside vs break v = omega arith
    statement_light g inside vs continue v = omega arith
    statement_light g inside vs (return o) v = return_light g vs o v

    pub statements_light : {scope : Scope} → Gives scope given of_type spared → (inside : Inside) (vs : List Variable)
        (ss : Statements) → are_statements scope inside ss ≡ true → each_weight vs ss own ≤ bytes (each_contents ss)
    statements_light g inside vs no_statements v = omega arith
    statements_light g inside vs (statements s ss) v =
        omega (
          arith,
          statement_light g inside vs s (and_parts _ _ v).0,
          statements_light g inside vs ss (and_parts _ _ v).1,
          together (contents_of s) (each_contents ss),
        )

    items_light : {scope : Scope} → Gives scope given of_type spared → (inside : Inside) (vs : List Variable)
        (is : SwitchItems) → are_items scope inside is ≡ true → items_weight vs is own ≤ bytes (items_contents is)
    items_light g inside vs no_items v = omega arith
    items_light g inside vs (items labels s is) v =
        omega (
          arith,
          none_of_labels labels,
          statement_light g inside vs s (and_parts _ _ v).0,
          items_light g inside vs is (and_parts _ _ v).1,
          together (contents_of s) (items_contents is),
        )
