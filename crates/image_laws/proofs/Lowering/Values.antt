-- The code of an expression of integers is safe where what is behind it is.
use Rattle.std.proofs.Common.{◌≡◌, ◌⊎◌, ℕ, zero, suc, ◌+◌, ◌<◌, ◌^◌, Bool, true, false, ◌&&◌}
use Rattle.std.proofs.Common.{◌==◌, List, [], ◌∷◌, length, Some, refl, sym, ap, ◌∙◌, subst, arith, nat_lt, get_or}
use Rattle.std.specs.Prelude.{slice_get}
use Rattle.std.proofs.lemmas.Bool.{and_from, eqb-true, lt-ltb, ltb-true}
use Rattle.obj_memory.specs.declared.operator.BinaryOperator.{BinaryOperator}
use Rattle.obj_memory.specs.declared.operator.BinaryOperator.TheVariants as op
use Rattle.obj_memory.specs.declared.value.Scalar.TheVariants.{Integer, Pointer}
use Rattle.obj_memory.specs.Integers.{fit}
use Rattle.obj_memory.proofs.Words.{fit_below}
use Rattle.c_tree.specs.declared.expression.Kind.{Kind}
use Rattle.c_tree.specs.declared.expression.Kind.TheVariants.{Void, Scalar as OfScalar, Structure, Array}
use Rattle.c_tree.specs.declared.expression.Update.{Update}
use Rattle.c_tree.specs.declared.expression.Update.TheVariants.{Arithmetic, Forward, Back}
use Rattle.c_tree.specs.declared.expression.Routine.{Routine}
use Rattle.c_tree.specs.declared.expression.Routine.TheVariants.{Putchar, Getchar, Exit, Abort, Malloc, Calloc, Free}
use Rattle.c_tree.specs.declared.expression.Routine.TheVariants.{Realloc, Memcpy, Memmove, Memset, Memcmp, Strlen}
use Rattle.c_tree.specs.declared.expression.Routine.TheVariants.{Strcmp, Strcpy, Strncpy, Strcat, Strchr, Puts}
use Rattle.c_tree.specs.declared.program.Variable.{Variable}
use Rattle.c_tree.specs.Tree.{Expression, expression, Expressions, no_expressions, expressions, Node, constant, plain}
use Rattle.c_tree.specs.Tree.{function, read, decay, address, deref_function, address_function, offset_by, difference}
use Rattle.c_tree.specs.Tree.{assign, compound, step, call_through, printf}
use Rattle.c_tree.specs.Tree.{parenthesized, cast, convert, unary, binary, logical_and, logical_or, comma, conditional}
use Rattle.c_tree.specs.Tree.{assign_plain, change_plain, step_plain, call, library, kind_of, line_of, kinds_of}
use Rattle.obj_memory.specs.declared.int_type.IntType.{IntType}
use Rattle.c_tree.specs.Kinds.{integer, is_integer, is_promoted_type, class_of}
use Rattle.c_tree.specs.Kinds.{is_kind, is_scalar, is_step_operator, routine_signature}
use Rattle.c_tree.specs.Blocks.{no_variable}
use Rattle.c_tree.specs.Valid.{Scope, is_constant, is_plain, is_update, is_step, is_call}
use Rattle.c_tree.specs.Valid.{is_right_of, is_valid, is_node, are_valid, has_number, no_signature}
use Rattle.source_meaning.specs.Actions.{scalar_of}
use Rattle.source_meaning.proofs.ValidNames.{both, three, five, six, never, same_kinds}
use Rattle.tac_ir.specs.declared.instruction.RightOperand.TheVariants.{Temporary, One}
use Rattle.tac_ir.specs.declared.instruction.Instruction.{Instruction}
use Rattle.tac_ir.specs.declared.function.Tac.{Tac}
use Rattle.tac_ir.specs.Edges.{LeadsTo}
use Rattle.tac_ir.specs.Meaning.{function_in}
use Rattle.c_lower.specs.Placed.{Placed}
use Rattle.c_lower.specs.Conversions.{keeps}
use Rattle.c_lower.specs.Values.{Converts, LowersExpression, LowersNode, LowersArguments, LowersTaking, LowersArgument, count}
use Rattle.compiled_programs.specs.Programs as p
use Rattle.compiled_programs.specs.Programs.{is_integer_expression, is_integer_node, are_integer_expressions}
use Rattle.metadata_plan.specs.Part.{SafeWithin, is_integer_instruction, is_integer_update, is_word, is_by_one}
use Rattle.metadata_plan.specs.Part.{has_no_pointer, is_integer_routine, takes}
use Rattle.image_laws.proofs.Lowering.Safe.{along, either}

-- what names stand for in a function of integers with so many variables: variables below their number, and functions
-- that take as many arguments as their signature says
pub record IsScope (t : Tac) (variables : ℕ) (scope : Scope) : Type 0 where
  pub named : length scope.variables ≡ variables
  pub all : length scope.all ≡ variables
  pub functions : (f : ℕ) → nat_lt f (length scope.functions) ≡ true
      → takes (function_in t f) (length (get_or scope.functions f no_signature).parameters) ≡ true

-- ---- what validity says of integers

pub word_below : (w : ℕ) (k : Kind) → is_constant w k ≡ true → is_word w ≡ true
word_below w Void e = never e
word_below w (OfScalar (Integer t)) e =
    let same = eqb-true (fit t w) w e in
    lt-ltb w (2 ^ 64) (subst (λ n. n < 2 ^ 64) same (fit_below t w))
word_below w (OfScalar Pointer) e = never e
word_below w (Structure n) e = never e
word_below w (Array n) e = never e

none_beyond : (x : ℕ) (k : Kind) → is_kind Void k ≡ true → is_scalar k ≡ true → nat_lt x 0 ≡ true
none_beyond x Void e s = never s
none_beyond x (OfScalar (Integer t)) e s = never e
none_beyond x (OfScalar Pointer) e s = never e
none_beyond x (Structure n) e s = never e
none_beyond x (Array n) e s = never e

in_range : (vs : List Variable) (x : ℕ) (k : Kind) → is_kind (get_or vs x no_variable).kind k ≡ true
    → is_scalar k ≡ true → nat_lt x (length vs) ≡ true
in_range [] x k e s = none_beyond x k e s
in_range (v ∷ vs) zero k e s = lt-ltb 0 (suc (length vs)) (omega arith)
in_range (v ∷ vs) (suc x) k e s =
    let below = ltb-true x (length vs) (in_range vs x k e s) in lt-ltb (suc x) (suc (length vs)) (omega arith)

pub same_without_pointer : (k : Kind) → p.has_no_pointer k ≡ true → has_no_pointer k ≡ true
same_without_pointer Void e = refl
same_without_pointer (OfScalar (Integer t)) e = refl
same_without_pointer (OfScalar Pointer) e = never e
same_without_pointer (Structure n) e = never e
same_without_pointer (Array n) e = never e

by_one : (o : BinaryOperator) → is_step_operator o ≡ true → is_by_one o ≡ true
by_one op.Add e = refl
by_one op.Subtract e = refl
by_one op.Multiply e = never e
by_one op.Divide e = never e
by_one op.Remainder e = never e
by_one op.ShiftLeft e = never e
by_one op.ShiftRight e = never e
by_one op.BitAnd e = never e
by_one op.BitXor e = never e
by_one op.BitOr e = never e
by_one op.Less e = never e
by_one op.Greater e = never e
by_one op.LessOrEqual e = never e
by_one op.GreaterOrEqual e = never e
by_one op.Equal e = never e
by_one op.NotEqual e = never e

-- only an integer is updated so
updated : (o : BinaryOperator) (t : IntType) (k right : Kind) → is_update (Arithmetic o t) k right ≡ true
    → is_integer k ≡ true
updated o t k right v = (three (is_integer k) (is_promoted_type t) (is_right_of (class_of o) t right) v).0

by_temporary : (o : BinaryOperator) (t : IntType) (k : Kind) (b : ℕ) → is_integer k ≡ true
    → is_integer_update (Arithmetic o t) (scalar_of k) (Temporary b) ≡ true
by_temporary o t Void b e = never e
by_temporary o t (OfScalar (Integer i)) b e = refl
by_temporary o t (OfScalar Pointer) b e = never e
by_temporary o t (Structure n) b e = never e
by_temporary o t (Array n) b e = never e

by_the_one : (o : BinaryOperator) (t : IntType) (k : Kind) → is_step_operator o ≡ true → is_integer k ≡ true
    → is_integer_update (Arithmetic o t) (scalar_of k) One ≡ true
by_the_one o t Void f e = never e
by_the_one o t (OfScalar (Integer i)) f e = by_one o f
by_the_one o t (OfScalar Pointer) f e = never e
by_the_one o t (Structure n) f e = never e
by_the_one o t (Array n) f e = never e

updates : (u : Update) (k : Kind) (b : ℕ) (right : Kind) → is_update u k right ≡ true → p.is_integer_update u ≡ true
    → is_integer_update u (scalar_of k) (Temporary b) ≡ true
updates (Arithmetic o t) k b right v e = by_temporary o t k b (updated o t k right v)
updates (Forward size) k b right v e = never e
updates (Back size) k b right v e = never e

steps : (u : Update) (k : Kind) → is_step u k ≡ true → p.is_integer_update u ≡ true
    → is_integer_update u (scalar_of k) One ≡ true
steps (Arithmetic o t) k v e =
    let h = both (is_step_operator o) (is_update (Arithmetic o t) k (integer t)) v in
    by_the_one o t k h.0 (updated o t k (integer t) h.1)
steps (Forward size) k v e = never e
steps (Back size) k v e = never e

joined : {a b : Bool} → a ≡ true → b ≡ true → (a && b) ≡ true
joined {a = a} {b = b} x y = and_from a b x y

count_is : (es : Expressions) → length (kinds_of es) ≡ count es
count_is no_expressions = refl
count_is (expressions e es) = ap suc (count_is es)

routine_takes : (r : Routine) (n : ℕ) → n ≡ length (routine_signature r).parameters → p.is_integer_routine r ≡ true
    → is_integer_routine r n ≡ true
routine_takes Putchar n same e = ap (λ k. k == 1) same
routine_takes Getchar n same e = refl
routine_takes Exit n same e = ap (λ k. k == 1) same
routine_takes Abort n same e = refl
routine_takes Malloc n same e = never e
routine_takes Calloc n same e = never e
routine_takes Free n same e = never e
routine_takes Realloc n same e = never e
routine_takes Memcpy n same e = never e
routine_takes Memmove n same e = never e
routine_takes Memset n same e = never e
routine_takes Memcmp n same e = never e
routine_takes Strlen n same e = never e
routine_takes Strcmp n same e = never e
routine_takes Strcpy n same e = never e
routine_takes Strncpy n same e = never e
routine_takes Strcat n same e = never e
routine_takes Strchr n same e = never e
routine_takes Puts n same e = never e

module _ (t : Tac) (variables : ℕ) (c : Placed) (k : ℕ) where
  abbrev pub Ok : Instruction → Bool
  Ok = is_integer_instruction t variables

  abbrev pub Safe : (node : ℕ) → Type 0
  Safe = SafeWithin Ok c.code k

  -- an instruction with one successor
  pub goes : (i : Instruction) (n m : ℕ) → slice_get c.code n ≡ Some i → Ok i ≡ true
      → ((x : ℕ) → LeadsTo i x → (x ≡ m) ⊎ ⊥) → Safe m → Safe n
  goes i n m holds good one h = along Ok c.code i k n m holds good one h

  pub parts : (i : Instruction) (n a b : ℕ) → slice_get c.code n ≡ Some i → Ok i ≡ true
      → ((x : ℕ) → LeadsTo i x → (x ≡ a) ⊎ ((x ≡ b) ⊎ ⊥)) → Safe a → Safe b → Safe n
  parts i n a b holds good two h h' = either Ok c.code i k n a b holds good two h h'

  -- no structure is taken
  not_taken : (kind : Kind) (line d n m : ℕ) → p.has_no_pointer kind ≡ true → LowersTaking c kind line d n m → Safe m
      → Safe n
  not_taken Void line d n m e l h = subst Safe (sym l) h
  not_taken (OfScalar s) line d n m e l h = subst Safe (sym l) h
  not_taken (Structure size) line d n m e l h = never e
  not_taken (Array size) line d n m e l h = never e

  converted : (q : Bool) (kind : Kind) (d n m : ℕ) → has_no_pointer kind ≡ true → Converts c q kind d n m → Safe m
      → Safe n
  converted true kind d n m o e h = subst Safe (sym e) h
  converted false kind d n m o l h = goes _ n m l o (λ x q. q) h

  kind_is : (e : Expression) → is_integer_expression e ≡ true → p.has_no_pointer (kind_of e) ≡ true
  kind_is (expression kind line node) i = (both _ _ i).0

  module _ (scope : Scope) (s : IsScope t variables scope) where
    pub named : (x : ℕ) (kind : Kind) → is_plain scope x kind ≡ true → nat_lt x variables ≡ true
    named x kind v =
        let h = three _ _ _ v in subst (λ n. nat_lt x n ≡ true) s.named (in_range scope.variables x kind h.1 h.2)

    mutual
      pub of_expression : (e : Expression) (d n m : ℕ) → is_valid scope e ≡ true → is_integer_expression e ≡ true
          → LowersExpression c e d n m → Safe m → Safe n
      of_expression (expression kind line node) d n m v i l h =
          let q = both (p.has_no_pointer kind) (is_integer_node node) i in
          of_node node kind line d n m v (same_without_pointer kind q.0) q.1 l h

      of_node : (node : Node) (kind : Kind) (line d n m : ℕ) → is_node scope node kind ≡ true
          → has_no_pointer kind ≡ true → is_integer_node node ≡ true → LowersNode c node kind line d n m → Safe m
          → Safe n
      of_node (constant w) kind line d n m v o i l h = goes _ n m l (word_below w kind v) (λ x q. q) h
      of_node (function f) kind line d n m v o i l h = never i
      of_node (plain x) kind line d n m v o i l h = goes _ n m l (named x kind v) (λ x q. q) h
      of_node (read a) kind line d n m v o i l h = never i
      of_node (decay a) kind line d n m v o i l h = never i
      of_node (address a) kind line d n m v o i l h = never i
      of_node (parenthesized a) kind line d n m v o i l h =
          of_expression a d n m (both (is_valid scope a) _ v).0 i l h
      of_node (deref_function a) kind line d n m v o i l h = never i
      of_node (address_function a) kind line d n m v o i l h = never i
      of_node (cast a) kind line d n m v o i l h =
          of_expression a d n l.0 (both (is_valid scope a) _ v).0 i l.1
          (converted (keeps (kind_of a) kind) kind d l.0 m o l.2 h)
      of_node (convert a) kind line d n m v o i l h =
          of_expression a d n l.0 (three (is_valid scope a) _ _ v).0 i l.1
          (converted (keeps (kind_of a) kind) kind d l.0 m o l.2 h)
      of_node (unary o1 a) kind line d n m v o i l h =
          of_expression a d n l.0 (both (is_valid scope a) _ v).0 i l.1 (goes _ l.0 m l.2 refl (λ x q. q) h)
      of_node (binary o2 a b) kind line d n m v o i l h =
          let w = three (is_valid scope a) (is_valid scope b) _ v in
          let j = both (is_integer_expression a) (is_integer_expression b) i in
          of_expression a d n l.0 w.0 j.0 l.2
          (of_expression b (d + 1) l.0 l.1 w.1 j.1 l.3 (goes _ l.1 m l.4 refl (λ x q. q) h))
      of_node (offset_by form size a b) kind line d n m v o i l h = never i
      of_node (difference size a b) kind line d n m v o i l h = never i
      of_node (logical_and a b) kind line d n m v o i l h =
          let w = five (is_valid scope a) (is_valid scope b) _ _ _ v in
          let j = both (is_integer_expression a) (is_integer_expression b) i in
          let zero_way = goes _ l.3 m l.9 refl (λ x q. q) h in
          let one_way = goes _ l.4 m l.10 refl (λ x q. q) h in
          let second = of_expression b d l.2 l.1 w.1 j.1 l.7
          (parts _ l.1 l.4 l.3 l.8 refl (λ x q. q) one_way zero_way) in
          of_expression a d n l.0 w.0 j.0 l.5 (parts _ l.0 l.2 l.3 l.6 refl (λ x q. q) second zero_way)
      of_node (logical_or a b) kind line d n m v o i l h =
          let w = five (is_valid scope a) (is_valid scope b) _ _ _ v in
          let j = both (is_integer_expression a) (is_integer_expression b) i in
          let zero_way = goes _ l.3 m l.9 refl (λ x q. q) h in
          let one_way = goes _ l.4 m l.10 refl (λ x q. q) h in
          let second = of_expression b d l.2 l.1 w.1 j.1 l.7
          (parts _ l.1 l.4 l.3 l.8 refl (λ x q. q) one_way zero_way) in
          of_expression a d n l.0 w.0 j.0 l.5 (parts _ l.0 l.4 l.2 l.6 refl (λ x q. q) one_way second)
      of_node (comma a b) kind line d n m v o i l h =
          let w = three (is_valid scope a) (is_valid scope b) _ v in
          let j = both (is_integer_expression a) (is_integer_expression b) i in
          of_expression a d n l.0 w.0 j.0 l.1 (of_expression b d l.0 m w.1 j.1 l.2 h)
      of_node (conditional e a b) kind line d n m v o i l h =
          let w = six (is_valid scope e) _ (is_valid scope a) (is_valid scope b) _ _ v in
          let j = three (is_integer_expression e) (is_integer_expression a) (is_integer_expression b) i in
          of_expression e d n l.0 w.0 j.0 l.3
          (parts _ l.0 l.1 l.2 l.4 refl (λ x q. q) (of_expression a d l.1 m w.2 j.1 l.5 h)
          (of_expression b d l.2 m w.3 j.2 l.6 h))
      of_node (assign a b) kind line d n m v o i l h = never i
      of_node (assign_plain x a) kind line d n m v o i l h =
          let w = three (is_valid scope a) _ _ v in
          of_expression a d n l.0 w.0 i l.1 (goes _ l.0 m l.2 (named x.variable (kind_of a) w.1) (λ x q. q) h)
      of_node (compound u a b) kind line d n m v o i l h = never i
      of_node (change_plain u x a) kind line d n m v o i l h =
          let w = three (is_valid scope a) (is_plain scope x.variable kind) (is_update u kind (kind_of a)) v in
          let j = both (p.is_integer_update u) (is_integer_expression a) i in
          of_expression a d n l.0 w.0 j.1 l.1
          (goes _ l.0 m l.2 (joined (named x.variable kind w.1) (updates u kind d (kind_of a) w.2 j.0)) (λ x q. q) h)
      of_node (step u fixity a) kind line d n m v o i l h = never i
      of_node (step_plain u fixity x) kind line d n m v o i l h =
          let w = both (is_plain scope x.variable kind) (is_step u kind) v in
          goes _ n m l (joined (named x.variable kind w.0) (steps u kind w.1 i)) (λ x q. q) h
      of_node (call f args) kind line d n m v o i l h =
          let g = get_or scope.functions f no_signature in
          let w = three (are_valid scope args) (has_number scope.functions f) (is_call g (kinds_of args) kind) v in
          let same = same_kinds (kinds_of args) g.parameters (both _ _ w.2).0 in
          of_arguments args d n l.0 w.0 i l.1
          (goes _ l.0 m l.2 (subst (λ x. takes (function_in t f) x ≡ true) (sym (ap length same) ∙ count_is args)
          (s.functions f w.1)) (λ x q. q) h)
      of_node (call_through type_number a args) kind line d n m v o i l h = never i
      of_node (library r args) kind line d n m v o i l h =
          let w = both (are_valid scope args) (is_call (routine_signature r) (kinds_of args) kind) v in
          let same = same_kinds (kinds_of args) (routine_signature r).parameters (both _ _ w.1).0 in
          let j = both (p.is_integer_routine r) (are_integer_expressions args) i in
          of_arguments args d n l.0 w.0 j.1 l.1
          (goes _ l.0 m l.2 (routine_takes r (count args) (sym (count_is args) ∙ ap length same) j.0) (λ x q. q) h)
      of_node (printf format args) kind line d n m v o i l h = never i

      of_arguments : (es : Expressions) (d n m : ℕ) → are_valid scope es ≡ true → are_integer_expressions es ≡ true
          → LowersArguments c es d n m → Safe m → Safe n
      of_arguments no_expressions d n m v i l h = subst Safe (sym l) h
      of_arguments (expressions e es) d n m v i l h =
          let w = both (is_valid scope e) (are_valid scope es) v in
          let j = both (is_integer_expression e) (are_integer_expressions es) i in
          of_expression e d n l.0 w.0 j.0 l.2
          (not_taken (kind_of e) (line_of e) d l.0 l.1 (kind_is e j.0) l.3
          (of_arguments es (d + 1) l.1 m w.1 j.1 l.4 h))

    pub of_argument : (e : Expression) (d n m : ℕ) → is_valid scope e ≡ true → is_integer_expression e ≡ true
        → LowersArgument c e d n m → Safe m → Safe n
    of_argument e d n m v i l h =
        of_expression e d n l.0 v i l.1 (not_taken (kind_of e) (line_of e) d l.0 m (kind_is e i) l.2 h)
