-- The code of expressions needs the homes alone of objects that a scope names.
use Rattle.std.proofs.Common.{◌≡◌, ◌⊎◌, ℕ, ◌+◌, Bool, true, false, List, Option, Some, None, sym, subst}
use Rattle.std.specs.Prelude.{[], slice_get, if◌then◌else◌, ◌&&◌}
use Rattle.c_tree.specs.declared.expression.Kind.{Kind}
use Rattle.c_tree.specs.declared.expression.Kind.TheVariants.{Void, Scalar as OfScalar, Structure, Array}
use Rattle.c_tree.specs.Tree.{Expression, expression, Expressions, no_expressions, expressions, Lvalue, lvalue, Node}
use Rattle.c_tree.specs.Tree.{constant, function, plain, read, decay, address, parenthesized, deref_function}
use Rattle.c_tree.specs.Tree.{address_function, cast, convert, unary, binary, offset_by, difference, logical_and}
use Rattle.c_tree.specs.Tree.{logical_or, comma, conditional, assign, assign_plain, compound, change_plain, step}
use Rattle.c_tree.specs.Tree.{step_plain, call, call_through, library, printf, LvalueNode, automatic, static, deref}
use Rattle.c_tree.specs.Tree.{index, member, arrow, member_of_value, parenthesized_lvalue, kind_of, line_of}
use Rattle.c_tree.specs.Valid.{Scope, variable_at, is_valid, is_node, are_valid, is_valid_lvalue, is_valid_lvalue_node}
use Rattle.source_meaning.proofs.ValidNames.{both, three, four, five, six}
use Rattle.tac_ir.specs.declared.instruction.Test.TheVariants.{Spatial}
use Rattle.tac_ir.specs.declared.instruction.Instruction.{Instruction}
use Rattle.tac_ir.specs.declared.instruction.Instruction.TheVariants as tac
use Rattle.tac_ir.specs.declared.key.Base.{Base}
use Rattle.tac_ir.specs.declared.key.Base.TheVariants.{Plain, Automatic, Static}
use Rattle.tac_ir.specs.declared.key.Key.{Key}
use Rattle.tac_ir.specs.declared.function.CodeFunction.{CodeFunction}
use Rattle.tac_ir.specs.Edges.{LeadsTo}
use Rattle.metadata_plan.specs.Entries.{key_in, can_compare}
use Rattle.c_lower.specs.Placed.{Placed}
use Rattle.c_lower.specs.Values.{LowersExpression, LowersNode, LowersLvalue, LowersPlace, LowersArguments, KeyIs}
use Rattle.c_lower.specs.Values.{LowersTaking, LowersArgument, Converts}
use Rattle.c_lower.specs.Conversions.{keeps}
use Rattle.c_lower.specs.Keys.{read_key, write_key}
use Rattle.c_lower.proofs.KeyNames.{BaseIs, BaseIf, object_found, read_named, write_named}
use Rattle.image_laws.specs.Plans.Assignment.{Registers, IsOneOf}
use Rattle.image_laws.specs.Plans.Instructions.{home_of_base, home_compared, homes_read, entered_by}
use Rattle.image_laws.proofs.Entered.Along as steps
use Rattle.image_laws.proofs.Entered.Scopes.{IsScoped}

operands : (a b c d f g i : Bool) → (a && b && c && d && f && g && i) ≡ true → (a ≡ true) × (b ≡ true)
operands a b c d f g i e =
    let h = six a b c d f g (both (a && b && c && d && f && g) i e).0 in (h.0, h.1)

-- what the block of an instruction reads of homes, and those of its checks
abbrev pub needed : CodeFunction → Instruction → List ℕ
needed c (tac.Read kind mode line key d a m) = home_compared c Spatial (key_in c key)
needed c (tac.Write kind mode line key d a b m) = home_compared c Spatial (key_in c key)
needed c (tac.Update w k f mode line at key d a right m) = home_compared c Spatial (key_in c key)
needed c i = homes_read c i

-- the code that is lowered, whose tables are those of a function
module _ (c : CodeFunction) (l : Placed) (keys : l.keys ≡ c.keys) where
  abbrev pub AlongAt : (steps : ℕ) → Registers → (node : ℕ) → Type 0
  AlongAt = steps.Along l.code (needed c) (entered_by c)

  pub goes : (i : Instruction) (k : ℕ) (B : Registers) (n m : ℕ) → slice_get l.code n ≡ Some i
      → ((y : ℕ) → IsOneOf (needed c i) y → B y) → ((x : ℕ) → LeadsTo i x → (x ≡ m) ⊎ ⊥) → AlongAt k B m
      → AlongAt k B n
  goes = steps.goes l.code (needed c) (entered_by c)

  pub parts : (i : Instruction) (k : ℕ) (B : Registers) (n a b : ℕ) → slice_get l.code n ≡ Some i
      → ((y : ℕ) → IsOneOf (needed c i) y → B y) → ((x : ℕ) → LeadsTo i x → (x ≡ a) ⊎ ((x ≡ b) ⊎ ⊥))
      → AlongAt k B a → AlongAt k B b → AlongAt k B n
  parts = steps.parts l.code (needed c) (entered_by c)

  module _ (B : Registers) (scope : Scope) (s : IsScoped c B scope) (k : ℕ) where
    base_scoped : (base : Base) → BaseIs scope base → (y : ℕ) → IsOneOf (home_of_base c base) y → B y
    base_scoped (Plain x) named y one = absurd one
    base_scoped (Automatic x) named y one = s.objects x named.0 y named.1 one
    base_scoped (Static n) named y one = absurd one

    -- the key of an access begins with an object that is named
    key_scoped : (number : Option ℕ) (key : Option Key) → KeyIs l.keys number key → BaseIf scope key → (y : ℕ)
        → IsOneOf (home_compared c Spatial (key_in c number)) y → B y
    key_scoped None key is named y one = absurd one
    key_scoped (Some n) None is named y one = absurd is
    key_scoped (Some n) (Some key) is named y one =
        by (can_compare Spatial key) (subst (λ o. IsOneOf (home_compared c Spatial o) y) there one)
      where
        there : slice_get c.keys n ≡ Some key
        there = subst (λ ks. slice_get ks n ≡ Some key) keys is

        by : (b : Bool) → IsOneOf (if b then home_of_base c key.base else []) y → B y
        by true one = base_scoped key.base named y one
        by false one = absurd one

    nothing : (y : ℕ) → ⊥ → B y
    nothing y h = absurd h

    abbrev At : (node : ℕ) → Type 0
    At = AlongAt k B

    taken : (kind : Kind) (line d n m : ℕ) → LowersTaking l kind line d n m → At m → At n
    taken Void line d n m e h = subst At (sym e) h
    taken (OfScalar t) line d n m e h = subst At (sym e) h
    taken (Structure size) line d n m e h = goes _ k B n m e nothing (λ x q. q) h
    taken (Array size) line d n m e h = subst At (sym e) h

    converted : (q : Bool) (kind : Kind) (d n m : ℕ) → Converts l q kind d n m → At m → At n
    converted true kind d n m e h = subst At (sym e) h
    converted false kind d n m e h = goes _ k B n m e nothing (λ x q. q) h

    mutual
      pub of_expression : (e : Expression) (d n m : ℕ) → is_valid scope e ≡ true → LowersExpression l e d n m → At m
          → At n
      of_expression (expression kind line node) d n m v w h = of_node node kind line d n m v w h

      of_node : (node : Node) (kind : Kind) (line d n m : ℕ) → is_node scope node kind ≡ true
          → LowersNode l node kind line d n m → At m → At n
      of_node (constant w) kind line d n m v i h = goes _ k B n m i nothing (λ x q. q) h
      of_node (function f) kind line d n m v i h = goes _ k B n m i nothing (λ x q. q) h
      of_node (plain x) kind line d n m v i h = goes _ k B n m i nothing (λ x q. q) h
      of_node (read p) kind line d n m v i h =
          let w = three (is_valid_lvalue scope p) _ _ v in
          of_lvalue p d n i.0 w.0 i.3
          (goes _ k B i.0 m i.4 (key_scoped i.1 (read_key l.literals p) i.2 (read_named scope l.literals p w.0)) (λ x q. q) h)
      of_node (decay p) kind line d n m v i h = of_lvalue p d n m (four (is_valid_lvalue scope p) _ _ _ v).0 i h
      of_node (address p) kind line d n m v i h = of_lvalue p d n m (three (is_valid_lvalue scope p) _ _ v).0 i h
      of_node (parenthesized a) kind line d n m v i h = of_expression a d n m (both (is_valid scope a) _ v).0 i h
      of_node (deref_function a) kind line d n m v i h = of_expression a d n m (three (is_valid scope a) _ _ v).0 i h
      of_node (address_function a) kind line d n m v i h = of_expression a d n m (three (is_valid scope a) _ _ v).0 i h
      of_node (cast a) kind line d n m v i h =
          of_expression a d n i.0 (both (is_valid scope a) _ v).0 i.1
          (converted (keeps (kind_of a) kind) kind d i.0 m i.2 h)
      of_node (convert a) kind line d n m v i h =
          of_expression a d n i.0 (three (is_valid scope a) _ _ v).0 i.1
          (converted (keeps (kind_of a) kind) kind d i.0 m i.2 h)
      of_node (unary op a) kind line d n m v i h =
          of_expression a d n i.0 (both (is_valid scope a) _ v).0 i.1 (goes _ k B i.0 m i.2 nothing (λ x q. q) h)
      of_node (binary op a b) kind line d n m v i h =
          let w = three (is_valid scope a) (is_valid scope b) _ v in
          of_expression a d n i.0 w.0 i.2
          (of_expression b (d + 1) i.0 i.1 w.1 i.3 (goes _ k B i.1 m i.4 nothing (λ x q. q) h))
      of_node (offset_by form size a b) kind line d n m v i h =
          let w = six (is_valid scope a) (is_valid scope b) _ _ _ _ v in
          of_expression a d n i.0 w.0 i.2
          (of_expression b (d + 1) i.0 i.1 w.1 i.3 (goes _ k B i.1 m i.4 nothing (λ x q. q) h))
      of_node (difference size a b) kind line d n m v i h =
          let w = six (is_valid scope a) (is_valid scope b) _ _ _ _ v in
          of_expression a d n i.0 w.0 i.2
          (of_expression b (d + 1) i.0 i.1 w.1 i.3 (goes _ k B i.1 m i.4 nothing (λ x q. q) h))
      of_node (logical_and a b) kind line d n m v i h =
          let w = five (is_valid scope a) (is_valid scope b) _ _ _ v in
          let zero_way = goes _ k B i.3 m i.9 nothing (λ x q. q) h in
          let one_way = goes _ k B i.4 m i.10 nothing (λ x q. q) h in
          let second = of_expression b d i.2 i.1 w.1 i.7 (parts _ k B i.1 i.4 i.3 i.8 nothing (λ x q. q) one_way zero_way) in
          of_expression a d n i.0 w.0 i.5 (parts _ k B i.0 i.2 i.3 i.6 nothing (λ x q. q) second zero_way)
      of_node (logical_or a b) kind line d n m v i h =
          let w = five (is_valid scope a) (is_valid scope b) _ _ _ v in
          let zero_way = goes _ k B i.3 m i.9 nothing (λ x q. q) h in
          let one_way = goes _ k B i.4 m i.10 nothing (λ x q. q) h in
          let second = of_expression b d i.2 i.1 w.1 i.7 (parts _ k B i.1 i.4 i.3 i.8 nothing (λ x q. q) one_way zero_way) in
          of_expression a d n i.0 w.0 i.5 (parts _ k B i.0 i.4 i.2 i.6 nothing (λ x q. q) one_way second)
      of_node (comma a b) kind line d n m v i h =
          let w = three (is_valid scope a) (is_valid scope b) _ v in
          of_expression a d n i.0 w.0 i.1 (of_expression b d i.0 m w.1 i.2 h)
      of_node (conditional a b e) kind line d n m v i h =
          let w = six (is_valid scope a) _ (is_valid scope b) (is_valid scope e) _ _ v in
          of_expression a d n i.0 w.0 i.3
          (parts _ k B i.0 i.1 i.2 i.4 nothing (λ x q. q) (of_expression b d i.1 m w.2 i.5 h)
          (of_expression e d i.2 m w.3 i.6 h))
      of_node (assign p a) kind line d n m v i h =
          let w = six (is_valid_lvalue scope p) _ (is_valid scope a) _ _ _ v in
          of_lvalue p d n i.0 w.0 i.4
          (of_expression a (d + 1) i.0 i.1 w.2 i.5
          (goes _ k B i.1 m i.6 (key_scoped i.2 (write_key l.literals p a) i.3 (write_named scope l.literals p a w.0)) (λ x q. q)
          h))
      of_node (assign_plain x a) kind line d n m v i h =
          of_expression a d n i.0 (three (is_valid scope a) _ _ v).0 i.1 (goes _ k B i.0 m i.2 nothing (λ x q. q) h)
      of_node (compound u p a) kind line d n m v i h =
          let w = five (is_valid_lvalue scope p) _ (is_valid scope a) _ _ v in
          of_lvalue p d n i.0 w.0 i.4
          (of_expression a (d + 1) i.0 i.1 w.2 i.5
          (goes _ k B i.1 m i.6 (key_scoped i.2 (write_key l.literals p a) i.3 (write_named scope l.literals p a w.0)) (λ x q. q)
          h))
      of_node (change_plain u x a) kind line d n m v i h =
          of_expression a d n i.0 (three (is_valid scope a) _ _ v).0 i.1 (goes _ k B i.0 m i.2 nothing (λ x q. q) h)
      of_node (step u fixity p) kind line d n m v i h =
          let w = four (is_valid_lvalue scope p) _ _ _ v in
          of_lvalue p d n i.0 w.0 i.3
          (goes _ k B i.0 m i.4 (key_scoped i.1 (read_key l.literals p) i.2 (read_named scope l.literals p w.0)) (λ x q. q) h)
      of_node (step_plain u fixity x) kind line d n m v i h = goes _ k B n m i nothing (λ x q. q) h
      of_node (call f args) kind line d n m v i h =
          of_arguments args d n i.0 (three (are_valid scope args) _ _ v).0 i.1 (goes _ k B i.0 m i.2 nothing (λ x q. q) h)
      of_node (call_through type_number a args) kind line d n m v i h =
          let w = five (is_valid scope a) _ (are_valid scope args) _ _ v in
          of_expression a d n i.0 w.0 i.2
          (of_arguments args (d + 1) i.0 i.1 w.2 i.3 (goes _ k B i.1 m i.4 nothing (λ x q. q) h))
      of_node (library routine args) kind line d n m v i h =
          of_arguments args d n i.0 (both (are_valid scope args) _ v).0 i.1 (goes _ k B i.0 m i.2 nothing (λ x q. q) h)
      of_node (printf format args) kind line d n m v i h =
          of_arguments args d n i.0 (three (are_valid scope args) _ _ v).0 i.3
          (goes _ k B i.0 m i.4 nothing (λ x q. q) h)

      of_lvalue : (p : Lvalue) (d n m : ℕ) → is_valid_lvalue scope p ≡ true → LowersLvalue l p d n m → At m → At n
      of_lvalue (lvalue kind line node) d n m v i h = of_place node kind d n m v i h

      of_place : (node : LvalueNode) (kind : Kind) (d n m : ℕ) → is_valid_lvalue_node scope node kind ≡ true
          → LowersPlace l node d n m → At m → At n
      of_place (automatic x) kind d n m v i h =
          let object = object_found scope.variables x (both (variable_at scope x).is_object _ v).0 in
          goes _ k B n m i (λ y one. s.objects x (variable_at scope x).kind y object one) (λ x q. q) h
      of_place (static number) kind d n m v i h = goes _ k B n m i nothing (λ x q. q) h
      of_place (deref a) kind d n m v i h = of_expression a d n m (three (is_valid scope a) _ _ v).0 i h
      of_place (index form size a b) kind d n m v i h =
          let w = operands (is_valid scope a) (is_valid scope b) _ _ _ _ _ v in
          of_expression a d n i.0 w.0 i.2
          (of_expression b (d + 1) i.0 i.1 w.1 i.3 (goes _ k B i.1 m i.4 nothing (λ x q. q) h))
      of_place (member p offset size) kind d n m v i h =
          of_lvalue p d n i.0 (three (is_valid_lvalue scope p) _ _ v).0 i.1 (goes _ k B i.0 m i.2 nothing (λ x q. q) h)
      of_place (arrow a offset size) kind d n m v i h =
          of_expression a d n i.0 (three (is_valid scope a) _ _ v).0 i.1 (goes _ k B i.0 m i.2 nothing (λ x q. q) h)
      of_place (member_of_value a offset size) kind d n m v i h =
          of_expression a d n i.0 (three (is_valid scope a) _ _ v).0 i.1 (goes _ k B i.0 m i.2 nothing (λ x q. q) h)
      of_place (parenthesized_lvalue p) kind d n m v i h =
          of_lvalue p d n m (both (is_valid_lvalue scope p) _ v).0 i h

      of_arguments : (es : Expressions) (d n m : ℕ) → are_valid scope es ≡ true → LowersArguments l es d n m → At m
          → At n
      of_arguments no_expressions d n m v i h = subst At (sym i) h
      of_arguments (expressions e es) d n m v i h =
          let w = both (is_valid scope e) (are_valid scope es) v in
          of_expression e d n i.0 w.0 i.2
          (taken (kind_of e) (line_of e) d i.0 i.1 i.3 (of_arguments es (d + 1) i.1 m w.1 i.4 h))

    pub of_argument : (e : Expression) (d n m : ℕ) → is_valid scope e ≡ true → LowersArgument l e d n m → At m → At n
    of_argument e d n m v i h =
        of_expression e d n i.0 v i.1 (taken (kind_of e) (line_of e) d i.0 m i.2 h)
