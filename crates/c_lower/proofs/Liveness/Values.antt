-- The code of an expression: behind it a temporary may be live beside those that may be live before it.
use Rattle.std.proofs.Common.{◌≡◌, ◌⊎◌, inl, inr, ℕ, suc, ◌+◌, ◌<◌, ◌≤◌, Bool, true, false}
use Rattle.std.proofs.Common.{Some, refl, sym, ◌∙◌, subst, arith}
use Rattle.std.specs.Prelude.{slice_get, ◌==◌, ◌||◌}
use Rattle.std.proofs.lemmas.Bool.{eqb-true, eqb-false, and_parts, leb-true, ltb-true, false≢true}
use Rattle.std.proofs.Math.Bool.{or-false}
use Rattle.c_tree.specs.declared.expression.Kind.{Kind}
use Rattle.c_tree.specs.declared.expression.Kind.TheVariants.{Void, Scalar as OfScalar, Structure, Array}
use Rattle.c_tree.specs.Tree.{Expression, expression, Expressions, no_expressions, expressions, Lvalue, lvalue, Node}
use Rattle.c_tree.specs.Tree.{constant, function, plain, read, decay, address, parenthesized, deref_function}
use Rattle.c_tree.specs.Tree.{address_function, cast, convert, unary, binary, offset_by, difference, logical_and}
use Rattle.c_tree.specs.Tree.{logical_or, comma, conditional, assign, assign_plain, compound, change_plain, step}
use Rattle.c_tree.specs.Tree.{step_plain, call, call_through, library, printf, LvalueNode, automatic, static, deref}
use Rattle.c_tree.specs.Tree.{index, member, arrow, member_of_value, parenthesized_lvalue, kind_of, line_of}
use Rattle.tac_ir.specs.declared.instruction.Instruction.{Instruction}
use Rattle.tac_ir.specs.Edges.{LeadsTo}
use Rattle.c_lower.specs.Placed.{Placed}
use Rattle.c_lower.specs.Values.{LowersExpression, LowersNode, LowersLvalue, LowersPlace, LowersArguments}
use Rattle.c_lower.specs.Values.{LowersTaking, LowersArgument, Converts, count}
use Rattle.c_lower.specs.Conversions.{keeps}
use Rattle.c_lower.specs.Liveness.Liveness.{is_among, reads, writes}
use Rattle.c_lower.proofs.Liveness.Steps.{Temporaries, And, Only, weaken, along, either, only_one, one_of_two}
use Rattle.c_lower.proofs.Liveness.Steps.{not_written, is_this, one_of_these}

-- so many more from one on
abbrev pub AndAmong : Temporaries → (first count : ℕ) → Temporaries
AndAmong P d n y = P y ⊎ ((d ≤ y) × (y < d + n))

among : (P : Temporaries) (d n y : ℕ) → is_among d n y ≡ true → AndAmong P d n y
among P d n y e =
    let h = and_parts _ _ e in
    let lo = leb-true d y h.0 in let hi = ltb-true y (d + n) h.1 in inr (lo, hi)

-- the first of those behind another, and all from that one on
joined : (P : Temporaries) (d n y : ℕ) → AndAmong P d (suc n) y → AndAmong (And P d) (d + 1) n y
joined P d n y (inl p) = inl (inl p)
joined P d n y (inr r) = let lo = r.0 in let hi = r.1 in by (y == d) refl
  where
    by : (b : Bool) → (y == d) ≡ b → AndAmong (And P d) (d + 1) n y
    by true e = inl (inr (eqb-true y d e))
    by false e = let ne = eqb-false y d e in let lo = r.0 in let hi = r.1 in inr (omega arith, omega arith)

none_among : (P : Temporaries) (d y : ℕ) → AndAmong P d 0 y → P y
none_among P d y (inl p) = p
none_among P d y (inr r) = absurd (let lo = r.0 in let hi = r.1 in omega arith)

pub no_reads : (P : Temporaries) (y : ℕ) → false ≡ true → P y
no_reads P y e = absurd (false≢true e)

module _ (c : Placed) (k : ℕ) where
  abbrev pub May : Temporaries → ℕ → Type 0
  May P n = Only c.code P k n

  -- an instruction that reads one temporary and gives it another value
  module _ (P : Temporaries) (d n m : ℕ) (i : Instruction) (holds : slice_get c.code n ≡ Some i)
      (one : (x : ℕ) → LeadsTo i x → (x ≡ m) ⊎ ⊥) (after : May (And P d) m) where
    makes : ((y : ℕ) → reads i y ≡ true → false ≡ true) → ((y : ℕ) → writes i y ≡ (y == d)) → May P n
    makes none w =
        along c.code P (And P d) i k n m holds (λ y r. no_reads P y (none y r))
        (λ y q e. not_written P d y q (sym (w y) ∙ e)) (λ x l. only_one x m (one x l)) after

    changes : ((y : ℕ) → reads i y ≡ (y == d)) → ((y : ℕ) → writes i y ≡ (y == d)) → May (And P d) n
    changes r w =
        along c.code (And P d) (And P d) i k n m holds (λ y e. is_this P d y (sym (r y) ∙ e))
        (λ y q e. q) (λ x l. only_one x m (one x l)) after

    joins : ((y : ℕ) → reads i y ≡ ((y == d) || (y == d + 1))) → May (And (And P d) (d + 1)) n
    joins r =
        along c.code (And (And P d) (d + 1)) (And P d) i k n m holds
        (λ y e. one_of_these P d (d + 1) y (sym (r y) ∙ e))
        (λ y q e. inl q) (λ x l. only_one x m (one x l)) after

    gathers : (count : ℕ) → ((y : ℕ) → reads i y ≡ is_among d count y) → ((y : ℕ) → writes i y ≡ (y == d))
        → May (AndAmong P d count) n
    gathers count r w =
        along c.code (AndAmong P d count) (And P d) i k n m holds (λ y e. among P d count y (sym (r y) ∙ e))
        (λ y q e. inl (not_written P d y q (sym (w y) ∙ e))) (λ x l. only_one x m (one x l)) after

  -- a branch reads its condition
  pub branches : (P : Temporaries) (d n a b : ℕ) (i : Instruction) → slice_get c.code n ≡ Some i
      → ((y : ℕ) → reads i y ≡ (y == d)) → ((x : ℕ) → LeadsTo i x → (x ≡ a) ⊎ ((x ≡ b) ⊎ ⊥))
      → May P a → May P b → May (And P d) n
  branches P d n a b i holds r two h h' =
      either c.code (And P d) P i k n a b holds (λ y e. is_this P d y (sym (r y) ∙ e)) (λ y q. inl q)
      (λ x l. one_of_two x a b (two x l)) h h'

  pub also : (P : Temporaries) (d n : ℕ) → May P n → May (And P d) n
  also P d n h = weaken c.code P (And P d) k n (λ y p. inl p) h

  taken : (P : Temporaries) (kind : Kind) (line d n m : ℕ) → LowersTaking c kind line d n m → May (And P d) m
      → May (And P d) n
  taken P Void line d n m e h = subst (May (And P d)) (sym e) h
  taken P (OfScalar s) line d n m e h = subst (May (And P d)) (sym e) h
  taken P (Structure size) line d n m e h = changes P d n m _ e (λ x l. l) h (λ y. refl) (λ y. refl)
  taken P (Array size) line d n m e h = subst (May (And P d)) (sym e) h

  converted : (P : Temporaries) (q : Bool) (kind : Kind) (d n m : ℕ) → Converts c q kind d n m → May (And P d) m
      → May (And P d) n
  converted P true kind d n m e h = subst (May (And P d)) (sym e) h
  converted P false kind d n m e h = changes P d n m _ e (λ x l. l) h (λ y. refl) (λ y. refl)

  mutual
    pub of_expression : (e : Expression) (P : Temporaries) (d n m : ℕ) → LowersExpression c e d n m → May (And P d) m
        → May P n
    of_expression (expression kind line node) P d n m l h = of_node node kind line P d n m l h

    of_node : (node : Node) (kind : Kind) (line : ℕ) (P : Temporaries) (d n m : ℕ)
        → LowersNode c node kind line d n m → May (And P d) m → May P n
    of_node (constant w) kind line P d n m l h = makes P d n m _ l (λ x q. q) h (λ y e. e) (λ y. refl)
    of_node (function f) kind line P d n m l h = makes P d n m _ l (λ x q. q) h (λ y e. e) (λ y. refl)
    of_node (plain x) kind line P d n m l h = makes P d n m _ l (λ x q. q) h (λ y e. e) (λ y. refl)
    of_node (read p) kind line P d n m l h =
        of_lvalue p P d n l.0 l.3 (changes P d l.0 m _ l.4 (λ x q. q) h (λ y. refl) (λ y. refl))
    of_node (decay p) kind line P d n m l h = of_lvalue p P d n m l h
    of_node (address p) kind line P d n m l h = of_lvalue p P d n m l h
    of_node (parenthesized a) kind line P d n m l h = of_expression a P d n m l h
    of_node (deref_function a) kind line P d n m l h = of_expression a P d n m l h
    of_node (address_function a) kind line P d n m l h = of_expression a P d n m l h
    of_node (cast a) kind line P d n m l h =
        of_expression a P d n l.0 l.1 (converted P (keeps (kind_of a) kind) kind d l.0 m l.2 h)
    of_node (convert a) kind line P d n m l h =
        of_expression a P d n l.0 l.1 (converted P (keeps (kind_of a) kind) kind d l.0 m l.2 h)
    of_node (unary op a) kind line P d n m l h =
        of_expression a P d n l.0 l.1 (changes P d l.0 m _ l.2 (λ x q. q) h (λ y. refl) (λ y. refl))
    of_node (binary op a b) kind line P d n m l h =
        of_expression a P d n l.0 l.2
        (of_expression b (And P d) (d + 1) l.0 l.1 l.3 (joins P d l.1 m _ l.4 (λ x q. q) h (λ y. refl)))
    of_node (offset_by form size a b) kind line P d n m l h =
        of_expression a P d n l.0 l.2
        (of_expression b (And P d) (d + 1) l.0 l.1 l.3 (joins P d l.1 m _ l.4 (λ x q. q) h (λ y. refl)))
    of_node (difference size a b) kind line P d n m l h =
        of_expression a P d n l.0 l.2
        (of_expression b (And P d) (d + 1) l.0 l.1 l.3 (joins P d l.1 m _ l.4 (λ x q. q) h (λ y. refl)))
    of_node (logical_and a b) kind line P d n m l h =
        let zero_way = makes P d l.3 m _ l.9 (λ x q. q) h (λ y e. e) (λ y. refl) in
        let one_way = makes P d l.4 m _ l.10 (λ x q. q) h (λ y e. e) (λ y. refl) in
        let second = of_expression b P d l.2 l.1 l.7
        (branches P d l.1 l.4 l.3 _ l.8 (λ y. refl) (λ x q. q) one_way zero_way) in
        of_expression a P d n l.0 l.5 (branches P d l.0 l.2 l.3 _ l.6 (λ y. refl) (λ x q. q) second zero_way)
    of_node (logical_or a b) kind line P d n m l h =
        let zero_way = makes P d l.3 m _ l.9 (λ x q. q) h (λ y e. e) (λ y. refl) in
        let one_way = makes P d l.4 m _ l.10 (λ x q. q) h (λ y e. e) (λ y. refl) in
        let second = of_expression b P d l.2 l.1 l.7
        (branches P d l.1 l.4 l.3 _ l.8 (λ y. refl) (λ x q. q) one_way zero_way) in
        of_expression a P d n l.0 l.5 (branches P d l.0 l.4 l.2 _ l.6 (λ y. refl) (λ x q. q) one_way second)
    of_node (comma a b) kind line P d n m l h =
        of_expression a P d n l.0 l.1 (also P d l.0 (of_expression b P d l.0 m l.2 h))
    of_node (conditional a b e) kind line P d n m l h =
        of_expression a P d n l.0 l.3
        (branches P d l.0 l.1 l.2 _ l.4 (λ y. refl) (λ x q. q) (of_expression b P d l.1 m l.5 h)
        (of_expression e P d l.2 m l.6 h))
    of_node (assign p a) kind line P d n m l h =
        of_lvalue p P d n l.0 l.4
        (of_expression a (And P d) (d + 1) l.0 l.1 l.5 (joins P d l.1 m _ l.6 (λ x q. q) h (λ y. refl)))
    of_node (assign_plain x a) kind line P d n m l h =
        of_expression a P d n l.0 l.1
        (along c.code (And P d) (And P d) _ k l.0 m l.2 (λ y e. is_this P d y e) (λ y q e. q) (λ x q. only_one x m q) h)
    of_node (compound u p a) kind line P d n m l h =
        of_lvalue p P d n l.0 l.4
        (of_expression a (And P d) (d + 1) l.0 l.1 l.5 (joins P d l.1 m _ l.6 (λ x q. q) h (λ y. refl)))
    of_node (change_plain u x a) kind line P d n m l h =
        of_expression a P d n l.0 l.1 (changes P d l.0 m _ l.2 (λ x q. q) h (λ y. refl) (λ y. refl))
    of_node (step u fixity p) kind line P d n m l h =
        of_lvalue p P d n l.0 l.3
        (changes P d l.0 m _ l.4 (λ x q. q) h (λ y. or-false (y == d)) (λ y. refl))
    of_node (step_plain u fixity x) kind line P d n m l h = makes P d n m _ l (λ x q. q) h (λ y e. e) (λ y. refl)
    of_node (call f args) kind line P d n m l h =
        of_arguments args P d n l.0 l.1 (gathers P d l.0 m _ l.2 (λ x q. q) h (count args) (λ y. refl) (λ y. refl))
    of_node (call_through type_number a args) kind line P d n m l h =
        of_expression a P d n l.0 l.2
        (of_arguments args (And P d) (d + 1) l.0 l.1 l.3
        (weaken c.code (AndAmong P d (suc (count args))) (AndAmong (And P d) (d + 1) (count args)) k l.1
        (joined P d (count args))
        (gathers P d l.1 m _ l.4 (λ x q. q) h (suc (count args)) (λ y. refl) (λ y. refl))))
    of_node (library routine args) kind line P d n m l h =
        of_arguments args P d n l.0 l.1 (gathers P d l.0 m _ l.2 (λ x q. q) h (count args) (λ y. refl) (λ y. refl))
    of_node (printf format args) kind line P d n m l h =
        of_arguments args P d n l.0 l.3 (gathers P d l.0 m _ l.4 (λ x q. q) h (count args) (λ y. refl) (λ y. refl))

    pub of_lvalue : (p : Lvalue) (P : Temporaries) (d n m : ℕ) → LowersLvalue c p d n m → May (And P d) m → May P n
    of_lvalue (lvalue kind line node) P d n m l h = of_place node P d n m l h

    of_place : (node : LvalueNode) (P : Temporaries) (d n m : ℕ) → LowersPlace c node d n m → May (And P d) m
        → May P n
    of_place (automatic x) P d n m l h = makes P d n m _ l (λ x q. q) h (λ y e. e) (λ y. refl)
    of_place (static number) P d n m l h = makes P d n m _ l (λ x q. q) h (λ y e. e) (λ y. refl)
    of_place (deref a) P d n m l h = of_expression a P d n m l h
    of_place (index form size a b) P d n m l h =
        of_expression a P d n l.0 l.2
        (of_expression b (And P d) (d + 1) l.0 l.1 l.3 (joins P d l.1 m _ l.4 (λ x q. q) h (λ y. refl)))
    of_place (member p offset size) P d n m l h =
        of_lvalue p P d n l.0 l.1 (changes P d l.0 m _ l.2 (λ x q. q) h (λ y. refl) (λ y. refl))
    of_place (arrow a offset size) P d n m l h =
        of_expression a P d n l.0 l.1 (changes P d l.0 m _ l.2 (λ x q. q) h (λ y. refl) (λ y. refl))
    of_place (member_of_value a offset size) P d n m l h =
        of_expression a P d n l.0 l.1 (changes P d l.0 m _ l.2 (λ x q. q) h (λ y. refl) (λ y. refl))
    of_place (parenthesized_lvalue p) P d n m l h = of_lvalue p P d n m l h

    of_arguments : (es : Expressions) (P : Temporaries) (d n m : ℕ) → LowersArguments c es d n m
        → May (AndAmong P d (count es)) m → May P n
    of_arguments no_expressions P d n m l h =
        subst (May P) (sym l) (weaken c.code (AndAmong P d 0) P k m (none_among P d) h)
    of_arguments (expressions e es) P d n m l h =
        of_expression e P d n l.0 l.2
        (taken P (kind_of e) (line_of e) d l.0 l.1 l.3
        (of_arguments es (And P d) (d + 1) l.1 m l.4
        (weaken c.code (AndAmong P d (suc (count es))) (AndAmong (And P d) (d + 1) (count es)) k m
        (joined P d (count es)) h)))

  pub of_argument : (e : Expression) (P : Temporaries) (d n m : ℕ) → LowersArgument c e d n m → May (And P d) m
      → May P n
  of_argument e P d n m l h = of_expression e P d n l.0 l.1 (taken P (kind_of e) (line_of e) d l.0 m l.2 h)
