-- Initializers and conditions from their parts.
use Rattle.std.proofs.Common.{◌≡◌, ℕ, zero, suc, ◌+◌, ◌-◌, ◌≤◌, ◌<◌, List, [], ◌∷◌, ◌++◌, length, map, drop, Some, None}
use Rattle.std.proofs.Common.{refl, sym, ap, ◌∙◌, subst, arith}
use Rattle.std.specs.Prelude.{get_or, max}
use Rattle.c_tree.specs.declared.expression.Expression.{Expression as CodeExpression}
use Rattle.c_tree.specs.declared.statement.Part.{Part as CodePart}
use Rattle.c_tree.specs.declared.statement.DeclaredVariable.{DeclaredVariable as CodeDeclared}
use Rattle.c_tree.specs.Tree.{Expression, kind_of, line_of}
use Rattle.c_tree.specs.Statements.{Content, value_content, literal_content, Part, of_plain, of_object}
use Rattle.c_tree.specs.Statements.{DeclaredVariable, nothing, first_expression, first_declaration}
use Rattle.c_tree.specs.View.{expression_of, part_of, declared_of}
use Rattle.c_tree.specs.Room.{height, content_height, greatest_height}
use Rattle.c_tree.specs.Blocks.{initializer_contents, declared_contents}
use Rattle.tac_ir.specs.declared.instruction.Instruction.TheVariants as tac
use Rattle.c_lower.specs.Homes.{used}
use Rattle.c_lower.specs.Placed.{Holds}
use Rattle.c_lower.proofs.Homes.{fits}
use Rattle.program_lowering.specs.declared.expressions.emitter.Emitter.{Emitter}
use Rattle.program_lowering.specs.ExpressionCode.Weights.{expression_weight}
use Rattle.program_lowering.specs.ExpressionCode.Emitted.{Added, Stays, Emits, ExpressionCode}
use Rattle.program_lowering.specs.ExpressionCode.Last.{TextAdded}
use Rattle.program_lowering.proofs.ExpressionCode.Leading.{leads_none, leads_first, leads_added, leads_then, leads_behind}
use Rattle.program_lowering.proofs.ExpressionCode.Growing.{emits_none, emits_then, emits_within, added_by}
use Rattle.program_lowering.proofs.ExpressionCode.Growing.{added_emits}
use Rattle.program_lowering.proofs.ExpressionCode.Growing.{added_holds}
use Rattle.program_lowering.proofs.ExpressionCode.Growing.{fills_before}
use Rattle.program_lowering.proofs.ExpressionCode.Views.{of_expression, drop_from}
use Rattle.program_lowering.specs.StatementParts.Weights.{content_weight, parts_weight, initializer_weight}
use Rattle.program_lowering.specs.StatementParts.Weights.{declared_weight}
use Rattle.program_lowering.specs.StatementParts.Weights.{condition_weight}
use Rattle.program_lowering.specs.StatementParts.Code.{most, contents_in, ContentCode, PartsCode, InitializerCode}
use Rattle.program_lowering.specs.StatementParts.Code.{DeclaredCode, FirstCode, ConditionCode, PartCode}

-- heights

-- an expression that is evaluated into temporary 0 needs no more than its height
pub room_for : (e : CodeExpression) (limit : ℕ) → height (expression_of e) < limit → 0 + used (expression_of e) < limit
room_for e limit h = omega (arith, fits (expression_of e), h)

pub greatest_and : (xs ys : List Content) → greatest_height (xs ++ ys) ≡ max (greatest_height xs) (greatest_height ys)
greatest_and [] ys = omega arith
greatest_and (x ∷ xs) ys = omega (arith, greatest_and xs ys)

-- an expression that is evaluated needs no more than its height
pub evaluated_emits : {a b : Emitter} {n m : ℕ} (e : Expression) (most : ℕ) → ExpressionCode a b e 0 n m
    → height e ≤ most → Emits a b most (expression_weight e)
evaluated_emits e most h le = emits_within most (expression_weight e) h.emits (omega (arith, fits e, le))
    (λ w. omega arith)

-- parts of initializers

pub value_code : {a b c : Emitter} {x o n k m : ℕ} (e : CodeExpression)
    → Added a b k (tac.StorePart e.kind e.line x o 0 m)
    → ExpressionCode b c (expression_of e) 0 n k → ContentCode a c x o (value_content (expression_of e)) n m
value_code {x = x} {o = o} {k = k} {m = m} e h hx =
    let top = max 1 (height (expression_of e)) in
    let view = of_expression e in
    let store = added_emits top h (omega arith) (λ ts w. refl) in
    let value = evaluated_emits (expression_of e) top hx (omega arith) in
    record {
      emits = emits_then top (content_weight (value_content (expression_of e))) store value (omega arith) (omega arith)
          (λ w. omega (arith, ap (λ x. w.store_part (kind_of x)) view));
      leads = leads_then (leads_added h) hx.leads;
      stands = λ p f.
          let held = added_holds h tt (fills_before hx.emits f) in (
            k,
            hx.stands p f,
            subst (λ l. Holds p k (tac.StorePart (kind_of (expression_of e)) l x o 0 m))
                (sym (ap line_of view))
                (subst (λ d. Holds p k (tac.StorePart d e.line x o 0 m)) (sym (ap kind_of view)) held),
          );
    }

pub literal_code : {a b c : Emitter} {x o t n m : ℕ} {bytes : List ℕ} → TextAdded a b bytes t
    → Added b c n (tac.StoreText t x o m) → ContentCode a c x o (literal_content bytes) n m
literal_code {t = t} {bytes = bytes} ht h =
    let weight = content_weight (literal_content bytes) in
    let store = added_by 1 weight h (omega arith)
    (λ w ts s. ap w.store_text (ht.is ts (subst (λ us. Stays us ts) h.texts s))) in
    record {
      emits = emits_then 1 weight ht.emits store (omega arith) (omega arith) (λ w. omega arith);
      leads = leads_behind ht.same (leads_added h);
      stands = λ p f. (t, ht.is p.texts (fills_before store f).texts, added_holds h tt f);
    }

pub parts_none : {a : Emitter} {x n : ℕ} → PartsCode a a x [] n n
parts_none = record { emits = emits_none 1 (λ w. refl); leads = leads_none; stands = λ p f. refl }

parts_more : {a b c : Emitter} {x n k m : ℕ} (q : Part) (qs : List Part) → PartsCode a b x qs k m
    → ContentCode b c x q.offset q.content n k → PartsCode a c x (q ∷ qs) n m
parts_more {k = k} q qs hs h =
    let top = most (contents_in (q ∷ qs)) in
    record {
      emits = emits_then top (parts_weight (q ∷ qs)) hs.emits h.emits (omega arith) (omega arith) (λ w. omega arith);
      leads = leads_then hs.leads h.leads;
      stands = λ p f. (k, h.stands p f, hs.stands p (fills_before h.emits f));
    }

-- the elements behind a model, of which one stands before the others
pub drop_before : {A B : Type 0} (f : A → B) (xs : List A) (i : ℕ) (x : A) → 1 ≤ i → i ≤ length xs → x
    ≡ get_or xs (i - 1) x
    → f x ∷ map f (drop i xs) ≡ map f (drop (i - 1) xs)
drop_before f xs i x ge le is =
    let at : i - 1 + 1 ≡ i = omega (arith, ge) in
    ap (λ p. f x ∷ map f (drop p xs)) (sym at) ∙ ap (map f) (sym (drop_from xs (i - 1) x (omega (arith, ge, le)) is))

pub next_part : {a b c : Emitter} {x n k m : ℕ} (qs : List CodePart) (i : ℕ) (q : CodePart) → 1 ≤ i → i ≤ length qs
    → q ≡ get_or qs (i - 1) q → PartsCode a b x (map part_of (drop i qs)) k m
    → ContentCode b c x q.offset (part_of q).content n k → PartsCode a c x (map part_of (drop (i - 1) qs)) n m
next_part {a = a} {c = c} {x = x} {n = n} {m = m} qs i q ge le is hs h =
    subst (λ l. PartsCode a c x l n m) (drop_before part_of qs i q ge le is) (parts_more (part_of q) _ hs h)

pub part_height : (qs : List CodePart) (k : ℕ) (q : CodePart) → k < length qs → q ≡ get_or qs k q
    → content_height (part_of q).content ≤ greatest_height (contents_in (map part_of qs))
part_height [] k q lt e = absurd (omega (arith, lt))
part_height (y ∷ qs) zero q lt e = omega (arith, ap (λ z. content_height (part_of z).content) e)
part_height (y ∷ qs) (suc k) q lt e = omega (arith, part_height qs k q (omega (arith, lt)) e)

-- initializers

pub initializer_none : {a : Emitter} {x n : ℕ} → InitializerCode a a x None n n
initializer_none = record { emits = emits_none 1 (λ w. refl); leads = leads_none; stands = λ p f. refl }

pub initializer_plain : {a b c : Emitter} {x n k m : ℕ} {e : Expression} → Added a b k (tac.SetPlain x 0 m)
    → ExpressionCode b c e 0 n k → InitializerCode a c x (Some (of_plain e)) n m
initializer_plain {x = x} {k = k} {e = e} h hx =
    let top = most (value_content e ∷ []) in
    let set = added_emits top h (omega arith) (λ ts w. refl) in
    let value = evaluated_emits e top hx (omega arith) in
    record {
      emits = emits_then top (initializer_weight x (Some (of_plain e))) set value (omega arith) (omega arith)
          (λ w. omega arith);
      leads = leads_then (leads_added h) hx.leads;
      stands = λ p f. (k, hx.stands p f, added_holds h tt (fills_before hx.emits f));
    }

pub initializer_object : {a b c : Emitter} {x n k m : ℕ} {qs : List Part} → PartsCode a b x qs k m
    → Added b c n (tac.Zero x k) → InitializerCode a c x (Some (of_object qs)) n m
initializer_object {x = x} {k = k} {qs = qs} hs h =
    let top = most (contents_in qs) in
    let clear = added_emits top h (omega arith) (λ ts w. refl) in
    record {
      emits = emits_then top (initializer_weight x (Some (of_object qs))) hs.emits clear (omega arith) (omega arith)
          (λ w. omega arith);
      leads = leads_then hs.leads (leads_added h);
      stands = λ p f. (k, added_holds h tt f, hs.stands p (fills_before clear f));
    }

pub declared_none : {a : Emitter} {n : ℕ} → DeclaredCode a a [] n n
declared_none = record { emits = emits_none 1 (λ w. refl); leads = leads_none; stands = λ p f. refl }

declared_more : {a b c : Emitter} {n k m : ℕ} (d : DeclaredVariable) (ds : List DeclaredVariable)
    → DeclaredCode a b ds k m
    → InitializerCode b c d.variable d.initializer n k → DeclaredCode a c (d ∷ ds) n m
declared_more {k = k} d ds hs h =
    let top = most (declared_contents (d ∷ ds)) in
    let both = greatest_and (initializer_contents d.initializer) (declared_contents ds) in
    record {
      emits = emits_then top (declared_weight (d ∷ ds)) hs.emits h.emits (omega (arith, both)) (omega (arith, both))
          (λ w. omega arith);
      leads = leads_then hs.leads h.leads;
      stands = λ p f. (k, h.stands p f, hs.stands p (fills_before h.emits f));
    }

pub next_declared : {a b c : Emitter} {n k m : ℕ} (ds : List CodeDeclared) (i : ℕ) (d : CodeDeclared) → 1 ≤ i
    → i ≤ length ds
    → d ≡ get_or ds (i - 1) d → DeclaredCode a b (map declared_of (drop i ds)) k m
    → InitializerCode b c d.variable (declared_of d).initializer n k
    → DeclaredCode a c (map declared_of (drop (i - 1) ds)) n m
next_declared {a = a} {c = c} {n = n} {m = m} ds i d ge le is hs h =
    subst (λ l. DeclaredCode a c l n m) (drop_before declared_of ds i d ge le is) (declared_more (declared_of d) _ hs h)

pub declared_height : (ds : List CodeDeclared) (k : ℕ) (d : CodeDeclared) → k < length ds → d ≡ get_or ds k d
    → greatest_height (initializer_contents (declared_of d).initializer)
    ≤ greatest_height (declared_contents (map declared_of ds))
declared_height [] k d lt e = absurd (omega (arith, lt))
declared_height (y ∷ ds) zero d lt e =
    let both = greatest_and (initializer_contents (declared_of y).initializer)
    (declared_contents (map declared_of ds)) in
    omega (arith, both, ap (λ z. greatest_height (initializer_contents (declared_of z).initializer)) e)
declared_height (y ∷ ds) (suc k) d lt e =
    let both = greatest_and (initializer_contents (declared_of y).initializer)
    (declared_contents (map declared_of ds)) in
    omega (arith, both, declared_height ds k d (omega (arith, lt)) e)

-- the parts of a `for`

pub first_nothing : {a : Emitter} {n : ℕ} → FirstCode a a nothing n n
first_nothing = record { emits = emits_none 1 (λ w. refl); leads = leads_none; stands = λ p f. refl }

pub first_value : {a b : Emitter} {n m : ℕ} {e : Expression} → ExpressionCode a b e 0 n m
    → FirstCode a b (first_expression e) n m
first_value {e = e} h = record {
  emits = evaluated_emits e (most (value_content e ∷ [])) h (omega arith);
  leads = h.leads;
  stands = h.stands;
}

pub first_declared : {a b : Emitter} {n m : ℕ} {ds : List DeclaredVariable} → DeclaredCode a b ds n m
    → FirstCode a b (first_declaration ds) n m
first_declared h = record { emits = h.emits; leads = h.leads; stands = h.stands }

pub condition_none : {a : Emitter} {n m : ℕ} → ConditionCode a a None n n m
condition_none = record { emits = emits_none 1 (λ w. refl); leads = leads_first; stands = λ p f. refl }

pub condition_some : {a b c : Emitter} {n k t u : ℕ} {e : Expression} → Added a b k (tac.Branch 0 t u)
    → ExpressionCode b c e 0 n k → ConditionCode a c (Some e) n t u
condition_some {k = k} {e = e} h hx =
    let top = most (value_content e ∷ []) in
    let branch = added_emits top h (omega arith) (λ ts w. refl) in
    let value = evaluated_emits e top hx (omega arith) in
    record {
      emits = emits_then top (condition_weight (Some e)) branch value (omega arith) (omega arith) (λ w. omega arith);
      leads = leads_then (leads_added h) hx.leads;
      stands = λ p f. (k, hx.stands p f, added_holds h tt (fills_before hx.emits f));
    }

pub part_none : {a : Emitter} {n : ℕ} → PartCode a a None n n
part_none = record { emits = emits_none 1 (λ w. refl); leads = leads_none; stands = λ p f. refl }

pub part_some : {a b : Emitter} {n m : ℕ} {e : Expression} → ExpressionCode a b e 0 n m → PartCode a b (Some e) n m
part_some {e = e} h = record {
  emits = evaluated_emits e (most (value_content e ∷ [])) h (omega arith);
  leads = h.leads;
  stands = h.stands;
}

pub height_one : (e : Expression) (limit : ℕ) → greatest_height (value_content e ∷ []) < limit → height e < limit
height_one e limit h = omega (arith, h)

pub room_one : (e : CodeExpression) (limit : ℕ) → greatest_height (value_content (expression_of e) ∷ []) < limit
    → 0 + used (expression_of e) < limit
room_one e limit h = omega (arith, fits (expression_of e), h)

pub ruleset contents = (value_code, literal_code, room_for)

pub ruleset no_parts = (parts_none)

pub ruleset initializers = (initializer_plain, initializer_object, room_one)

pub ruleset no_initializer = (initializer_none)

pub ruleset no_declared = (declared_none)

pub ruleset firsts = (first_nothing, first_value, first_declared, room_one)

pub ruleset conditions = (condition_none, condition_some, room_one)

pub ruleset evaluated = (part_none, part_some, room_one)
