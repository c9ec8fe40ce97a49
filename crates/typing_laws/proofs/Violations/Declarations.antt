-- The first violation in a declaration is what typing answers.
use Rattle.std.proofs.Common.{◌≡◌, ℕ, Bool, false, refl, ap, subst, List, [], ◌∷◌, ◌++◌}
use Rattle.std.proofs.Common.{Option, Some, None}
use Rattle.std.specs.Prelude.{Ok, Err, is_none, is_some, option_map}
use Rattle.c_syntax.specs.declared.position.Position.{Position}
use Rattle.c_syntax.specs.Statements as t
use Rattle.c_syntax.specs.Tree.{Initializer}
use Rattle.c_tree.specs.declared.c_type.TypeWord.{TypeWord}
use Rattle.c_tree.specs.Statements.{DeclaredVariable}
use Rattle.c_faults.specs.Answer.{Answer, ◌>>=◌}
use Rattle.c_scope.specs.declared.meaning.Designated.{Designated}
use Rattle.c_scope.specs.declared.meaning.Designated.TheVariants as what
use Rattle.c_scope.specs.declared.meaning.Meaning.{Meaning}
use Rattle.c_scope.specs.declared.meaning.Meaning.TheVariants as meaning
use Rattle.c_scope.specs.Names.{Name}
use Rattle.c_initializer_rules.specs.Initializing.{begun}
use Rattle.c_declarator_typing.specs.Declarators.{Shape}
use Rattle.c_declarator_typing.specs.Specifications.{Specification}
use Rattle.c_typing_state.specs.State.{State, judged}
use Rattle.c_expression_typing.specs.Typed as expression_typing
use Rattle.c_unit_typing.specs.Declarations as typing
use Rattle.c_unit_typing.specs.Declarations.{alone_in, declared_as, initializer_in, stored_once, with_parts}
use Rattle.c_unit_typing.specs.Declarations.{with_static, with_variable}
use Rattle.c_unit_typing.specs.Files.{File, FileTyping}
use Rattle.c_unit_typing.specs.Lines.{initializer_line}
use Rattle.typing_laws.specs.Violations.Agreeing.{Agree, Agrees}
use Rattle.typing_laws.specs.Violations.Declarations.{at_end, declaration, declarator, declarators, declared}
use Rattle.typing_laws.specs.Violations.Declarations.{declared_by}
use Rattle.typing_laws.specs.Violations.Declarations.{initialized_if, object, others, put_in, sized_by, specifiers}
use Rattle.typing_laws.specs.Violations.Declarations.{with_initializer}
use Rattle.typing_laws.specs.Violations.Expressions.{first_token, name_token}
use Rattle.typing_laws.specs.Violations.Judgements.{Judgement, Judging, followed, with_added}
use Rattle.typing_laws.proofs.Violations.Agreeing.{answer_agrees, followed_agrees, in_turn, made_agrees, ruled_agrees}
use Rattle.typing_laws.proofs.Violations.Expressions.{shape_agrees, specification_agrees}
use Rattle.typing_laws.proofs.Violations.Initializers.{initializer_agrees}
use Rattle.typing_laws.proofs.Violations.Lists.{Adds, adding_agrees, list_agrees, onward_agrees}

abbrev pub put : {A : Type 0} → File → State × A → Answer (File × A)
put f r = Ok (record f { state = r.0 }, r.1)

puts : {A : Type 0} (f : File) (j : Judgement State A) (x : Answer (State × A)) → Agree j x
    → Agrees (put_in f j) (x >>= put f)
puts f j (Ok r) e = record { by = ap (put_in f) e }
puts f j (Err g) e = record { by = e }

pub put_agrees : {A : Type 0} {j : Judgement State A} {x : Answer (State × A)} (f : File) → Agrees j x
    → Agrees (put_in f j) (x >>= put f)
put_agrees {j = j} {x = x} f e = puts f j x e.by

initialized_agrees : (n : ℕ) (what : Designated) (name : Name × ℕ) (type : List TypeWord)
    (x : Option Initializer) (s : State)
    → Agrees (initialized_if n what name type x s) (typing.initialized_if what name type x s)
initialized_agrees n what name type None s = record { by = refl }
initialized_agrees n what name type (Some x) s =
    ruled_agrees n (sized_by what name type) (initializer_agrees x (begun type) s)

object_agrees : (at : ℕ) (name : Name × ℕ) (x : Option Initializer) (m : Option Meaning) (f : File)
    → Agrees (object at name x m f) (typing.declared_with name x m f)
object_agrees at name x (Some (meaning.Named (what.Variable n) type)) f =
    ruled_agrees at (with_variable n (is_some x)) (put_agrees f (initialized_agrees at
    (what.Variable n) name type x f.state))
object_agrees at name x (Some (meaning.Named (what.Static n) type)) f =
    ruled_agrees at (with_static n) (put_agrees f (initialized_agrees at (what.Static n) name type x f.state))
object_agrees at name x (Some (meaning.Named (what.Object n) type)) f =
    ruled_agrees at (with_parts n (is_some x)) (put_agrees f (initialized_agrees at
    (what.Object n) name type x f.state))
object_agrees at name x m f = record { by = refl }

declared_agrees : (in_head : Bool) (at : ℕ) (x : Option Initializer) (spec : Specification) (sh : Shape)
    (name : Option (Name × ℕ)) (f : File)
    → Agrees (declared in_head at x (spec, sh) name f) (typing.named_by in_head spec x sh name f)
declared_agrees in_head at x spec sh None f = record { by = refl }
declared_agrees in_head at x spec sh (Some name) f =
    followed_agrees (with_initializer at name x) (typing.declared_with name x)
    (put_agrees f (answer_agrees at f.state
    (declared_as in_head spec sh (option_map initializer_line x) name f.state)))
    (λ m g. object_agrees at name x m g)

abbrev behind : Specification → State × Shape → Answer (State × (Specification × Shape))
behind spec r = Ok (r.0, (spec, r.1))

declarator_agrees : (in_head : Bool) (spec : Specification) (d : t.InitDeclarator) (f : File)
    → Agrees (declarator in_head (Some spec) d f) (typing.with_declarator in_head spec d f)
declarator_agrees in_head spec d f =
    subst (Agrees (declarator in_head (Some spec) d f)) (by (expression_typing.shape false d.declarator f.state))
    (followed_agrees (declared_by in_head (name_token 0 d.declarator) (initializer_in d))
    (λ v. typing.named_by in_head v.0 (initializer_in d) v.1 v.1.name)
    (put_agrees f (made_agrees (λ sh. (spec, sh)) (shape_agrees false d.declarator f.state)))
    (λ v g. declared_agrees in_head (name_token 0 d.declarator) (initializer_in d) v.0 v.1 v.1.name g))
  where
    by : (x : Answer (State × Shape))
        → (x >>= behind spec >>= put f >>= λ r.
        typing.named_by in_head r.1.0 (initializer_in d) r.1.1 r.1.1.name r.0)
        ≡ (x >>= put f >>= λ r. typing.named_by in_head spec (initializer_in d) r.1 r.1.name r.0)
    by (Ok r) = refl
    by (Err g) = refl

item_agrees : {A : Type 0} (j : Judgement File (List A)) (x : Answer (File × List A)) (before : List A)
    (more : Judging (File × List A) (Unit {0})) (typed : List A → FileTyping (List A)) → Agrees j x
    → ((before : List A) (f : File) → Adds (more (f, before)) (typed before f))
    → Adds (followed (with_added at_end before j) (λ done. more))
    (x >>= λ r. typed (before ++ r.1) r.0)
item_agrees j x before more typed e h =
    subst (Adds (followed (with_added at_end before j) (λ done. more)))
    (in_turn x (λ r. Ok (r.0, before ++ r.1)) (λ q. typed q.1 q.0))
    (onward_agrees more typed (adding_agrees at_end before e) h)

others_agree : (in_head : Bool) (spec : Specification) (ds : List (Position × t.InitDeclarator))
    (vs : List DeclaredVariable) (f : File)
    → Adds (others in_head (Some spec) ds (f, vs)) (typing.with_others in_head spec ds vs f)
others_agree in_head spec [] vs f = record { by = record { by = refl } }
others_agree in_head spec (d ∷ ds) vs f =
    item_agrees _ _ vs (others in_head (Some spec) ds) (typing.with_others in_head spec ds)
    (declarator_agrees in_head spec d.1 f) (λ vs g. others_agree in_head spec ds vs g)

declarators_agree : (in_head : Bool) (first : ℕ) (ds : Option t.InitDeclarators) (spec : Specification) (f : File)
    → Agrees (declarators in_head first ds (Some spec) f) (typing.with_declarators in_head spec ds f)
declarators_agree in_head first None spec f =
    put_agrees f (answer_agrees first f.state (judged (alone_in in_head spec) f.state))
declarators_agree in_head first (Some ds) spec f =
    list_agrees (item_agrees _ _ [] (others in_head (Some spec) ds.others)
    (typing.with_others in_head spec ds.others) (declarator_agrees in_head spec ds.first f)
    (λ vs g. others_agree in_head spec ds.others vs g))

pub specifiers_agree : (is_alone : Bool) (d : t.Declaration) (s : State)
    → Agrees (specifiers is_alone d s) (typing.specified is_alone d s)
specifiers_agree is_alone d s =
    ruled_agrees (first_token d.specifiers) (λ spec. judged (stored_once spec))
    (specification_agrees is_alone d.specifiers s)

pub declaration_agrees : (in_head : Bool) (d : t.Declaration) (f : File)
    → Agrees (declaration in_head d f) (typing.declaration in_head d f)
declaration_agrees in_head d f =
    followed_agrees (declarators in_head (first_token d.specifiers) d.declarators)
    (λ spec. typing.with_declarators in_head spec d.declarators)
    (put_agrees f (specifiers_agree (is_none d.declarators) d f.state))
    (λ spec g. declarators_agree in_head (first_token d.specifiers) d.declarators spec g)
