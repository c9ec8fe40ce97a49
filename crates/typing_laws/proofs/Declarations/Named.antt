-- A declarator gives a shape with the name that it declares (C99 6.7.5).
use Rattle.std.proofs.Common.{◌≡◌, ℕ, Bool, false, ◌&&◌, refl, Option}
use Rattle.std.specs.Prelude.{Ok, Err, option_map}
use Rattle.c_syntax.specs.Formed as formed
use Rattle.c_syntax.specs.Tree.{Declarator}
use Rattle.c_syntax.specs.Tree as tree
use Rattle.c_faults.specs.Answer.{Answer, ◌>>=◌}
use Rattle.c_scope.specs.Names.{Name}
use Rattle.c_declarator_typing.specs.Declarators.{Shape}
use Rattle.c_typing_state.specs.State.{State}
use Rattle.c_expression_typing.specs.Constructs.{valued}
use Rattle.c_expression_typing.specs.Typed.{parameter_types, shape, typed}
use Rattle.typing_laws.proofs.Common.{IfGives}

abbrev pub named_as : Option (Name × ℕ) → Option Name
named_as o = option_map (λ n. n.0) o

abbrev pub HasNameOf : Declarator → Shape → Type 0
HasNameOf d sh = named_as sh.name ≡ formed.declared d

then_named : (d e : Declarator) (a : Answer (State × Shape)) (next : Shape → State → Answer (State × Shape))
    → IfGives (HasNameOf d) a → ((sh : Shape) (u : State) → HasNameOf d sh → IfGives (HasNameOf e) (next sh u))
    → IfGives (HasNameOf e) (a >>= λ r. next r.1 r.0)
then_named d e (Ok r) next h k = k r.1 r.0 h
then_named d e (Err x) next h k = tt

behind_named : {A : Type 0} (e : Declarator) (a : Answer (State × A)) (next : A → State → Answer (State × Shape))
    → ((x : A) (u : State) → IfGives (HasNameOf e) (next x u)) → IfGives (HasNameOf e) (a >>= λ r. next r.1 r.0)
behind_named e (Ok r) next k = k r.1 r.0
behind_named e (Err x) next k = tt

pub shape_named : (b : Bool) (d : Declarator) (s : State) → IfGives (HasNameOf d) (shape b d s)
shape_named b (tree.named x) s = refl
shape_named b tree.unnamed s = refl
shape_named b (tree.pointer at consts d) s =
    then_named d (tree.pointer at consts d) (shape b d s) _ (shape_named b d s) (λ sh u e. e)
shape_named b (tree.grouped l d r) s = shape_named b d s
shape_named b (tree.open_array d l r) s =
    then_named d (tree.open_array d l r) (shape b d s) _ (shape_named b d s) (λ sh u e. e)
shape_named b (tree.array d l e r) s =
    then_named d (tree.array d l e r) (shape b d s) _ (shape_named b d s)
    (λ sh u g. behind_named (tree.array d l e r) (valued (typed false e) u) _ (λ v w. g))
shape_named b (tree.function d l ps r) s =
    then_named d (tree.function d l ps r) (shape b d s) _ (shape_named b d s)
    (λ sh u g. behind_named (tree.function d l ps r) (parameter_types (b && formed.is_plain_name d) ps _) _
    (λ types w. g))
