-- What proofs of several subjects cite: of booleans and options, and steps of declarations.
use Rattle.std.proofs.Common.{◌≡◌, ℕ, Bool, true, false, ◌&&◌, ◌==◌, if◌then◌else◌, refl, List, [], ◌∷◌, Option}
use Rattle.std.proofs.Common.{Some, None}
use Rattle.std.specs.Prelude.{Ok, Err, is_some, option_map}
use Rattle.std.proofs.lemmas.Bool.{and_from, eq-eqb}
use Rattle.c_tree.specs.declared.c_type.TypeWord.{TypeWord}
use Rattle.c_tree.specs.declared.expression.Kind.TheVariants as kind
use Rattle.c_tree.specs.Valid.{Scope}
use Rattle.c_faults.specs.Answer.{Answer, violates, ◌>>=◌}
use Rattle.c_faults.specs.declared.fault.Rule.{Rule}
use Rattle.c_faults.specs.declared.fault.Rule.TheVariants.{LargeType}
use Rattle.c_scope.specs.declared.meaning.Designated.{Designated}
use Rattle.c_scope.specs.Declaring.{when, when_some}
use Rattle.c_scope.specs.Names.{Name, or_else}
use Rattle.c_typing_state.specs.State.{State, Typing}
use Rattle.c_unit_typing.specs.Declarations.{with_size}
use Rattle.c_unit_typing.specs.Files.{File}

pub conflict : {P : Type 0} → false ≡ true → P
conflict e = cc

abbrev pub filed : {A : Type 0} → File → State × A → Answer (File × A)
filed f r = Ok (record f { state = r.0 }, r.1)

-- what a construct gives, whatever state it leaves
abbrev pub IfGives : {A : Type 0} → (A → Type 0) → Answer (State × A) → Type 0
IfGives p (Ok r) = p r.1
IfGives p (Err e) = Unit {0}

-- what stands behind a construct, whatever this gives
pub then_gives : {A B : Type 0} (p : B → Type 0) (a : Answer (State × A)) (next : A → Typing B)
    → ((x : A) (u : State) → IfGives p (next x u)) → IfGives p (a >>= λ r. next r.1 r.0)
then_gives p (Ok r) next h = h r.1 r.0
then_gives p (Err e) next h = tt

abbrev pub unless_large : State → Designated → Name → (array : TypeWord) → (element : List TypeWord) → (line : ℕ)
    → (large : Bool) → Answer (State × List TypeWord)
unless_large s d name array element line large =
    if large then violates LargeType line
    else Ok (record s { environment = with_size d name (array ∷ element) s.environment }, array ∷ element)

pub same_number : (n : ℕ) → (n == n) ≡ true
same_number n = eq-eqb n n refl

pub three : (a b c : Bool) → a ≡ true → b ≡ true → c ≡ true → (a && b && c) ≡ true
three a b c e g h = and_from (a && b) c (and_from a b e g) h

-- where a test fails, what is chosen otherwise holds
pub other_is : (b x y : Bool) → b ≡ false → (if b then x else y) ≡ true → y ≡ true
other_is true x y e g = absurd cc
other_is false x y e g = g

pub some_mapped : {A B : Type 0} (g : A → B) (x : Option A) → is_some (option_map g x) ≡ is_some x
some_mapped g None = refl
some_mapped g (Some x) = refl

-- what holds of both holds of the one that is chosen
pub inner_or : {A : Type 0} (P : A → Type 0) (a b : Option A) → ((x : A) → a ≡ Some x → P x)
    → ((x : A) → b ≡ Some x → P x) → (x : A) → or_else a b ≡ Some x → P x
inner_or P None b h g x e = g x e
inner_or P (Some y) b h g x e = h x e

pub passed : (b : Bool) (r : Rule) (line : ℕ) (other : Answer (Unit {0})) (x : Unit {0}) → when b r line other ≡ Ok x
    → (b ≡ false) × (other ≡ Ok x)
passed true r line other x e = absurd cc
passed false r line other x e = (refl, e)

pub passed_some : (o : Option Rule) (line : ℕ) (other : Answer (Unit {0})) (x : Unit {0})
    → when_some o line other ≡ Ok x → (o ≡ None) × (other ≡ Ok x)
passed_some (Some r) line other x e = absurd cc
passed_some None line other x e = (refl, e)

-- where what holds of a program does not matter
pub some_scope : Scope
some_scope = record { statics = []; functions = []; types = []; all = []; variables = []; result = kind.Void }
