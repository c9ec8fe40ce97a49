-- The typed program of a file has the nodes of the file (C99 6.9).
use Rattle.std.proofs.Common.{◌≡◌, ℕ, zero, suc, ◌+◌, ◌*◌, ◌≤◌, ◌==◌, Bool, true, false, refl, ap, subst, List, [], ◌∷◌}
use Rattle.std.proofs.Common.{◌++◌, map, Option, Some, None, arith, if◌then◌else◌, length}
use Rattle.std.specs.Prelude.{Ok, Err}
use Rattle.std.proofs.lemmas.Bool.{eqb-true}
use Rattle.c_syntax.specs.Statements.{External, Unit as TextUnit}
use Rattle.c_syntax.specs.Words.{unit_words}
use Rattle.c_tree.specs.declared.c_type.TypeWord.{TypeWord}
use Rattle.c_tree.specs.Programs.{Program, StaticObject}
use Rattle.c_tree.specs.Statements.{Part}
use Rattle.c_faults.specs.Answer.{Answer}
use Rattle.c_const.specs.Initializers.{first_not_constant}
use Rattle.c_counts.specs.Counts.{Count, counts_of}
use Rattle.c_counts.specs.Excess.{first_above, members_among, most_members, most_parameters, parameters_among}
use Rattle.c_scope.specs.declared.meaning.Designated.{Designated}
use Rattle.c_scope.specs.declared.meaning.Designated.TheVariants as what
use Rattle.c_scope.specs.declared.meaning.Entity.{Entity}
use Rattle.c_scope.specs.Names.{Names}
use Rattle.c_typing_state.specs.State.{Literal}
use Rattle.c_unit_typing.specs.declared.limits.Limited.{Limited}
use Rattle.c_unit_typing.specs.declared.limits.Limited.TheVariants as limited
use Rattle.c_unit_typing.specs.Files.{Definition, File}
use Rattle.c_unit_typing.specs.Programs.{functions_from, in_order, linked_object, linked_objects, literal_object}
use Rattle.c_unit_typing.specs.Programs.{parts_of, program_of, static_objects, with_number}
use Rattle.c_unit_typing.specs.Typed.{TypedUnit, a_fault, a_program, global_bytes, limited_program}
use Rattle.c_unit_typing.specs.Typed.{most_bytes, most_functions, not_constant, too_large, typed_as, typed_unit}
use Rattle.c_unit_typing.specs.Typed.{unless_not_constant, when_large}
use Rattle.c_unit_typing.specs.Units.{file_in}
use Rattle.program_laws.specs.TreeSizes.Nodes.{functions_nodes, nodes_of, parts_nodes, statics_nodes}
use Rattle.program_laws.specs.TreeSizes.WordCounts.{words_in_externals, words_of}
use Rattle.program_laws.proofs.TreeSizes.Words.{unit_count}
use Rattle.program_laws.specs.ProgramSizes.Sizes.{definition_nodes, file_nodes, initial_nodes, object_nodes, sum_by}
use Rattle.program_laws.proofs.ProgramSizes.Files.{file_bound}
use Rattle.program_laws.proofs.ProgramSizes.Numbers.{first_size, found_at_most, total, total_at_most, total_sum}

-- static objects by their numbers

statics_append : (os us : List StaticObject) → statics_nodes (os ++ us) ≡ statics_nodes os + statics_nodes us
statics_append [] us = omega arith
statics_append (o ∷ os) us = omega (arith, statics_append os us)

abbrev found : List (ℕ × StaticObject) → ℕ → ℕ
found os n = statics_nodes (with_number n os)

in_order_nodes : (os : List (ℕ × StaticObject)) (n k : ℕ) → statics_nodes (in_order n k os) ≡ total (found os) n k
in_order_nodes os n zero = refl
in_order_nodes os n (suc k) =
    omega (arith, statics_append (with_number n os) (in_order (suc n) k os), in_order_nodes os (suc n) k)

found_by : (b : Bool) (o : StaticObject) (os : List StaticObject) (m : ℕ) → statics_nodes os ≡ m
    → statics_nodes (if b then o ∷ [] else os) ≡ (if b then parts_nodes o.parts else m)
found_by true o os m e = omega arith
found_by false o os m e = e

found_first : (os : List (ℕ × StaticObject)) (n : ℕ)
    → found os n ≡ first_size (λ o. o.0) object_nodes os n
found_first [] n = refl
found_first (o ∷ os) n = found_by (n == o.0) o.1 (with_number n os) _ (found_first os n)

either_by : (b : Bool) (o : StaticObject) (os us ws : List StaticObject)
    → statics_nodes os ≤ statics_nodes us + statics_nodes ws
    → statics_nodes (if b then o ∷ [] else os) ≤ statics_nodes (if b then o ∷ [] else us) + statics_nodes ws
either_by true o os us ws h = omega arith
either_by false o os us ws h = h

found_either : (os us : List (ℕ × StaticObject)) (n : ℕ) → found (os ++ us) n ≤ found os n + found us n
found_either [] us n = omega arith
found_either (o ∷ os) us n =
    either_by (n == o.0) o.1 (with_number n (os ++ us)) (with_number n os) (with_number n us) (found_either os us n)

-- those with linkage, with their initializers

abbrev initial : List (ℕ × List Part) → ℕ → ℕ
initial is n = parts_nodes (parts_of n is)

initial_by : (b : Bool) (ps qs : List Part) (m : ℕ) → parts_nodes qs ≡ m
    → parts_nodes (if b then ps else qs) ≡ (if b then parts_nodes ps else m)
initial_by true ps qs m e = refl
initial_by false ps qs m e = e

initial_first : (is : List (ℕ × List Part)) (n : ℕ) → initial is n ≡ first_size (λ i. i.0) initial_nodes is n
initial_first [] n = refl
initial_first (i ∷ is) n = initial_by (n == i.0) i.1 (parts_of n is) _ (initial_first is n)

same_initial : (is : List (ℕ × List Part)) (n m : ℕ) → n ≡ m → initial is n ≡ initial is m
same_initial is n m e = ap (initial is) e

object_by : (b : Bool) (is : List (ℕ × List Part)) (n m : ℕ) → (n == m) ≡ b → (o : StaticObject)
    → o.parts ≡ parts_of m is → (os : List StaticObject) → statics_nodes os ≤ initial is n
    → statics_nodes (if b then o ∷ [] else os) ≤ initial is n
object_by true is n m e o same os h = omega (arith, same_initial is n m (eqb-true n m e), ap parts_nodes same)
object_by false is n m e o same os h = h

linked_found : (f : File) (type : List TypeWord) (d : Designated) (es : List (ℕ × StaticObject)) (n : ℕ)
    → found es n ≤ initial f.initializers n
    → found (linked_object f type d ++ es) n ≤ initial f.initializers n
linked_found f type (what.Object m) es n h = object_by (n == m) f.initializers n m refl _ refl (with_number n es) h
linked_found f type (what.Static m) es n h = h
linked_found f type (what.Function m) es n h = h
linked_found f type (what.Library r) es n h = h
linked_found f type (what.Variable m) es n h = h

linked_nodes : (f : File) (es : Names Entity) (n : ℕ) → found (linked_objects f es) n ≤ initial f.initializers n
linked_nodes f [] n = omega arith
linked_nodes f (e ∷ es) n = linked_found f e.1.c_type e.1.what (linked_objects f es) n (linked_nodes f es n)

-- all static objects

literals_sum : (ls : List Literal) → sum_by object_nodes (map literal_object ls) ≡ length ls
literals_sum [] = refl
literals_sum (l ∷ ls) = omega (arith, literals_sum ls)

found_total : (os : List (ℕ × StaticObject)) (n k : ℕ) → total (found os) n k ≤ sum_by object_nodes os
found_total os n k =
    omega (
      arith,
      total_at_most (found os) (first_size (λ o. o.0) object_nodes os)
          (λ i. let same = found_first os i in omega arith) n k,
      found_at_most (λ o. o.0) object_nodes os n k,
    )

initial_total : (is : List (ℕ × List Part)) (n k : ℕ) → total (initial is) n k ≤ sum_by initial_nodes is
initial_total is n k =
    omega (
      arith,
      total_at_most (initial is) (first_size (λ i. i.0) initial_nodes is)
          (λ i. let same = initial_first is i in omega arith) n k,
      found_at_most (λ i. i.0) initial_nodes is n k,
    )

three_found : (os us ws : List (ℕ × StaticObject)) (is : List (ℕ × List Part))
    → ((n : ℕ) → found ws n ≤ initial is n) → (n : ℕ)
    → found (os ++ us ++ ws) n ≤ found os n + (found us n + initial is n)
three_found os us ws is h n = omega (arith, found_either (os ++ us) ws n, found_either os us n, h n)

statics_bound : (f : File) → statics_nodes (static_objects f)
    ≤ length f.state.literals + sum_by object_nodes f.statics + sum_by initial_nodes f.initializers
statics_bound f =
    let k = f.state.environment.statics in
    let literals = map literal_object f.state.literals in
    let linked = linked_objects f f.state.environment.entities in
    let is = f.initializers in
    let all = literals ++ f.statics ++ linked in
    let each = total_at_most (found all) (λ n. found literals n + (found f.statics n + initial is n))
    (three_found literals f.statics linked is (linked_nodes f f.state.environment.entities)) 0 k in
    let outer = total_sum (found literals) (λ n. found f.statics n + initial is n) 0 k in
    let inner = total_sum (found f.statics) (initial is) 0 k in
    omega (
      arith,
      in_order_nodes all 0 k,
      each,
      outer,
      inner,
      found_total literals 0 k,
      literals_sum f.state.literals,
      found_total f.statics 0 k,
      initial_total is 0 k,
    )

functions_same : (f : File) (os : List StaticObject) (n : ℕ) (ds : List Definition)
    → functions_nodes (functions_from f os n ds) ≡ sum_by definition_nodes ds
functions_same f os n [] = refl
functions_same f os n (d ∷ ds) = omega (arith, functions_same f os (suc n) ds)

pub program_nodes : (f : File) → nodes_of (program_of f) ≤ file_nodes f
program_nodes f = omega (arith, statics_bound f, functions_same f (static_objects f) 0 f.definitions)

-- the typed program of a file

pub file_program : (end : ℕ) (xs : List External) (f : File) → file_in end xs ≡ Ok f
    → nodes_of (program_of f) ≤ 3 * words_in_externals xs
file_program end xs f h = let low = (file_bound end xs).each f h in omega (arith, program_nodes f)

abbrev IfProgram : ℕ → TypedUnit → Type 0
IfProgram n (a_program p) = nodes_of p ≤ n
IfProgram n (a_fault f) = Unit {0}
IfProgram n (not_constant line) = Unit {0}
IfProgram n (too_large which count) = Unit {0}

large_by : (n : ℕ) (which : Limited) (count : Option ℕ) (other : TypedUnit) → IfProgram n other
    → IfProgram n (when_large which count other)
large_by n which None other h = h
large_by n which (Some count) other h = tt

limited_by : (n : ℕ) (cs : List Count) (p : Program) → nodes_of p ≤ n → IfProgram n (limited_program cs p)
limited_by n cs p h =
    let bytes = first_above most_bytes (global_bytes p ∷ []) in
    let members = first_above most_members (members_among cs) in
    let parameters = first_above most_parameters (parameters_among cs) in
    let sized = when_large limited.Globals bytes (a_program p) in
    let formed = when_large limited.Members members sized in
    large_by n limited.Functions (first_above most_functions (length p.functions ∷ []))
    (when_large limited.Parameters parameters formed) (large_by n limited.Parameters parameters formed
    (large_by n limited.Members members sized (large_by n limited.Globals bytes (a_program p) h)))

constant_by : (line : Option ℕ) (n : ℕ) (cs : List Count) (p : Program) → nodes_of p ≤ n
    → IfProgram n (unless_not_constant line (limited_program cs p))
constant_by None n cs p h = limited_by n cs p h
constant_by (Some line) n cs p h = tt

typed_by : (xs : List External) (n : ℕ) (a : Answer File) → ((f : File) → a ≡ Ok f → nodes_of (program_of f) ≤ n)
    → IfProgram n (typed_as xs a)
typed_by xs n (Err e) h = tt
typed_by xs n (Ok f) h =
    constant_by (first_not_constant (program_of f)) n (counts_of xs) (program_of f) (h f refl)

unit_by : (end : ℕ) (u : TextUnit) → IfProgram (3 * words_of u) (typed_unit end u)
unfolding typed_unit
unit_by end u = typed_by u.externals (3 * words_of u) (file_in end u.externals) (file_program end u.externals)

pub unit_program : (end : ℕ) (u : TextUnit) (p : Program) → typed_unit end u ≡ a_program p
    → nodes_of p ≤ 3 * words_of u
unit_program end u p h = subst (IfProgram (3 * words_of u)) h (unit_by end u)

pub unit_words_program : (end : ℕ) (u : TextUnit) (p : Program) → typed_unit end u ≡ a_program p
    → nodes_of p ≤ 3 * length (unit_words u)
unit_words_program end u p h = omega (arith, unit_program end u p h, unit_count u)
