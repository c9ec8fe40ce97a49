-- What is known of the program of an accepted source.
use Rattle.std.proofs.Common.{◌≡◌, ◌≤◌, ℕ, suc, zero, ◌+◌, ◌*◌, Bool, true, false, List, [], ◌∷◌, length, Some, Ok, Err}
use Rattle.std.proofs.Common.{refl, sym, subst, arith}
use Rattle.std.specs.Prelude.{◌&&◌, ◌/◌}
use Rattle.std.specs.List.{list_all}
use Rattle.std.proofs.lemmas.Bool.Decides.{nat_tests}
use Rattle.c_lexer.specs.Spelled.{TokenList}
use Rattle.c_syntax.specs.Statements.{Unit, External}
use Rattle.c_tree.specs.Programs.{Function, Program, StaticObject}
use Rattle.c_faults.specs.Answer.{Answer}
use Rattle.c_unit_typing.specs.Files.{File}
use Rattle.c_unit_typing.specs.Programs.{program_of}
use Rattle.c_unit_typing.specs.Typed.{a_program, end_behind, global_bytes, most_bytes, typed_as, typed_unit}
use Rattle.c_unit_typing.specs.Units.{file_in}
use Rattle.c_unit_typing.proofs.Within.{given_within}
use Rattle.c_typer.specs.Limited.{has_few_parameters}
use Rattle.source_meaning.specs.Calls.{function_at}
use Rattle.source_meaning.specs.Meaning.{statics_end}
use Rattle.image_laws.specs.Images.Images.{most_parameters}
use Rattle.sbcets_core.specs.Accepted.{HasProgram, IsFine}

first_holds : (a b : Bool) → (a && b) ≡ true → a ≡ true
first_holds true b e = refl
first_holds false b e = e

second_holds : (a b : Bool) → (a && b) ≡ true → b ≡ true
second_holds true b e = e
second_holds false b e = absurd (cc e)

few_parameters : (f : Function) → has_few_parameters f ≡ true → length f.parameters ≤ most_parameters
few_parameters f e = grind (arith, nat_tests)

each_few : (fs : List Function) → list_all has_few_parameters fs ≡ true → (u : ℕ) (f : Function)
    → function_at fs u ≡ Some f → length f.parameters ≤ most_parameters
each_few [] all u f e = absurd (cc e)
each_few (g ∷ fs) all zero f e =
    let same : g ≡ f = cc e in
    subst (λ x. length x.parameters ≤ most_parameters) same
    (few_parameters g (first_holds (has_few_parameters g) (list_all has_few_parameters fs) all))
each_few (g ∷ fs) all (suc u) f e =
    each_few fs (second_holds (has_few_parameters g) (list_all has_few_parameters fs) all) u f e

-- its static objects end within the limit

ends_alike : (os : List StaticObject) (n : ℕ) → statics_end os n ≡ end_behind n os
ends_alike [] n = refl
ends_alike (o ∷ os) n = ends_alike os _

typed_small : (es : List External) (f : Answer File) (p : Program) → typed_as es f ≡ a_program p
    → global_bytes p ≤ most_bytes
typed_small es (Err fault) p e = absurd cc
typed_small es (Ok file) p e =
    let within = given_within es (program_of file) p e in
    subst (λ q. global_bytes q ≤ most_bytes) within.same within.bytes

unit_small : (end : ℕ) (u : Unit) (p : Program) → typed_unit end u ≡ a_program p → global_bytes p ≤ most_bytes
unfolding typed_unit
unit_small end u p e = typed_small u.externals (file_in end u.externals) p e

rounded_below : (n : ℕ) → (n + 4095) / 4096 * 4096 ≤ most_bytes → n ≤ most_bytes
rounded_below n h = omega (arith, h)

small_globals : (end : ℕ) (u : Unit) (p : Program) → typed_unit end u ≡ a_program p
    → statics_end p.statics 0 ≤ most_bytes
small_globals end u p e =
    subst (λ n. n ≤ most_bytes) (sym (ends_alike p.statics 0))
    (rounded_below (end_behind 0 p.statics) (unit_small end u p e))

pub fine : (list : TokenList) (p : Program) → HasProgram list p → IsFine p
fine list p h = record {
  valid = h.valid;
  constant = h.constant;
  few = h.within.functions;
  parameters = record { each = each_few p.functions h.within.parameters };
  globals = small_globals list.end h.tree p h.typed;
}
