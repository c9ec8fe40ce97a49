-- All static objects of the program of a file are valid.
use Rattle.std.proofs.Common.{◌≡◌, ℕ, zero, suc, Bool, true, false, refl, ap, ◌∙◌, List, [], ◌∷◌, ◌++◌}
use Rattle.std.proofs.Common.{if◌then◌else◌}
use Rattle.std.specs.Prelude.{◌==◌, ◌&&◌, map}
use Rattle.std.specs.List.{list_all}
use Rattle.c_tree.specs.Programs.{Program, StaticObject}
use Rattle.c_tree.specs.ValidProgram.{is_static_object}
use Rattle.c_unit_typing.specs.Files.{Definition, File}
use Rattle.c_unit_typing.specs.Programs.{in_order, linked_objects, literal_object, program_of, with_number}
use Rattle.typing_laws.specs.Validity.Steps.{Structures}
use Rattle.typing_laws.proofs.Validity.Common.{first as left_true, second as right_true}
use Rattle.typing_laws.proofs.Places.Labels.{all_append}
use Rattle.program_laws.specs.Bodies.Whole.{AreInTurn}
use Rattle.program_laws.specs.Statics.Program.{AreFunctionsOf, HasObjectsOf, are_static_objects}
use Rattle.program_laws.proofs.Statics.Linked.{linked_valid}
use Rattle.program_laws.proofs.Statics.Program.{block_objects, string_literals}

-- those of blocks

together : (p : Program) (xs ys : List (ℕ × StaticObject)) → are_static_objects p xs ≡ true
    → are_static_objects p ys ≡ true → are_static_objects p (xs ++ ys) ≡ true
together p xs ys e g = all_append (λ o. is_static_object p o.1) xs ys e g

module _ (p : Program) (structures : Structures) (end : File) where
  blocks_valid : (ds : List Definition) (before behind : List (ℕ × StaticObject))
      → (turn : AreInTurn end ds before behind) → AreFunctionsOf p structures end ds before behind turn
      → are_static_objects p before ≡ true → are_static_objects p behind ≡ true
  blocks_valid [] before behind turn is e = ap (are_static_objects p) turn ∙ e
  blocks_valid (d ∷ ds) before behind turn is e =
      let defines = turn.0.is.defines in
      let adds = block_objects p structures turn.0.is.before turn.0.is.behind defines is.0 in
      blocks_valid ds defines.end.statics behind turn.1 is.1
      (ap (are_static_objects p) adds.is
      ∙ together p defines.before.statics adds.objects (ap (are_static_objects p) turn.0.statics ∙ e) adds.valid)

-- by their numbers

chosen : (p : Program) (b : Bool) (x : StaticObject) (xs : List StaticObject) → is_static_object p x ≡ true
    → list_all (is_static_object p) xs ≡ true
    → list_all (is_static_object p) (if b then x ∷ [] else xs) ≡ true
chosen p true x xs e g = ap (λ z. z && true) e
chosen p false x xs e g = g

numbered : (p : Program) (n : ℕ) (os : List (ℕ × StaticObject)) → are_static_objects p os ≡ true
    → list_all (is_static_object p) (with_number n os) ≡ true
numbered p n [] e = refl
numbered p n (o ∷ os) e =
    chosen p (n == o.0) o.1 (with_number n os) (left_true (is_static_object p o.1) (are_static_objects p os) e)
    (numbered p n os (right_true (is_static_object p o.1) (are_static_objects p os) e))

ordered : (p : Program) (n k : ℕ) (os : List (ℕ × StaticObject)) → are_static_objects p os ≡ true
    → list_all (is_static_object p) (in_order n k os) ≡ true
ordered p n zero os e = refl
ordered p n (suc k) os e =
    all_append (is_static_object p) (with_number n os) (in_order (suc n) k os) (numbered p n os e)
    (ordered p (suc n) k os e)

pub file_objects : (f : File) → HasObjectsOf f
    → list_all (is_static_object (program_of f)) (program_of f).statics ≡ true
file_objects f is =
    let p = program_of f in
    let linked = linked_objects f f.state.environment.entities in
    ordered p 0 f.state.environment.statics (map literal_object f.state.literals ++ f.statics ++ linked)
    (together p (map literal_object f.state.literals ++ f.statics) linked
    (together p (map literal_object f.state.literals) f.statics
    (string_literals p is.scope p.structures f.state is.covers is.literals)
    (blocks_valid p p.structures f f.definitions [] f.statics is.turn is.functions refl))
    (linked_valid p f f.state.environment.entities is.linked))
