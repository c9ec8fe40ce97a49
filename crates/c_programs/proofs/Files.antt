-- The program of a file is that of its outline.
use Rattle.std.specs.Prelude.{Option}
use Rattle.std.proofs.Common.{◌≡◌, ℕ, suc, refl, ap, ◌∙◌, List, [], ◌∷◌, ◌++◌, map}
use Rattle.c_tree.specs.declared.c_type.TypeWord.{TypeWord}
use Rattle.c_tree.specs.Extents.{TypeExtent}
use Rattle.c_tree.specs.Programs.{StaticObject}
use Rattle.c_scope.specs.declared.meaning.Designated.{Designated}
use Rattle.c_scope.specs.declared.meaning.Designated.TheVariants.{Function, Library, Object, Static, Variable}
use Rattle.c_scope.specs.declared.meaning.Entity.{Entity}
use Rattle.c_scope.specs.Names.{Names}
use Rattle.c_typing_state.specs.State.{extents}
use Rattle.c_unit_typing.specs.Files.{Definition, File}
use Rattle.c_unit_typing.specs.Programs.{function_of, functions_from, in_order, linked_object, linked_objects}
use Rattle.c_unit_typing.specs.Programs.{literal_object, program_of, room_of}
use Rattle.c_programs.specs.Outlines.{Outline, outline_in, program_in}
use Rattle.c_programs.specs.Rooms.{functions_among}
use Rattle.c_programs.specs.Statics.{linked_among, linked_by}

linked_is : (f : File) (type : List TypeWord) (what : Designated)
    → linked_by (extents f.state) f.initializers type what ≡ linked_object f type what
linked_is f type (Object n) = refl
linked_is f type (Function n) = refl
linked_is f type (Library n) = refl
linked_is f type (Static n) = refl
linked_is f type (Variable n) = refl

pub linked_are : (f : File) (es : Names Entity)
    → linked_among (extents f.state) f.initializers (map (λ e. e.1) es) ≡ linked_objects f es
linked_are f [] = refl
linked_are f (e ∷ es) =
    ap (λ z. z ++ linked_among (extents f.state) f.initializers (map (λ e. e.1) es)) (linked_is f e.1.c_type e.1.what)
    ∙ ap (λ z. linked_object f e.1.c_type e.1.what ++ z) (linked_are f es)

functions_are : (f : File) (statics : List StaticObject) (n : ℕ) (ds : List Definition)
    → functions_among (extents f.state) f.state.function_types statics n ds ≡ functions_from f statics n ds
unfolding functions_among
functions_are f statics n [] = refl
functions_are f statics n (d ∷ ds) =
    ap (λ z. function_of f.state.function_types (room_of f statics n d) d ∷ z) (functions_are f statics (suc n) ds)

pub program_is : (f : File) (o : Outline) → o ≡ outline_in f → program_in o ≡ program_of f
program_is f o is =
    ap program_in is
    ∙ ap (λ z. record (program_of f) { functions = z }) (functions_are f (program_of f).statics 0 f.definitions)

pub outline_is : (f : File) (es structures : List (Option TypeExtent)) (statics : List StaticObject) (main : ℕ)
    → es ≡ extents f.state → structures ≡ es
    → statics ≡ in_order 0 f.state.environment.statics (map literal_object f.state.literals ++ f.statics
    ++ linked_among es f.initializers (map (λ e. e.1) f.state.environment.entities))
    → main ≡ (outline_in f).main → record {
      structures = structures;
      statics = statics;
      types = f.state.function_types;
      definitions = f.definitions;
      main = main;
    } ≡ outline_in f
outline_is f es structures statics main same copied made number =
    let o = outline_in f in
    let all = map literal_object f.state.literals ++ f.statics in
    let entities = f.state.environment.entities in
    ap (λ z. record o { structures = z; statics = statics; main = main }) (copied ∙ same)
    ∙ ap (λ z. record o { statics = z; main = main }) (made
    ∙ ap (λ z. in_order 0 f.state.environment.statics (all ++ linked_among z f.initializers (map (λ e. e.1) entities)))
    same ∙ ap (λ z. in_order 0 f.state.environment.statics (all ++ z)) (linked_are f entities))
    ∙ ap (λ z. record o { main = z }) number
