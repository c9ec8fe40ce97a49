-- String literals of a file that is accepted stand outside of functions or in functions of its program (C99 6.4.5).
use Rattle.std.proofs.Common.{◌≡◌, ℕ, ◌≤◌, ◌<◌, Bool, true, refl, sym, ap, ◌∙◌, subst, List, [], ◌∷◌, length}
use Rattle.std.proofs.Common.{Option, Some, None}
use Rattle.std.specs.Prelude.{Ok, Err, slice_get}
use Rattle.std.proofs.lemmas.Bool.{and_from, lt-ltb}
use Rattle.c_syntax.specs.Statements as t
use Rattle.c_tree.specs.ValidProgram.{is_function_number}
use Rattle.c_facts.specs.Facts.{facts_in}
use Rattle.c_faults.specs.Answer.{Answer}
use Rattle.c_scope.specs.Environment.{Facts, number_or}
use Rattle.c_scope.specs.Names.{Names, declared}
use Rattle.c_typing_state.specs.State.{Literal}
use Rattle.c_unit_typing.specs.Files.{File}
use Rattle.c_unit_typing.specs.Programs.{program_of, static_objects}
use Rattle.c_unit_typing.specs.Units.{externals, file_before, file_with}
use Rattle.typing_laws.specs.Scopes.Defined.{define_functions}
use Rattle.typing_laws.specs.Scopes.Regular.{are_regular_externals}
use Rattle.typing_laws.proofs.Scopes.Start.{file_formed}
use Rattle.program_laws.proofs.Files.Ends.{answer, behind_all, same_ok}
use Rattle.program_laws.proofs.Files.Statics.{get_low}
use Rattle.typing_laws.specs.Types.Typed.{Each}
use Rattle.program_laws.specs.Functions.Entities.{names_function}
use Rattle.program_laws.proofs.Functions.Main.{HasFunctions, functions_count, functions_end}
use Rattle.program_laws.specs.Statics.Program.{stand_in_functions}
use Rattle.program_laws.specs.Literals.Added.{IsDefinedFunction, IsOutsideOrDefined, IsPlaced, PlacesLiterals}
use Rattle.program_laws.proofs.Literals.Files.{IfPlaces, externals_place}
use Rattle.typing_laws.proofs.Types.Steps.{each_got}

-- a function that is defined has a number of the program

defined_number : (f : File) (numbers : Names ℕ) → HasFunctions numbers f → (n : ℕ)
    → IsDefinedFunction f.state.environment.entities n → n < length f.definitions
defined_number f numbers h n is =
    let k = h.functions.0.defines.all is.name is.entity is.there (ap names_function is.what) is.defined in
    let own = h.functions.0.defines.each is.name k.0 k.1 in
    let same : n ≡ k.0 = h.functions.1.each is.name is.entity n is.there is.what
    ∙ ap (λ z. number_or (declared is.name z) (length z)) h.facts
    ∙ ap (λ z. number_or z (length numbers)) k.1 in
    subst (λ z. z < length f.definitions) (sym same) (get_low f.definitions k.0 own.definition own.there)

function_by : (f : File) (numbers : Names ℕ) → HasFunctions numbers f → (o : Option ℕ)
    → IsOutsideOrDefined f.state.environment.entities o → is_function_number (program_of f) o ≡ true
function_by f numbers h None is = refl
function_by f numbers h (Some n) is =
    lt-ltb n (length (program_of f).functions)
    (subst (λ z. n < z) (sym (functions_count f (static_objects f) 0 f.definitions))
    (defined_number f numbers h n is))

all_stand : (f : File) (numbers : Names ℕ) → HasFunctions numbers f → (ls : List Literal)
    → Each (IsPlaced f.state.environment.entities) ls → stand_in_functions (program_of f) ls ≡ true
all_stand f numbers h [] is = refl
all_stand f numbers h (l ∷ ls) is =
    and_from (is_function_number (program_of f) l.function) (stand_in_functions (program_of f) ls)
    (function_by f numbers h l.function is.0.function) (all_stand f numbers h ls is.1)

-- at the end

start_literals : (objects : Option (List (List Bool))) (facts : Facts) → PlacesLiterals (file_before objects facts)
start_literals objects facts = record { outside = refl; each = tt }

places_end : (objects : Option (List (List Bool))) (end : ℕ) (es : List t.External) (f : File)
    → are_regular_externals es ≡ true → file_with objects end es ≡ Ok f → PlacesLiterals f
places_end objects end es f c is =
    let before = file_before objects (facts_in es) in
    behind_all PlacesLiterals f end (externals es before)
    (λ g e ended. by g (externals es before)
    (externals_place es c before (file_formed objects (facts_in es)) (start_literals objects (facts_in es))) e) is
  where
    by : (g : File) (a : Answer (File × Unit {0})) → IfPlaces a → a ≡ answer (g, tt) → PlacesLiterals g
    by g (Ok r) h e = subst PlacesLiterals (ap (λ z. z.0) (same_ok r (g, tt) e)) h
    by g (Err x) h e = absurd cc

pub literals_stand : (objects : Option (List (List Bool))) (end : ℕ) (es : List t.External) (f : File)
    → are_regular_externals es ≡ true → define_functions es ≡ true → file_with objects end es ≡ Ok f
    → stand_in_functions (program_of f) f.state.literals ≡ true
literals_stand objects end es f c d is =
    all_stand f (facts_in es).functions (functions_end objects end es f c d is) f.state.literals
    (places_end objects end es f c is).each

pub literals_bytes : (objects : Option (List (List Bool))) (end : ℕ) (es : List t.External) (f : File)
    → are_regular_externals es ≡ true → define_functions es ≡ true → file_with objects end es ≡ Ok f
    → (n : ℕ) (l : Literal) → slice_get f.state.literals n ≡ Some l → 1 ≤ length l.bytes
literals_bytes objects end es f c d is n l e =
    (each_got (IsPlaced f.state.environment.entities) f.state.literals (places_end objects end es f c is).each n l
    e).bytes
