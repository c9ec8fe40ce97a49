-- What is judged of initializers, and against the limits.
use Rattle.std.proofs.Common.{◌≡◌, ℕ, suc, refl, sym, ap, ◌∙◌, List, [], ◌∷◌, length, map, replicate}
use Rattle.std.specs.Prelude.{Option, Some, None}
use Rattle.std.proofs.lemmas.List.{length-map}
use Rattle.obj_memory.specs.declared.value.Value.{Value}
use Rattle.c_syntax.specs.Statements.{External}
use Rattle.c_tree.specs.declared.c_type.TypeWord.{TypeWord}
use Rattle.c_tree.specs.declared.program.StaticObject as code_static
use Rattle.c_tree.specs.Extents.{TypeExtent}
use Rattle.c_tree.specs.Programs.{Program, StaticObject}
use Rattle.c_tree.specs.View.{static_of}
use Rattle.c_const.specs.Addresses.{untagged}
use Rattle.c_const.specs.Initializers.{first_not_constant, statics_fault}
use Rattle.c_counts.specs.Counts.{Count, counts_of}
use Rattle.c_counts.specs.Excess.{first_above, members_among, most_members, most_parameters, parameters_among}
use Rattle.c_unit_typing.specs.declared.limits.Limited.{Limited}
use Rattle.c_unit_typing.specs.declared.limits.Limited.TheVariants.{Functions, Globals, Members, Parameters}
use Rattle.c_programs.specs.FileState.{definition_of}
use Rattle.c_unit_typing.specs.Files.{Definition}
use Rattle.c_unit_typing.specs.Typed.{global_bytes, limited_program, most_bytes, most_functions, when_large}
use Rattle.c_programs.specs.Limits.{IsExcess, first_large, large_or, unless_large}
use Rattle.c_programs.specs.declared.outline.Outline as code
use Rattle.c_programs.specs.Outlines.{outline_of, program_in}
use Rattle.c_programs.specs.Rooms.{functions_among}

as_many : (es : List (Option TypeExtent)) (types : List (List TypeWord)) (statics : List StaticObject) (n : ℕ)
    (ds : List Definition) → length (functions_among es types statics n ds) ≡ length ds
unfolding functions_among
as_many es types statics n [] = refl
as_many es types statics n (d ∷ ds) = ap suc (as_many es types statics (suc n) ds)

-- the first expression that is not constant

pub first_is : (c : code.Outline) (objects functions : List Value) (statics : List code_static.StaticObject)
    → objects ≡ replicate (length c.statics.items) (untagged 0)
    → functions ≡ replicate (length c.definitions.items) (untagged 0) → statics ≡ c.statics.items
    → statics_fault (record { statics = objects; functions = functions }) (map static_of statics)
    ≡ first_not_constant (program_in (outline_of c))
unfolding first_not_constant
first_is c objects functions statics objects_are functions_are same =
    let o = outline_of c in
    let all = map static_of c.statics.items in
    let first : List Value → List Value → Option ℕ =
    λ ps fs. statics_fault (record { statics = ps; functions = fs }) all in
    ap (λ z. statics_fault (record { statics = objects; functions = functions }) (map static_of z)) same
    ∙ ap (λ z. first z functions)
    (objects_are ∙ ap (λ n. replicate n (untagged 0)) (sym (length-map c.statics.items static_of)))
    ∙ ap (λ z. first (replicate (length all) (untagged 0)) z)
    (functions_are ∙ ap (λ n. replicate n (untagged 0)) (sym (length-map c.definitions.items definition_of)
    ∙ sym (as_many o.structures o.types o.statics 0 o.definitions)))

-- the limits in their order

large_is : (which : Limited) (count : Option ℕ) (other : Option (Limited × ℕ)) (p : Program)
    → when_large which count (unless_large other p) ≡ unless_large (large_or which count other) p
large_is which None other p = refl
large_is which (Some n) other p = refl

limited_is : (cs : List Count) (p : Program) → limited_program cs p
    ≡ unless_large (first_large (length p.functions) (first_above most_parameters (parameters_among cs))
    (first_above most_members (members_among cs)) (global_bytes p)) p
limited_is cs p =
    let many = first_above most_functions (length p.functions ∷ []) in
    let parameters = first_above most_parameters (parameters_among cs) in
    let members = first_above most_members (members_among cs) in
    let bytes = first_above most_bytes (global_bytes p ∷ []) in
    let globals = large_or Globals bytes None in
    let lists = large_or Members members globals in
    ap (λ z. when_large Functions many (when_large Parameters parameters (when_large Members members z)))
    (large_is Globals bytes None p)
    ∙ ap (λ z. when_large Functions many (when_large Parameters parameters z)) (large_is Members members globals p)
    ∙ ap (λ z. when_large Functions many z) (large_is Parameters parameters lists p)
    ∙ large_is Functions many (large_or Parameters parameters lists) p

pub is_excess : (es : List External) (c : code.Outline) (large : Option (Limited × ℕ)) (functions : ℕ)
    (parameters members : Option ℕ) (bytes : ℕ) → large ≡ first_large functions parameters members bytes
    → functions ≡ length c.definitions.items
    → parameters ≡ first_above most_parameters (parameters_among (counts_of es))
    → members ≡ first_above most_members (members_among (counts_of es))
    → bytes ≡ global_bytes (program_in (outline_of c)) → IsExcess es (outline_of c) large
is_excess es c large functions parameters members bytes is many p m b =
    let o = outline_of c in
    let all = program_in o in
    let cs = counts_of es in
    let longest = first_above most_parameters (parameters_among cs) in
    let largest = first_above most_members (members_among cs) in
    limited_is cs all
    ∙ ap (λ k. unless_large (first_large k longest largest (global_bytes all)) all)
    (as_many o.structures o.types o.statics 0 o.definitions ∙ length-map c.definitions.items definition_of ∙ sym many)
    ∙ ap (λ z. unless_large (first_large functions z largest (global_bytes all)) all) (sym p)
    ∙ ap (λ z. unless_large (first_large functions parameters z (global_bytes all)) all) (sym m)
    ∙ ap (λ z. unless_large (first_large functions parameters members z) all) (sym b)
    ∙ ap (λ z. unless_large z all) (sym is)
