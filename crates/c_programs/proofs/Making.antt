-- The functions of a program.
use Rattle.std.proofs.Common.{◌≡◌, ℕ, suc, ◌+◌, ◌^◌, refl, sym, ap, ◌∙◌, Bool, true, false, List, [], ◌∷◌, ◌++◌, arith}
use Rattle.std.proofs.Common.{subst}
use Rattle.std.specs.Prelude.{Option, Some, None, Result, Ok, Err, nat_lt, slice_get, if◌then◌else◌}
use Rattle.std.proofs.lemmas.List.{append_assoc, append-nil}
use Rattle.c_tree.specs.declared.c_type.TypeWord.{TypeWord}
use Rattle.c_tree.specs.Extents.{TypeExtent}
use Rattle.c_tree.specs.Programs.{Function, StaticObject}
use Rattle.c_tree.specs.Room.{greatest_height, static_contents}
use Rattle.c_room.specs.Numbers.{fitting}
use Rattle.c_room.specs.Rooms.{AreHeights}
use Rattle.c_unit_typing.specs.Files.{Definition}
use Rattle.c_unit_typing.specs.Programs.{function_of}
use Rattle.c_programs.specs.declared.refusal.ProgramRefusal.{ProgramRefusal}
use Rattle.c_programs.specs.declared.refusal.ProgramRefusal.TheVariants.{RoomTooLarge}
use Rattle.c_programs.specs.ProgramRefused.{UnlessMemory, refused_at}
use Rattle.c_programs.specs.Rooms.{and_then, first_without_room, function_in, functions_among, made, room_among}

fits : (x : ℕ) → nat_lt x (2 ^ 64) ≡ true → fitting x ≡ Some x
unfolding fitting
fits x e = ap (λ b. if b then Some x else None) e

does_not_fit : (x : ℕ) → nat_lt x (2 ^ 64) ≡ false → fitting x ≡ None
unfolding fitting
does_not_fit x e = ap (λ b. if b then Some x else None) e

-- one function more

goes_on : (es : List (Option TypeExtent)) (types : List (List TypeWord)) (statics : List StaticObject) (n : ℕ)
    (before : List Function) (d : Definition) (ds : List Definition)
    → nat_lt (room_among es types statics n d) (2 ^ 64) ≡ true → made es types statics n before (d ∷ ds)
    ≡ made es types statics (suc n) (before ++ function_of types (room_among es types statics n d) d ∷ []) ds
unfolding made
goes_on es types statics n before d ds e =
    ap (λ r. and_then (function_in types r d) n (λ f. made es types statics (suc n) (before ++ f ∷ []) ds))
    (fits (room_among es types statics n d) e)

stops : (es : List (Option TypeExtent)) (types : List (List TypeWord)) (statics : List StaticObject) (n : ℕ)
    (before : List Function) (d : Definition) (ds : List Definition)
    → nat_lt (room_among es types statics n d) (2 ^ 64) ≡ false
    → made es types statics n before (d ∷ ds) ≡ Err n
unfolding made
stops es types statics n before d ds e =
    ap (λ r. and_then (function_in types r d) n (λ f. made es types statics (suc n) (before ++ f ∷ []) ds))
    (does_not_fit (room_among es types statics n d) e)

-- all of them

made_by : (es : List (Option TypeExtent)) (types : List (List TypeWord)) (statics : List StaticObject) (n : ℕ)
    (before : List Function) (d : Definition) (ds : List Definition) (fs : List Function) (b : Bool)
    → ((more : List Function) → made es types statics (suc n) more ds ≡ Ok fs
    → fs ≡ more ++ functions_among es types statics (suc n) ds)
    → nat_lt (room_among es types statics n d) (2 ^ 64) ≡ b → made es types statics n before (d ∷ ds) ≡ Ok fs
    → fs ≡ before ++ functions_among es types statics n (d ∷ ds)
unfolding functions_among
made_by es types statics n before d ds fs true others e is =
    let f = function_of types (room_among es types statics n d) d in
    others (before ++ f ∷ []) (sym (goes_on es types statics n before d ds e) ∙ is)
    ∙ append_assoc before (f ∷ []) (functions_among es types statics (suc n) ds)
made_by es types statics n before d ds fs false others e is =
    let stopped = stops es types statics n before d ds e in cc

made_from : (es : List (Option TypeExtent)) (types : List (List TypeWord)) (statics : List StaticObject) (n : ℕ)
    (before : List Function) (ds : List Definition) (fs : List Function)
    → made es types statics n before ds ≡ Ok fs → fs ≡ before ++ functions_among es types statics n ds
unfolding made functions_among
made_from es types statics n before [] fs is =
    let e : before ≡ fs = cc in sym e ∙ sym (append-nil before)
made_from es types statics n before (d ∷ ds) fs is =
    made_by es types statics n before d ds fs (nat_lt (room_among es types statics n d) (2 ^ 64))
    (λ more. made_from es types statics (suc n) more ds fs) refl is

pub made_all : (es : List (Option TypeExtent)) (types : List (List TypeWord)) (statics : List StaticObject)
    (ds : List Definition) (fs : List Function) → made es types statics 0 [] ds ≡ Ok fs
    → fs ≡ functions_among es types statics 0 ds
made_all es types statics ds fs is = made_from es types statics 0 [] ds fs is

-- the first without room

not_made_by : (es : List (Option TypeExtent)) (types : List (List TypeWord)) (statics : List StaticObject) (n : ℕ)
    (before : List Function) (d : Definition) (ds : List Definition) (k : ℕ) (b : Bool)
    → ((more : List Function) → made es types statics (suc n) more ds ≡ Err k
    → first_without_room (suc n) (functions_among es types statics (suc n) ds) ≡ Some k)
    → nat_lt (room_among es types statics n d) (2 ^ 64) ≡ b → made es types statics n before (d ∷ ds) ≡ Err k
    → first_without_room n (functions_among es types statics n (d ∷ ds)) ≡ Some k
unfolding functions_among
not_made_by es types statics n before d ds k true others e is =
    let f = function_of types (room_among es types statics n d) d in
    let behind = first_without_room (suc n) (functions_among es types statics (suc n) ds) in
    ap (λ b. if b then behind else Some n) e
    ∙ others (before ++ f ∷ []) (sym (goes_on es types statics n before d ds e) ∙ is)
not_made_by es types statics n before d ds k false others e is =
    let behind = first_without_room (suc n) (functions_among es types statics (suc n) ds) in
    let stopped = stops es types statics n before d ds e in
    let number : n ≡ k = cc in
    ap (λ b. if b then behind else Some n) e ∙ ap Some number

not_made : (es : List (Option TypeExtent)) (types : List (List TypeWord)) (statics : List StaticObject) (n : ℕ)
    (before : List Function) (ds : List Definition) (k : ℕ) → made es types statics n before ds ≡ Err k
    → first_without_room n (functions_among es types statics n ds) ≡ Some k
unfolding made functions_among
not_made es types statics n before [] k is = cc
not_made es types statics n before (d ∷ ds) k is =
    not_made_by es types statics n before d ds k (nat_lt (room_among es types statics n d) (2 ^ 64))
    (λ more. not_made es types statics (suc n) more ds k) refl is

pub made_not : (es : List (Option TypeExtent)) (types : List (List TypeWord)) (statics : List StaticObject)
    (ds : List Definition) (k : ℕ) → made es types statics 0 [] ds ≡ Err k
    → first_without_room 0 (functions_among es types statics 0 ds) ≡ Some k
made_not es types statics ds k is = not_made es types statics 0 [] ds k is

-- in turn

pub made_next : (es : List (Option TypeExtent)) (types : List (List TypeWord)) (statics : List StaticObject) (k : ℕ)
    (heights : List (Option ℕ)) (n : ℕ) (before more : List Function) (d : Definition) (rest ds : List Definition)
    (f : Function) (h : Option ℕ) (all : Result (List Function) ℕ) → AreHeights statics k heights
    → slice_get heights n ≡ Some h
    → ((os : List StaticObject) (m : ℕ) → h ≡ fitting (greatest_height (static_contents os m))
    → Some f ≡ function_in types (fitting (room_among es types os m d)) d)
    → more ≡ before ++ f ∷ [] → ds ≡ d ∷ rest → made es types statics n before ds ≡ all
    → made es types statics (n + 1) more rest ≡ all
unfolding made
made_next es types statics k heights n before more d rest ds f h all are here known longer is so_far =
    let next : n + 1 ≡ suc n = omega arith in
    let found = known statics n (are.each n h here) in
    ap (λ m. made es types statics m more rest) next
    ∙ ap (λ z. made es types statics (suc n) z rest) longer
    ∙ ap (λ r. and_then r n (λ f. made es types statics (suc n) (before ++ f ∷ []) rest)) found
    ∙ ap (λ z. made es types statics n before z) (sym is) ∙ so_far

pub made_stop : (es : List (Option TypeExtent)) (types : List (List TypeWord)) (statics : List StaticObject) (k : ℕ)
    (heights : List (Option ℕ)) (n : ℕ) (before : List Function) (d : Definition) (rest ds : List Definition)
    (h : Option ℕ) (all : Result (List Function) ℕ) (e : ProgramRefusal) → AreHeights statics k heights
    → slice_get heights n ≡ Some h
    → ((os : List StaticObject) (m : ℕ) → h ≡ fitting (greatest_height (static_contents os m))
    → None ≡ function_in types (fitting (room_among es types os m d)) d)
    → ds ≡ d ∷ rest → made es types statics n before ds ≡ all → e ≡ RoomTooLarge n
    → UnlessMemory e (all ≡ Err (refused_at e))
unfolding made
made_stop es types statics k heights n before d rest ds h all e are here known is so_far refused =
    let found = known statics n (are.each n h here) in
    let stopped : all ≡ Err n =
    sym so_far ∙ ap (λ z. made es types statics n before z) is
    ∙ sym (ap (λ r. and_then r n (λ f. made es types statics (suc n) (before ++ f ∷ []) rest)) found) in
    subst (λ z. UnlessMemory z (all ≡ Err (refused_at z))) (sym refused) stopped

pub made_end : (es : List (Option TypeExtent)) (types : List (List TypeWord)) (statics : List StaticObject) (n : ℕ)
    (before : List Function) (ds : List Definition) (all : Result (List Function) ℕ) → ds ≡ []
    → made es types statics n before ds ≡ all → all ≡ Ok before
unfolding made
made_end es types statics n before ds all none so_far =
    sym so_far ∙ ap (λ z. made es types statics n before z) none
