-- What calls save: one list of all virtual registers, and one of those alone that are kept in registers and live.
use Rattle.std.proofs.Common.{◌≡◌, ℕ, zero, suc, ◌+◌, Bool, true, false, not, ◌&&◌, if◌then◌else◌, List, [], ◌∷◌, ◌++◌}
use Rattle.std.proofs.Common.{◌≤◌, length, drop, Option, Some, None, refl, sym, ap, ◌∙◌, arith}
use Rattle.std.specs.Prelude.{slice_get, nat_lt}
use Rattle.std.specs.List.{flat_map}
use Rattle.std.proofs.lemmas.Grind.{flat_map-append}
use Rattle.flat_code.specs.declared.function.FlatFunction.{FlatFunction}
use Rattle.reg_plan.specs.declared.plan.Place.{Place}
use Rattle.reg_plan.specs.declared.plan.Place.TheVariants.{Home, Register}
use Rattle.reg_plan.specs.declared.plan.FunctionPlan.{FunctionPlan}
use Rattle.reg_plan.specs.Accepted.{is_live}
use Rattle.reg_plan.specs.Effects.{is_among, many}
use Rattle.reg_plan.specs.Saves.Saves.{is_register, is_saved, saved_below}
use Rattle.rv_isa.specs.declared.instruction.Instr.{Instr}
use Rattle.machine_laws.specs.declared.location.Location.{Location}
use Rattle.machine_laws.specs.declared.location.Location.TheVariants.{Frame}
use Rattle.machine_laws.specs.Blocks.Places.{location, location_at, home_of}
use Rattle.machine_laws.specs.Calls.Calls.{save, save_one, restore, restore_one}
use Rattle.machine_laws.specs.Following.Code.{wanted}
use Rattle.rv_codegen.specs.EmittedCode.Kept.{kept_by}
use Rattle.rv_codegen.specs.EmittedCode.Saving.{save_unless, restore_unless}
use Rattle.rv_codegen.proofs.EmittedCode.Lists.{nothing_behind}

-- one virtual register: nothing is put for a value that is kept in its home
one_saved : (put : Location → List Instr) → ((o : ℕ) → put (Frame o) ≡ []) → (place : Option Place)
    (live result : Bool) (y at : ℕ) (g : ℕ → List Instr) → g y ≡ (if result then [] else put (location_at place at))
    → flat_map g (if is_register place && live then y ∷ [] else [])
    ≡ (if live && not result then put (location_at place at) else [])
one_saved put none None true true y at g e = refl
one_saved put none None true false y at g e = sym (none at)
one_saved put none None false result y at g e = refl
one_saved put none (Some Home) true true y at g e = refl
one_saved put none (Some Home) true false y at g e = sym (none at)
one_saved put none (Some Home) false result y at g e = refl
one_saved put none (Some (Register r)) true true y at g e = nothing_behind (g y) ∙ e
one_saved put none (Some (Register r)) true false y at g e = nothing_behind (g y) ∙ e
one_saved put none (Some (Register r)) false result y at g e = refl

-- all of the first so many
pub saved_all : (f : FlatFunction) (plan : FunctionPlan) (pc x m n : ℕ)
    → flat_map (save_unless (kept_by f plan) x m) (saved_below f plan pc n)
    ≡ save (kept_by f plan) (wanted (kept_by f plan) pc x m) n
unfolding saved_below save location
saved_all f plan pc x m zero = refl
saved_all f plan pc x m (suc n) =
    flat_map-append (save_unless (kept_by f plan) x m) (saved_below f plan pc n)
    (if is_saved f plan pc n then n ∷ [] else [])
    ∙ ap (λ is. is ++ flat_map (save_unless (kept_by f plan) x m) (if is_saved f plan pc n then n ∷ [] else []))
    (saved_all f plan pc x m n)
    ∙ ap (λ is. save (kept_by f plan) (wanted (kept_by f plan) pc x m) n ++ is)
    (one_saved (λ z. save_one z (kept_by f plan).base ((kept_by f plan).home n)) (λ o. refl)
    (slice_get plan.places.items n) (nat_lt (pc + 1) (length f.body) && is_live plan (pc + 1) n)
    (is_among (many x m) n) n (home_of (slice_get f.homes n))
    (save_unless (kept_by f plan) x m) refl)

pub restored_all : (f : FlatFunction) (plan : FunctionPlan) (pc x m n : ℕ)
    → flat_map (restore_unless (kept_by f plan) x m) (saved_below f plan pc n)
    ≡ restore (kept_by f plan) (wanted (kept_by f plan) pc x m) n
unfolding saved_below restore location
restored_all f plan pc x m zero = refl
restored_all f plan pc x m (suc n) =
    flat_map-append (restore_unless (kept_by f plan) x m) (saved_below f plan pc n)
    (if is_saved f plan pc n then n ∷ [] else [])
    ∙ ap (λ is. is ++ flat_map (restore_unless (kept_by f plan) x m) (if is_saved f plan pc n then n ∷ [] else []))
    (restored_all f plan pc x m n)
    ∙ ap (λ is. restore (kept_by f plan) (wanted (kept_by f plan) pc x m) n ++ is)
    (one_saved (λ z. restore_one z (kept_by f plan).base ((kept_by f plan).home n)) (λ o. refl)
    (slice_get plan.places.items n) (nat_lt (pc + 1) (length f.body) && is_live plan (pc + 1) n)
    (is_among (many x m) n) n (home_of (slice_get f.homes n))
    (restore_unless (kept_by f plan) x m) refl)

-- a loop over a list, at its end
pub none_left : (xs : List ℕ) (i : ℕ) → length xs ≤ i → drop i xs ≡ []
none_left [] zero l = refl
none_left [] (suc i) l = refl
none_left (x ∷ xs) zero l = absurd (omega arith)
none_left (x ∷ xs) (suc i) l = none_left xs i (omega arith)

pub all_put : (g : ℕ → List Instr) (code initial : List Instr) (xs : List ℕ) (i : ℕ) → length xs ≤ i
    → code ++ flat_map g (drop i xs) ≡ initial ++ flat_map g xs → code ≡ initial ++ flat_map g xs
all_put g code initial xs i l e =
    sym (nothing_behind code) ∙ ap (λ ys. code ++ flat_map g ys) (sym (none_left xs i l)) ∙ e
