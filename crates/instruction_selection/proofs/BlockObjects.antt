-- Objects of blocks among the variables of a function.
use Rattle.std.proofs.Common.{◌≡◌, ℕ, zero, suc, ◌+◌, ◌<◌, ◌≤◌, ◌||◌, Bool, true, false, if◌then◌else◌}
use Rattle.std.proofs.Common.{List, [], ◌∷◌, ◌++◌, map, length, Some, refl, sym, ap, ◌∙◌, subst, arith}
use Rattle.std.specs.Prelude.{slice_get, slice_index_or}
use Rattle.std.proofs.Common.{drop}
use Rattle.std.proofs.lemmas.List.{drop_more}
use Rattle.obj_memory.specs.Heap.{rounded_up}
use Rattle.c_tree.specs.Kinds.{size_of_kind}
use Rattle.source_meaning.specs.Blocks.{objects_end}
use Rattle.std.proofs.lemmas.Bool.{false≢true}
use Rattle.c_tree.specs.declared.program.Variable.{Variable}
use Rattle.c_tree.specs.Blocks.{closed, is_among, no_variable, opened}
use Rattle.source_meaning.specs.Blocks.{has_objects}
use Rattle.tac_ir.specs.declared.function.CodeFunction.{CodeFunction}
use Rattle.tac_ir.specs.Meaning.{if_there, objects_in}
use Rattle.flat_code.specs.declared.registers.Entry.{Entry}
use Rattle.flat_code.specs.Routines.Registers.{AreBelow}
use Rattle.metadata_plan.specs.Registers.{all_variables}
use Rattle.metadata_relation.specs.Registers.{before, entry_from, first_free, first_object, home_register, home_words}
use Rattle.metadata_relation.specs.Registers.{total}
use Rattle.instruction_selection.specs.Blocks.{AreObjectsAmong}

-- the first object of a block has a home
home_in : (all vs : List Variable) → AreObjectsAmong all vs → has_objects vs ≡ true
    → before home_words (first_object vs) all + 5 ≤ total home_words all
home_in all [] among some = absurd (false≢true some)
home_in [] (v ∷ vs) among some =
    absurd (false≢true (sym (none vs among.1) ∙ (ap (λ b. b || has_objects vs) (sym among.0) ∙ some)))
  where
    none : (vs : List Variable) → AreObjectsAmong [] vs → has_objects vs ≡ false
    none [] h = refl
    none (v ∷ vs) h = ap (λ b. b || has_objects vs) h.0 ∙ none vs h.1
home_in (a ∷ all) (v ∷ vs) among some = by v.is_object refl (home_in all vs among.1)
  where
    by : (b : Bool) → v.is_object ≡ b
        → (has_objects vs ≡ true → before home_words (first_object vs) all + 5 ≤ total home_words all)
        → before home_words (if v.is_object then 0 else suc (first_object vs)) (a ∷ all) + 5
        ≤ home_words a + total home_words all
    by true is behind =
        let there : home_words a ≡ 5 = ap (λ z. if z then 5 else 0) (among.0 is) in
        subst (λ z. before home_words (if z then 0 else suc (first_object vs)) (a ∷ all) + 5 ≤ home_words a + total home_words all)
        (sym is) (omega (arith, there))
    by false is behind =
        let rest = behind (ap (λ z. z || has_objects vs) (sym is) ∙ some) in
        subst (λ z. before home_words (if z then 0 else suc (first_object vs)) (a ∷ all) + 5 ≤ home_words a + total home_words all)
        (sym is) (omega (arith, rest))

-- so its lock word stands below what is free
pub lock_below : (c : CodeFunction) (vs : List Variable) (e : Entry)
    → e ≡ entry_from (home_register c (first_object vs)) → AreObjectsAmong (all_variables c) vs → has_objects vs ≡ true
    → AreBelow (first_free c) (e.lock ∷ [])
lock_below c vs e same among some =
    let there = home_in (all_variables c) vs among some in
    subst (λ z. AreBelow (first_free c) (z.lock ∷ [])) (sym same) (omega (arith, there), tt)

-- ---- the objects of a block

opened_among : (ns : List ℕ) (x : ℕ) (ds : List Variable) → AreObjectsAmong ds (opened ns x ds (map closed ds))
opened_among ns x [] = tt
opened_among ns x (d ∷ ds) = (by (is_among ns x), opened_among ns (suc x) ds)
  where
    shut : (b : Bool) → d.is_object ≡ b → (closed d).is_object ≡ true → d.is_object ≡ true
    shut true is h = is
    shut false is h = sym (ap (λ z. (if z then no_variable else d).is_object) is) ∙ h

    by : (b : Bool) → (if b then d else closed d).is_object ≡ true → d.is_object ≡ true
    by true h = h
    by false h = shut d.is_object refl h

pub block_among : (c : CodeFunction) (b : ℕ) (vs : List Variable) → vs ≡ objects_in (Some c) b
    → AreObjectsAmong (all_variables c) vs
block_among c b vs same =
    subst (AreObjectsAmong (all_variables c)) (sym same)
    (opened_among (if_there (slice_get c.blocks b)) 0 (all_variables c))

-- ---- variables by their numbers

pub variable_before : (ps vs : List Variable) (x : ℕ) → x < length ps → slice_get (ps ++ vs) x ≡ slice_get ps x
variable_before [] vs x low = absurd (omega (arith, low))
variable_before (p ∷ ps) vs zero low = refl
variable_before (p ∷ ps) vs (suc x) low = variable_before ps vs x (omega (arith, low))

pub variable_behind : (ps vs : List Variable) (x j : ℕ) → x ≡ length ps + j → slice_get (ps ++ vs) x ≡ slice_get vs j
variable_behind [] vs x j e = ap (slice_get vs) (omega (arith, e))
variable_behind (p ∷ ps) vs zero j e = absurd (omega (arith, e))
variable_behind (p ∷ ps) vs (suc x) j e = variable_behind ps vs x j (omega (arith, e))

-- ---- the bytes of blocks

pub end_above : (vs : List Variable) (top : ℕ) → top ≤ objects_end vs top
end_above [] top = omega arith
end_above (v ∷ vs) top = by v.is_object (end_above vs)
  where
    by : (b : Bool) → ((next : ℕ) → next ≤ objects_end vs next)
        → top ≤ objects_end vs (if b then rounded_up 16 top + size_of_kind v.kind else top)
    by true behind = let more = behind (rounded_up 16 top + size_of_kind v.kind) in omega (arith, more)
    by false behind = behind top

pub object_ends : (vs : List Variable) (i : ℕ) (d : Variable) (top : ℕ) → i < length vs
    → (slice_index_or vs i d).is_object ≡ true
    → rounded_up 16 top + size_of_kind (slice_index_or vs i d).kind ≤ objects_end (drop i vs) top
object_ends vs i d top low is =
    let v = slice_index_or vs i d in
    let here : objects_end (drop i vs) top ≡ objects_end (v ∷ drop (i + 1) vs) top =
    ap (λ ws. objects_end ws top) (drop_more vs i d low) in
    let more = end_above (drop (i + 1) vs) (rounded_up 16 top + size_of_kind v.kind) in
    let step : objects_end (v ∷ drop (i + 1) vs) top
    ≡ objects_end (drop (i + 1) vs) (rounded_up 16 top + size_of_kind v.kind) =
    ap (λ b. objects_end (drop (i + 1) vs) (if b then rounded_up 16 top + size_of_kind v.kind else top)) is in
    omega (arith, here, step, more)

-- ---- variables that are opened

pub opened_append : (ns : List ℕ) (x : ℕ) (ps vs : List Variable)
    → opened ns x (ps ++ vs) (map closed (ps ++ vs))
    ≡ opened ns x ps (map closed ps) ++ opened ns (x + length ps) vs (map closed vs)
opened_append ns x [] vs =
    let same : x ≡ x + 0 = omega arith in
    ap (λ k. opened ns k vs (map closed vs)) same
opened_append ns x (p ∷ ps) vs =
    let same : suc x + length ps ≡ x + suc (length ps) = omega arith in
    ap (λ ws. (if is_among ns x then p else closed p) ∷ ws)
    (opened_append ns (suc x) ps vs
    ∙ ap (λ k. opened ns (suc x) ps (map closed ps) ++ opened ns k vs (map closed vs)) same)

-- the objects of a block, parameters first
pub block_list : (c : CodeFunction) (b : ℕ) (list : List Variable) (ns : List ℕ) → ns ≡ if_there (slice_get c.blocks b)
    → list ≡ opened ns 0 c.parameters (map closed c.parameters)
    ++ opened ns (length c.parameters) c.variables (map closed c.variables) → list ≡ objects_in (Some c) b
block_list c b list ns same made =
    let zero_more : length c.parameters ≡ 0 + length c.parameters = omega arith in
    made ∙ (ap (λ k. opened ns 0 c.parameters (map closed c.parameters) ++ opened ns k c.variables (map closed c.variables))
    zero_more ∙ sym (opened_append ns 0 c.parameters c.variables)
    ∙ ap (λ z. opened z 0 (all_variables c) (map closed (all_variables c))) same)
