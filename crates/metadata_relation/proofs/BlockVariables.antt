-- Which variables a block of a function enters: objects of the function, which have no homes before.
use Rattle.std.proofs.Common.{◌≡◌, ℕ, zero, suc, ◌+◌, Bool, true, false, ◌||◌, if◌then◌else◌, List, [], ◌∷◌, ◌++◌}
use Rattle.std.proofs.Common.{get_or, map, refl, sym, ap, ◌∙◌, Some, arith}
use Rattle.std.specs.Prelude.{◌==◌, slice_get}
use Rattle.std.proofs.lemmas.Bool.{and_parts, eqb-true}
use Rattle.c_tree.specs.declared.program.Variable.{Variable}
use Rattle.c_tree.specs.Valid.{at_number}
use Rattle.c_tree.specs.Blocks.{closed, is_among, no_variable, opened}
use Rattle.source_meaning.specs.Blocks.{has_objects}
use Rattle.source_meaning.specs.State.{Home, InObject, NoObject}
use Rattle.tac_ir.specs.declared.function.CodeFunction.{CodeFunction}
use Rattle.tac_ir.specs.Fitting.{has_no_home, have_no_homes}
use Rattle.tac_ir.specs.Meaning.{blocks_in, if_there, objects_in}
use Rattle.metadata_plan.specs.Registers.{all_variables}
use Rattle.metadata_relation.specs.Holding.{is_object_in}
use Rattle.metadata_relation.specs.Registers.{first_object}

-- a variable whose block is not entered is no object
closed_is_none : (d : Variable) → (closed d).is_object ≡ false
closed_is_none d = by d.is_object refl
  where
    by : (b : Bool) → d.is_object ≡ b → (if d.is_object then no_variable else d).is_object ≡ false
    by true is = ap (λ b. (if b then no_variable else d).is_object) is
    by false is = ap (λ b. (if b then no_variable else d).is_object) is ∙ is

-- an object that a block enters is one of the function's, under a number of the block's
opened_object : (numbers : List ℕ) (n : ℕ) (all : List Variable) (y : ℕ)
    → is_object_in (opened numbers n all (map closed all)) y ≡ true
    → (is_object_in all y ≡ true) × (is_among numbers (n + y) ≡ true)
opened_object numbers n [] y e = absurd cc
opened_object numbers n (d ∷ ds) zero e = by (is_among numbers n) refl
  where
    by : (b : Bool) → is_among numbers n ≡ b → (d.is_object ≡ true) × (is_among numbers (n + 0) ≡ true)
    by true t =
        (ap (λ b. (if b then d else closed d).is_object) (sym t) ∙ e, ap (is_among numbers) (omega arith) ∙ t)
    by false t =
        let is : (closed d).is_object ≡ true = ap (λ b. (if b then d else closed d).is_object) (sym t) ∙ e in
        let both : false ≡ true = sym (closed_is_none d) ∙ is in
        absurd cc
opened_object numbers n (d ∷ ds) (suc y) e =
    let r = opened_object numbers (suc n) ds y e in
    let place : n + suc y ≡ suc n + y = omega arith in
    (r.0, ap (is_among numbers) place ∙ r.1)

-- and it is that variable
opened_number : (numbers : List ℕ) (n : ℕ) (all : List Variable) (y : ℕ)
    → is_object_in (opened numbers n all (map closed all)) y ≡ true
    → at_number (opened numbers n all (map closed all)) y ≡ at_number all y
opened_number numbers n [] y e = absurd cc
opened_number numbers n (d ∷ ds) zero e = by (is_among numbers n) refl
  where
    by : (b : Bool) → is_among numbers n ≡ b → (if is_among numbers n then d else closed d) ≡ d
    by true t = ap (λ b. if b then d else closed d) t
    by false t =
        let is : (closed d).is_object ≡ true = ap (λ b. (if b then d else closed d).is_object) (sym t) ∙ e in
        let both : false ≡ true = sym (closed_is_none d) ∙ is in
        absurd cc
opened_number numbers n (d ∷ ds) (suc y) e = opened_number numbers (suc n) ds y e

none_is : (m : Home) → has_no_home m ≡ true → m ≡ NoObject
none_is NoObject e = refl
none_is (InObject o) e = absurd cc

among_none : (frame : List Home) (numbers : List ℕ) (x : ℕ) → have_no_homes frame numbers ≡ true
    → is_among numbers x ≡ true → get_or frame x NoObject ≡ NoObject
among_none frame [] x none e = absurd cc
among_none frame (y ∷ ys) x none e =
    let p = and_parts (has_no_home (get_or frame y NoObject)) (have_no_homes frame ys) none in
    by (λ t. among_none frame ys x p.1 t) p.0 (y == x) refl e
  where
    by : (is_among ys x ≡ true → get_or frame x NoObject ≡ NoObject) → has_no_home (get_or frame y NoObject) ≡ true
        → (b : Bool) → (y == x) ≡ b → (b || is_among ys x) ≡ true → get_or frame x NoObject ≡ NoObject
    by rest first true is t =
        ap (λ z. get_or frame z NoObject) (sym (eqb-true y x is)) ∙ none_is (get_or frame y NoObject) first
    by rest first false is t = rest t

-- the first object is one, where there are any
pub first_is_object : (vs : List Variable) → has_objects vs ≡ true → is_object_in vs (first_object vs) ≡ true
first_is_object [] e = absurd cc
first_is_object (v ∷ vs) e = by (λ t. first_is_object vs t) v.is_object refl e
  where
    by : (has_objects vs ≡ true → is_object_in vs (first_object vs) ≡ true) → (b : Bool) → v.is_object ≡ b
        → (b || has_objects vs) ≡ true
        → is_object_in (v ∷ vs) (if v.is_object then 0 else suc (first_object vs)) ≡ true
    by rest true is t = ap (λ b. is_object_in (v ∷ vs) (if b then 0 else suc (first_object vs))) is ∙ is
    by rest false is t = ap (λ b. is_object_in (v ∷ vs) (if b then 0 else suc (first_object vs))) is ∙ rest t

module _ (c : CodeFunction) (k : ℕ) where
  pub declares : (y : ℕ) → is_object_in (objects_in (Some c) k) y ≡ true → is_object_in (all_variables c) y ≡ true
  declares y e = (opened_object (if_there (slice_get (blocks_in (Some c)) k)) 0 (all_variables c) y e).0

  pub declared_as : (y : ℕ) → is_object_in (objects_in (Some c) k) y ≡ true
      → at_number (objects_in (Some c) k) y ≡ at_number (all_variables c) y
  declared_as y e = opened_number (if_there (slice_get (blocks_in (Some c)) k)) 0 (all_variables c) y e

  -- the objects of a block that is entered have no homes before
  pub fresh : (frame : List Home) → have_no_homes frame (if_there (slice_get (blocks_in (Some c)) k)) ≡ true
      → (y : ℕ) → is_object_in (objects_in (Some c) k) y ≡ true → get_or frame y NoObject ≡ NoObject
  fresh frame none y e =
      let numbers = if_there (slice_get (blocks_in (Some c)) k) in
      let place : y ≡ 0 + y = omega arith in
      among_none frame numbers y none
      (ap (is_among numbers) place ∙ (opened_object numbers 0 (all_variables c) y e).1)

-- ---- the block of a body

-- what is an object among some variables, behind others, is the same among all of them
pub behind_others : (ps os vs : List Variable)
    → ((y : ℕ) → is_object_in os y ≡ true → (is_object_in vs y ≡ true) × (at_number os y ≡ at_number vs y))
    → (y : ℕ) → is_object_in (ps ++ os) y ≡ true
    → (is_object_in (ps ++ vs) y ≡ true) × (at_number (ps ++ os) y ≡ at_number (ps ++ vs) y)
behind_others [] os vs same y e = same y e
behind_others (p ∷ ps) os vs same zero e = (e, refl)
behind_others (p ∷ ps) os vs same (suc y) e = behind_others ps os vs same y e

-- so of the objects that the body of a function declares, and those among its parameters
pub body_declares : (numbers : List ℕ) (n : ℕ) (ps vs : List Variable) (y : ℕ)
    → is_object_in (ps ++ opened numbers n vs (map closed vs)) y ≡ true
    → (is_object_in (ps ++ vs) y ≡ true)
    × (at_number (ps ++ opened numbers n vs (map closed vs)) y ≡ at_number (ps ++ vs) y)
body_declares numbers n ps vs =
    behind_others ps (opened numbers n vs (map closed vs)) vs
    (λ y e. ((opened_object numbers n vs y e).0, opened_number numbers n vs y e))
