-- What is lowered of a program of integers is code of integers, whatever checks are put in.
use Rattle.std.proofs.Common.{◌≡◌, ℕ, zero, suc, ◌+◌, Bool, true, false, not, ◌&&◌}
use Rattle.std.proofs.Common.{if◌then◌else◌}
use Rattle.std.proofs.Common.{◌==◌, List, [], ◌∷◌, ◌++◌, map, length, drop, get_or, Option, Some, None, refl, sym, ap}
use Rattle.std.proofs.Common.{◌∙◌, subst, arith, length-append, nat_lt}
use Rattle.std.specs.Prelude.{slice_get}
use Rattle.std.specs.List.{list_all}
use Rattle.std.proofs.lemmas.Bool.{eqb-true, eq-eqb, ltb-true, lt-ltb, and_from, not-true, both_ways}
use Rattle.std.proofs.lemmas.Bool.{cond-false}
use Rattle.std.proofs.lemmas.List.{length-map}
use Rattle.std.proofs.lemmas.Option.{same_Some, none-some}
use Rattle.sb_base.specs.Budgets.{default_sizes}
use Rattle.c_tree.specs.declared.expression.Kind.{Kind}
use Rattle.c_tree.specs.declared.expression.Kind.TheVariants.{Void, Scalar as OfScalar, Structure, Array}
use Rattle.obj_memory.specs.declared.value.Scalar.TheVariants.{Integer, Pointer}
use Rattle.c_tree.specs.declared.program.Variable.{Variable}
use Rattle.c_tree.specs.Programs.{Function, FunctionType, StaticObject, Program}
use Rattle.c_tree.specs.Blocks.{all_of, no_variable, opened, closed, is_among, block_objects, body_variables}
use Rattle.c_tree.specs.Blocks.{block_variables}
use Rattle.c_tree.specs.Kinds.{Signature, is_kind, is_value}
use Rattle.c_tree.specs.Valid.{no_signature, has_number}
use Rattle.c_tree.specs.ValidProgram.{is_valid_program, is_function, are_functions, are_parameters, function_scope}
use Rattle.c_tree.specs.ValidProgram.{is_function_type, are_all_different, is_static_object, is_variable, declares_all}
use Rattle.c_tree.specs.Room.{room}
use Rattle.c_tree.specs.ValidProgram.{signature_at, are_statements, is_main, is_main_signature}
use Rattle.source_meaning.specs.State.{Header, Setting}
use Rattle.source_meaning.specs.Places.{statics_first}
use Rattle.source_meaning.specs.Meaning.{initial_objects, placed_statics, objects_after, store_statics, static_env}
use Rattle.source_meaning.specs.Meaning.{fresh}
use Rattle.source_meaning.specs.Meaning.{setting_of}
use Rattle.source_meaning.specs.Calls.{header_of, function_at}
use Rattle.source_meaning.proofs.ValidNames.{both, three, five, six, never}
use Rattle.tac_ir.specs.declared.instruction.Instruction.{Instruction}
use Rattle.tac_ir.specs.declared.instruction.Instruction.TheVariants as tac
use Rattle.tac_ir.specs.declared.function.CodeFunction.{CodeFunction}
use Rattle.tac_ir.specs.declared.function.Tac.{Tac}
use Rattle.tac_ir.proofs.SameTables.{function_same}
use Rattle.tac_ir.specs.declared.function.StaticData.{StaticData}
use Rattle.tac_ir.specs.Meaning.{function_in, header_of_code, placed_data}
use Rattle.c_lower.specs.Placed.{Placed, Holds}
use Rattle.c_lower.specs.Programs.{IsLowered, LowersAt, LowersFunction, literals_of, placed_in, function_exits}
use Rattle.c_lower.specs.Programs.{result_in, height_in}
use Rattle.check_insert.specs.SameButChecks.{HasNoChecks, SameButChecksIn, SameButChecksAt, SameButChecks}
use Rattle.compiled_programs.specs.Programs as p
use Rattle.metadata_plan.specs.Registers.{all_variables}
use Rattle.metadata_plan.specs.Part.{SafeWithin, is_integer_instruction, are_integers, have_no_objects}
use Rattle.metadata_plan.specs.Part.{IsIntegerCode}
use Rattle.metadata_plan.specs.Part.{has_no_statics, takes, has_no_pointer, is_integer_kind}
use Rattle.metadata_plan.proofs.SetUp.{no_objects}
use Rattle.image_laws.proofs.Lowering.Safe.{stepped, nothing_yet, along}
use Rattle.image_laws.proofs.Lowering.Values.{IsScope, same_without_pointer}
use Rattle.image_laws.proofs.Lowering.Statements.{opened_length, HaveNone, of_statements}

-- ---- functions by number

-- one by number in code, and the one of the text with its header
pub same_at : (cs : List CodeFunction) (fs : List Function) → map header_of_code cs ≡ map header_of fs → (u : ℕ)
    (c : CodeFunction) → slice_get cs u ≡ Some c
    → (f : Function) × (function_at fs u ≡ Some f) × (header_of_code c ≡ header_of f)
same_at [] fs e u c at = absurd (none-some c at)
same_at (x ∷ cs) [] e u c at = absurd (let l = ap length e in omega arith)
same_at (x ∷ cs) (y ∷ fs) e zero c at =
    (y, refl, ap header_of_code (sym (same_Some x c at)) ∙ ap (λ l. get_or l 0 (header_of y)) e)
same_at (x ∷ cs) (y ∷ fs) e (suc u) c at = same_at cs fs (ap (drop 1) e) u c at

-- and the other way
code_at : (cs : List CodeFunction) (fs : List Function) → map header_of_code cs ≡ map header_of fs → (u : ℕ)
    → nat_lt u (length fs) ≡ true
    → (c : CodeFunction) × (f : Function) × (slice_get cs u ≡ Some c) × (function_at fs u ≡ Some f)
    × (header_of_code c ≡ header_of f)
code_at cs [] e u below = absurd (let b = ltb-true u 0 below in omega arith)
code_at [] (y ∷ fs) e u below = absurd (let l = ap length e in omega arith)
code_at (x ∷ cs) (y ∷ fs) e zero below = (x, y, refl, refl, ap (λ l. get_or l 0 (header_of y)) e)
code_at (x ∷ cs) (y ∷ fs) e (suc u) below =
    code_at cs fs (ap (drop 1) e) u
    (let b = ltb-true (suc u) (suc (length fs)) below in lt-ltb u (length fs) (omega arith))

pub valid_at : (q : Program) (fs : List Function) (n u : ℕ) (f : Function) → are_functions q n fs ≡ true
    → function_at fs u ≡ Some f → is_function q (n + u) f ≡ true
valid_at q [] n u f e at = absurd (none-some f at)
valid_at q (x ∷ fs) n zero f e at =
    let h = both (is_function q n x) (are_functions q (suc n) fs) e in
    let z : n + 0 ≡ n = omega arith in
    subst (λ m. is_function q m f ≡ true) (sym z) (subst (λ g. is_function q n g ≡ true) (same_Some x f at) h.0)
valid_at q (x ∷ fs) n (suc u) f e at =
    let h = both (is_function q n x) (are_functions q (suc n) fs) e in
    let z : suc n + u ≡ n + suc u = omega arith in
    subst (λ m. is_function q m f ≡ true) z (valid_at q fs (suc n) u f h.1 at)

integers_at : (fs : List Function) (u : ℕ) (f : Function) → list_all p.is_integer_function fs ≡ true
    → function_at fs u ≡ Some f → p.is_integer_function f ≡ true
integers_at [] u f e at = absurd (none-some f at)
integers_at (x ∷ fs) zero f e at =
    subst (λ g. p.is_integer_function g ≡ true) (same_Some x f at)
    (both (p.is_integer_function x) (list_all p.is_integer_function fs) e).0
integers_at (x ∷ fs) (suc u) f e at =
    integers_at fs u f (both (p.is_integer_function x) (list_all p.is_integer_function fs) e).1 at

pub signature_of_function : (q : Program) (fs : List Function) (u : ℕ) (f : Function) → function_at fs u ≡ Some f
    → get_or (map (λ (g : Function). signature_at q g.type_number) fs) u no_signature ≡ signature_at q f.type_number
signature_of_function q [] u f at = absurd (none-some f at)
signature_of_function q (x ∷ fs) zero f at = ap (λ (g : Function). signature_at q g.type_number) (same_Some x f at)
signature_of_function q (x ∷ fs) (suc u) f at = signature_of_function q fs u f at

as_many : (vs : List Variable) (ks : List Kind) → are_parameters vs ks ≡ true → length vs ≡ length ks
as_many [] [] e = refl
as_many [] (k ∷ ks) e = never e
as_many (v ∷ vs) [] e = never e
as_many (v ∷ vs) (k ∷ ks) e =
    ap suc (as_many vs ks (three (is_kind v.kind k) (is_value k) (are_parameters vs ks) e).2)

-- ---- variables of integers

same_integer : (k : Kind) → p.is_integer_kind k ≡ true → is_integer_kind k ≡ true
same_integer Void e = never e
same_integer (OfScalar (Integer t)) e = refl
same_integer (OfScalar Pointer) e = never e
same_integer (Structure n) e = never e
same_integer (Array n) e = never e

integers_are : (vs : List Variable) → list_all p.is_integer_variable vs ≡ true → are_integers vs ≡ true
integers_are [] e = refl
integers_are (v ∷ vs) e =
    let h = both (p.is_integer_variable v) (list_all p.is_integer_variable vs) e in
    let k = both (not v.is_object) (p.is_integer_kind v.kind) h.0 in
    and_from (not v.is_object && is_integer_kind v.kind) (are_integers vs)
    (and_from (not v.is_object) (is_integer_kind v.kind) k.0 (same_integer v.kind k.1)) (integers_are vs h.1)

-- what is no object stays none where blocks are opened
closed_same : (v : Variable) → not v.is_object ≡ true → (closed v).is_object ≡ false
closed_same v e = by v.is_object refl
  where
    by : (b : Bool) → v.is_object ≡ b → (closed v).is_object ≡ false
    by true h = absurd (both_ways v.is_object (not-true v.is_object e) h)
    by false h = ap (λ (w : Variable). w.is_object) (cond-false v.is_object no_variable v h) ∙ h

none_opened : (numbers : List ℕ) (x : ℕ) (all vs : List Variable) → list_all p.is_integer_variable all ≡ true
    → have_no_objects vs ≡ true → have_no_objects (opened numbers x all vs) ≡ true
none_opened numbers x [] vs a b = refl
none_opened numbers x (d ∷ ds) [] a b = refl
none_opened numbers x (d ∷ ds) (v ∷ vs) a b =
    let h = both (p.is_integer_variable d) (list_all p.is_integer_variable ds) a in
    let k = both (not d.is_object) (p.is_integer_kind d.kind) h.0 in
    let g = both (not v.is_object) (have_no_objects vs) b in
    and_from (not (if is_among numbers x then d else v).is_object) (have_no_objects (opened numbers (suc x) ds vs))
    (one (is_among numbers x) k.0 g.0) (none_opened numbers (suc x) ds vs h.1 g.1)
  where
    one : (b : Bool) → not d.is_object ≡ true → not v.is_object ≡ true → not (if b then d else v).is_object ≡ true
    one true y z = y
    one false y z = z

none_closed : (vs : List Variable) → list_all p.is_integer_variable vs ≡ true → have_no_objects (map closed vs) ≡ true
none_closed [] e = refl
none_closed (v ∷ vs) e =
    let h = both (p.is_integer_variable v) (list_all p.is_integer_variable vs) e in
    let k = both (not v.is_object) (p.is_integer_kind v.kind) h.0 in
    and_from (not (closed v).is_object) (have_no_objects (map closed vs))
    (ap not (closed_same v k.0)) (none_closed vs h.1)

-- the two halves of a list
halves : (vs ws : List Variable) → list_all p.is_integer_variable (vs ++ ws) ≡ true
    → (list_all p.is_integer_variable vs ≡ true) × (list_all p.is_integer_variable ws ≡ true)
halves [] ws e = (refl, e)
halves (v ∷ vs) ws e =
    let h = both (p.is_integer_variable v) (list_all p.is_integer_variable (vs ++ ws)) e in
    let r = halves vs ws h.1 in
    (and_from (p.is_integer_variable v) (list_all p.is_integer_variable vs) h.0 r.0, r.1)

-- ---- code with checks

-- an instruction of integers is no check and gets none
pub without_checks : (t : Tac) (k : ℕ) (i : Instruction) → is_integer_instruction t k i ≡ true → HasNoChecks i
without_checks t k (tac.Read kind mode line key d a m) e = never e
without_checks t k (tac.Write kind mode line key d a b m) e = never e
without_checks t k (tac.Update u s1 f mode line at key d a right m) e = never e
without_checks t k (tac.Judge test size line key a m) e = never e
without_checks t k i e = record { needed = refl; own = refl }

pub safe_inserted : (t : Tac) (variables : ℕ) (c c' : CodeFunction) → SameButChecksIn c c' → (k n : ℕ)
    → SafeWithin (is_integer_instruction t variables) c.code k n
    → SafeWithin (is_integer_instruction t variables) c'.code k n
unfolding SafeWithin
safe_inserted t variables c c' f zero n s = tt
safe_inserted t variables c c' f (suc k) n s = (
  s.0,
  f.code n s.0 s.1 (without_checks t variables s.0 s.2),
  s.2,
  λ m l. safe_inserted t variables c c' f k m (s.3 m l),
)

-- ---- functions

no_pointer_at : (ts : List FunctionType) (n : ℕ) → list_all p.gives_no_pointer ts ≡ true
    → has_no_pointer (get_or (map (λ (t : FunctionType). t.result) ts) n Void) ≡ true
no_pointer_at [] n e = refl
no_pointer_at (t ∷ ts) zero e = same_without_pointer t.result (both (p.gives_no_pointer t)
    (list_all p.gives_no_pointer ts)
    e).0
no_pointer_at (t ∷ ts) (suc n) e = no_pointer_at ts n (both (p.gives_no_pointer t) (list_all p.gives_no_pointer ts) e).1

before_some : (o o' : Option CodeFunction) (c' : CodeFunction) → SameButChecksAt o o' → o' ≡ Some c'
    → (c : CodeFunction) × (o ≡ Some c) × SameButChecksIn c c'
before_some None None c' i e = absurd (none-some c' e)
before_some None (Some x) c' i e = absurd i
before_some (Some c) None c' i e = absurd i
before_some (Some c) (Some x) c' i e = (c, refl, subst (SameButChecksIn c) (same_Some x c' e) i)

pub lowered_at : (texts : List (List ℕ)) (literals : List Bool) (result : Option Function → Kind) (height : Option Function
    → ℕ)
    (o : Option Function) (o' : Option CodeFunction) (f : Function) (c : CodeFunction)
    → LowersAt texts literals (result o) (height o) o o' → o ≡ Some f → o' ≡ Some c
    → LowersFunction texts literals (result (Some f)) (height (Some f)) f c
lowered_at texts literals result height o o' f c l e e' =
    subst (λ x. LowersAt texts literals (result (Some f)) (height (Some f)) (Some f) x) e'
    (subst (λ x. LowersAt texts literals (result x) (height x) x o') e l)

at_return : (t : Tac) (variables : ℕ) (c : Placed) (k n : ℕ) → Holds c n (tac.Return 0)
    → SafeWithin (is_integer_instruction t variables) c.code k n
at_return t variables c zero n holds = nothing_yet (is_integer_instruction t variables) c.code n
at_return t variables c (suc k) n holds =
    stepped (is_integer_instruction t variables) c.code (tac.Return 0) k n holds refl (λ m l. absurd l)

module _ (q : Program) (t r : Tac) (valid : is_valid_program q ≡ true) (ints : p.is_integer_program q ≡ true)
    (low : IsLowered q t) (ins : SameButChecks t r) where
  functions_valid : (are_functions q 0 q.functions ≡ true) × (is_main q ≡ true)
  unfolding is_valid_program
  functions_valid =
      let h = five (list_all (is_function_type q) q.function_types) (are_all_different q.function_types)
      (list_all (is_static_object q) q.statics) (are_functions q 0 q.functions) (is_main q) valid in
      (h.3, h.4)

  functions_integer : (p.has_no_statics q.statics ≡ true) × (list_all p.gives_no_pointer q.function_types ≡ true)
      × (list_all p.is_integer_function q.functions ≡ true)
  unfolding p.is_integer_program
  functions_integer =
      three (p.has_no_statics q.statics) (list_all p.gives_no_pointer q.function_types)
      (list_all p.is_integer_function q.functions) ints

  pub headers : map header_of_code r.functions ≡ map header_of q.functions
  headers = ins.tables.headers ∙ low.headers

  -- what validity says of a function by its number
  pub record IsValidFunction (n : ℕ) (f : Function) : Type 0 where
    pub parameters : are_parameters f.parameters (signature_at q f.type_number).parameters ≡ true
    pub body : are_statements (function_scope q f) (record { may_break = false; may_continue = false }) f.body ≡ true
    pub room_is : f.room ≡ room q.statics n (signature_at q f.type_number).result f

  pub valid_function : (u : ℕ) (f : Function) → function_at q.functions u ≡ Some f → IsValidFunction u f
  valid_function u f at =
      let h = six (has_number q.function_types f.type_number)
      (are_parameters f.parameters (signature_at q f.type_number).parameters)
      (list_all is_variable (all_of f)) (declares_all f)
      (are_statements (function_scope q f) (record { may_break = false; may_continue = false }) f.body)
      (f.room == room q.statics (0 + u) (signature_at q f.type_number).result f)
      (valid_at q q.functions 0 u f functions_valid.0 at) in
      let z : 0 + u ≡ u = omega arith in
      record {
        parameters = h.1;
        body = h.4;
        room_is = eqb-true f.room (room q.statics (0 + u) (signature_at q f.type_number).result f) h.5
            ∙ ap (λ k. room q.statics k (signature_at q f.type_number).result f) z;
      }

  takes_at : (u : ℕ) → nat_lt u (length (map (λ (f : Function). signature_at q f.type_number) q.functions)) ≡ true
      → takes (function_in r u)
      (length (get_or (map (λ (f : Function). signature_at q f.type_number) q.functions) u no_signature).parameters)
      ≡ true
  takes_at u below =
      let n = length-map q.functions (λ (f : Function). signature_at q f.type_number) in
      let g = code_at r.functions q.functions headers u (subst (λ k. nat_lt u k ≡ true) n below) in
      let f = g.1 in
      let s = signature_of_function q q.functions u f g.3 in
      let v = valid_function u f g.3 in
      let many : length g.0.parameters ≡ length (signature_at q f.type_number).parameters =
      ap (λ (h : Header). length h.parameters) g.4 ∙ as_many f.parameters (signature_at q f.type_number).parameters
      v.parameters in
      subst (λ (k : Signature). takes (function_in r u) (length k.parameters) ≡ true) (sym s)
      (subst (λ o. takes o (length (signature_at q f.type_number).parameters) ≡ true) (sym g.2)
      (eq-eqb (length g.0.parameters) (length (signature_at q f.type_number).parameters) many))

  scope_of : (f : Function) → IsScope r (length (all_of f)) (function_scope q f)
  scope_of f =
      let n = length-map f.variables closed in
      let o = opened_length (block_variables f.body) (length f.parameters) f.variables (map closed f.variables)
      (sym n) in
      let a = length-append f.parameters (body_variables f) in
      let b = length-append f.parameters f.variables in
      record { named = omega (arith, a, b, o, n); all = refl; functions = takes_at }

  module _ (u : ℕ) (c' : CodeFunction) (at : slice_get r.functions u ≡ Some c') where
    abbrev pub function_is : (f : Function) × (function_at q.functions u ≡ Some f) × (header_of_code c' ≡ header_of f)
    function_is = same_at r.functions q.functions headers u c' at

    abbrev pub f : Function
    f = function_is.0

    integer : (list_all p.is_integer_variable (all_of f) ≡ true) × (p.are_integer_statements f.body ≡ true)
    integer =
        both (list_all p.is_integer_variable (all_of f)) (p.are_integer_statements f.body)
        (integers_at q.functions u f functions_integer.2 function_is.1)

    pub variables_same : all_variables c' ≡ all_of f
    variables_same = ap (λ (h : Header). h.parameters ++ h.variables) function_is.2

    pub integer_variables : are_integers (all_variables c') ≡ true
    integer_variables = subst (λ vs. are_integers vs ≡ true) (sym variables_same) (integers_are (all_of f) integer.0)

    pub none_entered : have_no_objects c'.entered ≡ true
    none_entered =
        let h = halves f.parameters f.variables integer.0 in
        subst (λ vs. have_no_objects vs ≡ true) (sym (ap (λ (h : Header). h.entered) function_is.2))
        (none_opened (block_variables f.body) (length f.parameters) f.variables (map closed f.variables) h.1
        (none_closed f.variables h.1))

    -- the function before its checks are put in
    pub lowered : (c : CodeFunction) × (slice_get t.functions u ≡ Some c) × SameButChecksIn c c'
    lowered = before_some (slice_get t.functions u) (slice_get r.functions u) c' (ins.functions u) at

    pub entry_same : c'.entry ≡ lowered.0.entry
    entry_same = (function_same ins.tables u lowered.0 c' lowered.1 at).entry

    pub lowers : LowersFunction t.texts (literals_of q.statics) (result_in t.results (Some f)) (height_in q.statics u
        (Some f)) f lowered.0
    lowers =
        lowered_at t.texts (literals_of q.statics) (result_in t.results) (height_in q.statics u)
        (function_at q.functions u)
        (slice_get t.functions u) f lowered.0 (low.functions u) function_is.1 lowered.1

    -- its code is safe
    pub safe_before : (k : ℕ)
        → SafeWithin (is_integer_instruction r (length (all_of f))) lowered.0.code k lowered.0.entry
    safe_before k =
        let c = lowered.0 in
        let n = length (all_of f) in
        let w = placed_in t.texts (literals_of q.statics) f c in
        let b = lowers.body in
        let none : HaveNone r n w = record {
          none = λ numbers. no_objects (block_objects (all_of f) numbers)
              (none_opened numbers 0 (all_of f) (map closed (all_of f)) integer.0 (none_closed (all_of f) integer.0));
        } in
        let kind : has_no_pointer (get_or t.results f.type_number Void) ≡ true =
        subst (λ ks. has_no_pointer (get_or ks f.type_number Void) ≡ true) (sym low.results)
        (no_pointer_at q.function_types f.type_number functions_integer.1) in
        let returns = at_return r n w k b.1 b.4 in
        let ends = along (is_integer_instruction r n) w.code _ k b.0 b.1 b.3 kind (λ x l. l) returns in
        of_statements r n w none f.body (function_scope q f) (scope_of f)
        (record { may_break = false; may_continue = false }) k c.entry (function_exits b.0 b.1)
        (valid_function u f function_is.1).body integer.1 b.2
        (record { next = ends; breaks = ends; continues = ends; returns = returns })

    pub safe : (k : ℕ)
        → SafeWithin (is_integer_instruction r (length (all_variables c'))) c'.code k c'.entry
    safe k =
        let n = length (all_of f) in
        subst (λ vs. SafeWithin (is_integer_instruction r (length vs)) c'.code k c'.entry) (sym variables_same)
        (subst (λ m. SafeWithin (is_integer_instruction r n) c'.code k m) (sym entry_same)
        (safe_inserted r n lowered.0 c' lowered.2 k lowered.0.entry (safe_before k)))

  -- ---- the program

  -- no static object is placed where the text has none
  no_data : (first : ℕ) (ds : List StaticData) → placed_data first ds 0 ≡ [] → has_no_statics ds ≡ true
  no_data first [] e = refl
  no_data first (d ∷ ds) e = absurd (let l = ap length e in omega arith)

  none_in_text : (ss : List StaticObject) → p.has_no_statics ss ≡ true → ss ≡ []
  none_in_text [] e = refl
  none_in_text (s ∷ ss) e = never e

  none_initial : (g : Setting) → q.statics ≡ [] → initial_objects q g ≡ []
  none_initial g e = ap (λ ss. let placed = placed_statics (statics_first g) ss 0 in
      objects_after placed (store_statics (static_env g) 0 ss (fresh g placed []))) e

  pub no_statics : has_no_statics r.statics ≡ true
  no_statics =
      let g = setting_of q default_sizes in
      subst (λ ds. has_no_statics ds ≡ true) (sym ins.tables.statics)
      (no_data (statics_first g) t.statics
      (low.statics default_sizes ∙ none_initial g (none_in_text q.statics functions_integer.0)))

  pub main_takes_nothing : takes (function_in r r.main) 0 ≡ true
  main_takes_nothing =
      let h = both (has_number q.functions q.main) (is_main_signature (get_or
      (map (λ (f : Function). signature_at q f.type_number) q.functions) q.main no_signature)) functions_valid.1 in
      let s = get_or (map (λ (f : Function). signature_at q f.type_number) q.functions) q.main no_signature in
      let none : length s.parameters ≡ 0 = eqb-true (length s.parameters) 0 (both _ (length s.parameters == 0) h.1).1 in
      let n = length-map q.functions (λ (f : Function). signature_at q f.type_number) in
      let main = takes_at q.main (subst (λ k. nat_lt q.main k ≡ true) (sym n) h.0) in
      subst (λ u. takes (function_in r u) 0 ≡ true) (sym (ins.tables.main ∙ low.main))
      (subst (λ k. takes (function_in r q.main) k ≡ true) none main)

  pub integer_code : IsIntegerCode r
  integer_code = record {
    statics = no_statics;
    main = main_takes_nothing;
    functions = λ u c at. record {
      variables = integer_variables u c at;
      entered = none_entered u c at;
      safe = safe u c at;
    };
  }
