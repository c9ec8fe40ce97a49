-- Functions of checked code: where one is entered no temporary is needed, homes are read in their blocks, and each register
-- has a home of its own.
use Rattle.std.proofs.Common.{◌≡◌, ℕ, zero, suc, ◌+◌, ◌*◌, ◌<◌, ◌≤◌, ◌==◌, Bool, true, false, List, []}
use Rattle.std.proofs.Common.{◌∷◌, ◌++◌, map, length, get_or, Option, Some, None, refl, sym, ap, ◌∙◌, subst, arith}
use Rattle.std.specs.Prelude.{slice_get, max, if◌then◌else◌}
use Rattle.std.specs.List.{list_all}
use Rattle.std.proofs.lemmas.Bool.{eqb-true, false≢true}
use Rattle.std.proofs.lemmas.Option.{same_Some, none-some, slice_get_within}
use Rattle.obj_memory.specs.declared.int_type.IntType.TheVariants.{Int}
use Rattle.obj_memory.specs.declared.value.Scalar.TheVariants.{Integer, Pointer}
use Rattle.c_tree.specs.declared.expression.Kind.{Kind}
use Rattle.c_tree.specs.declared.expression.Kind.TheVariants.{Void, Scalar as OfScalar, Structure, Array}
use Rattle.c_tree.specs.Programs.{Function, FunctionType, Program}
use Rattle.c_tree.specs.Blocks.{all_of}
use Rattle.c_tree.specs.Kinds.{integer, is_kind, Signature}
use Rattle.c_tree.specs.Room.{room}
use Rattle.c_tree.specs.Valid.{no_signature, has_number}
use Rattle.c_tree.specs.ValidProgram.{is_valid_program, is_function_type, are_all_different, is_static_object, are_functions}
use Rattle.c_tree.specs.ValidProgram.{is_main, is_main_signature, are_parameters, is_variable, declares_all}
use Rattle.c_tree.specs.ValidProgram.{are_statements, function_scope, signature_of, signature_at}
use Rattle.source_meaning.specs.State.{Header}
use Rattle.source_meaning.specs.Blocks.{has_objects}
use Rattle.source_meaning.specs.Calls.{header_of, function_at}
use Rattle.source_meaning.specs.Good.{object_kind}
use Rattle.source_meaning.proofs.ValidNames.{both, five, six}
use Rattle.tac_ir.specs.declared.instruction.Instruction.{Instruction}
use Rattle.tac_ir.specs.declared.instruction.Instruction.TheVariants as tac
use Rattle.tac_ir.specs.declared.function.CodeFunction.{CodeFunction}
use Rattle.tac_ir.specs.declared.function.Tac.{Tac}
use Rattle.tac_ir.specs.SameTables.{SameFunction}
use Rattle.tac_ir.specs.Meaning.{header_of_code}
use Rattle.tac_ir.specs.Temporaries.{temporaries}
use Rattle.tac_ir.proofs.SameTables.{function_same}
use Rattle.metadata_plan.specs.Registers.{all_variables, most_temporaries}
use Rattle.metadata_relation.specs.Homes.{HasRoom}
use Rattle.metadata_relation.specs.Registers.{result_words}
use Rattle.metadata_relation.specs.Blocks.{objects_of_body, result_of}
use Rattle.c_lower.specs.Placed.{Placed, Holds}
use Rattle.c_lower.specs.Programs.{LowersFunction, literals_of, placed_in, function_exits, result_in, height_in}
use Rattle.c_lower.specs.Liveness.Liveness.{IsLive}
use Rattle.c_lower.proofs.Liveness.Statements.{none_is_live}
use Rattle.check_insert.specs.Inserted.{FunctionIn, InsertedAt}
use Rattle.check_insert.specs.SameButChecks.{SameButChecks, SameButChecksIn, SameButChecksAt}
use Rattle.check_elim.specs.Available.{IsDroppable}
use Rattle.check_elim.specs.Dropped.{Choice, FunctionDropped, AreDropped}
use Rattle.image_laws.specs.Images.Images.{IsChecked}
use Rattle.image_laws.specs.Plans.Assignment.{Registers, IsOneOf}
use Rattle.image_laws.specs.Plans.Instructions.{entered_registers, left_registers, body_registers, entered_by}
use Rattle.image_laws.specs.Plans.Instructions.{HasHomesEntered}
use Rattle.image_laws.proofs.Images.Checks.{same_as_lowered}
use Rattle.image_laws.proofs.Lowering.Programs.{same_at, valid_at, signature_of_function, lowered_at}
use Rattle.image_laws.proofs.Entered.Along as steps
use Rattle.image_laws.proofs.Entered.Scopes.{IsScoped, some_object, home_entered, left_entered}
use Rattle.image_laws.proofs.Entered.Values.{needed, AlongAt, goes}
use Rattle.image_laws.proofs.Entered.Statements.{of_statements}
use Rattle.image_laws.proofs.Entered.Checked.{homes_given, none_live}

-- ---- functions by number

record WasDropped (Goes : Choice) (cs : List CodeFunction) (u : ℕ) (c : CodeFunction) : Type 0 where
  before : CodeFunction
  at : slice_get cs u ≡ Some before
  dropped : FunctionDropped Goes before c

dropped_at : (Goes : Choice) (cs ds : List CodeFunction) (u : ℕ) (c : CodeFunction) → AreDropped Goes cs ds
    → slice_get ds u ≡ Some c → WasDropped Goes cs u c
dropped_at Goes [] [] u c h at = absurd (none-some c at)
dropped_at Goes [] (d ∷ ds) u c h at = absurd h
dropped_at Goes (b ∷ bs) [] u c h at = absurd h
dropped_at Goes (b ∷ bs) (d ∷ ds) zero c h at =
    record { before = b; at = refl; dropped = subst (FunctionDropped Goes b) (same_Some d c at) h.0 }
dropped_at Goes (b ∷ bs) (d ∷ ds) (suc u) c h at =
    let r = dropped_at Goes bs ds u c h.1 at in
    record { before = r.before; at = r.at; dropped = r.dropped }

record WasInserted (o : Option CodeFunction) (c : CodeFunction) : Type 0 where
  before : CodeFunction
  at : o ≡ Some before
  inserted : FunctionIn before c

inserted_at : (o o' : Option CodeFunction) (c : CodeFunction) → InsertedAt o o' → o' ≡ Some c → WasInserted o c
inserted_at None None c h at = absurd (none-some c at)
inserted_at None (Some d) c h at = absurd h
inserted_at (Some b) None c h at = absurd h
inserted_at (Some b) (Some d) c h at =
    record { before = b; at = refl; inserted = subst (FunctionIn b) (same_Some d c at) h }

checks_at : (o o' : Option CodeFunction) (b c : CodeFunction) → SameButChecksAt o o' → o ≡ Some b → o' ≡ Some c
    → SameButChecksIn b c
checks_at None o' b c h before after = absurd (none-some b before)
checks_at (Some x) None b c h before after = absurd h
checks_at (Some x) (Some y) b c h before after =
    subst (SameButChecksIn b) (same_Some y c after) (subst (λ z. SameButChecksIn z y) (same_Some x b before) h)

-- ---- temporaries and results

most_within : (is : List Instruction) (b : ℕ) → ((n : ℕ) (i : Instruction) → slice_get is n ≡ Some i → temporaries i ≤ b)
    → most_temporaries is ≤ b
most_within [] b each = omega arith
most_within (i ∷ is) b each =
    let first = each 0 i refl in
    let rest = most_within is b (λ n j at. each (suc n) j at) in
    omega (arith, first, rest)

result_at : (ts : List FunctionType) (n : ℕ) → get_or (map (λ (t : FunctionType). t.result) ts) n Void
    ≡ (get_or (map signature_of ts) n no_signature).result
result_at [] n = refl
result_at (t ∷ ts) zero = refl
result_at (t ∷ ts) (suc n) = result_at ts n

int_words : (kind : Kind) → is_kind kind (integer Int) ≡ true → result_words kind ≤ 2
int_words Void e = absurd (false≢true e)
int_words (OfScalar (Integer t)) e = omega arith
int_words (OfScalar Pointer) e = absurd (false≢true e)
int_words (Structure n) e = absurd (false≢true e)
int_words (Array n) e = absurd (false≢true e)

room_known : (p : Program) (u : ℕ) (kind : Kind) (f : Function) →
    let height = height_in p.statics u (Some f) in
    96 + 40 * ((length f.parameters + length f.variables) + height) + 32 * (1 + length f.parameters) ≤ room p.statics u kind f
unfolding room
room_known p u kind f = omega arith

-- ---- a function

module _ (p : Program) (r : Tac) (valid : is_valid_program p ≡ true) (h : IsChecked p r) where
  same : SameButChecks h.lowered r
  same = same_as_lowered p r h

  pub headers : map header_of_code r.functions ≡ map header_of p.functions
  headers = same.tables.headers ∙ h.is_lowered.headers

  parts_valid : (are_functions p 0 p.functions ≡ true) × (is_main p ≡ true)
  unfolding is_valid_program
  parts_valid =
      let v = five (list_all (is_function_type p) p.function_types) (are_all_different p.function_types)
      (list_all (is_static_object p) p.statics) (are_functions p 0 p.functions) (is_main p) valid in
      (v.3, v.4)

  module _ (u : ℕ) (c : CodeFunction) (at : slice_get r.functions u ≡ Some c) where
    abbrev pub source : (f : Function) × (function_at p.functions u ≡ Some f) × (header_of_code c ≡ header_of f)
    source = same_at r.functions p.functions headers u c at

    abbrev pub f : Function
    f = source.0

    record IsValid : Type 0 where
      body : are_statements (function_scope p f) (record { may_break = false; may_continue = false }) f.body ≡ true
      room_is : f.room ≡ room p.statics (0 + u) (signature_at p f.type_number).result f

    is_valid : IsValid
    is_valid =
        let v = six (has_number p.function_types f.type_number)
        (are_parameters f.parameters (signature_at p f.type_number).parameters) (list_all is_variable (all_of f))
        (declares_all f)
        (are_statements (function_scope p f) (record { may_break = false; may_continue = false }) f.body)
        (f.room == room p.statics (0 + u) (signature_at p f.type_number).result f)
        (valid_at p p.functions 0 u f parts_valid.0 source.1) in
        record {
          body = v.4;
          room_is = eqb-true f.room (room p.statics (0 + u) (signature_at p f.type_number).result f) v.5;
        }

    -- before available checks went, and before there were any
    was : WasDropped IsDroppable h.checked.functions u c
    was = dropped_at IsDroppable h.checked.functions r.functions u c h.dropped.functions at

    low : WasInserted (slice_get h.lowered.functions u) was.before
    low =
        inserted_at (slice_get h.lowered.functions u) (slice_get h.checked.functions u) was.before (h.inserted.functions u)
        was.at

    lowers : LowersFunction h.lowered.texts (literals_of p.statics) (result_in h.lowered.results (Some f))
        (height_in p.statics u (Some f)) f low.before
    lowers =
        lowered_at h.lowered.texts (literals_of p.statics) (result_in h.lowered.results) (height_in p.statics u)
        (function_at p.functions u) (slice_get h.lowered.functions u) f low.before (h.is_lowered.functions u) source.1 low.at

    tables : SameFunction low.before c
    tables = function_same same.tables u low.before c low.at at

    abbrev l : Placed
    l = placed_in h.lowered.texts (literals_of p.statics) f low.before

    variables : l.variables ≡ all_variables c
    variables = sym (ap (λ (k : Header). k.parameters ++ k.variables) source.2)

    -- ---- homes

    abbrev B : Registers
    B = IsOneOf (body_registers c)

    in_body : (y : ℕ) → has_objects (objects_of_body c) ≡ true → IsOneOf (entered_registers c (objects_of_body c)) y → B y
    in_body y some one =
        subst (λ b. IsOneOf (if b then entered_registers c (objects_of_body c) else []) y) (sym some) one

    scoped : IsScoped c B (function_scope p f)
    scoped = record {
      all = variables;
      objects = λ x kind y e one.
          let object = subst (λ vs. object_kind vs x ≡ Some kind)
          (sym (ap (λ (k : Header). k.parameters ++ k.entered) source.2)) e in
          in_body y (some_object (objects_of_body c) x kind object)
          (home_entered c (objects_of_body c) x kind y object one);
    }

    return_needs : (y : ℕ) → IsOneOf (needed c (tac.Return 0)) y → B y
    return_needs y one = by (has_objects (objects_of_body c)) refl one
      where
        by : (b : Bool) → has_objects (objects_of_body c) ≡ b
            → IsOneOf (if b then left_registers c (objects_of_body c) else []) y → B y
        by true some one = in_body y some (left_entered c (objects_of_body c) y some one)
        by false none one = absurd one

    at_return : (k n : ℕ) → Holds l n (tac.Return 0) → AlongAt c l (sym tables.keys) k B n
    at_return zero n holds = tt
    at_return (suc k) n holds =
        steps.stepped l.code (needed c) (entered_by c) (tac.Return 0) k B n holds return_needs (λ m to. absurd to)

    along : (k : ℕ) → AlongAt c l (sym tables.keys) k B c.entry
    along k =
        let b = lowers.body in
        let returns = at_return k b.1 b.4 in
        let ends = goes c l (sym tables.keys) _ k B b.0 b.1 b.3 (λ y one. absurd one) (λ x q. q) returns in
        let here = of_statements c l (sym tables.keys) (sym tables.blocks) variables f.body B (function_scope p f) scoped
        (record { may_break = false; may_continue = false }) k low.before.entry (function_exits b.0 b.1) is_valid.body b.2
        (record { next = ends; breaks = ends; continues = ends; returns = returns }) in
        subst (AlongAt c l (sym tables.keys) k B) (sym tables.entry) here

    pub homes_entered : HasHomesEntered c
    homes_entered = record {
      homes = λ n y i there one path.
          homes_given IsDroppable c low.before was.before low.inserted was.dropped.code B along n y i there one path;
    }

    pub unneeded : (z : ℕ) → IsLive c.code c.entry z → ⊥
    unneeded z =
        none_live IsDroppable c low.before was.before low.inserted was.dropped.code B z along
        (λ live. none_is_live h.lowered.texts (literals_of p.statics) (result_in h.lowered.results (Some f))
        (height_in p.statics u (Some f)) f low.before z lowers
        (subst (λ n. IsLive low.before.code n z) tables.entry live))

    pub entry_within : c.entry < length c.code
    entry_within =
        let first = along 1 in
        let within = slice_get_within low.before.code c.entry first.0 first.1 in
        let size = low.inserted.size in
        let same_size = was.dropped.code.size in
        omega (arith, within, size, same_size)

    -- ---- homes of registers

    checks : SameButChecksIn low.before c
    checks =
        checks_at (slice_get h.lowered.functions u) (slice_get r.functions u) low.before c (same.functions u) low.at at

    pub has_room : HasRoom (height_in p.statics u (Some f)) c
    has_room =
        let height = height_in p.statics u (Some f) in
        let known = room_known p (0 + u) (signature_at p f.type_number).result f in
        let z : 0 + u ≡ u = omega arith in
        let here : height_in p.statics (0 + u) (Some f) ≡ height = ap (λ n. height_in p.statics n (Some f)) z in
        let rooms = ap (λ (k : Header). k.room) source.2 in
        let parameters = ap (λ (k : Header). length k.parameters) source.2 in
        let others = ap (λ (k : Header). length k.variables) source.2 in
        let is = is_valid.room_is in
        record {
          temporaries = most_within c.code (max 1 height)
              (λ n i there.
              let less = checks.homes n i there in
              let most = less.most in
              let few = lowers.homes less.node less.other less.has in
              omega (arith, most, few));
          room = omega (arith, known, here, rooms, parameters, others, is);
        }

  -- ---- `main`

  pub main_words : (c : CodeFunction) → slice_get r.functions r.main ≡ Some c → result_words (result_of r c) ≤ 2
  main_words c at =
      let mains = same.tables.main ∙ h.is_lowered.main in
      let there : slice_get r.functions p.main ≡ Some c = subst (λ n. slice_get r.functions n ≡ Some c) mains at in
      let s = same_at r.functions p.functions headers p.main c there in
      let v = both (has_number p.functions p.main)
      (is_main_signature (get_or (map (λ (g : Function). signature_at p g.type_number) p.functions) p.main no_signature))
      parts_valid.1 in
      let sign = signature_of_function p p.functions p.main s.0 s.1 in
      let int = (both (is_kind (signature_at p s.0.type_number).result (integer Int)) _
      (subst (λ (q : Signature). is_main_signature q ≡ true) sign v.1)).0 in
      let number = ap (λ (k : Header). k.type_number) s.2 in
      let results = same.tables.results ∙ h.is_lowered.results in
      let is : result_of r c ≡ (signature_at p s.0.type_number).result = ap (λ ks. get_or ks c.type_number Void) results
      ∙ (ap (λ n. get_or (map (λ (t : FunctionType). t.result) p.function_types) n Void) number
      ∙ result_at p.function_types s.0.type_number) in
      subst (λ kind. result_words kind ≤ 2) (sym is) (int_words (signature_at p s.0.type_number).result int)
