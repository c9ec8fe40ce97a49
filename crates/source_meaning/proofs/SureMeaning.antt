-- A program that names what is there keeps its objects sound, and its accesses are of bytes of objects.
use Rattle.source_meaning.specs.Good.{function_count, IsSetUp, SetsUpBy, Leaves, After, Any, AreLow, ArgumentIs}
use Rattle.source_meaning.specs.Good.{ArgumentsAre, Calling, Context, Inside, IsGood, IsHeld, Sure, context_of}
use Rattle.source_meaning.specs.Good.{signature_in, static_kind}
use Rattle.std.proofs.Common.{◌≡◌, ℕ, zero, suc, ◌+◌, ◌/◌, ◌%◌, ◌≤◌, ◌<◌, List, [], ◌∷◌, map, Bool, true, false, Option}
use Rattle.std.proofs.Common.{Some, None, length, get_or, replicate, refl, sym, ap, ◌∙◌, subst, arith, inl, inr, ◌⊎◌}
use Rattle.std.proofs.Common.{◌≢◌}
use Rattle.std.proofs.lemmas.Bool.{cases_lt, eqb-true}
use Rattle.std.proofs.lemmas.List.{length-map, length-replicate}
use Rattle.addr_map.specs.Places.{MapSizes, AreMapped, region_start, region_size, region_end}
use Rattle.addr_map.specs.declared.region.Region.TheVariants.{Globals, Stack as StackRegion}
use Rattle.addr_map.proofs.Order.{ends_low, starts_whole, in_order}
use Rattle.sb_base.specs.Budgets.{BudgetSizes}
use Rattle.obj_memory.specs.declared.value.Tag.TheVariants.{Untagged}
use Rattle.obj_memory.specs.declared.value.Value.{Value}
use Rattle.obj_memory.specs.declared.object.Storage.TheVariants.{Static}
use Rattle.obj_memory.specs.Objects.{ObjectState, Objects, object_at, new_object, pointer_to}
use Rattle.obj_memory.specs.Heap.{object_room, rounded_up}
use Rattle.obj_memory.specs.Sound.{IsSound, IsSoundObject, IsSoundTag, AreBeside, AreDisjoint}
use Rattle.obj_memory.proofs.Listed.{every_replicate}
use Rattle.obj_memory.proofs.Judging.{sound_pointer}
use Rattle.c_tree.specs.declared.expression.Kind.{Kind}
use Rattle.c_tree.specs.Programs.{FunctionType, Function, StaticObject, Program}
use Rattle.source_meaning.specs.State.{State, Rvalue, Outcome, Gives, Ended, Paused, choose, skip, Setting, Env}
use Rattle.source_meaning.specs.Initializers.{store_parts}
use Rattle.c_tree.specs.ValidProgram.{name_variables, signature_of}
use Rattle.source_meaning.specs.Expressions.{has_type, header_at}
use Rattle.c_tree.specs.Blocks.{all_of}
use Rattle.source_meaning.specs.Places.{statics_first, stack_first}
use Rattle.c_tree.specs.Kinds.{size_of_kind, Signature}
use Rattle.c_tree.specs.declared.expression.Kind.TheVariants.{Void}
use Rattle.source_meaning.specs.Calls.{header_of, env_of, result_of, set_up, caller, back_to, enter, enter_found}
use Rattle.source_meaning.specs.Calls.{function_at, calls}
use Rattle.source_meaning.specs.Meaning.{placed_statics, statics_end, setting_of, fresh, static_env, store_statics}
use Rattle.source_meaning.specs.Meaning.{objects_after, initial_objects, start, line_of, outcome}
use Rattle.source_meaning.specs.Acting.{state_of}
use Rattle.source_meaning.proofs.Naming.{ProgramNames, kinds_in, scope_of, FunctionNames, FunctionsName, file_scope}
use Rattle.source_meaning.proofs.Naming.{PartsName, StaticsName, function_signatures, names_of, NamesObjects}
use Rattle.source_meaning.specs.Keeping.{region_of, IsInRegion, IsNamed, AreSeparate, IsSoundState}
use Rattle.source_meaning.proofs.Separating.{separate_back}
use Rattle.source_meaning.proofs.Holding.{live_made, held_named}
use Rattle.source_meaning.proofs.Laying.{low_word}
use Rattle.c_tree.specs.Valid.{Scope}
use Rattle.source_meaning.proofs.Sure.{sure_on, sure_any, sure_skip, sure_stop, sure_pause, sure_read}
use Rattle.source_meaning.proofs.SureTree.{parts_sure}
use Rattle.source_meaning.proofs.SureCalls.{calling_context, set_up_by, left_good, enter_sure}
use Rattle.source_meaning.proofs.SureLibrary.{sure_routine}
use Rattle.source_meaning.proofs.SureBytes.{sure_print}

-- calls

abbrev pub NamesFound : ProgramNames → Option Function → Type 0
NamesFound u None = Unit {0}
NamesFound u (Some f) = FunctionNames u f

pub found_names : (u : ProgramNames) (fs : List Function) → FunctionsName u fs → (f : ℕ)
    → NamesFound u (function_at fs f)
found_names u [] h f = tt
found_names u (x ∷ xs) h zero = h.0
found_names u (x ∷ xs) h (suc f) = found_names u xs h.1 f

-- the signature of a function is that of its type
abbrev pub SignatureIs : List Signature → Signature → Option Function → Type 0
SignatureIs types q None = Unit {0}
SignatureIs types q (Some f) = q ≡ signature_in types f.type_number

pub signature_found : (types : List Signature) (fs : List Function) (f : ℕ)
    → SignatureIs types (signature_in (function_signatures types fs) f) (function_at fs f)
signature_found types [] f = tt
signature_found types (x ∷ xs) zero = refl
signature_found types (x ∷ xs) (suc f) = signature_found types xs f

typed_found : (types : List Signature) (fs : List Function) (f type : ℕ)
    → has_type (header_at (map header_of fs) f) type ≡ true
    → signature_in (function_signatures types fs) f ≡ signature_in types type
typed_found types [] f type e = absurd (cc)
typed_found types (x ∷ xs) zero type e = ap (signature_in types) (eqb-true x.type_number type e)
typed_found types (x ∷ xs) (suc f) type e = typed_found types xs f type e

-- the functions of a program in its setting
pub record IsSettingOf (u : ProgramNames) (functions : List Function) (g : Setting) : Type 0 where
  pub headers : g.functions ≡ map header_of functions
  pub signatures : u.functions ≡ function_signatures u.types functions
  pub results : (type : ℕ) → result_of g type ≡ (signature_in u.types type).result

module _ (u : ProgramNames) (functions : List Function) (names : FunctionsName u functions) (g : Setting)
    (of : IsSettingOf u functions g) (mapped : AreMapped g.sizes) (limit : ℕ) where
  abbrev CallsSure : ℕ → Type 0
  CallsSure n = (around : Scope) (f : ℕ) (vs : List Rvalue) (line : ℕ)
      → Sure (calling_context u g.sizes around)
      (ArgumentsAre (length u.functions) (signature_in u.functions f).parameters vs)
      (calls functions g limit n f vs line) (ArgumentIs (length u.functions) (signature_in u.functions f).result)

  typed : (f type : ℕ) → has_type (header_at g.functions f) type ≡ true
      → signature_in u.functions f ≡ signature_in u.types type
  typed f type e =
      ap (λ l. signature_in l f) of.signatures
      ∙ typed_found u.types functions f type (subst (λ hs. has_type (header_at hs f) type ≡ true) of.headers e)

  found_sure : (n : ℕ) → CallsSure n → (around : Scope) (q : Signature) (o : Option Function) → NamesFound u o
      → SignatureIs u.types q o → (vs : List Rvalue) (line : ℕ)
      → Sure (calling_context u g.sizes around) (ArgumentsAre (length u.functions) q.parameters vs)
      (enter_found (record {
        setting = g;
        variables = [];
        limit = limit;
        depth = suc n;
        call = calls functions g
            limit n;
      }) o vs line)
      (ArgumentIs (length u.functions) q.result)
  found_sure n deeper around q None h e vs line = sure_stop
  found_sure n deeper around q (Some f) h e vs line =
      let env : Env = record
      { setting = g; variables = []; limit = limit; depth = suc n; call = calls functions g limit n } in
      let inside : Inside (scope_of u f) g.sizes (record env { variables = all_of f }) = record {
        calling = λ variables. record {
          call = deeper (context_of (scope_of u f) g.sizes (all_of f) variables).scope;
          library = sure_routine g mapped refl;
          print = sure_print;
          typed = typed;
        };
        at = refl;
        mapped = mapped;
      } in
      subst (λ z. Sure (calling_context u g.sizes around) (ArgumentsAre (length u.functions) z.parameters vs)
      (enter (record env { variables = all_of f }) f vs line) (ArgumentIs (length u.functions) z.result)) (sym e)
      (subst (λ ks. Sure (calling_context u g.sizes around) (ArgumentsAre (length u.functions) ks vs)
      (enter (record env { variables = all_of f }) f vs line)
      (ArgumentIs (length u.functions) (signature_in u.types f.type_number).result)) h.parameters
      (enter_sure u f h env g.sizes inside (of.results f.type_number) around vs line))

  pub calls_sure : (n : ℕ) → CallsSure n
  calls_sure zero around f vs line = sure_pause
  calls_sure (suc n) around f vs line =
      found_sure n (calls_sure n) around (signature_in u.functions f) (function_at functions f)
      (found_names u functions names f)
      (subst (λ l. SignatureIs u.types (signature_in l f) (function_at functions f)) (sym of.signatures)
      (signature_found u.types functions f)) vs line

abbrev kinds_of_statics : List StaticObject → List Kind
kinds_of_statics os = map (λ o. o.kind) os

-- the static objects as they are placed

record IsFresh (first : ℕ) (bound : ℕ) (o : ObjectState) : Type 0 where
  aligned : o.address % 16 ≡ 0
  static : o.storage ≡ Static
  bytes : o.bytes ≡ replicate o.size 0
  tags : o.tags ≡ replicate (o.size / 8) Untagged
  end : o.address + o.size ≤ bound

fresh_sound : (functions : ℕ) (first bound : ℕ) (objects : Objects) (o : ObjectState) → IsFresh first bound o
    → IsSoundObject functions objects o
fresh_sound functions first bound objects o h = record {
  aligned = h.aligned;
  bytes = ap length h.bytes ∙ length-replicate o.size 0;
  values = subst (λ (bs : List ℕ). (k : ℕ) → get_or bs k 0 < 256) (sym h.bytes)
      (every_replicate (λ b. b < 256) 0 o.size 0 (omega arith) (omega arith));
  tags = ap length h.tags ∙ length-replicate (o.size / 8) Untagged;
  tag = subst (λ ts. (k : ℕ) → IsSoundTag functions objects (get_or ts k Untagged)) (sym h.tags)
      (every_replicate (λ t. IsSoundTag functions objects t) Untagged (o.size / 8) Untagged tt tt);
}

fresh_new : (first bound address size : ℕ) → address % 16 ≡ 0 → address + size ≤ bound
    → IsFresh first bound (new_object Static address size)
unfolding new_object
fresh_new first bound address size a e = record { aligned = a; static = refl; bytes = refl; tags = refl; end = e }

fresh_none : (first bound : ℕ) → IsFresh first bound (object_at [] 0)
fresh_none first bound = record { aligned = refl; static = refl; bytes = refl; tags = refl; end = omega arith }

end_after : (os : List StaticObject) (offset : ℕ) → offset ≤ statics_end os offset
end_after [] offset = omega arith
end_after (o ∷ os) offset = let rest = end_after os (rounded_up 16 offset + size_of_kind o.kind) in omega (arith, rest)

placed_fresh : (first bound : ℕ) → first % 16 ≡ 0 → (os : List StaticObject) (offset : ℕ)
    → first + statics_end os offset ≤ bound → (n : ℕ)
    → IsFresh first bound (object_at (placed_statics first os offset) n)
placed_fresh first bound whole [] offset fits n = fresh_none first bound
placed_fresh first bound whole (o ∷ os) offset fits zero =
    fresh_new first bound (first + rounded_up 16 offset) (size_of_kind o.kind) (omega (arith, whole))
    (let rest = end_after os (rounded_up 16 offset + size_of_kind o.kind) in omega (arith, rest, fits))
placed_fresh first bound whole (o ∷ os) offset fits (suc n) = placed_fresh first bound whole os
    (rounded_up 16 offset + size_of_kind o.kind) fits n

some_kind : (a b : Kind) → Some a ≡ Some b → a ≡ b
some_kind a b e = cc

held_first : (address : ℕ) (kind other : Kind) (rest : Objects) → Some kind ≡ Some other
    → IsHeld (new_object Static address (size_of_kind kind) ∷ rest) 0 other
unfolding new_object
held_first address kind other rest e =
    let same : kind ≡ other = some_kind kind other e in
    record { made = omega arith; live = refl; held = refl; size = ap size_of_kind same }

placed_held : (first : ℕ) (os : List StaticObject) (offset n : ℕ) (kind : Kind)
    → static_kind (kinds_of_statics os) n ≡ Some kind → IsHeld (placed_statics first os offset) n kind
placed_held first [] offset n kind e = absurd (cc)
placed_held first (o ∷ os) offset zero kind e = held_first (first + rounded_up 16 offset) o.kind kind _ e
placed_held first (o ∷ os) offset (suc n) kind e =
    let h = placed_held first os (rounded_up 16 offset + size_of_kind o.kind) n kind e in
    record { made = omega (arith, h.made); live = h.live; held = h.held; size = h.size }

-- their initializers

abbrev pub static_context : ProgramNames → Setting → Context
static_context u g = record { scope = file_scope u; sizes = g.sizes }

pause_calls : (g : Setting) → AreMapped g.sizes → (sc : Context) → g.sizes ≡ sc.sizes
    → ((f type : ℕ) → has_type (header_at g.functions f) type ≡ true
    → signature_in sc.scope.functions f ≡ signature_in sc.scope.types type) → Calling sc (static_env g)
pause_calls g mapped sc least typed = record
    { call = λ f vs line. sure_pause; library = sure_routine g mapped least; print = sure_print; typed = typed }

module _ (g : Setting) (mapped : AreMapped g.sizes) (u : ProgramNames)
    (typed : (f type : ℕ) → has_type (header_at g.functions f) type ≡ true
    → signature_in u.functions f ≡ signature_in u.types type) where
  -- the static objects from a number on
  abbrev AreFrom : (n : ℕ) → List StaticObject → Type 0
  AreFrom n os = (k : ℕ) → static_kind u.statics (n + k) ≡ static_kind (kinds_of_statics os) k

  first_kind : (n : ℕ) (o : StaticObject) (os : List StaticObject) → AreFrom n (o ∷ os)
      → static_kind u.statics n ≡ Some o.kind
  first_kind n o os h = let same : n + 0
      ≡ n = omega arith in subst (λ k. static_kind u.statics k ≡ Some o.kind) same (h 0)

  rest_kinds : (n : ℕ) (o : StaticObject) (os : List StaticObject) → AreFrom n (o ∷ os) → AreFrom (n + 1) os
  rest_kinds n o os h = λ k. let same : n + suc k ≡ n + 1
      + k = omega arith in subst (λ i. static_kind u.statics i ≡ static_kind (kinds_of_statics os) k) same (h (suc k))

  part_stored : (p : Value) (o : StaticObject) (b : Bool) → name_variables o.parts ≡ b
      → (name_variables o.parts ≡ false → PartsName (static_context u g).scope (size_of_kind o.kind) o.parts)
      → Sure (static_context u g)
      (λ objects. IsSoundTag (length u.functions) objects p.tag × IsNamed objects p (size_of_kind o.kind))
      (choose b skip (store_parts (static_env g) p o.parts)) (λ _. Any)
  part_stored p o true e names = sure_any sure_skip
  part_stored p o false e names = parts_sure (pause_calls g mapped (static_context u g) refl typed) p
      (size_of_kind o.kind) o.parts (names e)

  store_sure : (n : ℕ) (os : List StaticObject) → AreFrom n os → StaticsName (static_context u g).scope os
      → Sure (static_context u g) Any (store_statics (static_env g) n os) (λ _. Any)
  store_sure n [] from names = sure_skip
  store_sure n (o ∷ os) from names =
      sure_on (sure_read {Q = λ p objects. IsSoundTag (length u.functions) objects p.tag
      × IsNamed objects p (size_of_kind o.kind)} {f = λ s. pointer_to n s.objects} (λ s good p.
      let h = good.statics n o.kind (first_kind n o os from) in
      (sound_pointer _ n s.objects h.made (low_word s.objects n good.low), held_named s.objects n o.kind h))) (λ p.
      sure_on (part_stored p o (name_variables o.parts) refl names.0) (λ _.
      store_sure (n + 1) os (rest_kinds n o os from) names.1))

abbrev pub GoodStart : ProgramNames → Setting → (input : List ℕ) → Objects → Type 0
GoodStart u g input objects = IsGood (static_context u g) (fresh g objects input)

-- a good state at which nothing has been done, with these objects
good_start : (u : ProgramNames) (g : Setting) (input : List ℕ) (objects : Objects)
    → IsSound (length u.functions) objects → AreLow objects
    → ((n : ℕ) (kind : Kind) → static_kind u.statics n ≡ Some kind → IsHeld objects n kind)
    → AreSeparate g.sizes (stack_first g) objects → GoodStart u g input objects
good_start u g input objects sound low held separate = record {
  kept = record { sound = sound; lie = tt };
  low = low;
  statics = held;
  homes = λ x kind e. absurd (cc);
  plain = λ x. tt;
  typed = record { there = λ x k e. absurd (cc); value = λ x k e. absurd (cc); named = λ x k e. e };
  separate = separate;
}

stored : {A : Type 0} (u : ProgramNames) (g : Setting) (input : List ℕ) (placed : Objects) → GoodStart u g [] placed
    → (Q : A → Objects → Type 0) (o : Outcome A)
    → After (static_context u g) (fresh g placed []) Q o → GoodStart u g input (objects_after placed o)
stored u g input placed begun Q (Gives a s) h =
    good_start u g input s.objects h.0.good.kept.sound h.0.good.low h.0.good.statics
    (separate_back g.sizes (stack_first g) s.stacked placed s.objects begun.separate h.0.good.separate
    h.0.lives.continues h.0.ended)
stored u g input placed begun Q (Ended e s) h = good_start u g input placed begun.kept.sound begun.low
    begun.statics begun.separate
stored u g input placed begun Q (Paused s) h = good_start u g input placed begun.kept.sound begun.low
    begun.statics begun.separate

-- the static objects are separate

new_end : (address size : ℕ) → (new_object Static address size).address + (new_object Static address size).size
    ≡ address + size
unfolding new_object
new_end address size = refl

new_start : (address size : ℕ) → (new_object Static address size).address ≡ address
unfolding new_object
new_start address size = refl

placed_start : (first : ℕ) (os : List StaticObject) (offset n : ℕ) → n < length (placed_statics first os offset)
    → first + offset ≤ (object_at (placed_statics first os offset) n).address
placed_start first [] offset n lt = absurd (omega arith)
placed_start first (o ∷ os) offset zero lt = let e = new_start (first + rounded_up 16 offset) (size_of_kind o.kind) in
    omega (arith, e)
placed_start first (o ∷ os) offset (suc n) lt =
    let rest = placed_start first os (rounded_up 16 offset + size_of_kind o.kind) n (omega (arith, lt)) in omega
    (arith, rest)

placed_order : (first : ℕ) (os : List StaticObject) (offset m n : ℕ) → m < n
    → n < length (placed_statics first os offset)
    → (object_at (placed_statics first os offset) m).address
    + (object_at (placed_statics first os offset) m).size ≤ (object_at (placed_statics first os offset) n).address
placed_order first [] offset m n less lt = absurd (omega arith)
placed_order first (o ∷ os) offset m zero less lt = absurd (omega arith)
placed_order first (o ∷ os) offset zero (suc n) less lt =
    let e = new_end (first + rounded_up 16 offset) (size_of_kind o.kind) in
    let rest = placed_start first os (rounded_up 16 offset + size_of_kind o.kind) n (omega (arith, lt)) in
    omega (arith, e, rest)
placed_order first (o ∷ os) offset (suc m) (suc n) less lt = placed_order first os
    (rounded_up 16 offset + size_of_kind o.kind) m n (omega (arith, less)) (omega (arith, lt))

-- what a static object takes
static_room : (o : ObjectState) → o.storage ≡ Static → object_room o.storage o.size ≡ o.size
static_room o e = ap (λ x. object_room x o.size) e

static_region : (sizes : MapSizes) (o : ObjectState) → o.storage ≡ Static → region_start sizes Globals ≤ o.address
    → o.address + o.size ≤ region_end sizes Globals → IsInRegion sizes o
static_region sizes o e start end =
    let room = static_room o e in
    record {
      start = subst (λ x. region_start sizes (region_of x) ≤ o.address) (sym e) start;
      end = subst (λ x. o.address + object_room o.storage o.size ≤ region_end sizes (region_of x)) (sym e)
          (omega (arith, room, end));
    }

placed_disjoint : (first bound : ℕ) (os : List StaticObject)
    → ((n : ℕ) → IsFresh first bound (object_at (placed_statics first os 0) n))
    → AreDisjoint (placed_statics first os 0)
placed_disjoint first bound os fresh = record {
  apart = λ m n other lm ln. by m n other (live_made (placed_statics first os 0) m lm)
      (live_made (placed_statics first os 0) n ln) (cases_lt m n);
}
  where
    room : (n : ℕ) → object_room (object_at (placed_statics first os 0) n).storage
        (object_at (placed_statics first os 0) n).size ≡ (object_at (placed_statics first os 0) n).size
    room n = static_room (object_at (placed_statics first os 0) n) (fresh n).static

    by : (m n : ℕ) → m ≢ n → m < length (placed_statics first os 0) → n < length (placed_statics first os 0)
        → (m < n) ⊎ (n ≤ m)
        → AreBeside (object_at (placed_statics first os 0) m) (object_at (placed_statics first os 0) n)
    by m n other km kn (inl less) = inl
        (let room_of = room m in let order = placed_order first os 0 m n less kn in omega (arith, room_of, order))
    by m n other km kn (inr le) = inr
        (let room_of = room n in let order = placed_order first os 0 n m (omega (arith, le, other)) km in omega
        (arith, room_of, order))

-- the whole

sound_after : {A : Type 0} (sc : Context) (s : State) (Q : A → Objects → Type 0) (o : Outcome A) → After sc s Q o
    → IsSoundState (function_count sc) sc.sizes (state_of o)
sound_after sc s Q (Gives a s') h = record {
  kept = h.0.good.kept;
  plain = h.0.good.plain;
  apart = h.0.good.separate.apart;
  placed = h.0.good.separate.placed;
  low = h.0.good.low;
}
sound_after sc s Q (Ended e s') h = record
    { kept = h.kept; plain = h.plain; apart = h.apart; placed = h.placed; low = h.low }
sound_after sc s Q (Paused s') h = record
    { kept = h.kept; plain = h.plain; apart = h.apart; placed = h.placed; low = h.low }

statics_fit : (p : Program) (budgets : BudgetSizes)
    → statics_first (setting_of p budgets) + statics_end p.statics 0 ≤ region_end (setting_of p budgets).sizes Globals
unfolding region_start region_size
statics_fit p budgets = omega arith

module _ (p : Program) (budgets : BudgetSizes) (mapped : AreMapped (setting_of p budgets).sizes)
    (names : NamesObjects p) where
  results_of : (ts : List FunctionType) (type : ℕ)
      → get_or (map (λ (t : FunctionType). t.result) ts) type Void ≡ (signature_in (map signature_of ts) type).result
  results_of [] type = refl
  results_of (t ∷ ts) zero = refl
  results_of (t ∷ ts) (suc type) = results_of ts type

  pub is_setting : IsSettingOf (names_of p) p.functions (setting_of p budgets)
  is_setting = record { headers = refl; signatures = refl; results = results_of p.function_types }

  pub typed_start : (f type : ℕ) → has_type (header_at (setting_of p budgets).functions f) type ≡ true
      → signature_in (names_of p).functions f ≡ signature_in (names_of p).types type
  typed_start f type e = typed_found (names_of p).types p.functions f type e

  abbrev placed : Objects
  placed = placed_statics (statics_first (setting_of p budgets)) p.statics 0

  placed_good : GoodStart (names_of p) (setting_of p budgets) [] placed
  placed_good =
      let g = setting_of p budgets in
      let whole = starts_whole g.sizes mapped Globals in
      let behind = in_order g.sizes mapped Globals StackRegion (omega arith) in
      let low = ends_low g.sizes mapped Globals in
      let fresh_at = placed_fresh (statics_first g) (region_end g.sizes Globals) (omega (arith, whole)) p.statics 0
      (statics_fit p budgets) in
      good_start (names_of p) g [] placed
      (record { at = λ n. fresh_sound _ (statics_first g) (region_end g.sizes Globals) placed _ (fresh_at n) })
      (λ n. let end = (fresh_at n).end in omega (arith, end, low)) (placed_held (statics_first g) p.statics 0)
      (record {
        apart = placed_disjoint (statics_first g) (region_end g.sizes Globals) p.statics fresh_at;
        placed = λ n lt. static_region g.sizes (object_at placed n) (fresh_at n).static
            (let start = placed_start (statics_first g) p.statics 0 n lt in omega (arith, start)) (fresh_at n).end;
        below = λ n live held. let end = (fresh_at n).end in omega (arith, end, behind);
        bottom = omega arith;
        top = omega arith;
      })

  pub start_good : (input : List ℕ)
      → GoodStart (names_of p) (setting_of p budgets) input (initial_objects p (setting_of p budgets))
  start_good input =
      let g = setting_of p budgets in
      stored (names_of p) g input placed placed_good (λ _. Any) _
      ((store_sure g mapped (names_of p) typed_start 0 p.statics
      (λ k. let same : 0 + k ≡ k = omega arith in ap (static_kind (kinds_of_statics p.statics))
      same) names.statics).by
      (fresh g placed []) placed_good tt)

  -- each function has a signature
  pub as_many : (fs : List Function) → length (function_signatures (names_of p).types fs) ≡ length fs
  as_many fs = length-map fs _

  pub run_sound : (input : List ℕ) (t : ℕ)
      → IsSoundState (length p.functions) (setting_of p budgets).sizes (state_of (outcome p budgets input t))
  run_sound input t =
      subst (λ n. IsSoundState n (setting_of p budgets).sizes (state_of (outcome p budgets input t)))
      (as_many p.functions) (
      let g = setting_of p budgets in
      let u = names_of p in
      sound_after (static_context u g) (start p g input)
      (ArgumentIs (length u.functions) (signature_in u.functions p.main).result) (outcome p budgets input t)
      ((calls_sure u p.functions names.functions g is_setting mapped t (t + 1) (file_scope u) p.main []
      (line_of (function_at p.functions p.main))).by
      (start p g input) (start_good input)
      (subst (λ ks. ArgumentsAre (length u.functions) ks [] (start p g input).objects) (sym names.main) tt)))

  pub calls_good : (limit n : ℕ) (sc : Context) → sc.scope.statics ≡ (names_of p).statics
      → sc.scope.functions ≡ (names_of p).functions → sc.sizes ≡ (setting_of p budgets).sizes
      → (f : ℕ) (vs : List Rvalue) (line : ℕ)
      → Sure sc (ArgumentsAre (function_count sc) (signature_in (names_of p).functions f).parameters vs)
      (calls p.functions (setting_of p budgets) limit n f vs line)
      (ArgumentIs (function_count sc) (signature_in (names_of p).functions f).result)
  calls_good limit n sc statics functions sizes f vs line =
      let u = names_of p in
      let run = calls p.functions (setting_of p budgets) limit n f vs line in
      subst (λ m. Sure (record { scope = sc.scope; sizes = m })
      (ArgumentsAre (function_count sc) (signature_in u.functions f).parameters vs) run
      (ArgumentIs (function_count sc) (signature_in u.functions f).result)) (sym sizes)
      (subst (λ fs. Sure (record { scope = record sc.scope { functions = fs }; sizes = (setting_of p budgets).sizes })
      (ArgumentsAre (length fs) (signature_in u.functions f).parameters vs) run
      (ArgumentIs (length fs) (signature_in u.functions f).result)) (sym functions)
      (subst (λ ks. Sure (record
      { scope = record sc.scope { statics = ks; functions = u.functions }; sizes = (setting_of p budgets).sizes })
      (ArgumentsAre (length u.functions) (signature_in u.functions f).parameters vs) run
      (ArgumentIs (length u.functions) (signature_in u.functions f).result)) (sym statics)
      (calls_sure u p.functions names.functions (setting_of p budgets) is_setting mapped limit n sc.scope f vs line)))

  pub inside_good : (limit n : ℕ) (f : Function)
      → Inside (scope_of (names_of p) f) (setting_of p budgets).sizes
      (env_of p.functions (setting_of p budgets) limit n (all_of f))
  inside_good limit n f =
      let g = setting_of p budgets in
      record {
        calling = λ variables. record {
          call = calls_good limit n (context_of (scope_of (names_of p) f) g.sizes (all_of f) variables) refl refl refl;
          library = sure_routine g mapped refl;
          print = sure_print;
          typed = typed_start;
        };
        at = refl;
        mapped = mapped;
      }

  -- a call of a function is set up from a good state of its caller, and leaves one where it returns
  module _ (n : ℕ) (f : Function) (found : function_at p.functions n ≡ Some f) (around : Scope) where
    of_function : FunctionNames (names_of p) f
    of_function = subst (NamesFound (names_of p)) found (found_names (names_of p) p.functions names.functions n)

    pub call_set_up : (vs : List Rvalue) (line : ℕ) (s : State)
        → IsGood (calling_context (names_of p) (setting_of p budgets).sizes around) s
        → ArgumentsAre (length (names_of p).functions) (kinds_in f.parameters) vs s.objects
        → SetsUpBy (record { scope = scope_of (names_of p) f; sizes = (setting_of p budgets).sizes }) s.objects
        (set_up (setting_of p budgets) (header_of f) vs line s)
    call_set_up vs line s good args = set_up_by (names_of p) f of_function (setting_of p budgets)
        (setting_of p budgets).sizes refl mapped around vs line s good args

    pub call_left : (s s1 s2 : State) → IsGood (calling_context (names_of p) (setting_of p budgets).sizes around) s
        → IsSetUp (record { scope = scope_of (names_of p) f; sizes = (setting_of p budgets).sizes }) s.objects s1
        → Leaves (record { scope = scope_of (names_of p) f; sizes = (setting_of p budgets).sizes }) s1 s2
        → Leaves (calling_context (names_of p) (setting_of p budgets).sizes around) s (back_to (caller s) s2)
    call_left s s1 s2 good up h = left_good (names_of p) f of_function (setting_of p budgets)
        (setting_of p budgets).sizes refl mapped around [] 0 s good s1 s2 up h
