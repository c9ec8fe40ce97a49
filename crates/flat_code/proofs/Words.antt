-- Values stay words, and bytes bytes.
use Rattle.std.proofs.Common.{ℕ, ◌+◌, ◌-◌, ◌%◌, ◌^◌, ◌<◌, Bool, true, false, if◌then◌else◌, List, [], ◌∷◌, Option, Some}
use Rattle.std.proofs.Common.{None, nat_eq, nat_lt, ◌==◌, ◌&&◌, arith}
use Rattle.behaviours.specs.Shown.{AccessKind, Read, Write}
use Rattle.addr_map.specs.Places.{MapSizes}
use Rattle.rv_isa.specs.declared.instruction.LoadOp.{LoadOp}
use Rattle.rv_isa.specs.declared.instruction.StoreOp.{StoreOp}
use Rattle.rv_isa.specs.Results.{load_bytes, extended, store_bytes}
use Rattle.rv_isa.proofs.Words.{reg_fits, reg32_fits, load_fits}
use Rattle.flat_code.specs.declared.instruction.RightOperand.{RightOperand}
use Rattle.flat_code.specs.declared.instruction.RightOperand.TheVariants.{Register, Number}
use Rattle.flat_code.specs.declared.instruction.FlatInstruction.{FlatInstruction}
use Rattle.flat_code.specs.declared.instruction.FlatInstruction.TheVariants.{Constant, Move, Operate, Operate32}
use Rattle.flat_code.specs.declared.instruction.FlatInstruction.TheVariants.{Load, Store, Branch, JumpForward}
use Rattle.flat_code.specs.declared.instruction.FlatInstruction.TheVariants.{JumpBack, Turn, Call, CallAddress}
use Rattle.flat_code.specs.declared.instruction.FlatInstruction.TheVariants.{Return, Get, Put, Exit, End, Charged}
use Rattle.flat_code.specs.declared.function.FlatFunction.{FlatFunction}
use Rattle.flat_code.specs.declared.function.FlatProgram.{FlatProgram}
use Rattle.flat_code.specs.Memory.{put, load, store}
use Rattle.flat_code.specs.Spaces.{is_allowed}
use Rattle.flat_code.specs.State.{Values, State, Frame, Stage, Stands, Over, Stuck}
use Rattle.flat_code.specs.Calls.{function_in, arguments, with_results, function_at}
use Rattle.flat_code.specs.Meaning.{Context, Local, Goes, Ends, Leaves, Fails, right_value, with_register}
use Rattle.flat_code.specs.Meaning.{with_access, loads, stores, received, local, has_room, enters, enters_at}
use Rattle.flat_code.specs.Meaning.{returns, parameters_of, results_of, waiting, address_in, leaves, goes_to}
use Rattle.flat_code.specs.Meaning.{at_instruction, instruction_at, context, cost, step}
use Rattle.flat_code.specs.Words.{AreWords, IsOfWords, WaitWithWords, HasWords}
use Rattle.flat_code.proofs.Stored as stored

-- a choice has what both sides have
either : {A : Type 0} → (P : A → Type 0) → (b : Bool) (x y : A) → P x → P y → P (if b then x else y)
either P true x y h k = h
either P false x y h k = k

put_fits : (values : Values) (x v : ℕ) → AreWords values → v < 2 ^ 64 → AreWords (put values x v)
unfolding put
put_fits values x v h fits y = either (λ n. n < 2 ^ 64) (nat_eq y x) v (values y) fits (h y)

register_fits : (x v : ℕ) (s : State) → IsOfWords s → v < 2 ^ 64 → IsOfWords (with_register x v s)
register_fits x v s h fits = record { values = put_fits s.values x v h.values fits; memory = h.memory }

access_fits : (c : Context) (a n : ℕ) (kind : AccessKind) (s : State) → IsOfWords s
    → IsOfWords (with_access c a n kind s)
access_fits c a n kind s h = either IsOfWords _ _ s (record { values = h.values; memory = h.memory }) h

right_fits : (r : RightOperand) (values : Values) → AreWords values → right_value r values < 2 ^ 64
right_fits (Register x) values h = h x
right_fits (Number n) values h = omega arith

-- what stays in its function
abbrev pub LocalFits : Local → Type 0
LocalFits (Goes pc s) = IsOfWords s
LocalFits (Ends status report s) = Unit {0}
LocalFits Leaves = Unit {0}
LocalFits Fails = Unit {0}

load_keeps : (c : Context) (op : LoadOp) (x a pc : ℕ) (s : State) → IsOfWords s → LocalFits (loads c op x a pc s)
load_keeps c op x a pc s h =
    let t = with_access c a (load_bytes op) Read s in
    let v = extended op (load (load_bytes op) s.memory a) in
    either LocalFits (is_allowed c.sizes a (load_bytes op)) (Goes (pc + 1) (with_register x v t)) Fails
    (register_fits x v t (access_fits c a (load_bytes op) Read s h)
    (load_fits op _ (stored.load_fits (load_bytes op) s.memory a h.memory))) tt

store_keeps : (c : Context) (op : StoreOp) (a v pc : ℕ) (s : State) → IsOfWords s → LocalFits (stores c op a v pc s)
store_keeps c op a v pc s h =
    let t : State = record s { memory = store (store_bytes op) s.memory a v } in
    let k : IsOfWords t =
    record { values = h.values; memory = stored.store_keeps_bytes (store_bytes op) s.memory a v h.memory } in
    either LocalFits (is_allowed c.sizes a (store_bytes op))
    (Goes (pc + 1) (with_access c a (store_bytes op) Write t)) Fails
    (access_fits c a (store_bytes op) Write t k) tt

received_fits : (x : ℕ) (o : Option ℕ) (s : State) → IsOfWords s → IsOfWords (received x o s)
received_fits x None s h = register_fits x _ s h (omega arith)
received_fits x (Some byte) s h = let r = register_fits x (byte % 256) s h (omega arith) in
    record { values = r.values; memory = r.memory }

pub local_fits : (c : Context) (i : FlatInstruction) (pc : ℕ) (s : State) → IsOfWords s → LocalFits (local c i pc s)
local_fits c (Constant x n) pc s h = register_fits x _ s h (omega arith)
local_fits c (Move x y) pc s h = register_fits x _ s h (h.values y)
local_fits c (Operate op x y z) pc s h =
    register_fits x _ s h
    (reg_fits op (s.values y) (right_value z s.values) (h.values y) (right_fits z s.values h.values))
local_fits c (Operate32 op x y z) pc s h = register_fits x _ s h (reg32_fits op _ _ (omega arith) (omega arith))
local_fits c (Load op x y offset) pc s h = load_keeps c op x (address_in s y offset) pc s h
local_fits c (Store op y offset x) pc s h = store_keeps c op (address_in s y offset) (s.values x) pc s h
local_fits c (Branch op y z past) pc s h = h
local_fits c (JumpForward past) pc s h = h
local_fits c (JumpBack back) pc s h = h
local_fits c Turn pc s h = record { values = h.values; memory = h.memory }
local_fits c (Call f first x) pc s h = tt
local_fits c (CallAddress y first n x m) pc s h = tt
local_fits c (Return y) pc s h = tt
local_fits c (Get x) pc s h = received_fits x _ s h
local_fits c (Put x) pc s h = record { values = h.values; memory = h.memory }
local_fits c (Exit x) pc s h = tt
local_fits c (End e) pc s h = tt
local_fits c (Charged x) pc s h = register_fits x _ s h (omega arith)

-- calls and returns
arguments_fit : (first n : ℕ) (values : Values) → AreWords values → AreWords (arguments first n values)
arguments_fit first n values h y = either (λ v. v < 2 ^ 64) (nat_lt y n) (values (first + y)) 0 (h (first + y))
    (omega arith)

results_fit : (into n : ℕ) (results : Values) (from : ℕ) (values : Values) → AreWords results → AreWords values
    → AreWords (with_results into n results from values)
results_fit into n results from values r h y = either (λ v. v < 2 ^ 64) _ _ _ (r (from + (y - into))) (h y)

enters_fits : (m : MapSizes) (p : FlatProgram) (f first n r : ℕ) (callee : Option FlatFunction) (frames : List Frame)
    (s : State)
    → IsOfWords s → WaitWithWords frames → HasWords (enters m p f first n r callee frames s)
enters_fits m p f first n r None frames s h w = tt
enters_fits m p f first n r (Some callee) frames s h w =
    let t : State = record s { values = arguments first n s.values } in
    let k : IsOfWords t = record { values = arguments_fit first n s.values h.values; memory = h.memory } in
    either HasWords ((callee.parameters == n) && ((callee.results == r) && has_room m p frames callee))
    (Stands f 0 t frames) Stuck (k, w) tt

enters_at_fits : (m : MapSizes) (p : FlatProgram) (o : Option ℕ) (first n r : ℕ) (frames : List Frame) (s : State)
    → IsOfWords s → WaitWithWords frames → HasWords (enters_at m p o first n r frames s)
enters_at_fits m p None first n r frames s h w = tt
enters_at_fits m p (Some f) first n r frames s h w = enters_fits m p f first n r _ frames s h w

returns_fits : (n y : ℕ) (frames : List Frame) (s : State) → IsOfWords s → WaitWithWords frames
    → HasWords (returns n y frames s)
returns_fits n y [] s h w = tt
returns_fits n y (x ∷ xs) s h w =
    (record { values = results_fit x.into n s.values y x.values h.values w.0; memory = h.memory }, w.1)

leaves_fits : (m : MapSizes) (p : FlatProgram) (i : FlatInstruction) (f pc : ℕ) (s : State) (frames : List Frame)
    → IsOfWords s → WaitWithWords frames → HasWords (leaves m p i f pc s frames)
leaves_fits m p (Call g first x) f pc s frames h w =
    enters_fits m p g first (parameters_of (function_in p g)) (results_of (function_in p g)) (function_in p g)
    (waiting f pc x s ∷ frames) s h (h.values, w)
leaves_fits m p (CallAddress y first n x r) f pc s frames h w =
    enters_at_fits m p (function_at p (s.values y)) first n r (waiting f pc x s ∷ frames) s h (h.values, w)
leaves_fits m p (Return y) f pc s frames h w = returns_fits _ y frames s h w
leaves_fits m p (Constant x n) f pc s frames h w = tt
leaves_fits m p (Move x y) f pc s frames h w = tt
leaves_fits m p (Operate op x y z) f pc s frames h w = tt
leaves_fits m p (Operate32 op x y z) f pc s frames h w = tt
leaves_fits m p (Load op x y offset) f pc s frames h w = tt
leaves_fits m p (Store op y offset x) f pc s frames h w = tt
leaves_fits m p (Branch op y z past) f pc s frames h w = tt
leaves_fits m p (JumpForward past) f pc s frames h w = tt
leaves_fits m p (JumpBack back) f pc s frames h w = tt
leaves_fits m p Turn f pc s frames h w = tt
leaves_fits m p (Get x) f pc s frames h w = tt
leaves_fits m p (Put x) f pc s frames h w = tt
leaves_fits m p (Exit x) f pc s frames h w = tt
leaves_fits m p (End e) f pc s frames h w = tt
leaves_fits m p (Charged x) f pc s frames h w = tt

goes_to_fits : (m : MapSizes) (p : FlatProgram) (i : FlatInstruction) (f pc : ℕ) (s : State) (frames : List Frame)
    (l : Local)
    → IsOfWords s → WaitWithWords frames → LocalFits l → HasWords (goes_to m p i f pc s frames l)
goes_to_fits m p i f pc s frames (Goes q s') h w g = (g, w)
goes_to_fits m p i f pc s frames (Ends status report s') h w g = tt
goes_to_fits m p i f pc s frames Leaves h w g = leaves_fits m p i f pc s frames h w
goes_to_fits m p i f pc s frames Fails h w g = tt

at_instruction_fits : (m : MapSizes) (p : FlatProgram) (o : Option FlatInstruction) (f pc : ℕ) (s : State)
    (frames : List Frame)
    → IsOfWords s → WaitWithWords frames → HasWords (at_instruction m p o f pc s frames)
at_instruction_fits m p None f pc s frames h w = tt
at_instruction_fits m p (Some i) f pc s frames h w =
    let t : State = record s { work = s.work + cost p f i } in
    let k : IsOfWords t = record { values = h.values; memory = h.memory } in
    goes_to_fits m p i f pc t frames _ k w (local_fits (context m p f frames) i pc t k)

pub step_fits : (m : MapSizes) (p : FlatProgram) (x : Stage) → HasWords x → HasWords (step m p x)
step_fits m p (Stands f pc s frames) h = at_instruction_fits m p (instruction_at p f pc) f pc s frames h.0 h.1
step_fits m p (Over status report s) h = tt
step_fits m p Stuck h = tt
