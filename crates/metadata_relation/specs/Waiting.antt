-- What waits behind a run at a node: blocks that were entered, and callers, the last first. Each keeps objects of its own,
-- with numbers from its mark on and below the mark of what came later.
use Rattle.std.specs.Prelude.{◌≡◌, ℕ, ◌+◌, ◌<◌, ◌≤◌, ◌==◌, Bool, true, false, List, [], ◌∷◌, length, Some, slice_get}
use Rattle.std.specs.Prelude.{get_or}
use Rattle.addr_map.specs.declared.region.Region.TheVariants.{StructureValues}
use Rattle.addr_map.specs.Places.{region_start}
use Rattle.c_tree.specs.declared.expression.Kind.{Kind}
use Rattle.c_tree.specs.declared.expression.Kind.TheVariants.{Structure}
use Rattle.c_tree.specs.declared.program.Variable.{Variable}
use Rattle.source_meaning.specs.State.{State, Home, NoObject, InObject}
use Rattle.source_meaning.specs.Blocks.{Block, has_objects}
use Rattle.tac_ir.specs.declared.function.CodeFunction.{CodeFunction}
use Rattle.tac_ir.specs.Stage.{Waiting, Frame, Waits, Entered}
use Rattle.tac_ir.specs.Meaning.{objects_in}
use Rattle.tac_ir.specs.Structures.{greatest_structure}
use Rattle.flat_code.specs.declared.instruction.FlatInstruction.{FlatInstruction}
use Rattle.flat_code.specs.declared.function.FlatProgram.{FlatProgram}
use Rattle.flat_code.specs.State as flat
use Rattle.flat_code.specs.Calls.{function_in, charged}
use Rattle.flat_code.specs.Meaning.{body_of}
use Rattle.flat_code.specs.Routines.Routine.{HasAt}
use Rattle.lib_wrappers.specs.AllocatingRoutines.Entering.{IsHomeOf, AreOfLock}
use Rattle.lib_wrappers.specs.AreaRoutines.Areas.{entries_begin, HoldsPart}
use Rattle.runtime_functions.specs.Library.{held_from}
use Rattle.metadata_plan.specs.Registers.{most_temporaries}
use Rattle.metadata_plan.specs.Expanded.{Leads}
use Rattle.metadata_relation.specs.Registers.{variables_end, homes_end, first_object, lock_register, top_register}
use Rattle.metadata_relation.specs.Registers.{first_free, is_no_aggregate, temporary_register}
use Rattle.metadata_relation.specs.Blocks.{Expansion, objects_of_body, result_of, result_code, before_main}
use Rattle.metadata_relation.specs.Holding.{area_of, World, HasHomes, Holds}

-- ---- objects by their numbers

-- homes of objects from one number on, below another
abbrev pub AreBetween : (first bound : ℕ) → List Home → Type 0
AreBetween first bound homes = (o : ℕ) → IsHomeOf o homes → (first ≤ o) × (o < bound)

abbrev pub AreHomesBelow : (bound : ℕ) → List Home → Type 0
AreHomesBelow bound frame = (x o : ℕ) → get_or frame x NoObject ≡ InObject o → o < bound

-- no variable has a home
abbrev pub AreNoObjects : List Home → Type 0
AreNoObjects [] = Unit {0}
AreNoObjects (NoObject ∷ homes) = AreNoObjects homes
AreNoObjects (InObject o ∷ homes) = ⊥

-- a variable without a home has none around a block, and none in it
abbrev pub AreOver : (frame outer inner : List Home) → Type 0
AreOver frame outer inner = (x : ℕ) → get_or frame x NoObject ≡ NoObject
    → (get_or outer x NoObject ≡ NoObject) × (get_or inner x NoObject ≡ NoObject)

-- ---- blocks

-- a register of a home
pub record IsHomeRegister (c : CodeFunction) (register : ℕ) : Type 0 where
  pub first : variables_end c ≤ register
  pub last : register < homes_end c

-- the objects of a block, all variables of the function of which these alone are objects, live under the lock word in
-- their register, and a register has the end of the object stack from before it
pub record IsBlockAt (w : World) (state : State) (c : CodeFunction) (entered : List Variable) (outer : ℕ)
    (homes : List Home) (values : flat.Values) : Type 0 where
  pub of_lock : AreOfLock w.keys state homes (values (lock_register c entered))
  pub placed : get_or homes (first_object entered) NoObject ≡ NoObject → ⊥
  pub lock_is : IsHomeRegister c (lock_register c entered)
  pub top_is : values (top_register c entered) ≡ outer
  pub top_is_one : IsHomeRegister c (top_register c entered)

-- a block that was entered, and the homes around it
pub record IsEnteredAs (w : World) (state : State) (c : CodeFunction) (bound number : ℕ) (b : Block)
    (frame : List Home) (values : flat.Values) : Type 0 where
  pub some : has_objects (objects_in (Some c) number) ≡ true
  pub block : IsBlockAt w state c (objects_in (Some c) number) b.stacked b.homes values
  pub mark : ℕ
  pub own : AreBetween mark bound b.homes
  pub below : AreHomesBelow mark b.frame
  pub over : AreOver frame b.frame b.homes
  pub homes : HasHomes w c b.frame values

-- The body of a function: where it has objects they are a block of its own, under the homes behind all that were left; and
-- else the object stack ends where it did before the call.
abbrev pub BodyBy : World → State → CodeFunction → (stacked outer : ℕ) → List Home → flat.Values
    → (with_objects : Bool) → Type 0
BodyBy w s c stacked outer homes values true = IsBlockAt w s c (objects_of_body c) outer homes values
BodyBy w s c stacked outer homes values false = (stacked ≡ outer) × AreNoObjects homes

pub record IsBodyAs (w : World) (state : State) (c : CodeFunction) (stacked outer bound : ℕ) (homes : List Home)
    (values : flat.Values) : Type 0 where
  pub by : BodyBy w state c stacked outer homes values (has_objects (objects_of_body c))
  pub mark : ℕ
  pub within : mark ≤ bound
  pub own : AreBetween mark bound homes

-- ---- callers

-- what the relation stands on: where the blocks of nodes lie, and the flat program
pub record Layout : Type 0 where
  pub expansion : Expansion
  pub address : (function node : ℕ) → ℕ
  pub program : FlatProgram

-- the code behind the call of a function, which gives its result an entry, or moves the structure that it is
abbrev pub code_behind : Layout → (callee : CodeFunction) → Waiting → (caller : CodeFunction) → List FlatInstruction
code_behind l callee w c =
    result_code l.expansion.code c (result_of l.expansion.code callee)
    (l.expansion.entries w.function w.node w.place) w.place

-- Registers have what is needed to move a structure that a call gives to the area of its temporary, which may have contents:
-- where the area begins, where its entries do, and the arguments of the function that moves it.
pub record AwaitsContents (e : Expansion) (c : CodeFunction) (w : Waiting) (size : ℕ) (values : flat.Values) : Type 0
  where
    pub may : e.contents w.function w.node w.place ≡ true
    pub small : size ≤ greatest_structure e.code c.code w.place
    pub own : values (first_free c) ≡ area_of e.map e.code c w.caller.charged w.place
    pub ends : values (first_free c + 1) ≡ entries_begin (area_of e.map e.code c w.caller.charged w.place) size
    pub first : values (first_free c + 2) ≡ area_of e.map e.code c w.caller.charged w.place
    pub size_is : values (first_free c + 3) ≡ size
    pub part : HoldsPart (held_from (first_free c + 4)) size 0
        (region_start e.map StructureValues + w.caller.charged) values

abbrev pub AwaitsBy : Expansion → CodeFunction → Waiting → flat.Values → Kind → Type 0
AwaitsBy e c w values (Structure size) = AwaitsContents e c w size values
AwaitsBy e c w values k = Unit {0}

-- what a caller has for a result of a kind while it waits
pub record Awaits (e : Expansion) (c : CodeFunction) (w : Waiting) (kind : Kind) (values : flat.Values) : Type 0 where
  pub by : AwaitsBy e c w values kind

-- A caller waits as a record does: behind its call its result gets an entry where one is kept and is not handed over, or is
-- moved, and the code leads to its node.
pub record IsWaitingAs (w : World) (l : Layout) (callee : CodeFunction) (mark : ℕ) (waiting : Waiting)
    (frame : flat.Frame) (xs : List flat.Frame) : Type 0 where
  pub function : frame.function ≡ waiting.function
  pub code : CodeFunction
  pub there : slice_get l.expansion.code.functions waiting.function ≡ Some code
  pub low : waiting.place < most_temporaries code.code
  pub into : frame.into ≡ temporary_register code waiting.place
  pub behind : HasAt (body_of (function_in l.program waiting.function)) frame.next (code_behind l callee waiting code)
  pub leads : Leads (body_of (function_in l.program waiting.function))
      (frame.next + length (code_behind l callee waiting code))
      (l.address waiting.function waiting.node)
  pub awaits : Awaits l.expansion code waiting (result_of l.expansion.code callee) frame.values
  pub below : AreHomesBelow mark waiting.caller.frame
  pub holds : Holds w (record {
    tac = l.expansion.code;
    code = code;
    charged = waiting.caller.charged;
    entries = l.expansion.entries waiting.function waiting.node;
    contents = l.expansion.contents waiting.function waiting.node;
    unknown = λ i. i == waiting.place;
  }) waiting.temps waiting.caller.plain waiting.caller.frame frame.values
  pub charge : waiting.caller.charged ≡ charged l.program waiting.function xs
  pub fits : waiting.caller.charged ≤ l.expansion.map.budgets.calls

-- under `main`, which gives a scalar, waits the function with which the run began, to exit with the result
abbrev pub EntryWaits : Layout → (callee : CodeFunction) → flat.Frame → Type 0
EntryWaits l callee x =
    (x.function ≡ l.program.entry)
    × (x.next ≡ length (before_main l.expansion.map l.expansion.code) + 1)
    × (x.into ≡ 0)
    × (is_no_aggregate (result_of l.expansion.code callee) ≡ true)

-- ---- all of them

-- where a run stands among them: the function's code and registers, the end of the object stack and the homes of its
-- variables, and a number that no object of what waits reaches
pub record Level : Type 0 where
  pub code : CodeFunction
  pub values : flat.Values
  pub stacked : ℕ
  pub frame : List Home
  pub bound : ℕ

abbrev pub AllWait : World → State → Layout → (first_stacked : ℕ) → Level → List Frame → List flat.Frame → Type 0
AllWait w s l first v [] [] = ⊥
AllWait w s l first v [] (x ∷ []) =
    IsBodyAs w s v.code v.stacked first v.bound v.frame v.values × EntryWaits l v.code x
AllWait w s l first v [] (x ∷ y ∷ xs) = ⊥
AllWait w s l first v (Entered n b ∷ ws) xs =
    (h : IsEnteredAs w s v.code v.bound n b v.frame v.values)
    × AllWait w s l first (record v { stacked = b.stacked; frame = b.frame; bound = h.mark }) ws xs
AllWait w s l first v (Waits a ∷ ws) [] = ⊥
AllWait w s l first v (Waits a ∷ ws) (x ∷ xs) =
    (b : IsBodyAs w s v.code v.stacked a.caller.stacked v.bound v.frame v.values)
    × (h : IsWaitingAs w l v.code b.mark a x xs)
    × AllWait w s l first (record {
      code = h.code;
      values = x.values;
      stacked = a.caller.stacked;
      frame = a.caller.frame;
      bound = b.mark;
    }) ws xs

pub record Wait (w : World) (state : State) (l : Layout) (first_stacked : ℕ) (level : Level) (frames : List Frame)
    (xs : List flat.Frame) : Type 0 where
  pub by : AllWait w state l first_stacked level frames xs
