-- The code of an instruction.
use Rattle.std.specs.Prelude.{ℕ, ◌+◌, Bool, true, false, ◌++◌, List, [], ◌∷◌}
use Rattle.c_tree.specs.declared.expression.Kind.{Kind}
use Rattle.c_tree.specs.declared.expression.Kind.TheVariants.{Scalar as OfScalar, Structure}
use Rattle.tac_ir.specs.declared.instruction.Instruction.{Instruction}
use Rattle.tac_ir.specs.declared.instruction.Instruction.TheVariants as tac
use Rattle.shadow_space.specs.Form.{EntryCode}
use Rattle.flat_code.specs.declared.instruction.FlatInstruction.{FlatInstruction}
use Rattle.sb_base.specs.declared.ending.Ending.TheVariants.{Abort}
use Rattle.flat_code.specs.declared.instruction.FlatInstruction.TheVariants.{Constant, End}
use Rattle.tac_ir.specs.declared.function.CodeFunction.{CodeFunction}
use Rattle.tac_ir.specs.declared.function.Tac.{Tac}
use Rattle.addr_map.specs.Places.{MapSizes}
use Rattle.metadata_plan.specs.Entries.{Entries}
use Rattle.metadata_relation.specs.Registers.{first_free}
use Rattle.metadata_relation.specs.InlineCode.{InlineCode}
use Rattle.metadata_relation.specs.InlineLists.{inline_lists}
use Rattle.metadata_relation.specs.Blocks.{Expansion, block, write_code, held_scalar, part_address, untagged}
use Rattle.metadata_relation.specs.Blocks.{runtime_number, write_structure_code}
use Rattle.metadata_relation.specs.Structures.{put_code, take_structure_code, zero_structure_code}
use Rattle.instruction_selection.specs.declared.context.FunctionContext.{FunctionContext}
use Rattle.instruction_selection.specs.Contexts.{type_at}

-- a value of a kind is assigned through a pointer, where it is a scalar or a structure
abbrev pub assigned_code : InlineCode → Tac → Kind → (has_area with_entry : Bool) → (into pointer value scratch : ℕ)
    → List FlatInstruction
assigned_code i t (OfScalar k) area b d p a s = write_code i k b d p a s
assigned_code i t (Structure size) area b d p a s = write_structure_code i.operators t area b size d p a s
assigned_code i t kind area b d p a s = End (Abort 1) ∷ []

-- a value of a kind is stored in the object of a variable, where it is a scalar or a structure
abbrev pub part_code : InlineCode → Tac → CodeFunction → Kind → (has_area : Bool) → (variable offset from : ℕ)
    → List FlatInstruction
part_code i t c (OfScalar k) area x offset a =
    part_address i.operators c x offset (first_free c)
    ++ i.store (first_free c) (held_scalar k a) (first_free c + 1)
part_code i t c (Structure size) area x offset a =
    part_address i.operators c x offset (first_free c)
    ++ put_code i.operators (runtime_number t) area a size (first_free c)
part_code i t c kind area x offset a = End (Abort 1) ∷ []

-- a value of a kind is 0, in a temporary
abbrev pub zero_of_code : InlineCode → MapSizes → Tac → CodeFunction → Kind → (with_entry : Bool) → (temporary into : ℕ)
    → List FlatInstruction
zero_of_code i m t c (Structure size) b n d =
    zero_structure_code i.operators m t c (runtime_number t) b size n d (first_free c)
zero_of_code i m t c kind b n d = Constant d 0 ∷ untagged b d

-- the contents of a structure are taken to a temporary
abbrev pub take_code : InlineCode → MapSizes → Tac → CodeFunction → Kind → (with_entry : Bool)
    → (temporary into from : ℕ) → List FlatInstruction
take_code i m t c (Structure size) b n d a =
    take_structure_code i.operators m t c (runtime_number t) b size n d a (first_free c)
take_code i m t c kind b n d a = End (Abort 1) ∷ []

-- the temporary that an instruction gives, if any, has an entry behind it
abbrev pub entry_behind : Entries → Instruction → Bool
entry_behind e (tac.Constant d w m) = e m d
entry_behind e (tac.FunctionPointer d f m) = e m d
entry_behind e (tac.GetPlain d x m) = e m d
entry_behind e (tac.UpdatePlain w k f line d x right m) = e m d
entry_behind e (tac.HomePointer d x m) = e m d
entry_behind e (tac.StaticPointer d n m) = e m d
entry_behind e (tac.ZeroOf kind d m) = e m d
entry_behind e (tac.Convert kind d a m) = e m d
entry_behind e (tac.Unary op ty d a m) = e m d
entry_behind e (tac.Binary op ty line d a b m) = e m d
entry_behind e (tac.Offset form size d a b m) = e m d
entry_behind e (tac.Difference size d a b m) = e m d
entry_behind e (tac.Narrow offset size d a m) = e m d
entry_behind e (tac.Member offset size d a m) = e m d
entry_behind e (tac.Take kind line d a m) = e m d
entry_behind e (tac.Read kind mode line key d a m) = e m d
entry_behind e (tac.Write kind mode line key d a b m) = e m d
entry_behind e (tac.Update w k f mode line at key d a right m) = e m d
entry_behind e (tac.Library r line d n m) = e m d
entry_behind e (tac.Print x line d n m) = e m d
entry_behind e (tac.Call f line d n m) = e m d
entry_behind e (tac.CallThrough type_number line d n m) = e m d
entry_behind e _ = false

-- The code of an instruction, where the temporary that it gives has an entry behind it or has none: its block needs
-- nothing else of the entries and contents of the function.
abbrev pub expansion_of : (read write : EntryCode) → FunctionContext → (with_entry : Bool) → Expansion
expansion_of read write x with_entry = record {
  inline = inline_lists read write x.map.now;
  map = x.map.now;
  code = x.program.now;
  types = λ f. type_at x f;
  entries = λ u n y. with_entry;
  contents = λ u n y. false;
}

abbrev pub selected : (read write : EntryCode) → FunctionContext → (with_entry : Bool) → Instruction
    → List FlatInstruction
selected read write x with_entry i = block (expansion_of read write x with_entry) 0 x.function.now i

-- ---- kinds of instructions

-- plain variables and constants
abbrev pub is_plain : Instruction → Bool
is_plain (tac.Constant d w m) = true
is_plain (tac.GetPlain d x m) = true
is_plain (tac.SetPlain x a m) = true
is_plain (tac.UpdatePlain w k f line d x right m) = true
is_plain _ = false

-- values computed from others
abbrev pub is_computed : Instruction → Bool
is_computed (tac.Convert kind d a m) = true
is_computed (tac.Unary op ty d a m) = true
is_computed (tac.Binary op ty line d a b m) = true
is_computed _ = false

-- zeros, and contents that are taken
abbrev pub is_made : Instruction → Bool
is_made (tac.ZeroOf kind d m) = true
is_made (tac.Take kind line d a m) = true
is_made _ = false

-- pointers to what is named
abbrev pub is_name_pointer : Instruction → Bool
is_name_pointer (tac.HomePointer d x m) = true
is_name_pointer (tac.StaticPointer d n m) = true
is_name_pointer (tac.FunctionPointer d f m) = true
is_name_pointer _ = false

-- pointers made of others
abbrev pub is_derived : Instruction → Bool
is_derived (tac.Offset form size d a b m) = true
is_derived (tac.Difference size d a b m) = true
is_derived (tac.Narrow offset size d a m) = true
is_derived (tac.Member offset size d a m) = true
is_derived _ = false

-- accesses through pointers, and their checks
abbrev pub is_access : Instruction → Bool
is_access (tac.Read kind mode line key d a m) = true
is_access (tac.Write kind mode line key d a b m) = true
is_access (tac.Update w k f mode line at key d a right m) = true
is_access (tac.Judge test size line key a m) = true
is_access _ = false

-- objects of variables, and their blocks
abbrev pub is_of_objects : Instruction → Bool
is_of_objects (tac.Zero x m) = true
is_of_objects (tac.StorePart kind line x offset a m) = true
is_of_objects (tac.StoreText n x offset m) = true
is_of_objects (tac.EnterBlock b line m) = true
is_of_objects (tac.LeaveBlock b m) = true
is_of_objects _ = false

-- where the run goes on
abbrev pub is_control : Instruction → Bool
is_control (tac.Branch a x y) = true
is_control (tac.Case a w x y) = true
is_control (tac.Turn counted m) = true
is_control (tac.Return a) = true
is_control _ = false

-- calls
abbrev pub is_call : Instruction → Bool
is_call (tac.Library r line d n m) = true
is_call (tac.Print x line d n m) = true
is_call (tac.Call f line d n m) = true
is_call (tac.CallThrough type_number line d n m) = true
is_call _ = false

-- ---- single ones among them

abbrev pub is_updated : Instruction → Bool
is_updated (tac.UpdatePlain w k f line d x right m) = true
is_updated _ = false

abbrev pub is_moved : Instruction → Bool
is_moved (tac.Offset form size d a b m) = true
is_moved (tac.Difference size d a b m) = true
is_moved _ = false

abbrev pub is_place_update : Instruction → Bool
is_place_update (tac.Update w k f mode line at key d a right m) = true
is_place_update _ = false

abbrev pub is_of_block : Instruction → Bool
is_of_block (tac.EnterBlock b line m) = true
is_of_block (tac.LeaveBlock b m) = true
is_of_block _ = false
