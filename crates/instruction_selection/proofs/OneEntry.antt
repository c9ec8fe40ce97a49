-- The block of an instruction by any entries is that by one of its own.
use Rattle.std.proofs.Common.{◌≡◌, ℕ, false, refl, ap, ◌∙◌}
use Rattle.addr_map.specs.Places.{MapSizes}
use Rattle.c_tree.specs.declared.expression.Kind.TheVariants.{Void, Scalar as OfScalar, Structure, Array}
use Rattle.shadow_space.specs.Form.{EntryCode}
use Rattle.tac_ir.specs.declared.instruction.Instruction.{Instruction}
use Rattle.tac_ir.specs.declared.instruction.Instruction.TheVariants as tac
use Rattle.tac_ir.specs.declared.function.CodeFunction.{CodeFunction}
use Rattle.tac_ir.specs.declared.function.Tac.{Tac}
use Rattle.metadata_plan.specs.Entries.{Entries}
use Rattle.metadata_relation.specs.Contents.{Contents}
use Rattle.metadata_relation.specs.InlineCode.{InlineCode}
use Rattle.metadata_relation.specs.InlineLists.{inline_lists}
use Rattle.metadata_relation.specs.Registers.{temporary_register, first_free}
use Rattle.metadata_relation.specs.Blocks.{Expansion, block, function_code}
use Rattle.instruction_selection.specs.declared.context.FunctionContext.{FunctionContext}
use Rattle.instruction_selection.specs.Contexts.{type_at}
use Rattle.instruction_selection.specs.Selected.{entry_behind, selected}

module _ (i : InlineCode) (m : MapSizes) (t : Tac) (types ours : ℕ → ℕ) (entries : (function : ℕ) → Entries)
    (contents : (function : ℕ) → Contents) (same : (f : ℕ) → types f ≡ ours f) (u : ℕ) (c : CodeFunction) where
  abbrev pub whole : Expansion
  whole = record { inline = i; map = m; code = t; types = types; entries = entries; contents = contents }

  abbrev pub alone : Instruction → Expansion
  alone x = record {
    inline = i;
    map = m;
    code = t;
    types = ours;
    entries = λ v n y. entry_behind (entries u) x;
    contents = λ v n y. false;
  }

  pub by_one : (x : Instruction) → block whole u c x ≡ block (alone x) 0 c x
  by_one (tac.Skip next) = refl
  by_one (tac.Constant d w next) = refl
  by_one (tac.FunctionPointer d f next) =
      ap (λ ty. function_code i.operators ty f (entries u next d) (temporary_register c d) (first_free c)) (same f)
  by_one (tac.GetPlain d x next) = refl
  by_one (tac.SetPlain x a next) = refl
  by_one (tac.UpdatePlain w k f line d x right next) = refl
  by_one (tac.HomePointer d x next) = refl
  by_one (tac.StaticPointer d n next) = refl
  by_one (tac.ZeroOf Void d next) = refl
  by_one (tac.ZeroOf (OfScalar k) d next) = refl
  by_one (tac.ZeroOf (Structure n) d next) = refl
  by_one (tac.ZeroOf (Array n) d next) = refl
  by_one (tac.Convert kind d a next) = refl
  by_one (tac.Unary op ty d a next) = refl
  by_one (tac.Binary op ty line d a b next) = refl
  by_one (tac.Offset form size d a b next) = refl
  by_one (tac.Difference size d a b next) = refl
  by_one (tac.Narrow offset size d a next) = refl
  by_one (tac.Member offset size d a next) = refl
  by_one tac.Reserved = refl
  by_one (tac.Take Void line d a next) = refl
  by_one (tac.Take (OfScalar k) line d a next) = refl
  by_one (tac.Take (Structure n) line d a next) = refl
  by_one (tac.Take (Array n) line d a next) = refl
  by_one (tac.Read kind mode line key d a next) = refl
  by_one (tac.Write Void mode line key d a b next) = refl
  by_one (tac.Write (OfScalar k) mode line key d a b next) = refl
  by_one (tac.Write (Structure n) mode line key d a b next) = refl
  by_one (tac.Write (Array n) mode line key d a b next) = refl
  by_one (tac.Update w k f mode line at key d a right next) = refl
  by_one (tac.Judge test size line key a next) = refl
  by_one (tac.Zero x next) = refl
  by_one (tac.StorePart Void line x offset a next) = refl
  by_one (tac.StorePart (OfScalar k) line x offset a next) = refl
  by_one (tac.StorePart (Structure n) line x offset a next) = refl
  by_one (tac.StorePart (Array n) line x offset a next) = refl
  by_one (tac.StoreText n x offset next) = refl
  by_one (tac.Branch a x y) = refl
  by_one (tac.Case a w x y) = refl
  by_one (tac.Turn counted next) = refl
  by_one (tac.Library r line d n next) = refl
  by_one (tac.Print x line d n next) = refl
  by_one (tac.Call f line d n next) = refl
  by_one (tac.CallThrough type_number line d n next) = refl
  by_one (tac.EnterBlock b line next) = refl
  by_one (tac.LeaveBlock b next) = refl
  by_one (tac.Return a) = refl

pub by_one_entry : (read write : EntryCode) (e : Expansion) (u : ℕ) (x : FunctionContext) (i : Instruction)
    → e.map ≡ x.map.now → e.code ≡ x.program.now → e.inline ≡ inline_lists read write e.map
    → ((f : ℕ) → e.types f ≡ type_at x f)
    → block e u x.function.now i ≡ selected read write x (entry_behind (e.entries u) i) i
by_one_entry read write e u x i map code lists types =
    ap (λ j. block (record e { inline = j }) u x.function.now i) lists
    ∙ (ap (λ m. block (record e { inline = inline_lists read write m; map = m }) u x.function.now i) map
    ∙ (ap (λ t. block (record e { inline = inline_lists read write x.map.now; map = x.map.now; code = t }) u x.function.now i)
    code
    ∙ by_one (inline_lists read write x.map.now) x.map.now x.program.now e.types (type_at x) e.entries e.contents types u
    x.function.now i))
