-- What is built of a program with objects and pointers, by the expansion of its checked code.
use Rattle.std.specs.Prelude.{◌≡◌, ℕ, ◌+◌, ◌<◌, ◌≤◌, ◌^◌, length}
use Rattle.std.specs.List.{All}
use Rattle.addr_map.specs.declared.region.Region.TheVariants.{Globals, Locks, Shadow}
use Rattle.addr_map.specs.Places.{MapSizes, objects_begin, region_end, region_size, region_start}
use Rattle.obj_memory.specs.Sound.{IsSound}
use Rattle.tac_ir.specs.declared.function.Tac.{Tac}
use Rattle.tac_ir.specs.Meaning.{placed_data}
use Rattle.check_insert.specs.Counting.{checks}
use Rattle.flat_code.specs.declared.function.FlatProgram.{FlatProgram}
use Rattle.flat_code.specs.Memory.{Bytes}
use Rattle.flat_code.specs.Routines.Metadata.{View}
use Rattle.shadow_space.specs.Form.{EntryCode}
use Rattle.shadow_space.specs.Start.{StartsShadow}
use Rattle.metadata_relation.specs.FunctionTypes.{HaveTypeKeys}
use Rattle.metadata_relation.specs.StartData.{statics_end, bytes_of_statics, entries_of_statics}
use Rattle.reg_plan.specs.Planned.{ArePlannable}
use Rattle.machine_laws.specs.Following.Code.{IsEncodable}
use Rattle.machine_laws.specs.Following.Start.{IsStartable}
use Rattle.image_laws.specs.Images.Expansions.{Laid, code_of, IsLaidExpansion, IsExpandedImage}
use Rattle.image_compiler.specs.declared.compiler.Built.{Built}
use Rattle.image_compiler.specs.declared.expansion.ImageData.{ImageData}

-- flat code is that of a laid expansion of covered code, in which values are carried to where they are used
pub record IsExpandedFlat (read write : EntryCode) (entry : View) (IsGood : Bytes → Type 0) (map : MapSizes) (code : Tac)
    (flat : FlatProgram) : Type 0 where
  pub laid : Laid
  pub is_laid : IsLaidExpansion read write entry IsGood map code laid
  pub is : flat ≡ code_of laid

-- and the machine has instructions for it, can begin it, and it can be planned
pub record IsTestedFlat (read write : EntryCode) (entry : View) (IsGood : Bytes → Type 0) (map : MapSizes) (code : Tac)
    (flat : FlatProgram) : Type 0 where
  pub expanded : IsExpandedFlat read write entry IsGood map code flat
  pub encodable : IsEncodable flat
  pub startable : IsStartable map flat
  pub plannable : ArePlannable flat
  pub few : length flat.functions < 2 ^ 32

-- static objects are sound and lie in their region
pub record HasSoundStatics (map : MapSizes) (code : Tac) : Type 0 where
  pub sound : IsSound (length code.functions) (placed_data objects_begin code.statics 0)
  pub fit : objects_begin + statics_end code.statics 0 ≤ region_end map Globals

-- data are the bytes of static objects, and a shadow space with the entries of their pointers, whatever keys tell the types
-- of functions
pub record AreDataOf (entry : View) (IsGood : Bytes → Type 0) (map : MapSizes) (code : Tac) (begun : ImageData) : Type 0
  where
    pub objects : begun.objects.items ≡ bytes_of_statics code.statics 0
    pub spaces : (types : ℕ → ℕ) → HaveTypeKeys code.functions types
        → StartsShadow map entry IsGood (entries_of_statics types (region_start map Locks) objects_begin code.statics 0)
        begun.spaces.items
    pub fit : length begun.spaces.items ≤ region_size map Shadow
    pub short : length begun.spaces.items ≤ 2 ^ 25
    pub bytes : All (λ b. b < 256) begun.spaces.items

-- what is built of some checked code by its expansion: of all the checks of the text those are in it that are not counted
-- as dropped
pub record IsBuiltByExpansion (read write : EntryCode) (entry : View) (IsGood : Bytes → Type 0) (Is : Tac → Type 0)
    (all : ℕ) (map : MapSizes) (built : Built) : Type 0 where
  pub checked : Tac
  pub is : Is checked
  pub image : IsExpandedImage read write entry IsGood map checked built.image.items
  pub gone : all < 2 ^ 64 → checks checked + built.dropped ≡ all
