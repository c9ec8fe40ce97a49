-- Where the regions of a compiled program's memory stand.
use Rattle.std.specs.Prelude.{ℕ, ◌+◌, ◌-◌, ◌*◌, ◌/◌, ◌≤◌, Bool, ◌&&◌, nat_lt, nat_le, if◌then◌else◌, Result, Ok, Err}
use Rattle.sb_base.specs.Budgets.{BudgetSizes, AreInRange}
use Rattle.addr_map.specs.declared.region.Region.{Region}
use Rattle.addr_map.specs.declared.region.Region.TheVariants.{JumpTable, Code, Globals, Stack, Heap, Shadow, Locks}
use Rattle.addr_map.specs.declared.region.Region.TheVariants.{FreeLocks, Blocks, StructureValues, Cells}
use Rattle.addr_map.specs.declared.region.Region.TheVariants.{Arguments, Calls, RuntimeCalls}
use Rattle.addr_map.specs.declared.map.TooLarge.{TooLarge}

-- the first address of the functions' jump table, of compiled code, of object space, and of the runtime's spaces
-- behind it
abbrev pub functions_begin : ℕ
functions_begin = 0x10000

abbrev pub code_begin : ℕ
code_begin = 0x100000

abbrev pub objects_begin : ℕ
objects_begin = 0x10000000

abbrev pub spaces_begin : ℕ
spaces_begin = 0x40000000

-- the bytes of compiled code, of which a program may use less
abbrev pub code_size : ℕ
code_size = 0x800000

-- whether an address is one of compiled code, and whether it is one of object space: the accesses of a program's own
-- are
-- those that instructions of compiled code make of object space
abbrev pub is_code_address : ℕ → Bool
is_code_address a = nat_le code_begin a && nat_lt a (code_begin + code_size)

abbrev pub is_object_address : ℕ → Bool
is_object_address a = nat_le objects_begin a && nat_lt a spaces_begin

-- what a map depends on: the budgets, and the bytes of the objects of static storage duration
pub record MapSizes : Type 0 where
  pub budgets : BudgetSizes
  pub global_bytes : ℕ

-- the map of these sizes, unless the static objects take more than 4 MiB
unfoldable pub mapped : BudgetSizes → ℕ → Result MapSizes TooLarge
mapped budgets global_bytes =
    if nat_le global_bytes 0x400000
    then Ok (record { budgets = budgets; global_bytes = global_bytes })
    else Err (record { 0 = global_bytes })

-- so many bytes in whole pages of 4096
abbrev pub whole_pages : ℕ → ℕ
whole_pages n = (n + 4095) / 4096 * 4096

-- the bytes of all objects together
abbrev pub object_space : MapSizes → ℕ
object_space m = whole_pages m.global_bytes + m.budgets.stack + m.budgets.heap

-- one lock word for all static objects, one for each 16 bytes of automatic objects, and one for each block
abbrev pub lock_count : MapSizes → ℕ
lock_count m = 1 + m.budgets.stack / 16 + m.budgets.blocks

-- the bytes of a region. Shadow has an entry of 32 bytes for each word of 8, a word for each page, and one more. An
-- activation record has twice the bytes that its call is charged
unfoldable pub region_size : MapSizes → Region → ℕ
region_size m JumpTable = code_begin - functions_begin
region_size m Code = code_size
region_size m Globals = whole_pages m.global_bytes
region_size m Stack = m.budgets.stack
region_size m Heap = m.budgets.heap
region_size m Shadow = whole_pages (32 * (object_space m / 8) + 8 * (object_space m / 4096) + 8)
region_size m Locks = whole_pages (8 * lock_count m)
region_size m FreeLocks = whole_pages (8 * lock_count m + 8)
region_size m Blocks = whole_pages (32 * m.budgets.blocks + 8)
region_size m StructureValues = m.budgets.calls
region_size m Cells = 4096
region_size m Arguments = 8192
region_size m Calls = 2 * m.budgets.calls
region_size m RuntimeCalls = 65536

-- the first address behind the lock words
abbrev pub behind_locks : MapSizes → ℕ
behind_locks m = spaces_begin + region_size m Shadow + region_size m Locks + region_size m FreeLocks

-- the first address of a region
unfoldable pub region_start : MapSizes → Region → ℕ
region_start m JumpTable = functions_begin
region_start m Code = code_begin
region_start m Globals = objects_begin
region_start m Stack = objects_begin + region_size m Globals
region_start m Heap = objects_begin + region_size m Globals + region_size m Stack
region_start m Shadow = spaces_begin
region_start m Locks = spaces_begin + region_size m Shadow
region_start m FreeLocks = spaces_begin + region_size m Shadow + region_size m Locks
region_start m Blocks = behind_locks m
region_start m StructureValues = behind_locks m + region_size m Blocks
region_start m Cells = behind_locks m + region_size m Blocks + region_size m StructureValues
region_start m Arguments = behind_locks m + region_size m Blocks + region_size m StructureValues + region_size m Cells
region_start m Calls =
    behind_locks m + region_size m Blocks + region_size m StructureValues + region_size m Cells
    + region_size m Arguments
region_start m RuntimeCalls =
    behind_locks m + region_size m Blocks + region_size m StructureValues + region_size m Cells
    + region_size m Arguments
    + region_size m Calls

-- its last address, one below the first where it is empty
abbrev pub region_last : MapSizes → Region → ℕ
region_last m r = region_start m r + region_size m r - 1

-- one past its last address
abbrev pub region_end : MapSizes → Region → ℕ
region_end m r = region_start m r + region_size m r

-- the address of a function by its number: that of its jump table entry
unfoldable pub function_address : ℕ → ℕ
function_address number = functions_begin + 16 * number

-- the place of a region in the order of addresses
abbrev pub order_of : Region → ℕ
order_of JumpTable = 0
order_of Code = 1
order_of Globals = 2
order_of Stack = 3
order_of Heap = 4
order_of Shadow = 5
order_of Locks = 6
order_of FreeLocks = 7
order_of Blocks = 8
order_of StructureValues = 9
order_of Cells = 10
order_of Arguments = 11
order_of Calls = 12
order_of RuntimeCalls = 13

-- the sizes of a map
pub record AreMapped (map : MapSizes) : Type 0 where
  pub budgets : AreInRange map.budgets
  pub globals : map.global_bytes ≤ 0x400000
