-- The virtual registers of a function of any program, in this order: its parameters, the first of which get its
-- arguments; its other plain variables; the homes of its variables that are objects; its temporaries; arguments of calls;
-- and from the first free one on what a block needs for itself.
use Rattle.std.specs.Prelude.{ℕ, zero, suc, ◌+◌, ◌*◌, Bool, true, false, if◌then◌else◌, List, [], ◌∷◌}
use Rattle.obj_memory.specs.declared.value.Scalar.TheVariants.{Integer, Pointer}
use Rattle.c_tree.specs.declared.expression.Kind.{Kind}
use Rattle.c_tree.specs.declared.expression.Kind.TheVariants.{Void, Scalar as OfScalar, Structure, Array}
use Rattle.c_tree.specs.declared.program.Variable.{Variable}
use Rattle.tac_ir.specs.declared.function.CodeFunction.{CodeFunction}
use Rattle.flat_code.specs.declared.registers.Entry.{Entry}
use Rattle.runtime_functions.specs.Library.{Passed, OneWord, WithEntry, register_count}
use Rattle.metadata_plan.specs.Registers.{words_of, all_variables, most_temporaries}

-- the four registers of an entry from one on: the base and bound of SoftBound, the key and lock of CETS
abbrev pub entry_from : (register : ℕ) → Entry
entry_from r = record { base = r; bound = r + 1; key = r + 2; lock = r + 3 }

-- ---- how many words go together

-- How a value of a kind is handed over: a pointer with its entry, and the contents of a structure by the registers of the
-- part of an area that they are.
abbrev pub passed_as : Kind → Passed
passed_as Void = OneWord
passed_as (OfScalar (Integer t)) = OneWord
passed_as (OfScalar Pointer) = WithEntry
passed_as (Structure n) = WithEntry
passed_as (Array n) = OneWord

-- so a result, but of a structure, whose contents stay in the area of the callee until the caller moves them to its own
abbrev pub result_words : Kind → ℕ
result_words (Structure n) = 0
result_words k = register_count (passed_as k)

-- a scalar, or no value
abbrev pub is_no_aggregate : Kind → Bool
is_no_aggregate Void = true
is_no_aggregate (OfScalar k) = true
is_no_aggregate (Structure n) = false
is_no_aggregate (Array n) = false

-- a parameter stands where its argument comes, also one that is an object
abbrev pub parameter_words : Variable → ℕ
parameter_words v = register_count (passed_as v.kind)

-- another variable has registers where it is no object
abbrev pub variable_words : Variable → ℕ
variable_words v = if v.is_object then 0 else words_of v.kind

-- An object has the entry of a pointer to it: its base is its address. Behind it is a register for the end of the object
-- stack from before the block whose first object it is.
abbrev pub home_words : Variable → ℕ
home_words v = if v.is_object then 5 else 0

-- the words of some variables, and of those before one
abbrev pub total : (words : Variable → ℕ) → List Variable → ℕ
total words [] = 0
total words (v ∷ vs) = words v + total words vs

abbrev pub before : (words : Variable → ℕ) → (variable : ℕ) → List Variable → ℕ
before words x [] = 0
before words zero (v ∷ vs) = 0
before words (suc x) (v ∷ vs) = words v + before words x vs

-- ---- variables

-- the words of the arguments; behind them is a register that nothing uses
abbrev pub parameters_end : CodeFunction → ℕ
parameters_end c = total parameter_words c.parameters

-- parameters first, then all other variables
abbrev pub register_in : (parameters variables : List Variable) → (variable : ℕ) → ℕ
register_in [] vs x = 1 + before variable_words x vs
register_in (p ∷ ps) vs zero = 0
register_in (p ∷ ps) vs (suc x) = parameter_words p + register_in ps vs x

abbrev pub variable_register : CodeFunction → (variable : ℕ) → ℕ
variable_register c x = register_in c.parameters c.variables x

abbrev pub variables_end : CodeFunction → ℕ
variables_end c = parameters_end c + 1 + total variable_words c.variables

-- ---- homes and blocks

abbrev pub home_register : CodeFunction → (variable : ℕ) → ℕ
home_register c x = variables_end c + before home_words x (all_variables c)

abbrev pub home_entry : CodeFunction → (variable : ℕ) → Entry
home_entry c x = entry_from (home_register c x)

abbrev pub homes_end : CodeFunction → ℕ
homes_end c = variables_end c + total home_words (all_variables c)

-- the first of some variables, all of a function in the order of their numbers, that is an object
abbrev pub first_object : List Variable → ℕ
first_object [] = 0
first_object (v ∷ vs) = if v.is_object then 0 else suc (first_object vs)

-- All objects of a block have one lock word, which stands in the home of the first of them.
abbrev pub lock_register : CodeFunction → (entered : List Variable) → ℕ
lock_register c vs = (home_entry c (first_object vs)).lock

-- So does the end of the object stack from before the block.
abbrev pub top_register : CodeFunction → (entered : List Variable) → ℕ
top_register c vs = home_register c (first_object vs) + 4

-- ---- temporaries, and what is free

-- a temporary has five registers, whatever it holds: an integer stands in the first
abbrev pub temporary_register : CodeFunction → (temporary : ℕ) → ℕ
temporary_register c i = homes_end c + 5 * i

-- arguments of calls, which are handed over packed: each word at or before where it stands among the temporaries'
abbrev pub moved_register : CodeFunction → (word : ℕ) → ℕ
moved_register c w = homes_end c + 5 * most_temporaries c.code + w

abbrev pub first_free : CodeFunction → ℕ
first_free c = moved_register c (5 * most_temporaries c.code)
