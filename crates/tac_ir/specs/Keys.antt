-- What a key gives: an address and a tag, over the plain variables and the homes of a state.
use Rattle.std.specs.Prelude.{ℕ, ◌+◌, ◌*◌, ◌%◌, ◌^◌, Bool, true, false, ◌&&◌, ◌==◌, List, [], ◌∷◌, Option, Some, None}
use Rattle.obj_memory.specs.declared.value.Tag.{Tag}
use Rattle.obj_memory.specs.declared.value.Tag.TheVariants.{Untagged, OfFunction, OfObject}
use Rattle.obj_memory.specs.declared.value.Value.{Value}
use Rattle.obj_memory.specs.Objects.{pointer_to}
use Rattle.obj_memory.specs.Judgement.{narrowed_tag}
use Rattle.source_meaning.specs.State.{State}
use Rattle.source_meaning.specs.Actions.{plain_value, home_pointer}
use Rattle.tac_ir.specs.declared.key.Base.{Base}
use Rattle.tac_ir.specs.declared.key.Base.TheVariants.{Plain, Automatic, Static}
use Rattle.tac_ir.specs.declared.key.Scaled.{Scaled}
use Rattle.tac_ir.specs.declared.key.Member.{Member}
use Rattle.tac_ir.specs.declared.key.Key.{Key}

abbrev pub base_value : Base → State → Value
base_value (Plain x) s = plain_value x s
base_value (Automatic x) s = home_pointer x s
base_value (Static n) s = pointer_to n s.objects

abbrev pub scaled_value : Option Scaled → State → ℕ
scaled_value None s = 0
scaled_value (Some v) s = (plain_value v.variable s).word * v.size

-- the tag of a base, narrowed to the members of a path, of which the last comes first
abbrev pub path_tag : (base : Value) → List Member → State → Tag
path_tag b [] s = b.tag
path_tag b (m ∷ ms) s = narrowed_tag ((b.word + (m.constant + scaled_value m.scaled s)) % 2 ^ 64) m.size
    (path_tag b ms s)

abbrev pub key_word : Key → State → ℕ
key_word key s = ((base_value key.base s).word + (key.constant + scaled_value key.scaled s)) % 2 ^ 64

abbrev pub key_tag : Key → State → Tag
key_tag key s = path_tag (base_value key.base s) key.path s

abbrev pub same_tag : Tag → Tag → Bool
same_tag Untagged Untagged = true
same_tag (OfFunction f) (OfFunction g) = f == g
same_tag (OfObject n b) (OfObject m c) = n == m && (b.base == c.base && b.bound == c.bound)
same_tag _ _ = false

-- whether a key gives a pointer: its address modulo 2^64 and its tag
abbrev pub gives : Key → State → Value → Bool
gives key s v = v.word % 2 ^ 64 == key_word key s && same_tag v.tag (key_tag key s)
