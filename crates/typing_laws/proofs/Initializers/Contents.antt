-- What is stored in an object has its bytes: a value of its kind, and a literal that fills it (C99 6.7.8 paragraphs 11
-- and 14).
use Rattle.std.proofs.Common.{◌≡◌, ℕ, ◌*◌, ◌≤◌, true, refl, sym, ap, ◌∙◌, List, [], ◌∷◌}
use Rattle.std.proofs.Common.{◌++◌, length, Option, Some, arith, take}
use Rattle.std.specs.Prelude.{◌==◌}
use Rattle.std.proofs.lemmas.List.{length-take}
use Rattle.std.proofs.lemmas.Option.{none-some}
use Rattle.obj_memory.specs.declared.int_type.IntType.{IntType}
use Rattle.obj_memory.specs.declared.int_type.IntType.TheVariants as int
use Rattle.obj_memory.specs.Integers.{rank, size_of}
use Rattle.c_tree.specs.declared.c_type.TypeWord.{TypeWord}
use Rattle.c_tree.specs.declared.c_type.TypeWord.TheVariants as word
use Rattle.c_tree.specs.declared.expression.Kind.{Kind}
use Rattle.c_tree.specs.Extents.{TypeExtent, extent_of, structure_extent}
use Rattle.c_tree.specs.Kinds.{size_of_kind}
use Rattle.c_tree.specs.TypesAgree.{kind_of_type, structure_kind}
use Rattle.c_rules.specs.Types.{unqualified}
use Rattle.c_current_object.specs.Types.{is_character_array_as, is_character_as}
use Rattle.c_initializer_rules.specs.Literals.{filling_as}
use Rattle.typing_laws.proofs.Validity.Common.{the_same}
use Rattle.typing_laws.proofs.Declarators.Types.{size_low}
use Rattle.typing_laws.specs.Initializers.Placing.{HasExtent}
use Rattle.typing_laws.proofs.Initializers.Extents.{array_elements, unqualified_extent}

-- the bytes of the kind of a type

structure_size : (o : Option TypeExtent) (e : TypeExtent) (k : Kind) → o ≡ Some e → structure_kind o ≡ Some k
    → size_of_kind k ≡ e.size
structure_size o e k is kind =
    ap size_of_kind (sym (the_same (ap structure_kind (sym is) ∙ kind)))

integer_size : (t : IntType) (e : TypeExtent) (k : Kind) → Some (record { size = size_of t; alignment = size_of t })
    ≡ Some e
    → size_of_kind k ≡ size_of t → size_of_kind k ≡ e.size
integer_size t e k is kind = kind ∙ ap (λ e. e.size) (the_same is)

pub kind_size : (es : List (Option TypeExtent)) (ws : List TypeWord) (e : TypeExtent) (k : Kind)
    → extent_of es ws ≡ Some e → kind_of_type es ws ≡ Some k → size_of_kind k ≡ e.size
unfolding extent_of
kind_size es [] e k is kind = absurd cc
kind_size es (word.Void ∷ ws) e k is kind = absurd cc
kind_size es (word.Integer t ∷ ws) e k is kind =
    ap size_of_kind (sym (the_same kind)) ∙ ap (λ e. e.size) (the_same is)
kind_size es (word.Enumeration n ∷ ws) e k is kind =
    ap size_of_kind (sym (the_same kind)) ∙ ap (λ e. e.size) (the_same is)
kind_size es (word.Pointer ∷ ws) e k is kind =
    ap size_of_kind (sym (the_same kind)) ∙ ap (λ e. e.size) (the_same is)
kind_size es (word.Array count bytes ∷ ws) e k is kind = absurd cc
kind_size es (word.OpenArray ∷ ws) e k is kind = absurd cc
kind_size es (word.Structure n ∷ ws) e k is kind = structure_size (structure_extent es n) e k is kind
kind_size es (word.Const ∷ ws) e k is kind = kind_size es ws e k is kind
kind_size es (word.Takes ∷ ws) e k is kind = absurd cc
kind_size es (word.Gives ∷ ws) e k is kind = absurd cc

-- characters have one byte

character_size : (t : IntType) → (rank t == 1) ≡ true → size_of t ≡ 1
unfolding rank size_of
character_size int.Char e = refl
character_size int.SignedChar e = refl
character_size int.UnsignedChar e = refl
character_size int.Short e = absurd cc
character_size int.UnsignedShort e = absurd cc
character_size int.Int e = absurd cc
character_size int.UnsignedInt e = absurd cc
character_size int.Long e = absurd cc
character_size int.UnsignedLong e = absurd cc
character_size int.LongLong e = absurd cc
character_size int.UnsignedLongLong e = absurd cc

character_extent : (es : List (Option TypeExtent)) (ws : List TypeWord) (e : TypeExtent) → extent_of es ws ≡ Some e
    → is_character_as ws ≡ true → e.size ≡ 1
unfolding extent_of
character_extent es [] e is c = absurd cc
character_extent es (word.Void ∷ ws) e is c = absurd cc
character_extent es (word.Integer t ∷ ws) e is c = ap (λ e. e.size) (sym (the_same is)) ∙ character_size t c
character_extent es (word.Enumeration n ∷ ws) e is c = absurd cc
character_extent es (word.Pointer ∷ ws) e is c = absurd cc
character_extent es (word.Array count bytes ∷ ws) e is c = absurd cc
character_extent es (word.OpenArray ∷ ws) e is c = absurd cc
character_extent es (word.Structure n ∷ ws) e is c = absurd cc
character_extent es (word.Const ∷ ws) e is c = absurd cc
character_extent es (word.Takes ∷ ws) e is c = absurd cc
character_extent es (word.Gives ∷ ws) e is c = absurd cc

-- a literal that fills an array has at least one byte, and no more than the array

pub some_bytes : (spelled : List ℕ) → 1 ≤ length (spelled ++ 0 ∷ [])
some_bytes [] = omega arith
some_bytes (b ∷ spelled) = omega arith

taken_bytes : (count size : ℕ) (bytes : List ℕ) → 1 ≤ length bytes → count * 1 ≡ size → 1 ≤ size
    → (1 ≤ length (take count bytes)) × (length (take count bytes) ≤ size)
taken_bytes count size bytes some all low =
    let is = length-take count bytes in (omega (arith, is, some, all, low), omega (arith, is, all))

pub literal_bytes : (es : List (Option TypeExtent)) (size : ℕ) (ws : List TypeWord) (spelled : List ℕ)
    → HasExtent es size ws → is_character_array_as ws ≡ true
    → (1 ≤ length (filling_as ws spelled)) × (length (filling_as ws spelled) ≤ size)
unfolding extent_of
literal_bytes es size [] spelled h c = absurd cc
literal_bytes es size (word.Void ∷ ws) spelled h c = absurd cc
literal_bytes es size (word.Integer t ∷ ws) spelled h c = absurd cc
literal_bytes es size (word.Enumeration n ∷ ws) spelled h c = absurd cc
literal_bytes es size (word.Pointer ∷ ws) spelled h c = absurd cc
literal_bytes es size (word.Array count bytes ∷ ws) spelled h c =
    let all = array_elements es count bytes size ws h in
    let one : all.each ≡ 1 =
    sym all.has.bytes
    ∙ character_extent es (unqualified ws) all.has.extent (unqualified_extent es ws ∙ all.has.complete) c in
    taken_bytes count size (spelled ++ 0 ∷ []) (some_bytes spelled) (ap (λ n. count * n) (sym one) ∙ all.all)
    (size_low size h.object)
literal_bytes es size (word.OpenArray ∷ ws) spelled h c = absurd (none-some _ h.complete)
literal_bytes es size (word.Structure n ∷ ws) spelled h c = absurd cc
literal_bytes es size (word.Const ∷ ws) spelled h c = absurd cc
literal_bytes es size (word.Takes ∷ ws) spelled h c = absurd cc
literal_bytes es size (word.Gives ∷ ws) spelled h c = absurd cc
