-- What the keywords among specifiers say (C99 6.7.1 to 6.7.4).
use Rattle.std.specs.Prelude.{Bool, true, false}
use Rattle.obj_memory.specs.declared.int_type.IntType.{IntType}
use Rattle.obj_memory.specs.declared.int_type.IntType.TheVariants as int
use Rattle.c_lexer.specs.declared.keyword.Keyword.{Keyword}
use Rattle.c_lexer.specs.declared.keyword.Keyword.TheVariants as keyword
use Rattle.c_tree.specs.declared.c_type.TypeWord.{TypeWord}
use Rattle.c_tree.specs.declared.c_type.TypeWord.TheVariants as word
use Rattle.c_scope.specs.declared.meaning.Storage.{Storage}
use Rattle.c_scope.specs.declared.meaning.Storage.TheVariants as storage
use Rattle.c_specifiers.specs.declared.specified.Sign.{Sign}
use Rattle.c_specifiers.specs.declared.specified.Sign.TheVariants as sign
use Rattle.c_specifiers.specs.declared.specified.Size.{Size}
use Rattle.c_specifiers.specs.declared.specified.Size.TheVariants as size
use Rattle.c_specifiers.specs.declared.specified.Specified.{Specified}

abbrev pub nothing : Specified
nothing = record {
  storage = storage.Absent;
  has_two_storages = false;
  is_const = false;
  is_inline = false;
  sign = sign.Absent;
  size = size.Absent;
}

-- the first storage-class specifier counts, a second one is a fault (6.7.1 paragraph 2)

abbrev pub stored : Storage → Storage → Specified → Specified
stored storage.Absent new s = record s { storage = new }
stored _ new s = record s { has_two_storages = true }

abbrev pub with_storage : Storage → Specified → Specified
with_storage new s = stored s.storage new s

abbrev pub with_const : Specified → Specified
with_const s = record s { is_const = true }

abbrev pub with_inline : Specified → Specified
with_inline s = record s { is_inline = true }

abbrev pub with_sign : Sign → Specified → Specified
with_sign new s = record s { sign = new }

abbrev pub with_size : Size → Specified → Specified
with_size new s = record s { size = new }

abbrev pub longer : Size → Size
longer size.Long = size.LongLong
longer _ = size.Long

abbrev pub with_type_word : Keyword → Specified → Specified
with_type_word keyword.Signed s = with_sign sign.Signed s
with_type_word keyword.Unsigned s = with_sign sign.Unsigned s
with_type_word keyword.Void s = with_size size.Void s
with_type_word keyword.Char s = with_size size.Char s
with_type_word keyword.Short s = with_size size.Short s
with_type_word keyword.Long s = with_size (longer s.size) s
with_type_word _ s = s

abbrev pub with : Keyword → Specified → Specified
with keyword.Typedef s = with_storage storage.Typedef s
with keyword.Extern s = with_storage storage.Extern s
with keyword.Static s = with_storage storage.Static s
with keyword.Auto s = with_storage storage.Auto s
with keyword.Register s = with_storage storage.Register s
with keyword.Const s = with_const s
with keyword.Inline s = with_inline s
with k s = with_type_word k s

-- 6.7.2 paragraph 2
abbrev pub integer_type : Sign → Size → IntType
integer_type sign.Absent size.Char = int.Char
integer_type sign.Signed size.Char = int.SignedChar
integer_type sign.Unsigned size.Char = int.UnsignedChar
integer_type sign.Unsigned size.Short = int.UnsignedShort
integer_type _ size.Short = int.Short
integer_type sign.Unsigned size.Long = int.UnsignedLong
integer_type _ size.Long = int.Long
integer_type sign.Unsigned size.LongLong = int.UnsignedLongLong
integer_type _ size.LongLong = int.LongLong
integer_type sign.Unsigned _ = int.UnsignedInt
integer_type _ _ = int.Int

abbrev pub basic_of : Size → Sign → TypeWord
basic_of size.Void g = word.Void
basic_of z g = word.Integer (integer_type g z)

abbrev pub basic_type : Specified → TypeWord
basic_type s = basic_of s.size s.sign
