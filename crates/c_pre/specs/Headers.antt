-- The headers that are built in, each as a text of definitions (C99 7.1.2).
use Rattle.std.specs.Prelude.{ℕ, List, [], ◌++◌, Ok, Err, codes}
use Rattle.c_lexer.specs.Text.{Lexed, tokens}
use Rattle.c_pre.specs.declared.header.Header.{Header}
use Rattle.c_pre.specs.declared.header.Header.TheVariants as h
use Rattle.c_pre.specs.Lines.{Tokens}

-- a line of definition for each macro: 7.19.1, 7.20, 7.21.1, 7.17 and 5.2.4.2.1, where int has 4 bytes, long and long
-- long
-- have 8, and char is unsigned
unfoldable pub header_text : Header → List ℕ
header_text h.Stdio =
    codes "#define NULL ((void*)0)\n"
    ++ codes "#define EOF (-1)\n"
header_text h.Stdlib =
    codes "#define NULL ((void*)0)\n"
    ++ codes "#define EXIT_SUCCESS 0\n"
    ++ codes "#define EXIT_FAILURE 1\n"
header_text h.String =
    codes "#define NULL ((void*)0)\n"
header_text h.Stddef =
    codes "#define NULL ((void*)0)\n"
header_text h.Limits =
    codes "#define CHAR_BIT 8\n"
    ++ codes "#define SCHAR_MIN (-128)\n"
    ++ codes "#define SCHAR_MAX 127\n"
    ++ codes "#define UCHAR_MAX 255\n"
    ++ codes "#define CHAR_MIN 0\n"
    ++ codes "#define CHAR_MAX 255\n"
    ++ codes "#define SHRT_MIN (-32767-1)\n"
    ++ codes "#define SHRT_MAX 32767\n"
    ++ codes "#define USHRT_MAX 65535\n"
    ++ codes "#define INT_MIN (-2147483647-1)\n"
    ++ codes "#define INT_MAX 2147483647\n"
    ++ codes "#define UINT_MAX 4294967295U\n"
    ++ codes "#define LONG_MIN (-9223372036854775807L-1)\n"
    ++ codes "#define LONG_MAX 9223372036854775807L\n"
    ++ codes "#define ULONG_MAX 18446744073709551615UL\n"
    ++ codes "#define LLONG_MIN (-9223372036854775807LL-1)\n"
    ++ codes "#define LLONG_MAX 9223372036854775807LL\n"
    ++ codes "#define ULLONG_MAX 18446744073709551615ULL\n"

abbrev pub listed : Lexed → Tokens
listed (Ok list) = list.tokens
listed (Err fault) = []

-- its tokens
unfoldable pub header_tokens : Header → Tokens
header_tokens header = listed (tokens (header_text header))
