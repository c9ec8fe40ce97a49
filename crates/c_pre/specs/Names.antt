-- Names of macros (C99 6.10.3). While directives are obeyed there are no keywords: each is an identifier (6.4.1
-- paragraph 2).
use Rattle.std.specs.Prelude.{ℕ, Bool, false, true, ◌&&◌, List, [], ◌∷◌, Option, Some, None, bytes_eq}
use Rattle.std.specs.List.{list_any}
use Rattle.c_lexer.specs.declared.token.TokenKind.{TokenKind}
use Rattle.c_lexer.specs.declared.token.TokenKind.TheVariants.{Identifier, Keyword}
use Rattle.c_lexer.specs.Spellings.{keyword_spelling}
use Rattle.c_lexer.specs.Words.{spelling_of}
use Rattle.c_pre.specs.Lines.{Tokens}

-- a name is the bytes that spell it
abbrev pub Name : Type 0
Name = List ℕ

abbrev pub Names : Type 0
Names = List Name

abbrev pub name_of : TokenKind → Option Name
name_of (Identifier bytes) = Some bytes
name_of (Keyword keyword) = Some (keyword_spelling keyword)
name_of _ = None

abbrev pub member : Name → Names → Bool
member name names = list_any (bytes_eq name) names

-- what a name is defined as: its parameters, where it is a function-like macro (6.10.3 paragraph 10), and its
-- replacement list
pub record Macro : Type 0 where
  pub parameters : Option Names
  pub list : Tokens

-- what each name is defined as
abbrev pub Macros : Type 0
Macros = Name → Option Macro

-- whether two replacement lists have the same spellings in the same order (6.10.3 paragraph 1); white space does not
-- count
abbrev pub same_list : Tokens → Tokens → Bool
same_list [] [] = true
same_list (a ∷ as_) (b ∷ bs) = bytes_eq (spelling_of a.kind) (spelling_of b.kind) && same_list as_ bs
same_list a b = false

abbrev pub same_names : Names → Names → Bool
same_names [] [] = true
same_names (a ∷ as_) (b ∷ bs) = bytes_eq a b && same_names as_ bs
same_names a b = false

abbrev pub same_parameters : Option Names → Option Names → Bool
same_parameters None None = true
same_parameters (Some a) (Some b) = same_names a b
same_parameters a b = false

-- whether two definitions are the same (6.10.3 paragraph 2)
abbrev pub same_macro : Macro → Macro → Bool
same_macro a b = same_parameters a.parameters b.parameters && same_list a.list b.list
