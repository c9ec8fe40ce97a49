-- Reading specifiers (C99 6.7.1 to 6.7.4).
use Rattle.std.specs.Prelude.{ℕ, zero, suc, nat_le, Bool, true, false, ◌&&◌, if◌then◌else◌, List, [], ◌∷◌, Ok, Err}
use Rattle.std.specs.Prelude.{Option, Some, None, is_some, length}
use Rattle.c_lexer.specs.declared.keyword.Keyword.{Keyword}
use Rattle.c_lexer.specs.declared.keyword.Keyword.TheVariants as k
use Rattle.c_lexer.specs.declared.punctuator.Punctuator.TheVariants as p
use Rattle.c_lexer.specs.declared.token.TokenKind.{TokenKind}
use Rattle.c_lexer.specs.declared.token.TokenKind.TheVariants as kinds
use Rattle.c_syntax.specs.declared.position.Position.{Position}
use Rattle.c_syntax.specs.declared.position.Spelled.{Spelled}
use Rattle.c_syntax.specs.declared.specifiers.TypeWords.{TypeWords}
use Rattle.c_syntax.specs.Tree.{Specifiers, Specifier, Members, Member, Enumerator}
use Rattle.c_syntax.specs.Tree as t
use Rattle.c_syntax.specs.View.{members_of, more_declarators_of, more_enumerators_of}
use Rattle.c_syntax.specs.Words.{Words, word_at}
use Rattle.c_syntax.specs.Formed.{is_among, with_keyword, with_other, with_specifier, is_structure_keyword, no_type}
use Rattle.c_syntax.specs.Formed.{is_type}
use Rattle.c_grammar.specs.Reader.{Outcome, ◌>>=◌, next_is_punctuator, expect, identifier_from, ordinary_from}
use Rattle.c_grammar.specs.Reader.{behind_commas, behind_commas_to_brace, up_to_brace}
use Rattle.c_grammar.specs.Readers.{Readers}
use Rattle.c_grammar.specs.declared.declarator_kind.DeclaratorKind.TheVariants as kind
use Rattle.c_grammar.specs.LeastPrecedence as least

-- `struct`, `union` or `enum`
abbrev pub is_tagged_keyword : Keyword → Bool
is_tagged_keyword k.Enum = true
is_tagged_keyword x = is_structure_keyword x

-- `typedef`
abbrev pub is_typedef_keyword : Keyword → Bool
is_typedef_keyword k.Typedef = true
is_typedef_keyword x = false

-- the keyword goes on with the words of a type that have come, where `typedef` is allowed or not
abbrev pub goes_on_with_keyword : Bool → TypeWords → Keyword → Bool
goes_on_with_keyword allowed w x =
    if is_typedef_keyword x then allowed else is_some (if is_tagged_keyword x then with_other w else with_keyword x w)

-- these words of a type where there are any, and else the other ones
abbrev pub words_or : TypeWords → Option TypeWords → TypeWords
words_or w None = w
words_or w (Some v) = v

-- the words of a type that have come, and a specifier
abbrev pub words_with : Specifier → TypeWords → TypeWords
words_with x w = words_or w (with_specifier x w)

-- the typedef names, the readers of what has fewer levels than a number, and that number
module _ (names : List (List ℕ)) (deeper : Readers) (levels : ℕ) where
  -- the word goes on with specifiers
  abbrev pub goes_on_with : Bool → TypeWords → TokenKind → Bool
  goes_on_with allowed w (kinds.Keyword x) = goes_on_with_keyword allowed w x
  goes_on_with allowed w (kinds.Identifier s) = is_among s names && is_some (with_other w)
  goes_on_with allowed w _ = false

  -- a declaration of members (C99 6.7.2.1)
  unfoldable pub member_from : Words → Outcome Member
  member_from i =
      deeper.specifiers false i >>= λ z i. deeper.declarator kind.Named i >>= λ d i.
      behind_commas (deeper.declarator kind.Named) (length i) i >>= λ m i.
      expect p.Semicolon i >>= λ at i. Ok (t.member_declaration z d (more_declarators_of m) at, i)

  -- at least one (C99 6.7.2.1)
  unfoldable pub members_from : Words → Outcome Members
  members_from i = member_from i >>= λ x i. up_to_brace member_from (length i) i
      >>= λ z i. Ok (t.members x (members_of z), i)

  -- `{ members }`
  unfoldable pub structure_body_from : Keyword → Position → Option Spelled → Words → Outcome Specifier
  structure_body_from x at tag i =
      expect p.LeftBrace i >>= λ l i. members_from i >>= λ m i. expect p.RightBrace i
      >>= λ r i. Ok (t.structure_body x at tag l m r, i)

  -- `{` is next, and there is a level for what it begins
  abbrev pub begins_body : Words → Bool
  begins_body i = nat_le 1 levels && next_is_punctuator p.LeftBrace i

  -- behind `struct` or `union` (C99 6.7.2.1)
  unfoldable pub structure_from : Keyword → Position → Words → Outcome Specifier
  structure_from x at i =
      if begins_body i
      then structure_body_from x at None i
      else (identifier_from i >>= λ tag i. if begins_body i then structure_body_from x at (Some tag) i else Ok
      (t.structure x at tag, i))

  -- a value that follows an enumerator's name, or none
  abbrev pub enumerator_behind : Spelled → Words → Outcome Enumerator
  enumerator_behind x i =
      if next_is_punctuator p.Assign i
      then (expect p.Assign i >>= λ at i. deeper.expression None least.conditional i >>= λ e i. Ok (t.valued x at e, i))
      else Ok (t.plain x, i)

  -- C99 6.7.2.2
  unfoldable pub enumerator_from : Words → Outcome Enumerator
  enumerator_from i = ordinary_from names i >>= λ x i. enumerator_behind x i

  -- `{ enumerators }`
  unfoldable pub enumeration_body_from : Position → Option Spelled → Words → Outcome Specifier
  enumeration_body_from at tag i =
      expect p.LeftBrace i >>= λ l i. enumerator_from i >>= λ e i. behind_commas_to_brace enumerator_from (length i) i
      >>= λ m i.
      expect p.RightBrace i >>= λ r i. Ok (t.enumeration_body at tag l e (more_enumerators_of m.0) m.1 r, i)

  -- behind `enum` (C99 6.7.2.2)
  unfoldable pub enumeration_from : Position → Words → Outcome Specifier
  enumeration_from at i =
      if begins_body i
      then enumeration_body_from at None i
      else (identifier_from i >>= λ tag i. if begins_body i then enumeration_body_from at (Some tag) i else Ok
      (t.enumeration at tag, i))

  -- a specifier that begins with a keyword
  abbrev pub specifier_by_keyword : Keyword → Position → Words → Outcome Specifier
  specifier_by_keyword x at i =
      if is_structure_keyword x then structure_from x at i
      else (if is_tagged_keyword x then enumeration_from at i else Ok (t.keyword x at, i))

  -- a specifier by its first word
  abbrev pub specifier_by : TokenKind → Position → Words → Outcome Specifier
  specifier_by (kinds.Keyword x) at i = specifier_by_keyword x at i
  specifier_by (kinds.Identifier s) at i = Ok (t.typedef_name (record { spelling = s; position = at }), i)
  specifier_by w at i = Err (word_at w at ∷ i)

  -- where no more specifiers come, the words of one type have come
  abbrev pub ended : TypeWords → Words → Outcome Specifiers
  ended w i = if is_type w then Ok (t.no_specifiers, i) else Err i

  -- specifiers behind these words of a type; the number bounds how many
  unfoldable pub specifiers_behind : Bool → ℕ → TypeWords → Words → Outcome Specifiers
  specifiers_behind allowed zero w i = ended w i
  specifiers_behind allowed (suc n) w [] = ended w []
  specifiers_behind allowed (suc n) w (first ∷ i) =
      if goes_on_with allowed w first.kind
      then (specifier_by first.kind first.position i >>= λ x i. specifiers_behind allowed n (words_with x w) i
      >>= λ z i. Ok (t.specifiers x z, i))
      else ended w (first ∷ i)

  -- C99 6.7.1 to 6.7.4
  unfoldable pub specifiers_at : Bool → Words → Outcome Specifiers
  specifiers_at allowed i = specifiers_behind allowed (length i) no_type i
