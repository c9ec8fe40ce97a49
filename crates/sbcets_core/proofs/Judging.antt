-- How the steps of the compiler make up the judgement of a source.
use Rattle.std.proofs.Common.{arith, ◌≡◌, ℕ, suc, ◌-◌, Bool, true, false, List, take, length}
use Rattle.std.proofs.Common.{Some, None, Ok, Err, refl, sym, ap, ◌∙◌, subst, inl, inr, ⊎_elim}
use Rattle.c_lexer.specs.Spelled.{TokenList}
use Rattle.c_syntax.specs.Statements.{Unit as Tree}
use Rattle.c_syntax.specs.Words.{Words, positioned}
use Rattle.c_grammar.specs.Reader.{Outcome}
use Rattle.c_grammar.specs.UnitReader.{unit_from}
use Rattle.c_grammar.proofs.Exact.{what_is_read}
use Rattle.c_grammar.proofs.Refused.{none_where_refused}
use Rattle.c_grammar.proofs.Unique.{one_tree}
use Rattle.c_tree.specs.Programs.{Program}
use Rattle.c_unit_typing.specs.Typed.{TypedUnit, typed_unit}
use Rattle.c_typer.specs.Refused.{IsWithoutRoom}
use Rattle.c_parser.specs.declared.unsupported.UnsupportedWord.{UnsupportedWord}
use Rattle.c_parser.specs.Unsupported.{told_as, first_unsupported}
use Rattle.c_parser.specs.Parsed.{IsTreeOf, IsRefusedAt, line_at, is_nested_too_deep}
use Rattle.sbcets_core.specs.declared.refusal.SourceRefusal.{SourceRefusal}
use Rattle.sbcets_core.specs.declared.refusal.SourceRefusal.TheVariants.{Lex, Pre, Unsupported, Syntax, Nesting}
use Rattle.sbcets_core.specs.declared.refusal.SourceRefusal.TheVariants.{Typing, Const, TooLarge, Uncompiled}
use Rattle.sbcets_core.specs.declared.refusal.SourceRefusal.TheVariants.{RoomTooLarge, NumbersTooLarge, Memory}
use Rattle.sbcets_core.specs.Programs.{Judged, unless_large, judged_program, judged_unit}
use Rattle.sbcets_core.specs.Accepted.{Readable, expanded_tokens, unless_unsupported, with_support, of_readable}
use Rattle.sbcets_core.specs.Accepted.{supported_tokens, RefusesTokens, IsTyped, HasProgram, JudgesTokens}
use Rattle.sbcets_core.specs.Accepted.{JudgesReadable, Judges, EndsOn, UnlessMemory}

-- what follows from the one follows of a refusal too
pub unless_memory : (refusal : SourceRefusal) (A B : Type 0) → (A → B) → UnlessMemory refusal A → UnlessMemory refusal B
unless_memory (Lex fault) A B f a = f a
unless_memory (Pre fault) A B f a = f a
unless_memory (Unsupported word line) A B f a = f a
unless_memory (Syntax at line) A B f a = f a
unless_memory (Nesting at line) A B f a = f a
unless_memory (Typing fault) A B f a = f a
unless_memory (Const line) A B f a = f a
unless_memory (TooLarge which n) A B f a = f a
unless_memory (Uncompiled line) A B f a = f a
unless_memory (RoomTooLarge number) A B f a = f a
unless_memory NumbersTooLarge A B f a = f a
unless_memory Memory A B f a = tt

-- what is known of the expanded tokens of a source
supported : (source : List ℕ) (list : TokenList) → expanded_tokens source ≡ Ok list
    → supported_tokens source ≡ with_support list
unfolding supported_tokens
supported source list e = ap of_readable e

none_unsupported : (list : TokenList) → first_unsupported list.tokens ≡ None → with_support list ≡ Ok list
unfolding with_support
none_unsupported list none = ap (unless_unsupported list) none

-- the expanded tokens are judged, and so the source is
pub source_judged : (source : List ℕ) (list : TokenList) (judged : Judged) → expanded_tokens source ≡ Ok list
    → JudgesReadable (with_support list) judged → Judges source judged
source_judged source list judged e j = subst (λ r. JudgesReadable r judged) (sym (supported source list e)) j

pub source_refused : (source : List ℕ) (list : TokenList) (refusal : SourceRefusal) → expanded_tokens source ≡ Ok list
    → UnlessMemory refusal (JudgesReadable (with_support list) (Err refusal))
    → UnlessMemory refusal (Judges source (Err refusal))
source_refused source list refusal e r = unless_memory refusal _ _ (source_judged source list (Err refusal) e) r

early_refused : (source : List ℕ) (refusal : SourceRefusal) → expanded_tokens source ≡ Err refusal
    → Judges source (Err refusal)
unfolding supported_tokens
early_refused source refusal e = subst (λ s. JudgesReadable (of_readable s) (Err refusal)) (sym e) refl

pub refused_early : (source : List ℕ) (refusal : SourceRefusal)
    → UnlessMemory refusal (expanded_tokens source ≡ Err refusal) → UnlessMemory refusal (Judges source (Err refusal))
refused_early source refusal r = unless_memory refusal _ _ (early_refused source refusal) r

pub judged_supported : (list : TokenList) (answer : Judged) → first_unsupported list.tokens ≡ None
    → JudgesTokens list answer → JudgesReadable (with_support list) answer
judged_supported list answer none j = subst (λ s. JudgesReadable s answer) (sym (none_unsupported list none)) j

pub judged_unsupported : (list : TokenList) (word : UnsupportedWord) (line : ℕ)
    → first_unsupported list.tokens ≡ Some (word, line)
    → JudgesReadable (with_support list) (Err (Unsupported (told_as word) line))
unfolding with_support
judged_unsupported list word line found = subst
    (λ o. JudgesReadable (unless_unsupported list o) (Err (Unsupported (told_as word) line))) (sym found) refl

-- tokens with a tree are judged as it is typed

typed_tokens : (list : TokenList) (judged : Judged) → IsTyped list judged → JudgesTokens list judged
typed_tokens list (Ok p) t = t
typed_tokens list (Err refusal) t = inr t

pub tree_judged : (list : TokenList) (u : Tree) (judged : Judged) → first_unsupported list.tokens ≡ None
    → IsTreeOf list.tokens u → judged_unit (typed_unit list.end u) ≡ judged
    → JudgesReadable (with_support list) judged
tree_judged list u judged none t e =
    judged_supported list judged none
    (typed_tokens list judged (record { tree = u; written = t; as_typed = sym e }))

pub tree_refused : (list : TokenList) (u : Tree) (refusal : SourceRefusal) → first_unsupported list.tokens ≡ None
    → IsTreeOf list.tokens u → UnlessMemory refusal (judged_unit (typed_unit list.end u) ≡ Err refusal)
    → UnlessMemory refusal (JudgesReadable (with_support list) (Err refusal))
tree_refused list u refusal none t r = unless_memory refusal _ _ (tree_judged list u (Err refusal) none t) r

pub room_refused : (typed : TypedUnit) (number : ℕ) → IsWithoutRoom number typed
    → judged_unit typed ≡ Err (RoomTooLarge number)
unfolding judged_program
room_refused typed number w =
    ap judged_unit w.is_program ∙ ap (λ room. unless_large room w.program) w.is_first

pub program_judged : (list : TokenList) (p : Program) → HasProgram list p → judged_program p ≡ Ok p
    → JudgesReadable (with_support list) (Ok p)
program_judged list p h e =
    tree_judged list h.tree (Ok p) h.supported h.written (ap judged_unit h.typed ∙ e)

pub refusal_is : (a b : SourceRefusal) → ◌≡◌ {A = Judged} (Err a) (Err b) → a ≡ b
refusal_is a b e = cc

-- tokens are judged by their tree, or where the reader of files refuses them

unparsed_by : (list : TokenList) (refusal : SourceRefusal) (Holds : Judged → Type 0)
    → ((at line : ℕ) → IsRefusedAt list at line false → Holds (Err (Syntax at line)))
    → ((at line : ℕ) → IsRefusedAt list at line true → Holds (Err (Nesting at line)))
    → RefusesTokens list refusal → Holds (Err refusal)
unparsed_by list (Syntax at line) Holds syntax nesting r = syntax at line r
unparsed_by list (Nesting at line) Holds syntax nesting r = nesting at line r
unparsed_by list (Lex fault) Holds syntax nesting r = absurd r
unparsed_by list (Pre fault) Holds syntax nesting r = absurd r
unparsed_by list (Unsupported word line) Holds syntax nesting r = absurd r
unparsed_by list (Typing fault) Holds syntax nesting r = absurd r
unparsed_by list (Const line) Holds syntax nesting r = absurd r
unparsed_by list (TooLarge which n) Holds syntax nesting r = absurd r
unparsed_by list (Uncompiled line) Holds syntax nesting r = absurd r
unparsed_by list (RoomTooLarge number) Holds syntax nesting r = absurd r
unparsed_by list NumbersTooLarge Holds syntax nesting r = absurd r
unparsed_by list Memory Holds syntax nesting r = absurd r

pub by_judgement : (list : TokenList) (answer : Judged) (Holds : Judged → Type 0) → JudgesTokens list answer
    → (IsTyped list answer → Holds answer)
    → ((at line : ℕ) → IsRefusedAt list at line false → Holds (Err (Syntax at line)))
    → ((at line : ℕ) → IsRefusedAt list at line true → Holds (Err (Nesting at line))) → Holds answer
by_judgement list (Ok p) Holds j typed syntax nesting = typed j
by_judgement list (Err refusal) Holds j typed syntax nesting =
    ⊎_elim (unparsed_by list refusal Holds syntax nesting) typed j

-- one tree has the words of the tokens, and so they are judged once
typed_once : (list : TokenList) (a b : Judged) → IsTyped list a → IsTyped list b → a ≡ b
typed_once list a b t u =
    let same = one_tree t.tree u.tree t.written.formed u.written.formed (t.written.same ∙ sym u.written.same) in
    t.as_typed ∙ ap (λ x. judged_unit (typed_unit list.end x)) same ∙ sym u.as_typed

-- the reader stands at one token
one_place : (list : TokenList) (at to line on : ℕ) (is_nesting other : Bool) → IsRefusedAt list at line is_nesting
    → IsRefusedAt list to on other → at ≡ to
one_place list at to line on is_nesting other a b =
    let first = a.stood.refused in
    let second = b.stood.refused in
    let rest : a.stood.rest ≡ b.stood.rest = cc (first, second) in
    a.stood.here ∙ ap (λ r. length list.tokens - length r) rest ∙ sym b.stood.here

one_line : (list : TokenList) (at to line on : ℕ) (is_nesting other : Bool) → IsRefusedAt list at line is_nesting
    → IsRefusedAt list to on other → line ≡ on
one_line list at to line on is_nesting other a b = a.on_line
    ∙ ap (line_at list) (one_place list at to line on is_nesting other a b) ∙ sym b.on_line

one_kind : (list : TokenList) (at to line on : ℕ) (is_nesting other : Bool) → IsRefusedAt list at line is_nesting
    → IsRefusedAt list to on other → is_nesting ≡ other
one_kind list at to line on is_nesting other a b =
    sym a.kind ∙ ap (λ n. is_nested_too_deep (take (suc n) list.tokens))
    (one_place list at to line on is_nesting other a b) ∙ b.kind

tokens_once : (list : TokenList) (a b : Judged) → JudgesTokens list a → JudgesTokens list b → a ≡ b
tokens_once list a b j k =
    by_judgement list a (λ x. x ≡ b) j
    (λ t. by_judgement list b (λ y. a ≡ y) k
    (typed_once list a b t)
    (λ at line r. absurd (r.no_tree t.tree t.written))
    (λ at line r. absurd (r.no_tree t.tree t.written)))
    (λ at line r. by_judgement list b (λ y. Err (Syntax at line) ≡ y) k
    (λ u. absurd (r.no_tree u.tree u.written))
    (λ to on q. let p = one_place list at to line on false false r q in let l = one_line list at to line on false false
    r q in cc (p, l))
    (λ to on q. absurd (cc (one_kind list at to line on false true r q))))
    (λ at line r. by_judgement list b (λ y. Err (Nesting at line) ≡ y) k
    (λ u. absurd (r.no_tree u.tree u.written))
    (λ to on q. absurd (cc (one_kind list at to line on true false r q)))
    (λ to on q. let p = one_place list at to line on true true r q in let l = one_line list at to line on true true r q
    in cc (p, l)))

readable_once : (readable : Readable) (a b : Judged) → JudgesReadable readable a → JudgesReadable readable b → a ≡ b
readable_once (Err early) a b j k = j ∙ sym k
readable_once (Ok list) a b j k = tokens_once list a b j k

-- a source is judged in one way
pub judged_once : (source : List ℕ) (a b : Judged) → Judges source a → Judges source b → a ≡ b
judged_once source a b j k = readable_once (supported_tokens source) a b j k

-- tokens that the reader of files refuses are judged by where it does
refused_there : (list : TokenList) (r : Words) (is_nesting : Bool) → unit_from (positioned list.tokens) ≡ Err r
    → is_nested_too_deep (take (suc (length list.tokens - length r)) list.tokens) ≡ is_nesting
    → IsRefusedAt list (length list.tokens - length r) (line_at list (length list.tokens - length r)) is_nesting
refused_there list r is_nesting e kind = record {
  no_tree = λ u t. none_where_refused (positioned list.tokens) r e u t.formed t.same;
  stood = record { rest = r; refused = e; here = refl };
  within = omega arith;
  on_line = refl;
  kind = kind;
}

by_kind : (list : TokenList) (r : Words) (is_nesting : Bool) → unit_from (positioned list.tokens) ≡ Err r
    → is_nested_too_deep (take (suc (length list.tokens - length r)) list.tokens) ≡ is_nesting
    → (answer : Judged) × JudgesTokens list answer
by_kind list r false e kind = (
  Err (Syntax (length list.tokens - length r) (line_at list (length list.tokens - length r))),
  inl (refused_there list r false e kind),
)
by_kind list r true e kind = (
  Err (Nesting (length list.tokens - length r) (line_at list (length list.tokens - length r))),
  inl (refused_there list r true e kind),
)

by_reader : (list : TokenList) (o : Outcome Tree) → unit_from (positioned list.tokens) ≡ o
    → (answer : Judged) × JudgesTokens list answer
by_reader list (Ok (u, r)) e =
    let tree = what_is_read (positioned list.tokens) u r e in
    let judged = judged_unit (typed_unit list.end u) in (
      judged,
      typed_tokens list judged
          (record { tree = u; written = record { formed = tree.1; same = tree.2 }; as_typed = refl }),
    )
by_reader list (Err r) e = by_kind list r (is_nested_too_deep (take (suc (length list.tokens - length r)) list.tokens))
    e refl

some_readable : (readable : Readable) → (answer : Judged) × JudgesReadable readable answer
some_readable (Err early) = (Err early, refl)
some_readable (Ok list) = by_reader list (unit_from (positioned list.tokens)) refl

-- a source is judged
pub some_judgement : (source : List ℕ) → (answer : Judged) × Judges source answer
some_judgement source = some_readable (supported_tokens source)

-- no source is both accepted and refused
pub not_both : (source : List ℕ) (program : Program) (refusal : SourceRefusal) → Judges source (Ok program)
    → Judges source (Err refusal) → ⊥
not_both source program refusal a r = let same = judged_once source (Ok program) (Err refusal) a r in cc same

-- a source is accepted as one program
pub one_program : (source : List ℕ) (p q : Program) → Judges source (Ok p) → Judges source (Ok q) → p ≡ q
one_program source p q a b = let same = judged_once source (Ok p) (Ok q) a b in cc same

-- the text of the expanded tokens ends on a line
pub source_ends : (source : List ℕ) (list : TokenList) (line : ℕ) → expanded_tokens source ≡ Ok list
    → first_unsupported list.tokens ≡ None → line ≡ list.end → EndsOn source line
source_ends source list line e none is =
    record { list = list; expands = supported source list e ∙ none_unsupported list none; line_is = is }

pub ruleset judging = (source_judged, source_refused, refused_early, source_ends)
