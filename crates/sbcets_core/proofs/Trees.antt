-- The trees of sources that were judged.
use Rattle.std.proofs.Common.{◌≡◌, ℕ, Bool, true, false, List, length, Option, Some, None, Result, Ok, Err}
use Rattle.std.proofs.Common.{refl, sym, ap, ◌∙◌, subst, ⊎_elim}
use Rattle.std.specs.Prelude.{nat_lt, if◌then◌else◌}
use Rattle.c_lexer.specs.declared.lexer.LexFault.{LexFault}
use Rattle.c_lexer.specs.Spelled.{TokenList}
use Rattle.c_lexer.specs.Text.{tokens}
use Rattle.c_pre.specs.declared.fault.PreFault.{PreFault}
use Rattle.c_pre.specs.Reading.{expanded}
use Rattle.c_syntax.specs.Statements as statements
use Rattle.c_parser.specs.Parsed.{IsTreeOf, HasNoTree}
use Rattle.c_parser.specs.declared.unsupported.UnsupportedWord.{UnsupportedWord}
use Rattle.c_parser.specs.Unsupported.{first_unsupported}
use Rattle.c_grammar.proofs.Unique.{one_tree}
use Rattle.sbcets_core.specs.declared.refusal.SourceRefusal.{SourceRefusal}
use Rattle.sbcets_core.specs.declared.refusal.SourceRefusal.TheVariants.{Syntax, Nesting, TooLarge}
use Rattle.sbcets_core.specs.declared.refusal.Counted.TheVariants.{Source}
use Rattle.sbcets_core.specs.Outcomes.{max_source}
use Rattle.c_tree.specs.Programs.{Program}
use Rattle.c_programs.specs.Rooms.{first_without_room}
use Rattle.c_unit_typing.specs.Typed.{TypedUnit, a_program, a_fault, not_constant, too_large, typed_unit}
use Rattle.sbcets_core.specs.Programs.{Judged, judged_program, judged_unit, unless_large}
use Rattle.sbcets_core.specs.Accepted.{Readable, RefusesTokens, IsTyped, expanded_tokens, supported_tokens}
use Rattle.sbcets_core.specs.Accepted.{with_support}
use Rattle.sbcets_core.specs.Accepted.{unless_unsupported, of_readable, of_expanded, of_tokens, JudgesTokens}
use Rattle.sbcets_core.specs.Accepted.{JudgesReadable, Judges}
use Rattle.sbcets_core.proofs.Judging.{refusal_is, by_judgement}
use Rattle.sbcets_core.specs.Trees.{HasTokensAlone, HasOneTree, IsUnparsed}

-- tokens with a tree have one
one_of_tokens : (source : List ℕ) (list : TokenList) (u : statements.Unit) → supported_tokens source ≡ Ok list
    → IsTreeOf list.tokens u → HasOneTree source
one_of_tokens source list u e t = record {
  list = list;
  expands = e;
  tree = u;
  written = t;
  only = λ other o. one_tree other u o.formed t.formed (o.same ∙ sym t.same);
}

accepted_from : (source : List ℕ) (readable : Readable) (program : Program) → supported_tokens source ≡ readable
    → JudgesReadable readable (Ok program) → HasOneTree source
accepted_from source (Err early) program e j = absurd (cc (j))
accepted_from source (Ok list) program e j = one_of_tokens source list j.tree e j.written

pub one_of_accepted : (source : List ℕ) (program : Program) → Judges source (Ok program) → HasOneTree source
one_of_accepted source program j = accepted_from source (supported_tokens source) program refl j

-- before the parser no source is refused by the parser
abbrev IsEarly : Readable → Type 0
IsEarly (Err (Syntax at line)) = ⊥
IsEarly (Err (Nesting at line)) = ⊥
IsEarly readable = Unit {0}

early_supported : (list : TokenList) (found : Option (UnsupportedWord × ℕ)) → IsEarly (unless_unsupported list found)
early_supported list None = tt
early_supported list (Some found) = tt

early_readable : (r : Readable) → IsEarly r → IsEarly (of_readable r)
unfolding with_support
early_readable (Err refusal) e = e
early_readable (Ok list) e = early_supported list (first_unsupported list.tokens)

early_expanded : (r : Result TokenList PreFault) → IsEarly (of_expanded r)
early_expanded (Err fault) = tt
early_expanded (Ok list) = tt

early_tokens : (r : Result TokenList LexFault) → IsEarly (of_tokens r)
early_tokens (Err fault) = tt
early_tokens (Ok list) = early_expanded (expanded list)

early_if : (b : Bool) (x y : Readable) → IsEarly x → IsEarly y → IsEarly (if b then x else y)
early_if true x y i j = i
early_if false x y i j = j

early : (source : List ℕ) → IsEarly (supported_tokens source)
unfolding supported_tokens expanded_tokens
early source =
    early_readable (expanded_tokens source)
    (early_if (nat_lt max_source (length source)) (Err (TooLarge Source (length source))) (of_tokens (tokens source)) tt
    (early_tokens (tokens source)))

-- no tree is typed as the parser refuses
typed_late : (t : TypedUnit) → IsUnparsed (judged_unit t) → ⊥
unfolding judged_program
typed_late (a_program p) i = by (first_without_room 0 p.functions) i
  where
    by : (room : Option ℕ) → IsUnparsed (unless_large room p) → ⊥
    by (Some n) i = i
    by None i = i
typed_late (a_fault f) i = i
typed_late (not_constant line) i = i
typed_late (too_large which n) i = i

not_typed : (list : TokenList) (judged : Judged) → IsUnparsed judged → IsTyped list judged → ⊥
not_typed list judged i t = typed_late (typed_unit list.end t.tree) (subst IsUnparsed t.as_typed i)

-- a refusal of the parser comes of tokens
alone_from : (source : List ℕ) (readable : Readable) (refusal : SourceRefusal) → supported_tokens source ≡ readable
    → (IsEarly (Err refusal) → ⊥) → IsUnparsed (Err refusal)
    → ((list : TokenList) → RefusesTokens list refusal → HasNoTree list.tokens)
    → JudgesReadable readable (Err refusal) → HasTokensAlone source
alone_from source (Err other) refusal e late unparsed none j = absurd
    (late (subst IsEarly (e ∙ ap Err (sym (refusal_is refusal other j))) (early source)))
alone_from source (Ok list) refusal e late unparsed none j = record {
  list = list;
  expands = e;
  no_tree = ⊎_elim (none list) (λ t. absurd (not_typed list (Err refusal) unparsed t)) j;
}

pub alone_of_syntax : (source : List ℕ) (at line : ℕ) → Judges source (Err (Syntax at line)) → HasTokensAlone source
alone_of_syntax source at line j =
    alone_from source (supported_tokens source) (Syntax at line) refl (λ i. i) tt (λ list r. r.no_tree) j

pub alone_of_nesting : (source : List ℕ) (at line : ℕ) → Judges source (Err (Nesting at line)) → HasTokensAlone source
alone_of_nesting source at line j =
    alone_from source (supported_tokens source) (Nesting at line) refl (λ i. i) tt (λ list r. r.no_tree) j

-- tokens without a tree are refused for want of one, and so judged
unparsed_tokens : (list : TokenList) (judged : Judged) → HasNoTree list.tokens → JudgesTokens list judged
    → IsUnparsed judged
unparsed_tokens list judged none j = by_judgement list judged IsUnparsed j (λ t. absurd (none t.tree t.written))
    (λ at line r. tt) (λ at line r. tt)

pub unparsed : (source : List ℕ) (judged : Judged) → HasTokensAlone source → Judges source judged → IsUnparsed judged
unparsed source judged a j = unparsed_tokens a.list judged a.no_tree (subst (λ r. JudgesReadable r judged) a.expands j)

pub ruleset trees = (alone_of_syntax, alone_of_nesting, unparsed, one_of_accepted)
