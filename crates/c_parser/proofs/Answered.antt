-- What the parser answers, from what the reader of files gives.
use Rattle.std.proofs.Common.{◌≡◌, ℕ, suc, ◌+◌, ◌-◌, ◌≤◌, min, take, Bool, List, [], ◌∷◌, length, Result, Ok, Err, None}
use Rattle.std.proofs.Common.{refl, sym, ap, ◌∙◌, arith}
use Rattle.std.proofs.lemmas.List.{take_min}
use Rattle.c_lexer.specs.Spelled.{TokenList}
use Rattle.c_lexer.specs.declared.token.Token.{Token}
use Rattle.c_syntax.specs.Statements.{Unit}
use Rattle.c_syntax.specs.Words.{Words, positioned, positioned_from}
use Rattle.c_grammar.specs.UnitReader.{unit_from}
use Rattle.c_parser.specs.Parsed.{IsTreeOf, HasNoTree, IsWhereRefused, Told, is_nested_too_deep, line_at, IsFaultAt}
use Rattle.c_parser.specs.Parsed.{Parses, IsSupported}
use Rattle.c_parser.specs.Unsupported.{first_unsupported}
use Rattle.c_syntax.specs.declared.statement.Unit as rust
use Rattle.c_parser.specs.declared.fault.ParseFault.{ParseFault}
use Rattle.c_parser.specs.declared.fault.ParseFault.TheVariants.{Memory, Unsupported, Syntax, Nesting}
use Rattle.c_grammar.proofs.Refused.{none_where_refused}
use Rattle.c_grammar.proofs.SoundUnits.{unit_sound}

-- each token is one word
pub as_many : (n : ℕ) (tokens : List Token) → length (positioned_from n tokens) ≡ length tokens
as_many n [] = refl
as_many n (first ∷ i) = ap suc (as_many (suc n) i)

-- a fault at a position, by what the tokens up to there nest to
pub told : (list : TokenList) (at line end : ℕ) (is_nesting : Bool) → line ≡ line_at list at
    → end ≡ min (at + 1) (length list.tokens)
    → is_nested_too_deep (take end list.tokens) ≡ is_nesting → Told list at at line is_nesting
told list at line end is_nesting on far kind =
    let next : at + 1 ≡ suc at = omega arith in
    let up_to : take end list.tokens ≡ take (suc at) list.tokens =
    ap (λ n. take n list.tokens) far ∙ take_min (at + 1) list.tokens ∙ ap (λ n. take n list.tokens) next in
    record { token = refl; on_line = on; kind = sym (ap (λ z. is_nested_too_deep z) up_to) ∙ kind }

-- a file that was read
pub read : (tokens : List Token) (words : Words) (u : Unit) (r : Words) → words ≡ positioned tokens
    → unit_from words ≡ Ok (u, r) → IsTreeOf tokens u
read tokens words u r e o = let f = unit_sound words u r o in record { formed = f.formed; same = f.same ∙ e }

-- a text that was refused
pub refused : (tokens : List Token) (words r : Words) → words ≡ positioned tokens → unit_from words ≡ Err r
    → HasNoTree tokens
refused tokens words r e o = λ u f. none_where_refused words r o u f.formed (f.same ∙ sym e)

-- where it was refused
pub stood : (tokens : List Token) (words r : Words) (at : ℕ) → words ≡ positioned tokens → unit_from words ≡ Err r
    → at ≡ length words - length r
    → IsWhereRefused tokens at
stood tokens words r at e o here =
    let many : length words ≡ length tokens = ap length e ∙ as_many 0 tokens in
    record { rest = r; refused = ap unit_from (sym e) ∙ o; here = here ∙ ap (λ n. n - length r) many }

-- a fault at a position of a text that was refused
pub refused_at : (list : TokenList) (words r : Words) (at : ℕ) (fault : ParseFault) → words ≡ positioned list.tokens
    → unit_from words ≡ Err r
    → at ≡ length words - length r → at ≤ length list.tokens → IsFaultAt list at fault → Parses list (Err fault)
refused_at list words r at Memory e o here within told = absurd told
refused_at list words r at (Unsupported word line) e o here within told = absurd told
refused_at list words r at (Syntax number line) e o here within told =
    record {
      no_tree = refused list.tokens words r e o;
      stood = rw told.token (stood list.tokens words r at e o here);
      within = rw told.token within;
      on_line = rw told.token told.on_line;
      kind = rw told.token told.kind;
    }
refused_at list words r at (Nesting number line) e o here within told =
    record {
      no_tree = refused list.tokens words r e o;
      stood = rw told.token (stood list.tokens words r at e o here);
      within = rw told.token within;
      on_line = rw told.token told.on_line;
      kind = rw told.token told.kind;
    }

-- without an unsupported word any answer is right in this
pub supported : (list : TokenList) (answer : Result rust.Unit ParseFault) → first_unsupported list.tokens ≡ None
    → IsSupported list answer
supported list (Ok u) none = none
supported list (Err (Unsupported word line)) none = tt
supported list (Err Memory) none = tt
supported list (Err (Syntax at line)) none = none
supported list (Err (Nesting at line)) none = none
