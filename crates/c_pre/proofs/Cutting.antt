-- The first line of a text, and the lines behind it.
use Rattle.std.proofs.Common.{◌≡◌, ℕ, ◌+◌, ◌-◌, suc, Bool, true, false, [], ◌∷◌, ◌<◌, length, take, drop, refl, sym, ap}
use Rattle.std.proofs.Common.{◌∙◌, length-drop, arith, if◌then◌else◌, zero, ◌≤◌, ◌++◌, List, Option, Some, None, subst}
use Rattle.std.proofs.Common.{append-nil}
use Rattle.std.specs.Prelude.{not, ◌&&◌}
use Rattle.std.specs.List.{list_any}
use Rattle.c_lexer.specs.Words.{spelling_of}
use Rattle.c_lexer.specs.declared.token.TokenKind.{TokenKind}
use Rattle.c_lexer.specs.declared.token.TokenKind.TheVariants.{Punctuator}
use Rattle.c_lexer.specs.declared.punctuator.Punctuator.TheVariants.{Hash}
use Rattle.c_pre.specs.declared.header.Header.{Header}
use Rattle.c_pre.specs.declared.directive.DirectiveName.{DirectiveName}
use Rattle.c_pre.specs.declared.directive.DirectiveName.TheVariants as d
use Rattle.c_pre.specs.Directives.{Line, if_defined, if_other, undef, unknown_directive, named_or, only_name}
use Rattle.c_pre.specs.Directives.{is_left_out}
use Rattle.c_pre.specs.Directives.{begins_parameters, behind_first, to_close, are_parameters, function_like}
use Rattle.c_pre.specs.Directives.{define_named}
use Rattle.c_pre.specs.Directives.{definition, header_of, included, directive_named, directive_or_unknown, directive}
use Rattle.c_pre.specs.Directives.{line_by}
use Rattle.c_pre.specs.Directives.{line_kind}
use Rattle.c_pre.specs.Names.{Name, name_of}
use Rattle.c_pre.specs.Reading.{is_text, before_run, runs}
use Rattle.std.proofs.Math.Seq.{take-length}
use Rattle.std.proofs.lemmas.List.{drop-drop}
use Rattle.c_lexer.specs.declared.token.Token.{Token}
use Rattle.c_pre.specs.Lines.{Tokens, lines, before}
use Rattle.c_pre.specs.Outcomes.{is_hash, line_len, line_rest, run_len, run_rest}

lines-cons : (t : Token) (more : Tokens)
    → lines (t ∷ more) ≡ (t ∷ take (line_rest more) more) ∷ lines (drop (line_rest more) more)
lines-cons t [] = refl
lines-cons t (u ∷ more) = ap (before t) (lines-cons u more) ∙ by_first u.begins_line (lines-cons u more)
  where
    by_first : (b : Bool) → lines (u ∷ more) ≡ (u ∷ take (line_rest more) more) ∷ lines (drop (line_rest more) more)
        → (if b then (t ∷ []) ∷ (u ∷ take (line_rest more) more) ∷ lines (drop (line_rest more) more)
        else (t ∷ u ∷ take (line_rest more) more) ∷ lines (drop (line_rest more) more))
        ≡ (t ∷ take (if b then 0 else suc (line_rest more)) (u ∷ more))
        ∷ lines (drop (if b then 0 else suc (line_rest more)) (u ∷ more))
    by_first true e = ap (λ l. (t ∷ []) ∷ l) (sym e)
    by_first false e = refl

-- the value of a slice's tail
pub tail_is : (tokens : Tokens) (at : ℕ) → take (length tokens - at) (drop at tokens) ≡ drop at tokens
tail_is tokens at = ap (λ n. take n (drop at tokens)) (sym (length-drop at tokens)) ∙ take-length (drop at tokens)

lines-line_len : (rest : Tokens) → 0 < length rest
    → lines rest ≡ take (line_len rest) rest ∷ lines (drop (line_len rest) rest)
lines-line_len [] some = absurd (omega arith)
lines-line_len (t ∷ more) some = lines-cons t more

-- the first line of what stands at a place of the text, which is not its end
module _ (tokens : Tokens) (at len : ℕ) (inside : at < length tokens)
    (len-is : len ≡ line_len (take (length tokens - at) (drop at tokens))) where
  some : 0 < length (drop at tokens)
  some = omega (arith, length-drop at tokens)

  len-at : len ≡ line_len (drop at tokens)
  len-at = len-is ∙ ap line_len (tail_is tokens at)

  pub first_line : lines (drop at tokens) ≡ take len (take (length tokens - at) (drop at tokens))
      ∷ lines (drop (at + len) tokens)
  first_line =
      lines-line_len (drop at tokens) some
      ∙ ap (λ n. take n (drop at tokens) ∷ lines (drop n (drop at tokens))) (sym len-at)
      ∙ ap (λ rest. take len rest ∷ lines (drop len (drop at tokens))) (sym (tail_is tokens at))
      ∙ ap (λ rest. take len (take (length tokens - at) (drop at tokens)) ∷ lines rest) (drop-drop len at tokens)

-- a directive is no text line
if_not_text : (b : Bool) (x y : Line) → is_text x ≡ false → is_text y ≡ false → is_text (if b then x else y) ≡ false
if_not_text true x y p q = p
if_not_text false x y p q = q

function_like_not_text : (name : Name) (o : Option (Tokens × Tokens)) → is_text (function_like name o) ≡ false
function_like_not_text name None = refl
function_like_not_text name (Some parted) =
    if_not_text (are_parameters parted.0 && not (list_any (λ token. is_left_out token.kind) parted.1)) _ _ refl refl

definition_not_text : (tokens : Tokens) → is_text (definition tokens) ≡ false
definition_not_text [] = refl
definition_not_text (token ∷ list) = by (name_of token.kind)
  where
    by : (o : Option Name) → is_text (define_named o list) ≡ false
    by None = refl
    by (Some name) = if_not_text (begins_parameters list) _ _
        (function_like_not_text name (to_close (behind_first list))) refl

named_not_text : (found : Name → Line) (other : Line) (o : Option Name) → ((name : Name) → is_text (found name) ≡ false)
    → is_text other ≡ false → is_text (named_or found other o) ≡ false
named_not_text found other None f g = g
named_not_text found other (Some name) f g = f name

included_not_text : (o : Option Header) → is_text (included o) ≡ false
included_not_text None = refl
included_not_text (Some header) = refl

directive_not_text : (o : Option DirectiveName) (more : Tokens) → is_text (directive_or_unknown o more) ≡ false
directive_not_text None more = refl
directive_not_text (Some d.Define) more = definition_not_text more
directive_not_text (Some d.Undef) more = named_not_text undef unknown_directive (only_name more) (λ _. refl) refl
directive_not_text (Some d.Include) more = included_not_text (header_of more)
directive_not_text (Some d.Ifdef) more =
    named_not_text (λ name. if_defined name true) if_other (only_name more) (λ _. refl) refl
directive_not_text (Some d.Ifndef) more =
    named_not_text (λ name. if_defined name false) if_other (only_name more) (λ _. refl) refl
directive_not_text (Some d.If) more = refl
directive_not_text (Some d.Elif) more = refl
directive_not_text (Some d.Else) more = refl
directive_not_text (Some d.Endif) more = refl

behind_hash_not_text : (more : Tokens) → is_text (directive more) ≡ false
behind_hash_not_text [] = refl
behind_hash_not_text (token ∷ more) = directive_not_text (directive_named (spelling_of token.kind)) more

by_word : (word : TokenKind) (more : Tokens) → is_text (line_by word more) ≡ not (is_hash word)
by_word (Punctuator Hash) more = behind_hash_not_text more
by_word _ more = refl

is_text_by : (token : Token) (more : Tokens) → is_text (line_kind (token ∷ more)) ≡ not (is_hash token.kind)
unfolding line_kind
is_text_by token more = by_word token.kind more

not_text : (token : Token) (more : Tokens) → is_hash token.kind ≡ true → is_text (line_kind (token ∷ more)) ≡ false
not_text token more e = is_text_by token more ∙ ap not e

text : (token : Token) (more : Tokens) → is_hash token.kind ≡ false → is_text (line_kind (token ∷ more)) ≡ true
text token more e = is_text_by token more ∙ ap not e

-- a directive stands alone, and ends the text lines before it
before_directive : (line : Tokens) (rs : List Tokens) → is_text (line_kind line) ≡ false
    → before_run line rs ≡ line ∷ rs
before_directive line [] e = refl
before_directive line (run ∷ rs) e =
    ap (λ b. if b && is_text (line_kind run) then (line ++ run) ∷ rs else line ∷ run ∷ rs) e

directive_behind : (line run : Tokens) (rs : List Tokens) → is_text (line_kind line) ≡ true
    → is_text (line_kind run) ≡ false → before_run line (run ∷ rs) ≡ line ∷ run ∷ rs
directive_behind line run rs e f =
    ap (λ b. if b && is_text (line_kind run) then (line ++ run) ∷ rs else line ∷ run ∷ rs) e
    ∙ ap (λ b. if b then (line ++ run) ∷ rs else line ∷ run ∷ rs) f

text_behind : (line run : Tokens) (rs : List Tokens) → is_text (line_kind line) ≡ true
    → is_text (line_kind run) ≡ true → before_run line (run ∷ rs) ≡ (line ++ run) ∷ rs
text_behind line run rs e f =
    ap (λ b. if b && is_text (line_kind run) then (line ++ run) ∷ rs else line ∷ run ∷ rs) e
    ∙ ap (λ b. if b then (line ++ run) ∷ rs else line ∷ run ∷ rs) f

hash_run : (t : Token) (more : Tokens) → is_hash t.kind ≡ true
    → runs (lines (t ∷ more)) ≡ (t ∷ take (line_rest more) more) ∷ runs (lines (drop (line_rest more) more))
hash_run t more e =
    ap runs (lines-cons t more)
    ∙ before_directive (t ∷ take (line_rest more) more) (runs (lines (drop (line_rest more) more)))
    (not_text t (take (line_rest more) more) e)

from_zero : (n : ℕ) → n ≡ 0 + n
from_zero n = omega arith

run_rest_line : (more : Tokens) → run_rest more ≡ line_rest more + run_rest (drop (line_rest more) more)
run_rest_line [] = refl
run_rest_line (u ∷ more) = by u.begins_line refl (run_rest_line more)
  where
    by : (b : Bool) → u.begins_line ≡ b → run_rest more ≡ line_rest more + run_rest (drop (line_rest more) more)
        → run_rest (u ∷ more) ≡ line_rest (u ∷ more) + run_rest (drop (line_rest (u ∷ more)) (u ∷ more))
    by true e ih = rw e (from_zero (if is_hash u.kind then 0 else suc (run_rest more)))
    by false e ih =
        let n = run_rest (drop (line_rest more) more) in
        let same : suc (run_rest more) ≡ suc (line_rest more) + n = omega (arith, ih) in
        rw e same

no_take : (n : ℕ) → take {A = Token} n [] ≡ []
no_take zero = refl
no_take (suc n) = refl

take_sum : (k r : ℕ) (xs : Tokens) → take (k + r) xs ≡ take k xs ++ take r (drop k xs)
take_sum zero r xs = ap (λ n. take n xs) (let e : 0 + r ≡ r = omega arith in e)
take_sum (suc k) r [] = no_take (suc k + r) ∙ sym (no_take r)
take_sum (suc k) r (x ∷ xs) =
    ap (λ n. take n (x ∷ xs)) (let e : suc k + r ≡ suc (k + r) = omega arith in e)
    ∙ ap (λ l. x ∷ l) (take_sum k r xs)

-- the text lines that begin here, where what is behind their first line is known
behind_line : (t : Token) (more : Tokens) (k r : ℕ) (rest : Tokens) → is_hash t.kind ≡ false → drop k more ≡ rest
    → run_rest more ≡ k + r
    → before_run (t ∷ take k more) (runs (lines rest)) ≡ (t ∷ (take k more ++ take r rest)) ∷ runs (lines (drop r rest))
    → before_run (t ∷ take k more) (runs (lines rest))
    ≡ (t ∷ take (run_rest more) more) ∷ runs (lines (drop (run_rest more) more))
behind_line t more k r rest plain e sum h =
    h
    ∙ ap (λ xs. (t ∷ (take k more ++ take r xs)) ∷ runs (lines (drop r xs))) (sym e)
    ∙ ap (λ xs. (t ∷ xs) ∷ runs (lines (drop r (drop k more)))) (sym (take_sum k r more))
    ∙ ap (λ xs. (t ∷ take (k + r) more) ∷ runs (lines xs)) (drop-drop r k more)
    ∙ ap (λ n. (t ∷ take n more) ∷ runs (lines (drop n more))) (sym sum)

begins_behind : (more : Tokens) (u : Token) (rest : Tokens) → drop (line_rest more) more ≡ u ∷ rest
    → u.begins_line ≡ true
begins_behind [] u rest e = absurd (cc)
begins_behind (x ∷ more) u rest e = by x.begins_line refl (λ f. begins_behind more u rest f)
  where
    by : (b : Bool) → x.begins_line ≡ b → (drop (line_rest more) more ≡ u ∷ rest → u.begins_line ≡ true)
        → u.begins_line ≡ true
    by true b ih =
        let f : x ∷ more ≡ u ∷ rest =
        subst (λ c. drop (if c then 0 else suc (line_rest more)) (x ∷ more) ≡ u ∷ rest) b e in
        let same : x ≡ u = cc in
        sym (ap (λ (w : Token). w.begins_line) same) ∙ b
    by false b ih = ih (subst (λ c. drop (if c then 0 else suc (line_rest more)) (x ∷ more) ≡ u ∷ rest) b e)

if_hash : (t : Token) (more : Tokens) (u : Token) (m : Tokens) (k : ℕ) → is_hash t.kind ≡ false → drop k more ≡ u ∷ m
    → u.begins_line ≡ true → ((r : ℕ) → run_rest (u ∷ m) ≡ r → run_rest more ≡ k + r) → (b : Bool) → is_hash u.kind ≡ b
    → (is_hash u.kind ≡ false → runs (lines (u ∷ m)) ≡ (u ∷ take (run_rest m) m) ∷ runs (lines (drop (run_rest m) m)))
    → before_run (t ∷ take k more) (runs (lines (u ∷ m)))
    ≡ (t ∷ take (run_rest more) more) ∷ runs (lines (drop (run_rest more) more))
if_hash t more u m k plain e starts sum true b ih =
    let none : run_rest (u ∷ m) ≡ 0 = ap (λ c. if c && is_hash u.kind then 0 else suc (run_rest m)) starts
    ∙ ap (λ c. if c then 0 else suc (run_rest m)) b in
    behind_line t more k 0 (u ∷ m) plain e (sum 0 none)
    (ap (before_run (t ∷ take k more)) (hash_run u m b)
    ∙ directive_behind (t ∷ take k more) (u ∷ take (line_rest m) m) (runs (lines (drop (line_rest m) m)))
    (text t (take k more) plain) (not_text u (take (line_rest m) m) b)
    ∙ ap (λ rs. (t ∷ take k more) ∷ rs) (sym (hash_run u m b))
    ∙ ap (λ xs. (t ∷ xs) ∷ runs (lines (u ∷ m))) (sym (append-nil (take k more))))
if_hash t more u m k plain e starts sum false b ih =
    let some : run_rest (u ∷ m) ≡ suc (run_rest m) =
    ap (λ c. if c && is_hash u.kind then 0 else suc (run_rest m)) starts
    ∙ ap (λ c. if c then 0 else suc (run_rest m)) b in
    behind_line t more k (suc (run_rest m)) (u ∷ m) plain e (sum (suc (run_rest m)) some)
    (ap (before_run (t ∷ take k more)) (ih b)
    ∙ text_behind (t ∷ take k more) (u ∷ take (run_rest m) m) (runs (lines (drop (run_rest m) m)))
    (text t (take k more) plain) (text u (take (run_rest m) m) b))

-- behind the first line: nothing, a directive, or more text lines
by_rest : (t : Token) (more rest : Tokens) → is_hash t.kind ≡ false → drop (line_rest more) more ≡ rest
    → ((u : Token) (m : Tokens) → rest ≡ u ∷ m → is_hash u.kind ≡ false
    → runs (lines (u ∷ m)) ≡ (u ∷ take (run_rest m) m) ∷ runs (lines (drop (run_rest m) m)))
    → before_run (t ∷ take (line_rest more) more) (runs (lines rest))
    ≡ (t ∷ take (run_rest more) more) ∷ runs (lines (drop (run_rest more) more))
by_rest t more [] plain e ih =
    let sum : run_rest more ≡ line_rest more + 0 = run_rest_line more ∙ ap (λ r. line_rest more + run_rest r) e in
    behind_line t more (line_rest more) 0 [] plain e sum
    (ap (λ xs. (t ∷ xs) ∷ []) (sym (append-nil (take (line_rest more) more))))
by_rest t more (u ∷ m) plain e ih =
    if_hash t more u m (line_rest more) plain e (begins_behind more u m e)
    (λ r h. run_rest_line more ∙ ap (λ x. line_rest more + run_rest x) e ∙ ap (λ n. line_rest more + n) h)
    (is_hash u.kind) refl (ih u m refl)

text_run : (n : ℕ) (t : Token) (more : Tokens) → length more ≤ n → is_hash t.kind ≡ false
    → runs (lines (t ∷ more)) ≡ (t ∷ take (run_rest more) more) ∷ runs (lines (drop (run_rest more) more))
text_run zero t [] h plain = refl
text_run zero t (u ∷ more) h plain = absurd (omega arith)
text_run (suc n) t more h plain =
    ap runs (lines-cons t more)
    ∙ by_rest t more (drop (line_rest more) more) plain refl
    (λ u m e f. text_run n u m (omega (arith, ap length e, length-drop (line_rest more) more)) f)

-- the length of the first run
runs-run_len : (rest : Tokens) → 0 < length rest
    → runs (lines rest) ≡ take (run_len rest) rest ∷ runs (lines (drop (run_len rest) rest))
runs-run_len [] some = absurd (omega arith)
runs-run_len (t ∷ more) some = by (is_hash t.kind) refl
  where
    by : (b : Bool) → is_hash t.kind ≡ b
        → runs (lines (t ∷ more)) ≡ take (run_len (t ∷ more)) (t ∷ more) ∷ runs
        (lines (drop (run_len (t ∷ more)) (t ∷ more)))
    by true e = rw e (hash_run t more e)
    by false e = rw e (text_run (length more) t more (omega arith) e)

module _ (tokens : Tokens) (at len : ℕ) (inside : at < length tokens)
    (len-is : len ≡ run_len (take (length tokens - at) (drop at tokens))) where
  len-run : len ≡ run_len (drop at tokens)
  len-run = len-is ∙ ap run_len (tail_is tokens at)

  pub first_run : runs (lines (drop at tokens)) ≡ take len (take (length tokens - at) (drop at tokens))
      ∷ runs (lines (drop (at + len) tokens))
  first_run =
      runs-run_len (drop at tokens) (omega (arith, length-drop at tokens))
      ∙ ap (λ n. take n (drop at tokens) ∷ runs (lines (drop n (drop at tokens)))) (sym len-run)
      ∙ ap (λ rest. take len rest ∷ runs (lines (drop len (drop at tokens)))) (sym (tail_is tokens at))
      ∙ ap (λ rest. take len (take (length tokens - at) (drop at tokens)) ∷ runs (lines rest)) (drop-drop len at tokens)
