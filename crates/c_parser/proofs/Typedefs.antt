-- Typedef names behind declarators.
use Rattle.std.proofs.Common.{◌≡◌, ℕ, zero, suc, Bool, true, false, List, [], ◌∷◌, ◌++◌, Ok, refl, sym, ap, ◌∙◌, Option}
use Rattle.std.proofs.Common.{Some, None}
use Rattle.c_lexer.specs.declared.punctuator.Punctuator.TheVariants as p
use Rattle.c_syntax.specs.declared.position.Position.{Position}
use Rattle.c_syntax.specs.declared.declaration.InitDeclarator as ri
use Rattle.c_syntax.specs.Tree.{Specifiers, Declarator}
use Rattle.c_syntax.specs.Statements.{InitDeclarator, InitDeclarators, Declaration}
use Rattle.c_syntax.specs.View.{behind_comma}
use Rattle.c_syntax.specs.Words.{Words, punctuator}
use Rattle.c_syntax.specs.Formed.{has_typedef, names_after, names_after_more, names_after_all, names_after_declaration}
use Rattle.c_syntax.specs.StatementsView.{init_declarator_of, more_init_declarators_in}
use Rattle.c_grammar.specs.Reader.{Outcome, next_is_punctuator}
use Rattle.c_grammar.specs.Nested.{readers}
use Rattle.c_grammar.specs.DeclarationReader.{init_declarator_from, more_init_declarators_from, declaration_behind}
use Rattle.c_grammar.specs.DeclarationReader.{local_from}
use Rattle.c_grammar.specs.declared.declarator_kind.DeclaratorKind.TheVariants as kind
use Rattle.c_grammar.specs.Reads.{Fails}
use Rattle.c_grammar.specs.declared.cursor.Fault.{Fault}
use Rattle.c_grammar.specs.declared.cursor.Fault.TheVariants.{Memory, Refused}
use Rattle.c_grammar.proofs.Extending.{extending, extended, extending_one, map_one}
use Rattle.c_grammar.proofs.Facts.{same}
use Rattle.c_grammar.proofs.Sound.{sound}

-- where `typedef` may not stand, none is read
pub no_typedef : (names : List (List ℕ)) (n : ℕ) (i : Words) (z : Specifiers) (r : Words)
    → (readers names n).specifiers false i ≡ Ok (z, r) → has_typedef z ≡ false
no_typedef names n i z r h = ((sound names n).specifiers false i z r h).no_typedef refl

-- one more declarator
names_after_one : (is_typedef : Bool) (xs : List (Position × InitDeclarator)) (x : Position × InitDeclarator)
    (names : List (List ℕ))
    → names_after_more is_typedef (xs ++ x ∷ []) names ≡ names_after is_typedef x.1.declarator
    (names_after_more is_typedef xs names)
names_after_one is_typedef [] x names = refl
names_after_one is_typedef (y ∷ xs) x names = names_after_one is_typedef xs x
    (names_after is_typedef y.1.declarator names)

-- one more declarator of the code's list
pub names_turn : (xs : List (Position × ri.InitDeclarator)) (at : Position) (x : ri.InitDeclarator)
    (names before new : List (List ℕ))
    → before ≡ names_after_more true (more_init_declarators_in xs) names
    → new ≡ names_after true (init_declarator_of x).declarator before
    → new ≡ names_after_more true (more_init_declarators_in (xs ++ (at, x) ∷ [])) names
names_turn xs at x names before new known one =
    rw (
      map_one (behind_comma init_declarator_of) xs (at, x),
      names_after_one true (more_init_declarators_in xs)
          (at, init_declarator_of x) names,
    )
    (one ∙ ap (λ z. names_after true (init_declarator_of x).declarator z) known)

same_behind_more : (xs : List (Position × InitDeclarator)) (names : List (List ℕ))
    → names_after_more false xs names ≡ names
same_behind_more [] names = refl
same_behind_more (x ∷ xs) names = same_behind_more xs names

same_behind : (x : Option InitDeclarators) (names : List (List ℕ)) → names_after_all false x names ≡ names
same_behind None names = refl
same_behind (Some x) names = same_behind_more x.others names

-- what is no typedef leaves the names as they are
pub plain_leaves : (x : Declaration) (names : List (List ℕ)) → has_typedef x.specifiers ≡ false
    → names_after_declaration x names ≡ names
plain_leaves x names h = ap (λ b. names_after_all b x.declarators names) h ∙ same_behind x.declarators names

-- one more declarator of the code's list, behind its comma
pub init_declarator_turn : (levels : ℕ) (is_typedef : Bool) (n : ℕ) (names : List (List ℕ))
    (xs : List (Position × ri.InitDeclarator)) (x : ri.InitDeclarator) (tokens : Words) (at : Position) (i new : Words)
    → tokens ≡ punctuator p.Comma at ∷ i → init_declarator_from levels is_typedef names i
    ≡ Ok (init_declarator_of x, new)
    → extending (more_init_declarators_in xs) (more_init_declarators_from levels is_typedef (suc n) names tokens)
    ≡ extending (more_init_declarators_in (xs ++ (at, x) ∷ []))
    (more_init_declarators_from levels is_typedef n (names_after is_typedef (init_declarator_of x).declarator names)
    new)
unfolding more_init_declarators_from
init_declarator_turn levels is_typedef n names xs x tokens at i new start one =
    ap (λ i. extending (more_init_declarators_in xs) (more_init_declarators_from levels is_typedef (suc n) names i))
    start
    ∙ rw (same p.Comma, one) (rw (map_one (behind_comma init_declarator_of) xs (at, x))
    (extending_one (more_init_declarators_in xs) (at, init_declarator_of x)
    (more_init_declarators_from levels is_typedef n (names_after is_typedef (init_declarator_of x).declarator names)
    new)))

-- no declarator could be read behind a comma
pub init_declarator_fails : (levels : ℕ) (is_typedef : Bool) (n : ℕ) (names : List (List ℕ))
    (xs : List (Position × InitDeclarator)) (tokens : Words) (at : Position) (i new : Words)
    (o : Outcome (List (Position × InitDeclarator))) (e : Fault)
    → o ≡ extending xs (more_init_declarators_from levels is_typedef (suc n) names tokens)
    → tokens ≡ punctuator p.Comma at ∷ i → Fails (init_declarator_from levels is_typedef names i) e new → Fails o e new
unfolding more_init_declarators_from
init_declarator_fails levels is_typedef n names xs tokens at i new o Memory read start one = tt
init_declarator_fails levels is_typedef n names xs tokens at i new o Refused read start one =
    read ∙ ap (λ i. extending xs (more_init_declarators_from levels is_typedef (suc n) names i)) start
    ∙ rw (same p.Comma, one) refl

-- no comma is next
pub init_declarators_end : (levels : ℕ) (is_typedef : Bool) (n : ℕ) (names : List (List ℕ))
    (xs : List (Position × InitDeclarator)) (i : Words) → next_is_punctuator p.Comma i ≡ false
    → extending xs (more_init_declarators_from levels is_typedef n names i) ≡ Ok (xs, i)
unfolding more_init_declarators_from
init_declarators_end levels is_typedef zero names xs i none = extended xs i
init_declarators_end levels is_typedef (suc n) names xs [] none = extended xs []
init_declarators_end levels is_typedef (suc n) names xs (first ∷ i) none = rw none (extended xs (first ∷ i))

-- no more declarators are counted
pub init_declarators_done : (levels : ℕ) (is_typedef : Bool) (names : List (List ℕ))
    (xs : List (Position × InitDeclarator)) (i : Words)
    → extending xs (more_init_declarators_from levels is_typedef 0 names i) ≡ Ok (xs, i)
unfolding more_init_declarators_from
init_declarators_done levels is_typedef names xs i = extended xs i

-- a declaration in a function that has declarators
pub local_is : (levels n : ℕ) (names : List (List ℕ)) (i j r : Words) (z : Specifiers) (d : Declarator) → n ≡ suc levels
    → (readers names n).specifiers false i ≡ Ok (z, j) → next_is_punctuator p.Semicolon j ≡ false
    → (readers names (suc levels)).declarator kind.Named j ≡ Ok (d, r)
    → declaration_behind levels names z d r ≡ local_from levels names i
unfolding local_from
local_is levels n names i j r z d e first none named =
    let first' = ap (λ n. (readers names n).specifiers false i) (sym e) ∙ first in
    rw (first', none, named) refl
