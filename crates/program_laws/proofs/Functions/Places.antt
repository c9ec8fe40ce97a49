-- The number of a function is the place of its definition among those of its file (C99 6.9.1).
use Rattle.std.proofs.Common.{◌≡◌, ◌⊎◌, inl, inr, ℕ, suc, refl, sym, ap, ◌∙◌, List, [], ◌∷◌, length, Option, Some, None}
use Rattle.std.proofs.Common.{if◌then◌else◌, arith}
use Rattle.std.specs.Prelude.{is_some}
use Rattle.c_syntax.specs.Formed as formed
use Rattle.c_syntax.specs.Statements as t
use Rattle.c_facts.specs.Facts.{Found, found_in, numbered, with_external}
use Rattle.c_facts.specs.Facts as facts
use Rattle.c_scope.specs.Environment.{Facts, number_or}
use Rattle.c_scope.specs.Names.{Name, Names, bound, declared}
use Rattle.c_unit_typing.specs.Files.{File}
use Rattle.typing_laws.proofs.Validity.Common.{no_value}
use Rattle.typing_laws.proofs.Declarators.Lists.{added_length}
use Rattle.typing_laws.proofs.Declarations.Bound.{bound_here}
use Rattle.typing_laws.proofs.Declarations.Facts.{declarators_keep_facts}
use Rattle.program_laws.specs.Bodies.Defined.{Defines}
use Rattle.program_laws.specs.Bodies.Whole.{definition_made}
use Rattle.program_laws.proofs.Bodies.Definitions.{DefinesNamed, made_behind}
use Rattle.program_laws.proofs.Functions.Entities.{bound_either}
use Rattle.program_laws.proofs.Functions.Files.{FunctionsOf}

-- a name that has a number keeps it

pub record Kept (numbers more : Names ℕ) : Type 0 where
  pub each : (name : Name) (k : ℕ) → declared name numbers ≡ Some k → declared name more ≡ Some k

kept_same : (numbers more : Names ℕ) → more ≡ numbers → Kept numbers more
kept_same numbers more same = record { each = λ name k e. ap (declared name) same ∙ e }

numbered_kept : (own : Name) (numbers : Names ℕ) (o : Option ℕ) → declared own numbers ≡ o
    → Kept numbers (if is_some o then numbers else bound own (length numbers) numbers)
numbered_kept own numbers (Some n) is = kept_same numbers numbers refl
numbered_kept own numbers None is = record {
  each = λ name k e. by name k e (bound_either name own (length numbers) numbers);
}
  where
    by : (name : Name) (k : ℕ) → declared name numbers ≡ Some k
        → (declared name (bound own (length numbers) numbers) ≡ declared name numbers)
        ⊎ ((name ≡ own) × (declared name (bound own (length numbers) numbers) ≡ Some (length numbers)))
        → declared name (bound own (length numbers) numbers) ≡ Some k
    by name k e (inl g) = g ∙ e
    by name k e (inr g) = no_value k _ (sym is ∙ ap (λ z. declared z numbers) (sym g.0) ∙ e)

defined_kept : (o : Option Name) (x : Facts) → Kept x.functions (facts.defined o x).functions
defined_kept None x = kept_same x.functions x.functions refl
defined_kept (Some name) x = numbered_kept name x.functions (declared name x.functions) refl

external_kept : (e : t.External) (q : Found) → Kept q.facts.functions (with_external e q).facts.functions
external_kept (t.definition specs d b) q = defined_kept (formed.declared d) (facts.with_tags specs q).facts
external_kept (t.declaration d) q =
    kept_same q.facts.functions (with_external (t.declaration d) q).facts.functions
    (declarators_keep_facts (λ x. x.functions) (λ x name. refl) (facts.heading q.types d.specifiers) d.declarators
    (facts.with_tags d.specifiers q))

pub found_kept : (es : List t.External) (q : Found) → Kept q.facts.functions (found_in es q).facts.functions
found_kept [] q = kept_same q.facts.functions q.facts.functions refl
found_kept (e ∷ es) q = record {
  each = λ name k is.
      (found_kept es (with_external e q)).each name k ((external_kept e q).each name k is);
}

-- the number of a function is the place of its definition

next_number : (own : Name) (numbers : Names ℕ) (o : Option ℕ)
    → length (if is_some o then numbers else bound own (length numbers) numbers) ≡ suc (length numbers)
    → declared own (if is_some o then numbers else bound own (length numbers) numbers) ≡ Some (length numbers)
next_number own numbers (Some k) longer = absurd (omega (arith, longer))
next_number own numbers None longer = bound_here own (length numbers) numbers

pub record DefinesAt (f behind : File) : Type 0 where
  pub defines : Defines f behind
  pub number : defines.number ≡ length f.definitions

-- behind a declarator that has this name the functions so far have these numbers, which are kept
module _ (name : Option Name) (f behind : File) (d : DefinesNamed name f behind) (x : Facts)
    (before : FunctionsOf f x.functions) (after : FunctionsOf behind (facts.defined name x).functions)
    (kept : Kept (facts.defined name x).functions behind.state.environment.facts.functions) where
  abbrev earlier : Names ℕ
  earlier = x.functions

  same_numbers : (facts.defined name x).functions ≡ numbered d.own earlier
  same_numbers = ap (λ o. (facts.defined o x).functions) d.is

  longer : length (numbered d.own earlier) ≡ suc (length earlier)
  longer =
      ap length (sym same_numbers) ∙ after.0.defines.count ∙ ap length (made_behind f behind d.defines)
      ∙ added_length f.definitions (definition_made f behind d.defines) ∙ ap suc (sym before.0.defines.count)

  own_number : declared d.own behind.state.environment.facts.functions ≡ Some (length earlier)
  own_number =
      kept.each d.own (length earlier)
      (ap (declared d.own) same_numbers ∙ next_number d.own earlier (declared d.own earlier) longer)

  pub defines_at : DefinesAt f behind
  defines_at =
      let all = behind.state.environment.facts.functions in
      record {
        defines = d.defines;
        number = after.1.each d.own d.entity.entity d.defines.number d.entity.is d.entity.same
            ∙ ap (λ o. number_or o (length all)) own_number ∙ before.0.defines.count;
      }
