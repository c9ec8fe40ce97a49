-- What calls of `printf` give is valid where the arguments are.
use Rattle.std.proofs.Common.{◌≡◌, ℕ, Bool, true, false, Option, Some, None, List, [], ◌∷◌, ◌++◌, refl, ap, sym, ◌∙◌}
use Rattle.std.proofs.Common.{append_assoc, append-nil}
use Rattle.std.specs.Prelude.{◌&&◌, ◌||◌, not, if◌then◌else◌, option_map, Ok, Err}
use Rattle.obj_memory.specs.declared.int_type.IntType.TheVariants.{Char, Int}
use Rattle.obj_memory.specs.Integers.{promoted}
use Rattle.c_tree.specs.declared.c_type.TypeWord.TheVariants as word
use Rattle.c_tree.specs.declared.expression.Kind.{Kind}
use Rattle.c_tree.specs.declared.format.Directive.{Directive}
use Rattle.c_tree.specs.declared.format.Piece.{Piece}
use Rattle.c_tree.specs.Extents.{TypeExtent}
use Rattle.c_tree.specs.Format.{pieces, directives}
use Rattle.c_tree.specs.Kinds.{integer, pointer, fits_directive, fit_directives}
use Rattle.c_tree.specs.Tree.{Expression, expressions_in, kinds_of, kind_of}
use Rattle.c_tree.specs.Valid.{Scope, is_valid, are_valid, are_printed}
use Rattle.c_rules.specs.declared.class.Class.{Class}
use Rattle.c_rules.specs.declared.class.Class.TheVariants as class
use Rattle.c_faults.specs.declared.fault.Rule.TheVariants.{MistakenFormat}
use Rattle.c_faults.specs.Answer.{Answer, violates, ◌>>=◌}
use Rattle.c_rules.specs.Types.{class_of}
use Rattle.c_rules.specs.Values.{Value, integer_words, converted}
use Rattle.c_rules.specs.Conversions.{assigned}
use Rattle.c_rules.specs.Fine.{IsFine, IfFine}
use Rattle.c_rules.proofs.TypeKinds.{HasKind, class_kind}
use Rattle.c_rules.proofs.SameTypes.{both_true}
use Rattle.c_rules.proofs.FineBinary.{all, Converts, integer_converts, from_pointer}
use Rattle.c_call_rules.specs.FineCalls.{AreFine}
use Rattle.c_call_rules.specs.Printing.{Format, a_literal, another, is_text, takes_text, promoted_kind, fits}
use Rattle.c_call_rules.specs.Printing.{printed_as}
use Rattle.c_call_rules.specs.Printing.{one_printed, behind_first, all_printed, printed, printf_tree, printed_by}
use Rattle.c_call_rules.specs.Printing.{no_literal, formatted}

module _ (scope : Scope) (structures : List (Option TypeExtent)) (line : ℕ) where
  -- arguments behind others, which are valid and fit the directives
  record Prints (before : List Expression) (ds : List Directive) (es : List Expression) : Type 0 where
    added : List Expression
    all_of : es ≡ before ++ added
    valid : are_valid scope (expressions_in added) ≡ true
    fit : fit_directives ds (kinds_of (expressions_in added)) ≡ true

  abbrev IfPrints : List Expression → List Directive → Answer (List Expression) → Type 0
  IfPrints before ds (Ok es) = Prints before ds es
  IfPrints before ds (Err f) = Unit {0}

  -- an argument of a directive
  record IsPrinted (d : Directive) (e : Expression) : Type 0 where
    valid : is_valid scope e ≡ true
    fits : fits_directive d (kind_of e) ≡ true

  abbrev IfPrinted : Directive → Answer Expression → Type 0
  IfPrinted d (Ok e) = IsPrinted d e
  IfPrinted d (Err f) = Unit {0}

  kind_cases : (x : Bool) (d : Directive) (k : Kind) (v : Value) → fits d k v.type ≡ x → Converts scope k v.tree
      → IfPrinted d (if x then Ok (converted k v.tree) else violates MistakenFormat line)
  kind_cases true d k v e c =
      let fit = (both_true (fits_directive d k) (not (takes_text d) || is_text v.type) e).0 in
      record { valid = c.valid; fits = ap (fits_directive d) c.kind ∙ fit }
  kind_cases false d k v e c = tt

  class_cases : (c : Class) (d : Directive) (v : Value) → HasKind c (kind_of v.tree) → IsFine scope structures v
      → IfPrinted d (printed_as line d (promoted_kind c) v)
  class_cases (class.Integer t) d v h fv =
      kind_cases (fits d (integer (promoted t)) v.type) d (integer (promoted t)) v refl
      (integer_converts scope structures (promoted t) t v fv h)
  class_cases (class.Pointer to) d v h fv =
      kind_cases (fits d pointer v.type) d pointer v refl (from_pointer scope structures v fv h.0)
  class_cases class.Other d v h fv = tt

  one_more : (before : List Expression) (e : Expression) (d : Directive) (ds : List Directive)
      (r : Answer (List Expression)) → IsPrinted d e → IfPrints (before ++ e ∷ []) ds r → IfPrints before (d ∷ ds) r
  one_more before e d ds (Ok es) p h = record {
    added = e ∷ h.added;
    all_of = h.all_of ∙ append_assoc before (e ∷ []) h.added;
    valid = all p.valid h.valid;
    fit = all p.fits h.fit;
  }
  one_more before e d ds (Err f) p h = tt

  next_prints : (vs : List Value) (before : List Expression) (d : Directive) (ds : List Directive)
      (r : Answer Expression) → IfPrinted d r
      → ((es : List Expression) → IfPrints es ds (printed structures line ds es vs))
      → IfPrints before (d ∷ ds) ((r >>= λ e. Ok (before ++ e ∷ [])) >>= λ es. printed structures line ds es vs)
  next_prints vs before d ds (Ok e) p next =
      one_more before e d ds (printed structures line ds (before ++ e ∷ []) vs) p (next (before ++ e ∷ []))
  next_prints vs before d ds (Err f) p next = tt

  prints : (vs : List Value) (ds : List Directive) (before : List Expression) → AreFine scope structures vs
      → IfPrints before ds (printed structures line ds before vs)
  prints [] [] before fvs = record { added = []; all_of = sym (append-nil before); valid = refl; fit = refl }
  prints [] (d ∷ ds) before fvs = tt
  prints (v ∷ vs) [] before fvs = tt
  prints (v ∷ vs) (d ∷ ds) before fvs =
      next_prints vs before d ds (printed_as line d (promoted_kind (class_of structures v.type)) v)
      (class_cases (class_of structures v.type) d v (class_kind structures v.type (kind_of v.tree) fvs.0.kind) fvs.0)
      (λ es. prints vs ds es fvs.1)

  finished : (bytes : List ℕ) (ps : List Piece) (r : Answer (List Expression)) → pieces bytes ≡ Some ps
      → IfPrints [] (directives ps) r
      → IfFine scope structures (r >>= λ es. Ok (record { type = integer_words Int; tree = printf_tree line bytes es }))
  finished bytes ps (Ok es) e h = record {
    valid = ap (λ x. is_valid scope (printf_tree line bytes x)) h.all_of
        ∙ all (all h.valid (ap (λ o. are_printed o (kinds_of (expressions_in h.added))) e ∙ h.fit)) refl;
    kind = refl;
    bare = refl;
  }
  finished bytes ps (Err f) e h = tt

  pieces_cases : (bytes : List ℕ) (o : Option (List Piece)) (vs : List Value) → pieces bytes ≡ o
      → AreFine scope structures vs
      → IfFine scope structures (printed_by structures line bytes (option_map directives o) vs)
  pieces_cases bytes None vs e fvs = tt
  pieces_cases bytes (Some ps) vs e fvs =
      finished bytes ps (printed structures line (directives ps) [] vs) e (prints vs (directives ps) [] fvs)

  never : (r : Answer Expression) → IfFine scope structures (r >>= λ e. violates MistakenFormat line)
  never (Ok e) = tt
  never (Err f) = tt

  pub formatted_fine : (format : Option Format) (vs : List Value) → AreFine scope structures vs
      → IfFine scope structures (formatted structures line format vs)
  formatted_fine None vs fvs = tt
  formatted_fine (Some (another v)) vs fvs =
      never (assigned structures line (word.Pointer ∷ word.Const ∷ word.Integer Char ∷ []) v)
  formatted_fine (Some (a_literal bytes)) vs fvs = pieces_cases bytes (pieces bytes) vs refl fvs
