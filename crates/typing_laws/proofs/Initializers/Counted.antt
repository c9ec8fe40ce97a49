-- An array of unknown size gets at least one element from each part of its initializer (C99 6.7.8 paragraph 22).
use Rattle.std.proofs.Common.{◌≡◌, ℕ, ◌+◌, ◌≤◌, max, Bool, true, false, sym, ap, ◌∙◌, subst, List, [], ◌∷◌}
use Rattle.std.proofs.Common.{Option, arith}
use Rattle.std.specs.Prelude.{Ok}
use Rattle.c_tree.specs.declared.c_type.TypeWord.{TypeWord}
use Rattle.c_tree.specs.declared.c_type.TypeWord.TheVariants as word
use Rattle.c_tree.specs.Extents.{TypeExtent}
use Rattle.c_tree.specs.Statements.{Content, value_content, literal_content}
use Rattle.c_tree.specs.Tree.{Expression}
use Rattle.c_tree.specs.Valid.{Scope}
use Rattle.c_rules.specs.declared.class.Class.{Class}
use Rattle.c_rules.specs.declared.class.Class.TheVariants as class
use Rattle.c_rules.specs.Conversions.{assigned, passed, passing_of}
use Rattle.c_rules.specs.Types.{class_of, same_pointee}
use Rattle.c_rules.specs.Values.{Value, is_null}
use Rattle.c_current_object.specs.declared.subobject.Step.{Step}
use Rattle.c_current_object.specs.declared.subobject.Subobject.{Subobject}
use Rattle.c_initializer_rules.specs.Literals.{filling}
use Rattle.c_initializer_rules.specs.Placed.{PlacedPart, count_of, count_with, placed}
use Rattle.typing_laws.proofs.Declarators.Types.{size_low}
use Rattle.typing_laws.specs.Initializers.Cursor.{Every}
use Rattle.typing_laws.specs.Initializers.Giving.{IsAssigned}
use Rattle.typing_laws.specs.Initializers.Placing.{IsPlaced, LiesWithin, as_part, as_whole, bound}
use Rattle.typing_laws.proofs.Initializers.Contents.{some_bytes}
use Rattle.typing_laws.proofs.Initializers.Ended.{no_less}
use Rattle.typing_laws.proofs.Initializers.Some.{HasSome}
use Rattle.typing_laws.proofs.Initializers.Steps.{KeepsParts, keeps_every}

abbrev pub IsCounted : PlacedPart → Type 0
IsCounted p = 1 ≤ count_with p.path p.part.content

-- no value is assigned to an array

no_way : (same null : Bool) (c : Class) (line : ℕ) (tree e : Expression)
    → passed (passing_of same null false class.Other c) line tree ≡ Ok e → ⊥
no_way same null (class.Integer t) line tree e is = absurd cc
no_way same null (class.Pointer to) line tree e is = absurd cc
no_way same null class.Other line tree e is = absurd cc

no_array : (es : List (Option TypeExtent)) (line : ℕ) (base : List TypeWord) (v : Value) (e : Expression)
    → assigned es line (word.OpenArray ∷ base) v ≡ Ok e → ⊥
unfolding assigned
no_array es line base v e is =
    no_way (same_pointee (word.OpenArray ∷ base) v.type) (is_null v) (class_of es v.type) line v.tree e is

-- a part of an element

counted_path : (size start bytes : ℕ) (path : List Step) (content : Content) → 1 ≤ bytes
    → start + bytes ≤ bound true size path → 1 ≤ count_with path content
counted_path size start bytes [] content low ends = absurd (omega (arith, low, ends))
counted_path size start bytes (s ∷ path) content low ends = omega arith

counted_part : (es : List (Option TypeExtent)) (size : ℕ) (o : Subobject) (content : Content)
    → LiesWithin es (bound true size o.path) o → IsCounted (placed o content)
counted_part es size o content h =
    counted_path size h.start h.size o.path content (size_low h.size h.has.object) h.inside

module _ (es : List (Option TypeExtent)) (size : ℕ) (base : List TypeWord) where
  value_counted : (o : Subobject) (e : Expression) → IsPlaced true size base es o → IsAssigned es o.c_type e
      → IsCounted (placed o (value_content e))
  value_counted o e (as_whole t has at) is =
      absurd (no_array es is.line base is.value e
      (ap (λ o. assigned es is.line o.c_type is.value) (sym at) ∙ is.is))
  value_counted o e (as_part h) is = counted_part es size o (value_content e) h

  literal_counted : (o : Subobject) (spelled : List ℕ) → IsPlaced true size base es o
      → IsCounted (placed o (literal_content (filling o.c_type spelled)))
  literal_counted o spelled (as_whole t has at) =
      subst (λ o. IsCounted (placed o (literal_content (filling o.c_type spelled)))) (sym at) (some_bytes spelled)
  literal_counted o spelled (as_part h) =
      counted_part es size o (literal_content (filling o.c_type spelled)) h

  pub keeps_counted : (scope : Scope) → KeepsParts false scope es (IsPlaced true size base es) (Every IsCounted)
  keeps_counted scope =
      keeps_every false scope es (IsPlaced true size base es) IsCounted value_counted
      (λ o spelled is chars. literal_counted o spelled is)

some_by : (ps : List PlacedPart) → Every IsCounted ps → (p : PlacedPart) (others : List PlacedPart)
    → ps ≡ p ∷ others → 1 ≤ count_of ps
some_by [] h p others is = absurd cc
some_by (q ∷ ps) h p others is =
    let low = h.0 in
    let more = no_less (max 0 (count_with q.path q.part.content)) ps in
    omega (arith, low, more)

-- at least one element of all
pub some_elements : (ps : List PlacedPart) → Every IsCounted ps → HasSome ps → 1 ≤ count_of ps
some_elements ps h s = some_by ps h s.part s.others s.is
