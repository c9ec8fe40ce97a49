-- The initializers of static objects are constant exactly where there is no line of one that is not.
use Rattle.std.proofs.Common.{◌≡◌, ℕ, List, [], ◌∷◌, Option, Some, None, Bool, true, false, refl}
use Rattle.std.specs.Prelude.{◌&&◌}
use Rattle.std.specs.List.{list_all}
use Rattle.c_tree.specs.Tree.{line_of}
use Rattle.c_tree.specs.Statements.{Content, Part, literal_content, value_content}
use Rattle.c_tree.specs.Programs.{Program, StaticObject}
use Rattle.c_const.specs.Addresses.{Pointers}
use Rattle.c_const.specs.Initializers.{any_pointers, is_constant, has_constants, are_constant, line_unless, content_fault}
use Rattle.c_const.specs.Initializers.{or_later, parts_fault, statics_fault, first_not_constant}

-- a test of one of a list's elements stands for that there is no line
unless_none : (b : Bool) (line : ℕ) → line_unless b line ≡ None → b ≡ true
unless_none true line e = refl
unless_none false line e = cc

none_unless : (b : Bool) (line : ℕ) → b ≡ true → line_unless b line ≡ None
none_unless true line e = refl
none_unless false line e = cc

content_none : (ps : Pointers) (c : Content) → content_fault ps c ≡ None → is_constant ps c ≡ true
content_none ps (value_content e) h = unless_none (is_constant ps (value_content e)) (line_of e) h
content_none ps (literal_content bytes) h = refl

none_content : (ps : Pointers) (c : Content) → is_constant ps c ≡ true → content_fault ps c ≡ None
none_content ps (value_content e) h = none_unless (is_constant ps (value_content e)) (line_of e) h
none_content ps (literal_content bytes) h = refl

first_none : (a b : Option ℕ) → or_later a b ≡ None → (a ≡ None) × (b ≡ None)
first_none None b e = (refl, e)
first_none (Some line) b e = cc

both_none : (a b : Option ℕ) → a ≡ None → b ≡ None → or_later a b ≡ None
both_none None b e h = h
both_none (Some line) b e h = cc

both_true : (a b : Bool) → a ≡ true → b ≡ true → (a && b) ≡ true
both_true true b e h = h
both_true false b e h = cc

each_true : (a b : Bool) → (a && b) ≡ true → (a ≡ true) × (b ≡ true)
each_true true b e = (refl, e)
each_true false b e = cc

parts_none : (ps : Pointers) (qs : List Part) → parts_fault ps qs ≡ None
    → list_all (λ p. is_constant ps p.content) qs ≡ true
parts_none ps [] h = refl
parts_none ps (q ∷ qs) h =
    let e = first_none (content_fault ps q.content) (parts_fault ps qs) h in
    both_true _ _ (content_none ps q.content e.0) (parts_none ps qs e.1)

none_parts : (ps : Pointers) (qs : List Part) → list_all (λ p. is_constant ps p.content) qs ≡ true
    → parts_fault ps qs ≡ None
none_parts ps [] h = refl
none_parts ps (q ∷ qs) h =
    let e = each_true _ _ h in
    both_none (content_fault ps q.content) (parts_fault ps qs) (none_content ps q.content e.0) (none_parts ps qs e.1)

statics_none : (ps : Pointers) (os : List StaticObject) → statics_fault ps os ≡ None
    → list_all (has_constants ps) os ≡ true
statics_none ps [] h = refl
statics_none ps (o ∷ os) h =
    let e = first_none (parts_fault ps o.parts) (statics_fault ps os) h in
    both_true _ _ (parts_none ps o.parts e.0) (statics_none ps os e.1)

none_statics : (ps : Pointers) (os : List StaticObject) → list_all (has_constants ps) os ≡ true
    → statics_fault ps os ≡ None
none_statics ps [] h = refl
none_statics ps (o ∷ os) h =
    let e = each_true _ _ h in
    both_none (parts_fault ps o.parts) (statics_fault ps os) (none_parts ps o.parts e.0) (none_statics ps os e.1)

pub are_constant_where_none : (p : Program) → first_not_constant p ≡ None → are_constant p ≡ true
unfolding first_not_constant
are_constant_where_none p h = statics_none (any_pointers p) p.statics h

pub none_where_constant : (p : Program) → are_constant p ≡ true → first_not_constant p ≡ None
unfolding first_not_constant
none_where_constant p h = none_statics (any_pointers p) p.statics h
