-- Static objects in turn.
use Rattle.std.proofs.Common.{◌≡◌, ℕ, zero, suc, ◌+◌, ◌-◌, ◌≤◌, ◌<◌, ◌^◌, List, [], ◌∷◌, ◌++◌, length, map, drop}
use Rattle.std.proofs.Common.{true}
use Rattle.std.proofs.Common.{refl, sym, ap, ◌∙◌, subst, arith, append_assoc}
use Rattle.std.specs.Prelude.{get_or, nat_le}
use Rattle.std.specs.List.{list_all}
use Rattle.std.proofs.lemmas.Bool.{and_parts, and_from}
use Rattle.std.proofs.lemmas.List.{append-nil, drop_all, drop_more}
use Rattle.std.proofs.lemmas.Option.{get_or_from_slice_get, slice_get-get_or}
use Rattle.obj_memory.specs.declared.value.Value.{Value}
use Rattle.obj_memory.specs.declared.value.Tag.TheVariants.{OfFunction}
use Rattle.obj_memory.specs.Heap.{rounded_up}
use Rattle.addr_map.specs.Places.{objects_begin, function_address}
use Rattle.c_tree.specs.declared.program.StaticObject.{StaticObject as CodeObject}
use Rattle.c_tree.specs.Kinds.{size_of_kind, has_size}
use Rattle.c_tree.specs.Programs.{StaticObject, Program}
use Rattle.c_tree.specs.Statements.{Part}
use Rattle.c_tree.specs.Valid.{Scope}
use Rattle.c_tree.specs.ValidProgram.{is_valid_program, is_static_object, is_part, is_content, are_parts, static_scope}
use Rattle.c_tree.specs.ValidProgram.{content_size, are_functions}
use Rattle.c_tree.specs.View.{static_of}
use Rattle.c_const.specs.Addresses.{Pointers}
use Rattle.c_const.specs.Contents.{is_laid_out, is_inside, are_inside}
use Rattle.source_meaning.specs.Constants.Leaving.{AreBytes}
use Rattle.source_meaning.proofs.Constants.Statics.{ends}
use Rattle.source_meaning.specs.Expressions.{function_pointer}
use Rattle.source_meaning.specs.Meaning.{statics_end}
use Rattle.tac_ir.specs.declared.function.StaticData.{StaticData}
use Rattle.static_data.specs.Data.{static_pointers, function_pointers, pointer_at, IsData, AreData}

-- what is found within a list is found whatever stands behind it
again : (xs : List CodeObject) (i : ℕ) (x : CodeObject) → i < length xs → get_or xs i x ≡ get_or xs i (get_or xs i x)
again xs i x lt = sym (get_or_from_slice_get xs i (get_or xs i x) (get_or xs i x) (slice_get-get_or xs i x lt))

-- the objects from a number on

from_here : (xs : List CodeObject) (i : ℕ) (x : CodeObject) → i < length xs → x ≡ get_or xs i x
    → map static_of (drop i xs) ≡ static_of x ∷ map static_of (drop (i + 1) xs)
from_here xs i x lt e = ap (map static_of) (drop_more xs i x lt ∙ ap (λ z. z ∷ drop (i + 1) xs) (sym e))

pub pointers_step : (xs : List CodeObject) (i offset : ℕ) (x : CodeObject) → i < length xs → x ≡ get_or xs i x
    → (done : List Value) → done ++ static_pointers (map static_of (drop i xs)) i offset
    ≡ (done ++ (pointer_at i (objects_begin + rounded_up 16 offset) (size_of_kind x.kind) ∷ []))
    ++ static_pointers (map static_of (drop (i + 1) xs)) (i + 1) (rounded_up 16 offset + size_of_kind x.kind)
pointers_step xs i offset x lt e done =
    let next : suc i ≡ i + 1 = omega arith in
    let rest = λ (n : ℕ). static_pointers (map static_of (drop (i + 1) xs)) n
    (rounded_up 16 offset + size_of_kind x.kind) in
    let p = pointer_at i (objects_begin + rounded_up 16 offset) (size_of_kind x.kind) in
    ap (λ os. done ++ static_pointers os i offset) (from_here xs i x lt e) ∙ ap (λ n. done ++ (p ∷ rest n)) next
    ∙ sym (append_assoc done (p ∷ []) (rest (i + 1)))

pub end_step : (xs : List CodeObject) (i offset : ℕ) (x : CodeObject) → i < length xs → x ≡ get_or xs i x
    → statics_end (map static_of (drop i xs)) offset
    ≡ statics_end (map static_of (drop (i + 1) xs)) (rounded_up 16 offset + size_of_kind x.kind)
end_step xs i offset x lt e = ap (λ os. statics_end os offset) (from_here xs i x lt e)

-- the next offset stays below the end
pub end_below : (xs : List CodeObject) (i offset end : ℕ) (x : CodeObject) → i < length xs → x ≡ get_or xs i x
    → statics_end (map static_of (drop i xs)) offset ≡ end → rounded_up 16 offset + size_of_kind x.kind ≤ end
end_below xs i offset end x lt e h =
    omega (
      arith,
      h,
      end_step xs i offset x lt e,
      ends (map static_of (drop (i + 1) xs)) (rounded_up 16 offset + size_of_kind x.kind),
    )

pub functions_step : (i count : ℕ) → i < count → (done : List Value) → done ++ function_pointers i (count - i)
    ≡ (done ++ (function_pointer i ∷ [])) ++ function_pointers (i + 1) (count - (i + 1))
functions_step i count lt done =
    let more : count - i ≡ suc (count - (i + 1)) = omega (arith, lt) in
    let next : suc i ≡ i + 1 = omega arith in
    ap (λ n. done ++ function_pointers i n) more
    ∙ ap (λ n. done ++ (function_pointer i ∷ function_pointers n (count - (i + 1)))) next
    ∙ sym (append_assoc done (function_pointer i ∷ []) (function_pointers (i + 1) (count - (i + 1))))

-- the loops' steps

pub next_below : (xs : List CodeObject) (i offset end : ℕ) (x : CodeObject) → i < length xs
    → statics_end (map static_of (drop i xs)) offset ≡ end → end ≤ 0x400000
    → rounded_up 16 offset + size_of_kind (get_or xs i x).kind ≤ 0x400000
next_below xs i offset end x lt h small =
    omega (arith, small, end_below xs i offset end (get_or xs i x) lt (again xs i x lt) h)

pub next_end : (xs : List CodeObject) (i offset start size end : ℕ) (x : CodeObject) → i < length xs
    → start ≡ rounded_up 16 offset → size ≡ size_of_kind (get_or xs i x).kind
    → statics_end (map static_of (drop i xs)) offset ≡ end
    → statics_end (map static_of (drop (i + 1) xs)) (start + size) ≡ end
next_end xs i offset start size end x lt es ez h =
    let behind = map static_of (drop (i + 1) xs) in
    ap (λ n. statics_end behind (n + size)) es ∙ ap (λ n. statics_end behind (rounded_up 16 offset + n)) ez
    ∙ sym (end_step xs i offset (get_or xs i x) lt (again xs i x lt)) ∙ h

pub next_pointers : (xs : List CodeObject) (i offset start size : ℕ) (x : CodeObject) (done more all : List Value)
    → i < length xs → start ≡ rounded_up 16 offset → size ≡ size_of_kind (get_or xs i x).kind
    → more ≡ done ++ pointer_at i (objects_begin + start) size ∷ []
    → done ++ static_pointers (map static_of (drop i xs)) i offset ≡ all
    → more ++ static_pointers (map static_of (drop (i + 1) xs)) (i + 1) (start + size) ≡ all
next_pointers xs i offset start size x done more all lt es ez em h =
    let behind = map static_of (drop (i + 1) xs) in
    let made = λ (n : ℕ) (m : ℕ).
    (done ++ pointer_at i (objects_begin + n) m ∷ []) ++ static_pointers behind (i + 1) (n + m) in
    ap (λ ps. ps ++ static_pointers behind (i + 1) (start + size)) em ∙ ap (λ n. made n size) es
    ∙ ap (made (rounded_up 16 offset)) ez
    ∙ sym (pointers_step xs i offset (get_or xs i x) lt (again xs i x lt) done) ∙ h

pub next_functions : (i count word : ℕ) (done more all : List Value) → i < count → word ≡ function_address i
    → more ≡ done ++ record { word = word; tag = OfFunction i } ∷ []
    → done ++ function_pointers i (count - i) ≡ all → more ++ function_pointers (i + 1) (count - (i + 1)) ≡ all
next_functions i count word done more all lt ew em h =
    let behind = function_pointers (i + 1) (count - (i + 1)) in
    ap (λ ps. ps ++ behind) em
    ∙ ap (λ w. (done ++ record { word = w; tag = OfFunction i } ∷ []) ++ behind) ew
    ∙ sym (functions_step i count lt done) ∙ h

-- data that continue to the data of all

pub record Continue (ps : Pointers) (xs : List CodeObject) (i : ℕ) (done : List StaticData) : Type 0 where
  pub by : (rest : List StaticData) → AreData ps (map static_of (drop i xs)) rest
      → AreData ps (map static_of xs) (done ++ rest)

pub continue_none : (ps : Pointers) (xs : List CodeObject) → Continue ps xs 0 []
continue_none ps xs = record { by = λ rest h. h }

pub continue_more : {ps : Pointers} {d : StaticData} {done more : List StaticData} (xs : List CodeObject) (i : ℕ)
    (x : CodeObject) → i < length xs → x ≡ get_or xs i x → Continue ps xs i done → IsData ps (static_of x) d
    → more ≡ done ++ d ∷ [] → Continue ps xs (i + 1) more
continue_more {ps = ps} {d = d} {done = done} xs i x lt e c h same = record {
  by = λ rest k.
      let before = c.by (d ∷ rest) (subst (λ os. AreData ps os (d ∷ rest)) (sym (from_here xs i x lt e)) (h, k)) in
      subst (AreData ps (map static_of xs)) (sym (ap (λ ds. ds ++ rest) same ∙ append_assoc done (d ∷ []) rest)) before;
}

pub continue_all : {ps : Pointers} {done : List StaticData} (xs : List CodeObject) (i : ℕ) → i ≡ length xs
    → Continue ps xs i done → AreData ps (map static_of xs) done
continue_all {ps = ps} {done = done} xs i e c =
    let none : drop i xs ≡ [] = drop_all i xs (omega (arith, e)) in
    subst (AreData ps (map static_of xs)) (append-nil done)
    (c.by [] (subst (λ os. AreData ps (map static_of os) []) (sym none) tt))

-- laid out, as in a valid program

pub laid_at : (xs : List CodeObject) (i : ℕ) (x : CodeObject) → i < length xs → x ≡ get_or xs i x
    → list_all is_laid_out (map static_of xs) ≡ true → is_laid_out (static_of x) ≡ true
laid_at [] i x lt e h = absurd (omega (arith, lt))
laid_at (y ∷ xs) zero x lt e h =
    ap (λ z. is_laid_out (static_of z)) e
    ∙ (and_parts (is_laid_out (static_of y)) (list_all is_laid_out (map static_of xs)) h).0
laid_at (y ∷ xs) (suc i) x lt e h =
    laid_at xs i x (omega (arith, lt)) e
    (and_parts (is_laid_out (static_of y)) (list_all is_laid_out (map static_of xs)) h).1

parts_inside : (scope : Scope) (size : ℕ) (qs : List Part) → are_parts scope size qs ≡ true
    → list_all (is_inside size) qs ≡ true
parts_inside scope size [] h = refl
parts_inside scope size (q ∷ qs) h =
    let k = and_parts (is_part scope size q) (are_parts scope size qs) h in
    let i = and_parts (is_content scope q.content) (nat_le (q.offset + content_size q.content) size) k.0 in
    and_from (is_inside size q) (list_all (is_inside size) qs) i.1 (parts_inside scope size qs k.1)

object_laid : (p : Program) (o : StaticObject) → is_static_object p o ≡ true → is_laid_out o ≡ true
object_laid p o h =
    let k = and_parts _ (are_parts (static_scope p o) (size_of_kind o.kind) o.parts) h in
    let s = and_parts (has_size o.kind) _ k.0 in
    let n = and_parts (nat_le 1 (size_of_kind o.kind)) (nat_le (size_of_kind o.kind) (2 ^ 32)) s.0 in
    and_from (nat_le (size_of_kind o.kind) (2 ^ 32)) (are_inside o) n.1
    (parts_inside (static_scope p o) (size_of_kind o.kind) o.parts k.1)

objects_laid : (p : Program) (os : List StaticObject) → list_all (is_static_object p) os ≡ true
    → list_all is_laid_out os ≡ true
objects_laid p [] h = refl
objects_laid p (o ∷ os) h =
    let k = and_parts (is_static_object p o) (list_all (is_static_object p) os) h in
    and_from (is_laid_out o) (list_all is_laid_out os) (object_laid p o k.0) (objects_laid p os k.1)

pub all_laid : (p : Program) → is_valid_program p ≡ true → list_all is_laid_out p.statics ≡ true
unfolding is_valid_program
all_laid p h =
    let k = and_parts _ _ h in
    let f = and_parts _ (are_functions p 0 p.functions) k.0 in
    objects_laid p p.statics (and_parts _ (list_all (is_static_object p) p.statics) f.0).1

-- bytes, each by its place
pub are_bytes : (bs : List ℕ) → ((k : ℕ) → get_or bs k 0 < 256) → AreBytes bs
are_bytes [] h = tt
are_bytes (b ∷ bs) h = (h 0, are_bytes bs (λ k. h (suc k)))
