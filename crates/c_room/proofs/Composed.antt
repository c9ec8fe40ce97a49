-- The room of a call, of its parts.
use Rattle.std.proofs.Common.{◌≡◌, ℕ, suc, ◌+◌, ◌*◌, ◌<◌, ◌≤◌, sym, ap, ◌∙◌, List, [], ◌∷◌, length, map, drop, get_or}
use Rattle.std.proofs.Common.{◌++◌, refl, Option, arith}
use Rattle.std.specs.Prelude.{max}
use Rattle.std.proofs.lemmas.List.{append_assoc, drop_more}
use Rattle.std.proofs.lemmas.Option.{slice_get_read}
use Rattle.c_tree.specs.declared.expression.Kind.{Kind}
use Rattle.c_tree.specs.declared.program.Function as ru
use Rattle.c_tree.specs.declared.program.Variable.{Variable}
use Rattle.c_tree.specs.Programs.{Function, StaticObject}
use Rattle.c_tree.specs.Statements.{Statements}
use Rattle.c_tree.specs.Blocks.{each_contents}
use Rattle.c_tree.specs.Room.{content_bytes, greatest_height, room, static_contents, structure_bytes}
use Rattle.c_tree.specs.View.{function_of}
use Rattle.c_tree.specs.Walk.{sum_of}
use Rattle.c_room.specs.Numbers.{fitting, greater, plus, times}
use Rattle.c_room.specs.Rooms.{AreHeights, rooms}
use Rattle.c_room.proofs.Fitting.{greater_fits, plus_fits, times_fits}

pub sum_is : {r a b : Option ℕ} (m n : ℕ) → r ≡ plus a b → a ≡ fitting m → b ≡ fitting n → r ≡ fitting (m + n)
sum_is {r} {a} {b} m n is first second =
    is ∙ ap (λ z. plus z b) first ∙ ap (plus (fitting m)) second ∙ plus_fits m n

pub greater_is : {r a b : Option ℕ} (m n : ℕ) → r ≡ greater a b → a ≡ fitting m → b ≡ fitting n
    → r ≡ fitting (max m n)
greater_is {r} {a} {b} m n is first second =
    is ∙ ap (λ z. greater z b) first ∙ ap (greater (fitting m)) second ∙ greater_fits m n

pub product_is : {r a : Option ℕ} (k n : ℕ) → r ≡ times k a → a ≡ fitting n → n ≤ k * n → r ≡ fitting (k * n)
product_is {r} {a} k n is factor most = is ∙ ap (times k) factor ∙ times_fits k n most

abbrev pub room_by : List StaticObject → (number : ℕ) → Kind → (parameters variables : List Variable) → Statements → ℕ
room_by os n k ps vs b =
    96
    + 40 * ((length ps + length vs)
    + max (greatest_height (each_contents b)) (greatest_height (static_contents os n)))
    + 32 * (1 + length ps)
    + 5 * (structure_bytes k + sum_of (map content_bytes (each_contents b)))

pub room_is : (os : List StaticObject) (n : ℕ) (k : Kind) (f : Function) (ps vs : List Variable) (b : Statements)
    → f.parameters ≡ ps → f.variables ≡ vs → f.body ≡ b → room_by os n k ps vs b ≡ room os n k f
unfolding room
room_is os n k f ps vs b p q r =
    ap (λ z. room_by os n k z vs b) (sym p) ∙ ap (λ z. room_by os n k f.parameters z b) (sym q)
    ∙ ap (room_by os n k f.parameters f.variables) (sym r)

rooms_next : (os : List StaticObject) (fs : List ru.Function) (ks : List Kind) (i : ℕ) (f : ru.Function) (k : Kind)
    → i < length fs → f ≡ get_or fs i f → i < length ks
    → rooms os i (map function_of (drop i fs)) (drop i ks)
    ≡ fitting (room os i (get_or ks i k) (function_of f))
    ∷ rooms os (i + 1) (map function_of (drop (i + 1) fs)) (drop (i + 1) ks)
rooms_next os fs ks i f k low is low' =
    let first = drop_more fs i f low ∙ ap (λ z. z ∷ drop (i + 1) fs) (sym is) in
    let here = fitting (room os i (get_or ks i k) (function_of f)) in
    let further : suc i ≡ i + 1 = omega arith in
    ap (λ z. rooms os i (map function_of z) (drop i ks)) first
    ∙ ap (λ z. rooms os i (map function_of (f ∷ drop (i + 1) fs)) z) (drop_more ks i k low')
    ∙ ap (λ n. here ∷ rooms os n (map function_of (drop (i + 1) fs)) (drop (i + 1) ks)) further

-- one function more, where its kind is read with any other
pub rooms_more : (os : List StaticObject) (fs : List ru.Function) (ks : List Kind) (i : ℕ) (f : ru.Function) (k : Kind)
    (heights : List (Option ℕ)) (h r : Option ℕ) (done more all : List (Option ℕ)) → length ks ≡ length fs
    → i < length fs → f ≡ get_or fs i f → AreHeights os (length fs) heights → h ≡ get_or heights i h
    → ((os' : List StaticObject) (n : ℕ) → h ≡ fitting (greatest_height (static_contents os' n))
    → r ≡ fitting (room os' n (get_or ks i k) (function_of f)))
    → more ≡ done ++ r ∷ [] → done ++ rooms os i (map function_of (drop i fs)) (drop i ks) ≡ all
    → more ++ rooms os (i + 1) (map function_of (drop (i + 1) fs)) (drop (i + 1) ks) ≡ all
rooms_more os fs ks i f k heights h r done more all sizes low is table read law longer so_far =
    let inside : i < length heights = let size = table.size in omega (arith, low, size) in
    let at = slice_get_read heights (length heights) i h refl inside read in
    let low' : i < length ks = omega (arith, low, sizes) in
    let rest = rooms os (i + 1) (map function_of (drop (i + 1) fs)) (drop (i + 1) ks) in
    ap (λ z. z ++ rest) longer ∙ append_assoc done (r ∷ []) rest
    ∙ ap (λ z. done ++ (z ∷ rest)) (law os i (table.each i h at))
    ∙ ap (λ z. done ++ z) (sym (rooms_next os fs ks i f k low is low')) ∙ so_far
