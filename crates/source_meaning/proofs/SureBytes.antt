-- The routines of the library that look at bytes and set them keep objects sound.
use Rattle.source_meaning.specs.Keeping.{AreTagged}
use Rattle.source_meaning.specs.Good.{function_count, IsGiven, IsOfType, IsWord, Context, IsTagged, OnPointer, Sure}
use Rattle.std.proofs.Common.{◌≡◌, ℕ, zero, suc, ◌+◌, ◌-◌, ◌*◌, ◌≤◌, ◌<◌, ◌^◌, List, [], ◌∷◌, ◌++◌, Bool, true, false}
use Rattle.std.proofs.Common.{nat_lt, refl, ◌==◌, length, get_or, drop, replicate, if◌then◌else◌, sym, subst, arith}
use Rattle.std.proofs.Common.{length-append}
use Rattle.std.proofs.lemmas.List.{length-replicate}
use Rattle.sb_base.specs.declared.ending.Ending.TheVariants.{Spatial}
use Rattle.obj_memory.specs.declared.int_type.IntType.TheVariants.{Int, UnsignedChar, UnsignedLong}
use Rattle.obj_memory.specs.declared.value.Value.{Value}
use Rattle.obj_memory.specs.declared.value.Scalar.TheVariants.{Integer, Pointer}
use Rattle.obj_memory.specs.declared.value.Tag.{Tag}
use Rattle.obj_memory.specs.declared.value.Tag.TheVariants.{Untagged, OfFunction, OfObject}
use Rattle.obj_memory.specs.Sound.{IsSoundTag}
use Rattle.obj_memory.specs.Operators.{one_if}
use Rattle.obj_memory.proofs.Words.{fit_twice, fit_zero}
use Rattle.obj_memory.proofs.Typed.{truth_stays}
use Rattle.std.proofs.Math.Nat.{mod-eq_of_lt}
use Rattle.c_tree.specs.declared.expression.Kind.TheVariants.{Scalar as OfScalar}
use Rattle.obj_memory.specs.declared.value.Place.{Place}
use Rattle.obj_memory.specs.Integers.{fit}
use Rattle.obj_memory.specs.Objects.{Objects}
use Rattle.obj_memory.specs.Judgement.{moved}
use Rattle.obj_memory.specs.Access.{read_value, write_bytes, bytes_at}
use Rattle.obj_memory.specs.Sound.{IsPlace}
use Rattle.obj_memory.proofs.Listed.{every_append, every_replicate}
use Rattle.obj_memory.proofs.Soundness.{sound_bytes}
use Rattle.obj_memory.proofs.Keeping.{keeps_bytes}
use Rattle.obj_memory.proofs.Continuing.{continues_bytes}
use Rattle.obj_memory.proofs.Judging.{sound_offset}
use Rattle.c_tree.specs.declared.format.Directive.{Directive}
use Rattle.c_tree.specs.declared.format.Directive.TheVariants as directive
use Rattle.c_tree.specs.declared.format.Piece.{Piece}
use Rattle.c_tree.specs.declared.format.Piece.TheVariants as piece
use Rattle.c_tree.specs.Format.{pieces}
use Rattle.source_meaning.specs.State.{Run, ◌>>=◌, ◌>>◌, done, stop}
use Rattle.source_meaning.specs.Actions.{integer, is_zero, located}
use Rattle.source_meaning.specs.Bytes.{look, set_bytes, order}
use Rattle.source_meaning.specs.Memory.{memmove, memset, pairs_compared, order_of, memcmp}
use Rattle.source_meaning.specs.Strings.{reach, reach_by, scan_within, scan, strlen, go_on, compare_within}
use Rattle.source_meaning.specs.Strings.{write_string, strcpy, strncpy, strcat, seek_within}
use Rattle.source_meaning.specs.Printing.{puts, argument_bytes, formatted, pieces_or_none, print_formatted}
use Rattle.source_meaning.proofs.Holding.{lives_kept}
use Rattle.source_meaning.proofs.Sure.{IsStable, sure_on, sure_weak, sure_post, sure_frame, sure_done, sure_stop}
use Rattle.source_meaning.proofs.Sure.{sure_read, sure_tally, sure_choose, sure_objects}
use Rattle.source_meaning.proofs.SureActions.{moved_word, IsFound, sure_located, sure_move_bytes, sure_put_bytes}

-- a pointer reaches fewer bytes than words can count
reach_word : (functions : ℕ) (o : Objects) (p : Value) → IsTagged functions p o → reach p < 2 ^ 64
reach_word functions o p h = by p.tag h
  where
    by : (t : Tag) → IsSoundTag functions o t → reach_by t p.word < 2 ^ 64
    by Untagged h = omega arith
    by (OfFunction f) h = omega arith
    by (OfObject n b) h = omega (arith, h.bound_word)

long_is : (n : ℕ) → n < 2 ^ 64 → fit UnsignedLong n ≡ n
unfolding fit
long_is n h = mod-eq_of_lt h

-- bytes

abbrev pub AreBytes : List ℕ → Type 0
AreBytes bytes = (k : ℕ) → get_or bytes k 0 < 256

-- at most so many bytes
pub record AreAtMost (count : ℕ) (items : List ℕ) : Type 0 where
  pub bytes : AreBytes items
  pub few : length items ≤ count

no_bytes : (count : ℕ) → AreAtMost count []
no_bytes count = record { bytes = λ k. omega arith; few = omega arith }

bytes_more : (b : ℕ) (bs : List ℕ) → b < 256 → AreBytes bs → AreBytes (b ∷ bs)
bytes_more b bs h g zero = h
bytes_more b bs h g (suc k) = g k

at_most_more : (count b : ℕ) (bs : List ℕ) → b < 256 → AreAtMost count bs → AreAtMost (suc count) (b ∷ bs)
at_most_more count b bs h g = record { bytes = bytes_more b bs h g.bytes; few = omega (arith, g.few) }

fit_below : (x : ℕ) → fit UnsignedChar x < 256
unfolding fit
fit_below x = omega arith

read_below : (place : Place) (o : Objects) → (read_value (Integer UnsignedChar) place o).word < 256
unfolding read_value
read_below place o = fit_below _

-- -1 is an int
pub minus_one_is : fit Int (2 ^ 64 - 1) ≡ 2 ^ 64 - 1
unfolding fit
minus_one_is = refl

-- how bytes compare is an int
order_is : (x y : ℕ) → fit Int (order x y).word ≡ (order x y).word
order_is x y = by (nat_lt x y)
  where
    by : (b : Bool) → fit Int (if b then 2 ^ 64 - 1 else one_if (nat_lt y x))
        ≡ (if b then 2 ^ 64 - 1 else one_if (nat_lt y x))
    by true = minus_one_is
    by false = truth_stays Int (nat_lt y x)

order_of_is : (functions : ℕ) (xs ys : List ℕ) → IsOfType functions (Integer Int) (order_of xs ys)
order_of_is functions [] ys = (refl, fit_zero Int)
order_of_is functions (x ∷ xs) [] = (refl, fit_zero Int)
order_of_is functions (x ∷ xs) (y ∷ ys) = elim (x == y) as
    (λ b. IsOfType functions (Integer Int) (if b then order_of xs ys else order x y))
    [ true ↦ order_of_is functions xs ys | false ↦ (refl, order_is x y) ]

order_tagged : (functions : ℕ) (xs ys : List ℕ) (o : Objects) → IsTagged functions (order_of xs ys) o
order_tagged functions [] ys o = tt
order_tagged functions (x ∷ xs) [] o = tt
order_tagged functions (x ∷ xs) (y ∷ ys) o = elim (x == y) as
    (λ b. IsTagged functions (if b then order_of xs ys else order x y) o) [ true ↦ order_tagged _ xs ys o | false ↦ tt ]

padded_length : (size : ℕ) (bs : List ℕ) → length bs ≤ size → size ≡ length (bs ++ replicate (size - length bs) 0)
padded_length size bs h = omega
    (arith, h, length-append bs (replicate (size - length bs) 0), length-replicate {A = ℕ} (size - length bs) 0)

abbrev IsKnown : (functions : ℕ) (P : Objects → Type 0) → Value → Type 0
IsKnown functions P p = (o : Objects) → P o → IsTagged functions p o

-- and its word is one
abbrev IsKnownWord : (functions : ℕ) → (P : Objects → Type 0) → Value → Type 0
IsKnownWord functions P p = (o : Objects) → P o → IsWord functions p.word

known_moved : (functions : ℕ) (P : Objects → Type 0) (n : ℕ) (p : Value) → IsKnown functions P p
    → IsKnown functions P (moved n p)
known_moved functions P n p h = λ o x. sound_offset _ o n p (h o x)

module _ {sc : Context} {P : Objects → Type 0} where
  sure_judged : (size : ℕ) (p : Value) (line : ℕ) → IsKnown (function_count sc) P p
      → Sure sc P (located true size p line) (λ place o. P o × IsFound p size place o)
  sure_judged size p line h = sure_weak (λ o x. (x, (h o x, tt))) (sure_located {P = P} OnPointer size p line)

  sure_look : (p : Value) (line : ℕ) → IsKnown (function_count sc) P p
      → Sure sc P (look p line) (λ b o. (b < 256) × P o)
  sure_look p line h =
      sure_on (sure_judged 1 p line h) (λ place.
      sure_on (sure_tally 1) (λ _.
      sure_on (sure_read {Q = λ v o. (v.word < 256) × P o} {f = λ s. read_value (Integer UnsignedChar) place s.objects}
      (λ s good x. (read_below place s.objects, x.0))) (λ v. sure_done (λ o x. x))))

  sure_set_bytes : IsStable P → (bytes : List ℕ) (place : Place) → AreBytes bytes
      → Sure sc (λ o. IsPlace o place (length bytes) × P o) (set_bytes bytes place) (λ _. P)
  sure_set_bytes st bytes place h =
      sure_on (sure_tally (length bytes)) (λ _.
      sure_objects (write_bytes bytes place) (keeps_bytes bytes place) (continues_bytes bytes place)
      (λ o x sound. sound_bytes bytes place o sound x.0 h)
      (λ o x. st o (write_bytes bytes place o)
      (lives_kept o (write_bytes bytes place o) (continues_bytes bytes place o) (keeps_bytes bytes place o)) x.1))

  -- ranges
  pub sure_memmove : IsStable P → (d q size : Value) (line : ℕ) → IsKnown (function_count sc) P d
      → IsKnownWord (function_count sc) P d → IsKnown (function_count sc) P q
      → Sure sc P (memmove d q size line) (IsGiven (function_count sc) (OfScalar Pointer))
  sure_memmove st d q size line hd wd hq =
      sure_choose (is_zero size) (sure_done {a = d} (λ o x. (hd o x, wd o x)))
      (sure_on (sure_judged size.word d line hd) (λ destination.
      sure_on (sure_weak (λ o x. (x, (hq o x.0, tt)))
      (sure_located {P = λ o. P o × IsFound d size.word destination o} OnPointer size.word q line)) (λ source.
      sure_on (sure_weak (λ o x. (x.0.0, (x.0.1, x.1)))
      (sure_frame st (sure_move_bytes size.word destination source d q))) (λ _.
      sure_done {a = d} (λ o x. (hd o x.0, wd o x.0))))))

  -- bytes set where as many were judged, and the pointer given
  sure_set_judged : IsStable P → (size : ℕ) (d : Value) (items : List ℕ) (line : ℕ) → IsKnown (function_count sc) P d
      → IsKnownWord (function_count sc) P d → AreBytes items → (size ≡ length items)
      → Sure sc P (do place ← located true size d line; set_bytes items place; done d)
      (IsGiven (function_count sc) (OfScalar Pointer))
  sure_set_judged st size d items line h w all long =
      sure_on (sure_judged size d line h) (λ place.
      sure_on (sure_weak (λ o x. (subst (IsPlace o place) long x.1.0.place, x.0)) (sure_set_bytes st items place all))
      (λ _. sure_done {a = d} (λ o x. (h o x, w o x))))

  pub sure_memset : IsStable P → (d byte size : Value) (line : ℕ) → IsKnown (function_count sc) P d
      → IsKnownWord (function_count sc) P d
      → Sure sc P (memset d byte size line) (IsGiven (function_count sc) (OfScalar Pointer))
  sure_memset st d byte size line h w =
      sure_choose (is_zero size) (sure_done {a = d} (λ o x. (h o x, w o x)))
      (sure_set_judged st size.word d (replicate size.word (fit UnsignedChar byte.word)) line h w
      (every_replicate (λ b. b < 256) 0 size.word (fit UnsignedChar byte.word) (omega arith) (fit_below byte.word))
      (sym (length-replicate size.word (fit UnsignedChar byte.word))))

  pub sure_memcmp : (a b size : Value) (line : ℕ) → IsKnown (function_count sc) P a → IsKnown (function_count sc) P b
      → Sure sc P (memcmp a b size line) (IsGiven (function_count sc) (OfScalar (Integer Int)))
  sure_memcmp a b size line ha hb =
      sure_choose (is_zero size) (sure_done {a = integer 0} (λ o x. (tt, (refl, fit_zero Int))))
      (sure_on (sure_judged size.word a line ha) (λ left.
      sure_on (sure_weak (λ o x. (x.0, (hb o x.0, tt))) (sure_located {P = P} OnPointer size.word b line)) (λ right.
      sure_on (sure_read {Q = λ _. P} {f = λ s. bytes_at size.word left s.objects} (λ s good x. x.0)) (λ xs.
      sure_on (sure_read {Q = λ _. P} {f = λ s. bytes_at size.word right s.objects} (λ s good x. x)) (λ ys.
      sure_on (sure_tally (2 * pairs_compared xs ys)) (λ _.
      sure_done {a = order_of xs ys}
      (λ o x. (order_tagged (function_count sc) xs ys o, order_of_is (function_count sc) xs ys))))))))

  -- strings
  sure_scan_within : (count : ℕ) (behind : Run (List ℕ)) → Sure sc P behind (λ bs o. AreAtMost 0 bs × P o)
      → (p : Value) (line : ℕ) → IsKnown (function_count sc) P p
      → Sure sc P (scan_within count behind p line) (λ bs o. AreAtMost count bs × P o)
  sure_scan_within zero behind w p line h = w
  sure_scan_within (suc k) behind w p line h =
      sure_on (sure_look p line h) (λ byte.
      sure_choose (byte == 0) (sure_done {a = []} (λ o x. (no_bytes (suc k), x.1)))
      (sure_on (sure_frame {P0 = λ o. byte < 256} (λ old new l x. x)
      (sure_scan_within k behind w (moved 1 p) line (known_moved _ P 1 p h))) (λ others.
      sure_done {a = byte ∷ others} (λ o x. (at_most_more k byte others x.0 x.1.0, x.1.1)))))

  sure_scan : (p : Value) (line : ℕ) → IsKnown (function_count sc) P p
      → Sure sc P (scan p line) (λ bs o. AreAtMost (reach p) bs × P o)
  sure_scan p line h = sure_post (λ bs o x. x) (sure_scan_within (reach p) (stop (Spatial line)) sure_stop p line h)

  pub sure_strlen : (p : Value) (line : ℕ) → IsKnown (function_count sc) P p
      → Sure sc P (strlen p line) (IsGiven (function_count sc) (OfScalar (Integer UnsignedLong)))
  sure_strlen p line h = sure_on (sure_scan p line h)
      (λ bs. sure_done {a = integer (length bs)}
      (λ o x. (
        tt,
        (
          refl,
          long_is (length bs)
              (let most = reach_word _ o p (h o x.1) in let few = x.0.few in omega (arith, most, few)),
        ),
      )))

  pub sure_compare_within : (count : ℕ) (a b : Value) (line : ℕ) → IsKnown (function_count sc) P a
      → IsKnown (function_count sc) P b
      → Sure sc P (compare_within count a b line) (IsGiven (function_count sc) (OfScalar (Integer Int)))
  sure_compare_within zero a b line ha hb = sure_stop
  sure_compare_within (suc k) a b line ha hb =
      sure_on (sure_look a line ha) (λ x.
      sure_on (sure_weak (λ o z. z.1) (sure_look b line hb)) (λ y.
      sure_choose (go_on x y)
      (sure_weak (λ o z. z.1)
      (sure_compare_within k (moved 1 a) (moved 1 b) line (known_moved _ P 1 a ha) (known_moved _ P 1 b hb)))
      (sure_done {a = order x y} (λ o z. (tt, (refl, order_is x y))))))

  sure_write_string : IsStable P → (d : Value) (bs : List ℕ) (line : ℕ) → IsKnown (function_count sc) P d
      → Sure sc (λ o. AreBytes bs × P o) (write_string d bs line) (λ _. P)
  sure_write_string st d bs line h = record { by = λ s good x. (written x.0).by s good x.1 }
    where
      written : AreBytes bs → Sure sc P (write_string d bs line) (λ _. P)
      written all =
          sure_on (sure_judged (length bs + 1) d line h) (λ place.
          sure_weak (λ o x. (subst (IsPlace o place) (sym (length-append bs (0 ∷ []))) x.1.0.place, x.0))
          (sure_set_bytes st (bs ++ (0 ∷ [])) place
          (every_append (λ b. b < 256) 0 bs (0 ∷ []) all (bytes_more 0 [] (omega arith) (λ k. omega arith)))))

  pub sure_strcpy : IsStable P → (d q : Value) (line : ℕ) → IsKnown (function_count sc) P d
      → IsKnownWord (function_count sc) P d → IsKnown (function_count sc) P q
      → Sure sc P (strcpy d q line) (IsGiven (function_count sc) (OfScalar Pointer))
  sure_strcpy st d q line hd wd hq = sure_on (sure_scan q line hq)
      (λ bs. sure_on (sure_weak (λ o x. (x.0.bytes, x.1)) (sure_write_string st d bs line hd))
      (λ _. sure_done {a = d} (λ o x. (hd o x, wd o x))))

  pub sure_strcat : IsStable P → (d q : Value) (line : ℕ) → IsKnown (function_count sc) P d
      → IsKnownWord (function_count sc) P d → IsKnown (function_count sc) P q
      → Sure sc P (strcat d q line) (IsGiven (function_count sc) (OfScalar Pointer))
  sure_strcat st d q line hd wd hq =
      sure_on (sure_scan d line hd) (λ before.
      sure_on (sure_weak (λ o x. x.1) (sure_scan q line hq)) (λ bs.
      sure_on (sure_weak (λ o x. (x.0.bytes, x.1))
      (sure_write_string st (moved (length before) d) bs line (known_moved _ P (length before) d hd)))
      (λ _. sure_done {a = d} (λ o x. (hd o x, wd o x)))))

  pub sure_strncpy : IsStable P → (d q size : Value) (line : ℕ) → IsKnown (function_count sc) P d
      → IsKnownWord (function_count sc) P d → IsKnown (function_count sc) P q
      → Sure sc P (strncpy d q size line) (IsGiven (function_count sc) (OfScalar Pointer))
  sure_strncpy st d q size line hd wd hq =
      sure_choose (is_zero size) (sure_done {a = d} (λ o x. (hd o x, wd o x)))
      (sure_on (sure_scan_within size.word (done []) (sure_done {a = []} (λ o x. (no_bytes 0, x))) q line hq)
      (λ bs. record { by = λ s good x. (written bs x.0).by s good x.1 }))
    where
      padded : List ℕ → List ℕ
      padded bs = bs ++ replicate (size.word - length bs) 0

      written : (bs : List ℕ) → AreAtMost size.word bs
          → Sure sc P (do place ← located true size.word d line; set_bytes (padded bs) place; done d)
          (IsGiven (function_count sc) (OfScalar Pointer))
      written bs few =
          sure_set_judged st size.word d (padded bs) line hd wd
          (every_append (λ b. b < 256) 0 bs (replicate (size.word - length bs) 0) few.bytes
          (every_replicate (λ b. b < 256) 0 (size.word - length bs) 0 (omega arith) (omega arith)))
          (padded_length size.word bs few.few)

  pub sure_seek_within : (count c : ℕ) (p : Value) (line : ℕ) → IsKnown (function_count sc) P p
      → IsKnownWord (function_count sc) P p
      → Sure sc P (seek_within count c p line) (IsGiven (function_count sc) (OfScalar Pointer))
  sure_seek_within zero c p line h w = sure_stop
  sure_seek_within (suc k) c p line h w =
      sure_on (sure_look p line h) (λ byte.
      sure_choose (byte == c) (sure_done {a = p} (λ o x. (h o x.1, w o x.1)))
      (sure_choose (byte == 0) (sure_done {a = integer 0} (λ o x. (tt, λ _. omega arith)))
      (sure_weak (λ o x. x.1)
      (sure_seek_within k c (moved 1 p) line (known_moved _ P 1 p h) (λ o x. moved_word _ 1 p)))))

  -- output
  pub sure_puts : (p : Value) (line : ℕ) → IsKnown (function_count sc) P p
      → Sure sc P (puts p line) (IsGiven (function_count sc) (OfScalar (Integer Int)))
  sure_puts p line h = sure_on (sure_scan p line h)
      (λ bs. sure_on (sure_put_bytes (bs ++ (10 ∷ [])))
      (λ _. sure_done {a = integer 0} (λ o x. (tt, (refl, fit_zero Int)))))

  sure_argument_bytes : (d : Directive) (v : Value) (line : ℕ) → IsKnown (function_count sc) P v
      → Sure sc P (argument_bytes d v line) (λ _. P)
  sure_argument_bytes directive.Int v line h = sure_done (λ o x. x)
  sure_argument_bytes directive.UnsignedInt v line h = sure_done (λ o x. x)
  sure_argument_bytes directive.Hexadecimal v line h = sure_done (λ o x. x)
  sure_argument_bytes directive.Character v line h = sure_done (λ o x. x)
  sure_argument_bytes directive.Long v line h = sure_done (λ o x. x)
  sure_argument_bytes directive.UnsignedLong v line h = sure_done (λ o x. x)
  sure_argument_bytes directive.String v line h = sure_post (λ bs o x. x.1) (sure_scan v line h)

  sure_formatted : (ps : List Piece) (vs : List Value) (line : ℕ)
      → ((o : Objects) → P o → AreTagged (function_count sc) vs o) → Sure sc P (formatted ps vs line) (λ _. P)
  sure_formatted [] vs line h = sure_done (λ o x. x)
  sure_formatted (piece.Byte b ∷ ps) vs line h = sure_on (sure_formatted ps vs line h)
      (λ others. sure_done {a = b ∷ others} (λ o x. x))
  sure_formatted (piece.Directive d ∷ ps) vs line h =
      sure_on (sure_argument_bytes d (get_or vs 0 (integer 0)) line (λ o x. h o x 0)) (λ bs.
      sure_on (sure_formatted ps (drop 1 vs) line (λ o x k. rest_tagged vs o (h o x) k))
      (λ others. sure_done {a = bs ++ others} (λ o x. x)))
    where
      rest_tagged : (vs : List Value) (o : Objects) → AreTagged (function_count sc) vs o
          → AreTagged (function_count sc) (drop 1 vs) o
      rest_tagged [] o x k = x k
      rest_tagged (v ∷ vs) o x k = x (suc k)

pub sure_print : {sc : Context} (format : List ℕ) (vs : List Value) (line : ℕ)
    → Sure sc (AreTagged (function_count sc) vs) (print_formatted format vs line)
    (IsGiven (function_count sc) (OfScalar (Integer Int)))
sure_print format vs line =
    sure_on (sure_formatted (pieces_or_none (pieces format)) vs line (λ o x. x))
    (λ bs. sure_on (sure_put_bytes bs)
    (λ _. sure_done {a = integer (fit Int (length bs))} (λ o x. (tt, (refl, fit_twice Int (length bs))))))
