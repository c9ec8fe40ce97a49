-- Words of a list: one item further, and where each item's words stand.
use Rattle.std.proofs.Common.{◌≡◌, ℕ, zero, suc, ◌+◌, ◌<◌, List, [], ◌∷◌, ◌++◌, map, length, drop, Some, refl, ap, ◌∙◌}
use Rattle.std.proofs.Common.{arith, subst, append_assoc, length-append}
use Rattle.std.specs.Prelude.{slice_get}
use Rattle.std.proofs.Math.ListN.{get_or}
use Rattle.std.proofs.lemmas.Option.{slice_get_read}
use Rattle.rv_isa.specs.declared.instruction.Instr.{Instr as Instruction}
use Rattle.rv_isa.specs.Table.{word_of}
use Rattle.rv_asm.specs.declared.form.Form.{Form}
use Rattle.rv_asm.specs.declared.form.Form.TheVariants.{Short, Near, Far}
use Rattle.rv_asm.specs.declared.item.Item.{Item}
use Rattle.rv_asm.specs.declared.item.Item.TheVariants.{Label, Instr, Jump, Call, Branch}
use Rattle.rv_asm.specs.Forms.{size_of, size, start, target_place}
use Rattle.rv_asm.specs.Words.{instrs_of, words_from, HasWords}

-- what is left from item k on begins with its words
pub words_step : (places : ℕ → ℕ) (fs : List Form) (is : List Item) (k n p : ℕ) (i : Item) (d : Form)
    → length fs ≡ length is → k < length is → i ≡ get_or is k i → n ≡ suc k
    → words_from places p (drop k fs) (drop k is)
    ≡ map word_of (instrs_of (get_or fs k d) p (target_place places i) i)
    ++ words_from places (p + size_of (get_or fs k d) i) (drop n fs) (drop n is)
words_step places fs is k n p i d many inside read e = rw e
    (by fs is k many (slice_get_read is (length is) k i refl inside read))
  where
    by : (fs : List Form) (is : List Item) (k : ℕ) → length fs ≡ length is → slice_get is k ≡ Some i
        → words_from places p (drop k fs) (drop k is)
        ≡ map word_of (instrs_of (get_or fs k d) p (target_place places i) i)
        ++ words_from places (p + size_of (get_or fs k d) i) (drop (suc k) fs) (drop (suc k) is)
    by [] [] k many h = cc
    by [] (j ∷ is) k many h = absurd (omega (arith, many))
    by (f ∷ fs) [] k many h = absurd (omega (arith, many))
    by (f ∷ fs) (j ∷ is) zero many h = let e : j ≡ i = cc in rw e refl
    by (f ∷ fs) (j ∷ is) (suc k) many h = by fs is k (omega (arith, many)) h

-- an item has as many words as its size says
pub words_size : (f : Form) (p t : ℕ) (i : Item) → length (map word_of (instrs_of f p t i)) ≡ size_of f i
words_size Short p t (Label _) = refl
words_size Near p t (Label _) = refl
words_size Far p t (Label _) = refl
words_size Short p t (Instr _) = refl
words_size Near p t (Instr _) = refl
words_size Far p t (Instr _) = refl
words_size Short p t (Jump _) = refl
words_size Near p t (Jump _) = refl
words_size Far p t (Jump _) = refl
words_size Short p t (Call _) = refl
words_size Near p t (Call _) = refl
words_size Far p t (Call _) = refl
words_size Short p t (Branch _ _ _ _) = refl
words_size Near p t (Branch _ _ _ _) = refl
words_size Far p t (Branch _ _ _ _) = refl

pub words_length : (places : ℕ → ℕ) (p : ℕ) (fs : List Form) (is : List Item)
    → length (words_from places p fs is) ≡ size fs is
words_length places p [] is = refl
words_length places p (f ∷ fs) [] = refl
words_length places p (f ∷ fs) (i ∷ is) =
    length-append (map word_of (instrs_of f p (target_place places i) i)) (words_from places (p + size_of f i) fs is)
    ∙ rw (words_size f p (target_place places i) i, words_length places (p + size_of f i) fs is) refl

get_past : (before : List ℕ) (w : ℕ) (behind : List ℕ) → slice_get (before ++ w ∷ behind) (length before) ≡ Some w
get_past [] w behind = refl
get_past (x ∷ before) w behind = get_past before w behind

-- the words of instructions stand behind what comes before them
has_words : (before : List ℕ) (is : List Instruction) (behind : List ℕ)
    → HasWords (before ++ (map word_of is ++ behind)) (length before) is
has_words before [] behind = tt
has_words before (i ∷ is) behind =
    let rest = has_words (before ++ word_of i ∷ []) is behind in
    let e : length (before ++ word_of i ∷ []) ≡ length before
    + 1 = omega (arith, length-append before (word_of i ∷ [])) in
    let here : HasWords (before ++ (word_of i ∷ (map word_of is ++ behind))) (length (before ++ word_of i ∷ [])) is
    = subst (λ l. HasWords l (length (before ++ word_of i ∷ [])) is)
    (append_assoc before (word_of i ∷ []) (map word_of is ++ behind)) rest in (
      get_past before (word_of i) (map word_of is ++ behind),
      subst
          (λ n. HasWords (before ++ (word_of i ∷ (map word_of is ++ behind))) n is) e here,
    )

-- item k's words stand at its place
pub stands : (places : ℕ → ℕ) (before : List ℕ) (fs : List Form) (is : List Item) (k : ℕ) (i : Item) (d : Form)
    → length fs ≡ length is → slice_get is k ≡ Some i
    → HasWords (before ++ words_from places (length before) fs is) (length before + start fs is k)
    (instrs_of (get_or fs k d) (length before + start fs is k) (target_place places i) i)
stands places before [] [] k i d many h = cc
stands places before [] (j ∷ is) k i d many h = absurd (omega (arith, many))
stands places before (f ∷ fs) [] k i d many h = absurd (omega (arith, many))
stands places before (f ∷ fs) (j ∷ is) zero i d many h =
    let e : j ≡ i = cc in
    let z : length before ≡ length before + 0 = omega arith in
    let rest = words_from places (length before + size_of f j) fs is in
    let all = before ++ words_from places (length before) (f ∷ fs) (j ∷ is) in
    subst (λ p. HasWords all p (instrs_of f p (target_place places i) i)) z
    (subst (λ x. HasWords all (length before) (instrs_of f (length before) (target_place places x) x)) e
    (has_words before (instrs_of f (length before) (target_place places j) j) rest))
stands places before (f ∷ fs) (j ∷ is) (suc k) i d many h =
    let block = map word_of (instrs_of f (length before) (target_place places j) j) in
    let more : length (before ++ block) ≡ length before + size_of f j = length-append before block
    ∙ ap (λ n. length before + n) (words_size f (length before) (target_place places j) j) in
    let rest = stands places (before ++ block) fs is k i d (omega (arith, many)) h in
    let Has : ℕ → ℕ → Type 0 = λ q p. HasWords ((before ++ block) ++ words_from places q fs is) p
    (instrs_of (get_or fs k d) p (target_place places i) i) in
    let q = length before + size_of f j in
    let moved : Has q (q + start fs is k) = subst (λ q. Has q (q + start fs is k)) more rest in
    let same : q + start fs is k ≡ length before + (size_of f j + start fs is k) = omega arith in
    let placed : Has q (length before + (size_of f j + start fs is k)) = subst (λ p. Has q p) same moved in
    subst (λ l. HasWords l (length before + (size_of f j + start fs is k))
    (instrs_of (get_or fs k d) (length before + (size_of f j + start fs is k)) (target_place places i) i))
    (append_assoc before block (words_from places q fs is)) placed
