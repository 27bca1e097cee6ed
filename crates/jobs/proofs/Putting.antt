-- Bytes put into a store one piece after the other.
use Prim.Native.Nat.{ℕ, zero, suc, ◌+◌, ◌*◌, ◌/◌, ◌%◌, ◌<◌, ◌≤◌}
use native.Mathlib.Omega.{arith}
use native.Mathlib.Numerals.{add-one}
use native.Mathlib.Nat.{add-mul-div_left, add-mul-mod_self_left}
use native.Mathlib.Decide.{dec_le}
use mathlib.Core.Path.{◌≡◌, refl, ap, ap₂, sym, ◌∙◌}
use mathlib.Core.List.{List, [], ◌∷◌, ◌++◌, map, map-append}
use lib.ListN.{length, get_or, set, length-set, length-append}
use lib.Seq.{sets, set_out, length-sets}
use Rattle.std.specs.Int.{to_le_bytes}
use Rattle.std.proofs.Common.{w32}
use Rattle.rules.specs.Lists.{flat, upto}
use Rattle.rules.proofs.Ground.Lists.{upto_snoc, flat_snoc, flat_append}
use Rattle.store.specs.Words.{part}
use Rattle.store.proofs.Parts.{length_part}
use Rattle.store.proofs.Writes.{sets_append, sets_out}
use Rattle.jobfile.specs.JobFile.{word, word_bytes, bytes_of}
use Rattle.jobs.specs.Stored.{Put, pieces, stored_segment, stored_contour, stored_face}

pub put_in : (out : List ℕ) (at b : ℕ) → at < length out → Put out at (b ∷ []) (set out at b) (at + 1)
put_in out at b h = record { held = refl; place = omega arith; within = rw (length-set out at b) (omega arith) }

pub put_out : (out : List ℕ) (at b : ℕ) → at ≤ length out → length out ≤ at → Put out at (b ∷ []) out at
put_out out at b h k = record { held = sym (set_out out at b k); place = omega arith; within = h }

pub put_none : (out : List ℕ) (at : ℕ) → at ≤ length out → Put out at [] out at
put_none out at h = record { held = refl; place = omega arith; within = h }

pub put_long : {out bytes out' : List ℕ} {at next : ℕ} → Put out at bytes out' next → length out' ≡ length out
put_long {out} {bytes} {out'} {at} p = ap length p.held ∙ length-sets out at bytes

pub put_as : {out bytes bytes' out' : List ℕ} {at next : ℕ} → bytes ≡ bytes' → Put out at bytes out' next → Put out at bytes' out' next
put_as e p = rw e at p

infixr 50 ◌then◌
-- one piece, and another behind it
pub ◌then◌ : {out a out₁ b out₂ : List ℕ} {at p next : ℕ} → Put out at a out₁ p → Put out₁ p b out₂ next → Put out at (a ++ b) out₂ next
◌then◌ {out} {a} {out₁} {b} {out₂} {at} {p} {next} x y =
    let l = put_long x in
    let n = length-append a b in
    record {
      held = y.held ∙ (ap (λ (o : List ℕ). sets o p b) x.held ∙ (go (dec_le (at + length a) (length out)) ∙ sym (sets_append out at a b)));
      place = y.place ∙ (let xp = x.place in omega arith);
      within = y.within;
    }
  where
    go : Dec (at + length a ≤ length out) → sets (sets out at a) p b ≡ sets (sets out at a) (at + length a) b
    go (yes h) = ap (λ (i : ℕ). sets (sets out at a) i b) (x.place ∙ omega arith)
    go (no h) =
        let m = length-sets out at a in
        let q = x.place in
        sets_out (sets out at a) p b (omega arith) ∙ sym (sets_out (sets out at a) (at + length a) b (omega arith))

-- PIECES, one after the other

pub pieces_snoc : (g : ℕ → List ℕ) (n f k : ℕ) → f + n ≡ k → pieces g (n + 1) f ≡ pieces g n f ++ g k
unfolding pieces
pieces_snoc g n f k e = rw (add-one, upto_snoc n f, e) (rw (map-append g (upto n f) (k ∷ []), flat_snoc (map g (upto n f)) (g k)))

-- those before i are put, of n from f on
pub record Partly (g : ℕ → List ℕ) (n f : ℕ) (out : List ℕ) (at : ℕ) (out' : List ℕ) (next i : ℕ) : Type 0 where
  pub few : i ≤ n
  pub there : Put out at (pieces g i f) out' next

pub partly_none : (g : ℕ → List ℕ) (n f : ℕ) (out : List ℕ) (at : ℕ) → at ≤ length out → Partly g n f out at out at 0
unfolding pieces flat upto
partly_none g n f out at h = record { few = omega arith; there = put_none out at h }

pub partly_more : {g : ℕ → List ℕ} {n f at p next i : ℕ} {out out₁ out₂ : List ℕ} (k : ℕ) → f + i ≡ k → i < n
    → Partly g n f out at out₁ p i → Put out₁ p (g k) out₂ next → Partly g n f out at out₂ next (i + 1)
partly_more {g} {n} {f} {i = i} k e h x y = record { few = omega arith; there = put_as (sym (pieces_snoc g i f k e)) (x.there then y) }

pub partly_all : {g : ℕ → List ℕ} {n f at p i : ℕ} {out out₁ : List ℕ} → n ≤ i → Partly g n f out at out₁ p i → Put out at (pieces g n f) out₁ p
partly_all {g} {f = f} h x = put_as (ap (λ (k : ℕ). pieces g k f) (omega (arith, x.few))) x.there

-- WORDS

-- a part as pieces of one word
pub part_pieces : (ws : List ℕ) (f n : ℕ) → word_bytes (part ws f n) ≡ pieces (λ i. word (get_or ws i 0)) n f
unfolding word_bytes pieces flat upto
part_pieces ws f zero = refl
part_pieces ws f (suc n) = ap (λ l. word (get_or ws f 0) ++ l) (part_pieces ws (suc f) n)

words_append : (a b : List ℕ) → word_bytes (a ++ b) ≡ word_bytes a ++ word_bytes b
unfolding word_bytes
words_append a b = ap flat (map-append word a b) ∙ flat_append (map word a) (map word b)

pub words_pieces : (g : ℕ → List ℕ) (n f : ℕ) → word_bytes (pieces g n f) ≡ pieces (λ k. word_bytes (g k)) n f
unfolding pieces flat upto word_bytes
words_pieces g zero f = refl
words_pieces g (suc n) f = words_append (g f) (pieces g n (suc f)) ∙ ap (λ l. word_bytes (g f) ++ l) (words_pieces g n (suc f))

-- A RECORD from its head and its body
pub head_body : (size kind : ℕ) (ws bytes : List ℕ) → kind < 256 → word size ≡ word (4 * length ws) → bytes ≡ word_bytes ws
    → (word size ++ (kind ∷ 0 ∷ [])) ++ bytes ≡ bytes_of (kind, ws)
unfolding bytes_of
head_body size kind ws bytes h e f =
    let a : kind % 256 ≡ kind = omega arith in
    let b : kind / 256 % 256 ≡ 0 = omega arith in
    rw (e, f, a, b) (front (word (4 * length ws)) kind (word_bytes ws))
  where
    front : (l : List ℕ) (k : ℕ) (m : List ℕ) → (l ++ (k ∷ 0 ∷ [])) ++ m ≡ l ++ (k ∷ 0 ∷ m)
    front [] k m = refl
    front (x ∷ l) k m = ap (λ t. x ∷ t) (front l k m)

-- THE SIZE of contours, its low 32 bits

pub contours_more : (cs rs : List ℕ) (n f k c t : ℕ) → f + n ≡ k → c ≡ get_or cs (2 * k + 1) 0 → t ≡ length (pieces (stored_contour cs rs) n f) % 4294967296
    → (t + 1 + c) % 4294967296 ≡ length (pieces (stored_contour cs rs) (n + 1) f) % 4294967296
unfolding stored_contour
contours_more cs rs n f k c t e g h =
    let l = ap length (pieces_snoc (stored_contour cs rs) n f k e) in
    let m = length-append (pieces (stored_contour cs rs) n f) (stored_contour cs rs k) in
    let p = length_part rs (get_or cs (2 * k) 0) (get_or cs (2 * k + 1) 0) in
    omega arith

digit : (m k : ℕ) {d : ℕ} → 0 < d → (m + d * (256 * k)) / d % 256 ≡ m / d % 256
digit m k {d} h = ap (λ n. n % 256) (add-mul-div_left m (256 * k) h) ∙ add-mul-mod_self_left (m / d) 256 k

word_low : (m q : ℕ) → word (m + 4294967296 * q) ≡ word m
unfolding word
word_low m q =
    let a : 4294967296 * q ≡ 256 * (16777216 * q) = omega arith in
    let b : 4294967296 * q ≡ 256 * (256 * (65536 * q)) = omega arith in
    let c : 4294967296 * q ≡ 65536 * (256 * (256 * q)) = omega arith in
    let d : 4294967296 * q ≡ 16777216 * (256 * q) = omega arith in
    ap₂ (λ x y. x ∷ y) (ap (λ n. (m + n) % 256) a ∙ add-mul-mod_self_left m 256 (16777216 * q))
    (ap₂ (λ x y. x ∷ y) (ap (λ n. (m + n) / 256 % 256) b ∙ digit m (65536 * q) (omega arith))
    (ap₂ (λ x y. x ∷ y) (ap (λ n. (m + n) / 65536 % 256) c ∙ digit m (256 * q) (omega arith))
    (ap (λ x. x ∷ []) (ap (λ n. (m + n) / 16777216 % 256) d ∙ digit m q (omega arith)))))

-- a word by the bytes of its low 32 bits
pub low_word : (n : ℕ) (bytes : List ℕ) → bytes ≡ to_le_bytes w32 (n % 4294967296) → get_or bytes 0 0 ∷ get_or bytes 1 0 ∷ get_or bytes 2 0 ∷ get_or bytes 3 0 ∷ [] ≡ word n
unfolding word
low_word n bytes e =
    let q : n ≡ n % 4294967296 + 4294967296 * (n / 4294967296) = omega arith in
    rw e (sym (ap word q ∙ word_low (n % 4294967296) (n / 4294967296)))

-- the head of a face knows that much
pub word_wraps : (size n : ℕ) → size ≡ n % 4294967296 → word (4 * (4 + size)) ≡ word (4 * (4 + n))
word_wraps size n e =
    let q : 4 * (4 + n) ≡ 4 * (4 + size) + 4294967296 * (4 * (n / 4294967296)) = omega arith in
    sym (ap word q ∙ word_low (4 * (4 + size)) (4 * (n / 4294967296)))

-- RECORDS, as the writer puts them

pub contour_bytes : (cs rs : List ℕ) (k first count : ℕ) → first ≡ get_or cs (2 * k) 0 → count ≡ get_or cs (2 * k + 1) 0
    → word count ++ word_bytes (part rs first count) ≡ word_bytes (stored_contour cs rs k)
unfolding stored_contour word_bytes flat
contour_bytes cs rs k first count e f = rw (e, f)

pub segment_bytes : (ss ps : List ℕ) (i first count : ℕ) → first ≡ get_or ss (8 * i) 0 → count ≡ get_or ss (8 * i + 1) 0
    → (word (8 * count) ++ (2 ∷ 0 ∷ [])) ++ word_bytes (part ps (2 * first) (2 * count)) ≡ bytes_of (stored_segment ss ps i)
unfolding stored_segment
segment_bytes ss ps i first count e f =
    let n : 8 * count ≡ 4 * length (part ps (2 * first) (2 * count)) = omega (arith, length_part ps (2 * first) (2 * count)) in
    head_body (8 * count) 2 (part ps (2 * first) (2 * count)) _ (omega arith) (ap word n) refl ∙ rw (e, f)

five : (a b c d : ℕ) (bytes ws : List ℕ) → bytes ≡ word_bytes ws → word a ++ (word b ++ (word c ++ (word d ++ bytes))) ≡ word_bytes (a ∷ b ∷ c ∷ d ∷ ws)
unfolding word_bytes flat
five a b c d bytes ws e = ap (λ l. word a ++ (word b ++ (word c ++ (word d ++ l)))) e

pub face_bytes : (fs cs rs : List ℕ) (i first n size : ℕ) → first ≡ get_or fs (5 * i + 1) 0 → n ≡ get_or fs (5 * i + 2) 0
    → size ≡ length (pieces (stored_contour cs rs) n first) % 4294967296
    → (word (4 * (4 + size)) ++ (3 ∷ 0 ∷ [])) ++ (word (get_or fs (5 * i) 0) ++ (word (get_or fs (5 * i + 3) 0) ++ (word (get_or fs (5 * i + 4) 0) ++ (word n ++ pieces (λ k. word_bytes (stored_contour cs rs k)) n first))))
    ≡ bytes_of (stored_face fs cs rs i)
unfolding stored_face
face_bytes fs cs rs i first n size e f g =
    let ws = get_or fs (5 * i) 0 ∷ get_or fs (5 * i + 3) 0 ∷ get_or fs (5 * i + 4) 0 ∷ n ∷ pieces (stored_contour cs rs) n first in
    let l : 4 + length (pieces (stored_contour cs rs) n first) ≡ length ws = omega arith in
    head_body (4 * (4 + size)) 3 ws _ (omega arith) (word_wraps size (length (pieces (stored_contour cs rs) n first)) g ∙ ap (λ k. word (4 * k)) l)
    (five (get_or fs (5 * i) 0) (get_or fs (5 * i + 3) 0) (get_or fs (5 * i + 4) 0) n _ _ (sym (words_pieces (stored_contour cs rs) n first)))
    ∙ rw (e, f)
