-- Where each word of a cut list stands: the words of one record, and the points of one segment.
use Prim.Native.Nat.{ℕ, zero, suc, pred, ◌+◌, ◌*◌, ◌<◌}
use mathlib.Core.Path.{◌≡◌, refl, sym, ap, ◌∙◌}
use mathlib.Core.Bool.{Bool, true, false, cond, ◌&&◌}
use mathlib.Core.List.Memᴰ.{head as here}
use mathlib.Core.List.Memᴰ.{not-nil}
use mathlib.Core.List.Memᴰ.{tail as there}
use mathlib.Core.List.{List, [], ◌∷◌, Memᴰ as In}
use native.Mathlib.Omega.{arith}
use lib.Dec.{eqb}
use lib.ListN.{length, get_or, length-append, get_or-append}
use lib.Seq.{get_or-append-add}
use borrow.Author.Tests.{eqb-true, eqb-false}
use Rattle.rules.specs.Lists.{flat}
use Rattle.rules.specs.Picture.{Picture, code, Dart, left, right, node, ahead_x, ahead_y}
use Rattle.rules.specs.Graph.{nodes}
use Rattle.rules.specs.Face.{no_dart}
use Rattle.rules.specs.Records.{NONE, node_at, node_record, node_words, segment_words, point_records, point_words}
use Rattle.rules.proofs.CutList.Lengths.{length_records}

-- SEGMENTS

-- the number of the first point of the segment i
unfoldable pub first_point : List (List Dart) → ℕ → ℕ
first_point [] i = 0
first_point (s ∷ ss) zero = 0
first_point (s ∷ ss) (suc i) = suc (length s) + first_point ss i

-- the eight words of a segment whose first point is the point f
unfoldable pub record_of : Picture → ℕ → List Dart → List ℕ
record_of P f s =
    let a = get_or s 0 no_dart in
    let z = get_or s (pred (length s)) no_dart in
    f ∷ suc (length s) ∷ node_at (nodes P) 0 a.x a.y ∷ node_at (nodes P) 0 (ahead_x z) (ahead_y z) ∷
    left P a ∷ right P a ∷ code a.d ∷ cond (node P a.x a.y) (code z.d) 0 ∷ []

pub segment_word_lem : (P : Picture) (ss : List (List Dart)) (p i k f : ℕ) → f ≡ p + first_point ss i → i < length ss → k < 8
    → get_or (segment_words P p ss) (8 * i + k) 0 ≡ get_or (record_of P f (get_or ss i [])) k 0
unfolding segment_words record_of first_point
segment_word_lem P [] p i k f e h m = absurd (omega arith)
segment_word_lem P (s ∷ ss) p zero k f e h m =
    let z : 8 * 0 + k ≡ k = omega arith in
    let q : p ≡ f = omega arith in
    rw z (get_or-append (record_of P p s) (segment_words P (p + suc (length s)) ss) 0 k m ∙ ap (λ (f : ℕ). get_or (record_of P f s) k 0) q)
segment_word_lem P (s ∷ ss) p (suc i) k f e h m =
    let z : 8 * suc i + k ≡ 8 + (8 * i + k) = omega arith in
    rw z (get_or-append-add (record_of P p s) (segment_words P (p + suc (length s)) ss) (8 * i + k) 0 ∙ segment_word_lem P ss (p + suc (length s)) i k f (omega arith) (omega arith) m)

-- NODES

pub node_word_lem : (ss : List (List Dart)) (ns : List (ℕ × ℕ)) (n k : ℕ) → n < length ns → k < 6 → get_or (node_words ss ns) (6 * n + k) 0 ≡ get_or (node_record ss (get_or ns n (0, 0))) k 0
unfolding node_words node_record flat
node_word_lem ss [] n k h m = absurd (omega arith)
node_word_lem ss (c ∷ ns) zero k h m = let e : 6 * 0 + k ≡ k = omega arith in rw e (get_or-append (node_record ss c) (node_words ss ns) 0 k m)
node_word_lem ss (c ∷ ns) (suc n) k h m =
    let e : 6 * suc n + k ≡ 6 + (6 * n + k) = omega arith in
    rw e (get_or-append-add (node_record ss c) (node_words ss ns) (6 * n + k) 0 ∙ node_word_lem ss ns n k (omega arith) m)

-- the number of a corner that is among the nodes, counted from i, and of one that is not
abbrev pub Numbered : List (ℕ × ℕ) → ℕ → ℕ → ℕ → Type 0
Numbered cs i x y = (n : ℕ) × (n < length cs) × (node_at cs i x y ≡ i + n) × (◌≡◌ {A = ℕ × ℕ} (get_or cs n (0, 0)) (x, y))

pub numbered : (cs : List (ℕ × ℕ)) (i x y : ℕ) → In {A = ℕ × ℕ} (x, y) cs → Numbered cs i x y
unfolding node_at
numbered [] i x y m = absurd (not-nil m)
numbered (c ∷ cs) i x y m = go (eqb c.0 x) refl (eqb c.1 y) refl m (λ m. numbered cs (suc i) x y m)
  where
    later : (In {A = ℕ × ℕ} (x, y) cs → Numbered cs (suc i) x y) → In {A = ℕ × ℕ} (x, y) cs
        → (n : ℕ) × (n < suc (length cs)) × (node_at cs (suc i) x y ≡ i + n) × (◌≡◌ {A = ℕ × ℕ} (get_or (c ∷ cs) n (0, 0)) (x, y))
    later f m = let r = f m in (suc r.0, let k = r.1 in omega arith, r.2 ∙ omega arith, r.3)

    go : (p : Bool) → eqb c.0 x ≡ p → (q : Bool) → eqb c.1 y ≡ q → In {A = ℕ × ℕ} (x, y) (c ∷ cs) → (In {A = ℕ × ℕ} (x, y) cs → Numbered cs (suc i) x y)
        → (n : ℕ) × (n < suc (length cs)) × (elim (p && q) [ true ↦ i | false ↦ node_at cs (suc i) x y ] ≡ i + n) × (◌≡◌ {A = ℕ × ℕ} (get_or (c ∷ cs) n (0, 0)) (x, y))
    go true p true q m f = (0, omega arith, omega arith, λ j. (eqb-true c.0 x p j, eqb-true c.1 y q j))
    go true p false q (here e) f = absurd (eqb-false c.1 y q (sym (ap (λ (c : ℕ × ℕ). c.1) e)))
    go true p false q (there m) f = later f m
    go false p q r (here e) f = absurd (eqb-false c.0 x p (sym (ap (λ (c : ℕ × ℕ). c.0) e)))
    go false p q r (there m) f = later f m

pub unnumbered : (cs : List (ℕ × ℕ)) (i x y : ℕ) → (In {A = ℕ × ℕ} (x, y) cs → ⊥) → node_at cs i x y ≡ NONE
unfolding node_at
unnumbered [] i x y f = refl
unnumbered (c ∷ cs) i x y f = go (eqb c.0 x) refl (eqb c.1 y) refl (unnumbered cs (suc i) x y (λ m. f (there m)))
  where
    go : (p : Bool) → eqb c.0 x ≡ p → (q : Bool) → eqb c.1 y ≡ q → node_at cs (suc i) x y ≡ NONE → elim (p && q) [ true ↦ i | false ↦ node_at cs (suc i) x y ] ≡ NONE
    go true p true q e = absurd (f (here (λ k. (sym (eqb-true c.0 x p) k, sym (eqb-true c.1 y q) k))))
    go true p false q e = e
    go false p q r e = e

-- POINTS

module _ (k : ℕ) where
  pub point_word : (ss : List (List Dart)) → ((s : List Dart) → In s ss → 0 < length s) → (i : ℕ) → i < length ss → k < 2 * suc (length (get_or ss i []))
      → (2 * first_point ss i + k < length (point_words ss)) × (get_or (point_words ss) (2 * first_point ss i + k) 0 ≡ get_or (point_records (get_or ss i [])) k 0)
  unfolding point_words flat first_point
  point_word [] f i h l = absurd (omega arith)
  point_word (s ∷ ss) f zero h l =
      let n = length_records s (f s (here refl)) in
      let e : 2 * 0 + k ≡ k = omega arith in
      (omega (arith, n, length-append (point_records s) (point_words ss)), rw e (get_or-append (point_records s) (point_words ss) 0 k (omega (arith, n))))
  point_word (s ∷ ss) f (suc i) h l =
      let n = length_records s (f s (here refl)) in
      let r = point_word ss (λ s i. f s (there i)) i (omega arith) l in
      let q = r.0 in
      let e : 2 * (suc (length s) + first_point ss i) + k ≡ length (point_records s) + (2 * first_point ss i + k) = omega (arith, n) in
      (omega (arith, n, length-append (point_records s) (point_words ss)), rw e (get_or-append-add (point_records s) (point_words ss) (2 * first_point ss i + k) 0 ∙ r.1))
