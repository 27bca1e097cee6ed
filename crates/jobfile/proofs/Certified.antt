-- What the reader tests of a file's faces, where they stand: whatever passes is the list of the picture's faces.
use Prim.Native.Nat.{ℕ, ◌*◌, ◌<◌, ◌≤◌}
use mathlib.Core.Bool.{true≢false}
use mathlib.Core.Path.{◌≡◌, refl, sym, ap, ap₂, ◌∙◌, subst}
use mathlib.Core.Logic.{◌⊎◌, inl, inr}
use mathlib.Core.List.Memᴰ.{cast as in-cast}
use mathlib.Core.List.Memᴰ.{head as here}
use mathlib.Core.List.Memᴰ.{map as in_map}
use mathlib.Core.List.Memᴰ.{not-nil}
use mathlib.Core.List.Memᴰ.{of_map}
use mathlib.Core.List.Memᴰ.{tail as there}
use mathlib.Core.List.{List, [], ◌∷◌, Memᴰ as In}
use native.Mathlib.Omega.{arith}
use lib.Dec.{eqb}
use lib.ListN.{length}
use borrow.Author.Tests.{eqb-true, eq-eqb}
use Rattle.rules.specs.Lists.{keep, flat}
use Rattle.rules.specs.Picture.{Picture, OUTSIDE, Dart}
use Rattle.rules.specs.Describes.{Describes}
use Rattle.rules.specs.Face.{label_of, first_step, region, contours, island_of, island, Face, face, faces}
use Rattle.rules.specs.Records.{contours_of}
use Rattle.rules.proofs.Lattice.Frame.{Framed}
use Rattle.rules.proofs.Ground.Lists.{keep_in, in_keep, in_flat, flat_in, flat_map_in}
use Rattle.rules.proofs.Ground.Pigeonhole.{Rearranged}
use Rattle.rules.proofs.Ground.Order.{Ordered, ordered_distinct, ordered_keep, ordered_cases}
use Rattle.rules.proofs.References.Ends.{first_in_lem as step_in_lem}
use Rattle.rules.proofs.Contours.Painted.{Contour, Painted, painted}
use Rattle.rules.proofs.Contours.Sides.{in_sides}
use Rattle.rules.proofs.Faces.Faced.{Sooner, faced}
use Rattle.rules.proofs.Faces.FirstPixels.{First, first_pixels, in_firsts, first_in_lem}
use Rattle.jobfile.proofs.Leading.{start, Least, Earlier, contours_order, contours_least, contour_same}

-- SAME MEMBERS IN ONE ORDER
ordered_same : {A : Type 0} (R : A → A → Type 0) (l m : List A) → Rearranged l m → Ordered R l → Ordered R m → ((a b : A) → In a l → In b l → R a b → R b a → a ≡ b) → l ≡ m
ordered_same R [] [] r o q f = refl
ordered_same R [] (b ∷ m) r o q f = absurd (not-nil (r.onto b (here refl)))
ordered_same R (a ∷ l) [] r o q f = absurd (not-nil (r.into a (here refl)))
ordered_same {A} R (a ∷ l) (b ∷ m) r o q f = go (λ r'. ordered_same R l m r' o.1 q.1 (λ c d i j. f c d (there i) (there j)))
  where
    heads : In a (b ∷ m) → In b (a ∷ l) → a ≡ b
    heads (here e) j = e
    heads (there i) (here e) = sym e
    heads (there i) (there j) = f a b (here refl) (there j) (o.0 b j) (q.0 a i)

    e : a ≡ b
    e = heads (r.into a (here refl)) (r.onto b (here refl))

    tail : (n : List A) (c : A) → (c ≡ b → ⊥) → In c (b ∷ n) → In c n
    tail n c k (here p) = absurd (k p)
    tail n c k (there i) = i

    go : (Rearranged l m → l ≡ m) → a ∷ l ≡ b ∷ m
    go g = ap₂ (λ c n. c ∷ n) e (g (record {
      first = r.first.1;
      second = r.second.1;
      into = λ c i. tail m c (λ p. r.first.0 (in-cast (e ∙ sym p) i)) (r.into c (there i));
      onto = λ c i. tail l c (λ p. r.second.0 (in-cast (sym p) i)) (subst (λ x. In c (x ∷ l)) e (r.onto c (there i)));
    }))

-- THE TESTS

-- of a contour of the face whose first pixel is p
pub record Bounds (P : Picture) (ss : List (List Dart)) (paints p : ℕ) (c : List ℕ) : Type 0 where
  -- a cycle of next references, or a ring by itself, from its least reference
  pub contour : Contour P ss c
  pub least : Least c
  -- each reference is one, and has a painted region and the island of p on its left
  pub below : (r : ℕ) → In r c → r < 2 * length ss
  pub painted : (r : ℕ) → In r c → region P ss r < paints
  pub inside : (r : ℕ) → In r c → island P (first_step ss r) ≡ p

pub record Certified (P : Picture) (ss : List (List Dart)) (paints : ℕ) (gs : List Face) : Type 0 where
  -- each face names the first pixel of a painted island and its label
  pub first : (g : Face) → In g gs → First P paints g.first
  pub label : (g : Face) → In g gs → label_of P g.first ≡ g.region
  -- by region and first pixel; contours by kind and first reference
  pub order : Ordered Sooner gs
  pub bounds : (g : Face) → In g gs → (c : List ℕ) → In c g.contours → Bounds P ss paints g.first c
  pub sorted : (g : Face) → In g gs → Ordered (Earlier P ss) g.contours
  -- every reference of a painted region is listed
  pub whole : (r : ℕ) → r < 2 * length ss → region P ss r < paints → In r (flat (contours_of gs))

-- THE ORDERS

module _ (P : Picture) (ss : List (List Dart)) where
  earlier_not : (c : List ℕ) → Earlier P ss c c → ⊥
  earlier_not c (inl k) = true≢false (sym k.0 ∙ k.1)
  earlier_not c (inr k) = let z = k.1 in omega arith

  earlier_both : (c d : List ℕ) → Earlier P ss c d → Earlier P ss d c → c ≡ d
  earlier_both c d (inl k) (inl j) = absurd (true≢false (sym k.0 ∙ j.1))
  earlier_both c d (inl k) (inr j) = absurd (true≢false (sym k.0 ∙ sym j.0 ∙ k.1))
  earlier_both c d (inr k) (inl j) = absurd (true≢false (sym j.0 ∙ sym k.0 ∙ j.1))
  earlier_both c d (inr k) (inr j) = absurd (let z = k.1 in let y = j.1 in omega arith)

sooner_not : (f : Face) → Sooner f f → ⊥
sooner_not f (inl k) = omega arith
sooner_not f (inr k) = let z = k.1 in omega arith

sooner_both : (f g : Face) → Sooner f g → Sooner g f → f ≡ g
sooner_both f g (inl k) (inl j) = absurd (omega arith)
sooner_both f g (inl k) (inr j) = absurd (let z = j.0 in omega arith)
sooner_both f g (inr k) (inl j) = absurd (let z = k.0 in omega arith)
sooner_both f g (inr k) (inr j) = absurd (let z = k.1 in let y = j.1 in omega arith)

-- a contour has its first reference
has_start : (c : List ℕ) → Least c → In (start c) c
has_start [] l = absurd l
has_start (r ∷ c) l = here refl

module _ {P : Picture} (F : Framed P) {ss : List (List Dart)} (D : Describes P ss) {paints : ℕ} (b : paints ≤ OUTSIDE) {gs : List Face} (k : Certified P ss paints gs) where
  abbrev cs : List (List ℕ)
  cs = contours P ss paints

  abbrev ok : Painted P ss paints cs
  ok = painted F D paints b

  -- a listed contour is one of the picture's
  listed : (g : Face) → In g gs → (c : List ℕ) → In c g.contours → In c cs
  listed g i c j =
      let w = k.bounds g i c j in
      let r = start c in
      let m = has_start c w.least in
      let d = flat_in cs r (ok.whole r (w.below r m) (w.painted r m)) in
      in-cast (contour_same P ss c d.0 w.contour (ok.contour d.0 d.1) w.least (contours_least F D paints d.0 d.1) r m d.2) d.1

  -- of the face's island
  island_is : (g : Face) → In g gs → (c : List ℕ) → In c g.contours → island_of P ss c ≡ g.first
  unfolding island_of
  island_is g i c j = let w = k.bounds g i c j in w.inside (start c) (has_start c w.least)

  -- and each of the picture's is listed
  holder : (c : List ℕ) → In c cs → (h : Face) × In h gs × In c h.contours
  unfolding contours_of
  holder c i =
      let l = contours_least F D paints c i in
      let r = start c in
      let m = has_start c l in
      let d = flat_in (contours_of gs) r (k.whole r (ok.member c i r m).below (ok.painted c i r m)) in
      let h = flat_map_in (λ f. f.contours) gs d.0 d.1 in
      let w = k.bounds h.0 h.1 d.0 h.2 in
      (h.0, h.1, in-cast (contour_same P ss c d.0 (ok.contour c i) w.contour l w.least r m d.2) h.2)

  -- one face for an island
  one : (g h : Face) → In g gs → In h gs → g.first ≡ h.first → g ≡ h
  one g h i j e = go (ordered_cases Sooner gs k.order g h i j)
    where
      same : g.region ≡ h.region
      same = sym (k.label g i) ∙ ap (label_of P) e ∙ k.label h j

      go : (g ≡ h) ⊎ (Sooner g h ⊎ Sooner h g) → g ≡ h
      go (inl z) = z
      go (inr (inl (inl z))) = absurd (let s = same in omega arith)
      go (inr (inl (inr z))) = absurd (omega arith)
      go (inr (inr (inl z))) = absurd (let s = same in omega arith)
      go (inr (inr (inr z))) = absurd (omega arith)

  -- its contours are the island's
  abbrev of : ℕ → List (List ℕ)
  of p = keep (λ c. eqb (island_of P ss c) p) cs

  of_in : (p : ℕ) (c : List ℕ) → In c (of p) → In c cs × (island_of P ss c ≡ p)
  of_in p c i = let q = keep_in (λ c. eqb (island_of P ss c) p) cs c i in (q.0, eqb-true (island_of P ss c) p q.1)

  contours_are : (g : Face) → In g gs → g.contours ≡ of g.first
  contours_are g i =
      let p = g.first in
      let o = ordered_keep (Earlier P ss) (λ c. eqb (island_of P ss c) p) cs (contours_order F D paints) in
      ordered_same (Earlier P ss) g.contours (of p)
      (record {
        first = ordered_distinct (Earlier P ss) (earlier_not P ss) g.contours (k.sorted g i);
        second = ordered_distinct (Earlier P ss) (earlier_not P ss) (of p) o;
        into = λ c j. in_keep (λ c. eqb (island_of P ss c) p) cs c (eq-eqb (island_of P ss c) p (island_is g i c j)) (listed g i c j);
        onto = λ c j. back c (of_in p c j);
      })
      (k.sorted g i) o (λ c d _ _. earlier_both P ss c d)
    where
      back : (c : List ℕ) → In c cs × (island_of P ss c ≡ g.first) → In c g.contours
      back c q =
          let h = holder c q.0 in
          let e = one h.0 g h.1 i (sym (island_is h.0 h.1 c h.2) ∙ q.1) in
          subst (λ f. In c f.contours) e h.2

  face_is : (g : Face) → In g gs → g ≡ face P ss cs g.first
  unfolding face
  face_is g i = λ t. record { region = sym (k.label g i) t; first = g.first; contours = contours_are g i t }

  -- THE FACES
  held : (p : ℕ) → First P paints p → (g : Face) × In g gs × (g.first ≡ p)
  unfolding faces face
  held p f =
      let i : In (face P ss cs p) (faces P ss paints) = in_map (face P ss cs) (in_firsts P paints p f) in
      let c = ((faced F D b).face (face P ss cs p) i).some in
      let q = of_in p c.0 c.1 in
      let h = holder c.0 q.0 in
      (h.0, h.1, sym (island_is h.0 h.1 c.0 h.2) ∙ q.1)

  pub certified : gs ≡ faces P ss paints
  unfolding faces
  certified =
      ordered_same Sooner gs (faces P ss paints)
      (record {
        first = ordered_distinct Sooner sooner_not gs k.order;
        second = ordered_distinct Sooner sooner_not (faces P ss paints) (faced F D b).order;
        into = λ g i. in-cast (face_is g i) (in_map (face P ss cs) (in_firsts P paints g.first (k.first g i)));
        onto = λ f i.
            let q = of_map (face P ss cs) (first_pixels P paints) i in
            let h = held q.0 (first_in_lem P paints q.0 q.1) in
            in-cast (sym (face_is h.0 h.1 ∙ ap (face P ss cs) h.2 ∙ q.2)) h.1;
      })
      k.order (faced F D b).order (λ f g _ _. sooner_both f g)

-- THE PICTURE'S FACES PASS

module _ {P : Picture} (F : Framed P) {ss : List (List Dart)} (D : Describes P ss) {paints : ℕ} (b : paints ≤ OUTSIDE) where
  pub faces_certified : Certified P ss paints (faces P ss paints)
  unfolding faces face
  faces_certified =
      let k = faced F D b in
      let ok = painted F D paints b in
      let cs = contours P ss paints in
      record {
        first = λ g i. let q = of_map (face P ss cs) (first_pixels P paints) i in subst (λ g. First P paints g.first) q.2 (first_in_lem P paints q.0 q.1);
        label = λ g i. (k.face g i).label;
        order = k.order;
        bounds = λ g i c j.
            let w = k.face g i in
            let m = w.contour c j in
            record {
              contour = ok.contour c m;
              least = contours_least F D paints c m;
              below = λ r n. (ok.member c m r n).below;
              painted = λ r n. ok.painted c m r n;
              inside = λ r n. w.inside c j (first_step ss r) (in_sides ss c (first_step ss r) r n (step_in_lem F D r (ok.member c m r n).below));
            };
        sorted = λ g i.
            let q = of_map (face P ss cs) (first_pixels P paints) i in
            subst (λ g. Ordered (Earlier P ss) g.contours) q.2 (ordered_keep (Earlier P ss) (λ c. eqb (island_of P ss c) q.0) cs (contours_order F D paints));
        whole = λ r h l.
            let c = flat_in cs r (ok.whole r h l) in
            in_flat (contours_of (faces P ss paints)) c.0 r (k.arranged.onto c.0 c.1) c.2;
      }
