-- A map whose waste is not cut (docs/RULES.md, #107): its picture is that of the map with its waste cleared, so every call on it answers and
-- writes what the same call does on that map.
use Prim.Native.Nat.{ℕ, zero, suc, ◌+◌, ◌*◌, ◌<◌, ◌≤◌}
use mathlib.Core.Bool.{Bool, true, false, cond, not, ◌&&◌, ◌||◌}
use mathlib.Core.Path.{◌≡◌, refl, sym, ap, ◌∙◌}
use mathlib.Core.Logic.{inl, inr}
use mathlib.Core.List.{List, [], ◌∷◌, ◌++◌, map}
use native.Mathlib.Omega.{arith}
use lib.Dec.{ltb, eqb}
use lib.ListN.{length, get_or, length-map}
use borrow.Author.Tests.{ltb-true, ltb-false, lt-ltb, le-ltb}
use Rattle.rules.specs.Picture.{OUTSIDE, seen, label, northwest, picture}
use Rattle.rules.specs.Graph.{segments}
use Rattle.rules.specs.Face.{faces}
use Rattle.rules.specs.Calls.{Map, picture_of, cleared, Accepted, label_at, CutList, cuts, cut_list, graph_list, Check, first_hit, work_words, map_checks, graph_checks, face_checks, answer, work_after, store_after, call, size, graph, whole}
use Rattle.rules.proofs.CutList.Agree.{Alike}
use Rattle.rules.proofs.CutList.Unshared.{SameCuts, no_shared_cut_list}

-- ONE LABEL

-- a label below the bound is read as it is, any other as OUTSIDE
pub seen_elim : (Q : ℕ → Type 0) (b l : ℕ) → (l < b → Q l) → (b ≤ l → Q OUTSIDE) → Q (seen b l)
unfolding seen
seen_elim Q b l f g = go (ltb l b) refl
  where
    go : (t : Bool) → ltb l b ≡ t → Q (elim t [ true ↦ l | false ↦ OUTSIDE ])
    go true e = f (ltb-true l b e)
    go false e = g (ltb-false l b e)

pub seen_below : (b l : ℕ) → l < b → seen b l ≡ l
unfolding seen
seen_below b l k = rw (lt-ltb l b k, seen)

pub seen_above : (b l : ℕ) → b ≤ l → seen b l ≡ OUTSIDE
unfolding seen
seen_above b l k = rw (le-ltb l b k, seen)

-- what is not read as OUTSIDE is read as it is
pub seen_inside : (b l : ℕ) → seen b l < OUTSIDE → seen b l ≡ l
seen_inside b l = seen_elim (λ n. n < OUTSIDE → n ≡ l) b l (λ h k. refl) (λ h k. omega arith)

-- a word is read as it is where only OUTSIDE is waste
pub seen_word : (l : ℕ) → l ≤ OUTSIDE → seen OUTSIDE l ≡ l
seen_word l k = seen_elim (λ n. n ≡ l) OUTSIDE l (λ h. refl) (λ h. omega arith)

pub seen_twice : (b l : ℕ) → b ≤ OUTSIDE → seen OUTSIDE (seen b l) ≡ seen b l
seen_twice b l k = seen_elim (λ n. seen OUTSIDE n ≡ n) b l (λ h. seen_word l (omega arith)) (λ h. seen_word OUTSIDE (omega arith))

seen_outside : (b : ℕ) → seen b OUTSIDE ≡ OUTSIDE
seen_outside b = seen_elim (λ n. n ≡ OUTSIDE) b OUTSIDE (λ h. refl) (λ h. refl)

-- painted exactly when it is read so, where the bound is the paint count or above it
pub seen_painted : (paints b l : ℕ) → paints ≤ b → paints ≤ OUTSIDE → Alike paints (seen b l) l
seen_painted paints b l k j = seen_elim (λ n. Alike paints n l) b l (λ h. same (ltb l paints) refl) (λ h. inr (j, omega arith))
  where
    same : (t : Bool) → ltb l paints ≡ t → Alike paints l l
    same true e = inl (refl, ltb-true l paints e)
    same false e = inr (ltb-false l paints e, ltb-false l paints e)

-- what is so of the labels as they are read is so of the labels
alike_through : (paints s t l m : ℕ) → Alike paints s t → Alike paints s l → Alike paints t m → Alike paints l m
alike_through paints s t l m (inl p) (inl q) (inl r) = inl (sym q.0 ∙ p.0 ∙ r.0, rw (← q.0) q.1)
alike_through paints s t l m (inl p) (inl q) (inr r) = let e = p.0 in let a = p.1 in let c = r.0 in absurd (omega arith)
alike_through paints s t l m (inl p) (inr q) r = let a = p.1 in let c = q.0 in absurd (omega arith)
alike_through paints s t l m (inr p) (inl q) r = let a = p.0 in let c = q.1 in absurd (omega arith)
alike_through paints s t l m (inr p) (inr q) (inl r) = let a = p.1 in let c = r.1 in absurd (omega arith)
alike_through paints s t l m (inr p) (inr q) (inr r) = inr (q.1, r.1)

-- THE PICTURE

seen_at : (b : ℕ) (ls : List ℕ) (i : ℕ) → get_or (map (seen b) ls) i OUTSIDE ≡ seen b (get_or ls i OUTSIDE)
seen_at b [] i = sym (seen_outside b)
seen_at b (l ∷ ls) zero = refl
seen_at b (l ∷ ls) (suc i) = seen_at b ls i

module _ (w h b : ℕ) (ls : List ℕ) (k : b ≤ OUTSIDE) where
  label_cleared : (x y : ℕ) → label w h b ls x y ≡ label w h OUTSIDE (map (seen b) ls) x y
  unfolding label
  label_cleared x y =
      let i = y * w + x in
      ap (λ (n : ℕ). cond (ltb x w && ltb y h) n OUTSIDE)
      (sym (seen_twice b (get_or ls i OUTSIDE) k) ∙ ap (seen OUTSIDE) (sym (seen_at b ls i)))

  northwest_cleared : (x y : ℕ) → northwest (label w h b ls) x y ≡ northwest (label w h OUTSIDE (map (seen b) ls)) x y
  unfolding northwest
  northwest_cleared zero y = refl
  northwest_cleared (suc x) zero = refl
  northwest_cleared (suc x) (suc y) = label_cleared x y

  pub picture_cleared : picture w h b ls ≡ picture w h OUTSIDE (map (seen b) ls)
  unfolding picture
  picture_cleared = λ i. record { w = w; h = h; nw = λ x y. northwest_cleared x y i }

-- EVERY CALL

module _ (m : Map) (k : m.bound ≤ OUTSIDE) where
  same_picture : picture_of m ≡ picture_of (cleared m)
  same_picture = picture_cleared m.width m.height m.bound m.labels k

  same_list : cut_list m ≡ cut_list (cleared m)
  unfolding cut_list
  same_list = ap (λ P. cuts P (segments P) (faces P (segments P) m.paints)) same_picture

  same_graph : graph_list m ≡ graph_list (cleared m)
  unfolding graph_list
  same_graph = ap (λ P. cuts P (segments P) []) same_picture

  same_checks : (work : List ℕ) → map_checks m work ≡ map_checks (cleared m) work
  unfolding map_checks
  same_checks work =
      ap
      (λ n.
      record { number = 1; hits = ltb 16384 m.width || ltb 16384 m.height } ∷
      record { number = 2; hits = not (eqb n (m.width * m.height)) } ∷
      record { number = 3; hits = ltb (length work) (work_words m) } ∷ [])
      (sym (length-map m.labels (seen m.bound)))

  same_call : (l : CutList) (work : List ℕ) (more : List Check) (parts : List (List ℕ × List ℕ)) → call m l work more parts ≡ call (cleared m) l work more parts
  unfolding call work_after
  same_call l work more parts =
      ap
      (λ cs.
      let n = first_hit (cs ++ more) in
      record { answer = answer n l; stores = work_after m n work ∷ map (λ p. store_after n p.0 p.1) parts })
      (same_checks work)

  pub size_cleared : (work : List ℕ) → size m work ≡ size (cleared m) work
  unfolding size
  size_cleared work = ap (λ l. call m l work [] []) same_list ∙ same_call (cut_list (cleared m)) work [] []

  pub graph_cleared : (work ns ss ps : List ℕ) → graph m work ns ss ps ≡ graph (cleared m) work ns ss ps
  unfolding graph
  graph_cleared work ns ss ps =
      ap (λ l. call m l work (graph_checks l ns ss ps) ((l.nodes, ns) ∷ (l.segments, ss) ∷ (l.points, ps) ∷ [])) same_graph
      ∙ same_call (graph_list (cleared m)) work _ _

  pub whole_cleared : (work ns ss ps rs cs fs : List ℕ) → whole m work ns ss ps rs cs fs ≡ whole (cleared m) work ns ss ps rs cs fs
  unfolding whole
  whole_cleared work ns ss ps rs cs fs =
      ap
      (λ l.
      call m l work
      (graph_checks l ns ss ps ++ face_checks l rs cs fs)
      ((l.nodes, ns) ∷ (l.segments, ss) ∷ (l.points, ps) ∷ (l.references, rs) ∷ (l.contours, cs) ∷ (l.faces, fs) ∷ []))
      same_list
      ∙ same_call (cut_list (cleared m)) work _ _

  pub cleared_accepted : Accepted m → Accepted (cleared m)
  cleared_accepted a = record { wide = a.wide; tall = a.tall; size = length-map m.labels (seen m.bound) ∙ a.size; word = a.word }

-- DEMAND 3 in a mode: two maps with one cut list have the same painted pixels
pub no_shared_waste : (m n : Map) → Accepted m → Accepted n → m.width ≡ n.width → m.height ≡ n.height → m.paints ≡ n.paints
    → m.paints ≤ m.bound → n.paints ≤ n.bound → SameCuts (cut_list m) (cut_list n)
    → (x y : ℕ) → x < m.width → y < m.height
    → Alike m.paints (get_or m.labels (y * m.width + x) 0) (get_or n.labels (y * n.width + x) 0)
no_shared_waste m n a b ew eh ep h i k x y hx hy =
    let j = a.word in
    let l = get_or m.labels (y * m.width + x) 0 in
    let o = get_or n.labels (y * n.width + x) 0 in
    alike_through m.paints (label_at m x y) (label_at n x y) l o (no_shared_cut_list m n a b ew eh ep k x y hx hy)
    (seen_painted m.paints m.bound l h j)
    (seen_painted m.paints n.bound o (omega arith) j)
