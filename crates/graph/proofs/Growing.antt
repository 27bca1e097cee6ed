-- Marks, corners and records of one more.
use Prim.Native.Nat.{ℕ, suc, ◌+◌, ◌*◌}
use mathlib.Core.Path.{◌≡◌, refl, ap, ◌∙◌}
use mathlib.Core.List.{List, [], ◌∷◌, ◌++◌, map, map-append}
use native.Mathlib.Omega.{arith}
use lib.ListN.{length, set, length-set, length-append}
use lib.Seq.{get_or-append_seam}
use Rattle.rules.specs.Lists.{flat}
use Rattle.rules.specs.Picture.{Picture, Dart, ahead_x, ahead_y}
use Rattle.rules.specs.Face.{no_dart}
use Rattle.rules.specs.Records.{node_record, node_words, point_records, point_words, segment_words}
use Rattle.rules.proofs.Ground.Lists.{flat_snoc}
use Rattle.graph.specs.Planes.{slot, mark_all}
use Rattle.graph.specs.Walk.{reached, end_of}

pub marks_more : (w h : ℕ) (ws : List ℕ) (done : List Dart) (a : Dart) → mark_all w h ws (done ++ (a ∷ [])) ≡ set (mark_all w h ws done) (slot w h a) 1
marks_more w h ws [] a = refl
marks_more w h ws (b ∷ done) a = marks_more w h (set ws (slot w h b) 1) done a

pub length_marks : (w h : ℕ) (ws : List ℕ) (done : List Dart) → length (mark_all w h ws done) ≡ length ws
length_marks w h ws [] = refl
length_marks w h ws (b ∷ done) = length_marks w h (set ws (slot w h b) 1) done ∙ length-set ws (slot w h b) 1

pub reached_more : (done : List Dart) (a : Dart) → reached (done ++ (a ∷ [])) ≡ reached done ++ (ahead_x a ∷ ahead_y a ∷ [])
reached_more [] a = refl
reached_more (b ∷ done) a = ap (λ (l : List ℕ). ahead_x b ∷ ahead_y b ∷ l) (reached_more done a)

pub length_reached : (done : List Dart) → length (reached done) ≡ 2 * length done
length_reached [] = refl
length_reached (b ∷ done) = omega (arith, length_reached done)

pub length_more : {A : Type 0} (done : List A) (a : A) → length (done ++ (a ∷ [])) ≡ suc (length done)
length_more done a = omega (arith, length-append done (a ∷ []))

pub last_more : (done : List Dart) (a : Dart) → end_of (done ++ (a ∷ [])) ≡ a
last_more done a = rw (length_more done a) (get_or-append_seam done a [] no_dart)

-- THE WORDS OF ONE MORE

pub nodes_more : (ss : List (List Dart)) (ns : List (ℕ × ℕ)) (c : ℕ × ℕ) → node_words ss (ns ++ (c ∷ [])) ≡ node_words ss ns ++ node_record ss c
unfolding node_words
nodes_more ss ns c = ap flat (map-append (node_record ss) ns (c ∷ [])) ∙ flat_snoc (map (node_record ss) ns) (node_record ss c)

pub points_more : (ss : List (List Dart)) (l : List Dart) → point_words (ss ++ (l ∷ [])) ≡ point_words ss ++ point_records l
unfolding point_words
points_more ss l = ap flat (map-append point_records ss (l ∷ [])) ∙ flat_snoc (map point_records ss) (point_records l)

pub segments_more : (P : Picture) (i : ℕ) (ss : List (List Dart)) (l : List Dart) → segment_words P i (ss ++ (l ∷ [])) ≡ segment_words P i ss ++ segment_words P (i + (length (flat ss) + length ss)) (l ∷ [])
unfolding segment_words flat
segments_more P i [] l = let e : i + 0 ≡ i = omega arith in rw e
segments_more P i (s ∷ ss) l =
    let e : i + suc (length s) + (length (flat ss) + length ss) ≡ i + (length (s ++ flat ss) + suc (length ss)) = omega (arith, length-append s (flat ss)) in
    rw (segments_more P (i + suc (length s)) ss l, e)
