-- Room for any map of given sides: stores that pass the checks with the most counts pass them with a map's own.
use Prim.Native.Nat.{ℕ, ◌*◌, ◌/◌, ◌≤◌}
use mathlib.Core.Bool.{Bool, false}
use mathlib.Core.Path.{◌≡◌, sym, ap, ◌∙◌}
use mathlib.Core.List.{List, ◌++◌}
use native.Mathlib.Omega.{arith}
use native.Mathlib.Nat.{mul_assoc}
use lib.ListN.{length, replicate, length-replicate}
use borrow.Author.Tests.{le-ltb}
use Rattle.rules.specs.Picture.{picture, OUTSIDE}
use Rattle.rules.specs.Calls.{CutList, graph_list, cut_list, counted, first_hit, short, graph_checks, face_checks}
use Rattle.rules.proofs.Tracing.Partition.{describes}
use Rattle.rules.proofs.CutList.Counts.{bounds}
use Rattle.lattice.specs.declared.Size.{Size}
use Rattle.lattice.proofs.Planes.{plane_is}
use Rattle.lattice.proofs.Frame.{framed}
use Rattle.calls.specs.declared.Counts.{Counts}
use Rattle.calls.specs.Outcome.{map_of, answer_with}
use Rattle.calls.specs.Counted.{most_of}
use Rattle.calls.proofs.Checks.{all_miss, both_miss, hit_late, room, three, graph_positive}
use Rattle.calls.proofs.Calls.{same_checks}

-- A CUT LIST with given counts, its words all 0
abbrev blank : Counts → CutList
blank a =
    record {
      nodes = replicate (6 * a.nodes) 0;
      segments = replicate (8 * a.segments) 0;
      points = replicate (2 * a.points) 0;
      references = replicate a.references 0;
      contours = replicate (2 * a.contours) 0;
      faces = replicate (5 * a.faces) 0;
      steps = a.steps;
    }

blank_counted : (a : Counts) → answer_with 0 a ≡ counted 0 (blank a)
unfolding counted
blank_counted a =
    let words : (n : ℕ) → length (replicate {A = ℕ} n 0) ≡ n = λ n. length-replicate n 0 in
    let nodes : a.nodes ≡ length (blank a).nodes / 6 = omega (arith, words (6 * a.nodes)) in
    let segments : a.segments ≡ length (blank a).segments / 8 = omega (arith, words (8 * a.segments)) in
    let points : a.points ≡ length (blank a).points / 2 = omega (arith, words (2 * a.points)) in
    let references : a.references ≡ length (blank a).references = omega (arith, words a.references) in
    let contours : a.contours ≡ length (blank a).contours / 2 = omega (arith, words (2 * a.contours)) in
    let faces : a.faces ≡ length (blank a).faces / 5 = omega (arith, words (5 * a.faces)) in
    λ i. record {
      number = 0;
      nodes = nodes i;
      segments = segments i;
      points = points i;
      references = references i;
      contours = contours i;
      faces = faces i;
      steps = a.steps;
    }

-- NO MORE of anything in one cut list than in another

record Fewer (l k : CutList) : Type 0 where
  pub nodes : (counted 0 l).nodes ≤ (counted 0 k).nodes
  pub segments : (counted 0 l).segments ≤ (counted 0 k).segments
  pub points : (counted 0 l).points ≤ (counted 0 k).points
  pub references : (counted 0 l).references ≤ (counted 0 k).references
  pub contours : (counted 0 l).contours ≤ (counted 0 k).contours
  pub faces : (counted 0 l).faces ≤ (counted 0 k).faces

through : (a b c : ℕ) → a ≤ b → b ≤ c → a ≤ c
through a b c p q = omega arith

long_enough : (p : ℕ) (store words more : List ℕ) → length words / p ≤ length more / p → short p store more ≡ false → short p store words ≡ false
unfolding short
long_enough p store words more h e = le-ltb (length store / p) (length words / p) (through (length words / p) (length more / p) (length store / p) h (room p store more e))

none_hits : (n : ℕ) {s t u : Bool} → s ≡ false → t ≡ false → u ≡ false → first_hit (three n s t u) ≡ 0
unfolding first_hit
none_hits n a b c = λ i. first_hit (three n (a i) (b i) (c i))

-- a store that has room for the one has room for the other
module _ {l k : CutList} (f : Fewer l k) (ns ss ps : List ℕ) where
  graph_misses : first_hit (graph_checks k ns ss ps) ≡ 0 → first_hit (graph_checks l ns ss ps) ≡ 0
  unfolding graph_checks counted
  graph_misses e =
      let a = all_miss 4 (short 6 ns k.nodes) (short 8 ss k.segments) (short 2 ps k.points) (omega arith) e in
      none_hits 4
      (long_enough 6 ns l.nodes k.nodes f.nodes a.0)
      (long_enough 8 ss l.segments k.segments f.segments a.1)
      (long_enough 2 ps l.points k.points f.points a.2)

  module _ (rs cs fs : List ℕ) where
    faces_miss : first_hit (face_checks k rs cs fs) ≡ 0 → first_hit (face_checks l rs cs fs) ≡ 0
    unfolding face_checks counted
    faces_miss e =
        let a = all_miss 7 (short 1 rs k.references) (short 2 cs k.contours) (short 5 fs k.faces) (omega arith) e in
        none_hits 7
        (long_enough 1 rs l.references k.references (omega (arith, f.references)) a.0)
        (long_enough 2 cs l.contours k.contours f.contours a.1)
        (long_enough 5 fs l.faces k.faces f.faces a.2)

    all_misses : first_hit (graph_checks k ns ss ps ++ face_checks k rs cs fs) ≡ 0 → first_hit (graph_checks l ns ss ps ++ face_checks l rs cs fs) ≡ 0
    all_misses e =
        let m = both_miss (graph_checks k ns ss ps) (face_checks k rs cs fs) (graph_positive k ns ss ps) e in
        hit_late (graph_checks l ns ss ps) (face_checks l rs cs fs) (graph_positive l ns ss ps) (graph_misses m.0) ∙ faces_miss m.1

-- ANY MAP OF THESE SIDES

module _ (s : Size) where
  -- a cut list with as much as any has
  abbrev pub fullest : CutList
  fullest = blank (most_of s)

  pub most_counted : answer_with 0 (most_of s) ≡ counted 0 fullest
  most_counted = blank_counted (most_of s)

  module _ (ls : List ℕ) (b : s.paints ≤ OUTSIDE) where
    fewer : Fewer (cut_list (map_of s ls)) fullest
    unfolding cut_list picture
    fewer =
        let F = framed s ls in
        let k = bounds F (describes F) b 0 in
        let area = mul_assoc 2 s.width s.height in
        let corners = plane_is s.width s.height in
        record {
          nodes = omega (arith, k.nodes, corners, ap (λ a. a.nodes) most_counted);
          segments = omega (arith, k.segments, k.steps, area, ap (λ a. a.segments) most_counted);
          points = omega (arith, k.points, k.segments, k.steps, area, ap (λ a. a.points) most_counted);
          references = omega (arith, k.references, k.segments, k.steps, area, ap (λ a. a.references) most_counted);
          contours = omega (arith, k.contours_few, corners, ap (λ a. a.contours) most_counted);
          faces = omega (arith, k.faces_few, ap (λ a. a.faces) most_counted);
        }

    pub graph_free : (ns ss ps : List ℕ) → first_hit (graph_checks fullest ns ss ps) ≡ 0 → first_hit (graph_checks (graph_list (map_of s ls)) ns ss ps) ≡ 0
    graph_free ns ss ps e = ap first_hit (sym (same_checks s ls ns ss ps)) ∙ graph_misses fewer ns ss ps e

    pub all_free : (ns ss ps rs cs fs : List ℕ) → first_hit (graph_checks fullest ns ss ps ++ face_checks fullest rs cs fs) ≡ 0
        → first_hit (graph_checks (cut_list (map_of s ls)) ns ss ps ++ face_checks (cut_list (map_of s ls)) rs cs fs) ≡ 0
    all_free = all_misses fewer
