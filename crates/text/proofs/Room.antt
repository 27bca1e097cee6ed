-- Room for every map of 16 by 16 pixels at most: no store of the sizes named here is short of what `whole` writes, and what is printed of the cut
-- list has 53,160 bytes at most.
use Rattle.std.proofs.Common.{◌≡◌, ℕ, ◌+◌, ◌*◌, ◌/◌, ◌<◌, ◌≤◌, ◌⊎◌, List, [], length, get_or, refl, ap, ⊎_elim, mul_assoc, mul-le-mul, arith, length-append, ◌∙◌, sym}
use Rattle.rules.specs.Lists.{upto}
use Rattle.rules.specs.Picture.{Picture, picture, OUTSIDE, Dart}
use Rattle.rules.specs.Graph.{segments}
use Rattle.rules.specs.Face.{Face, faces}
use Rattle.rules.specs.Records.{contours_of}
use Rattle.rules.specs.Calls.{Map as LabelledMap, picture_of, CutList, cuts, cut_list, Answer, counted, whole}
use Rattle.rules.proofs.Ground.Lists.{length_upto, upto_in}
use Rattle.rules.proofs.Ground.Sums.{sum, sum_linear}
use Rattle.rules.proofs.Lattice.Frame.{Framed, picture_framed}
use Rattle.rules.proofs.Tracing.Partition.{describes}
use Rattle.rules.proofs.Tracing.Counts.{step_count_lem}
use Rattle.rules.proofs.CutList.Counts.{Counts, counts, bounds}
use Rattle.rules.proofs.CutList.Values.{AtMost, most_more, node_values, segment_values, label_most, point_values, reference_values, region_values, contours_most}
use Rattle.rules.proofs.CutList.Placed.{placed_words}
use Rattle.rules.proofs.CutList.Parts.{segments_fill, contours_fill, of_face, faces_fill}
use Rattle.calls.proofs.Demands.Answered.{every_whole}
use Rattle.text.specs.Output.{pieces, map_line, count_line, node_line, seg_line, face_lines, report}
use Rattle.text.specs.Parse.{parsed}
use Rattle.text.specs.Program.{printed, answered, textmap}
use Rattle.std.specs.Prelude.{Result, Ok, Err}
use Rattle.lattice.specs.declared.Size.{Size}
use Rattle.calls.specs.Outcome.{map_of}
use Rattle.text.proofs.Parsing.{map_is}
use Rattle.text.specs.declared.BadMap.{BadMap}
use Rattle.text.specs.declared.BadMap.TheVariants.{TooBig, BadText}
use Rattle.text.proofs.MapFacts.{parsed_map}
use Rattle.text.proofs.Words.{PaintsMost, parsed_words}
use Rattle.text.proofs.Lengths.{field_short, pieces_most, pieces_each, node_short, seg_short, contour_most, face_short}

pub record Small (m : LabelledMap) : Type 0 where
  pub narrow : m.width ≤ 16
  pub low : m.height ≤ 16
  pub size : length m.labels ≡ m.width * m.height
  pub word : m.paints ≤ 4294967295

pub record FewCuts (a : Answer) : Type 0 where
  pub nodes : a.nodes ≤ 289
  pub segments : a.segments ≤ 544
  pub points : a.points ≤ 1088
  pub references : a.references ≤ 1088
  pub contours : a.contours ≤ 289
  pub faces : a.faces ≤ 256
  pub steps : a.steps ≤ 544

pub few_cuts : (m : LabelledMap) → Small m → FewCuts (counted 0 (cut_list m))
unfolding cut_list picture
few_cuts m s =
    let F = picture_framed m.width m.height m.bound m.labels in
    let b = bounds F (describes F) s.word 0 in
    let area = mul-le-mul s.narrow s.low in
    let two = mul_assoc 2 m.width m.height in
    record {
      nodes = omega (arith, b.nodes, area, s.narrow, s.low);
      segments = omega (arith, b.segments, b.steps, area, two, s.narrow, s.low);
      points = omega (arith, b.points, b.segments, b.steps, area, two, s.narrow, s.low);
      references = omega (arith, b.references, b.segments, b.steps, area, two, s.narrow, s.low);
      contours = omega (arith, b.contours_few, area, s.narrow, s.low);
      faces = omega (arith, b.faces_few, area);
      steps = omega (arith, b.steps, area, two, s.narrow, s.low);
    }

-- THE STORES

pub record Room (ws ns ss ps rs cs fs : List ℕ) : Type 0 where
  pub work : 2312 ≤ length ws
  pub nodes : 1734 ≤ length ns
  pub segments : 4352 ≤ length ss
  pub points : 2176 ≤ length ps
  pub references : 1088 ≤ length rs
  pub contours : 578 ≤ length cs
  pub faces : 1280 ≤ length fs

-- as many as are needed
fits : (have need most : ℕ) → need ≤ most → most ≤ have → have < need → ⊥
fits have need most n h s = omega arith

pub enough : (m : LabelledMap) (work ns ss ps rs cs fs : List ℕ) → Small m → Room work ns ss ps rs cs fs → (whole m work ns ss ps rs cs fs).answer.number ≡ 0
unfolding counted
enough m work ns ss ps rs cs fs s r =
    let l = cut_list m in
    let c = few_cuts m s in
    let area = mul-le-mul s.narrow s.low in
    let side : (16384 < m.width) ⊎ (16384 < m.height) → ⊥ = ⊎_elim (λ (h : 16384 < m.width). omega (arith, s.narrow)) (λ (h : 16384 < m.height). omega (arith, s.low)) in
    let planes = fits (length work) (8 * (m.width + 1) * (m.height + 1)) 2312 (omega (arith, mul_assoc 8 (m.width + 1) (m.height + 1), area, s.narrow, s.low)) r.work in
    let nodes = fits (length ns / 6) (length l.nodes / 6) 289 c.nodes (omega (arith, r.nodes)) in
    let segments = fits (length ss / 8) (length l.segments / 8) 544 c.segments (omega (arith, r.segments)) in
    let points = fits (length ps / 2) (length l.points / 2) 1088 c.points (omega (arith, r.points)) in
    let references = fits (length rs / 1) (length l.references / 1) 1088 (omega (arith, c.references)) (omega (arith, r.references)) in
    let contours = fits (length cs / 2) (length l.contours / 2) 289 c.contours (omega (arith, r.contours)) in
    let faces = fits (length fs / 5) (length l.faces / 5) 256 c.faces (omega (arith, r.faces)) in
    (every_whole m work ns ss ps rs cs fs).none.1 (side, (λ f. f s.size, (planes, (nodes, (segments, (points, (references, (contours, (faces, tt)))))))))

-- WHAT IS PRINTED

module _ (m : LabelledMap) (s : Small m) (labels : AtMost OUTSIDE m.labels) where
  abbrev P : Picture
  P = picture_of m

  abbrev F : Framed P
  F = picture_framed m.width m.height m.bound m.labels

  abbrev cut : List (List Dart)
  cut = segments P

  abbrev found : List Face
  found = faces P cut m.paints

  abbrev l : CutList
  l = cut_list m

  abbrev a : Answer
  a = counted 0 l

  few : FewCuts a
  few = few_cuts m s

  exact : Counts P cut found a
  unfolding cut_list
  exact = counts F (describes F) found 0

  nodes_short : length (pieces (node_line l.nodes) a.nodes 0) ≤ 35 * a.nodes
  unfolding cut_list cuts picture
  nodes_short =
      pieces_each (node_line l.nodes) 35 a.nodes 0
      (λ i j.
      let b = (upto_in a.nodes 0 i j).1 in
      node_short {P = P} (omega (arith, s.narrow)) (omega (arith, s.low)) cut l.nodes i (omega (arith, few.segments, exact.segments)) (omega (arith, b, few.nodes))
      (node_values P cut i (omega (arith, b, exact.nodes))))

  segments_short : length (pieces (seg_line l.segments l.points) a.segments 0) ≤ 42 * a.segments + 6 * a.points
  unfolding cut_list cuts picture
  segments_short =
      let count : ℕ → ℕ = λ i. get_or l.segments (8 * i + 1) 0 in
      omega (
        arith,
        pieces_most (seg_line l.segments l.points) (λ i. 42 + 6 * count i) a.segments 0
            (λ i j.
            let b = (upto_in a.segments 0 i j).1 in
            seg_short {P = P} (omega (arith, s.narrow)) (omega (arith, s.low)) l.segments l.points i (omega (arith, few.nodes, exact.nodes)) (omega (arith, b, few.segments))
            (segment_values P cut OUTSIDE (label_most m.width m.height m.bound m.labels labels) i (omega (arith, b, exact.segments)))
            (point_values F (describes F) 99 (omega (arith, s.narrow)) (omega (arith, s.low)))),
        sum_linear 42 6 count (upto a.segments 0),
        length_upto a.segments 0,
        ap (λ (n : ℕ). sum count (upto n 0)) exact.segments,
        segments_fill P 0 cut,
        step_count_lem F (describes F),
        exact.points,
      )

  faces_short : length (pieces (face_lines l.segments l.points l.references l.contours l.faces) a.faces 0) ≤ 30 * a.faces + 7 * a.contours + 5 * a.references
  unfolding cut_list cuts picture
  faces_short =
      let count : ℕ → ℕ = λ k. get_or l.contours (2 * k + 1) 0 in
      let most : ℕ → ℕ = contour_most l.contours in
      omega (
        arith,
        pieces_most (face_lines l.segments l.points l.references l.contours l.faces) (λ i. 30 + 1 * of_face most l.faces i) a.faces 0
            (λ i j.
            let b = (upto_in a.faces 0 i j).1 in
            let p = placed_words F (describes F) s.word i (record { region = 0; first = 0; contours = [] }) (omega (arith, b, exact.faces)) in
            omega (
              arith,
              face_short l.segments l.points l.references l.contours small l.faces i (omega (arith, b, few.faces)) (region_values F (describes F) s.word m.width i)
                  (omega (arith, contours_most m.width 0 found i, few.contours, exact.contours)) (omega (arith, p.across, s.narrow)) (omega (arith, p.down, s.low)),
            )),
        sum_linear 30 1 (of_face most l.faces) (upto a.faces 0),
        length_upto a.faces 0,
        ap (λ (n : ℕ). sum (of_face most l.faces) (upto n 0)) exact.faces,
        faces_fill most m.width 0 found,
        sum_linear 7 5 count (upto (length (contours_of found)) 0),
        length_upto (length (contours_of found)) 0,
        contours_fill 0 (contours_of found),
        exact.contours,
        exact.references,
      )
    where
      small : AtMost 1999 l.references
      small = most_more l.references (omega (arith, few.segments, exact.segments)) (reference_values F (describes F) s.word)

  -- all of it
  pub printed_short : length (printed m) ≤ 54696
  unfolding printed report map_line count_line
  printed_short =
      simp length-append
      (omega (
        arith,
        field_short 1 m.width (omega (arith, s.narrow)),
        field_short 1 m.height (omega (arith, s.low)),
        field_short 9 m.paints (omega (arith, s.word)),
        field_short 3 a.nodes (omega (arith, few.nodes)),
        field_short 3 a.segments (omega (arith, few.segments)),
        field_short 3 a.points (omega (arith, few.points)),
        field_short 3 a.references (omega (arith, few.references)),
        field_short 3 a.contours (omega (arith, few.contours)),
        field_short 3 a.faces (omega (arith, few.faces)),
        field_short 3 a.steps (omega (arith, few.steps)),
        nodes_short,
        segments_short,
        faces_short,
        few.nodes,
        few.segments,
        few.points,
        few.references,
        few.contours,
        few.faces,
      ))

-- WHATEVER IS READ: such a map, or a message
pub textmap_short : (text : List ℕ) → length (textmap text) ≤ 54696
unfolding textmap answered
textmap_short text = go (parsed text).answer refl (parsed_words text).paints
  where
    go : (r : Result Size BadMap) → (parsed text).answer ≡ r → PaintsMost r → length (answered r (parsed text).labels) ≤ 54696
    go (Ok s) e b =
        let k = parsed_map s.width s.height s.paints text (e ∙ sym (map_is s b.1)) in
        printed_short (map_of s (parsed text).labels) (record { narrow = k.narrow; low = k.low; size = k.count; word = b.0 }) (parsed_words text).labels
    go (Err TooBig) e b = omega arith
    go (Err BadText) e b = omega arith
