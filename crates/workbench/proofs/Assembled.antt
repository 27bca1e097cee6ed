-- The assembly may stand on an accepted graph, whose faces need the room of the map's; and a traced graph has the whole call's faces.
use Prim.Native.Nat.{ℕ, ◌+◌, ◌*◌, ◌<◌, ◌≤◌}
use mathlib.Core.Path.{◌≡◌, sym, ap, ◌∙◌}
use mathlib.Core.List.{List, map, Memᴰ as In}
use lib.ListN.{length, get_or, length-map}
use Rattle.rules.specs.Lists.{flat}
use Rattle.rules.specs.Picture.{Picture, OUTSIDE, Dart, dart}
use Rattle.rules.specs.declared.Dir.TheVariants.{E}
use Rattle.rules.specs.Graph.{segments}
use Rattle.rules.specs.Describes.{Describes}
use Rattle.rules.specs.Face.{label_of, firsts, sides, contours, faces}
use Rattle.rules.specs.Records.{contours_of}
use Rattle.rules.specs.Calls.{Map, picture_of, cuts, cut_list}
use Rattle.rules.proofs.Lattice.Frame.{Framed, picture_framed}
use Rattle.rules.proofs.Tracing.Partition.{describes}
use Rattle.rules.proofs.Contours.Painted.{painted}
use Rattle.rules.proofs.Contours.Sides.{side_in}
use Rattle.rules.proofs.Contours.Loops.{IsPainted}
use Rattle.rules.proofs.Contours.Counts.{contour_loops, loops_count, loops_total}
use Rattle.rules.proofs.Faces.Counts.{faces_count, contours_count, references_count}
use Rattle.rules.proofs.CutList.Lengths.{length_contours, length_faces}
use Rattle.lattice.specs.declared.Size.{Size}
use Rattle.lattice.specs.Size.{Map as Sized, pic}
use Rattle.lattice.specs.Planes.{plane}
use Rattle.assemble.specs.Assembly.{Standing}
use Rattle.accept.specs.Given.{Given, segments_in}
use Rattle.accept.specs.Accepts.{Accepts}
use Rattle.accept.proofs.Described.{segmented, count_segments, described}
use Rattle.accept.proofs.Drawn.{drawn, pointed}
use Rattle.accept.proofs.Traced.{Fronted, written_segments}
use Rattle.workbench.specs.Bench.{given_list}

-- THE ASSEMBLY MAY STAND ON IT, with the islands in the plane 5

pub stands : (s : Size) (ls : List ℕ) → Sized s ls → (g : Given) → Accepts (pic s ls) g → (work : List ℕ)
    → 8 * plane s.width s.height ≤ length work
    → ((p : ℕ) → p < s.width * s.height → (label_of (pic s ls) p ≡ OUTSIDE → ⊥) → get_or work (5 * plane s.width s.height + p) 0 ≡ get_or (firsts (pic s ls)) p 0)
    → Standing s ls g.nodes g.segments g.points g.segment_count work (segments_in g)
stands s ls m g A work h k =
    record { drawn = drawn s ls m g A; pointed = pointed s ls m g A; total = sym (count_segments g); planes = h; numbers = k }

-- A TRACED GRAPH has the whole call's faces

pub traced_faces : (m : Map) (g : Given) → Fronted (picture_of m) (segments (picture_of m)) g → given_list m g ≡ cut_list m
unfolding given_list cut_list
traced_faces m g w =
    let F = picture_framed m.width m.height m.bound m.labels in
    ap (λ ss. cuts (picture_of m) ss (faces (picture_of m) ss m.paints)) (written_segments F (describes F) g w)

-- THE COUNTS are the map's, whatever the segments

module _ {P : Picture} (F : Framed P) {ss ts : List (List Dart)} (D : Describes P ss) (T : Describes P ts) (paints : ℕ) (b : paints ≤ OUTSIDE) where
  abbrev loops : List (List Dart)
  loops = map (sides ss) (contours P ss paints)

  easts : (i j : ℕ) → IsPainted P paints (dart i j E) → In (dart i j E) (flat loops)
  easts i j p = side_in F D paints (contours P ss paints) (painted F D paints b) (dart i j E) p.cracked p.painted

  same_contours : length (contours P ss paints) ≡ length (contours P ts paints)
  same_contours = sym (length-map (contours P ss paints) (sides ss)) ∙ loops_count F paints loops (contour_loops F D paints b) easts b T

  same_references : length (flat (contours P ss paints)) ≡ length (flat (contours P ts paints))
  same_references = sym (loops_total F paints loops (contour_loops F D paints b) easts b D) ∙ loops_total F paints loops (contour_loops F D paints b) easts b T

  same_faces : length (faces P ss paints) ≡ length (faces P ts paints)
  same_faces = faces_count P ss paints ∙ sym (faces_count P ts paints)

  same_listed_contours : length (contours_of (faces P ss paints)) ≡ length (contours_of (faces P ts paints))
  same_listed_contours = contours_count F D b ∙ same_contours ∙ sym (contours_count F T b)

  same_listed_references : length (flat (contours_of (faces P ss paints))) ≡ length (flat (contours_of (faces P ts paints)))
  same_listed_references = references_count F D b ∙ same_references ∙ sym (references_count F T b)

-- THE ROOM that an accepted graph's faces need is the map's
pub given_room : (m : Map) → m.paints ≤ OUTSIDE → (g : Given) → Accepts (picture_of m) g
    → (length (given_list m g).references ≡ length (cut_list m).references) × (length (given_list m g).contours ≡ length (cut_list m).contours) × (length (given_list m g).faces ≡ length (cut_list m).faces)
unfolding given_list cut_list cuts
given_room m b g A =
    let F = picture_framed m.width m.height m.bound m.labels in
    let P = picture_of m in
    let D = described (segmented A) in
    let T = describes F in
    let fs = faces P (segments_in g) m.paints in
    let ts = faces P (segments P) m.paints in (
      same_listed_references F D T m.paints b,
      length_contours 0 (contours_of fs) ∙ ap (λ n. 2 * n) (same_listed_contours F D T m.paints b) ∙ sym (length_contours 0 (contours_of ts)),
      length_faces P.w 0 fs ∙ ap (λ n. 5 * n) (same_faces F D T m.paints b) ∙ sym (length_faces P.w 0 ts),
    )
