-- How long the file of a map is: the writer knows it from the counts, before a word is written.
use Prim.Native.Nat.{ℕ, ◌+◌, ◌*◌, ◌<◌}
use mathlib.Core.Path.{◌≡◌, refl}
use mathlib.Core.List.Memᴰ.{head as here}
use mathlib.Core.List.Memᴰ.{tail as there}
use mathlib.Core.List.{List, [], ◌∷◌, ◌++◌, map, Memᴰ as In}
use native.Mathlib.Omega.{arith}
use lib.ListN.{length, length-append}
use Rattle.rules.specs.Lists.{flat}
use Rattle.rules.specs.Picture.{Dart}
use Rattle.rules.specs.Graph.{segments}
use Rattle.rules.specs.Face.{Face, faces}
use Rattle.rules.specs.Records.{contours_of}
use Rattle.rules.specs.Calls.{Map, picture_of, Answer, cut_list, counted}
use Rattle.rules.proofs.Lattice.Frame.{picture_framed}
use Rattle.rules.proofs.Tracing.Partition.{describes}
use Rattle.rules.proofs.Tracing.Counts.{has_step, step_count_lem}
use Rattle.rules.proofs.CutList.Lengths.{length_records}
use Rattle.rules.proofs.CutList.Counts.{counts}
use Rattle.jobfile.specs.JobFile.{word, waste_free, Entry, bytes_of, map_entry, segment_entry, face_body, face_entry, file_entries, file_bytes, file_of}
use Rattle.jobfile.proofs.Bytes.{words_length}
use Rattle.jobfile.proofs.Soundness.{bodies_length}

entry_length : (e : Entry) → length (bytes_of e) ≡ 6 + 4 * length e.1
unfolding bytes_of word
entry_length e = omega (arith, words_length e.1)

bytes_append : (es gs : List Entry) → length (file_bytes (es ++ gs)) ≡ length (file_bytes es) + length (file_bytes gs)
unfolding file_bytes flat
bytes_append [] gs = omega arith
bytes_append (e ∷ es) gs = omega (arith, length-append (bytes_of e) (file_bytes (es ++ gs)), length-append (bytes_of e) (file_bytes es), bytes_append es gs)

segments_length : (ss : List (List Dart)) → ((s : List Dart) → In s ss → 0 < length s) → length (file_bytes (map segment_entry ss)) ≡ 14 * length ss + 8 * length (flat ss)
unfolding file_bytes flat segment_entry
segments_length [] f = refl
segments_length (s ∷ ss) f =
    omega (
      arith,
      segments_length ss (λ t i. f t (there i)),
      length-append (bytes_of (segment_entry s)) (file_bytes (map segment_entry ss)),
      entry_length (segment_entry s),
      length_records s (f s (here refl)),
      length-append s (flat ss),
    )

face_length : (w : ℕ) (f : Face) → length (face_body w f) ≡ 4 + (length f.contours + length (flat f.contours))
unfolding face_body
face_length w f = omega (arith, bodies_length f.contours)

flat_both : (k l : List (List ℕ)) → length (flat (k ++ l)) ≡ length (flat k) + length (flat l)
unfolding flat
flat_both [] l = omega arith
flat_both (c ∷ k) l = omega (arith, flat_both k l, length-append c (flat (k ++ l)), length-append c (flat k))

faces_length : (w : ℕ) (fs : List Face) → length (file_bytes (map (face_entry w) fs)) ≡ 22 * length fs + 4 * (length (contours_of fs) + length (flat (contours_of fs)))
unfolding file_bytes flat face_entry contours_of
faces_length w [] = refl
faces_length w (f ∷ fs) =
    omega (
      arith,
      faces_length w fs,
      length-append (bytes_of (face_entry w f)) (file_bytes (map (face_entry w) fs)),
      entry_length (face_entry w f),
      face_length w f,
      length-append f.contours (contours_of fs),
      flat_both f.contours (contours_of fs),
    )

-- by the counts of the answer
unfoldable pub length_by : Answer → ℕ
length_by a = 18 + 6 * a.segments + 8 * a.points + 22 * a.faces + 4 * (a.contours + a.references)

pub file_length : (m : Map) → length (file_of m) ≡ length_by (counted 0 (cut_list (waste_free m)))
unfolding file_of file_entries file_bytes flat map_entry length_by cut_list
file_length m =
    let n = waste_free m in
    let P = picture_of n in
    let F = picture_framed n.width n.height n.bound n.labels in
    let D = describes F in
    let ss = segments P in
    let fs = faces P ss m.paints in
    let k = counts F D fs 0 in
    omega (
      arith,
      length-append (bytes_of (map_entry m)) (file_bytes (map segment_entry ss ++ map (face_entry m.width) fs)),
      entry_length (map_entry m),
      bytes_append (map segment_entry ss) (map (face_entry m.width) fs),
      segments_length ss (has_step F D),
      faces_length m.width fs,
      step_count_lem F D,
      k.segments,
      k.points,
      k.references,
      k.contours,
      k.faces,
    )
