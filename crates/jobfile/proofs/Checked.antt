-- What the reader has shown when every test has passed: the bytes are the file of the map that it painted.
use Prim.Native.Nat.{ℕ, ◌+◌, ◌*◌, ◌<◌, ◌≤◌}
use mathlib.Core.Bool.{true}
use mathlib.Core.Path.{◌≡◌, refl, sym, ap, ap₂, ◌∙◌, subst}
use mathlib.Core.List.{List, [], ◌∷◌, ◌++◌, map, append_assoc, Memᴰ as In}
use lib.ListN.{length, take, drop, take-append-drop}
use Rattle.rules.specs.Lists.{flat}
use Rattle.rules.specs.Picture.{Picture, Dart}
use Rattle.rules.specs.Graph.{segments}
use Rattle.rules.specs.Face.{steps, first_step, last_step, turn, is_open, next, Face, faces}
use Rattle.rules.specs.Describes.{Describes}
use Rattle.rules.specs.Calls.{Map, picture_of, Accepted}
use Rattle.rules.proofs.Lattice.Frame.{Framed, picture_framed}
use Rattle.rules.proofs.Tracing.Partition.{describes}
use Rattle.rules.proofs.References.Steps.{step_of_one}
use Rattle.rules.proofs.References.Ends.{first_in_lem}
use Rattle.rules.proofs.Contours.Rounds.{next_first}
use Rattle.rules.proofs.Islands.Pixels.{pixel_mod, pixel_div}
use Rattle.jobfile.specs.JobFile.{waste_free, Entry, bytes_of, map_entry, segment_entry, contour_body, face_body, face_entry, file_entries, file_bytes, file_of}
use Rattle.jobfile.specs.Painted.{MadeFrom}
use Rattle.jobfile.proofs.Certified.{Certified, certified}

bytes_append : (es gs : List Entry) → file_bytes (es ++ gs) ≡ file_bytes es ++ file_bytes gs
unfolding file_bytes flat
bytes_append [] gs = refl
bytes_append (e ∷ es) gs = ap (λ l. bytes_of e ++ l) (bytes_append es gs) ∙ sym (append_assoc (bytes_of e) (file_bytes es) (file_bytes gs))

-- the words of a face whose first pixel is (x, y)
pub face_words_lem : (w h region x y : ℕ) (cs : List (List ℕ)) → x < w → y < h
    → face_body w (record { region = region; first = y * w + x; contours = cs }) ≡ region ∷ x ∷ y ∷ length cs ∷ flat (map contour_body cs)
unfolding face_body
face_words_lem w h region x y cs hx hy = ap₂ (λ u v. region ∷ u ∷ v ∷ length cs ∷ flat (map contour_body cs)) (pixel_mod w h x y hx hy) (pixel_div w h x y hx hy)

-- the reference that follows r is the one whose first step is the turn of r's last step
pub next_is : {P : Picture} (F : Framed P) {ss : List (List Dart)} (D : Describes P ss) (r q : ℕ) → r < 2 * length ss → is_open P ss r ≡ true → q < 2 * length ss
    → first_step ss q ≡ turn P (last_step ss r) → next P ss r ≡ q
next_is {P} F {ss} D r q h o k e =
    let n = next_first F D r h o in
    step_of_one F D (first_step ss q) (next P ss r) q (subst (λ a. In a (steps ss (next P ss r))) (n.1 ∙ sym e) (first_in_lem F D (next P ss r) n.0)) (first_in_lem F D q k)

-- THE SEGMENTS up to the byte `at` are the traced ones, and the faces from there on pass
pub checked : (m : Map) → Accepted m → m.paints ≤ 65535 → (b : List ℕ) (at : ℕ) (gs : List Face)
    → take at b ≡ file_bytes (map_entry m ∷ map segment_entry (segments (picture_of (waste_free m))))
    → drop at b ≡ file_bytes (map (face_entry m.width) gs)
    → Certified (picture_of (waste_free m)) (segments (picture_of (waste_free m))) m.paints gs
    → MadeFrom b m
unfolding file_of file_entries
checked m a few b at gs p q k =
    let n = waste_free m in
    let P = picture_of n in
    let F = picture_framed n.width n.height n.bound n.labels in
    let e : gs ≡ faces P (segments P) m.paints = certified F (describes F) a.word k in
    let front = map_entry m ∷ map segment_entry (segments P) in
    record {
      accepted = a;
      few = few;
      bytes =
          ap (λ gs. file_bytes (front ++ map (face_entry m.width) gs)) (sym e)
          ∙ bytes_append front (map (face_entry m.width) gs)
          ∙ ap₂ (λ l r. l ++ r) (sym p) (sym q)
          ∙ take-append-drop at b;
    }
