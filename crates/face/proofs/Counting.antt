-- Islands numbered, marks cleared, contours found: the counts are those of the rules.
use Prim.Native.Nat.{ℕ, ◌+◌, ◌*◌, ◌≤◌}
use mathlib.Core.Path.{sym, ◌∙◌}
use mathlib.Core.Logic.{inl}
use mathlib.Core.List.{List}
use native.Mathlib.Omega.{arith}
use lib.ListN.{length, replicate, length-replicate}
use lib.Seq.{sets, length-sets}
use Rattle.rules.specs.Picture.{OUTSIDE}
use Rattle.rules.proofs.Faces.Counts.{faces_count, contours_count, references_count}
use Rattle.store.proofs.Writes.{sets_before, sets_kept, filled, kept_then, kept_within}
use Rattle.lattice.specs.declared.Size.{Size}
use Rattle.lattice.specs.Size.{pic}
use Rattle.lattice.specs.Planes.{plane}
use Rattle.lattice.proofs.Planes.{plane_is}
use Rattle.lattice.proofs.Frame.{framed}
use Rattle.face.specs.declared.contours.Found.{Found}
use Rattle.face.specs.Islands.{Numbered, plan}
use Rattle.face.specs.Contours.{Blank, FoundAll}
use Rattle.face.specs.Counts.{Counted}

module _ {s : Size} {ls work work₁ : List ℕ} {n : ℕ} (i : Numbered (plan s) s.paints ls work n work₁) (room : 8 * plane s.width s.height ≤ length work) where
  abbrev p : ℕ
  p = plane s.width s.height

  abbrev cleared : List ℕ
  cleared = sets work₁ (7 * p) (replicate p 0)

  marks_room : 7 * p + p ≤ length work₁
  marks_room = omega (arith, i.kept.long)

  pub marks_blank : Blank s (7 * p) cleared
  marks_blank = record {
    room = omega (arith, marks_room, length-sets work₁ (7 * p) (replicate p 0));
    blank = λ q l. filled work₁ (7 * p) p 0 q marks_room l;
  }

  pub counted :
      {work₂ : List ℕ} {f : Found} → s.paints ≤ OUTSIDE → FoundAll s ls (7 * p) cleared work₂ f → Counted s ls work (record { references = f.references; contours = f.contours; faces = n }) work₂
  counted b f = record {
    counts = λ ss D. record {
      references = f.total ss D ∙ sym (references_count (framed s ls) D b);
      contours = f.count ss D ∙ sym (contours_count (framed s ls) D b);
      faces = i.painted ∙ sym (faces_count (pic s ls) ss s.paints);
    };
    numbers = λ q l o.
        f.kept.others (5 * p + q) (inl (omega (arith, plane_is s.width s.height)))
        ∙ sets_before work₁ (7 * p) (replicate p 0) (5 * p + q) (omega (arith, plane_is s.width s.height))
        ∙ i.numbers q l o;
    kept =
        kept_then
        (kept_within (omega arith) (omega (arith, plane_is s.width s.height)) i.kept)
        (kept_then
        (kept_within (omega arith) (omega (arith, length-replicate {A = ℕ} p 0)) (sets_kept work₁ (7 * p) (replicate p 0)))
        (kept_within (omega arith) (omega arith) f.kept));
  }
