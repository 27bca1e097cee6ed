-- A contour walked so far: its marks, its nodes and its sum.
use Prim.Native.Nat.{ℕ, ◌≤◌}
use mathlib.Core.Path.{◌≡◌, refl, sym, ap, subst, ◌∙◌}
use mathlib.Core.List.Memᴰ.{append_left as in_left}
use mathlib.Core.List.{List, [], ◌∷◌, ◌++◌, Memᴰ as In}
use native.Mathlib.Omega.{arith}
use lib.IntN.{ℤ, pos, nat_abs, ◌+ℤ◌, +ℤ_idr}
use mir.Syntax.{w64}
use mir.Val.{to_z, of_z}
use mir.ValLaws.{to_z-of_z}
use Rattle.rules.specs.Lists.{keep}
use Rattle.rules.specs.Picture.{picture, Dart, one, ahead_x, ahead_y}
use Rattle.rules.specs.Graph.{meets}
use Rattle.rules.proofs.Lattice.Darts.{crack_y}
use Rattle.rules.proofs.Contours.Loops.{loop_of, loop_cracks}
use Rattle.rules.proofs.Contours.Counts.{met, met_append, met_one}
use Rattle.lattice.specs.declared.Size.{Size}
use Rattle.lattice.specs.declared.Walker.{Walker}
use Rattle.lattice.specs.Around.{node_in}
use Rattle.lattice.specs.Size.{pic}
use Rattle.lattice.specs.Walker.{dart_of}
use Rattle.lattice.proofs.Frame.{framed}
use Rattle.lattice.proofs.Ways.{node_in_lem}
use Rattle.face.specs.Contours.{east_marked, easts_marked, Starts}
use Rattle.face.proofs.contours.Marks.{east_marked_more}
use Rattle.face.proofs.contours.Rounds.{Round as Course, begin, few, may_move, going, gone}
use Rattle.face.proofs.contours.Walking.{Stepped, Sofar as Marked, is_over_lem}
use Rattle.veneer.specs.Sums.{total, signed}
use Rattle.veneer.specs.Steps.{Rounded}
use Rattle.veneer.proofs.Integers.{total_append}
use Rattle.veneer.proofs.Signed.{sum_size, small_fits}
use Rattle.veneer.proofs.Summing.{total_size, signed_size}

-- at the head of the loop
pub record Sofar (s : Size) (ls work₀ : List ℕ) (at : ℕ) (w : Walker) (region : ℕ) (work : List ℕ) (c : Walker) (n : ℕ) (t : ℤ) : Type 0 where
  pub done : List Dart
  pub course : Course s ls w region c done
  pub words : work ≡ easts_marked at s.width work₀ done
  pub nodes : n ≡ met (pic s ls) done
  pub sum : t ≡ total signed done

module _ {s : Size} {ls work₀ : List ℕ} {at : ℕ} {w : Walker} {region : ℕ} where
  pub nothing : Starts s ls w region → Sofar s ls work₀ at w region work₀ w 0 (pos 0)
  unfolding met keep
  nothing h = record { done = []; course = begin h; words = refl; nodes = refl; sum = refl }

  module _ {work : List ℕ} {c : Walker} {n : ℕ} {t : ℤ} (o : Sofar s ls work₀ at w region work c n t) where
    -- without the sum
    pub marked : Marked s ls work₀ at w region work c n
    marked = record { done = o.done; round = o.course; words = o.words; nodes = o.nodes }

    -- the sum has room for another step
    pub small_sum : nat_abs t ≤ 4611686018427387904
    unfolding picture
    small_sum =
        let P = pic s ls in
        let low : (a : Dart) → In a o.done → nat_abs (signed a) ≤ 16384 =
        λ a i.
        let j : In a (loop_of P (dart_of w)) = subst (In a) (sym o.course.whole) (in_left (dart_of c ∷ o.course.more) i) in
        omega (arith, signed_size a, crack_y (framed s ls) a (loop_cracks (framed s ls) (dart_of w) o.course.starts.crack a j), o.course.starts.map.high) in
        omega (arith, ap nat_abs o.sum, total_size signed 16384 o.done low, few o.course)

    -- what is read back after it is the sum
    pub read_back : (r : ℤ) → r ≡ t +ℤ signed (dart_of c) → to_z w64 (of_z w64 r) ≡ t +ℤ signed (dart_of c)
    read_back r e =
        to_z-of_z w64 r (small_fits r (omega (arith, ap nat_abs e, sum_size t (signed (dart_of c)), small_sum, signed_size (dart_of c), (may_move o.course).down))) ∙ e

    -- after the step ahead
    module _ {work' : List ℕ} {c' : Walker} {n' : ℕ} {t' : ℤ} (u : Stepped s ls at region work c n work' c' n') (adds : t' ≡ t +ℤ signed (dart_of c)) where
      words_more : work' ≡ easts_marked at s.width work₀ (o.done ++ (dart_of c ∷ []))
      words_more = u.marks ∙ ap (λ (l : List ℕ). east_marked at s.width l (dart_of c)) o.words ∙ sym (east_marked_more at s.width work₀ o.done (dart_of c))

      nodes_more : n' ≡ met (pic s ls) (o.done ++ (dart_of c ∷ []))
      unfolding meets
      nodes_more =
          let P = pic s ls in
          let v = u.turned in
          let e : one (node_in v.around) ≡ one (meets P (dart_of c)) = ap one (ap node_in v.looks ∙ node_in_lem P (ahead_x (dart_of c)) (ahead_y (dart_of c))) in
          omega (arith, u.counts, o.nodes, met_append P o.done (dart_of c ∷ []), met_one P (dart_of c))

      sum_more : t' ≡ total signed (o.done ++ (dart_of c ∷ []))
      sum_more =
          adds ∙ ap (λ k. k +ℤ signed (dart_of c)) o.sum
          ∙ sym (total_append signed o.done (dart_of c ∷ []) ∙ ap (λ k. total signed o.done +ℤ k) (+ℤ_idr (signed (dart_of c))))

      pub goes_on : (c' ≡ w → ⊥) → Sofar s ls work₀ at w region work' c' n' t'
      goes_on e = record { done = o.done ++ (dart_of c ∷ []); course = going o.course u.turned e; words = words_more; nodes = nodes_more; sum = sum_more }

      pub ends : c' ≡ w → Rounded s ls at w work₀ work' (record { nodes = n'; sum = t' })
      ends e = let g = gone o.course u.turned e in record { looped = is_over_lem marked u e; sum = rw g sum_more }
