-- A crack is an edge of the frame.
use Rattle.std.proofs.Common.{◌≡◌, ℕ, suc, pred, ◌<◌, true, List, ap, arith}
use Rattle.rules.specs.Picture.{Picture, picture, Dart, dart, turned, to_x, to_y, crack}
use Rattle.rules.specs.declared.Dir.{Dir}
use Rattle.rules.specs.declared.Dir.TheVariants.{N, E, S, W}
use Rattle.rules.proofs.Lattice.Frame.{Framed, picture_framed}
use Rattle.rules.proofs.Lattice.Darts.{crack_x, crack_y, crack_to_x, crack_to_y, turned_turned}
use Rattle.lattice.specs.declared.Size.{Size}
use Rattle.lattice.specs.declared.Walker.{Walker}
use Rattle.lattice.specs.Size.{pic}
use Rattle.lattice.specs.Walker.{Edge, dart_of}

module _ {P : Picture} (F : Framed P) (x y : ℕ) where
  pub north : crack P (dart x y N) ≡ true → 0 < y
  unfolding turned to_y
  north c = let e : suc (pred y) ≡ y = ap (λ (b : Dart). b.y) (turned_turned F (dart x y N) c) in omega arith

  pub west : crack P (dart x y W) ≡ true → 0 < x
  unfolding turned to_x
  west c = let e : suc (pred x) ≡ x = ap (λ (b : Dart). b.x) (turned_turned F (dart x y W) c) in omega arith

  pub east : crack P (dart x y E) ≡ true → x < P.w
  unfolding to_x
  east c = crack_to_x F (dart x y E) c

  pub south : crack P (dart x y S) ≡ true → y < P.h
  unfolding to_y
  south c = crack_to_y F (dart x y S) c

pub framed : (s : Size) (ls : List ℕ) → Framed (pic s ls)
framed s ls = picture_framed s.width s.height s.bound ls

pub crack_edge : (s : Size) (ls : List ℕ) (a : Walker) → crack (pic s ls) (dart_of a) ≡ true → Edge s a
unfolding picture
crack_edge s ls a k = record {
  across = crack_x F (dart_of a) k;
  down = crack_y F (dart_of a) k;
  north = λ e. north F a.x a.y (at e);
  east = λ e. east F a.x a.y (at e);
  south = λ e. south F a.x a.y (at e);
  west = λ e. west F a.x a.y (at e);
}
  where
    F : Framed (pic s ls)
    F = framed s ls

    at : {d : Dir} → a.d ≡ d → crack (pic s ls) (dart a.x a.y d) ≡ true
    at e = rw (← e) k
