-- The sums along the rows: they begin, go on, and are the pixel counts in the end.
use Prim.Native.Nat.{ℕ, suc, ◌<◌}
use mathlib.Core.Path.{◌≡◌, refl, sym, ap, ◌∙◌}
use mathlib.Core.Logic.{inl}
use mathlib.Core.List.{List, Memᴰ as In}
use native.Mathlib.Omega.{arith}
use lib.IntN.{ℤ}
use lib.ListN.{get_or}
use Rattle.rules.specs.Lists.{flat}
use Rattle.rules.specs.Picture.{picture, dart}
use Rattle.rules.specs.declared.Dir.TheVariants.{E}
use Rattle.rules.proofs.Ground.Lists.{in_at}
use Rattle.rules.proofs.Lattice.Darts.{crack_y}
use Rattle.rules.proofs.Contours.Loops.{IsPainted}
use Rattle.rules.proofs.Faces.FirstPixels.{first_in_lem}
use Rattle.store.proofs.Writes.{kept_none, kept_then}
use Rattle.lattice.specs.declared.Size.{Size}
use Rattle.lattice.specs.Size.{pic}
use Rattle.lattice.proofs.Frame.{framed}
use Rattle.face.specs.declared.contours.Found.{Found}
use Rattle.face.proofs.contours.Scanning.{row_over, row_loops, all_found}
use Rattle.veneer.specs.Sums.{total}
use Rattle.veneer.specs.Steps.{share, firsts_of, Measuring, Measures, MeasuredAll}
use Rattle.veneer.proofs.Loops.{shares_pixels}

module _ {s : Size} {ls : List ℕ} {at : ℕ} where
  pub begun : {x y : ℕ} {work : List ℕ} {numbers : List ℤ} {f : Found} → Measuring s ls at x y work numbers f → Measures s ls at x y work numbers work numbers f
  begun o = record { measuring = o; kept = kept_none; long = refl; past = λ k h. refl }

  pub then : {x y x' y' : ℕ} {work work' work'' : List ℕ} {numbers numbers' numbers'' : List ℤ} {f f' : Found}
      → Measures s ls at x y work numbers work' numbers' f → Measures s ls at x' y' work' numbers' work'' numbers'' f' → Measures s ls at x' y' work numbers work'' numbers'' f'
  then a b = record { measuring = b.measuring; kept = kept_then a.kept b.kept; long = b.long ∙ a.long; past = λ k h. b.past k h ∙ a.past k h }

  pub row_end : {x y : ℕ} {work work₀ : List ℕ} {numbers numbers₀ : List ℤ} {f : Found} → x ≡ s.width → Measures s ls at x y work₀ numbers₀ work numbers f → Measures s ls at 0 (suc y) work₀ numbers₀ work numbers f
  row_end e m =
      let o = m.measuring in
      record {
        measuring = record {
          word = o.word;
          scan = row_over o.scan e;
          behind = o.behind;
          named = o.named;
          long = o.long;
          shares = λ k h. o.shares k h ∙ ap (total (share (pic s ls) (get_or (firsts_of s ls) k 0))) (sym (row_loops o.scan e));
        };
        kept = m.kept;
        long = m.long;
        past = m.past;
      }

  pub all_measured : {y : ℕ} {work work₀ : List ℕ} {numbers numbers₀ : List ℤ} {f : Found} → s.height < y → Measures s ls at 0 y work₀ numbers₀ work numbers f → MeasuredAll s ls at work₀ numbers₀ work numbers f
  unfolding picture
  all_measured {y} h m = record {
    found = all_found m.measuring.scan h m.measuring.word m.kept;
    pixels = record {
      pixels = λ k l.
          m.measuring.shares k l
          ∙ shares_pixels (framed s ls) m.measuring.word m.measuring.scan.cs m.measuring.scan.loops easts (get_or (firsts_of s ls) k 0) (first_in_lem (pic s ls) s.paints (get_or (firsts_of s ls) k 0) (in_at (firsts_of s ls) k 0 l));
      long = m.long;
      past = m.past;
    };
  }
    where
      easts : (i j : ℕ) → IsPainted (pic s ls) s.paints (dart i j E) → In (dart i j E) (flat m.measuring.scan.cs)
      easts i j p = m.measuring.scan.done i j (inl (omega (arith, crack_y (framed s ls) (dart i j E) p.cracked, h))) p
