-- The contours that are found and strung are those of the listing.
use Prim.Native.Nat.{ℕ, suc, ◌+◌, ◌*◌, ◌-◌, ◌<◌, ◌≤◌}
use mathlib.Core.Path.{◌≡◌, sym, ap, ◌∙◌, subst}
use mathlib.Core.Bool.{true}
use mathlib.Core.Logic.{inl, inr}
use mathlib.Core.List.{List, ◌∷◌, map, map-map, Memᴰ as In}
use native.Mathlib.Omega.{arith}
use lib.Dec.{eqb}
use lib.ListN.{length, get_or, replicate, length-replicate, length-map}
use lib.Seq.{sets}
use borrow.Author.Tests.{eqb-true}
use Rattle.rules.specs.Lists.{keep, flat, upto}
use Rattle.rules.specs.Picture.{Picture, picture, Dart, dart, left, crack}
use Rattle.rules.specs.declared.Dir.TheVariants.{E}
use Rattle.rules.specs.Face.{no_dart, label_of, island}
use Rattle.benches.specs.Listing.{loop_words, listing_of}
use Rattle.rules.proofs.Ground.Lists.{in_at, upto_in, keep_in, keep_same, keep_few, length_upto, map_same, at_map}
use Rattle.rules.proofs.Lattice.Frame.{Framed}
use Rattle.rules.proofs.Tracing.Partition.{describes}
use Rattle.rules.proofs.Contours.Loops.{loop_of}
use Rattle.benches.proofs.Scan.{EastSouth, Wanted, loops, scan_listing}
use Rattle.benches.proofs.SameListing.{named_firsts, named_first, island_words}
use Rattle.benches.proofs.Lengths.{listing_word}
use Rattle.store.specs.Words.{Kept}
use Rattle.store.proofs.Parts.{part_same, part_at, part_in}
use Rattle.store.proofs.Writes.{sets_kept, filled, kept_then, kept_within}
use Rattle.lattice.specs.declared.Size.{Size}
use Rattle.lattice.specs.declared.Walker.{Walker}
use Rattle.lattice.specs.Size.{pic}
use Rattle.lattice.specs.Planes.{plane}
use Rattle.lattice.specs.Walker.{dart_of}
use Rattle.lattice.proofs.Frame.{framed}
use Rattle.lattice.proofs.Planes.{plane_low}
use Rattle.face.specs.Contours.{Starts}
use Rattle.assemble.proofs.Lists.{keep_numbers}
use Rattle.listing.specs.Starts.{start_of, code_of}
use Rattle.listing.specs.Writing.{Chain, start_in, next_in, head_in, contours_in, loop_in, piece_in, islands_in, pieces_in, Strung}
use Rattle.listing.specs.Finding.{isle_in, Ready, Finding, Threadable, members, Threads}
use Rattle.listing.specs.Preparing.{Chosen, words_of, Prepared}
use Rattle.listing.proofs.Chains.{chain_walked}
use Rattle.listing.proofs.Choosing.{own_label}
use Rattle.listing.proofs.Codes.{walker_of, walker_dart, start_is}
use Rattle.listing.proofs.Rows.{rows_over}
use Rattle.listing.proofs.Finding.{corner_of_lem, found_room, nothing_yet, side_flanked, isle_first, isle_label, isle_is, head_chosen}

module _ {s : Size} {ls names work₀ : List ℕ} {n : ℕ} {work₁ : List ℕ} (ch : Chosen s ls names work₀ n work₁) where
  abbrev P : Picture
  P = pic s ls

  abbrev F : Framed P
  F = framed s ls

  abbrev C : ℕ
  C = plane s.width s.height

  abbrev r : Ready s ls names work₁
  r = ch.ready

  pixels_in : s.width * s.height ≤ C
  pixels_in = omega arith

  pub blankable : 0 + 2 * C ≤ length work₁
  blankable = omega (arith, r.room)

  -- WITHOUT MARKS
  module _ {work₂ : List ℕ} (e₂ : work₂ ≡ sets work₁ 0 (replicate (2 * C) 0)) where
    kept₂ : Kept 0 (3 * C) work₁ work₂
    kept₂ = rw e₂ (kept_within (omega arith) (omega (arith, length-replicate {A = ℕ} (2 * C) 0)) (sets_kept work₁ 0 (replicate (2 * C) 0)))

    pub begun : Finding s ls names work₁ (dart 0 0 E) 0 work₂
    begun = nothing_yet r (λ i h. let z : 0 + i ≡ i = omega arith in rw e₂ (rw z at (filled work₁ 0 (2 * C) 0 i blankable h))) kept₂

  -- THE CONTOURS found
  module _ {count : ℕ} {work₃ : List ℕ} (f : Finding s ls names work₁ (dart 0 (suc s.height) E) count work₃) where
    abbrev start : ℕ → Dart
    start j = get_or f.starts j no_dart

    few : count ≤ C
    few = omega (arith, found_room r f.found, f.count)

    module _ (j : ℕ) (h : j < count) where
      abbrev w : Walker
      w = start_in s work₃ j

      its : EastSouth (start j).d × Wanted P s.paints names (start j)
      its = f.sides (start j) (in_at f.starts j no_dart (omega (arith, f.count)))

      word_is : get_or work₃ (2 * C + j) 0 ≡ code_of s (start j)
      word_is = sym (part_at work₃ (2 * C) count j h) ∙ ap (λ (l : List ℕ). get_or l j 0) f.listed ∙ at_map (code_of s) f.starts j no_dart 0 (omega (arith, f.count))

      walker_is : w ≡ walker_of (start j)
      walker_is = ap (start_of s) word_is ∙ start_is s (start j) (corner_of_lem r (start j) its.1.cracked).across its.0

      pub dart_is : dart_of w ≡ start j
      dart_is = ap dart_of walker_is ∙ walker_dart (start j)

      cracked : crack P (dart_of w) ≡ true
      cracked = ap (crack P) dart_is ∙ its.1.cracked

      painted : left P (dart_of w) < s.paints
      painted = let z = ap (left P) dart_is in let y = its.1.painted in omega (arith, z, y)

      isle : isle_in s work₃ j ≡ island P (start j)
      isle = isle_is r w cracked painted f.kept ∙ ap (island P) dart_is

      isle_low : isle_in s work₃ j < C
      unfolding picture
      isle_low = let z = (isle_first r w cracked painted).on in omega (arith, isle_is r w cracked painted f.kept, z, pixels_in)

      left_is : left P (dart_of w) ≡ label_of P (isle_in s work₃ j)
      left_is = sym (isle_label r w cracked painted) ∙ ap (label_of P) (sym (isle_is r w cracked painted f.kept))

    pub threadable : Threadable s count work₃
    threadable = record {
      sides = record { wide = r.map.wide; high = r.map.high };
      few = few;
      room = omega (arith, r.room, f.kept.long);
      flanked = λ j h. side_flanked r (w j h) (cracked j h) (painted j h);
      inside = isle_low;
      empty = λ j h. ap (head_in s work₃) (isle_is r (w j h) (cracked j h) (painted j h) f.kept) ∙ head_chosen r (w j h) (cracked j h) (painted j h) f.kept (subst (λ a. In (left P a) names) (sym (dart_is j h)) (its j h).1.named);
    }

    -- STRUNG
    module _ {work₄ : List ℕ} (t : Threads s count work₃ 0 work₄) where
      kept₄ : Kept 0 (8 * C) work₀ work₄
      kept₄ = kept_then ch.kept (kept_then {ws' = work₃} (kept_within (omega arith) (omega arith) f.kept) (kept_within (omega arith) (omega arith) t.kept))

      same_start : (j : ℕ) → j < count → start_in s work₄ j ≡ start_in s work₃ j
      same_start j h = ap (start_of s) (t.kept.others (2 * C + j) (inl (omega (arith, few))))

      dart₄ : (j : ℕ) → j < count → dart_of (start_in s work₄ j) ≡ start j
      dart₄ j h = ap dart_of (same_start j h) ∙ dart_is j h

      listed₄ : islands_in s work₄ n ≡ named_firsts P s.paints names
      listed₄ = part_same work₄ work₁ (6 * C) (6 * C) n (λ i h. t.kept.others (6 * C + i) (inr (omega arith)) ∙ f.kept.others (6 * C + i) (inr (omega arith))) ∙ ch.listed

      abbrev of : ℕ → List Dart
      of p = keep (λ a. eqb (island P a) p) f.starts

      -- the contours of a named island
      module _ (p : ℕ) (i : In p (named_firsts P s.paints names)) where
        abbrev mem : List ℕ
        mem = members s work₃ count 0 p

        on : p < s.width * s.height
        unfolding picture
        on = (named_first P s.paints names p i).first.on

        chain_of_lem : contours_in s work₄ p ≡ mem
        unfolding contours_in
        chain_of_lem = let q = named_first P s.paints names p i in chain_walked (next_in s work₄) 4294967296 (head_in s work₄ p) mem
            (t.lists p (omega (arith, on, pixels_in)) (f.kept.others (4 * C + p) (inr (omega arith)) ∙ r.chosen p q.first q.named))
            (omega (arith, mem_few, few, plane_low s.width s.height r.map.wide r.map.high))
          where
            mem_few : length mem ≤ count
            mem_few = omega (arith, keep_few (λ j. eqb (isle_in s work₃ j) p) (upto (count - 0) 0), length_upto (count - 0) 0)

        member : (j : ℕ) → In j mem → (j < count) × (isle_in s work₃ j ≡ p)
        member j m =
            let k = keep_in (λ j. eqb (isle_in s work₃ j) p) (upto (count - 0) 0) j m in
            let u = upto_in (count - 0) 0 j k.0 in
            (omega arith, eqb-true (isle_in s work₃ j) p k.1)

        starts_are : map (λ j. dart_of (start_in s work₄ j)) mem ≡ of p
        starts_are =
            let z : count - 0 ≡ length f.starts = omega (arith, f.count) in
            map_same (λ j. dart_of (start_in s work₄ j)) start mem (λ j m. dart₄ j (member j m).0)
            ∙ ap (map start) (keep_same (λ j. eqb (isle_in s work₃ j) p) (λ j. eqb (island P (start j)) p) (upto (count - 0) 0) (λ j m. let u = upto_in (count - 0) 0 j m in ap (λ q. eqb q p) (isle j (omega arith))))
            ∙ ap (λ k. map start (keep (λ j. eqb (island P (start j)) p) (upto k 0))) z
            ∙ sym (keep_numbers (λ a. eqb (island P a) p) no_dart f.starts)

        loops_are : map (loop_in s ls work₄) (contours_in s work₄ p) ≡ map loop_words (loops P (of p))
        loops_are =
            let d : ℕ → Dart = λ j. dart_of (start_in s work₄ j) in
            ap (map (loop_in s ls work₄)) chain_of_lem
            ∙ sym (map-map loop_words (λ j. loop_of P (d j)) mem)
            ∙ ap (map loop_words) (sym (map-map (loop_of P) d mem) ∙ ap (map (loop_of P)) starts_are)

        many : length (contours_in s work₄ p) ≡ length (loops P (of p))
        many =
            sym (length-map (contours_in s work₄ p) (loop_in s ls work₄)) ∙ ap length loops_are ∙ length-map (loops P (of p)) loop_words

        piece_is : piece_in s ls work₄ p ≡ island_words P (λ p. loops P (of p)) p
        unfolding piece_in
        piece_is =
            λ k. own_label r.map r.paints p (named_first P s.paints names p i).first k ∷ many k ∷ flat (loops_are k)

        strung : Strung s ls work₄ p
        unfolding contours_in
        strung = record {
          map = r.map;
          on = on;
          chain = subst (λ (l : List ℕ). Chain (next_in s work₄) (head_in s work₄ p) l) (sym chain_of_lem) (let q = named_first P s.paints names p i in t.lists p (omega (arith, on, pixels_in)) (f.kept.others (4 * C + p) (inr (omega arith)) ∙ r.chosen p q.first q.named));
          few = omega (arith, ap length chain_of_lem, keep_few (λ j. eqb (isle_in s work₃ j) p) (upto (count - 0) 0), length_upto (count - 0) 0, few, plane_low s.width s.height r.map.wide r.map.high);
          begin = λ j m.
              let u = member j (subst (In j) chain_of_lem m) in
              subst (λ (v : Walker). Starts s ls v (get_or ls p 0)) (sym (same_start j u.0))
              (record { map = r.map; crack = cracked j u.0; left = left_is j u.0 ∙ ap (label_of P) u.1 ∙ sym (own_label r.map r.paints p (named_first P s.paints names p i).first) });
        }

      words : pieces_in s ls work₄ n ≡ words_of s ls names
      unfolding picture
      words =
          ap (λ l. flat (map (piece_in s ls work₄) l)) listed₄
          ∙ ap flat (map_same (piece_in s ls work₄) (island_words P (λ p. loops P (of p))) (named_firsts P s.paints names) piece_is)
          ∙ sym (scan_listing F (dart 0 (suc s.height) E) f.starts f.found (rows_over F) r.paints (describes F))

      short : length (words_of s ls names) < 4294967296
      unfolding listing_of
      short = listing_word (record { width = s.width; height = s.height; paints = s.paints; bound = s.bound; labels = ls }) (record { wide = r.map.wide; tall = r.map.high; size = r.map.count; word = r.paints }) names

      pub prepared : Prepared s ls names work₀ n work₄
      prepared = record {
        planned = record {
          map = r.map;
          few = ch.few;
          strung = λ i h. strung (get_or work₄ (6 * C + i) 0) (subst (In (get_or work₄ (6 * C + i) 0)) listed₄ (part_in work₄ (6 * C) n i h));
          short = omega (arith, ap length words, short);
        };
        words = words;
        kept = kept₄;
      }
