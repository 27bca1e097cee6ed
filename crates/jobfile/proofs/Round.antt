-- Written and painted: an accepted map's file gives its painted labels back, those give the same bytes, and the reader's test is exact.
use Prim.Native.Nat.{ℕ, ◌*◌, ◌<◌, ◌≤◌}
use mathlib.Core.Bool.{Bool, true, false, not, false≢true}
use mathlib.Core.Path.{◌≡◌, refl, sym, ap, ap₂, ◌∙◌, subst}
use mathlib.Core.List.{List, [], ◌∷◌, ◌++◌, map}
use native.Mathlib.Omega.{arith}
use lib.Dec.{leb, ltb, eqb}
use lib.ListN.{length, drop, replicate, length-map}
use borrow.Author.Tests.{leb-true, le-leb, le-ltb, lt-ltb, eqb-true, eq-eqb}
use Rattle.rules.specs.Lists.{flat, upto}
use Rattle.rules.specs.Picture.{OUTSIDE, seen, picture}
use Rattle.rules.specs.Graph.{segments}
use Rattle.rules.specs.Face.{faces}
use Rattle.rules.specs.Calls.{Map, picture_of, Accepted, first_hit, store_after}
use Rattle.rules.proofs.Ground.Booleans.{both, and_left, and_right}
use Rattle.rules.proofs.Ground.Lists.{length_upto}
use Rattle.rules.proofs.Waste.{seen_elim, seen_below, picture_cleared}
use Rattle.jobfile.specs.JobFile.{waste_free, painted_map, word, word_bytes, Entry, bytes_of, map_entry, segment_entry, face_entry, file_entries, file_bytes, file_of}
use Rattle.jobfile.specs.Entries.{word_at, body_length, kind_of, headed}
use Rattle.jobfile.specs.Painted.{paint_all, painted, same_bytes, MadeFrom, is_file, read_words, Read, read}
use Rattle.jobfile.proofs.Readback.{width_back, height_back, paints_back, painted_back}
use Rattle.jobfile.proofs.Soundness.{file_sound}

-- THE PAINTED LABELS, painted again

seen_again : (b l : ℕ) → seen b (seen b l) ≡ seen b l
seen_again b l = seen_elim (λ n. seen b n ≡ n) b l (λ h. seen_below b l h) (λ h. seen_elim (λ n. n ≡ OUTSIDE) b OUTSIDE (λ k. refl) (λ k. refl))

all_again : (b : ℕ) (ls : List ℕ) → map (seen b) (map (seen b) ls) ≡ map (seen b) ls
all_again b [] = refl
all_again b (l ∷ ls) = ap₂ (λ k t. k ∷ t) (seen_again b l) (all_again b ls)

pub painted_twice : (m : Map) → painted_map (painted_map m) ≡ painted_map m
painted_twice m =
    λ i. record { width = m.width; height = m.height; paints = m.paints; bound = OUTSIDE; labels = all_again m.paints m.labels i }

pub painted_accepted : (m : Map) → Accepted m → Accepted (painted_map m)
painted_accepted m a = record { wide = a.wide; tall = a.tall; size = length-map m.labels (seen m.paints) ∙ a.size; word = a.word }

-- WRITING THE PAINTED LABELS gives the same bytes
pub written_again : (m : Map) → Accepted m → file_of (painted_map m) ≡ file_of m
unfolding file_of file_entries map_entry
written_again m a =
    let k = a.word in
    ap (λ P. file_bytes (file_entries m (segments P) (faces P (segments P) m.paints)))
    (picture_cleared m.width m.height m.paints (map (seen m.paints) m.labels) k
    ∙ ap (picture m.width m.height OUTSIDE) (all_again m.paints m.labels)
    ∙ sym (picture_cleared m.width m.height m.paints m.labels k))

-- THE FIRST RECORD
module _ (m : Map) (a : Accepted m) (few : m.paints ≤ 65535) (es : List Entry) where
  abbrev front : List ℕ
  front = file_bytes (map_entry m ∷ es)

  long : 18 ≤ length front
  unfolding file_bytes flat bytes_of map_entry word word_bytes
  long = omega arith

  twelve : body_length front ≡ 12
  unfolding body_length word_at file_bytes flat bytes_of map_entry word word_bytes
  twelve = refl

  first_kind : kind_of front ≡ 1
  unfolding kind_of file_bytes flat bytes_of map_entry word word_bytes
  first_kind = refl

  header : headed front ≡ true
  unfolding headed
  header =
      let w = width_back m es (omega (arith, a.wide)) in
      let h = height_back m es (omega (arith, a.tall)) in
      let p = paints_back m es (omega (arith, few)) in
      both (leb 18 (length front)) _ (le-leb 18 (length front) long)
      (both (eqb (body_length front) 12) _ (eq-eqb (body_length front) 12 twelve)
      (both (eqb (kind_of front) 1) _ (eq-eqb (kind_of front) 1 first_kind)
      (both (leb (word_at front 6) 16384) _ (le-leb (word_at front 6) 16384 (omega (arith, a.wide)))
      (both (leb (word_at front 10) 16384) _ (le-leb (word_at front 10) 16384 (omega (arith, a.tall)))
      (le-leb (word_at front 14) 65535 (omega (arith, few)))))))

-- EQUAL BYTES

same_true : (l m : List ℕ) → same_bytes l m ≡ true → l ≡ m
unfolding same_bytes
same_true [] [] e = refl
same_true [] (b ∷ m) e = absurd (false≢true e)
same_true (a ∷ l) [] e = absurd (false≢true e)
same_true (a ∷ l) (b ∷ m) e = ap₂ (λ a l. a ∷ l) (eqb-true a b (and_left (eqb a b) (same_bytes l m) e)) (same_true l m (and_right (eqb a b) (same_bytes l m) e))

same_refl : (l : List ℕ) → same_bytes l l ≡ true
unfolding same_bytes
same_refl [] = refl
same_refl (a ∷ l) = both (eqb a a) (same_bytes l l) (eq-eqb a a refl) (same_refl l)

same_is : (l m : List ℕ) → l ≡ m → same_bytes l m ≡ true
same_is l m e = subst (λ m. same_bytes l m ≡ true) e (same_refl l)

-- A FILE that the writer makes from a map is headed, passes the test, and paints the map's painted labels
pub record Reads (b : List ℕ) (m : Map) : Type 0 where
  pub head : headed b ≡ true
  pub file : is_file b ≡ true
  pub map : painted b ≡ painted_map m

written_reads : (m : Map) → Accepted m → m.paints ≤ 65535 → Reads (file_of m) m
unfolding is_file file_of file_entries
written_reads m a few =
    let p = painted_back m a few (file_sound m a few) in
    let P = picture_of (waste_free m) in
    record {
      head = header m a few (map segment_entry (segments P) ++ map (face_entry m.width) (faces P (segments P) m.paints));
      file = same_is (file_of (painted (file_of m))) (file_of m) (ap file_of p ∙ written_again m a);
      map = p;
    }

pub made_reads : (b : List ℕ) (m : Map) → MadeFrom b m → Reads b m
made_reads b m k = subst (λ b. Reads b m) k.bytes (written_reads m k.accepted k.few)

-- ONE PICTURE: a file tells the painted labels
pub one_picture : (b : List ℕ) (m n : Map) → MadeFrom b m → MadeFrom b n → painted_map m ≡ painted_map n
one_picture b m n k l = sym (made_reads b m k).map ∙ (made_reads b n l).map

-- THE TEST IS EXACT: headed bytes that pass it are made from the map that they paint
pub reads_made : (b : List ℕ) → headed b ≡ true → is_file b ≡ true → MadeFrom b (painted b)
unfolding is_file headed painted paint_all
reads_made b h f =
    let w = word_at b 6 in
    let t = word_at b 10 in
    let p = word_at b 14 in
    let h₁ = and_right (leb 18 (length b)) _ h in
    let h₂ = and_right (eqb (body_length b) 12) _ h₁ in
    let h₃ = and_right (eqb (kind_of b) 1) _ h₂ in
    let h₄ = and_right (leb w 16384) _ h₃ in
    let few = leb-true p 65535 (and_right (leb t 16384) (leb p 65535) h₄) in
    record {
      accepted = record {
        wide = leb-true w 16384 (and_left (leb w 16384) _ h₃);
        tall = leb-true t 16384 (and_left (leb t 16384) (leb p 65535) h₄);
        size = length-map (upto (w * t) 0) _ ∙ length_upto (w * t) 0;
        word = omega arith;
      };
      few = few;
      bytes = same_true (file_of (painted b)) b f;
    }

-- bytes that no accepted map's file is do not pass it
pub not_made : (b : List ℕ) → headed b ≡ true → ((m : Map) → MadeFrom b m → ⊥) → is_file b ≡ false
not_made b h n = go (is_file b) refl
  where
    go : (t : Bool) → is_file b ≡ t → is_file b ≡ false
    go true e = absurd (n (painted b) (reads_made b h e))
    go false e = e

-- THE READER'S OUTCOME, for all bytes and stores

module _ (b work labels : List ℕ) where
  abbrev cleared : List ℕ
  cleared = replicate (read_words b) 0 ++ drop (read_words b) work

  abbrev outcome : ℕ → List ℕ → List ℕ → Read
  outcome n w l = record { number = n; work = w; labels = l }

  -- by the four tests: headed, a short work store, the file of a map, a short label store
  by_tests : Bool → Bool → Bool → Bool → Read
  by_tests t u v x =
      let early = first_hit (record { number = 14; hits = not t } ∷ record { number = 3; hits = u } ∷ []) in
      let late = first_hit (record { number = 14; hits = not v } ∷ record { number = 13; hits = x } ∷ []) in
      elim (eqb early 0) [
        | true ↦ outcome late cleared (store_after late (painted b).labels labels)
        | false ↦ outcome early work labels
      ]

  tested : read b work labels ≡ by_tests (headed b) (ltb (length work) (read_words b)) (is_file b) (ltb (length labels) (length (painted b).labels))
  unfolding read by_tests
  tested = refl

  case : (t u v x : Bool) → headed b ≡ t → ltb (length work) (read_words b) ≡ u → is_file b ≡ v → ltb (length labels) (length (painted b).labels) ≡ x
      → read b work labels ≡ by_tests t u v x
  case t u v x p q r s = tested ∙ (λ i. by_tests (p i) (q i) (r i) (s i))

  -- 14: another first record
  pub read_unheaded : headed b ≡ false → read b work labels ≡ outcome 14 work labels
  unfolding by_tests first_hit
  read_unheaded h = case false _ _ _ h refl refl refl

  module _ (h : headed b ≡ true) where
    -- 3: a short work store
    pub read_short : length work < read_words b → read b work labels ≡ outcome 3 work labels
    unfolding by_tests first_hit
    read_short s = case true true _ _ h (lt-ltb (length work) (read_words b) s) refl refl

    module _ (room : read_words b ≤ length work) where
      roomy : ltb (length work) (read_words b) ≡ false
      roomy = le-ltb (length work) (read_words b) room

      -- 14: the writer makes this file from no accepted map
      pub read_none : ((m : Map) → MadeFrom b m → ⊥) → read b work labels ≡ outcome 14 cleared labels
      unfolding by_tests first_hit store_after
      read_none n = case true false false _ h roomy (not_made b h n) refl

      module _ (m : Map) (k : MadeFrom b m) where
        labels_are : (painted b).labels ≡ (painted_map m).labels
        labels_are = ap (λ m. m.labels) (made_reads b m k).map

        -- 13: a short label store
        pub read_cut : length labels < length (painted_map m).labels → read b work labels ≡ outcome 13 cleared labels
        unfolding by_tests first_hit store_after
        read_cut s =
            let c : length labels < length (painted b).labels = subst (λ l. length labels < length l) (sym labels_are) s in
            case true false true true h roomy (made_reads b m k).file (lt-ltb (length labels) (length (painted b).labels) c)

        -- 0: the painted labels of the map that the file was made from
        pub read_painted : length (painted_map m).labels ≤ length labels
            → read b work labels ≡ outcome 0 cleared ((painted_map m).labels ++ drop (length (painted_map m).labels) labels)
        unfolding by_tests first_hit store_after
        read_painted s =
            let c : length (painted b).labels ≤ length labels = subst (λ l. length l ≤ length labels) (sym labels_are) s in
            case true false true false h roomy (made_reads b m k).file (le-ltb (length labels) (length (painted b).labels) c)
            ∙ (λ i. outcome 0 cleared (labels_are i ++ drop (length (labels_are i)) labels))
