-- Two benches, one panel (docs/RULES.md, #110): a bench's listing depends only on where its own painted labels lie.
use Prim.Native.Nat.{ℕ, ◌+◌, ◌*◌, ◌<◌, ◌≤◌}
use mathlib.Core.Bool.{Bool, true, false, cond, not, ◌||◌}
use mathlib.Core.Path.{◌≡◌, refl, sym, ap, ap₂, ◌∙◌, subst}
use mathlib.Core.Logic.{◌↔◌}
use mathlib.Core.List.{List, [], ◌∷◌, ◌++◌, map, Memᴰ as In}
use native.Mathlib.Omega.{arith}
use lib.Dec.{ltb, eqb}
use lib.ListN.{length, get_or, replicate, drop}
use Rattle.rules.specs.Lists.{flat, among}
use Rattle.rules.specs.Picture.{picture, seen, OUTSIDE}
use Rattle.rules.specs.Graph.{segments}
use Rattle.rules.specs.Face.{faces}
use Rattle.rules.specs.Calls.{Map, Accepted, label_at, first_hit, map_checks, work_words, early, work_after, store_after}
use Rattle.rules.proofs.Ground.Lists.{keep_same, among_in, in_among}
use Rattle.rules.proofs.Ground.Booleans.{same_tests}
use Rattle.rules.proofs.Lattice.Frame.{picture_framed}
use Rattle.rules.proofs.Tracing.Partition.{describes}
use Rattle.rules.proofs.Faces.Faced.{faced}
use Rattle.rules.proofs.Waste.{seen_elim, seen_below}
use Rattle.benches.specs.Listing.{piece_words, listing_words, listing_of, faces_of, listing_checks, listing}
use Rattle.benches.specs.Benches.{SameShape, AgreeOn}
use Rattle.benches.proofs.MapPairs.{everywhere}
use Rattle.benches.proofs.SameListing.{SamePlaces, same_listing}

-- where they agree on each painted label that is named, each read in a mode of its own
pub two_benches : (m n : Map) → Accepted m → Accepted n → SameShape m n
    → (named : List ℕ) → ((l : ℕ) → In l named → l < m.paints → AgreeOn m n l)
    → listing_of m named ≡ listing_of n named
unfolding listing_of picture
two_benches m n a b e named s =
    let w = m.width in
    let h = m.height in
    let F = picture_framed w h m.bound m.labels in
    let G = picture_framed w h n.bound n.labels in
    let size : length n.labels ≡ w * h = b.size ∙ sym (ap₂ (λ u v. u * v) e.width e.height) in
    let same : (l : ℕ) → In l named → l < m.paints → SamePlaces (picture w h m.bound m.labels) (picture w h n.bound n.labels) l =
    λ l i k x y. everywhere w h m.bound n.bound m.labels n.labels a.size size (λ c d. (c ≡ l) ↔ (d ≡ l)) (λ e. e, λ e. e) x y
    (λ u v p q hu hv. subst (λ k. (label_at m u v ≡ l) ↔ (seen n.bound (get_or n.labels (v * k + u) 0) ≡ l)) (sym e.width) (s l i k u v hu hv)) in
    same_listing F G m.paints named same (describes F) (describes G) a.word
    ∙ (λ i. let P = picture (e.width i) (e.height i) n.bound n.labels in listing_words (segments P) named (faces P (segments P) (e.paints i)))

-- EITHER MODE: a painted label is read as it is in both, so a bench's listing is the same

-- the map with the labels at and above b read as OUTSIDE
abbrev pub read_to : ℕ → Map → Map
read_to b m = record { width = m.width; height = m.height; paints = m.paints; bound = b; labels = m.labels }

seen_is : (paints b l v : ℕ) → paints ≤ b → paints ≤ OUTSIDE → l < paints → (seen b v ≡ l) ↔ (v ≡ l)
seen_is paints b l v k j h =
    (seen_elim (λ n. n ≡ l → v ≡ l) b v (λ z e. e) (λ z e. absurd (omega (arith, e))), λ e. ap (seen b) e ∙ seen_below b l (omega arith))

pub either_mode : (m : Map) → Accepted m → (b : ℕ) → m.paints ≤ b → m.paints ≤ m.bound → (named : List ℕ) → listing_of (read_to b m) named ≡ listing_of m named
either_mode m a b k j named =
    two_benches (read_to b m) m (record { wide = a.wide; tall = a.tall; size = a.size; word = a.word }) a
    (record { width = refl; height = refl; paints = refl }) named
    (λ l i h x y hx hy.
    let v = get_or m.labels (y * m.width + x) 0 in
    let p = seen_is m.paints b l v k a.word h in
    let q = seen_is m.paints m.bound l v j a.word h in
    (λ e. q.1 (p.0 e), λ e. p.1 (q.0 e)))

-- NAMES: twice counts once, and an unpainted label has no pieces

pub same_names : (m : Map) → Accepted m → (named others : List ℕ) → ((l : ℕ) → l < m.paints → In l named ↔ In l others) → listing_of m named ≡ listing_of m others
unfolding listing_of listing_words picture
same_names m a named others f =
    let F = picture_framed m.width m.height m.bound m.labels in
    ap (λ fs. flat (map (piece_words (segments (picture m.width m.height m.bound m.labels))) fs))
    (keep_same (λ f. among f.region named) (λ f. among f.region others) (faces_of m)
    (λ g i.
    let t = f g.region ((faced F (describes F) a.word).face g i).painted in
    same_tests (among g.region named) (among g.region others)
    (λ e. in_among g.region others (t.0 (among_in g.region named e))) (λ e. in_among g.region named (t.1 (among_in g.region others e)))))

-- THE CALL: with the same stores lent, everything that it answers and leaves is the same

same_work : (m n : Map) → SameShape m n → (work : List ℕ) (k : ℕ) → work_after m k work ≡ work_after n k work
unfolding work_after
same_work m n e work k = go (early k)
  where
    go : (t : Bool) → ◌≡◌ {A = List ℕ} (elim t [ true ↦ work | false ↦ replicate (work_words m) 0 ++ drop (work_words m) work ]) (elim t [ true ↦ work | false ↦ replicate (work_words n) 0 ++ drop (work_words n) work ])
    go true = refl
    go false = ap (λ k. replicate k 0 ++ drop k work) (ap₂ (λ u v. 8 * (u + 1) * (v + 1)) e.width e.height)

pub two_benches_call : (m n : Map) → Accepted m → Accepted n → SameShape m n
    → (named : List ℕ) → ((l : ℕ) → In l named → l < m.paints → AgreeOn m n l)
    → (work store : List ℕ) → listing m work named store ≡ listing n work named store
unfolding listing map_checks
two_benches_call m n a b e named s work store =
    let words = two_benches m n a b e named s in
    let labels : length m.labels ≡ length n.labels = a.size ∙ ap₂ (λ u v. u * v) e.width e.height ∙ sym b.size in
    let number : first_hit (map_checks m work ++ listing_checks (listing_of m named) store) ≡ first_hit (map_checks n work ++ listing_checks (listing_of n named) store) =
    λ i. first_hit ((
    record { number = 1; hits = ltb 16384 (e.width i) || ltb 16384 (e.height i) } ∷
    record { number = 2; hits = not (eqb (labels i) (e.width i * e.height i)) } ∷
    record { number = 3; hits = ltb (length work) (8 * (e.width i + 1) * (e.height i + 1)) } ∷ []
    ) ++ listing_checks (words i) store) in
    λ i. record {
      answer = record { number = number i; length = cond (eqb (number i) 0) (length (words i)) 0 };
      stores = same_work m n e work (number i) i ∷ store_after (number i) (words i) store ∷ [];
    }
