-- The outcome of the call of the listing, put together from its steps.
use Prim.Native.Nat.{ℕ, ◌*◌, ◌<◌, ◌≤◌}
use mathlib.Core.Bool.{cond}
use mathlib.Core.Path.{◌≡◌, sym, ap, ◌∙◌}
use mathlib.Core.List.{List, [], ◌∷◌, ◌++◌}
use native.Mathlib.Omega.{arith}
use native.Mathlib.Decide.{dec_lt}
use lib.Dec.{eqb}
use lib.ListN.{length, replicate}
use lib.Seq.{sets}
use borrow.Author.Tests.{lt-ltb, le-ltb, ne_eqb}
use Rattle.rules.specs.Calls.{Map, Check, first_hit, map_checks, work_after, store_after}
use Rattle.benches.specs.Listing.{listing_of, listing_checks, ListingOutcome, listing}
use Rattle.lattice.specs.declared.Size.{Size}
use Rattle.lattice.specs.Planes.{plane}
use Rattle.std.specs.Prelude.{Result, Ok, Err}
use Rattle.rules.specs.declared.Refusal.{Refusal}
use Rattle.rules.specs.Refusals.{number_of}
use Rattle.calls.proofs.Refusals.{positive, same_number}
use Rattle.listing.specs.Answers.{Answers}
use Rattle.listing.specs.Writing.{pieces_in}
use Rattle.listing.specs.Preparing.{Prepared}
use Rattle.calls.specs.Outcome.{map_of}
use Rattle.listing.specs.Listed.{length_of, listed}
use Rattle.calls.proofs.Outcomes.{Late, first, number_early, refused_work, refused_store, number_late, accepted_work, store_written, store_kept}
use Rattle.calls.proofs.Calls.{work_left}

module _ (s : Size) (ls work named store : List ℕ) where
  abbrev m : Map
  m = map_of s ls

  abbrev words : List ℕ
  words = listing_of m named

  abbrev more : List Check
  more = listing_checks words store

  pub listing_refused : (why : Refusal) → number_of why ≡ first m work → listed (Err why) (work ∷ store ∷ []) ≡ listing m work named store
  unfolding listing
  listing_refused why e =
      let n : first m work ≡ 0 → ⊥ = λ z. let h = positive why in omega (arith, h, e, z) in
      let k : first_hit (map_checks m work ++ more) ≡ first m work = number_early m work more n in
      let z : cond (eqb (first_hit (map_checks m work ++ more)) 0) (length words) 0 ≡ 0 = rw (k, ne_eqb (first m work) 0 n) in
      λ i. record {
        answer = record { number = (e ∙ sym k) i; length = sym z i };
        stores = sym (refused_work m work more n) i ∷ sym (refused_store m work more n words store) i ∷ [];
      }

  late : Late more
  unfolding listing_checks
  late = (omega arith, tt)

  -- the number, by whether the store has room
  short_number : length store < length words → first_hit more ≡ 13
  unfolding first_hit listing_checks
  short_number h = rw (lt-ltb (length store) (length words) h, first_hit)

  room_number : length words ≤ length store → first_hit more ≡ 0
  unfolding first_hit listing_checks
  room_number h = rw (le-ltb (length store) (length words) h, first_hit)

  module _ {n : ℕ} {a : Result ℕ Refusal} {work₁ work₂ store' : List ℕ} (z : first m work ≡ 0) (p : Prepared s ls named work n work₁)
      (w : Answers (pieces_in s ls work₁ n) store a store') (c : work₂ ≡ sets work₁ 0 (replicate (8 * plane s.width s.height) 0)) where
    words_are : pieces_in s ls work₁ n ≡ words
    unfolding listing_of
    words_are = p.words

    answers : Answers words store a store'
    answers = rw words_are at w

    abbrev number : ℕ
    number = first_hit (map_checks m work ++ more)

    number_is : number ≡ first_hit more
    number_is = number_late m work more late z

    worked : work₂ ≡ work_after m number work
    worked = work_left s ls work work₁ work₂ z p.kept c ∙ sym (accepted_work m work more late z)

    pub listing_answered : listed a (work₂ ∷ store' ∷ []) ≡ listing m work named store
    unfolding listing
    listing_answered = go (dec_lt (length store) (length words))
      where
        go : Dec (length store < length words) → listed a (work₂ ∷ store' ∷ []) ≡ listing m work named store
        go (yes h) =
            let r = answers.short h in
            let k : number ≡ 13 = number_is ∙ short_number h in
            let l : cond (eqb number 0) (length words) 0 ≡ 0 = rw k in
            λ i. record {
              answer = record { number = (ap (λ a. (length_of a).number) r.0 ∙ sym k) i; length = (ap (λ a. (length_of a).length) r.0 ∙ sym l) i };
              stores = worked i ∷ (r.1 ∙ store_kept number words store (λ y. omega (arith, k, y))) i ∷ [];
            }
        go (no h) =
            let r = answers.fits (omega arith) in
            let k : number ≡ 0 = number_is ∙ room_number (omega arith) in
            let l : cond (eqb number 0) (length words) 0 ≡ length words = rw k in
            λ i. record {
              answer = record { number = (ap (λ a. (length_of a).number) r.0 ∙ sym k) i; length = (ap (λ a. (length_of a).length) r.0 ∙ sym l) i };
              stores = worked i ∷ (store_written words store store' (omega arith) r.1 ∙ ap (λ (n : ℕ). store_after n words store) (sym k)) i ∷ [];
            }

-- ONE OUTCOME: two results that meet the call's promise on the same input are equal, answer and both stores
pub one_listing : (o : ListingOutcome) (a b : Result ℕ Refusal) (ss ts : List (List ℕ)) → listed a ss ≡ o → listed b ts ≡ o → (a ≡ b) × (ss ≡ ts)
one_listing o a b ss ts p q = let e = p ∙ sym q in (same a b (ap (λ o. o.answer) e), ap (λ o. o.stores) e)
  where
    same : (a b : Result ℕ Refusal) → length_of a ≡ length_of b → a ≡ b
    same (Ok m) (Ok n) e = ap (λ l. Ok l.length) e
    same (Ok m) (Err why) e = absurd (let h = positive why in omega (arith, h, ap (λ l. l.number) e))
    same (Err why) (Ok n) e = absurd (let h = positive why in omega (arith, h, ap (λ l. l.number) e))
    same (Err why) (Err that) e = ap Err (same_number why that (ap (λ l. l.number) e))
