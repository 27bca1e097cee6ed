-- One outcome for the listing for C: the two answer words and both lent stores.
use Prim.Native.Nat.{ℕ, zero, suc, ◌<◌}
use mathlib.Core.Path.{◌≡◌, sym, ap, ◌∙◌}
use mathlib.Core.List.{List}
use native.Mathlib.Omega.{arith}
use lib.ListN.{length, get_or}
use lib.Seq.{ext_get_or}
use Rattle.benches.specs.Listing.{ListingOutcome}
use Rattle.listing.specs.Listed.{listed_words}

two : (ws vs : List ℕ) (ss ts : List (List ℕ)) → listed_words ws ss ≡ listed_words vs ts → (i : ℕ) → i < 2 → get_or ws i 0 ≡ get_or vs i 0
two ws vs ss ts e zero h = ap (λ o. o.answer.number) e
two ws vs ss ts e (suc zero) h = ap (λ o. o.answer.length) e
two ws vs ss ts e (suc (suc i)) h = absurd (omega arith)

pub one_listing_words : (o : ListingOutcome) (ws vs : List ℕ) (ss ts : List (List ℕ)) → length ws ≡ 2 → length vs ≡ 2
    → listed_words ws ss ≡ o → listed_words vs ts ≡ o → (ws ≡ vs) × (ss ≡ ts)
one_listing_words o ws vs ss ts h k p q =
    let e = p ∙ sym q in
    (ext_get_or 0 ws vs (h ∙ sym k) (λ i b. two ws vs ss ts e i (omega arith)), ap (λ o. o.stores) e)
