-- The tests of a record, by cases, and a scan from one record to the next.
use Prim.Native.Nat.{ℕ, zero, suc, ◌+◌, ◌-◌, ◌<◌, ◌≤◌}
use mathlib.Core.Bool.{true, false, true≢false}
use mathlib.Core.Path.{◌≡◌, refl, sym, ap, ap₂, ◌∙◌}
use mathlib.Core.List.{List, ◌++◌}
use native.Mathlib.Omega.{arith}
use lib.Dec.{leb}
use lib.ListN.{length, take, drop, length-drop}
use lib.Seq.{drop-drop, length-take-le}
use Rattle.rules.proofs.Ground.Booleans.{and_left}
use borrow.Author.Tests.{leb-true, lt-ltb}
use Rattle.rules.specs.Calls.{first_hit, store_after}
use Rattle.jobfile.specs.Entries.{word_at, body_length, kind_of, entry_size, rest, headed}
use Rattle.jobfile.specs.Salvage.{Place, fits, after, scan, start, kept, Salvaged, salvage}
use Rattle.jobfile.proofs.Again.{kept_length, salvage_done, nothing, more, all, scan_keeps, scan_elim, scan_enough}

fits_there : (p : Place) (b : List ℕ) → fits p b ≡ true → entry_size b ≤ length b
unfolding fits
fits_there p b f = leb-true (entry_size b) (length b) (and_left (leb (entry_size b) (length b)) _ f)

-- A SCAN, one record further

scan_none : (k : ℕ) (p : Place) (b : List ℕ) → length b < 6 → scan k p b ≡ nothing 0
unfolding scan
scan_none zero p b n = refl
scan_none (suc k) p b n = scan_elim (λ r. r ≡ nothing 0) k p b (λ g. refl) (λ g f. absurd (omega arith)) (λ g f. absurd (omega arith))

scan_drops : (k : ℕ) (p : Place) (b : List ℕ) → 6 ≤ length b → fits p b ≡ false → scan (suc k) p b ≡ nothing (kind_of b)
scan_drops k p b h f =
    scan_elim (λ r. r ≡ nothing (kind_of b)) k p b (λ g. absurd (omega arith)) (λ g n. refl) (λ g t. absurd (true≢false (sym t ∙ f)))

module _ (b : List ℕ) (p : Place) (at : ℕ) where
  pub scan_over : length b < at + 6 → scan (length b) p (drop at b) ≡ nothing 0
  scan_over s = scan_none (length b) p (drop at b) (omega (arith, length-drop at b))

  module _ (six : at + 6 ≤ length b) where
    pub scan_ends : fits p (drop at b) ≡ false → scan (length b) p (drop at b) ≡ nothing (kind_of (drop at b))
    scan_ends f =
        let e : length b ≡ suc (length b - 1) = omega arith in
        ap (λ k. scan k p (drop at b)) e ∙ scan_drops (length b - 1) p (drop at b) (omega (arith, length-drop at b)) f

    pub scan_next : (size : ℕ) → size ≡ word_at (drop at b) 0 → fits p (drop at b) ≡ true
        → scan (length b) p (drop at b) ≡ more (6 + size) (scan (length b) (after p (kind_of (drop at b))) (drop (at + 6 + size) b))
    unfolding rest entry_size body_length
    scan_next size q f =
        let e : length b ≡ suc (length b - 1) = omega arith in
        let t = drop at b in
        let z : at + (6 + word_at t 0) ≡ at + 6 + size = omega arith in
        let d : drop (6 + word_at t 0) t ≡ drop (at + 6 + size) b = drop-drop (6 + word_at t 0) at b ∙ ap (λ n. drop n b) z in
        ap (λ k. scan k p t) e
        ∙ scan_keeps (length b - 1) p t (omega (arith, length-drop at b)) f
        ∙ ap₂ more (ap (λ n. 6 + n) (sym q))
        (ap (scan (length b - 1) (after p (kind_of t))) d
        ∙ scan_enough (length b - 1) (length b) (after p (kind_of t)) (drop (at + 6 + size) b) (omega (arith, length-drop (at + 6 + size) b)) (omega (arith, length-drop (at + 6 + size) b)))

-- what is kept, when the scan stands at a byte and in that place
abbrev pub From : List ℕ → Place → ℕ → Type 0
From b p at = kept b ≡ more at (scan (length b) p (drop at b))

module _ (b : List ℕ) where
  pub from_start : (p : Place) → p ≡ start b → From b p 18
  unfolding kept
  from_start p e = rw e

  module _ (here : Place) (at : ℕ) (f : From b here at) where
    pub from_over : length b < at + 6 → kept b ≡ all at
    from_over s = f ∙ ap (more at) (scan_over b here at s) ∙ ap (λ n. record { length = n; kind = 0 }) (let z : at + 0 ≡ at = omega arith in z)

    module _ (six : at + 6 ≤ length b) (t : List ℕ) (rest : t ≡ drop at b) where
      pub from_ends : (k : ℕ) → k ≡ kind_of t → fits here t ≡ false → record { length = at; kind = k } ≡ kept b
      from_ends k kind g =
          let z : at + 0 ≡ at = omega arith in
          sym (f ∙ (ap (more at) (scan_ends b here at six (rw rest at g)) ∙ ap₂ (λ n m. record { length = n; kind = m }) z (sym (rw rest at kind))))

      module _ (size : ℕ) (long : size ≡ word_at t 0) (g : fits here t ≡ true) where
        pub from_next : (k : ℕ) (next : Place) → k ≡ kind_of t → next ≡ after here k → From b next (at + 6 + size)
        from_next k next kind s =
            let z : (n : ℕ) → at + (6 + size + n) ≡ at + 6 + size + n = λ n. omega arith in
            let r = scan (length b) (after here (kind_of (drop at b))) (drop (at + 6 + size) b) in
            f ∙ (ap (more at) (scan_next b here at six size (rw rest at long) (rw rest at g)) ∙ (ap (λ n. record { length = n; kind = r.kind }) (z r.length) ∙ rw (s, kind, rest)))

        pub next_room : at + 6 + size ≤ length b
        unfolding entry_size body_length
        next_room = omega (arith, fits_there here (drop at b) (rw rest at g), length-drop at b, rw rest at long)

-- THE TOOL'S REFUSALS

abbrev none : ℕ → List ℕ → Salvaged
none n store = record { number = n; length = 0; kind = 0; store = store }

pub salvage_unheaded : (b store : List ℕ) → headed b ≡ false → salvage b store ≡ none 14 store
unfolding salvage first_hit store_after
salvage_unheaded b store e = rw e

pub salvage_short : (b store : List ℕ) → headed b ≡ true → length store < (kept b).length → salvage b store ≡ none 13 store
unfolding salvage first_hit store_after
salvage_short b store e h = rw (e, lt-ltb (length store) (kept b).length h)

-- and what it leaves
pub salvage_copied : (b store after : List ℕ) (n k : ℕ) → headed b ≡ true → record { length = n; kind = k } ≡ kept b → n ≤ length store → after ≡ take n b ++ drop n store
    → record { number = 0; length = n; kind = k; store = after } ≡ salvage b store
salvage_copied b store after n k e r h q =
    let m : n ≡ (kept b).length = ap (λ s. s.length) r in
    let j : k ≡ (kept b).kind = ap (λ s. s.kind) r in
    let l = length-take-le (kept b).length b (kept_length b e).1 in
    rw (q, m, j) (rw l at (sym (salvage_done b store e (omega arith))))
