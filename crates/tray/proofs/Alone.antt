-- A tray of one map is the single call.
use Prim.Native.Nat.{ℕ, ◌+◌, ◌*◌, ◌<◌, ◌≤◌}
use mathlib.Core.Bool.{Bool, true, false, not, ◌||◌, true≢false}
use mathlib.Core.Path.{◌≡◌, refl, sym, ap, ◌∙◌}
use mathlib.Core.List.{List, [], ◌∷◌, ◌++◌}
use native.Mathlib.Omega.{arith}
use native.Mathlib.Decide.{dec_lt}
use lib.Dec.{ltb, eqb}
use lib.ListN.{length, take, drop}
use lib.Seq.{take_all}
use borrow.Author.Tests.{ne_eqb}
use Rattle.rules.specs.Lists.{flat}
use Rattle.rules.specs.Calls.{refused, Outcome, Check, first_hit, map_checks}
use Rattle.lattice.specs.declared.Size.{Size}
use Rattle.calls.specs.Outcome.{map_of}
use Rattle.calls.specs.Mode.{size_in, map_in}
use Rattle.tray.specs.Tray.{tiles, pixels, past_number, past, Stores, both, work_of, stores_of, call, single, wrote, run, words, Afterwards, laid, tray}
use Rattle.tray.proofs.Runs.{both_nil, both_split}
use Rattle.tray.proofs.Single.{single_past, single_call, store_checks, call_settled, call_number}
use Rattle.tray.proofs.Progress.{tiles_short, tray_laid}

-- TOO FEW LABELS: the single call answers what a tray does for a part that runs past its store

past_small : (t : Size) → (1 ≤ past_number t) × (past_number t ≤ 3)
unfolding past_number
past_small t = go (ltb 16384 t.width || ltb 16384 t.height)
  where
    go : (b : Bool) → let n : ℕ = elim b [ true ↦ 1 | false ↦ 2 ] in (1 ≤ n) × (n ≤ 3)
    go true = (omega arith, omega arith)
    go false = (omega arith, omega arith)

few_number : (t : Size) (labels work : List ℕ) (more : List Check) → length labels < pixels t → first_hit (map_checks (map_of t labels) work ++ more) ≡ past_number t
unfolding first_hit map_checks past_number
few_number t labels work more h = go (ltb 16384 t.width || ltb 16384 t.height) (eqb (length labels) (t.width * t.height)) (ne_eqb (length labels) (t.width * t.height) (λ e. omega (arith, h, e)))
    (first_hit (record { number = 3; hits = ltb (length work) (8 * (t.width + 1) * (t.height + 1)) } ∷ more))
  where
    go : (b c : Bool) → c ≡ false → (n : ℕ) → ◌≡◌ {A = ℕ} (elim b [ true ↦ 1 | false ↦ elim (not c) [ true ↦ 2 | false ↦ n ] ]) (elim b [ true ↦ 1 | false ↦ 2 ])
    go true c e n = refl
    go false true e n = absurd (true≢false e)
    go false false e n = refl

pub call_few : (t : Size) (labels work : List ℕ) (s : Stores) → length labels < pixels t → call (map_of t labels) work s ≡ past t work s
unfolding past
call_few t labels work s h =
    let m = map_of t labels in
    let is : (call m work s).answer.number ≡ past_number t = call_number m work s ∙ few_number t labels work (store_checks m s) h in
    let small = past_small t in
    (call_settled m work s).early (omega (arith, is, small)) (omega (arith, is, small))
    ∙ ap (λ (n : ℕ). record { answer = refused n; stores = work ∷ s.nodes ∷ s.segments ∷ s.points ∷ s.references ∷ s.contours ∷ s.faces ∷ [] }) is

-- no label past the map's
pub single_first : (t : Size) (labels work : List ℕ) (s : Stores) → length labels ≤ pixels t → single t 0 labels work s ≡ call (map_of t labels) work s
single_first t labels work s h =
    elim (dec_lt (length labels) (pixels t)) [
      | yes k ↦ single_past t 0 labels work s (omega (arith, k)) ∙ sym (call_few t labels work s k)
      | no k ↦ single_call t 0 labels work s (omega (arith, k)) ∙ ap (λ (ls : List ℕ). call (map_of t ls) work s) (take_all (pixels t) labels h)
    ]

-- ONE MAP, and perhaps an unfinished three behind it
pub one_map : (mode w h p : ℕ) (more labels work : List ℕ) (s : Stores) (answers : List ℕ) → length more < 3 → length labels ≤ w * h → 8 ≤ length answers
    → tray mode (w ∷ h ∷ p ∷ more) labels work s answers
    ≡ (let o = call (map_in mode w h p labels) work s in
    record { number = 0; work = work_of o; stores = stores_of o; answers = words o.answer ++ drop 8 answers })
unfolding tiles run flat
one_map mode w h p more labels work s answers few fits room =
    let t : Size = size_in mode w h p in
    let alone : tiles mode (w ∷ h ∷ p ∷ more) ≡ t ∷ [] = ap (λ (l : List Size). t ∷ l) (tiles_short mode more few) in
    let after : Outcome → Afterwards = λ o. record { number = 0; work = work_of o; stores = stores_of o; answers = words o.answer ++ drop 8 answers } in
    let o = single t 0 labels work s in
    tray_laid mode (w ∷ h ∷ p ∷ more) labels work s answers (omega (arith, room, ap {B = ℕ} (λ (l : List Size). length l) alone))
    ∙ ap (λ (l : List Size). laid (run l 0 labels work s) answers) alone
    ∙ (λ i. record {
      number = 0;
      work = work_of o;
      stores = (ap (λ (f : Stores). both ◌++◌ f (both drop (wrote o.answer) (stores_of o))) (both_nil (both take (wrote o.answer) (stores_of o))) ∙ both_split (wrote o.answer) (stores_of o)) i;
      answers = words o.answer ++ drop 8 answers;
    })
    ∙ ap after (single_first t labels work s fits)
