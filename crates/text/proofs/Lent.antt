-- The loans of a closure that holds a list of six stores, as its calls ask for them.
use mathlib.Core.List.{List, [], ◌++◌}
use Prim.Native.Nat.{ℕ}
use contract.BorrowLft.{◌⊑◌, ⊑_static, ⊑_meet}

-- a reference to the list, and the six in it
abbrev stores : List ℕ → List ℕ → List ℕ
stores a b = a ++ ((b ++ []) ++ ((b ++ []) ++ ((b ++ []) ++ ((b ++ []) ++ ((b ++ []) ++ ((b ++ []) ++ []))))))

module _ (κ a b : List ℕ) (p : κ ⊑ a) (q : κ ⊑ b) where
  and_more : (l : List ℕ) → κ ⊑ l → κ ⊑ ((b ++ []) ++ l)
  and_more l r = ⊑_meet κ (b ++ []) l (⊑_meet κ b [] q (⊑_static κ)) r

  six : κ ⊑ stores a b
  six = ⊑_meet κ a _ p (and_more _ (and_more _ (and_more _ (and_more _ (and_more _ (and_more [] (⊑_static κ)))))))

  pub of_list : κ ⊑ ((stores a b ++ []) ++ (stores a b ++ []))
  of_list = let one = ⊑_meet κ (stores a b) [] six (⊑_static κ) in ⊑_meet κ _ _ one one

  -- and one reference more
  pub of_list_and : (d : List ℕ) → κ ⊑ d → κ ⊑ ((stores a b ++ ((d ++ []) ++ [])) ++ (stores a b ++ ((d ++ []) ++ [])))
  of_list_and d r =
      let one = ⊑_meet κ (stores a b) ((d ++ []) ++ []) six (⊑_meet κ (d ++ []) [] (⊑_meet κ d [] r (⊑_static κ)) (⊑_static κ)) in
      ⊑_meet κ _ _ one one
