-- The text of a map: what is read as it, and nothing else.
use Rattle.std.specs.Prelude.{ℕ, zero, suc, true, false, List, [], ◌∷◌, ◌++◌, take, drop, ◌==◌}
use Rattle.rules.specs.Picture.{OUTSIDE}
use Rattle.rules.specs.Calls.{Map}
use Rattle.text.specs.Bytes.{bytes}
use Rattle.text.specs.Output.{shown}

unfoldable pub entry_of : ℕ → List ℕ
entry_of l = elim (l == OUTSIDE) [ true ↦ bytes "." | false ↦ shown l ]

-- a space between entries, a newline at the end
unfoldable pub line_of : List ℕ → List ℕ
line_of [] = bytes "\n"
line_of (l ∷ []) = entry_of l ++ bytes "\n"
line_of (l ∷ m ∷ ls) = entry_of l ++ (bytes " " ++ line_of (m ∷ ls))

unfoldable pub lines_of : ℕ → ℕ → List ℕ → List ℕ
lines_of w zero ls = []
lines_of w (suc h) ls = line_of (take w ls) ++ lines_of w h (drop w ls)

unfoldable pub text_of : Map → List ℕ
text_of m = shown m.width ++ (bytes " " ++ (shown m.height ++ (bytes " " ++ (shown m.paints ++ (bytes "\n" ++ lines_of m.width m.height m.labels)))))
