-- What `textmap` prints for what it reads (docs/RULES.md, "textmap").
use Rattle.std.specs.Prelude.{ℕ, Result, Ok, Err, List, ◌++◌}
use Rattle.rules.specs.Calls.{Map as LabelledMap, cut_list, counted}
use Rattle.text.specs.Bytes.{bytes}
use Rattle.lattice.specs.declared.Size.{Size}
use Rattle.calls.specs.Outcome.{map_of}
use Rattle.text.specs.declared.BadMap.{BadMap}
use Rattle.text.specs.declared.BadMap.TheVariants.{TooBig, BadText}
use Rattle.text.specs.Parse.{parsed}
use Rattle.text.specs.Output.{report}

-- a map's cut list, its counts and its six stores
unfoldable pub printed : LabelledMap → List ℕ
printed m = let l = cut_list m in report m.width m.height m.paints (counted 0 l) l.nodes l.segments l.points l.references l.contours l.faces

abbrev pub message : BadMap → List ℕ
message TooBig = bytes "too big"
message BadText = bytes "bad text"

-- a message is a line
unfoldable pub answered : Result Size BadMap → List ℕ → List ℕ
answered (Ok s) ls = printed (map_of s ls)
answered (Err e) ls = message e ++ bytes "\n"

unfoldable pub textmap : List ℕ → List ℕ
textmap text = answered (parsed text).answer (parsed text).labels
