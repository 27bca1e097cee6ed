-- No painted side is listed twice, in all contours together.
use mathlib.Core.List.{map}
use Rattle.rules.specs.Lists.{Distinct, flat}
use Rattle.rules.specs.Graph.{segments}
use Rattle.rules.specs.Face.{sides, contours}
use Rattle.rules.specs.Calls.{Map, picture_of, Accepted}
use Rattle.rules.proofs.Lattice.Frame.{picture_framed}
use Rattle.rules.proofs.Tracing.Partition.{describes}
use Rattle.rules.proofs.Contours.Painted.{painted}
use Rattle.rules.proofs.Contours.Sides.{sides_once}

-- over all contours together: none goes over a side twice, and no two go over one
pub listed : (m : Map) → Accepted m → Distinct (flat (map (sides (segments (picture_of m))) (contours (picture_of m) (segments (picture_of m)) m.paints)))
listed m a =
    let F = picture_framed m.width m.height m.bound m.labels in
    let D = describes F in
    sides_once F D m.paints _ (painted F D m.paints a.word)
