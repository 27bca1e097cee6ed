-- A walker's corner and heading, as a dart, and what a caller shows of it.
use Rattle.std.specs.Prelude.{◌≡◌, ◌<◌, ◌≤◌}
use Rattle.rules.specs.Picture.{Dart, dart, ahead_x, ahead_y}
use Rattle.rules.specs.declared.Dir.TheVariants.{N, E, S, W}
use Rattle.lattice.specs.declared.Size.{Size}
use Rattle.lattice.specs.declared.Walker.{Walker}
use Rattle.lattice.specs.declared.Around.{Around}
use Rattle.lattice.specs.Around.{onward_in}

abbrev pub dart_of : Walker → Dart
dart_of w = dart w.x w.y w.d

-- far enough from the ends of a machine word to move
pub record Ahead (w : Walker) : Type 0 where
  pub across : w.x ≤ 16384
  pub down : w.y ≤ 16384
  pub north : w.d ≡ N → 0 < w.y
  pub west : w.d ≡ W → 0 < w.x

-- an edge of the frame, from corner to corner
pub record Edge (s : Size) (w : Walker) : Type 0 where
  pub across : w.x ≤ s.width
  pub down : w.y ≤ s.height
  pub north : w.d ≡ N → 0 < w.y
  pub east : w.d ≡ E → w.x < s.width
  pub south : w.d ≡ S → w.y < s.height
  pub west : w.d ≡ W → 0 < w.x

abbrev pub moved_of : Walker → Walker
moved_of w = record { x = ahead_x (dart_of w); y = ahead_y (dart_of w); d = w.d }

-- the walker after a step of a walk that goes on, by the labels around the corner ahead
abbrev pub step_in : Around → Walker → Walker
step_in a w = record { x = ahead_x (dart_of w); y = ahead_y (dart_of w); d = onward_in a w.d }
