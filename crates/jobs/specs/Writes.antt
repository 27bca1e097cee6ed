-- A map's counts and stores, from which the writer's number, length and bytes follow.
use Rattle.std.specs.Prelude.{ℕ, ◌≡◌, List, [], ◌∷◌, length, take}
use Rattle.rules.specs.Calls.{Map, Answer, counted, cut_list}
use Rattle.jobfile.specs.JobFile.{waste_free}
use Rattle.jobs.specs.Stored.{stored_file, size_by}
use Rattle.jobs.specs.declared.write.Job.{Job}

abbrev pub size_of : Job → ℕ
size_of j = size_by j.segments j.points j.references j.contours j.faces

abbrev pub file_in : Job → List ℕ → List ℕ → List ℕ → List ℕ → List ℕ → List ℕ
file_in j ss ps rs cs fs = stored_file j.width j.height j.paints j.segments j.faces ss ps rs cs fs

-- the five counts that the file's length follows from
abbrev pub sizes_in : Job → List ℕ
sizes_in j = j.segments ∷ j.points ∷ j.references ∷ j.contours ∷ j.faces ∷ []

abbrev pub sizes_of : Answer → List ℕ
sizes_of a = a.segments ∷ a.points ∷ a.references ∷ a.contours ∷ a.faces ∷ []

-- the numbers of a map, and the counts of its cut list
pub record Counted (m : Map) (j : Job) : Type 0 where
  pub width : j.width ≡ m.width
  pub height : j.height ≡ m.height
  pub paints : j.paints ≡ m.paints
  pub counts : sizes_in j ≡ sizes_of (counted 0 (cut_list (waste_free m)))

-- its words at the front of the stores
abbrev pub Front : List ℕ → List ℕ → Type 0
Front words store = take (length words) store ≡ words

pub record Stands (m : Map) (ss ps rs cs fs : List ℕ) : Type 0 where
  pub segments : Front (cut_list (waste_free m)).segments ss
  pub points : Front (cut_list (waste_free m)).points ps
  pub references : Front (cut_list (waste_free m)).references rs
  pub contours : Front (cut_list (waste_free m)).contours cs
  pub faces : Front (cut_list (waste_free m)).faces fs
