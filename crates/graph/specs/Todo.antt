-- Work that goes through a list of things to do: `At o l t` says that the state t, from the state o on, has the things l left to do.
use Rattle.std.specs.Prelude.{List, ◌++◌}

module _ {O X T : Type 0} (At : O → List X → T → Type 0) where
  -- t has the things l next
  pub record Due (l : List X) (t : T) : Type 0 where
    pub o : O
    pub rest : List X
    pub now : At o (l ++ rest) t

  -- from t to t' the things l are done, whatever comes after them
  abbrev pub Does : List X → T → T → Type 0
  Does l t t' = (o : O) (rest : List X) → At o (l ++ rest) t → At o rest t'
