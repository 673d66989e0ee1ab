-- One of some words, by a search. Assumes nothing.
use mathlib.Core.Path.{◌≡◌, refl, ap}
use mathlib.Core.Bool.{Bool, ◌||◌}
use mathlib.Core.List.{List, [], ◌∷◌, map}
use Prim.Native.Nat.{ℕ}
use denote.Bor.{Bor}
use Rattle.std.specs.List.{list_any}
use Rattle.ground.specs.Bytes.{same}
use Rattle.name.specs.Name.{is_one_of}

pub one_of_any : (s : List ℕ) (ws : List (Bor (List ℕ))) → list_any (λ (w : Bor (List ℕ)). same s w.now) ws ≡ is_one_of (map (λ (w : Bor (List ℕ)). w.now) ws) s
unfolding is_one_of
one_of_any s [] = refl
one_of_any s (w ∷ ws) = ap (λ (x : Bool). same s w.now || x) (one_of_any s ws)
