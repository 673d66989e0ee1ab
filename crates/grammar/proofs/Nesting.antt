-- A text that nests at most n deep nests at most n + 1 deep. Assumes nothing.
use mathlib.Core.List.{List}
use Prim.Native.Nat.{ℕ, zero, suc}
use Rattle.json_scan.specs.Json.{Bracket, square, brace}
use Rattle.grammar.specs.Grammar.{◌·◌, join, this, that, Optional, absent, present, Many, none, more, value_separator, value, JSON_text}
use Rattle.grammar.proofs.Bracketed.{item, bracketed}

module _ {P P' : List ℕ → Type 0} (f : (s : List ℕ) → P s → P' s) where
  map_many : {s : List ℕ} → Many (value_separator · P) s → Many (value_separator · P') s
  map_many none = none
  map_many (more (join c d) r) = more (join c (f _ d)) (map_many r)

  map_items : {s : List ℕ} → Optional (P · Many (value_separator · P)) s → Optional (P' · Many (value_separator · P')) s
  map_items absent = absent
  map_items (present (join d r)) = present (join (f _ d) (map_many r))

module _ {v v' : List ℕ → Type 0} (f : (s : List ℕ) → v s → v' s) where
  map_item : (x : Bracket) (s : List ℕ) → item x v s → item x v' s
  map_item square s d = f s d
  map_item brace s d = in_member d
    where
      in_member : {u : List ℕ} → item brace v u → item brace v' u
      in_member (join k (join c d)) = join k (join c (f _ d))

  map_bracketed : (x : Bracket) {s : List ℕ} → bracketed x v s → bracketed x v' s
  map_bracketed x (join o (join d c)) = join o (join (map_items (map_item x) d) c)

deeper_value : (n : ℕ) (s : List ℕ) → value n s → value (suc n) s
unfolding value
deeper_value zero s (this d) = this d
deeper_value zero s (that (this d)) = that (this d)
deeper_value zero s (that (that (this d))) = that (that (this d))
deeper_value zero s (that (that (that (this d)))) = that (that (that (that (that (this d)))))
deeper_value zero s (that (that (that (that d)))) = that (that (that (that (that (that d)))))
deeper_value (suc n) s (this d) = this d
deeper_value (suc n) s (that (this d)) = that (this d)
deeper_value (suc n) s (that (that (this d))) = that (that (this d))
deeper_value (suc n) s (that (that (that (this d)))) = that (that (that (this (map_bracketed (deeper_value n) brace d))))
deeper_value (suc n) s (that (that (that (that (this d))))) = that (that (that (that (this (map_bracketed (deeper_value n) square d)))))
deeper_value (suc n) s (that (that (that (that (that d))))) = that (that (that (that (that d))))

pub deeper : (n : ℕ) {t : List ℕ} → JSON_text n t → JSON_text (suc n) t
deeper n (join w (join v z)) = join w (join (deeper_value n _ v) z)
