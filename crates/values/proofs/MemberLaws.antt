-- The value under one key, in one pass over the members.
-- Assumes nothing.
use Rattle.std.specs.Prelude.{Option, Some, None}
use mathlib.Core.Path.{◌≡◌, ◌∙◌}
use mathlib.Core.Bool.{Bool, cond}
use mathlib.Core.List.{List}
use Prim.Native.Nat.{ℕ}
use Rattle.ground.specs.Bytes.{same}
use Rattle.view.specs.Strings.{string_at}
use Rattle.view.specs.Members.{first_key, key_behind, last_under, member, entry_of, entry}
use Rattle.view.proofs.Laws.{key_of, true_turn, left_behind, last_start_lem, last_turn, last_end}
use Rattle.view.specs.declared.members.Member.{Member}

-- the invariant: the entry is that of its own key, and what will be found is the answer
pub record Seeking (t w : List ℕ) (p : ℕ) (found : Option ℕ) (e : Option Member) : Type 0 where
  pub true_entry : e ≡ entry_of t (key_of e)
  pub will_be : last_under t w found (left_behind t e) ≡ member t p w

module _ (t w : List ℕ) (p : ℕ) where
  pub seek_start : {e : Option Member} → e ≡ entry_of t (first_key t p) → Seeking t w p None e
  seek_start h = record { true_entry = true_turn t (first_key t p) h; will_be = last_start_lem t w p h }

  module _ {found : Option ℕ} {e : Option Member} (i : Seeking t w p found e) where
    pub seek_turn : {k v : ℕ} → e ≡ entry k v → {b : Bool} → b ≡ same (string_at t k) w → {found' : Option ℕ} → found' ≡ cond b (Some v) found
        → {e' : Option Member} → e' ≡ entry_of t (key_behind t v) → Seeking t w p found' e'
    seek_turn {k} {v} h f g d = record {
      true_entry = true_turn t (key_behind t v) d;
      will_be = rw (g, f) (last_turn t w i.true_entry h d found ∙ i.will_be);
    }

    pub seek_end : e ≡ None → found ≡ member t p w
    seek_end h = last_end t w h found ∙ i.will_be
