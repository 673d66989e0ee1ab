-- The number of a key: where its first byte is known, at most three keys are left to compare it with.
-- Assumes nothing.
use mathlib.Core.Path.{◌≡◌, refl, sym}
use mathlib.Core.Bool.{Bool, true, false, cond}
use mathlib.Core.List.{List, [], ◌∷◌}
use Prim.Native.Nat.{ℕ, suc, ◌+◌, ◌-◌, ◌<◌, ◌≤◌}
use native.Mathlib.Nat.{sub-zero}
use native.Mathlib.Omega.{arith}
use lib.ListN.{length, take, drop}
use borrow.Author.Tests.{ne_eqb}
use Rattle.ground.specs.Bytes.{byte_at, part, same, store}
use Rattle.ground.proofs.Laws.{same_unlike, store_fits, part_front}
use Rattle.view.specs.Members.{keys, index_of, key_number, type_key, name_key, namespace_key, aliases_key, fields_key, symbols_key, default_key, size_key, items_key, values_key, logical_type_key, precision_key, scale_key}

pub starts_t : (s : List ℕ) → byte_at s 0 ≡ 116 → cond (same s type_key) 0 13 ≡ key_number s
unfolding byte_at same index_of keys
starts_t [] e = absurd (omega arith)
starts_t (x ∷ s) e = rw e

pub starts_a : (s : List ℕ) → byte_at s 0 ≡ 97 → cond (same s aliases_key) 3 13 ≡ key_number s
unfolding byte_at same index_of keys
starts_a [] e = absurd (omega arith)
starts_a (x ∷ s) e = rw e (go (same s (108 ∷ 105 ∷ 97 ∷ 115 ∷ 101 ∷ 115 ∷ [])))
  where
    go : (z : Bool) → cond z 3 13 ≡ suc (suc (suc (cond z 0 10)))
    go true = refl
    go false = refl

pub starts_f : (s : List ℕ) → byte_at s 0 ≡ 102 → cond (same s fields_key) 4 13 ≡ key_number s
unfolding byte_at same index_of keys
starts_f [] e = absurd (omega arith)
starts_f (x ∷ s) e = rw e (go (same s (105 ∷ 101 ∷ 108 ∷ 100 ∷ 115 ∷ [])))
  where
    go : (z : Bool) → cond z 4 13 ≡ suc (suc (suc (suc (cond z 0 9))))
    go true = refl
    go false = refl

pub starts_d : (s : List ℕ) → byte_at s 0 ≡ 100 → cond (same s default_key) 6 13 ≡ key_number s
unfolding byte_at same index_of keys
starts_d [] e = absurd (omega arith)
starts_d (x ∷ s) e = rw e (go (same s (101 ∷ 102 ∷ 97 ∷ 117 ∷ 108 ∷ 116 ∷ [])))
  where
    go : (z : Bool) → cond z 6 13 ≡ suc (suc (suc (suc (suc (suc (cond z 0 7))))))
    go true = refl
    go false = refl

pub starts_i : (s : List ℕ) → byte_at s 0 ≡ 105 → cond (same s items_key) 8 13 ≡ key_number s
unfolding byte_at same index_of keys
starts_i [] e = absurd (omega arith)
starts_i (x ∷ s) e = rw e (go (same s (116 ∷ 101 ∷ 109 ∷ 115 ∷ [])))
  where
    go : (z : Bool) → cond z 8 13 ≡ suc (suc (suc (suc (suc (suc (suc (suc (cond z 0 5))))))))
    go true = refl
    go false = refl

pub starts_v : (s : List ℕ) → byte_at s 0 ≡ 118 → cond (same s values_key) 9 13 ≡ key_number s
unfolding byte_at same index_of keys
starts_v [] e = absurd (omega arith)
starts_v (x ∷ s) e = rw e (go (same s (97 ∷ 108 ∷ 117 ∷ 101 ∷ 115 ∷ [])))
  where
    go : (z : Bool) → cond z 9 13 ≡ suc (suc (suc (suc (suc (suc (suc (suc (suc (cond z 0 4)))))))))
    go true = refl
    go false = refl

pub starts_l : (s : List ℕ) → byte_at s 0 ≡ 108 → cond (same s logical_type_key) 10 13 ≡ key_number s
unfolding byte_at same index_of keys
starts_l [] e = absurd (omega arith)
starts_l (x ∷ s) e = rw e (go (same s (111 ∷ 103 ∷ 105 ∷ 99 ∷ 97 ∷ 108 ∷ 84 ∷ 121 ∷ 112 ∷ 101 ∷ [])))
  where
    go : (z : Bool) → cond z 10 13 ≡ suc (suc (suc (suc (suc (suc (suc (suc (suc (suc (cond z 0 3))))))))))
    go true = refl
    go false = refl

pub starts_p : (s : List ℕ) → byte_at s 0 ≡ 112 → cond (same s precision_key) 11 13 ≡ key_number s
unfolding byte_at same index_of keys
starts_p [] e = absurd (omega arith)
starts_p (x ∷ s) e = rw e (go (same s (114 ∷ 101 ∷ 99 ∷ 105 ∷ 115 ∷ 105 ∷ 111 ∷ 110 ∷ [])))
  where
    go : (z : Bool) → cond z 11 13 ≡ suc (suc (suc (suc (suc (suc (suc (suc (suc (suc (suc (cond z 0 2)))))))))))
    go true = refl
    go false = refl

pub starts_n : (s : List ℕ) → byte_at s 0 ≡ 110 → cond (same s name_key) 1 (cond (same s namespace_key) 2 13) ≡ key_number s
unfolding byte_at same index_of keys
starts_n [] e = absurd (omega arith)
starts_n (x ∷ s) e = rw e (go (same s (97 ∷ 109 ∷ 101 ∷ [])) (same s (97 ∷ 109 ∷ 101 ∷ 115 ∷ 112 ∷ 97 ∷ 99 ∷ 101 ∷ [])))
  where
    go : (y z : Bool) → cond y 1 (cond z 2 13) ≡ suc (cond y 0 (suc (cond z 0 11)))
    go true z = refl
    go false true = refl
    go false false = refl

pub starts_s : (s : List ℕ) → byte_at s 0 ≡ 115 → cond (same s symbols_key) 5 (cond (same s size_key) 7 (cond (same s scale_key) 12 13)) ≡ key_number s
unfolding byte_at same index_of keys
starts_s [] e = absurd (omega arith)
starts_s (x ∷ s) e = rw e (go (same s (121 ∷ 109 ∷ 98 ∷ 111 ∷ 108 ∷ 115 ∷ [])) (same s (105 ∷ 122 ∷ 101 ∷ [])) (same s (99 ∷ 97 ∷ 108 ∷ 101 ∷ [])))
  where
    go : (x y z : Bool) → cond x 5 (cond y 7 (cond z 12 13)) ≡ suc (suc (suc (suc (suc (cond x 0 (suc (suc (cond y 0 (suc (suc (suc (suc (suc (cond z 0 1))))))))))))))
    go true y z = refl
    go false true z = refl
    go false false true = refl
    go false false false = refl

-- no key starts with it, or is as long
module _ (s : List ℕ) where
  pub differs : (b : ℕ) (w : List ℕ) → (byte_at s 0 ≡ b → ⊥) → same s (b ∷ w) ≡ false
  unfolding byte_at same
  differs b w n = go s n
    where
      go : (l : List ℕ) → (byte_at l 0 ≡ b → ⊥) → same l (b ∷ w) ≡ false
      go [] m = refl
      go (x ∷ l) m = rw (ne_eqb x b m)

  none_left : 0 ≡ index_of s []
  unfolding index_of
  none_left = refl

  miss : (w : List ℕ) (ws : List (List ℕ)) → same s w ≡ false → {n : ℕ} → n ≡ index_of s ws → suc n ≡ index_of s (w ∷ ws)
  unfolding index_of
  miss w ws e f = rw (e, ← f)

  unlike : (w : List ℕ) → length w ≤ 16 → 16 < length s → same s w ≡ false
  unlike w h l = same_unlike s w (λ (e : length s ≡ length w). omega arith)

  pub long_none : 16 < length s → 13 ≡ key_number s
  unfolding keys
  long_none l =
      miss _ _ (unlike type_key (omega arith) l)
      (miss _ _ (unlike name_key (omega arith) l)
      (miss _ _ (unlike namespace_key (omega arith) l)
      (miss _ _ (unlike aliases_key (omega arith) l)
      (miss _ _ (unlike fields_key (omega arith) l)
      (miss _ _ (unlike symbols_key (omega arith) l)
      (miss _ _ (unlike default_key (omega arith) l)
      (miss _ _ (unlike size_key (omega arith) l)
      (miss _ _ (unlike items_key (omega arith) l)
      (miss _ _ (unlike values_key (omega arith) l)
      (miss _ _ (unlike logical_type_key (omega arith) l)
      (miss _ _ (unlike precision_key (omega arith) l)
      (miss _ _ (unlike scale_key (omega arith) l) none_left))))))))))))

  module _ (t : byte_at s 0 ≡ 116 → ⊥) (n : byte_at s 0 ≡ 110 → ⊥) (y : byte_at s 0 ≡ 115 → ⊥) (a : byte_at s 0 ≡ 97 → ⊥) (f : byte_at s 0 ≡ 102 → ⊥)
      (d : byte_at s 0 ≡ 100 → ⊥) (i : byte_at s 0 ≡ 105 → ⊥) (v : byte_at s 0 ≡ 118 → ⊥) (l : byte_at s 0 ≡ 108 → ⊥) (p : byte_at s 0 ≡ 112 → ⊥) where
    pub starts_none : 13 ≡ key_number s
    unfolding keys
    starts_none =
        miss _ _ (differs 116 (121 ∷ 112 ∷ 101 ∷ []) t)
        (miss _ _ (differs 110 (97 ∷ 109 ∷ 101 ∷ []) n)
        (miss _ _ (differs 110 (97 ∷ 109 ∷ 101 ∷ 115 ∷ 112 ∷ 97 ∷ 99 ∷ 101 ∷ []) n)
        (miss _ _ (differs 97 (108 ∷ 105 ∷ 97 ∷ 115 ∷ 101 ∷ 115 ∷ []) a)
        (miss _ _ (differs 102 (105 ∷ 101 ∷ 108 ∷ 100 ∷ 115 ∷ []) f)
        (miss _ _ (differs 115 (121 ∷ 109 ∷ 98 ∷ 111 ∷ 108 ∷ 115 ∷ []) y)
        (miss _ _ (differs 100 (101 ∷ 102 ∷ 97 ∷ 117 ∷ 108 ∷ 116 ∷ []) d)
        (miss _ _ (differs 115 (105 ∷ 122 ∷ 101 ∷ []) y)
        (miss _ _ (differs 105 (116 ∷ 101 ∷ 109 ∷ 115 ∷ []) i)
        (miss _ _ (differs 118 (97 ∷ 108 ∷ 117 ∷ 101 ∷ 115 ∷ []) v)
        (miss _ _ (differs 108 (111 ∷ 103 ∷ 105 ∷ 99 ∷ 97 ∷ 108 ∷ 84 ∷ 121 ∷ 112 ∷ 101 ∷ []) l)
        (miss _ _ (differs 112 (114 ∷ 101 ∷ 99 ∷ 105 ∷ 115 ∷ 105 ∷ 111 ∷ 110 ∷ []) p)
        (miss _ _ (differs 115 (99 ∷ 97 ∷ 108 ∷ 101 ∷ []) y) none_left))))))))))))

-- a key that was copied, as far as it was
pub copied : (m s : List ℕ) {n : ℕ} {after : List ℕ} → n ≡ length s → after ≡ store m 0 s → n ≤ length m → take (n - 0) (drop 0 after) ≡ s
unfolding part
copied m s {n} e f h = rw (f, sub-zero, store_fits m 0 s (omega arith)) (part_front s (drop (0 + length s) m) n (sym e))
