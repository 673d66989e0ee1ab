-- Bytes in hexadecimal digits: the turns of the loops.
-- Assumes nothing.
use mathlib.Core.Path.{◌≡◌, refl, sym, ap, ◌∙◌}
use mathlib.Core.Bool.{true, false}
use mathlib.Core.List.{List, [], ◌∷◌, ◌++◌}
use Prim.Native.Nat.{ℕ, suc, ◌+◌, ◌*◌, ◌/◌, ◌%◌, ◌<◌, ◌≤◌}
use native.Mathlib.Numerals.{add-one}
use native.Mathlib.Omega.{arith}
use lib.Dec.{eqb}
use lib.ListN.{length, get_or, drop, drop_of_length-le, length-drop}
use lib.Seq.{drop-cons}
use borrow.Author.Tests.{eqb-true}
use Rattle.ground.specs.Ascii.{ascii}
use Rattle.ground.specs.Bytes.{store}
use Rattle.ground.proofs.Laws.{never, store_append, store_none}
use Rattle.script.specs.Hex.{nibble, bytes_of, glyph, pairs_of, hex_of}
use Rattle.script.specs.Put.{Put}
use Rattle.script.proofs.Laws.{put_none, put_then, put_is}

-- ---- pairs of digits

few : (s : List ℕ) → length s ≤ 1 → bytes_of s ≡ []
unfolding bytes_of
few [] h = refl
few (a ∷ []) h = refl
few (a ∷ b ∷ s) h = absurd (omega arith)

one_pair : (s : List ℕ) (i : ℕ) → i + 1 < length s → bytes_of (drop i s) ≡ (nibble (get_or s i 0) * 16 + nibble (get_or s (i + 1) 0)) ∷ bytes_of (drop (i + 2) s)
unfolding bytes_of
one_pair s i h =
    let e : i + 2 ≡ suc (suc i) = omega arith in
    let f : suc i < length s = omega arith in
    rw (drop-cons s i 0 (omega arith), drop-cons s (suc i) 0 f, add-one, e)

module _ (s out x : List ℕ) (n : ℕ) (inv : store out n (bytes_of (drop (2 * n) s)) ≡ x) where
  pub pair_turn : (b : ℕ) (out₁ : List ℕ) → n < length s / 2 → b ≡ nibble (get_or s (2 * n) 0) * 16 + nibble (get_or s (2 * n + 1) 0) → out₁ ≡ store out n (b ∷ []) → store out₁ (n + 1) (bytes_of (drop (2 * (n + 1)) s)) ≡ x
  pair_turn b out₁ h e f =
      let k : 2 * (n + 1) ≡ 2 * n + 2 = omega arith in
      let g : bytes_of (drop (2 * n) s) ≡ b ∷ bytes_of (drop (2 * n + 2) s) = rw e (one_pair s (2 * n) (omega arith)) in
      rw (k, f) (store_append out n (b ∷ []) (bytes_of (drop (2 * n + 2) s))) ∙ ap (store out n) (sym g) ∙ inv

  pub pair_end : length s / 2 ≤ n → out ≡ x
  pair_end h =
      let l : length (drop (2 * n) s) ≤ 1 = simp length-drop (omega arith) in
      let g : bytes_of (drop (2 * n) s) ≡ [] = few (drop (2 * n) s) l in
      sym (store_none out n) ∙ ap (store out n) (sym g) ∙ inv

pub count_pairs : (s : List ℕ) → length s / 2 ≡ length (bytes_of s)
unfolding bytes_of
count_pairs [] = refl
count_pairs (a ∷ []) = refl
count_pairs (a ∷ b ∷ s) = let e = count_pairs s in omega arith

-- ---- writing

pub hex_none : (s : List ℕ) → eqb (length s) 0 ≡ true → ascii "-" ≡ hex_of s
unfolding hex_of
hex_none [] e = refl
hex_none (b ∷ s) e = absurd (omega (arith, eqb-true (length (b ∷ s)) 0 e))

pub hex_some : (s : List ℕ) → eqb (length s) 0 ≡ false → pairs_of s ≡ hex_of s
unfolding hex_of
hex_some [] e = never (sym e)
hex_some (b ∷ s) e = refl

-- what is put after this gives the whole
abbrev pub Rest : List ℕ → ℕ → List ℕ → List ℕ → ℕ → List ℕ → Type 0
Rest m at s m₀ at₀ s₀ = (m₁ : List ℕ) (r : ℕ) → Put m at s m₁ r → Put m₀ at₀ s₀ m₁ r

module _ (s : List ℕ) (i : ℕ) (m : List ℕ) (at : ℕ) (m₀ : List ℕ) (at₀ : ℕ) (s₀ : List ℕ) (inv : Rest m at (pairs_of (drop i s)) m₀ at₀ s₀) where
  pub pairs_turn : (a b : ℕ) (m₁ : List ℕ) (r : ℕ) → i < length s → a ≡ glyph (get_or s i 0 / 16) → b ≡ glyph (get_or s i 0 % 16) → Put m at (a ∷ b ∷ []) m₁ r → Rest m₁ r (pairs_of (drop (i + 1) s)) m₀ at₀ s₀
  unfolding pairs_of
  pairs_turn a b m₁ r h e f p m₂ q d =
      let g : (a ∷ b ∷ []) ++ pairs_of (drop (i + 1) s) ≡ pairs_of (drop i s) = rw (drop-cons s i 0 h, e, f, add-one) in
      inv m₂ q (put_is g (put_then p d))

  pub pairs_end : length s ≤ i → Put m₀ at₀ s₀ m at
  unfolding pairs_of
  pairs_end h = let g : [] ≡ pairs_of (drop i s) = rw (drop_of_length-le s h) in inv m at (put_is g put_none)
