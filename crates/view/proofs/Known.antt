-- Laws of the table of ends.
-- Assumes nothing.
use mathlib.Core.Path.{◌≡◌, refl, sym, ap, ◌∙◌}
use mathlib.Core.Bool.{Bool}
use mathlib.Core.List.{List}
use Prim.Native.Nat.{ℕ, zero, suc, ◌+◌, ◌-◌, ◌<◌}
use native.Mathlib.Omega.{arith}
use lib.ListN.{length, take, drop, replicate}
use Rattle.ground.specs.Bytes.{byte_at, part, same, store}
use Rattle.ground.proofs.Laws.{length_part}
use Rattle.view.specs.Ends.{end_of}
use Rattle.view.specs.Strings.{string_at}
use Rattle.view.specs.Known.{end_in, Literal, Known}

-- a table that holds nothing
zeros : (n p : ℕ) → end_in (replicate n 0) p ≡ 0
zeros zero p = refl
zeros (suc n) zero = refl
zeros (suc n) (suc p) = zeros n p

pub known_none : (t : List ℕ) (n : ℕ) → Known t (replicate n 0)
known_none t n = record {
  ended = λ p (h : 0 < end_in (replicate n 0) p). absurd (omega (arith, zeros n p));
  literal = λ p (h : 0 < end_in (replicate n 0) p). absurd (omega (arith, zeros n p));
}

module _ {t ends : List ℕ} (k : Known t ends) (p : ℕ) {e : ℕ} (f : e ≡ end_in ends p) where
  pub known_end : 0 < e → e ≡ end_of t p
  known_end h = f ∙ k.ended p (omega arith)

  pub known_literal : {b : ℕ} → b ≡ byte_at t p → b ≡ 34 → 0 < e → Literal t p e
  known_literal g i h = rw f (k.literal p (omega arith) (sym g ∙ i))

-- ---- a string as it stands in the text
module _ {t : List ℕ} {p e : ℕ} (l : Literal t p e) where
  pub literal_length : e - 1 - (p + 1) ≡ length (string_at t p)
  literal_length =
      let a = l.opens in
      let b = l.closes in
      sym (ap length l.bytes ∙ length_part t (p + 1) (e - 1 - (p + 1)) (omega arith))

  -- what is lent of the text
  pub literal_lent : take (e - 1 - (p + 1)) (drop (p + 1) t) ≡ string_at t p
  unfolding part
  literal_lent = sym l.bytes
