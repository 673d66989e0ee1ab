-- Laws of strings whose bytes stand for themselves.
-- Assumes nothing.
use mathlib.Core.Path.{◌≡◌, refl, sym, ap, ◌∙◌}
use mathlib.Core.Bool.{false, true}
use mathlib.Core.List.{List, [], ◌∷◌, ◌++◌, append_assoc, append-nil}
use Prim.Native.Nat.{ℕ, ◌+◌, ◌-◌, ◌<◌, ◌≤◌}
use native.Mathlib.Omega.{arith}
use lib.ListN.{length, get_or}
use lib.Seq.{drop-cons}
use borrow.Author.Tests.{eq-eqb, ne_eqb, le-ltb}
use Rattle.ground.specs.Bytes.{byte_at, part}
use Rattle.ground.proofs.Laws.{length_part, part_add}
use Rattle.view.specs.Strings.{Part, is_stop, bytes_from, string_at, Plainly}
use Rattle.view.proofs.Places.{never}
use Rattle.view.proofs.Closing.{string_byte}
use Rattle.view.proofs.Undone.{part_plain, bytes_stop, bytes_next}

-- ---- one byte
stop_quote : (b : ℕ) → is_stop b ≡ false → b ≡ 34 → ⊥
unfolding is_stop
stop_quote b h e = never (sym (rw e at h))

-- what stands behind the marks neither ends the string nor starts an escape
stop_none : (b : ℕ) → 92 < b → is_stop b ≡ false
unfolding is_stop
stop_none b h = rw (ne_eqb b 34 (λ (e : b ≡ 34). omega arith), le-ltb b 32 (omega arith))

module _ (t : List ℕ) (p b : ℕ) (e : b ≡ byte_at t p) where
  bytes_plain : (b ≡ 92 → ⊥) → is_stop b ≡ false → bytes_from t p ≡ b ∷ bytes_from t (p + 1)
  bytes_plain n f =
      bytes_next t p (ap (λ (x : ℕ). is_stop x) (sym e) ∙ f) ∙ ap (λ (x : Part). x.bytes ++ bytes_from t x.next) (sym (part_plain t p e n))

  string_opened : b ≡ 34 → string_at t p ≡ bytes_from t (p + 1)
  unfolding string_at
  string_opened f = rw (← e, eq-eqb b 34 f)

-- ---- a run of such bytes
pub run_none : (t : List ℕ) (p : ℕ) → p ≤ length t → Plainly t p p
unfolding part
run_none t p h = let z : p - p ≡ 0 = omega arith in record { ahead = omega arith; within = h; bytes = rw z; closing = refl }

module _ (t : List ℕ) (p q : ℕ) (r : Plainly t p q) (h : q < length t) where
  pub run_turn : (get_or t q 0 ≡ 92 → ⊥) → is_stop (get_or t q 0) ≡ false → Plainly t p (q + 1)
  unfolding part byte_at
  run_turn i f =
      let l = r.ahead in
      let n : q + 1 - p ≡ q - p + 1 = omega arith in
      let m : p + (q - p) ≡ q = omega arith in
      record {
        ahead = omega arith;
        within = omega arith;
        bytes =
            r.bytes ∙ ap (λ (x : List ℕ). part t p (q - p) ++ x) (bytes_plain t q (get_or t q 0) refl i f)
            ∙ sym (rw (n, part_add t p (q - p) 1, m, drop-cons t q 0 h) (append_assoc (part t p (q - p)) (get_or t q 0 ∷ []) (bytes_from t (q + 1))));
        closing = string_byte t q h (stop_quote (get_or t q 0) f) i ∙ r.closing;
      }

  pub run_letter : 92 < get_or t q 0 → Plainly t p (q + 1)
  run_letter l = run_turn (λ (e : get_or t q 0 ≡ 92). omega arith) (stop_none (get_or t q 0) l)

module _ (t : List ℕ) (p q : ℕ) {b c : ℕ} (e : b ≡ byte_at t p) (f : b ≡ 34) (r : Plainly t (p + 1) q) (g : c ≡ byte_at t q) (s : is_stop c ≡ true) where
  pub run_string : string_at t p ≡ part t (p + 1) (q - (p + 1))
  run_string =
      string_opened t p b e f ∙ r.bytes ∙ ap (λ (x : List ℕ). part t (p + 1) (q - (p + 1)) ++ x) (bytes_stop t q (ap (λ (x : ℕ). is_stop x) (sym g) ∙ s)) ∙ append-nil (part t (p + 1) (q - (p + 1)))

  pub run_length : q - (p + 1) ≡ length (string_at t p)
  run_length =
      let l = r.ahead in
      let h = r.within in
      sym (ap length run_string ∙ length_part t (p + 1) (q - (p + 1)) (omega arith))
