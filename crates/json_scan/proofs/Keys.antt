-- Keys, and values that are no brackets. Assumes nothing.
use mathlib.Core.Path.{◌≡◌, refl, sym, ap, ◌∙◌}
use mathlib.Core.Bool.{Bool, false, cond}
use mathlib.Core.List.{List}
use Prim.Native.Nat.{ℕ, ◌+◌, ◌<◌}
use native.Mathlib.Omega.{arith}
use lib.ListN.{length, get_or}
use lib.Dec.{eqb}
use Rattle.std.specs.Prelude.{Err}
use Rattle.answer.specs.declared.refusal.Why.TheVariants.{NotJson}
use Rattle.json_scan.specs.Json.{Mode, Stack, go, die, step, one, is_space, is_byte, str, as_key, plain, num, minus, key, colon, val, done, simple, digit1, number}
use Rattle.json_scan.specs.Meets.{Reads, one_of, Stays, Passes, Simple, Step}
use Rattle.json_scan.proofs.Laws.{hop, halt, alike}
use Rattle.json_scan.proofs.Items.{forth_on}
use Rattle.json_scan.proofs.Readers.{one_reads}

pub after_space : (t : List ℕ) (p q : ℕ) → Passes is_space t p q → (m m' : Mode) → Stays is_space m → (r : Step) → Reads t q m m' r → Reads t p m m' r
after_space t p q P m m' s r R = record { same = λ k. P.same m s k ∙ R.same k; forth = forth_on t p q r P.low R.forth }

pub colon_stays : Stays is_space colon
colon_stays b k e = ap (λ (x : Bool). cond x (go colon k) (one (eqb b 58) val k)) e

pub key_stays : Stays is_space key
key_stays b k e = ap (λ (x : Bool). cond x (go key k) (one (eqb b 34) (str as_key plain) k)) e

module _ (t : List ℕ) (p : ℕ) (s : is_space (get_or t p 0) ≡ false) where
  pub colon_one : Reads t p colon val (one_of (is_byte 58) t p)
  colon_one = one_reads t p colon (is_byte 58) refl val (λ k. (ap (λ (x : Bool). cond x (go colon k) (one (eqb (get_or t p 0) 58) val k)) s, refl))

  pub key_one : Reads t p key (str as_key plain) (one_of (is_byte 34) t p)
  key_one = one_reads t p key (is_byte 34) refl (str as_key plain) (λ k. (ap (λ (x : Bool). cond x (go key k) (one (eqb (get_or t p 0) 34) (str as_key plain) k)) s, refl))

-- a value by its first byte
module _ (t : List ℕ) (p b : ℕ) (e : b ≡ get_or t p 0) where
  pub simple_on : (m' : Mode) (r : Step) → p < length t → ((k : Stack) → simple b k ≡ go m' k) → Reads t (p + 1) m' done r → Simple t p b r
  simple_on m' r l s R = record {
    same = λ m k i w. hop t m k p m' k l (ap (λ (x : ℕ). step m x k) (sym e) ∙ i ∙ s k) ∙ R.same k;
    forth = forth_on t p (p + 1) r (omega arith) R.forth;
  }

  pub simple_number : (r : Step) → ((k : Stack) → simple b k ≡ digit1 b k) → Reads t p (num minus) done r → Simple t p b r
  unfolding number
  simple_number r s R = record {
    same = λ m k i w. alike t m (num minus) k p (ap (λ (x : ℕ). step m x k) (sym e) ∙ i ∙ s k ∙ ap (λ (x : ℕ). step (num minus) x k) e) w ∙ R.same k;
    forth = R.forth;
  }

  pub simple_bad : ((k : Stack) → simple b k ≡ die NotJson) → Simple t p b (Err (record { why = NotJson; at = p }))
  simple_bad s = record {
    same = λ m k i w. halt t m k p (ap (λ (x : ℕ). step m x k) (sym e) ∙ i ∙ s k) w;
    forth = tt;
  }
