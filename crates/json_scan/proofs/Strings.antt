-- Strings. Assumes nothing.
use mathlib.Core.Path.{◌≡◌, refl, sym, ap, subst, ◌∙◌}
use mathlib.Core.Bool.{Bool, true, false, cond}
use mathlib.Core.List.{List}
use Prim.Native.Nat.{ℕ, ◌+◌, ◌≤◌, ◌<◌, max}
use native.Mathlib.Omega.{arith}
use borrow.Author.Tests.{leb-true, ne_eqb, lt-ltb, le-ltb}
use lib.ListN.{length, get_or}
use lib.Dec.{eqb, leb}
use Rattle.std.specs.Prelude.{Ok, Err}
use Rattle.ground.proofs.Laws.{never, and_true}
use Rattle.answer.specs.declared.refusal.Why.TheVariants.{NotJson}
use Rattle.json_scan.specs.Json.{Mode, Stack, go, die, step, one, inside, is_unescaped, is_hex, is_d, is_high, is_low, is_short, is_byte, Place, as_key, closed, str, text, wide, plain, esc, h1, h2, h2d, h3, h4, g3, g4, g5, g6, g7, g8, tail}
use Rattle.json_scan.specs.Meets.{run_at, on_step, Forth, Reads, Takes, one_of, then_one, Stays, Passes, Wide, Step}
use Rattle.answer.specs.declared.refusal.Fault.{Fault}
use Rattle.json_scan.proofs.Readers.{lt_of_class, inside_zero, hop_reads, go_reads, die_reads, one_reads, then_reads}

abbrev two_hex : List ℕ → ℕ → Step
two_hex t p = then_one is_hex t (one_of is_hex t p)

module _ (t : List ℕ) (p : ℕ) (w : Place) where
  two : (m m' m'' : Mode) → Takes is_hex (get_or t p 0) m m' → ((b : ℕ) → Takes is_hex b m' m'') → Reads t p m m'' (two_hex t p)
  two m m' m'' s s' = then_reads t p m is_hex refl m' m'' (one_of is_hex t p) (one_reads t p m is_hex refl m' s) s'

  -- the last two digits of an escape, and of a high surrogate
  pub last_two : Reads t p (str w h3) (str w plain) (two_hex t p)
  unfolding text
  last_two = two (str w h3) (str w h4) (str w plain) (λ k. (refl, refl)) (λ b k. (refl, refl))

  pub high_two : Reads t p (str w g3) (str w g5) (two_hex t p)
  unfolding text
  high_two = two (str w g3) (str w g4) (str w g5) (λ k. (refl, refl)) (λ b k. (refl, refl))

  pub first_two : is_d (get_or t p 0) ≡ false → Reads t p (str w h1) (str w h3) (two_hex t p)
  unfolding text
  first_two d = two (str w h1) (str w h2) (str w h3) (λ k. (ap (λ (x : Bool). cond x (go (str w h2d) k) (one (is_hex (get_or t p 0)) (str w h2) k)) d, refl)) (λ b k. (refl, refl))

  pub slash : Reads t p (str w g5) (str w g6) (one_of (is_byte 92) t p)
  unfolding text
  slash = one_reads t p (str w g5) (is_byte 92) refl (str w g6) (λ k. (refl, refl))

  pub letter_u : Reads t p (str w g6) (str w g7) (one_of (is_byte 117) t p)
  unfolding text
  letter_u = one_reads t p (str w g6) (is_byte 117) refl (str w g7) (λ k. (refl, refl))

  -- the first digits of a low surrogate
  pub no_d : is_d (get_or t p 0) ≡ false → Reads t p (str w g7) (str w plain) (Err (record { why = NotJson; at = p }))
  unfolding text
  no_d d = die_reads t p (str w g7) (str w plain) (λ k. ap (λ (x : Bool). one x (str w g8) k) d) (λ k. refl)

  pub d_on : is_d (get_or t p 0) ≡ true → (r : Step) → Reads t (p + 1) (str w g8) (str w plain) r → Reads t p (str w g7) (str w plain) r
  unfolding text
  d_on d r R = hop_reads t p (str w g7) (str w g8) (str w plain) r (lt_of_class is_d refl t p d) (λ k. ap (λ (x : Bool). one x (str w g8) k) d) R

  pub no_low : is_low (get_or t p 0) ≡ false → Reads t p (str w g8) (str w plain) (Err (record { why = NotJson; at = p }))
  unfolding text
  no_low d = die_reads t p (str w g8) (str w plain) (λ k. ap (λ (x : Bool). one x (str w h3) k) d) (λ k. refl)

  pub low_on : is_low (get_or t p 0) ≡ true → (r : Step) → Reads t (p + 1) (str w h3) (str w plain) r → Reads t p (str w g8) (str w plain) r
  unfolding text
  low_on d r R = hop_reads t p (str w g8) (str w h3) (str w plain) r (lt_of_class is_low refl t p d) (λ k. ap (λ (x : Bool). one x (str w h3) k) d) R

  -- the digit after d
  pub below_8 : inside 48 55 (get_or t p 0) ≡ true → (r : Step) → Reads t (p + 1) (str w h3) (str w plain) r → Reads t p (str w h2d) (str w plain) r
  unfolding text
  below_8 d r R = hop_reads t p (str w h2d) (str w h3) (str w plain) r (lt_of_class (inside 48 55) refl t p d) (λ k. ap (λ (x : Bool). cond x (go (str w h3) k) (one (is_high (get_or t p 0)) (str w g3) k)) d) R

  module _ (n : inside 48 55 (get_or t p 0) ≡ false) where
    high_step : (k : Stack) → step (str w h2d) (get_or t p 0) k ≡ one (is_high (get_or t p 0)) (str w g3) k
    unfolding text
    high_step k = ap (λ (x : Bool). cond x (go (str w h3) k) (one (is_high (get_or t p 0)) (str w g3) k)) n

    pub no_high : is_high (get_or t p 0) ≡ false → Reads t p (str w h2d) (str w plain) (Err (record { why = NotJson; at = p }))
    no_high d = die_reads t p (str w h2d) (str w plain) (λ k. high_step k ∙ ap (λ (x : Bool). one x (str w g3) k) d) (λ k. refl)

    pub high_on : is_high (get_or t p 0) ≡ true → (r : Step) → Reads t (p + 1) (str w g3) (str w plain) r → Reads t p (str w h2d) (str w plain) r
    high_on d r R = hop_reads t p (str w h2d) (str w g3) (str w plain) r (lt_of_class is_high refl t p d) (λ k. high_step k ∙ ap (λ (x : Bool). one x (str w g3) k) d) R

  pub h1_d : is_d (get_or t p 0) ≡ true → (r : Step) → Reads t (p + 1) (str w h2d) (str w plain) r → Reads t p (str w h1) (str w plain) r
  unfolding text
  h1_d d r R = hop_reads t p (str w h1) (str w h2d) (str w plain) r (lt_of_class is_d refl t p d) (λ k. ap (λ (x : Bool). cond x (go (str w h2d) k) (one (is_hex (get_or t p 0)) (str w h2) k)) d) R

  -- after a \
  pub short : is_short (get_or t p 0) ≡ true → Reads t p (str w esc) (str w plain) (Ok (p + 1))
  unfolding text
  short d = go_reads t p (str w esc) (str w plain) (lt_of_class is_short refl t p d) (λ k. ap (λ (x : Bool). cond x (go (str w plain) k) (one (eqb (get_or t p 0) 117) (str w h1) k)) d)

  pub esc_u : get_or t p 0 ≡ 117 → p < length t → (r : Step) → Reads t (p + 1) (str w h1) (str w plain) r → Reads t p (str w esc) (str w plain) r
  unfolding text
  esc_u b l r R = hop_reads t p (str w esc) (str w h1) (str w plain) r l (λ k. ap (λ (x : ℕ). text w esc x k) b) R

  pub esc_bad : is_short (get_or t p 0) ≡ false → (get_or t p 0 ≡ 117 → ⊥) → Reads t p (str w esc) (str w plain) (Err (record { why = NotJson; at = p }))
  unfolding text
  esc_bad d n = die_reads t p (str w esc) (str w plain)
      (λ k. ap (λ (x : Bool). cond x (go (str w plain) k) (one (eqb (get_or t p 0) 117) (str w h1) k)) d ∙ ap (λ (x : Bool). one x (str w h1) k) (ne_eqb (get_or t p 0) 117 n))
      (λ k. refl)

  -- the bytes of a character after its first
  pub tail_0 : (lo hi : ℕ) → 0 < lo → Reads t p (str w (tail lo hi 0)) (str w plain) (one_of (inside lo hi) t p)
  unfolding text
  tail_0 lo hi h = one_reads t p (str w (tail lo hi 0)) (inside lo hi) (inside_zero lo hi h) (str w plain) (λ k. (refl, refl))

  pub tail_1 : (lo hi : ℕ) → 0 < lo → Reads t p (str w (tail lo hi 1)) (str w plain) (then_one (inside 128 191) t (one_of (inside lo hi) t p))
  unfolding text
  tail_1 lo hi h = then_reads t p (str w (tail lo hi 1)) (inside 128 191) refl (str w (tail 128 191 0)) (str w plain) (one_of (inside lo hi) t p)
      (one_reads t p (str w (tail lo hi 1)) (inside lo hi) (inside_zero lo hi h) (str w (tail 128 191 0)) (λ k. (refl, refl))) (λ b k. (refl, refl))

  pub tail_2 : (lo hi : ℕ) → 0 < lo → Reads t p (str w (tail lo hi 2)) (str w plain) (then_one (inside 128 191) t (then_one (inside 128 191) t (one_of (inside lo hi) t p)))
  unfolding text
  tail_2 lo hi h = then_reads t p (str w (tail lo hi 2)) (inside 128 191) refl (str w (tail 128 191 0)) (str w plain) (then_one (inside 128 191) t (one_of (inside lo hi) t p))
      (then_reads t p (str w (tail lo hi 2)) (inside 128 191) refl (str w (tail 128 191 1)) (str w (tail 128 191 0)) (one_of (inside lo hi) t p)
      (one_reads t p (str w (tail lo hi 2)) (inside lo hi) (inside_zero lo hi h) (str w (tail 128 191 1)) (λ k. (refl, refl))) (λ b k. (refl, refl)))
      (λ b k. (refl, refl))

-- the first byte of a character of several
module _ (t : List ℕ) (p b : ℕ) (l : p < length t) (e : b ≡ get_or t p 0) (w : Place) where
  pub wide_on : (lo hi n : ℕ) → ((k : Stack) → wide w b k ≡ go (str w (tail lo hi n)) k) → (r : Step) → Reads t (p + 1) (str w (tail lo hi n)) (str w plain) r → Wide w t p b r
  wide_on lo hi n s r R S = hop_reads t p (str w plain) (str w (tail lo hi n)) (str w plain) r l (λ k. ap (λ (x : ℕ). step (str w plain) x k) (sym e) ∙ S k ∙ s k) R

  pub wide_bad : ((k : Stack) → wide w b k ≡ die NotJson) → Wide w t p b (Err (record { why = NotJson; at = p }))
  wide_bad s S = die_reads t p (str w plain) (str w plain) (λ k. ap (λ (x : ℕ). step (str w plain) x k) (sym e) ∙ S k ∙ s k) (λ k. refl)

  -- a character that is no quote
  module _ (q : b ≡ 34 → ⊥) where
    pub control : b < 32 → Reads t p (str w plain) (str w plain) (Err (record { why = NotJson; at = p }))
    unfolding text
    control h = die_reads t p (str w plain) (str w plain) (λ k. ap (λ (x : ℕ). text w plain x k) (sym e) ∙ simp (ne_eqb b 34 q, lt-ltb b 32 h)) (λ k. refl)

    pub escaped : b ≡ 92 → (r : Step) → Reads t (p + 1) (str w esc) (str w plain) r → Reads t p (str w plain) (str w plain) r
    unfolding text
    escaped h r R = hop_reads t p (str w plain) (str w esc) (str w plain) r l (λ k. ap (λ (x : ℕ). text w plain x k) (sym e ∙ h)) R

    module _ (h : 32 ≤ b) (n : b ≡ 92 → ⊥) where
      pub ascii : b < 128 → Reads t p (str w plain) (str w plain) (Ok (p + 1))
      unfolding text
      ascii g = go_reads t p (str w plain) (str w plain) l (λ k. ap (λ (x : ℕ). text w plain x k) (sym e) ∙ simp (ne_eqb b 34 q, le-ltb b 32 h, ne_eqb b 92 n, lt-ltb b 128 g))

      pub wider : 128 ≤ b → (r : Step) → Wide w t p b r → Reads t p (str w plain) (str w plain) r
      unfolding text
      wider g r W = W (λ k. simp (ne_eqb b 34 q, le-ltb b 32 h, ne_eqb b 92 n, le-ltb b 128 g))

  pub quoted : b ≡ 34 → Reads t p (str w plain) (closed w) (Ok (p + 1))
  unfolding text
  quoted h = go_reads t p (str w plain) (closed w) l (λ k. ap (λ (x : ℕ). text w plain x k) (sym e ∙ h))

-- so far: from p in the string the automaton comes to where it comes from q
pub record Inner (t : List ℕ) (p q : ℕ) : Type 0 where
  pub low : p ≤ q
  pub high : q ≤ max p (length t)
  pub same : (w : Place) (k : Stack) → run_at t (str w plain) k p ≡ run_at t (str w plain) k q

-- bytes that stand for themselves leave the automaton in the string
plain_stays : (w : Place) → Stays is_unescaped (str w plain)
unfolding text
plain_stays w b k h =
    let s = and_true (inside 32 127 b) _ h in
    let i = and_true (leb 32 b) (leb b 127) s.0 in
    let low : 32 ≤ b = leb-true 32 b i.0 in
    let high : b ≤ 127 = leb-true b 127 i.1 in
    simp (ne_eqb b 34 (other 34 refl), le-ltb b 32 low, ne_eqb b 92 (other 92 refl), lt-ltb b 128 (omega arith))
  where
    other : (x : ℕ) → is_unescaped x ≡ false → b ≡ x → ⊥
    other x n e = never (sym n ∙ sym (ap is_unescaped e) ∙ h)

module _ (t : List ℕ) (p q : ℕ) (I : Inner t p q) where
  pub inner_past : (r : ℕ) → Passes is_unescaped t q r → Inner t p r
  inner_past r P =
      let low = I.low in
      let high = I.high in
      let far = P.low in
      let end = P.high in
      record { low = omega arith; high = omega arith; same = λ w k. I.same w k ∙ P.same (str w plain) (plain_stays w) k }

  pub inner_on : (r : Step) → ((w : Place) → Reads t q (str w plain) (str w plain) r) → (e : ℕ) → r ≡ Ok e → Inner t p e × (q < e) × (e ≤ length t)
  inner_on r R e n =
      let f : (q < e) × (e ≤ length t) = subst (Forth t q) n (R as_key).forth in
      let low = I.low in
      (record { low = omega arith; high = omega arith; same = λ w k. I.same w k ∙ (R w).same k ∙ ap (on_step t (str w plain) k) n }, f.0, f.1)

  pub inner_bad : (r : Step) → ((w : Place) → Reads t q (str w plain) (str w plain) r) → (f : Fault) → r ≡ Err f → (w : Place) → Reads t p (str w plain) (closed w) (Err f)
  inner_bad r R f n w = record { same = λ k. I.same w k ∙ (R w).same k ∙ ap (on_step t (str w plain) k) n; forth = tt }

  pub inner_shut : q < length t → get_or t q 0 ≡ 34 → (w : Place) → Reads t p (str w plain) (closed w) (Ok (q + 1))
  inner_shut l e w =
      let R = quoted t q (get_or t q 0) l refl w e in
      let low = I.low in
      record { same = λ k. I.same w k ∙ R.same k; forth = (omega arith, omega arith) }

  pub inner_end : length t ≤ q → (w : Place) → Reads t p (str w plain) (closed w) (Err (record { why = NotJson; at = q }))
  inner_end l w = record { same = λ k. I.same w k ∙ Rattle.json_scan.proofs.Laws.at_end t (str w plain) k q l; forth = tt }
