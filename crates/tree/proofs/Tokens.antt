-- Words and numbers: where they end, and sizes. Assumes nothing.
use Rattle.std.specs.Prelude.{None}
use mathlib.Core.Path.{◌≡◌, refl, sym, ap, ◌∙◌}
use mathlib.Core.Bool.{Bool, true, false, cond, not}
use mathlib.Core.List.{List, [], ◌∷◌, ◌++◌, append_assoc, append-nil}
use Prim.Native.Nat.{ℕ, suc, ◌+◌, ◌-◌, ◌*◌, ◌≤◌}
use native.Mathlib.Omega.{arith}
use lib.Dec.{leb}
use lib.ListN.{length, drop, length-append}
use borrow.Author.Tests.{ne_eqb, le-leb, leb-true}
use Rattle.json_scan.specs.Json.{is_space, is_digit}
use Rattle.ground.specs.Bytes.{byte_at}
use Rattle.ground.proofs.Laws.{and_true, never}
use Rattle.view.specs.Values.{count, shape_of}
use Rattle.view.specs.declared.shape.Shape.TheVariants.{Number}
use Rattle.view.specs.Ends.{is_token, is_delimiter, is_block, literal_end, end_of}
use Rattle.view.specs.Size.{fitting, size_from, size_of}
use Rattle.viewed.proofs.Values.{byte_here}
use Rattle.grammar.specs.Grammar.{bytes, Byte, Range, within, ◌·◌, join, ◌or◌, this, that, Optional, absent, present, Many, none, more, DIGIT, int, number}
use Rattle.tree.specs.Tree.{decimal, size_in}
use Rattle.tree.proofs.Standing.{Stops}

-- ---- bytes of a word or a number are no delimiters
no_delimiter : (b : ℕ) → (b ≡ 44 → ⊥) → (b ≡ 93 → ⊥) → (b ≡ 125 → ⊥) → (b ≡ 32 → ⊥) → (b ≡ 9 → ⊥) → (b ≡ 10 → ⊥) → (b ≡ 13 → ⊥) → is_delimiter b ≡ false
unfolding is_delimiter
no_delimiter b a c d e f g h = rw (ne_eqb b 44 a, ne_eqb b 93 c, ne_eqb b 125 d, ne_eqb b 32 e, ne_eqb b 9 f, ne_eqb b 10 g, ne_eqb b 13 h)

record Tokens (P : List ℕ → Type 0) : Type 0 where
  took : (s : List ℕ) → P s → (u : List ℕ) → count is_token (s ++ u) ≡ length s + count is_token u

one_token : (b : ℕ) (u : List ℕ) → is_delimiter b ≡ false → count is_token (b ∷ u) ≡ 1 + count is_token u
unfolding count
one_token b u h = rw h (omega arith)

token_byte : (x : ℕ) → is_delimiter x ≡ false → Tokens (Byte x)
token_byte x h = record { took = λ s c u. on c u }
  where
    on : {s : List ℕ} → Byte x s → (u : List ℕ) → count is_token (s ++ u) ≡ length s + count is_token u
    on bytes u = one_token x u h

token_range : (lo hi : ℕ) → 45 ≤ lo → hi ≤ 92 → Tokens (Range lo hi)
token_range lo hi x y = record { took = λ s c u. on c u }
  where
    on : {s : List ℕ} → Range lo hi s → (u : List ℕ) → count is_token (s ++ u) ≡ length s + count is_token u
    on (within {b} l g) u =
        one_token b u (no_delimiter b (λ e. omega arith) (λ e. omega arith) (λ e. omega arith) (λ e. omega arith) (λ e. omega arith) (λ e. omega arith) (λ e. omega arith))

module _ {P Q : List ℕ → Type 0} (x : Tokens P) (y : Tokens Q) where
  token_alt : Tokens (P or Q)
  token_alt = record { took = λ s c u. on c u }
    where
      on : {s : List ℕ} → (P or Q) s → (u : List ℕ) → count is_token (s ++ u) ≡ length s + count is_token u
      on (this c) u = x.took _ c u
      on (that c) u = y.took _ c u

  token_join : Tokens (P · Q)
  token_join = record { took = λ s c u. on c u }
    where
      on : {s : List ℕ} → (P · Q) s → (u : List ℕ) → count is_token (s ++ u) ≡ length s + count is_token u
      on (join {s} {t} a b) u =
          let f : count is_token ((s ++ t) ++ u) ≡ length s + count is_token (t ++ u) = ap (count is_token) (append_assoc s t u) ∙ x.took s a (t ++ u) in
          let g : count is_token (t ++ u) ≡ length t + count is_token u = y.took t b u in
          let l : length (s ++ t) ≡ length s + length t = length-append s t in
          omega arith

module _ {P : List ℕ → Type 0} (x : Tokens P) where
  token_optional : Tokens (Optional P)
  token_optional = record { took = λ s c u. on c u }
    where
      on : {s : List ℕ} → Optional P s → (u : List ℕ) → count is_token (s ++ u) ≡ length s + count is_token u
      on absent u = omega arith
      on (present c) u = x.took _ c u

  token_many : Tokens (Many P)
  token_many = record { took = λ s c u. on c u }
    where
      on : {s : List ℕ} → Many P s → (u : List ℕ) → count is_token (s ++ u) ≡ length s + count is_token u
      on none u = omega arith
      on (more {s} {t} a b) u =
          let f : count is_token ((s ++ t) ++ u) ≡ length s + count is_token (t ++ u) = ap (count is_token) (append_assoc s t u) ∙ x.took s a (t ++ u) in
          let g : count is_token (t ++ u) ≡ length t + count is_token u = on b u in
          let l : length (s ++ t) ≡ length s + length t = length-append s t in
          omega arith

token_digit : Tokens DIGIT
token_digit = token_range 48 57 (omega arith) (omega arith)

token_digits : Tokens (DIGIT · Many DIGIT)
token_digits = token_join token_digit (token_many token_digit)

token_number : Tokens number
unfolding is_delimiter
token_number =
    token_join (token_optional (token_byte 45 refl))
    (token_join (token_alt (token_byte 48 refl) (token_join (token_range 49 57 (omega arith) (omega arith)) (token_many token_digit)))
    (token_join (token_optional (token_join (token_byte 46 refl) token_digits))
    (token_optional
    (token_join (token_alt (token_byte 101 refl) (token_byte 69 refl))
    (token_join (token_optional (token_alt (token_byte 45 refl) (token_byte 43 refl))) token_digits)))))

-- all bytes of a number
pub number_tokens : {s : List ℕ} → number s → count is_token s ≡ length s
unfolding count
number_tokens {s} d =
    let a : count is_token s ≡ length s + 0 = ap (count is_token) (sym (append-nil s)) ∙ token_number.took s d [] in
    omega arith

-- ---- where they end
token_end : (t : List ℕ) (p : ℕ) (s u : List ℕ) → drop p t ≡ s ++ u → count is_token (s ++ u) ≡ length s + count is_token u → Stops u → is_block (byte_at t p) ≡ false → end_of t p ≡ p + length s
unfolding end_of literal_end
token_end t p s u e h n b =
    let a : count is_token (drop p t) ≡ length s = ap (count is_token) e ∙ h ∙ (rw n (omega arith)) in
    rw (b, a)

-- a number's first byte
pub record Leads (s : List ℕ) : Type 0 where
  pub first : ℕ
  pub others : List ℕ
  pub is : s ≡ first ∷ others
  pub number : shape_of first ≡ Number
  pub solid : is_space first ≡ false
  block : is_block first ≡ false

digit_leads : (b : ℕ) (s : List ℕ) → 48 ≤ b → b ≤ 57 → Leads (b ∷ s)
unfolding shape_of is_block
digit_leads b s l h = record {
  first = b;
  others = s;
  is = refl;
  number = rw (ne_eqb b 34 (λ e. omega arith), ne_eqb b 91 (λ e. omega arith), ne_eqb b 123 (λ e. omega arith), ne_eqb b 45 (λ e. omega arith), le-leb 48 b l, le-leb b 57 h);
  solid = rw (ne_eqb b 32 (λ e. omega arith), ne_eqb b 9 (λ e. omega arith), ne_eqb b 10 (λ e. omega arith), ne_eqb b 13 (λ e. omega arith));
  block = rw (ne_eqb b 34 (λ e. omega arith), ne_eqb b 91 (λ e. omega arith), ne_eqb b 123 (λ e. omega arith));
}

pub number_leads : {s : List ℕ} → number s → Leads s
unfolding shape_of is_block
number_leads (join {t = t} (present bytes) d) = record { first = 45; others = t; is = refl; number = refl; solid = refl; block = refl }
number_leads (join absent (join {t = t} (this bytes) d)) = digit_leads 48 t (omega arith) (omega arith)
number_leads (join absent (join {t = t} (that (join {t = r} (within {b} l h) ds)) d)) = digit_leads b (r ++ t) (omega arith) h

-- ---- sizes
a_digit : (b : ℕ) → 48 ≤ b → b ≤ 57 → is_digit b ≡ true
a_digit b l h = rw (le-leb 48 b l, le-leb b 57 h)

size_digit : (v b : ℕ) (s : List ℕ) → 48 ≤ b → b ≤ 57 → size_from v (b ∷ s) ≡ size_from (v * 10 + (b - 48)) s
unfolding size_from
size_digit v b s l h = rw (a_digit b l h)

size_digits : {s : List ℕ} → Many DIGIT s → (v : ℕ) (u : List ℕ) → size_from v (s ++ u) ≡ size_from (decimal v s) u
unfolding decimal
size_digits none v u = refl
size_digits (more {t = t} (within {b} l h) ds) v u = size_digit v b (t ++ u) l h ∙ size_digits ds (v * 10 + (b - 48)) u

size_int : {s : List ℕ} → int s → (u : List ℕ) → size_from 0 (s ++ u) ≡ size_from (decimal 0 s) u
unfolding decimal
size_int (this bytes) u = size_digit 0 48 u (omega arith) (omega arith)
size_int (that (join {t = t} (within {b} l h) ds)) u = size_digit 0 b (t ++ u) (omega arith) h ∙ size_digits ds (0 * 10 + (b - 48)) u

-- behind the digits
size_stops : (v : ℕ) (u : List ℕ) → Stops u → size_from v u ≡ fitting v
unfolding size_from count
size_stops v [] n = refl
size_stops v (b ∷ u) n = go (is_delimiter b) refl n (is_digit b) refl
  where
    no_digit : is_delimiter b ≡ true → is_digit b ≡ true → ⊥
    no_digit d g =
        let x = and_true (leb 48 b) (leb b 57) g in
        let l = leb-true 48 b x.0 in
        let h = leb-true b 57 x.1 in
        let f = no_delimiter b (λ e. omega arith) (λ e. omega arith) (λ e. omega arith) (λ e. omega arith) (λ e. omega arith) (λ e. omega arith) (λ e. omega arith) in
        never (sym f ∙ d)

    go : (x : Bool) → is_delimiter b ≡ x → cond (not x) (suc (count is_token u)) 0 ≡ 0 → (y : Bool) → is_digit b ≡ y
        → cond y (size_from (v * 10 + (b - 48)) u) (cond (is_delimiter b) (fitting v) None) ≡ fitting v
    go true d z true g = absurd (no_digit d g)
    go true d z false g = rw d
    go false d z y g = absurd (omega arith)

size_other : (v b : ℕ) (u : List ℕ) → is_digit b ≡ false → is_delimiter b ≡ false → size_from v (b ∷ u) ≡ None
unfolding size_from
size_other v b u n d = rw (n, d)

module _ (t : List ℕ) (p : ℕ) where
  size_led : (b : ℕ) (r : List ℕ) → drop p t ≡ b ∷ r → 48 ≤ b → b ≤ 57 → size_of t p ≡ size_from 0 (b ∷ r)
  unfolding size_of
  size_led b r e l h = (rw (byte_here t p b r e, a_digit b l h)) ∙ ap (size_from 0) e

  int_led : {s : List ℕ} → int s → (u : List ℕ) → drop p t ≡ s ++ u → size_of t p ≡ size_from 0 (s ++ u)
  int_led (this bytes) u e = size_led 48 u e (omega arith) (omega arith)
  int_led (that (join {t = r} (within {b} l h) ds)) u e = size_led b (r ++ u) e (omega arith) h

  -- the digits, and what stands behind them
  int_then : {s : List ℕ} → int s → (r u : List ℕ) → drop p t ≡ (s ++ r) ++ u → size_of t p ≡ size_from (decimal 0 s) (r ++ u)
  int_then {s} d r u e = int_led d (r ++ u) (e ∙ append_assoc s r u) ∙ size_int d (r ++ u)

  pub size_seen : {s : List ℕ} (d : number s) (u : List ℕ) → drop p t ≡ s ++ u → Stops u → size_of t p ≡ size_in d
  unfolding size_of size_in is_delimiter fitting
  size_seen (join {t = r} (present bytes) d) u e n = rw (byte_here t p 45 (r ++ u) e)
  size_seen (join absent (join {t = r} int (join (present (join bytes f)) d))) u e n = int_then int r u e ∙ size_other _ 46 _ refl refl
  size_seen (join absent (join {t = r} int (join absent (present (join (this bytes) x))))) u e n = int_then int r u e ∙ size_other _ 101 _ refl refl
  size_seen (join absent (join {t = r} int (join absent (present (join (that bytes) x))))) u e n = int_then int r u e ∙ size_other _ 69 _ refl refl
  size_seen (join absent (join {s = s} int (join absent absent))) u e n = int_then int [] u e ∙ size_stops (decimal 0 s) u n

-- ---- ends
abbrev pub AllTokens : List ℕ → Type 0
AllTokens [] = Unit {0}
AllTokens (x ∷ s) = (is_delimiter x ≡ false) × AllTokens s

module _ (t : List ℕ) (p : ℕ) where
  pub number_end : {s : List ℕ} → number s → (u : List ℕ) → drop p t ≡ s ++ u → Stops u → end_of t p ≡ p + length s
  number_end {s} d u e n =
      let l = number_leads d in
      let b = byte_here t p l.first (l.others ++ u) (e ∙ ap (λ (y : List ℕ). y ++ u) l.is) in
      token_end t p s u e (token_number.took s d u) n (ap is_block b ∙ l.block)

  -- a word, by its bytes
  pub word_end : (b : ℕ) (r u : List ℕ) → AllTokens (b ∷ r) → is_block b ≡ false → drop p t ≡ (b ∷ r) ++ u → Stops u → end_of t p ≡ p + length (b ∷ r)
  word_end b r u h k e n = token_end t p (b ∷ r) u e (all (b ∷ r) h) n (ap is_block (byte_here t p b (r ++ u) e) ∙ k)
    where
      all : (s : List ℕ) → AllTokens s → count is_token (s ++ u) ≡ length s + count is_token u
      all [] g = omega arith
      all (x ∷ s) (g, gs) = let f = one_token x (s ++ u) g in let i = all s gs in omega arith
