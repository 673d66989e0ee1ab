-- The machine that looks for the end of a value goes along with the automaton of the scan, byte by byte.
-- Assumes nothing.
use mathlib.Core.Path.{◌≡◌, refl, sym, ap, ◌∙◌, subst}
use mathlib.Core.Logic.{◌⊎◌, inl, inr}
use mathlib.Core.Bool.{Bool, true, false, cond}
use mathlib.Core.List.{List, [], ◌∷◌}
use Prim.Native.Nat.{ℕ, zero, suc, ◌+◌, ◌-◌, ◌≤◌}
use native.Mathlib.Omega.{arith}
use lib.Dec.{eqb, leb, ltb}
use lib.ListN.{length}
use borrow.Author.Tests.{ne_eqb, eqb-true, leb-true, eqb-false}
use Rattle.answer.specs.declared.refusal.Why.{Why}
use Rattle.answer.specs.declared.refusal.Why.TheVariants.{NotJson, NestedTooDeep}
use Rattle.json_scan.specs.Json.{Mode, Inside, Num, Place, Stack, Move, Bracket, go, die, deepest, inside, is_space, is_digit, is_hex, is_e, is_sign, is_high, is_low, is_short, is_d, square, brace, as_key, as_value, plain, esc, h1, h2, h2d, h3, h4, g3, g4, g5, g6, g7, g8, tail, minus, nought, int, dot, frac, e, sign, exp, val, first, done, key0, key, colon, word, num, str, opens, word_of, digit1, simple, begin, next, after, power, point, number, closed, rest, one, wide, text, shut, spelt, step, spaced}
use Rattle.ground.proofs.Laws.{and_true}
use Rattle.view.specs.Ends.{mode_after, depth_after}

pub never : {A : Type 0} → false ≡ true → A
never h = let z : ◌≡◌ {A = ℕ} 0 1 = cc in absurd (omega arith)

-- a byte that opens and closes nothing
pub record Neutral (b : ℕ) : Type 0 where
  pub quote : b ≡ 34 → ⊥
  pub open_square : b ≡ 91 → ⊥
  pub shut_square : b ≡ 93 → ⊥
  pub open_brace : b ≡ 123 → ⊥
  pub shut_brace : b ≡ 125 → ⊥

-- ---- the machine's mode in each of the automaton's
abbrev pub inside_mode : Inside → ℕ
inside_mode plain = 1
inside_mode esc = 2
inside_mode h1 = 1
inside_mode h2 = 1
inside_mode h2d = 1
inside_mode h3 = 1
inside_mode h4 = 1
inside_mode g3 = 1
inside_mode g4 = 1
inside_mode g5 = 1
inside_mode g6 = 2
inside_mode g7 = 1
inside_mode g8 = 1
inside_mode (tail lo hi n) = 1

abbrev pub in_mode : Mode → ℕ
in_mode val = 0
in_mode first = 0
in_mode done = 0
in_mode key0 = 0
in_mode key = 0
in_mode colon = 0
in_mode (word x xs) = 0
in_mode (num n) = 0
in_mode (str w i) = inside_mode i

abbrev pub AllNeutral : List ℕ → Type 0
AllNeutral [] = Unit {0}
AllNeutral (x ∷ xs) = Neutral x × AllNeutral xs

abbrev pub good_inside : Inside → Type 0
good_inside plain = Unit {0}
good_inside esc = Unit {0}
good_inside h1 = Unit {0}
good_inside h2 = Unit {0}
good_inside h2d = Unit {0}
good_inside h3 = Unit {0}
good_inside h4 = Unit {0}
good_inside g3 = Unit {0}
good_inside g4 = Unit {0}
good_inside g5 = Unit {0}
good_inside g6 = Unit {0}
good_inside g7 = Unit {0}
good_inside g8 = Unit {0}
good_inside (tail lo hi n) = 128 ≤ lo

-- the modes that the automaton comes to
abbrev pub Good : Mode → Type 0
Good val = Unit {0}
Good first = Unit {0}
Good done = Unit {0}
Good key0 = Unit {0}
Good key = Unit {0}
Good colon = Unit {0}
Good (word x xs) = AllNeutral (x ∷ xs)
Good (num n) = Unit {0}
Good (str w i) = good_inside i

-- in a string that is a key, or a value
abbrev pub same_place : Place → Place → Bool
same_place as_key as_key = true
same_place as_key as_value = false
same_place as_value as_key = false
same_place as_value as_value = true

abbrev pub in_string : Mode → Place → Bool
in_string val w = false
in_string first w = false
in_string done w = false
in_string key0 w = false
in_string key w = false
in_string colon w = false
in_string (word x xs) w = false
in_string (num n) w = false
in_string (str v i) w = same_place v w

abbrev pub outside : Place → Bool
outside w = false

-- ---- a move of both
-- the brackets stay, or there is one more, or one less, and a value is done
pub data Stacks (i b : ℕ) (κ : Stack) (m : Mode) (κ' : Stack) : Type 0 where
  keeps : κ' ≡ κ → ((d : ℕ) → depth_after i b d ≡ d) → Stacks i b κ m κ'
  pushes : (x : Bracket) → κ' ≡ x ∷ κ → ((d : ℕ) → depth_after i b d ≡ d + 1) → Stacks i b κ m κ'
  pops : (x : Bracket) → κ ≡ x ∷ κ' → m ≡ done → ((d : ℕ) → depth_after i b d ≡ d - 1) → Stacks i b κ m κ'

-- from the machine's mode i, in a string or not, over the byte b to the automaton's mode m
pub record Goes (v : Place → Bool) (b i : ℕ) (κ : Stack) (m : Mode) (κ' : Stack) : Type 0 where
  pub mode : mode_after i b ≡ in_mode m
  pub good : Good m
  pub along : (w : Place) → v w ≡ true → (in_string m w ≡ true) ⊎ (m ≡ closed w)
  pub stack : Stacks i b κ m κ'

abbrev Fits' : (Place → Bool) → ℕ → ℕ → Stack → Move → Type 0
Fits' v b i κ (go m κ') = Goes v b i κ m κ'
Fits' v b i κ (die w) = Unit {0}

pub record Fits (v : Place → Bool) (b i : ℕ) (κ : Stack) (x : Move) : Type 0 where
  pub fits : Fits' v b i κ x

dead : {v : Place → Bool} {b i : ℕ} {κ : Stack} (w : Why) → Fits v b i κ (die w)
dead w = record { fits = tt }

module _ {v : Place → Bool} {b i : ℕ} {κ : Stack} where
  alt : (x : Bool) (A B : Move) → (x ≡ true → Fits v b i κ A) → (x ≡ false → Fits v b i κ B) → Fits v b i κ (cond x A B)
  alt true A B f g = f refl
  alt false A B f g = g refl

  only : (x : Bool) (m : Mode) (κ' : Stack) → (x ≡ true → Fits v b i κ (go m κ')) → Fits v b i κ (one x m κ')
  only x m κ' f = alt x (go m κ') (die NotJson) f (λ _. dead NotJson)

-- ---- classes of bytes: a byte of the class is none that is not of it
module _ (f : ℕ → Bool) (b : ℕ) (h : f b ≡ true) where
  differs : (c : ℕ) → f c ≡ false → b ≡ c → ⊥
  differs c p q = never (sym p ∙ ap f (sym q) ∙ h)

  neutral : f 34 ≡ false → f 91 ≡ false → f 93 ≡ false → f 123 ≡ false → f 125 ≡ false → Neutral b
  neutral p q r s t =
      record { quote = differs 34 p; open_square = differs 91 q; shut_square = differs 93 r; open_brace = differs 123 s; shut_brace = differs 125 t }

-- ---- moves outside of strings
module _ (κ : Stack) {b : ℕ} where
  calm : Neutral b → (m : Mode) → in_mode m ≡ 0 → Good m → Fits outside b 0 κ (go m κ)
  unfolding mode_after depth_after
  calm n m z g = record {
    fits = record {
      mode = rw (ne_eqb b 34 n.quote) (sym z);
      good = g;
      along = λ w. never;
      stack = keeps refl (λ d. rw (ne_eqb b 91 n.open_square, ne_eqb b 123 n.open_brace, ne_eqb b 93 n.shut_square, ne_eqb b 125 n.shut_brace));
    };
  }

  quoted : (w : Place) → eqb b 34 ≡ true → Fits outside b 0 κ (go (str w plain) κ)
  unfolding mode_after depth_after
  quoted w h = let k = eqb-true b 34 h in record { fits = record { mode = rw k; good = tt; along = λ w. never; stack = keeps refl (λ d. rw k) } }

  opened : (c : ℕ) → eqb b c ≡ true → mode_after 0 c ≡ 0 → ((d : ℕ) → depth_after 0 c d ≡ d + 1) → (x : Bracket) (m : Mode) → in_mode m ≡ 0 → Good m
      → Fits outside b 0 κ (opens x m κ)
  opened c h p q x m z g =
      alt (ltb (length κ) deepest) (go m (x ∷ κ)) (die NestedTooDeep)
      (λ _. record {
        fits = record {
          mode = ap (λ (y : ℕ). mode_after 0 y) (eqb-true b c h) ∙ p ∙ sym z;
          good = g;
          along = λ w. never;
          stack = pushes x refl (λ d. ap (λ (y : ℕ). depth_after 0 y d) (eqb-true b c h) ∙ q d);
        };
      })
      (λ _. dead NestedTooDeep)

popped : (x : Bracket) (k : Stack) {b : ℕ} (c : ℕ) → eqb b c ≡ true → mode_after 0 c ≡ 0 → ((d : ℕ) → depth_after 0 c d ≡ d - 1) → Fits outside b 0 (x ∷ k) (go done k)
popped x k {b} c h p q = record {
  fits = record {
    mode = ap (λ (y : ℕ). mode_after 0 y) (eqb-true b c h) ∙ p;
    good = tt;
    along = λ w. never;
    stack = pops x refl refl (λ d. ap (λ (y : ℕ). depth_after 0 y d) (eqb-true b c h) ∙ q d);
  };
}

module _ (b : ℕ) where
  fits_next : (κ : Stack) → Fits outside b 0 κ (next b κ)
  unfolding mode_after depth_after
  fits_next [] = dead NotJson
  fits_next (square ∷ k) =
      alt (eqb b 93) (go done k) (cond (eqb b 44) (go val (square ∷ k)) (die NotJson))
      (λ h. popped square k 93 h refl (λ d. refl))
      (λ _. only (eqb b 44) val (square ∷ k) (λ h. calm (square ∷ k) (neutral (λ x. eqb x 44) b h refl refl refl refl refl) val refl tt))
  fits_next (brace ∷ k) =
      alt (eqb b 125) (go done k) (cond (eqb b 44) (go key (brace ∷ k)) (die NotJson))
      (λ h. popped brace k 125 h refl (λ d. refl))
      (λ _. only (eqb b 44) key (brace ∷ k) (λ h. calm (brace ∷ k) (neutral (λ x. eqb x 44) b h refl refl refl refl refl) key refl tt))

  module _ (κ : Stack) where
    fits_space : (m : Mode) → in_mode m ≡ 0 → Good m → (x : Move) → Fits outside b 0 κ x → Fits outside b 0 κ (spaced m κ b x)
    fits_space m z g x f = alt (is_space b) (go m κ) x (λ h. calm κ (neutral is_space b h refl refl refl refl refl) m z g) (λ _. f)

    fits_after : Fits outside b 0 κ (after b κ)
    fits_after = fits_space done refl tt (next b κ) (fits_next κ)

    fits_digit1 : Fits outside b 0 κ (digit1 b κ)
    fits_digit1 =
        alt (eqb b 48) (go (num nought) κ) (cond (inside 49 57 b) (go (num int) κ) (die NotJson))
        (λ h. calm κ (neutral (λ x. eqb x 48) b h refl refl refl refl refl) (num nought) refl tt)
        (λ _. only (inside 49 57 b) (num int) κ (λ h. calm κ (neutral (inside 49 57) b h refl refl refl refl refl) (num int) refl tt))

    fits_power : Fits outside b 0 κ (power b κ)
    fits_power = alt (is_e b) (go (num e) κ) (after b κ) (λ h. calm κ (neutral is_e b h refl refl refl refl refl) (num e) refl tt) (λ _. fits_after)

    fits_point : Fits outside b 0 κ (point b κ)
    fits_point =
        alt (eqb b 46) (go (num dot) κ) (power b κ) (λ h. calm κ (neutral (λ x. eqb x 46) b h refl refl refl refl refl) (num dot) refl tt) (λ _. fits_power)

    digits : (n : Num) (x : Move) → Fits outside b 0 κ x → Fits outside b 0 κ (cond (is_digit b) (go (num n) κ) x)
    digits n x f = alt (is_digit b) (go (num n) κ) x (λ h. calm κ (neutral is_digit b h refl refl refl refl refl) (num n) refl tt) (λ _. f)

    fits_number : (n : Num) → Fits outside b 0 κ (number n b κ)
    unfolding number
    fits_number minus = fits_digit1
    fits_number nought = fits_point
    fits_number int = digits int (point b κ) fits_point
    fits_number dot = digits frac (die NotJson) (dead NotJson)
    fits_number frac = digits frac (power b κ) fits_power
    fits_number e =
        alt (is_sign b) (go (num sign) κ) (cond (is_digit b) (go (num exp) κ) (die NotJson))
        (λ h. calm κ (neutral is_sign b h refl refl refl refl refl) (num sign) refl tt)
        (λ _. digits exp (die NotJson) (dead NotJson))
    fits_number sign = digits exp (die NotJson) (dead NotJson)
    fits_number exp = digits exp (after b κ) fits_after

    letter : (c : ℕ) → eqb c c ≡ true → eqb 34 c ≡ false → eqb 91 c ≡ false → eqb 93 c ≡ false → eqb 123 c ≡ false → eqb 125 c ≡ false → Neutral c
    letter c h p q r s t = neutral (λ x. eqb x c) c h p q r s t

    fits_word : (x : Move) → Fits outside b 0 κ x → Fits outside b 0 κ (word_of b κ x)
    unfolding word_of
    fits_word x f =
        alt (eqb b 116) (go (word 114 (117 ∷ 101 ∷ [])) κ)
        (cond (eqb b 102) (go (word 97 (108 ∷ 115 ∷ 101 ∷ [])) κ) (cond (eqb b 110) (go (word 117 (108 ∷ 108 ∷ [])) κ) x))
        (λ h. calm κ (neutral (λ x. eqb x 116) b h refl refl refl refl refl) (word 114 (117 ∷ 101 ∷ [])) refl
        (letter 114 refl refl refl refl refl refl, (letter 117 refl refl refl refl refl refl, (letter 101 refl refl refl refl refl refl, tt))))
        (λ _. alt (eqb b 102) (go (word 97 (108 ∷ 115 ∷ 101 ∷ [])) κ) (cond (eqb b 110) (go (word 117 (108 ∷ 108 ∷ [])) κ) x)
        (λ h. calm κ (neutral (λ x. eqb x 102) b h refl refl refl refl refl) (word 97 (108 ∷ 115 ∷ 101 ∷ [])) refl
        (letter 97 refl refl refl refl refl refl, (letter 108 refl refl refl refl refl refl, (letter 115 refl refl refl refl refl refl, (letter 101 refl refl refl refl refl refl, tt)))))
        (λ _. alt (eqb b 110) (go (word 117 (108 ∷ 108 ∷ [])) κ) x
        (λ h. calm κ (neutral (λ x. eqb x 110) b h refl refl refl refl refl) (word 117 (108 ∷ 108 ∷ [])) refl
        (letter 117 refl refl refl refl refl refl, (letter 108 refl refl refl refl refl refl, (letter 108 refl refl refl refl refl refl, tt))))
        (λ _. f)))

    fits_simple : Fits outside b 0 κ (simple b κ)
    unfolding simple
    fits_simple =
        alt (eqb b 34) (go (str as_value plain) κ) (cond (eqb b 45) (go (num minus) κ) (word_of b κ (digit1 b κ)))
        (λ h. quoted κ as_value h)
        (λ _. alt (eqb b 45) (go (num minus) κ) (word_of b κ (digit1 b κ))
        (λ h. calm κ (neutral (λ x. eqb x 45) b h refl refl refl refl refl) (num minus) refl tt)
        (λ _. fits_word (digit1 b κ) fits_digit1))

    fits_begin : Fits outside b 0 κ (begin b κ)
    unfolding mode_after depth_after
    fits_begin =
        alt (eqb b 91) (opens square first κ) (cond (eqb b 123) (opens brace key0 κ) (simple b κ))
        (λ h. opened κ 91 h refl (λ d. refl) square first refl tt)
        (λ _. alt (eqb b 123) (opens brace key0 κ) (simple b κ) (λ h. opened κ 123 h refl (λ d. refl) brace key0 refl tt) (λ _. fits_simple))

  fits_shut : (c : ℕ) → eqb b c ≡ true → mode_after 0 c ≡ 0 → ((d : ℕ) → depth_after 0 c d ≡ d - 1) → (κ : Stack) → Fits outside b 0 κ (shut κ)
  fits_shut c h p q [] = dead NotJson
  fits_shut c h p q (x ∷ k) = popped x k c h p q

-- ---- moves in strings
quote_ends : mode_after 1 34 ≡ 0
unfolding mode_after
quote_ends = refl

module _ (b : ℕ) (w : Place) (κ : Stack) where
  stay : (b ≡ 34 → ⊥) → (b ≡ 92 → ⊥) → (i : Inside) → inside_mode i ≡ 1 → good_inside i → Fits (same_place w) b 1 κ (go (str w i) κ)
  unfolding mode_after depth_after
  stay p q i z g = record { fits = record { mode = rw (ne_eqb b 34 p, ne_eqb b 92 q) (sym z); good = g; along = λ v h. inl h; stack = keeps refl (λ d. refl) } }

  free : (i : Inside) → inside_mode i ≡ 1 → good_inside i → Fits (same_place w) b 2 κ (go (str w i) κ)
  unfolding mode_after depth_after
  free i z g = record { fits = record { mode = sym z; good = g; along = λ v h. inl h; stack = keeps refl (λ d. refl) } }

  slash : eqb b 92 ≡ true → (i : Inside) → inside_mode i ≡ 2 → good_inside i → Fits (same_place w) b 1 κ (go (str w i) κ)
  unfolding mode_after depth_after
  slash h i z g = let k = eqb-true b 92 h in record { fits = record { mode = rw k (sym z); good = g; along = λ v h. inl h; stack = keeps refl (λ d. refl) } }

  of : (f : ℕ → Bool) → f 34 ≡ false → f 92 ≡ false → (i : Inside) → inside_mode i ≡ 1 → good_inside i → Fits (same_place w) b 1 κ (one (f b) (str w i) κ)
  of f p q i z g = only (f b) (str w i) κ (λ h. stay (differs f b h 34 p) (differs f b h 92 q) i z g)

  of_then : (f : ℕ → Bool) → f 34 ≡ false → f 92 ≡ false → (i : Inside) → inside_mode i ≡ 1 → good_inside i → (x : Move) → Fits (same_place w) b 1 κ x
      → Fits (same_place w) b 1 κ (cond (f b) (go (str w i) κ) x)
  of_then f p q i z g x k = alt (f b) (go (str w i) κ) x (λ h. stay (differs f b h 34 p) (differs f b h 92 q) i z g) (λ _. k)

  fits_wide : Fits (same_place w) b 1 κ (wide w b κ)
  unfolding wide
  fits_wide =
      of_then (inside 194 223) refl refl (tail 128 191 0) refl (omega arith) _
      (of_then (λ x. eqb x 224) refl refl (tail 160 191 1) refl (omega arith) _
      (of_then (λ x. eqb x 237) refl refl (tail 128 159 1) refl (omega arith) _
      (of_then (inside 225 239) refl refl (tail 128 191 1) refl (omega arith) _
      (of_then (λ x. eqb x 240) refl refl (tail 144 191 2) refl (omega arith) _
      (of_then (λ x. eqb x 244) refl refl (tail 128 143 2) refl (omega arith) _
      (of (inside 241 243) refl refl (tail 128 191 2) refl (omega arith)))))))

  closes : (v : Place) → eqb b 34 ≡ true → Fits (same_place v) b 1 κ (go (closed v) κ)
  unfolding mode_after depth_after
  closes v h = let k = eqb-true b 34 h in record { fits = record { mode = shuts v k; good = calmed v; along = λ u g. inr (same_closed v u g); stack = keeps refl (λ d. refl) } }
    where
      shuts : (v : Place) → b ≡ 34 → mode_after 1 b ≡ in_mode (closed v)
      shuts as_key k = ap (λ (x : ℕ). mode_after 1 x) k ∙ quote_ends
      shuts as_value k = ap (λ (x : ℕ). mode_after 1 x) k ∙ quote_ends

      calmed : (v : Place) → Good (closed v)
      calmed as_key = tt
      calmed as_value = tt

      same_closed : (v u : Place) → same_place v u ≡ true → closed v ≡ closed u
      same_closed as_key as_key g = refl
      same_closed as_key as_value g = never g
      same_closed as_value as_key g = never g
      same_closed as_value as_value g = refl

  ranged : (lo hi : ℕ) → inside lo hi b ≡ true → lo ≤ b
  ranged lo hi h = leb-true lo b (and_true (leb lo b) (leb b hi) h).0

  fits_rest : (lo hi : ℕ) → 128 ≤ lo → inside lo hi b ≡ true → (n : ℕ) → Fits (same_place w) b 1 κ (go (str w (rest n)) κ)
  fits_rest lo hi g h zero = let l = ranged lo hi h in stay (λ x. omega arith) (λ x. omega arith) plain refl tt
  fits_rest lo hi g h (suc n) = let l = ranged lo hi h in stay (λ x. omega arith) (λ x. omega arith) (tail 128 191 n) refl (omega arith)

  fits_text : (i : Inside) → good_inside i → Fits (same_place w) b (inside_mode i) κ (text w i b κ)
  unfolding text
  fits_text plain g =
      alt (eqb b 34) (go (closed w) κ) (cond (ltb b 32) (die NotJson) (cond (eqb b 92) (go (str w esc) κ) (cond (ltb b 128) (go (str w plain) κ) (wide w b κ))))
      (λ h. closes w h)
      (λ p. alt (ltb b 32) (die NotJson) (cond (eqb b 92) (go (str w esc) κ) (cond (ltb b 128) (go (str w plain) κ) (wide w b κ)))
      (λ _. dead NotJson)
      (λ _. alt (eqb b 92) (go (str w esc) κ) (cond (ltb b 128) (go (str w plain) κ) (wide w b κ))
      (λ h. slash h esc refl tt)
      (λ q. alt (ltb b 128) (go (str w plain) κ) (wide w b κ) (λ _. stay (eqb-false b 34 p) (eqb-false b 92 q) plain refl tt) (λ _. fits_wide))))
  fits_text esc g = alt (is_short b) (go (str w plain) κ) (one (eqb b 117) (str w h1) κ) (λ _. free plain refl tt) (λ _. only (eqb b 117) (str w h1) κ (λ _. free h1 refl tt))
  fits_text h1 g = of_then is_d refl refl h2d refl tt _ (of is_hex refl refl h2 refl tt)
  fits_text h2 g = of is_hex refl refl h3 refl tt
  fits_text h2d g = of_then (inside 48 55) refl refl h3 refl tt _ (of is_high refl refl g3 refl tt)
  fits_text h3 g = of is_hex refl refl h4 refl tt
  fits_text h4 g = of is_hex refl refl plain refl tt
  fits_text g3 g = of is_hex refl refl g4 refl tt
  fits_text g4 g = of is_hex refl refl g5 refl tt
  fits_text g5 g = only (eqb b 92) (str w g6) κ (λ h. slash h g6 refl tt)
  fits_text g6 g = only (eqb b 117) (str w g7) κ (λ _. free g7 refl tt)
  fits_text g7 g = of is_d refl refl g8 refl tt
  fits_text g8 g = of is_low refl refl h3 refl tt
  fits_text (tail lo hi n) g = only (inside lo hi b) (str w (rest n)) κ (λ h. fits_rest lo hi g h n)

-- ---- every move
module _ (b : ℕ) where
  fits_spelt : (κ : Stack) (x : ℕ) (xs : List ℕ) → AllNeutral (x ∷ xs) → eqb b x ≡ true → Fits outside b 0 κ (go (spelt xs) κ)
  fits_spelt κ x [] g h = calm κ (subst (λ (y : ℕ). Neutral y) (sym (eqb-true b x h)) g.0) done refl tt
  fits_spelt κ x (y ∷ ys) g h = calm κ (subst (λ (y : ℕ). Neutral y) (sym (eqb-true b x h)) g.0) (word y ys) refl g.1

  pub fits_step : (m : Mode) → Good m → (κ : Stack) → Fits (in_string m) b (in_mode m) κ (step m b κ)
  unfolding mode_after depth_after
  fits_step val g κ = fits_space b κ val refl tt (begin b κ) (fits_begin b κ)
  fits_step first g κ =
      fits_space b κ first refl tt (cond (eqb b 93) (shut κ) (begin b κ))
      (alt (eqb b 93) (shut κ) (begin b κ) (λ h. fits_shut b 93 h refl (λ n. refl) κ) (λ _. fits_begin b κ))
  fits_step done g κ = fits_after b κ
  fits_step key0 g κ =
      fits_space b κ key0 refl tt (cond (eqb b 125) (shut κ) (one (eqb b 34) (str as_key plain) κ))
      (alt (eqb b 125) (shut κ) (one (eqb b 34) (str as_key plain) κ) (λ h. fits_shut b 125 h refl (λ n. refl) κ) (λ _. only (eqb b 34) (str as_key plain) κ (λ h. quoted κ as_key h)))
  fits_step key g κ = fits_space b κ key refl tt (one (eqb b 34) (str as_key plain) κ) (only (eqb b 34) (str as_key plain) κ (λ h. quoted κ as_key h))
  fits_step colon g κ =
      fits_space b κ colon refl tt (one (eqb b 58) val κ)
      (only (eqb b 58) val κ (λ h. calm κ (neutral (λ x. eqb x 58) b h refl refl refl refl refl) val refl tt))
  fits_step (word x xs) g κ = only (eqb b x) (spelt xs) κ (λ h. fits_spelt κ x xs g h)
  fits_step (num n) g κ = fits_number b κ n
  fits_step (str w i) g κ = fits_text b w κ i g
