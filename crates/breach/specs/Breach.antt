-- Where in the text a string breaks a rule for names: where refusal 7 stands (request A2). A rule is a test of strings.
-- Assumes nothing.
use Rattle.std.specs.Prelude.{ℕ, zero, suc, ◌+◌, ◌≡◌, Bool, true, false, not, cond, ◌&&◌, List, [], ◌++◌, eqb, length}
use Rattle.ground.specs.Bytes.{byte_at}
use Rattle.name.specs.Begin.{Begins, can_begin}
use Rattle.view.specs.Strings.{is_stop}
use Rattle.breach.specs.Characters.{character_at}

-- ---- the rule, in 02's words

-- the characters of a string from p up to q; their bytes are s
pub data Characters (t : List ℕ) (p : ℕ) : ℕ → List ℕ → Type 0 where
  none : Characters t p p []
  more : {q : ℕ} {s : List ℕ} → Characters t p q s → is_stop (byte_at t q) ≡ false
      → Characters t p (character_at t q).next (s ++ (character_at t q).bytes)

-- The string whose opening quote is at q breaks the rule at p: there stands the first character such that no string that keeps the rule
-- begins with the characters up to and with it, or, if there is none, the closing quote. What begins with more begins with less, so the
-- first is the one before which a string can be begun.
pub record BreaksAt (keeps : List ℕ → Bool) (t : List ℕ) (q p : ℕ) : Type 0 where
  -- some string that keeps the rule begins with the characters before p,
  pub before : List ℕ
  pub characters : Characters t (q + 1) p before
  pub begun : Begins keeps before
  -- and none with those up to and with the one at p;
  pub broken : is_stop (byte_at t p) ≡ false → Begins keeps (before ++ (character_at t p).bytes) → ⊥
  -- or at p stands the closing quote, too soon
  pub ended : is_stop (byte_at t p) ≡ true → keeps before ≡ false

-- ---- the same as a function: there is one such place, and this is it (`breaks`, `breaks_there`)

-- on from p, behind the characters `before`: past every character that a string that keeps the rule can go on with. There are no more
-- characters than the text has bytes
unfoldable pub breach_from : (List ℕ → Bool) → List ℕ → ℕ → List ℕ → ℕ → ℕ
breach_from keeps t zero before p = p
breach_from keeps t (suc n) before p =
    let on = before ++ (character_at t p).bytes in
    cond (not (is_stop (byte_at t p)) && can_begin keeps on) (breach_from keeps t n on (character_at t p).next) p

-- of the string whose opening quote is at q; where there is no string, q itself
unfoldable pub breach_at : (List ℕ → Bool) → List ℕ → ℕ → ℕ
breach_at keeps t q = cond (eqb (byte_at t q) 34) (breach_from keeps t (suc (length t)) [] (q + 1)) q
